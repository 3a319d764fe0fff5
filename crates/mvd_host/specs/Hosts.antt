-- The connections of many clients, and what calls on one of them make of it.
use Rattle.std.specs.Prelude.{◌≡◌, ℕ, ◌+◌, ◌<◌, ◌≤◌, ◌⊎◌, ◌==◌, if◌then◌else◌, List, [], length, Option, Some, None, ⊤}
use Rattle.std.specs.Ordering.{nat_cmp}
use Rattle.std.specs.BTreeMap.{is_at}
use Rattle.std.specs.Map.{lookup, set_value, remove_entry}
use Rattle.mvd_conn.specs.History.{History, new_history}
use Rattle.mvd_conn.specs.declared.guard.Guard.{Guard}
use Rattle.mvd_host.specs.AtHand.{first_at_hand}

-- each client's number with its connection, and the next client's number
pub record HostValue : Type 0 where
  pub clients : List (ℕ × History)
  pub admitted : ℕ

-- the most clients at once
abbrev pub clients_most : ℕ
clients_most = 10000

abbrev pub new_host : HostValue
new_host = record { clients = []; admitted = 0 }

-- the connection of the client of this number, if there is one
abbrev pub client_in : List (ℕ × History) → ℕ → Option History
client_in clients n = lookup (is_at (nat_cmp n)) clients

abbrev pub client_of : HostValue → ℕ → Option History
client_of host n = client_in host.clients n

-- this is true of the client's connection, if there is one
abbrev pub IfClient : Option History → (History → Type 0) → Type 0
IfClient None P = ⊤
IfClient (Some h) P = P h

-- there is such a client, and this is true of its connection
abbrev pub IsClient : Option History → (History → Type 0) → Type 0
IsClient None P = ⊥
IsClient (Some h) P = P h

-- a client's connection is this one
abbrev pub with_client : HostValue → ℕ → History → HostValue
with_client host n h = record host { clients = set_value (is_at (nat_cmp n)) host.clients h }

-- a client's connection was altered so; where there is no such client, nothing was
abbrev pub altered_if : HostValue → ℕ → Option History → (History → History) → HostValue
altered_if host n None f = host
altered_if host n (Some h) f = with_client host n (f h)

abbrev pub altered : HostValue → ℕ → (History → History) → HostValue
altered host n f = altered_if host n (client_of host n) f

abbrev pub without_client : HostValue → ℕ → HostValue
without_client host n = record host { clients = remove_entry (is_at (nat_cmp n)) host.clients }

-- a client comes, with a new connection, which may have a guard, and a number of its own; or there is no place for it
pub record AdmitsOne (guard : Option Guard) (old new : HostValue) (n : ℕ) : Type 0 where
  pub number : n ≡ old.admitted
  pub next : new.admitted ≡ old.admitted + 1
  pub below : n < first_at_hand
  pub few : length old.clients < clients_most
  pub more : length new.clients ≡ length old.clients + 1
  pub clients : (q : ℕ) → client_of new q ≡ (if q == n then Some (new_history guard) else client_of old q)

abbrev pub Admits : Option Guard → HostValue → Option ℕ → HostValue → Type 0
Admits guard old None new = (new ≡ old) × ((clients_most ≤ length old.clients) ⊎ (old.admitted ≡ first_at_hand))
Admits guard old (Some n) new = AdmitsOne guard old new n

-- a client goes, if there is such a one, and the others stay
pub record ClientLeaves (old : HostValue) (n : ℕ) (new : HostValue) : Type 0 where
  pub clients : (q : ℕ) → client_of new q ≡ (if q == n then None else client_of old q)
  pub admitted : new.admitted ≡ old.admitted

-- The clients' numbers were given, none of them is of a client at hand, and each frame that was taken of one was
-- answered
pub record AreKept (clients : List (ℕ × History)) (admitted : ℕ) : Type 0 where
  pub given : (n : ℕ) (h : History) → client_in clients n ≡ Some h → n < admitted
  pub below : admitted ≤ first_at_hand
  pub answered : (n : ℕ) (h : History) → client_in clients n ≡ Some h → length h.answers ≡ length h.taken
