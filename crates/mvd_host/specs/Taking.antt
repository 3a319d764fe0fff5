-- The frames that are taken in one round.
use Rattle.std.specs.Prelude.{◌≡◌, ◌≢◌, ◌==◌, Bool, true, slice_index, ℕ, ◌+◌, ◌≤◌, ◌<◌, ◌⊎◌, List, [], ◌∷◌, ◌++◌, map, length, Result, Ok, Err, None, ⊤, Some, false, vec_len, vec_capacity, zip}
use Rattle.std.specs.List.{list_any}
use Rattle.mvd_dots.specs.declared.refusals.Refusal.{Refusal}
use Rattle.mvd_dots.specs.Answer.{IsAnswer}
use Rattle.mvd_wire.specs.declared.request.Request.{Request}
use Rattle.mvd_wire.specs.Frames.{FrameValue}
use Rattle.mvd_conn.specs.Guard.{IsShown}
use Rattle.mvd_conn.specs.History.{History, after_next}
use Rattle.mvd_site.specs.Held.{States}
use Rattle.mvd_host.specs.Hosts.{IfClient, client_in}
use Rattle.mvd_host.specs.Weights.{AreHeavy, weights_in}
use Rattle.mvd_host.specs.Course.{BothClients, IsOut, MayGoOn, NoneMoved, asked_by, own}
use Rattle.mvd_host.specs.declared.taking.Taken.{Taken}

-- what frames of clients are that ask nothing, and what each is told: why it does not, or want of memory
abbrev pub AreFaults : List (ℕ × Result Request Refusal) → List (ℕ × Refusal) → Type 0
AreFaults [] [] = ⊤
AreFaults [] (e ∷ es) = ⊥
AreFaults (f ∷ fs) [] = ⊥
AreFaults (f ∷ fs) (e ∷ es) = (e.0 ≡ f.0) × IsAnswer {T = Request} (Err e.1) f.1 × AreFaults fs es

-- of a connection, frames that ask these requests were taken, and then these, which ask nothing
pub record TakesOn (requests : List Request) (faulty : List (Result Request Refusal)) (old new : History) : Type 0 where
  pub frames : List FrameValue
  pub taken : new.taken ≡ old.taken ++ frames
  pub asked : map (asked_by new.guard) frames ≡ map (λ r. Ok r) requests ++ faulty
  pub answers : new.answers ≡ old.answers
  pub moved : NoneMoved old new
  pub shown : IsShown old.guard old.taken → IsShown new.guard new.taken
  pub goes_on : (frames ≡ []) ⊎ MayGoOn new.guard

-- nothing comes next
abbrev pub HasNoNext : History → Type 0
HasNoNext h = after_next h ≡ (false, h)

-- the requests that were taken, each with its client, and what the frames are that ask nothing
pub record HoldsTaken (requests : List (ℕ × Request)) (faulty : List (ℕ × Result Request Refusal)) (taken : Taken)
    : Type 0 where
  pub clients : taken.clients.items ≡ map (λ r. r.0) requests
  pub requests_are : taken.requests.items ≡ map (λ r. r.1) requests
  pub faults : AreFaults faulty taken.faults.items

-- each client's own requests and faults were taken of its connection
abbrev pub TakesFrames : List (ℕ × Request) → List (ℕ × Result Request Refusal) → List (ℕ × History) → List (ℕ × History)
    → Type 0
TakesFrames requests faulty old new =
    (n : ℕ) → BothClients (client_in old n) (client_in new n) (TakesOn (own n requests) (own n faulty))

-- frames of one client were taken
pub record TakesMore (client : ℕ) (old new : History) (before after : Taken) : Type 0 where
  pub requests : List Request
  pub faulty : List (Result Request Refusal)
  pub conn : TakesOn requests faulty old new
  pub holds : (asked : List (ℕ × Request)) (faults : List (ℕ × Result Request Refusal)) → HoldsTaken asked faults before →
      HoldsTaken (asked ++ map (λ r. (client, r)) requests) (faults ++ map (λ f. (client, f)) faulty) after

-- there is room for one frame more
pub record HasRoomToTake (taken : Taken) : Type 0 where
  pub clients : vec_len taken.clients + 1 ≤ vec_capacity taken.clients
  pub requests : vec_len taken.requests + 1 ≤ vec_capacity taken.requests
  pub faults : vec_len taken.faults + 1 ≤ vec_capacity taken.faults

-- what was taken is the same
pub record KeepsTaken (old new : Taken) : Type 0 where
  pub clients : new.clients.items ≡ old.clients.items
  pub requests : new.requests.items ≡ old.requests.items
  pub faults : new.faults.items ≡ old.faults.items

-- some frame was taken
abbrev pub IsMore : Taken → Taken → Type 0
IsMore before after =
    length before.clients.items + length before.faults.items < length after.clients.items + length after.faults.items

-- a frame was taken, or nothing comes next
abbrev pub EndsTaking : History → Taken → Taken → Type 0
EndsTaking new before after = IsMore before after ⊎ HasNoNext new

-- the turn of one client ends: a frame of it was taken, or one of it that is no request had been, or nothing comes next,
-- or the requests are heavy
abbrev pub EndsTurn : ℕ → List (ℕ × History) → Taken → Taken → Type 0 → Type 0
EndsTurn client new before after Heavy = IsMore before after
    ⊎ (list_any (λ fault. fault.0 == client) before.faults.items ≡ true)
    ⊎ IfClient (client_in new client) HasNoNext ⊎ Heavy

-- only requests of one client were taken
pub record TakesRequests (client : ℕ) (old new : History) (before after : Taken) : Type 0 where
  pub took : TakesMore client old new before after
  pub none : took.faulty ≡ []
  pub faults : after.faults.items ≡ before.faults.items

-- Frames of one client were taken, unless a frame of it that is no request had been. Nothing changed of any other
-- client
pub record TakesOf (client : ℕ) (old new : List (ℕ × History)) (before after : Taken) : Type 0 where
  pub requests : List Request
  pub faulty : List (Result Request Refusal)
  pub first : (asked : List (ℕ × Request)) (faults : List (ℕ × Result Request Refusal)) → HoldsTaken asked faults before
      → (own client faults ≡ []) ⊎ ((requests ≡ []) × (faulty ≡ []))
  pub one : BothClients (client_in old client) (client_in new client) (TakesOn requests faulty)
  pub none : client_in old client ≡ None → (requests ≡ []) × (faulty ≡ [])
  pub others : (q : ℕ) → (q == client) ≡ false → client_in new q ≡ client_in old q
  pub holds : (asked : List (ℕ × Request)) (faults : List (ℕ × Result Request Refusal)) → HoldsTaken asked faults before →
      HoldsTaken (asked ++ map (λ r. (client, r)) requests) (faults ++ map (λ f. (client, f)) faulty) after

-- frames of clients were taken, and this is what was taken
pub record TakesAllFrames (old new : List (ℕ × History)) (taken : Taken) : Type 0 where
  pub requests : List (ℕ × Request)
  pub faulty : List (ℕ × Result Request Refusal)
  pub holds : HoldsTaken requests faulty taken
  pub takes : TakesFrames requests faulty old new

-- what was held before is of none of the clients
abbrev pub AreApart : List (ℕ × Request) → List (ℕ × History) → Type 0
AreApart asks clients = (n : ℕ) (h : History) → client_in clients n ≡ Some h → own n asks ≡ []

-- what is held, as requests with their clients
abbrev pub held_in : Taken → List (ℕ × Request)
held_in taken = zip taken.clients.items taken.requests.items

-- and of the first of these clients alone: where there is no such client, or it is not looked at, nothing of it was
-- taken but what was held before; and all weighs as much as that, or more
pub record TakesOnly (asks : List (ℕ × Request)) (ready : List ℕ) (count : ℕ) (old new : List (ℕ × History))
    (taken : Taken) : Type 0 where
  pub all : TakesAllFrames old new taken
  pub none : (n : ℕ) → client_in old n ≡ None → (own n all.requests ≡ own n asks) × (own n all.faulty ≡ [])
  pub only : (n : ℕ) → IsOut n ready count → (own n all.requests ≡ own n asks) × (own n all.faulty ≡ [])
  pub same : (n : ℕ) → IsOut n ready count → client_in new n ≡ client_in old n
  pub weight : (states : States) → weights_in states (map (λ r. r.1) asks)
      ≤ weights_in states (map (λ r. r.1) all.requests)

-- a frame of this client was taken
abbrev pub HasTakenFrame : ℕ → List (ℕ × Request) → List (ℕ × Result Request Refusal) → Type 0
HasTakenFrame n requests faulty = (own n requests ≢ []) ⊎ (own n faulty ≢ [])

-- of each of the first of these clients a frame was taken, or nothing comes next of it, or what was taken is heavy
abbrev pub IsFair : States → List ℕ → ℕ → List (ℕ × Request) → List (ℕ × Result Request Refusal) → List (ℕ × History)
    → Type 0
IsFair states ready count requests faulty new = (i : ℕ) → i < count →
    HasTakenFrame (slice_index ready i) requests faulty ⊎ IfClient (client_in new (slice_index ready i)) HasNoNext
    ⊎ AreHeavy states requests

-- the clients were gone over, and where memory was not refused to one, that was fair
abbrev pub TakesFairly : States → Bool → List (ℕ × Request) → List ℕ → ℕ → List (ℕ × History) → List (ℕ × History)
    → Taken → Type 0
TakesFairly states refused asks ready count old new taken = (t : TakesOnly asks ready count old new taken)
    × (refused ≡ false → IsFair states ready count t.all.requests t.all.faulty new)

-- nothing was taken
abbrev pub IsNothingTaken : Taken → Type 0
IsNothingTaken taken = length taken.clients.items + length taken.faults.items ≡ 0

-- what was taken is there still
pub record ExtendsTaken (before after : Taken) : Type 0 where
  pub clients : length before.clients.items ≤ length after.clients.items
  pub faults : length before.faults.items ≤ length after.faults.items
