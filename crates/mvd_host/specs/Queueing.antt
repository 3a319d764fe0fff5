-- The replies, each queued on its own client's connection.
use Rattle.std.specs.Prelude.{◌≡◌, ℕ, ◌+◌, ◌≤◌, List, [], ◌++◌, length, map}
use Rattle.mvd_dots.specs.declared.refusals.Refusal.{Refusal}
use Rattle.mvd_wire.specs.declared.reply.Reply.{Reply}
use Rattle.mvd_wire.specs.declared.reply.Reply.TheVariants.{Refused}
use Rattle.mvd_conn.specs.History.{History}
use Rattle.mvd_host.specs.Hosts.{IfClient, client_in}
use Rattle.mvd_host.specs.Course.{AreQueued, BothClients, NoneMoved, own}

-- replies were queued on a connection
pub record QueuesOn (replies : List Reply) (old new : History) : Type 0 where
  pub queued : List (List ℕ)
  pub answers : new.answers ≡ old.answers ++ queued
  pub told : AreQueued replies queued
  pub taken : new.taken ≡ old.taken
  pub moved : NoneMoved old new
  pub none : replies ≡ [] → new ≡ old

-- each client's own replies were queued on its connection, in order
abbrev pub QueuesReplies : List (ℕ × Reply) → List (ℕ × History) → List (ℕ × History) → Type 0
QueuesReplies replies old new = (n : ℕ) → BothClients (client_in old n) (client_in new n) (QueuesOn (own n replies))

-- as many frames of each client have no reply as it has replies here, or more
abbrev pub AreDue : {X : Type 0} → List (ℕ × X) → List (ℕ × History) → Type 0
AreDue replies clients =
    (n : ℕ) → IfClient (client_in clients n) (λ h. length h.answers + length (own n replies) ≤ length h.taken)

-- one refusal for each of the requests
abbrev pub refused_all : List ℕ → Refusal → List (ℕ × Reply)
refused_all clients refusal = map (λ n. (n, Refused refusal)) clients

-- the refusals of frames that are no requests
abbrev pub refused_faults : List (ℕ × Refusal) → List (ℕ × Reply)
refused_faults faults = map (λ e. (e.0, Refused e.1)) faults
