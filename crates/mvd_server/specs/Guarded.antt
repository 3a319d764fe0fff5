-- Who has to show a token.
use Rattle.std.specs.Prelude.{◌≡◌, ◌<◌, ℕ, true, List, slice_index, Option, Some, None, ⊤}
use Rattle.mvd_conn.specs.History.{History, new_history}
use Rattle.mvd_conn.specs.Passes.{has_pass}
use Rattle.mvd_conn.specs.declared.guard.Guard.{Guard}
use Rattle.mvd_conn.specs.declared.guard.Guard.TheVariants.{Asks, Knows, Left}
use Rattle.mvd_conn.specs.declared.passes.Pass.{Pass}
use Rattle.mvd_host.specs.Course.{MayGoOn}
use Rattle.mvd_host.specs.Hosts.{HostValue, IfClient, client_of}
use Rattle.mvd_server.specs.declared.talks.Kind.{Kind}
use Rattle.mvd_server.specs.declared.talks.Kind.TheVariants.{Frames, Http}

-- where there are passes, whoever comes has shown none
abbrev pub first_guard : Option (List Pass) → Option Guard
first_guard None = None
first_guard (Some passes) = Some Asks

-- a client of frames has to show a token in its first frame; over HTTP each request has to
abbrev pub IsGuardedBy : Kind → Option (List Pass) → Option History → Type 0
IsGuardedBy Frames passes client = client ≡ Some (new_history (first_guard passes))
IsGuardedBy Http passes client = ⊤

-- a client may have a turn: what it has shown is known now
abbrev pub IsKnownNow : Option (List Pass) → Option Guard → Type 0
IsKnownNow None guard = ⊤
IsKnownNow (Some passes) None = ⊤
IsKnownNow (Some passes) (Some Asks) = ⊥
IsKnownNow (Some passes) (Some (Knows pass)) = has_pass passes pass ≡ true
IsKnownNow (Some passes) (Some (Left pass)) = ⊥

-- it may not send more, or may have a turn
abbrev pub IsSettled : Option (List Pass) → Option Guard → Type 0
IsSettled passes guard = MayGoOn guard → IsKnownNow passes guard

-- the first of these clients have met the passes that are known
abbrev pub AreSettled : Option (List Pass) → List ℕ → ℕ → HostValue → Type 0
AreSettled passes ready count host =
    (i : ℕ) → i < count → IfClient (client_of host (slice_index ready i)) (λ h. IsSettled passes h.guard)
