-- What is told of a session with a peer.
use Rattle.std.specs.Prelude.{ℕ, ◌≡◌, ◌⊎◌, ◌+◌, ◌-◌, ◌^◌, ◌&&◌, Bool, true, false, List, [], ◌∷◌, ◌++◌, codes}
use Rattle.std.specs.Prelude.{min, nat_le, nat_lt, if◌then◌else◌}
use Rattle.std.specs.Fmt.{decimal}
use Rattle.std.specs.Net.Text.{socket_text}
use Rattle.std.specs.declared.net.socket_addr.SocketAddr.{SocketAddr}
use Rattle.mvd_dots.specs.Refusal.{name_of, number_of}
use Rattle.mvd_dots.specs.declared.refusals.Refusal.{Refusal}
use Rattle.mvd_server.specs.PeerCounted.{raised}
use Rattle.mvd_server.specs.declared.peer_news.Untold.{Untold}
use Rattle.mvd_sync.specs.declared.report.Report.{Report}

-- a count behind its name, unless it is none
abbrev pub some_text : List ℕ → ℕ → List ℕ
some_text name count = if nat_lt 0 count then codes " " ++ (name ++ (codes " " ++ decimal count)) else []

-- how many keys sessions exchanged, and how many were refused and how many older, where some were
abbrev pub peer_text : SocketAddr → Untold → List ℕ
peer_text address news =
    codes "peer " ++ (socket_text address ++ (codes " keys " ++ (decimal news.keys
    ++ (some_text (codes "refused") news.refused ++ (some_text (codes "older") news.older ++ codes "\n")))))

-- a refusal's number and name
abbrev pub refusal_text : Refusal → List ℕ
refusal_text refusal = decimal (number_of refusal) ++ 32 ∷ name_of refusal

-- a session failed
abbrev pub failed_text : SocketAddr → Refusal → List ℕ
failed_text address refusal =
    codes "peer " ++ (socket_text address ++ (codes " " ++ (refusal_text refusal ++ codes "\n")))

-- a session is done after one that failed
abbrev pub again_text : SocketAddr → List ℕ
again_text address = codes "peer " ++ (socket_text address ++ codes " again\n")

-- A LINE IS TOLD whole, or nothing is, where memory is refused
abbrev pub MayTell : List ℕ → List ℕ → List ℕ → Type 0
MayTell line old new = (new ≡ old ++ line) ⊎ (new ≡ old)

abbrev pub TellsIf : Bool → List ℕ → List ℕ → List ℕ → Type 0
TellsIf true line old new = MayTell line old new
TellsIf false line old new = new ≡ old

-- a session is done: its keys are told with those of the sessions before, and what it left in place of what they left
abbrev pub noted_with : Report → Untold → Untold
noted_with report old =
    if nat_lt 0 report.keys then record old {
      keys = raised old.keys report.keys;
      refused = report.refused;
      older = raised old.older report.old;
    }
    else old

-- unless that is not told
abbrev pub noted_unless : Bool → Report → Untold → Untold
noted_unless true report old = old
noted_unless false report old = noted_with report old

-- keys were exchanged, and it is time to tell them
abbrev pub is_due : ℕ → Untold → Bool
is_due now old = nat_lt 0 old.keys && nat_le old.next now

-- ONCE A SECOND AT MOST something is told, and then forgotten
abbrev pub told_at : ℕ → Untold → Untold
told_at now old =
    if is_due now old
    then record { keys = 0; refused = 0; older = 0; next = min (now + 1000) (2 ^ 64 - 1) }
    else old
