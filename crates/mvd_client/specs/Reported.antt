-- What is printed of a session with a server, and of all that a site holds.
use Rattle.std.specs.Prelude.{ℕ, Bool, true, ◌≡◌, ◌⊎◌, List, [], ◌∷◌, ◌++◌, codes, nat_lt, if◌then◌else◌, Option, None, Some, Result, Ok, Err}
use Rattle.std.specs.Fmt.{decimal}
use Rattle.std.specs.Net.Text.{socket_text}
use Rattle.std.specs.Io.KnownBytes.{Appends}
use Rattle.hex.specs.Hex.{encode_lower}
use Rattle.mvd_client.specs.declared.meeting.Root.{Root}
use Rattle.mvd_print.specs.Text.{keys_text, root_text}
use Rattle.mvd_site.specs.Answer.{digests, node_digests}
use Rattle.mvd_site.specs.Held.{States}
use Rattle.mvd_site.specs.Sites.{SiteValue}
use Rattle.mvd_wire.specs.Frames.{AppendsFront}
use Rattle.mvd_dots.specs.declared.refusals.Refusal.{Refusal}
use Rattle.mvd_dots.specs.declared.refusals.Refusal.TheVariants.{Broken, Memory, WriteFailed}
use Rattle.mvd_input.specs.declared.fault.Fault.{Fault}
use Rattle.mvd_input.specs.declared.fault.Fault.TheVariants.{Stopped}
use Rattle.mvd_sync.specs.declared.report.Left.{Left}
use Rattle.mvd_sync.specs.declared.report.Report.{Report}
use Rattle.mvd_hint.specs.declared.hint.Hint.TheVariants as Hint
use Rattle.mvd_hint.specs.declared.hint.Stop.{Stop}

-- the digest of all that is held
abbrev pub root_in_states : States → List ℕ
root_in_states states = (node_digests (digests states) []).own

-- how many keys were refused, where some were
abbrev pub refused_keys_text : ℕ → List ℕ
refused_keys_text count = if nat_lt 0 count then codes "refused " ++ decimal count ++ codes "\n" else []

-- how many keys a session exchanged and refused, and the digest of all that the site holds then
abbrev pub session_text : Report → States → List ℕ
session_text report states = keys_text report.keys ++ (refused_keys_text report.refused ++ root_text (root_in_states states))

-- the first of these keys was refused so
abbrev pub IsOfFirst : List Left → Fault → Type 0
IsOfFirst [] fault = ⊥
IsOfFirst (left ∷ others) fault = fault ≡ Stopped left.refusal

-- where keys were left, a command is stopped with the refusal of the first of them
abbrev pub StopsLeft : Report → Result (Unit {0}) Stop → Type 0
StopsLeft report (Ok done) = report.first_refused ≡ []
StopsLeft report (Err stop) = (stop.hint ≡ Some Hint.Left) × IsOfFirst report.first_refused stop.fault

-- the root digest of a server, with its address
abbrev pub root_at_text : Root → List ℕ
root_at_text root =
    codes "root " ++ (socket_text root.address ++ (codes " " ++ (encode_lower root.digest ++ codes "\n")))

-- how many keys a session of two servers exchanged and refused, and the digest of all that each of them holds then
abbrev pub meeting_text : Report → Root → Root → List ℕ
meeting_text report near far =
    keys_text report.keys ++ (refused_keys_text report.refused ++ (root_at_text near ++ root_at_text far))

-- why there are no lines to print: memory was refused, or the site whose root they tell is broken
abbrev pub HasNoLines : Bool → Refusal → Type 0
HasNoLines broken refusal = (refusal ≡ Memory) ⊎ ((refusal ≡ Broken) × (broken ≡ true))

-- why not all was printed: there are no lines, and nothing was; or the writer failed behind a front of them
abbrev pub CutReport : List ℕ → Bool → Option (List ℕ) → Option (List ℕ) → Fault → Type 0
CutReport text broken out out' fault =
    (((refusal : Refusal) × (fault ≡ Stopped refusal) × HasNoLines broken refusal) × (out' ≡ out))
    ⊎ ((fault ≡ Stopped WriteFailed) × AppendsFront out out' text)

-- This is all printed of a session that left no key, and of one that left some: then the command is stopped with the
-- refusal of the first of them. Or it is stopped, without a hint, since not all could be printed
abbrev pub ReportsAs : List ℕ → Bool → Report → Option (List ℕ) → Option (List ℕ) → Result (Unit {0}) Stop → Type 0
ReportsAs text broken report out out' (Ok done) = (report.first_refused ≡ []) × Appends out out' text
ReportsAs text broken report out out' (Err stop) =
    ((stop.hint ≡ None) × CutReport text broken out out' stop.fault)
    ⊎ ((stop.hint ≡ Some Hint.Left) × IsOfFirst report.first_refused stop.fault × Appends out out' text)

abbrev pub Reports : Report → SiteValue → Option (List ℕ) → Option (List ℕ) → Result (Unit {0}) Stop → Type 0
Reports report site out out' result =
    ReportsAs (session_text report site.states) site.broken report out out' result
