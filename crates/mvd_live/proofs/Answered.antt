-- Where a session went on, each side answered, and told no refusal in place of its answers.
use Rattle.std.proofs.Common.{◌≡◌, List, Some, None, Option}
use Rattle.std.specs.Prelude.{Ok, Result}
use Rattle.mvd_dots.specs.declared.refusals.Refusal.{Refusal}
use Rattle.mvd_keys.specs.State.{State}
use Rattle.mvd_wire.specs.declared.reply.Digests.{Digests}
use Rattle.mvd_sync.specs.Exchanges.{Exchanging}
use Rattle.mvd_sync.specs.Machines.{HearsAt, Machining, StageAsks, TakesTold, both, cut as cut_at, goes, of_local, of_other, of_peer, of_side, other_of, stage_after, told_by_side, whole as uncut}
use Rattle.mvd_sync.specs.Tellings.{Page, nodes_told, pages_told, pushes_told, states_told, unasked_told}
use Rattle.mvd_sync.specs.declared.report.Side.{Side}
use Rattle.mvd_sync.specs.declared.report.Side.TheVariants.{Local as AtLocal, Peer as AtPeer}
use Rattle.mvd_sync.specs.declared.stage.Stage.{Stage}
use Rattle.mvd_sync.specs.declared.stage.Stage.TheVariants.{Descends, Walks, Meets, Carries, Done, Failed}
use Rattle.mvd_sync.specs.declared.telling.Answers.{Answers}
use Rattle.mvd_sync.specs.declared.telling.Shares.{Shares}
use Rattle.mvd_peer.specs.declared.window.Told.{Told}
use Rattle.mvd_peer.specs.declared.window.Told.TheVariants as told
use Rattle.mvd_live.specs.Mail.{IsAnswered}
use Rattle.mvd_live.proofs.Whole.{hears_ok}

nodes_answered : (t : Option Told) (xs : List (Result Digests Refusal)) → nodes_told t ≡ Ok xs → IsAnswered t
nodes_answered None xs is = tt
nodes_answered (Some (told.Nodes given)) xs is = tt
nodes_answered (Some (told.Pages given)) xs is = tt
nodes_answered (Some (told.States given)) xs is = tt
nodes_answered (Some (told.Pushes given)) xs is = tt
nodes_answered (Some (told.Refused refusal)) xs is = absurd (cc)

pages_answered : (t : Option Told) (xs : List (Result Page Refusal)) → pages_told t ≡ Ok xs → IsAnswered t
pages_answered None xs is = tt
pages_answered (Some (told.Nodes given)) xs is = tt
pages_answered (Some (told.Pages given)) xs is = tt
pages_answered (Some (told.States given)) xs is = tt
pages_answered (Some (told.Pushes given)) xs is = tt
pages_answered (Some (told.Refused refusal)) xs is = absurd (cc)

states_answered : (t : Option Told) (xs : List (Result State Refusal)) → states_told t ≡ Ok xs → IsAnswered t
states_answered None xs is = tt
states_answered (Some (told.Nodes given)) xs is = tt
states_answered (Some (told.Pages given)) xs is = tt
states_answered (Some (told.States given)) xs is = tt
states_answered (Some (told.Pushes given)) xs is = tt
states_answered (Some (told.Refused refusal)) xs is = absurd (cc)

pushes_answered : (t : Option Told) (xs : List (Result (Unit {0}) Refusal)) → pushes_told t ≡ Ok xs → IsAnswered t
pushes_answered None xs is = tt
pushes_answered (Some (told.Nodes given)) xs is = tt
pushes_answered (Some (told.Pages given)) xs is = tt
pushes_answered (Some (told.States given)) xs is = tt
pushes_answered (Some (told.Pushes given)) xs is = tt
pushes_answered (Some (told.Refused refusal)) xs is = absurd (cc)

unasked_answered : (t : Option Told) → unasked_told t ≡ Ok tt → IsAnswered t
unasked_answered None is = tt
unasked_answered (Some (told.Nodes given)) is = tt
unasked_answered (Some (told.Pages given)) is = tt
unasked_answered (Some (told.States given)) is = tt
unasked_answered (Some (told.Pushes given)) is = tt
unasked_answered (Some (told.Refused refusal)) is = absurd (cc)

-- both sides answered
abbrev pub BothAnswered : Answers → Type 0
BothAnswered answers = IsAnswered answers.mine × IsAnswered answers.theirs

by_side : (side : Side) (answers : Answers) → IsAnswered (told_by_side side answers) → IsAnswered (told_by_side (other_of side) answers) → BothAnswered answers
by_side AtLocal answers own other = (own, other)
by_side AtPeer answers own other = (other, own)

heard_answered : (work work' : Exchanging) (stage stage' : Stage) (shares : Shares) (answers : Answers) → HearsAt work stage shares answers work' (Ok stage') → BothAnswered answers
heard_answered work work' (Descends level) stage' shares answers (same, both mine theirs m s next) = (nodes_answered answers.mine m.answers m.is, nodes_answered answers.theirs s.answers s.is)
heard_answered work work' (Descends level) stage' shares answers (same, of_local refusal m is) = absurd (cc)
heard_answered work work' (Descends level) stage' shares answers (same, of_peer mine refusal m s is) = absurd (cc)
heard_answered work work' (Walks walk) stage' shares answers (both mine theirs m s next) = (pages_answered answers.mine m.answers m.is, pages_answered answers.theirs s.answers s.is)
heard_answered work work' (Walks walk) stage' shares answers (of_local refusal m is) = absurd (cc)
heard_answered work work' (Walks walk) stage' shares answers (of_peer mine refusal m s is) = absurd (cc)
heard_answered work work' (Meets walk entries) stage' shares answers (uncut none (both mine theirs m s next)) = (states_answered answers.mine m.answers m.is, states_answered answers.theirs s.answers s.is)
heard_answered work work' (Meets walk entries) stage' shares answers (uncut none (of_local refusal m is)) = absurd (cc)
heard_answered work work' (Meets walk entries) stage' shares answers (uncut none (of_peer mine refusal m s is)) = absurd (cc)
heard_answered work work' (Meets walk entries) stage' shares answers (cut_at count cut first) = (states_answered answers.mine cut.mine cut.from_local.is, states_answered answers.theirs cut.theirs cut.from_peer.is)
heard_answered work work' (Carries walk turn count) stage' shares answers (same, goes stage none p is) =
    by_side turn.side answers (pushes_answered (told_by_side turn.side answers) p.answers p.is) (unasked_answered (told_by_side (other_of turn.side) answers) none)
heard_answered work work' (Carries walk turn count) stage' shares answers (same, of_other refusal none is) = absurd (cc)
heard_answered work work' (Carries walk turn count) stage' shares answers (same, of_side refusal why is) = absurd (cc)
heard_answered work work' Done stage' shares answers never = absurd never
heard_answered work work' (Failed fault) stage' shares answers never = absurd never

-- A SESSION THAT ASKED AND WENT ON was answered
pub both_answered : (now after : Machining) (mine theirs : Option Told) → StageAsks now.stage → TakesTold now mine theirs after (Ok tt) → IsAnswered mine × IsAnswered theirs
both_answered now after mine theirs asks takes =
    let answers : Answers = record { mine = mine; theirs = theirs } in
    let t = hears_ok takes.after now.left now.work now.stage answers after.left after.work takes.hears takes.is asks in
    heard_answered now.work after.work now.stage (stage_after takes.after) t.0 answers t.2
