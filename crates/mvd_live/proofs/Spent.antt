-- The questions that a session asked, and those that it has left, are all that it may ask.
use Rattle.std.proofs.Common.{◌≡◌, inl, inr, ℕ, ◌+◌, ◌≤◌, true, false, cond, List, [], ◌∷◌, length, take, refl, sym, ap, subst, ◌∙◌, arith, Option}
use Rattle.std.specs.Prelude.{Ok, min}
use Rattle.std.proofs.lemmas.Bool.{cases_lt}
use Rattle.std.proofs.lemmas.List.{length-take}
use Rattle.mvd_keys.specs.State.{State}
use Rattle.mvd_keys.specs.Writes.{Key}
use Rattle.mvd_peer.specs.Sides.{Two}
use Rattle.mvd_sync.specs.Exchanges.{Exchanging}
use Rattle.mvd_sync.specs.Level.{next_nodes}
use Rattle.mvd_sync.specs.Machines.{CarriedOn, GoesAlone, HasNext, HearsAt, Machining, SettlesFound, StageWent, TurnBegins, both, counts, cut as cut_at, ends, equal, fills, goes, goes_on, here, is_same, last, met as met_first, no_room as no_place, none_found, of_local, of_other, of_peer, of_side, on, other_of, share_of, told_by_side, turns, waits, wanted_at, wanted_count, whole as uncut}
use Rattle.mvd_sync.specs.Meetings.{held_keys}
use Rattle.mvd_sync.specs.OneTurn.{untold}
use Rattle.mvd_sync.specs.Questions.{TakesBudget}
use Rattle.mvd_sync.specs.Steps.{cut_wanted}
use Rattle.mvd_peer.specs.Asking.{PageQuestion}
use Rattle.mvd_sync.specs.Walking.{Walking, pages_of}
use Rattle.mvd_sync.specs.declared.asked.Step.{Step}
use Rattle.mvd_sync.specs.declared.cursor.Entry.{Entry}
use Rattle.mvd_sync.specs.declared.meetings.Meeting.{Meeting}
use Rattle.mvd_sync.specs.declared.report.Side.{Side}
use Rattle.mvd_sync.specs.declared.report.Side.TheVariants.{Local as AtLocal, Peer as AtPeer}
use Rattle.mvd_sync.specs.declared.stage.Stage.{Stage}
use Rattle.mvd_sync.specs.declared.stage.Stage.TheVariants.{Descends, Walks, Meets, Carries, Done, Failed}
use Rattle.mvd_sync.specs.declared.telling.Answers.{Answers}
use Rattle.mvd_sync.specs.declared.telling.Share.{Share}
use Rattle.mvd_sync.specs.declared.telling.Shares.{Shares}
use Rattle.mvd_peer.specs.declared.window.Told.{Told}
use Rattle.mvd_sync.specs.declared.turn.Turn.{Turn}
use Rattle.mvd_live.specs.Few.{asked_local, asked_peer, questions_in}
use Rattle.mvd_live.specs.Runs.{StartsRun, Leg, RunsLegs, Standing}
use Rattle.mvd_live.proofs.Whole.{hears_ok}

-- ---- a window has no more pushes than are left of the turn

abbrev pub IsCut : Stage → Type 0
IsCut (Descends level) = Unit {0}
IsCut (Walks walk) = Unit {0}
IsCut (Meets walk entries) = Unit {0}
IsCut (Carries walk turn count) = count ≤ length (untold turn)
IsCut Done = Unit {0}
IsCut (Failed fault) = Unit {0}

cut_settles : (walk : Walking) (found : Option Entry) (old new : Exchanging) (stage : Stage) → SettlesFound walk found old new stage → IsCut stage
cut_settles walk found old new stage (none_found none same is) = subst IsCut (sym is) tt
cut_settles walk found old new stage (equal e some differs same is) = subst IsCut (sym is) tt
cut_settles walk found old new stage (waits e some differs same low is) = subst IsCut (sym is) tt
cut_settles walk found old new stage (fills e entries some differs full list one same is) = subst IsCut (sym is) tt

cut_begins : (walk : Walking) (side : Side) (ms : List Meeting) (stage : Stage) → TurnBegins walk side ms stage → IsCut stage
cut_begins walk side ms stage b = subst IsCut (sym b.is) b.window.within

cut_alone : (work : Exchanging) (stage : Stage) (work' : Exchanging) (stage' : Stage) → GoesAlone work stage work' stage' → IsCut stage'
cut_alone work (Descends level) work' stage' g = subst IsCut (sym g.1) tt
cut_alone work (Walks walk) work' stage' (goes_on walk' found g settles) = cut_settles walk' found work work' stage' settles
cut_alone work (Walks walk) work' stage' (last entries walked list one same is) = subst IsCut (sym is) tt
cut_alone work (Walks walk) work' stage' (ends walked none same is) = subst IsCut (sym is) tt
cut_alone work (Carries walk turn count) work' stage' (turns side same begins) = cut_begins walk AtPeer _ stage' begins
cut_alone work (Carries walk turn count) work' stage' (counts side adds is) = subst IsCut (sym is) tt
cut_alone work (Meets walk entries) work' stage' never = absurd never
cut_alone work Done work' stage' never = absurd never
cut_alone work (Failed fault) work' stage' never = absurd never

cut_went : (work : Exchanging) (stage : Stage) (work' : Exchanging) (stage' : Stage) → StageWent work stage work' stage' → IsCut stage → IsCut stage'
cut_went work stage work' stage' (here w s same is) cut = subst IsCut (sym is) cut
cut_went work stage work' stage' (on mid w stage1 s went quiet g) cut = cut_alone mid stage1 w s g

cut_carried : (walk : Walking) (turn : Turn) (share : Share) (told other : Option Told) (stage' : Stage) → CarriedOn walk turn share told other (Ok stage') → IsCut stage'
cut_carried walk turn share told other stage' (goes stage none p is) = let same : stage' ≡ stage = cc in subst IsCut (sym (same ∙ p.goes)) p.window.within
cut_carried walk turn share told other stage' (of_other refusal none is) = absurd (cc)
cut_carried walk turn share told other stage' (of_side refusal why is) = absurd (cc)

cut_hears : (work work' : Exchanging) (stage stage' : Stage) (shares : Shares) (answers : Answers) → HearsAt work stage shares answers work' (Ok stage') → IsCut stage'
cut_hears work work' (Descends level) stage' shares answers (same, both mine theirs m s (after, deeper, is)) = subst IsCut (sym is) tt
cut_hears work work' (Descends level) stage' shares answers (same, of_local refusal m is) = absurd (cc)
cut_hears work work' (Descends level) stage' shares answers (same, of_peer mine refusal m s is) = absurd (cc)
cut_hears work work' (Walks walk) stage' shares answers (both mine theirs m s (after, found, told, settled)) = cut_settles after found work work' stage' settled
cut_hears work work' (Walks walk) stage' shares answers (of_local refusal m is) = absurd (cc)
cut_hears work work' (Walks walk) stage' shares answers (of_peer mine refusal m s is) = absurd (cc)
cut_hears work work' (Meets walk entries) stage' shares answers (uncut none (both mine theirs m s (meetings, plans, begins, next))) = cut_begins walk AtLocal meetings stage' begins
cut_hears work work' (Meets walk entries) stage' shares answers (uncut none (of_local refusal m is)) = absurd (cc)
cut_hears work work' (Meets walk entries) stage' shares answers (uncut none (of_peer mine refusal m s is)) = absurd (cc)
cut_hears work work' (Meets walk entries) stage' shares answers (cut_at count cut (met_first (both mine theirs m s (meetings, plans, begins, next)))) = cut_begins walk AtLocal meetings stage' begins
cut_hears work work' (Meets walk entries) stage' shares answers (cut_at count cut (met_first (of_local refusal m is))) = absurd (cc)
cut_hears work work' (Meets walk entries) stage' shares answers (cut_at count cut (met_first (of_peer mine refusal m s is))) = absurd (cc)
cut_hears work work' (Meets walk entries) stage' shares answers (cut_at count cut (no_place is)) = absurd (cc)
cut_hears work work' (Carries walk turn count) stage' shares answers (same, carried) = cut_carried walk turn (share_of turn.side shares) (told_by_side turn.side answers) (told_by_side (other_of turn.side) answers) stage' carried
cut_hears work work' Done stage' shares answers never = absurd never
cut_hears work work' (Failed fault) stage' shares answers never = absurd never

-- ---- how many questions a window has

abbrev none_of_all : (X : Type 0) → List X
none_of_all X = []

none_of : (X : Type 0) (left : ℕ) → length (take left (none_of_all X)) ≡ 0
none_of X left = let n = length-take left (none_of_all X) in omega (arith, n)

pub cut_long : (side : Side) (left : ℕ) (stage : Stage) → IsCut stage → questions_in (cut_wanted left (wanted_at side stage)) ≡ min left (wanted_count side stage)
cut_long side left (Descends level) cut =
    let n = length-take left (next_nodes level) in
    let z = none_of (PageQuestion) left in
    let y = none_of (Key) left in
    let x = none_of (Key × State) left in
    omega (arith, n, z, y, x)
cut_long side left (Walks walk) cut =
    let n = length-take left (pages_of side walk) in
    let z = none_of (List ℕ) left in
    let y = none_of (Key) left in
    let x = none_of (Key × State) left in
    omega (arith, n, z, y, x)
cut_long side left (Meets walk entries) cut =
    let n = length-take left (held_keys side entries.items) in
    let z = none_of (List ℕ) left in
    let y = none_of (PageQuestion) left in
    let x = none_of (Key × State) left in
    omega (arith, n, z, y, x)
cut_long side left (Carries walk turn count) cut =
    let pushes = cond (is_same turn.side side) (take count (untold turn)) [] in
    let n = length-take left pushes in
    let m : length pushes ≡ cond (is_same turn.side side) count 0 =
    elim (is_same turn.side side) as (λ b. length (cond b (take count (untold turn)) []) ≡ cond b count 0) [ true ↦ (let k = length-take count (untold turn) in omega (arith, k, cut)) | false ↦ refl ] in
    let z = none_of (List ℕ) left in
    let y = none_of (PageQuestion) left in
    let x = none_of (Key) left in
    omega (arith, n, m, z, y, x)
cut_long side left Done cut =
    let w = none_of (List ℕ) left in
    let z = none_of (PageQuestion) left in
    let y = none_of (Key) left in
    let x = none_of (Key × State) left in
    omega (arith, w, z, y, x)
cut_long side left (Failed fault) cut =
    let w = none_of (List ℕ) left in
    let z = none_of (PageQuestion) left in
    let y = none_of (Key) left in
    let x = none_of (Key × State) left in
    omega (arith, w, z, y, x)

spent_one : (left left' wanted taken made : ℕ) → TakesBudget left left' wanted taken → made ≡ min left wanted → left ≡ made + left'
spent_one left left' wanted taken made b is = elim (cases_lt taken wanted) [
  | inl less ↦ let s = b.spent in let z = b.all less in omega (arith, s, z, less, is)
  | inr whole ↦ let s = b.spent in let m = b.most in omega (arith, s, m, whole, is)
]

-- ---- all windows

spent_run : (most : Two ℕ ℕ) (legs : List Leg) (old new : Standing) → IsCut old.machine.stage → RunsLegs most old legs new → (asked_local legs + new.machine.left.local ≡ old.machine.left.local) × (asked_peer legs + new.machine.left.peer ≡ old.machine.left.peer)
spent_run most [] old new cut run =
    let a : new.machine.left.local ≡ old.machine.left.local = λ i. (run.machine i).left.local in
    let b : new.machine.left.peer ≡ old.machine.left.peer = λ i. (run.machine i).left.peer in
    (omega (arith, a), omega (arith, b))
spent_run most (leg ∷ legs) old new cut run =
    let g = run.0 in
    let answers : Answers = record { mine = leg.mine; theirs = leg.theirs } in
    let t = hears_ok g.takes.after leg.asking.left leg.asking.work leg.asking.stage answers leg.after.machine.left leg.after.machine.work g.takes.hears g.takes.is g.next.some in
    let here = cut_went old.machine.work old.machine.stage leg.asking.work leg.asking.stage g.next.went cut in
    let next : IsCut leg.after.machine.stage = subst IsCut (sym g.takes.stage) (cut_hears leg.asking.work leg.after.machine.work leg.asking.stage _ t.0 answers t.2) in
    let rest = spent_run most legs leg.after new next run.1 in
    let n : questions_in leg.asks.local ≡ min leg.asking.left.local (wanted_count AtLocal leg.asking.stage) = ap questions_in g.next.local ∙ cut_long AtLocal leg.asking.left.local leg.asking.stage here in
    let m : questions_in leg.asks.peer ≡ min leg.asking.left.peer (wanted_count AtPeer leg.asking.stage) = ap questions_in g.next.peer ∙ cut_long AtPeer leg.asking.left.peer leg.asking.stage here in
    let x = spent_one leg.asking.left.local leg.after.machine.left.local (wanted_count AtLocal leg.asking.stage) t.0.local.asked (questions_in leg.asks.local) t.1.local n in
    let y = spent_one leg.asking.left.peer leg.after.machine.left.peer (wanted_count AtPeer leg.asking.stage) t.0.peer.asked (questions_in leg.asks.peer) t.1.peer m in
    let k : leg.asking.left.local ≡ old.machine.left.local = λ i. (g.next.left i).local in
    let j : leg.asking.left.peer ≡ old.machine.left.peer = λ i. (g.next.left i).peer in
    (omega (arith, x, k, rest.0), omega (arith, y, j, rest.1))

-- WHAT IS LEFT
pub spent_all : (number : Option ℕ) (questions : ℕ) (most : Two ℕ ℕ) (old new : Standing) (legs : List Leg) (asking : Machining) (step : Option Step) → StartsRun number questions old → RunsLegs most old legs new → HasNext new.machine asking step
    → (asked_local legs + asking.left.local ≡ questions) × (asked_peer legs + asking.left.peer ≡ questions)
spent_all number questions most old new legs asking step begins run next =
    let all = spent_run most legs old new (subst IsCut (sym begins.starts.stage) tt) run in
    let a : old.machine.left.local ≡ questions = λ i. (begins.starts.left i).local in
    let b : old.machine.left.peer ≡ questions = λ i. (begins.starts.left i).peer in
    let k : asking.left.local ≡ new.machine.left.local = λ i. (next.left i).local in
    let j : asking.left.peer ≡ new.machine.left.peer = λ i. (next.left i).peer in
    (omega (arith, all.0, a, k), omega (arith, all.1, b, j))
