-- A session between two windows of questions, which knows no side.
use Rattle.std.specs.Prelude.{◌≡◌, ◌≢◌, ◌⊎◌, ◌≤◌, ◌<◌, ◌+◌, ◌^◌, ℕ, Bool, true, false, cond, List, [], ◌∷◌, ◌++◌, All}
use Rattle.std.specs.Prelude.{Contains, drop, length, map, max, take, Option, Some, None, IfSome, Result, Ok, Err, MatchResult, Vec}
use Rattle.std.specs.declared.alloc.Global.{Global}
use Rattle.mvd_dots.specs.declared.refusals.Refusal.{Refusal}
use Rattle.mvd_dots.specs.declared.refusals.Refusal.TheVariants.{BadBody, Memory, TooManyRequests}
use Rattle.mvd_keys.specs.State.{State}
use Rattle.mvd_peer.specs.PushedStates.{Each}
use Rattle.mvd_peer.specs.Sides.{is_of_key}
use Rattle.mvd_peer.specs.Asking.{Wanted, asked, no_question, only_gets, only_nodes, only_pages, only_pushes}
use Rattle.mvd_peer.specs.declared.window.Told.{Told}
use Rattle.mvd_sync.specs.Answers.{ListingValue}
use Rattle.mvd_sync.specs.Exchanges.{CountsDone, Exchanging, IsHeldByEither}
use Rattle.mvd_sync.specs.Fronts.{IsCut, share_in, front_told}
use Rattle.mvd_sync.specs.Level.{GoesDown, IsDown, Level, next_nodes}
use Rattle.mvd_sync.specs.Meetings.{ArePlans, done_of, held_keys, noted}
use Rattle.mvd_sync.specs.OneTurn.{BeginsTurn, IsSameTurn, untold}
use Rattle.mvd_sync.specs.Questions.{IsOfKey, IsWindow, TakesBudget}
use Rattle.mvd_sync.specs.Steps.{IsBoundedWindow, cut_wanted}
use Rattle.mvd_sync.specs.Tellings.{IsNoNode, IsNoPage, IsNodeOf, IsListingOf, IsRead, IsStateOf, never}
use Rattle.mvd_sync.specs.Tellings.{nodes_told, pages_told, pushes_told, states_told, unasked_told}
use Rattle.mvd_sync.specs.Weights.{next_most, weight}
use Rattle.mvd_sync.specs.Walking.{EndsTelling, GoesTo, IsTold, IsWalked, Walking, pages_next, pages_of}
use Rattle.mvd_sync.specs.declared.asked.Step.{Step}
use Rattle.mvd_sync.specs.declared.asking.Node.{Node}
use Rattle.mvd_sync.specs.declared.asking.Questions.{Questions}
use Rattle.mvd_sync.specs.declared.cursor.Entry.{Entry}
use Rattle.mvd_sync.specs.declared.meetings.Meeting.{Meeting}
use Rattle.mvd_sync.specs.declared.report.Side.{Side}
use Rattle.mvd_sync.specs.declared.report.Side.TheVariants.{Local as AtLocal, Peer as AtPeer}
use Rattle.mvd_sync.specs.declared.report.SyncFault.{SyncFault}
use Rattle.mvd_sync.specs.declared.report.SyncFault.TheVariants.{Local, Peer}
use Rattle.mvd_sync.specs.declared.stage.Stage.{Stage}
use Rattle.mvd_sync.specs.declared.stage.Stage.TheVariants.{Descends, Walks, Meets, Carries, Done, Failed}
use Rattle.mvd_sync.specs.declared.telling.Answers.{Answers}
use Rattle.mvd_sync.specs.declared.telling.Share.{Share}
use Rattle.mvd_sync.specs.declared.telling.Shares.{Shares}
use Rattle.mvd_sync.specs.declared.turn.Turn.{Turn}

-- the questions that are left for each side, the keys that wait and what was done, and what is asked next
pub record Machining : Type 0 where
  pub left : Questions
  pub work : Exchanging
  pub stage : Stage

-- ---- what is asked

abbrev pub is_same : Side → Side → Bool
is_same AtLocal AtLocal = true
is_same AtPeer AtPeer = true
is_same side other = false

-- what a side is asked next, if as many questions are left
abbrev pub wanted_at : Side → Stage → Wanted
wanted_at side (Descends level) = only_nodes (next_nodes level)
wanted_at side (Walks walk) = only_pages (pages_of side walk)
wanted_at side (Meets walk entries) = only_gets (held_keys side entries.items)
wanted_at side (Carries walk turn count) = only_pushes (cond (is_same turn.side side) (take count (untold turn)) [])
wanted_at side Done = no_question
wanted_at side (Failed fault) = no_question

-- how many questions these are
abbrev pub wanted_count : Side → Stage → ℕ
wanted_count side (Descends level) = length (next_nodes level)
wanted_count side (Walks walk) = length (pages_of side walk)
wanted_count side (Meets walk entries) = length (held_keys side entries.items)
wanted_count side (Carries walk turn count) = cond (is_same turn.side side) count 0
wanted_count side Done = 0
wanted_count side (Failed fault) = 0

-- A STEP ASKS each side what is next, as far as its questions reach, and not too much at once
pub record IsStep (now : Machining) (step : Step) : Type 0 where
  pub local : asked step.local ≡ cut_wanted now.left.local (wanted_at AtLocal now.stage)
  pub peer : asked step.peer ≡ cut_wanted now.left.peer (wanted_at AtPeer now.stage)
  pub bounded : IsBoundedWindow step.local × IsBoundedWindow step.peer

-- ---- without a question

-- it goes on without one
abbrev pub IsQuiet : Stage → Type 0
IsQuiet (Descends level) = IsDown level
IsQuiet (Walks walk) = pages_next walk.bucket walk.entry walk.rest ≡ []
IsQuiet (Meets walk entries) = ⊥
IsQuiet (Carries walk turn count) = length turn.pairs.items ≤ length turn.told.items
IsQuiet Done = ⊥
IsQuiet (Failed fault) = ⊥

-- a side is asked something
abbrev pub StageAsks : Stage → Type 0
StageAsks (Descends level) = IsDown level → ⊥
StageAsks (Walks walk) = pages_next walk.bucket walk.entry walk.rest ≢ []
StageAsks (Meets walk entries) = Unit {0}
StageAsks (Carries walk turn count) = length turn.told.items < length turn.pairs.items
StageAsks Done = ⊥
StageAsks (Failed fault) = ⊥

-- The walk has told a key, or none: one that differs waits, and the first that wait are exchanged where they are as
-- many as are exchanged at once
pub data SettlesFound (walk : Walking) (found : Option Entry) (old new : Exchanging) (stage : Stage) : Type 0 where
  none_found : found ≡ None → new ≡ old → stage ≡ Walks walk → SettlesFound walk found old new stage
  equal : (e : Entry) → found ≡ Some e → e.differs ≡ false → new ≡ old → stage ≡ Walks walk
      → SettlesFound walk found old new stage
  waits : (e : Entry) → found ≡ Some e → e.differs ≡ true → new ≡ record old { waiting = old.waiting ++ e ∷ [] }
      → (length new.waiting < 1000) × (length new.waiting < old.most) → stage ≡ Walks walk
      → SettlesFound walk found old new stage
  fills : (e : Entry) (entries : Vec Entry Global) → found ≡ Some e → e.differs ≡ true
      → old.most ≤ length (old.waiting ++ e ∷ []) → entries.items ≡ take old.most (old.waiting ++ e ∷ [])
      → 1 ≤ length entries.items → new ≡ record old { waiting = drop old.most (old.waiting ++ e ∷ []) }
      → stage ≡ Meets walk entries → SettlesFound walk found old new stage

-- a side's turn begins
pub record TurnBegins (walk : Walking) (side : Side) (meetings : List Meeting) (stage : Stage) : Type 0 where
  pub turn : Turn
  pub count : ℕ
  pub begun : BeginsTurn side meetings turn
  pub window : IsWindow (untold turn) count
  pub is : stage ≡ Carries walk turn count

-- the walk goes on to its next key; after the last those that wait are exchanged; where none waits the session is done
pub data FromWalk (work : Exchanging) (walk : Walking) (work' : Exchanging) (stage : Stage) : Type 0 where
  goes_on : (walk' : Walking) (found : Option Entry) → GoesTo walk found walk'
      → SettlesFound walk' found work work' stage
      → FromWalk work walk work' stage
  last : (entries : Vec Entry Global) → IsWalked walk → entries.items ≡ take work.most work.waiting
      → 1 ≤ length entries.items → work' ≡ record work { waiting = drop work.most work.waiting }
      → stage ≡ Meets walk entries → FromWalk work walk work' stage
  ends : IsWalked walk → work.waiting ≡ [] → work' ≡ record work { waiting = [] } → stage ≡ Done
      → FromWalk work walk work' stage

-- after the local side it is the peer's turn; after the peer's the keys are counted, and the walk goes on
pub data FromTurn (work : Exchanging) (walk : Walking) (turn : Turn) (work' : Exchanging) (stage : Stage) : Type 0 where
  turns : turn.side ≡ AtLocal → work' ≡ work
      → TurnBegins walk AtPeer (noted AtLocal turn.meetings.items turn.told.items) stage
      → FromTurn work walk turn work' stage
  counts : turn.side ≡ AtPeer → CountsDone (map done_of (noted AtPeer turn.meetings.items turn.told.items)) work work'
      → stage ≡ Walks walk → FromTurn work walk turn work' stage

-- ONE STEP WITHOUT A QUESTION
abbrev pub GoesAlone : Exchanging → Stage → Exchanging → Stage → Type 0
GoesAlone work (Descends level) work' stage' =
    (work' ≡ work) × (stage' ≡ Walks (record { rest = level.rest; bucket = None; later = []; entry = None }))
GoesAlone work (Walks walk) work' stage' = FromWalk work walk work' stage'
GoesAlone work (Carries walk turn count) work' stage' = FromTurn work walk turn work' stage'
GoesAlone work stage work' stage' = ⊥

-- SO MANY STEPS WITHOUT A QUESTION
pub data StageWent (work : Exchanging) (stage : Stage) : Exchanging → Stage → Type 0 where
  here : (work' : Exchanging) (stage' : Stage) → work' ≡ work → stage' ≡ stage → StageWent work stage work' stage'
  on : (mid work' : Exchanging) (stage1 stage' : Stage) → StageWent work stage mid stage1 → IsQuiet stage1
      → GoesAlone mid stage1 work' stage' → StageWent work stage work' stage'

-- ---- with what both sides told

-- both were read, and it goes on with them; or it ends by the first of the two that is not read
pub data ReadBoth {A B : Type 0} (Mine Theirs : Result (Vec A Global) Refusal → Type 0)
    (Goes : List A → List A → Result B SyncFault → Type 0) (result : Result B SyncFault) : Type 0 where
  both : (mine theirs : Vec A Global) → Mine (Ok mine) → Theirs (Ok theirs) → Goes mine.items theirs.items result
      → ReadBoth Mine Theirs Goes result
  of_local : (refusal : Refusal) → Mine (Err refusal) → result ≡ Err (Local refusal) → ReadBoth Mine Theirs Goes result
  of_peer : (mine : Vec A Global) (refusal : Refusal) → Mine (Ok mine) → Theirs (Err refusal)
      → result ≡ Err (Peer refusal) → ReadBoth Mine Theirs Goes result

-- a level goes down, as both sides told of its nodes
abbrev pub Descended : Level → List Node → List Node → Result Stage SyncFault → Type 0
Descended level mine theirs result = MatchResult result
    (λ stage. (after : Level) × GoesDown level mine theirs after × (stage ≡ Descends after))
    (λ fault. fault ≡ Local Memory)

-- the walk goes on with the pages that both told
abbrev pub Walked : Exchanging → Walking → Exchanging → List ListingValue → List ListingValue → Result Stage SyncFault
    → Type 0
Walked work walk work' mine theirs result = MatchResult result
    (λ stage. (after : Walking) × (found : Option Entry) × IsTold walk mine theirs found after
    × SettlesFound after found work work' stage) (EndsTelling walk mine theirs)

-- It is planned what each side is to take of the first keys, and the local one begins; the later ones wait before all
-- others (and by what the states weigh, how many keys are exchanged at once next)
abbrev pub Met : Exchanging → Walking → (first later : List Entry) → (limit : ℕ) → Exchanging
    → (mine theirs : List State) → Result Stage SyncFault → Type 0
Met work walk first later limit work' mine theirs result = MatchResult result
    (λ stage. (meetings : List Meeting) × ArePlans work.number first mine theirs meetings
    × TurnBegins walk AtLocal meetings stage
    × (work' ≡ record work {
      waiting = later ++ work.waiting;
      most = next_most limit (length first) (max (weight mine) (weight theirs));
    }))
    (λ fault. fault ≡ Local Memory)

-- The first keys of a window are met, by the answers to their gets alone; or memory was refused for those that wait
pub data MetFirst (work : Exchanging) (walk : Walking) (entries : List Entry) (count : ℕ) (answers : Answers)
    (work' : Exchanging) (result : Result Stage SyncFault) : Type 0 where
  met : ReadBoth (IsRead IsStateOf never (front_told AtLocal (take count entries) answers.mine)
      (share_in AtLocal (take count entries)))
      (IsRead IsStateOf never (front_told AtPeer (take count entries) answers.theirs)
      (share_in AtPeer (take count entries)))
      (Met work walk (take count entries) (drop count entries) count work') result
      → MetFirst work walk entries count answers work' result
  no_room : result ≡ Err (Local Memory) → MetFirst work walk entries count answers work' result

-- THE STATES OF A WINDOW WERE TOLD: all of its keys are met, or the first, where it is cut
pub data StatesHeard (work : Exchanging) (walk : Walking) (entries : List Entry) (shares : Shares) (answers : Answers)
    (work' : Exchanging) (result : Result Stage SyncFault) : Type 0 where
  whole : ((count : ℕ) → IsCut entries shares answers count → ⊥)
      → ReadBoth (IsRead IsStateOf never (states_told answers.mine) shares.local)
      (IsRead IsStateOf never (states_told answers.theirs) shares.peer) (Met work walk entries [] 1000 work') result
      → StatesHeard work walk entries shares answers work' result
  cut : (count : ℕ) → IsCut entries shares answers count → MetFirst work walk entries count answers work' result
      → StatesHeard work walk entries shares answers work' result

-- the side told of its pushes
pub record Pushed (walk : Walking) (turn : Turn) (told : Result (List (Result (Unit {0}) Refusal)) Refusal)
    (share : Share)
    (stage : Stage) : Type 0 where
  pub answers : List (Result (Unit {0}) Refusal)
  pub is : told ≡ Ok answers
  pub counted : length answers ≡ share.asked
  pub whole : share.wanted ≤ share.asked
  pub of_key : All IsOfKey answers
  pub after : Turn
  pub count : ℕ
  pub more : after.told.items ≡ turn.told.items ++ answers
  pub same : IsSameTurn turn after
  pub window : IsWindow (untold after) count
  pub goes : stage ≡ Carries walk after count

-- Or why it did not: it told a refusal in place of them; they are not as many as were asked (33); one of them is a
-- refusal of more than its key, or memory was refused; or they were told, but fewer were asked than were wanted (36)
pub data IsUnheard (told : Result (List (Result (Unit {0}) Refusal)) Refusal) (share : Share)
    (refusal : Refusal) : Type 0 where
  refused : told ≡ Err refusal → IsUnheard told share refusal
  of_number : (answers : List (Result (Unit {0}) Refusal)) → told ≡ Ok answers → (length answers ≡ share.asked → ⊥)
      → refusal ≡ BadBody → IsUnheard told share refusal
  of_answer : (answers : List (Result (Unit {0}) Refusal)) → told ≡ Ok answers
      → (refusal ≡ Memory) ⊎ (Contains answers (Err refusal) × (is_of_key refusal ≡ false))
      → IsUnheard told share refusal
  of_questions : (answers : List (Result (Unit {0}) Refusal)) → told ≡ Ok answers → share.asked < share.wanted
      → refusal ≡ TooManyRequests → IsUnheard told share refusal

-- the turn of one side goes on; or it ends by the other, which was not asked, or by this one
abbrev pub fault_at : Side → Refusal → SyncFault
fault_at AtLocal refusal = Local refusal
fault_at AtPeer refusal = Peer refusal

abbrev pub other_of : Side → Side
other_of AtLocal = AtPeer
other_of AtPeer = AtLocal

abbrev pub told_by_side : Side → Answers → Option Told
told_by_side AtLocal answers = answers.mine
told_by_side AtPeer answers = answers.theirs

abbrev pub share_of : Side → Shares → Share
share_of AtLocal shares = shares.local
share_of AtPeer shares = shares.peer

pub data CarriedOn (walk : Walking) (turn : Turn) (share : Share) (told other : Option Told)
    (result : Result Stage SyncFault) : Type 0 where
  goes : (stage : Stage) → unasked_told other ≡ Ok tt → Pushed walk turn (pushes_told told) share stage
      → result ≡ Ok stage
      → CarriedOn walk turn share told other result
  of_other : (refusal : Refusal) → unasked_told other ≡ Err refusal
      → result ≡ Err (fault_at (other_of turn.side) refusal) → CarriedOn walk turn share told other result
  of_side : (refusal : Refusal) → IsUnheard (pushes_told told) share refusal
      → result ≡ Err (fault_at turn.side refusal) → CarriedOn walk turn share told other result

-- WHAT BECOMES OF IT with what both sides told
abbrev pub HearsAt : Exchanging → Stage → Shares → Answers → Exchanging → Result Stage SyncFault → Type 0
HearsAt work (Descends level) shares answers work' result = (work' ≡ work)
    × ReadBoth (IsRead IsNodeOf IsNoNode (nodes_told answers.mine) shares.local)
    (IsRead IsNodeOf IsNoNode (nodes_told answers.theirs) shares.peer) (Descended level) result
HearsAt work (Walks walk) shares answers work' result =
    ReadBoth (IsRead IsListingOf IsNoPage (pages_told answers.mine) shares.local)
    (IsRead IsListingOf IsNoPage (pages_told answers.theirs) shares.peer) (Walked work walk work') result
HearsAt work (Meets walk entries) shares answers work' result =
    StatesHeard work walk entries.items shares answers work' result
HearsAt work (Carries walk turn count) shares answers work' result = (work' ≡ work)
    × CarriedOn walk turn (share_of turn.side shares) (told_by_side turn.side answers)
    (told_by_side (other_of turn.side) answers) result
HearsAt work Done shares answers work' result = ⊥
HearsAt work (Failed fault) shares answers work' result = ⊥

-- where nothing was asked, nothing is told
abbrev pub stays : Stage → Result (Unit {0}) Refusal → Result (Unit {0}) Refusal → Result Stage SyncFault
stays stage (Err refusal) theirs = Err (Local refusal)
stays stage (Ok mine) (Err refusal) = Err (Peer refusal)
stays stage (Ok mine) (Ok theirs) = Ok stage

-- the questions are taken from those that are left
pub record TakesShares (stage : Stage) (left : Questions) (left' : Questions) (shares : Shares) : Type 0 where
  pub local : TakesBudget left.local left'.local (wanted_count AtLocal stage) shares.local.asked
  pub peer : TakesBudget left.peer left'.peer (wanted_count AtPeer stage) shares.peer.asked
  pub wanted : (shares.local.wanted ≡ wanted_count AtLocal stage) × (shares.peer.wanted ≡ wanted_count AtPeer stage)

-- THE ANSWERS ARE TAKEN: nothing was asked, or it had failed; or the questions are spent, and it goes on or ends
pub data StageHears (left : Questions) (work : Exchanging) (stage : Stage) (answers : Answers) (left' : Questions)
    (work' : Exchanging) (result : Result Stage SyncFault) : Type 0 where
  quiet : (StageAsks stage → ⊥) → left' ≡ left → work' ≡ work
      → result ≡ stays stage (unasked_told answers.mine) (unasked_told answers.theirs)
      → StageHears left work stage answers left' work' result
  hears : (shares : Shares) → StageAsks stage → TakesShares stage left left' shares
      → HearsAt work stage shares answers work' result → StageHears left work stage answers left' work' result

-- the stage after it
abbrev pub stage_after : Result Stage SyncFault → Stage
stage_after (Ok stage) = stage
stage_after (Err fault) = Failed fault

-- ---- what is so of every machine

-- keys of which it is not yet counted that they were exchanged
abbrev pub in_flight : Stage → ℕ
in_flight (Carries walk turn count) = length turn.meetings.items
in_flight stage = 0

abbrev pub HasRoomLeft : Exchanging → Stage → Type 0
HasRoomLeft work stage = work.keys + work.refused + in_flight stage < 2 ^ 64

abbrev pub StageStands : Stage → Type 0
StageStands (Descends level) = Each (λ path. length path ≡ level.depth) level.rest
    × Each (λ path. length path ≡ level.depth + 1) level.below
StageStands (Walks walk) = IfSome walk.entry IsHeldByEither
StageStands (Meets walk entries) = IfSome walk.entry IsHeldByEither × (length entries.items ≤ 1000)
    × Each IsHeldByEither entries.items × (1 ≤ length entries.items)
StageStands (Carries walk turn count) = IfSome walk.entry IsHeldByEither × IsWindow (untold turn) count
    × (length turn.told.items ≤ length turn.pairs.items)
StageStands Done = Unit {0}
StageStands (Failed fault) = Unit {0}

-- keys of which the states are asked for
abbrev pub in_window : Stage → ℕ
in_window (Meets walk entries) = length entries.items
in_window stage = 0

-- each key that is counted took a question at least, fewer than a thousand wait, with those of a window at most a
-- thousand, and it stands so
pub record IsFitting (left : Questions) (work : Exchanging) (stage : Stage) : Type 0 where
  pub room : work.keys + work.refused + in_flight stage + left.local + left.peer ≤ 20000000
  pub short : length work.waiting < 1000
  pub fits : in_window stage + length work.waiting ≤ 1000
  pub held : Each IsHeldByEither work.waiting
  pub stands : StageStands stage

abbrev pub IsFit : Questions → Exchanging → Stage → Type 0
IsFit left work (Failed fault) = Unit {0}
IsFit left work stage = IsFitting left work stage

-- ---- a machine

-- a session of a site of this number, of which nothing was asked
pub record Starts (number : Option ℕ) (questions : ℕ) (now : Machining) : Type 0 where
  pub left : now.left ≡ record { local = questions; peer = questions }
  pub work : now.work ≡ record {
    number = number;
    waiting = [];
    most = 16;
    keys = 0;
    refused = 0;
    older = 0;
    first_refused = [];
  }
  pub stage : now.stage ≡ Descends (record { depth = 0; rest = [] ∷ []; below = [] })

-- what is asked now, or nothing where the session is done
abbrev pub AsksForNext : Machining → Option Step → Type 0
AsksForNext now None = now.stage ≡ Done
AsksForNext now (Some step) = IsStep now step × StageAsks now.stage

-- IT WENT ON without a question, as far as it could, and so it asks, or is done
pub record HasNext (old new : Machining) (step : Option Step) : Type 0 where
  pub left : new.left ≡ old.left
  pub went : StageWent old.work old.stage new.work new.stage
  pub loud : IsQuiet new.stage → ⊥
  pub asks : AsksForNext new step

abbrev pub stage_told : Result Stage SyncFault → Result (Unit {0}) SyncFault
stage_told (Ok stage) = Ok tt
stage_told (Err fault) = Err fault

-- IT TOOK THE ANSWERS, and goes on with them, or ended by a fault
pub record TakesTold (old : Machining) (mine theirs : Option Told) (new : Machining)
    (result : Result (Unit {0}) SyncFault) : Type 0 where
  pub after : Result Stage SyncFault
  pub hears : StageHears old.left old.work old.stage (record { mine = mine; theirs = theirs }) new.left new.work after
  pub stage : new.stage ≡ stage_after after
  pub is : result ≡ stage_told after
