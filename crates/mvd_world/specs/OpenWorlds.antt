-- Sessions that are cut into windows, so that they run into each other and among writers: each window is a list of
-- steps of the machine.
use Rattle.std.specs.Prelude.{◌≡◌, ◌⊎◌, ◌+◌, ℕ, Bool, List, [], ◌∷◌, ◌++◌, length, slice_set}
use Rattle.std.specs.Prelude.{IfSome, IsSomeAnd, MatchBool, Option, Some, None, Result, Ok, Err, Vec}
use Rattle.std.specs.declared.alloc.Global.{Global}
use Rattle.std.specs.List.{slice_get}
use Rattle.mvd_dots.specs.declared.refusals.Refusal.{Refusal}
use Rattle.mvd_dots.specs.declared.refusals.Refusal.TheVariants.{BadBody, Memory}
use Rattle.mvd_keys.specs.State.{State}
use Rattle.mvd_keys.specs.Writes.{Key, state}
use Rattle.mvd_wire.specs.declared.reply.Digests.{Digests}
use Rattle.mvd_wire.specs.declared.reply.Reply.TheVariants.{Digests as Node_told, Done, Keys, Refused}
use Rattle.mvd_wire.specs.declared.request.Request.TheVariants.{Bucket, Node}
use Rattle.mvd_peer.specs.PushedStates.{Each}
use Rattle.mvd_peer.specs.Asking.{PageQuestion}
use Rattle.mvd_peer.specs.declared.window.Window.{Window}
use Rattle.mvd_peer.specs.declared.window.Window.TheVariants as wanted
use Rattle.mvd_peer.specs.declared.window.Told.{Told}
use Rattle.mvd_peer.specs.declared.window.Told.TheVariants as telling
use Rattle.mvd_sync.specs.Exchanges.{Exchanging}
use Rattle.mvd_sync.specs.Machines.{HasNext, Machining, Starts, TakesTold}
use Rattle.mvd_sync.specs.Tellings.{Page}
use Rattle.mvd_sync.specs.declared.asked.Step.{Step as Asking}
use Rattle.mvd_sync.specs.declared.meetings.Meeting.{Meeting}
use Rattle.mvd_sync.specs.declared.report.Report.{Report}
use Rattle.mvd_sync.specs.declared.report.SyncFault.{SyncFault}
use Rattle.mvd_sync.specs.declared.report.SyncFault.TheVariants.{Local}
use Rattle.mvd_sync.specs.declared.report.Side.{Side}
use Rattle.mvd_sync.specs.declared.report.Side.TheVariants.{Local as AtLocal, Peer as AtPeer}
use Rattle.mvd_sync.specs.declared.stage.Stage.{Stage}
use Rattle.mvd_sync.specs.declared.stage.Stage.TheVariants.{Carries, Failed}
use Rattle.mvd_world.specs.declared.acts.Act.{Act}
use Rattle.mvd_world.specs.declared.acts.Act.TheVariants.{Take, Begin, Go}
use Rattle.mvd_world.specs.declared.acts.Came.{Came}
use Rattle.mvd_world.specs.declared.acts.Came.TheVariants as coming
use Rattle.mvd_world.specs.declared.open_world.OpenSession.{OpenSession}
use Rattle.mvd_world.specs.declared.open_world.OpenWorld.{OpenWorld}
use Rattle.mvd_world.specs.declared.steps.Outcome.{Outcome}
use Rattle.mvd_world.specs.declared.steps.Outcome.TheVariants.{Replied, Sent}
use Rattle.mvd_world.specs.declared.steps.Step.{Step}
use Rattle.mvd_world.specs.declared.steps.Step.TheVariants.{Ask, Receive, Send, Session}
use Rattle.mvd_world.specs.declared.worlds.World.{World}
use Rattle.mvd_world.specs.Agreeing.{IsNoWrite}
use Rattle.mvd_world.specs.Machine.{Knowledge, MayStep, SentMessage, Setting, is_site, may_be, nothing_yet}
use Rattle.mvd_world.specs.Worlds.{IsWorld}

-- ---- a question is a step

-- what is told of an outcome: the answer, or the refusal; and 33 where it is neither
abbrev pub refusal_in : Outcome → Refusal
refusal_in (Replied (Refused refusal)) = refusal
refusal_in outcome = BadBody

abbrev pub node_in : Outcome → Result Digests Refusal
node_in (Replied (Node_told digests)) = Ok digests
node_in outcome = Err (refusal_in outcome)

abbrev pub page_in : Outcome → Result (List (Key × List ℕ) × Bool) Refusal
page_in (Replied (Keys keys more)) = Ok (keys, more)
page_in outcome = Err (refusal_in outcome)

abbrev pub page_of_told : Result Page Refusal → Result (List (Key × List ℕ) × Bool) Refusal
page_of_told (Ok page) = Ok (page.0.items, page.1)
page_of_told (Err refusal) = Err refusal

abbrev pub push_in : Outcome → Result (Unit {0}) Refusal
push_in (Replied Done) = Ok tt
push_in outcome = Err (refusal_in outcome)

-- the message at this place is this state of the key
pub record IsMessageAt (messages : List SentMessage) (index : ℕ) (pair : Key × State) : Type 0 where
  pub sending : SentMessage
  pub at : slice_get messages index ≡ Some sending
  pub of_key : pair.0 ≡ sending.key
  pub of_state : pair.1 ≡ state sending.key sending.writes

-- it was sent
abbrev pub WasSent : List SentMessage → Key × State → Type 0
WasSent messages pair = (index : ℕ) × IsMessageAt messages index pair

-- what is told of a state that was sent is the message that it became; memory may be refused for it all the same
abbrev pub TellsSent : List SentMessage → Outcome → Key → Result State Refusal → Type 0
TellsSent messages (Sent number) key (Ok s) =
    (index : ℕ) × (number ≡ index + 1) × IsMessageAt messages index (key, s)
TellsSent messages (Sent number) key (Err refusal) = refusal ≡ Memory
TellsSent messages outcome key told = told ≡ Err (refusal_in outcome)

-- a node or a page is asked for
abbrev pub AsksForNode : Setting → ℕ → Knowledge → List ℕ → Result Digests Refusal → Knowledge → Type 0
AsksForNode setting site before path told after =
    (outcome : Outcome) × MayStep setting before (Ask site (Node path)) outcome after × (told ≡ node_in outcome)

abbrev pub AsksForPage : Setting → ℕ → Knowledge → PageQuestion → Result Page Refusal → Knowledge → Type 0
AsksForPage setting site before q told after =
    (outcome : Outcome) × MayStep setting before (Ask site (Bucket q.0 q.1)) outcome after
    × (page_of_told told ≡ page_in outcome)

-- the state of a key is sent
abbrev pub AsksForState : Setting → ℕ → Knowledge → Key → Result State Refusal → Knowledge → Type 0
AsksForState setting site before key told after =
    (outcome : Outcome) × MayStep setting before (Send site key) outcome after
    × TellsSent after.messages outcome key told

-- what is pushed was sent, and is received
abbrev pub AsksToTake : Setting → ℕ → Knowledge → Key × State → Result (Unit {0}) Refusal → Knowledge → Type 0
AsksToTake setting site before pair told after =
    (index : ℕ) × (outcome : Outcome) × IsMessageAt before.messages index pair
    × MayStep setting before (Receive site (index + 1)) outcome after × (told ≡ push_in outcome)

-- a question, a state that is sent, or a message that comes
abbrev pub IsOfWindow : Step → Type 0
IsOfWindow (Ask site request) = Unit {0}
IsOfWindow (Send site key) = Unit {0}
IsOfWindow (Receive site message) = Unit {0}
IsOfWindow step = ⊥

-- each question is such a step
abbrev pub IsOneStep : {Q A : Type 0} → Setting → (Knowledge → Q → A → Knowledge → Type 0) → Type 0
IsOneStep {Q} {A} setting Asks = (before : Knowledge) (q : Q) (a : A) (after : Knowledge) → Asks before q a after
    → (step : Step) × (outcome : Outcome) × MayStep setting before step outcome after × IsOfWindow step

-- ---- a window is a list of steps

-- one question after the other
abbrev pub OneByOne : {Q A : Type 0} → (Knowledge → Q → A → Knowledge → Type 0) → Knowledge → List Q → List A
    → Knowledge → Type 0
OneByOne Asks before [] [] after = after ≡ before
OneByOne Asks before (q ∷ qs) (a ∷ answers) after =
    (between : Knowledge) × Asks before q a between × OneByOne Asks between qs answers after
OneByOne Asks before qs answers after = ⊥

-- all questions of a kind were asked; or memory was refused for their answers, and none was
pub data AllAreTold {Q A : Type 0} (as_told : Vec (Result A Refusal) Global → Told)
    (Asks : Knowledge → Q → Result A Refusal → Knowledge → Type 0) (before : Knowledge) (questions : List Q)
    (told : Told) (after : Knowledge) : Type 0 where
  all_asked_of : (answers : Vec (Result A Refusal) Global) → told ≡ as_told answers
      → OneByOne Asks before questions answers.items after → AllAreTold as_told Asks before questions told after
  no_room : told ≡ telling.Refused Memory → after ≡ before → AllAreTold as_told Asks before questions told after

-- whatever these questions push was sent
abbrev pub PushSent : {Q : Type 0} → (Q → List (Key × State)) → List Q → Knowledge → Type 0
PushSent pushes questions before = Each (λ q. Each (WasSent before.messages) (pushes q)) questions

abbrev pub AsksWindow : Setting → ℕ → Knowledge → Window → Told → Knowledge → Type 0
AsksWindow setting site before (wanted.Nodes paths) =
    AllAreTold (λ answers. telling.Nodes answers) (AsksForNode setting site) before paths.items
AsksWindow setting site before (wanted.Pages pages) =
    AllAreTold (λ answers. telling.Pages answers) (AsksForPage setting site) before pages.items
AsksWindow setting site before (wanted.Gets keys) =
    AllAreTold (λ answers. telling.States answers) (AsksForState setting site) before keys.items
AsksWindow setting site before (wanted.Pushes pairs) =
    AllAreTold (λ answers. telling.Pushes answers) (AsksToTake setting site) before pairs.items

-- A SITE IS ASKED a window, if there is one
abbrev pub AsksOneSite : Setting → ℕ → Knowledge → Option Window → Option Told → Knowledge → Type 0
AsksOneSite setting site before None told after = (told ≡ None) × (after ≡ before)
AsksOneSite setting site before (Some window) told after =
    IsSomeAnd told (λ t. AsksWindow setting site before window t after)

-- ONE WINDOW of a session: both sites are asked what its machine wants, and it takes what just they told
pub record OneWindow (setting : Setting) (local peer : ℕ) (before : Knowledge) (asking : Machining) (step : Asking)
    (machine : Machining) (result : Result (Unit {0}) SyncFault) (after : Knowledge) : Type 0 where
  pub between : Knowledge
  pub mine : Option Told
  pub theirs : Option Told
  pub local_side : AsksOneSite setting local before step.local mine between
  pub peer_side : AsksOneSite setting peer between step.peer theirs after
  pub takes : TakesTold asking mine theirs machine result

-- what the session did is told
pub record TellsWork (work : Exchanging) (report : Report) : Type 0 where
  pub keys : report.keys ≡ work.keys
  pub refused : report.refused ≡ work.refused
  pub old : report.old ≡ work.older
  pub first : report.first_refused ≡ work.first_refused

-- memory was refused, or the session had failed before
abbrev pub MayStop : Machining → SyncFault → Type 0
MayStop machine fault = (fault ≡ Local Memory) ⊎ (machine.stage ≡ Failed fault)

-- WHAT A GO COMES TO: a window, after which the session goes on (`has_gone`) or has failed (`has_failed`); it was done,
-- and nothing is asked (`is_done`); or it stops before anything is asked
pub data WindowsOn (setting : Setting) (local peer : ℕ) (machine : Machining) (before : Knowledge) (came : Came)
    (left : Option Machining) (after : Knowledge) : Type 0 where
  has_gone : (asking next : Machining) (step : Asking) → HasNext machine asking (Some step)
      → OneWindow setting local peer before asking step next (Ok tt) after → came ≡ coming.Went → left ≡ Some next
      → WindowsOn setting local peer machine before came left after
  has_failed : (asking next : Machining) (step : Asking) (fault : SyncFault) → HasNext machine asking (Some step)
      → OneWindow setting local peer before asking step next (Err fault) after → came ≡ coming.Failed fault
      → left ≡ None → WindowsOn setting local peer machine before came left after
  is_done : (asking : Machining) (report : Report) → HasNext machine asking None → TellsWork asking.work report
      → after ≡ before → came ≡ coming.Met report → left ≡ None
      → WindowsOn setting local peer machine before came left after
  has_stopped : (fault : SyncFault) → MayStop machine fault → after ≡ before → came ≡ coming.Failed fault → left ≡ None
      → WindowsOn setting local peer machine before came left after

-- ---- a world in which sessions are open

-- what is known, and the sessions that began, numbered from 1
pub record Scene : Type 0 where
  pub knowledge : Knowledge
  pub sessions : List OpenSession

abbrev pub no_scene : Scene
no_scene = record { knowledge = nothing_yet; sessions = [] }

-- a session begins, and nothing is asked
pub record BeginsOpen (before : Scene) (local peer number : ℕ) (after : Scene) : Type 0 where
  pub machine : Machining
  pub starts : Starts (Some local) 10000000 machine
  pub numbered : number ≡ length after.sessions
  pub sessions : after.sessions
      ≡ before.sessions ++ record { local = local; peer = peer; machine = Some machine } ∷ []
  pub knowledge : after.knowledge ≡ before.knowledge

-- it does, or memory was refused
abbrev pub MayBegin : Scene → ℕ → ℕ → Came → Scene → Type 0
MayBegin before local peer (coming.Began number) after = BeginsOpen before local peer number after
MayBegin before local peer (coming.Failed fault) after = (fault ≡ Local Memory) × (after ≡ before)
MayBegin before local peer came after = ⊥

-- there is no such session, or it has ended
abbrev pub HasEnded : List OpenSession → ℕ → Type 0
HasEnded sessions number = (index : ℕ) (session : OpenSession) → number ≡ index + 1
    → slice_get sessions index ≡ Some session → session.machine ≡ None

-- a session that is open goes on, and the others are as they were
pub data MayGo (setting : Setting) (before : Scene) (number : ℕ) (came : Came) (after : Scene) : Type 0 where
  had_ended : HasEnded before.sessions number → came ≡ coming.NoSuch → after ≡ before
      → MayGo setting before number came after
  goes_at : (index : ℕ) (session : OpenSession) (machine : Machining) (left : Option Machining) → number ≡ index + 1
      → slice_get before.sessions index ≡ Some session → session.machine ≡ Some machine
      → WindowsOn setting session.local session.peer machine before.knowledge came left after.knowledge
      → after.sessions ≡ slice_set before.sessions index (record session { machine = left })
      → MayGo setting before number came after

-- an act with what it came to
abbrev pub MayAct : Setting → Scene → Act → Came → Scene → Type 0
MayAct setting before (Take step) (coming.Took outcome) after =
    MayStep setting before.knowledge step outcome after.knowledge × (after.sessions ≡ before.sessions)
MayAct setting before (Begin local peer) came after =
    MatchBool (may_be (is_site setting) (length before.knowledge.messages) (Session local peer))
    (MayBegin before local peer came after) ((came ≡ coming.NoSuch) × (after ≡ before))
MayAct setting before (Go number) came after = MayGo setting before number came after
MayAct setting before act came after = ⊥

-- acts, one after the other
abbrev pub RunsActs : Setting → Scene → List Act → List Came → Scene → Type 0
RunsActs setting before [] [] after = after ≡ before
RunsActs setting before (act ∷ acts) (came ∷ cames) after =
    (between : Scene) × MayAct setting before act came between × RunsActs setting between acts cames after
RunsActs setting before acts cames after = ⊥

-- ---- acts are steps

-- a step is itself, a session that begins is none, and one that goes on is such steps
abbrev pub IsCutInto : Act → Came → List Step → List Outcome → Type 0
IsCutInto (Take step) (coming.Took outcome) steps outcomes = (steps ≡ step ∷ []) × (outcomes ≡ outcome ∷ [])
IsCutInto (Take step) came steps outcomes = ⊥
IsCutInto (Begin local peer) came steps outcomes = (steps ≡ []) × (outcomes ≡ [])
IsCutInto (Go number) came steps outcomes = Each IsOfWindow steps

-- ACTS THAT ARE CUT INTO STEPS, in their order
abbrev pub AreCutInto : List Act → List Came → List Step → List Outcome → Type 0
AreCutInto [] [] steps outcomes = (steps ≡ []) × (outcomes ≡ [])
AreCutInto (act ∷ acts) (came ∷ cames) steps outcomes =
    (first : List Step) × (later : List Step) × (told : List Outcome) × (more : List Outcome)
    × (steps ≡ first ++ later) × (outcomes ≡ told ++ more)
    × IsCutInto act came first told × AreCutInto acts cames later more
AreCutInto acts cames steps outcomes = ⊥

-- no put and no delete
abbrev pub IsNoWriting : Act → Type 0
IsNoWriting (Take step) = IsNoWrite step
IsNoWriting act = Unit {0}

-- ---- what a session is to push

-- what a side is to take in its turn was sent; in the local side's turn, what the peer is to take after it, too
abbrev pub AreSentTo : List SentMessage → Side → List (Key × State) → List Meeting → Type 0
AreSentTo messages AtLocal pairs meetings = Each (WasSent messages) pairs
    × Each (λ (m : Meeting). IfSome m.give (λ s. WasSent messages (m.key, s))) meetings
AreSentTo messages AtPeer pairs meetings = Each (WasSent messages) pairs

abbrev pub IsOfSent : List SentMessage → Stage → Type 0
IsOfSent messages (Carries walk turn count) =
    AreSentTo messages turn.side turn.pairs.items turn.meetings.items
IsOfSent messages other = Unit {0}

abbrev pub SessionIsOfSent : List SentMessage → OpenSession → Type 0
SessionIsOfSent messages session =
    IfSome session.machine (λ machine. IsOfSent messages machine.stage)

-- ---- the world

-- the world stands for what is known, and whatever its sessions are to push was sent
pub record IsOpenWorld (setting : Setting) (open_world : OpenWorld) (scene : Scene) : Type 0 where
  pub world : IsWorld setting open_world.world scene.knowledge
  pub sessions : scene.sessions ≡ open_world.sessions.items
  pub sent : Each (SessionIsOfSent scene.knowledge.messages) scene.sessions

-- from whatever the world stood for, it comes to stand for what the act leads to
abbrev pub ActsOpen : OpenWorld → OpenWorld → Act → Came → Type 0
ActsOpen old new act came =
    (setting : Setting) (before : Scene) → IsOpenWorld setting old before
    → (after : Scene) × (MayAct setting before act came after × IsOpenWorld setting new after)

-- where this is so of what the world stood for, it comes to stand for sets of which that holds
abbrev pub LeadsWhere : World → World → (Knowledge → Type 0) → (Setting → Knowledge → Knowledge → Type 0) → Type 0
LeadsWhere old new Where Tells =
    (setting : Setting) (before : Knowledge) → IsWorld setting old before → Where before
    → (after : Knowledge) × (Tells setting before after × IsWorld setting new after)

-- a run of these acts, which is a world and what they came to: from nothing known
abbrev pub LeadActs : Setting → List Act → OpenWorld × Vec Came Global → Type 0
LeadActs setting acts done =
    (end : Scene) × (RunsActs setting no_scene acts done.1.items end × IsOpenWorld setting done.0 end)
