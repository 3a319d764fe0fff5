-- A session of a side that is asked at hand and one that is asked by mail.
use Rattle.std.specs.Prelude.{◌≡◌, ◌⊎◌, ℕ, true, false, Bool, Option, Some, None, Result, Ok, Err}
use Rattle.mvd_dots.specs.declared.refusals.Refusal.TheVariants.{Memory}
use Rattle.mvd_meet.specs.Callers.{CallerAsks, CallerTells, CannotAsk, asked_of_caller}
use Rattle.mvd_meet.specs.Nears.{CannotAskNear, NearAsks, NearTells, asked_of_near}
use Rattle.mvd_meet.specs.declared.caller.Caller.{Caller}
use Rattle.mvd_meet.specs.declared.near.Near.{Near}
use Rattle.mvd_meet.specs.declared.stepping.Course.{Course}
use Rattle.mvd_meet.specs.declared.stepping.Course.TheVariants as course
use Rattle.mvd_meet.specs.declared.stepping.Meeting.{Meeting}
use Rattle.mvd_sync.specs.Exchanges.{Exchanging}
use Rattle.mvd_sync.specs.Machines.{HasNext, Starts, TakesTold}
use Rattle.mvd_sync.specs.declared.asked.Step.{Step}
use Rattle.mvd_peer.specs.declared.window.Window.{Window}
use Rattle.mvd_sync.specs.declared.report.Report.{Report}
use Rattle.mvd_sync.specs.declared.report.SyncFault.{SyncFault}
use Rattle.mvd_sync.specs.declared.report.SyncFault.TheVariants.{Local, Peer}
use Rattle.mvd_sync.specs.declared.stage.Stage.TheVariants.{Failed}
use Rattle.mvd_peer.specs.declared.window.Told.{Told}

-- a session of a site of this number, in which nothing was asked
pub record OpensMeeting (number questions : ℕ) (meeting : Meeting) : Type 0 where
  pub machine : Starts (Some number) questions meeting.machine
  pub fresh : meeting.began ≡ false

-- what was done is told
pub record IsReportOf (work : Exchanging) (report : Report) : Type 0 where
  pub keys : report.keys ≡ work.keys
  pub refused : report.refused ≡ work.refused
  pub old : report.old ≡ work.older
  pub first : report.first_refused ≡ work.first_refused

abbrev pub ReportsOn : Meeting → Report → Type 0
ReportsOn meeting report = IsReportOf meeting.machine.work report

-- a side is asked a window, if there is one
abbrev pub AsksIf : Option Window → Caller → Caller → Type 0
AsksIf None old new = new ≡ old
AsksIf (Some window) old new = CallerAsks window old new

abbrev pub AsksNearIf : Option Window → Near → Near → Type 0
AsksNearIf None old new = new ≡ old
AsksNearIf (Some window) old new = NearAsks window old new

-- either side is asked what a step wants of it, and not what it wants of the other
pub record AsksBoth (step : Step) (near : Near) (far : Caller) (near' : Near) (far' : Caller) : Type 0 where
  pub local : AsksNearIf step.local near near'
  pub peer : AsksIf step.peer far far'

-- what both sides tell of what they were asked is what the machine takes
pub record TakesBoth (old : Meeting) (near : Near) (far : Caller) (new : Meeting) (near' : Near) (far' : Caller)
    (result : Result (Unit {0}) SyncFault) : Type 0 where
  pub mine : Option Told
  pub theirs : Option Told
  pub local : NearTells (asked_of_near near) near near' mine
  pub peer : CallerTells (asked_of_caller far) far far' theirs
  pub takes : TakesTold old.machine mine theirs new.machine result

-- the session begins: nothing was asked
pub record MeetingBegins (old : Meeting) (near : Near) (far : Caller) (new : Meeting) (near' : Near) (far' : Caller)
    (result : Result (Unit {0}) SyncFault) : Type 0 where
  pub machine : new.machine ≡ old.machine
  pub same_near : near' ≡ near
  pub same_far : far' ≡ far
  pub ok : result ≡ Ok tt

abbrev pub HearsIf : Bool → Meeting → Near → Caller → Meeting → Near → Caller → Result (Unit {0}) SyncFault → Type 0
HearsIf false = MeetingBegins
HearsIf true = TakesBoth

abbrev pub MeetingHears : Meeting → Near → Caller → Meeting → Near → Caller → Result (Unit {0}) SyncFault → Type 0
MeetingHears old near far new near' far' result =
    HearsIf old.began old near far new near' far' result × (new.began ≡ true)

-- what is next is asked; or it is done, and nothing is
pub record AsksStep (old : Meeting) (near : Near) (far : Caller)
    (new : Meeting) (near' : Near) (far' : Caller) : Type 0 where
  pub step : Step
  pub next : HasNext old.machine new.machine (Some step)
  pub asks : AsksBoth step near far near' far'

pub record MeetingIsDone (old : Meeting) (near : Near) (far : Caller)
    (new : Meeting) (near' : Near) (far' : Caller) : Type 0 where
  pub next : HasNext old.machine new.machine None
  pub same_near : near' ≡ near
  pub same_far : far' ≡ far

abbrev pub AsksNext : Meeting → Near → Caller → Meeting → Near → Caller → Course → Type 0
AsksNext old near far new near' far' course.Waits = ⊥
AsksNext old near far new near' far' course.Asks = AsksStep old near far new near' far'
AsksNext old near far new near' far' course.Done = MeetingIsDone old near far new near' far'

-- nothing was done
pub record MeetingStays (old : Meeting) (near : Near) (far : Caller)
    (new : Meeting) (near' : Near) (far' : Caller) : Type 0 where
  pub machine : new ≡ old
  pub same_near : near' ≡ near
  pub same_far : far' ≡ far

-- what was told was taken, and then this came
pub record MeetingGoes (old : Meeting) (near : Near) (far : Caller) (new : Meeting) (near' : Near) (far' : Caller)
    (course : Course) : Type 0 where
  pub mid : Meeting
  pub near_mid : Near
  pub far_mid : Caller
  pub hears : MeetingHears old near far mid near_mid far_mid (Ok tt)
  pub asks : AsksNext mid near_mid far_mid new near' far' course

-- A STEP OF A SESSION: the machine takes what both sides told of just what they were asked, and they are asked just
-- what the machine wants next
abbrev pub MeetingSteps : Meeting → Near → Caller → Meeting → Near → Caller → Course → Type 0
MeetingSteps old near far new near' far' course.Waits = MeetingStays old near far new near' far'
MeetingSteps old near far new near' far' course = MeetingGoes old near far new near' far' course

-- ---- a step that ends by a fault

-- a side cannot be asked
abbrev pub EitherCannot : Near → Caller → SyncFault → Type 0
EitherCannot near far (Local refusal) = CannotAskNear near refusal
EitherCannot near far (Peer refusal) = CannotAsk far refusal

-- why nothing more is asked: memory was refused, the session had failed so, or a side cannot be asked
abbrev pub AskFails : Meeting → Near → Caller → SyncFault → Type 0
AskFails old near far why =
    (why ≡ Local Memory) ⊎ ((old.machine.stage ≡ Failed why) ⊎ EitherCannot near far why)

-- neither side was asked
abbrev pub AsksNeither : Near → Caller → Near → Caller → Type 0
AsksNeither near far near' far' = (near' ≡ near) × (far' ≡ far)

-- a side refused its window: it was asked nothing, nor was the peer before it
abbrev pub AsksUntil : Step → SyncFault → Near → Caller → Near → Caller → Type 0
AsksUntil step (Local refusal) near far near' far' = AsksNeither near far near' far'
AsksUntil step (Peer refusal) near far near' far' = AsksNearIf step.local near near' × (far' ≡ far)

-- what is next is not asked of both: the machine fails, and neither is asked; or a side refuses what is next
abbrev pub AsksPart : Meeting → Near → Caller → Meeting → Near → Caller → SyncFault → Type 0
AsksPart old near far new near' far' fault =
    AsksNeither near far near' far'
    ⊎ ((step : Step) × HasNext old.machine new.machine (Some step) × AsksUntil step fault near far near' far')

-- what was told was taken, and then not all was asked, for a cause
pub record MeetingBreaks (old : Meeting) (near : Near) (far : Caller) (new : Meeting) (near' : Near) (far' : Caller)
    (fault : SyncFault) : Type 0 where
  pub mid : Meeting
  pub near_mid : Near
  pub far_mid : Caller
  pub hears : MeetingHears old near far mid near_mid far_mid (Ok tt)
  pub asks : AsksPart mid near_mid far_mid new near' far' fault
  pub why : AskFails mid near_mid far_mid fault

-- A STEP THAT ENDS BY A FAULT has asked no more than a step does: what both sides told is at fault, and neither is
-- asked; or that was taken, and of what the machine wants next at most the local side was asked its part
abbrev pub MeetingFails : Meeting → Near → Caller → Meeting → Near → Caller → SyncFault → Type 0
MeetingFails old near far new near' far' fault =
    MeetingHears old near far new near' far' (Err fault) ⊎ MeetingBreaks old near far new near' far' fault
