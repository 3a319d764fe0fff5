-- A session of a side that is asked at hand and one by mail, to which others write.
use Rattle.std.specs.Prelude.{◌≡◌, ℕ, true, false, List, Ok, Option, Some, None, flat_map}
use Rattle.mvd_site.specs.Held.{AreHeld, States}
use Rattle.mvd_peer.specs.Sides.{Two}
use Rattle.mvd_sync.specs.Machines.{HasNext, Starts}
use Rattle.mvd_peer.specs.Asking.{Wanted, asked}
use Rattle.mvd_sync.specs.declared.asked.Step.{Step}
use Rattle.mvd_sync.specs.declared.report.SyncFault.{SyncFault}
use Rattle.mvd_peer.specs.declared.window.Told.{Told}
use Rattle.mvd_peer.specs.declared.window.Told.TheVariants as told
use Rattle.mvd_meet.specs.Callers.{CallerTells, asked_of_caller, questions_at}
use Rattle.mvd_meet.specs.Meetings.{AsksUntil, MeetingHears, MeetingSteps}
use Rattle.mvd_meet.specs.Nears.{NearTells, asked_near, asked_of_near}
use Rattle.mvd_meet.specs.declared.caller.Caller.{Caller}
use Rattle.mvd_meet.specs.declared.near.Near.{Near}
use Rattle.mvd_meet.specs.declared.stepping.Course.TheVariants as course
use Rattle.mvd_meet.specs.declared.stepping.Meeting.{Meeting}
use Rattle.mvd_live.specs.Runs.{LeadsTo, Standing, led_to}
use Rattle.mvd_live.specs.Told.{LiveTells}

-- an answer to each question, or nothing where nothing was asked; but no refusal in place of them, by which a session
-- ends
abbrev pub IsAnswered : Option Told → Type 0
IsAnswered None = Unit {0}
IsAnswered (Some (told.Refused refusal)) = ⊥
IsAnswered (Some other) = Unit {0}

-- WHAT CAME BY MAIL IS LIVE: whatever it answers of the window that was asked, a live side tells
abbrev pub IsLiveMail : ℕ → Wanted → Caller → States → List States → States → Type 0
IsLiveMail most w caller old moments new =
    (after : Caller) (told : Option Told) → CallerTells (asked_of_caller caller) caller after told → IsAnswered told
    → LiveTells most w told old moments new

-- and so what came at hand
abbrev pub IsLiveAtHand : ℕ → Wanted → Near → States → List States → States → Type 0
IsLiveAtHand most w near old moments new =
    (after : Near) (told : Option Told) → NearTells (asked_of_near near) near after told → IsAnswered told
    → LiveTells most w told old moments new

-- a session that waits for the answers to what a step asked, and what its two sides hold
pub record Waiting : Type 0 where
  pub meeting : Meeting
  pub step : Step
  pub local : States
  pub peer : States

-- the two sides, as a step found them and as it left them, and what either held at the moments of its answers
pub record Mail : Type 0 where
  pub near : Near
  pub far : Caller
  pub near' : Near
  pub far' : Caller
  pub locals : List States
  pub peers : List States

-- what came of both is live, and they came to hold this
pub record AreLive (most : Two ℕ ℕ) (old : Waiting) (mail : Mail) (local peer : States) : Type 0 where
  pub near : IsLiveAtHand most.local (asked old.step.local) mail.near old.local mail.locals local
  pub far : IsLiveMail most.peer (asked old.step.peer) mail.far old.peer mail.peers peer
  pub held : AreHeld local × AreHeld peer

-- a session begins: the first step asks, of two sides in form
pub record Sits (number : Option ℕ) (questions : ℕ) (begun : Meeting) (mail : Mail) (now : Waiting) : Type 0 where
  pub fresh : begun.began ≡ false
  pub starts : Starts number questions begun.machine
  pub steps : MeetingSteps begun mail.near mail.far now.meeting mail.near' mail.far' course.Asks
  pub asks : steps.asks.step ≡ now.step
  pub held : AreHeld now.local × AreHeld now.peer

-- a step takes what came, and asks what is next
pub record MailStep (most : Two ℕ ℕ) (old : Waiting) (mail : Mail) (new : Waiting) : Type 0 where
  pub began : old.meeting.began ≡ true
  pub steps : MeetingSteps old.meeting mail.near mail.far new.meeting mail.near' mail.far' course.Asks
  pub asks : steps.asks.step ≡ new.step
  pub live : AreLive most old mail new.local new.peer

-- the last step takes what came, and nothing is left to ask
pub record MailEnds (most : Two ℕ ℕ) (old : Waiting) (mail : Mail) (new : Standing) : Type 0 where
  pub meeting : Meeting
  pub began : old.meeting.began ≡ true
  pub steps : MeetingSteps old.meeting mail.near mail.far meeting mail.near' mail.far' course.Done
  pub live : AreLive most old mail new.local new.peer
  pub machine : new.machine ≡ meeting.machine

-- a step takes what came, and ends by a fault: either side was asked its part of what is next, or nothing
pub record MailBreaks (most : Two ℕ ℕ) (old : Waiting) (mail : Mail) (new : Waiting) (fault : SyncFault) : Type 0 where
  pub began : old.meeting.began ≡ true
  pub mid : Meeting
  pub near : Near
  pub far : Caller
  pub hears : MeetingHears old.meeting mail.near mail.far mid near far (Ok tt)
  pub next : HasNext mid.machine new.meeting.machine (Some new.step)
  pub asks : AsksUntil new.step fault near far mail.near' mail.far'
  pub live : AreLive most old mail new.local new.peer

-- a step asked neither side a question
abbrev pub AsksNoQuestion : Mail → Type 0
AsksNoQuestion mail =
    (asked_near mail.near' ≡ asked_near mail.near) × (questions_at mail.far' ≡ questions_at mail.far)

-- A SESSION BY MAIL, step after step
abbrev pub MailSteps : Two ℕ ℕ → Waiting → List (Mail × Waiting) → Type 0
MailSteps most old legs =
    LeadsTo (λ (now : Waiting) (leg : Mail × Waiting). MailStep most now leg.0 leg.1) (λ (leg : Mail × Waiting). leg.1)
    (λ (now : Waiting). Unit {0}) old legs

-- how it waits after these steps
abbrev pub waits_at : Waiting → List (Mail × Waiting) → Waiting
waits_at old legs = led_to (λ (leg : Mail × Waiting). leg.1) old legs

abbrev pub mail_locals : List (Mail × Waiting) → List States
mail_locals legs = flat_map (λ (leg : Mail × Waiting). leg.0.locals) legs

abbrev pub mail_peers : List (Mail × Waiting) → List States
mail_peers legs = flat_map (λ (leg : Mail × Waiting). leg.0.peers) legs

-- as a run has it before its first window
abbrev pub standing : Meeting → Waiting → Standing
standing begun now = record { machine = begun.machine; local = now.local; peer = now.peer }

-- the mail of the last of these steps
abbrev pub mail_at : Mail → List (Mail × Waiting) → Mail
mail_at first legs = led_to (λ (leg : Mail × Waiting). leg.0) first legs

-- what leaves and comes between two steps is no question: each side was asked as many as behind the step before
abbrev pub KeepsCount : Mail → Mail → Type 0
KeepsCount before mail =
    (asked_near mail.near ≡ asked_near before.near') × (questions_at mail.far ≡ questions_at before.far')

abbrev pub KeepsCounts : Mail → List (Mail × Waiting) → Type 0
KeepsCounts before legs =
    LeadsTo (λ (last : Mail) (leg : Mail × Waiting). KeepsCount last leg.0) (λ (leg : Mail × Waiting). leg.0)
    (λ (last : Mail). Unit {0}) before legs
