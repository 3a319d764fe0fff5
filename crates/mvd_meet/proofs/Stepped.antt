-- A step of a session: what was told is taken, and then what is next is asked.
use Rattle.std.proofs.Common.{inr}
use Rattle.std.specs.Prelude.{IfErr, IfOk, Result, Ok, Err}
use Rattle.mvd_meet.specs.Meetings.{AskFails, AsksNext, AsksPart, MeetingFails, MeetingHears, MeetingSteps}
use Rattle.mvd_meet.specs.declared.caller.Caller.{Caller}
use Rattle.mvd_meet.specs.declared.near.Near.{Near}
use Rattle.mvd_meet.specs.declared.stepping.Course.{Course}
use Rattle.mvd_meet.specs.declared.stepping.Course.TheVariants as course
use Rattle.mvd_meet.specs.declared.stepping.Meeting.{Meeting}
use Rattle.mvd_sync.specs.declared.report.SyncFault.{SyncFault}

module _ (old mid new : Meeting) (near near_mid near' : Near) (far far_mid far' : Caller) (hears : MeetingHears old near far mid near_mid far_mid (Ok tt)) where
  pub steps_on : (result : Result Course SyncFault) → IfOk result (AsksNext mid near_mid far_mid new near' far') → IfOk result (MeetingSteps old near far new near' far')
  steps_on (Ok course.Waits) asks = absurd asks
  steps_on (Ok course.Asks) asks = record { mid = mid; near_mid = near_mid; far_mid = far_mid; hears = hears; asks = asks }
  steps_on (Ok course.Done) asks = record { mid = mid; near_mid = near_mid; far_mid = far_mid; hears = hears; asks = asks }
  steps_on (Err fault) asks = tt

  pub breaks_on : (result : Result Course SyncFault) → IfErr result (AsksPart mid near_mid far_mid new near' far') → IfErr result (AskFails mid near_mid far_mid) → IfErr result (MeetingFails old near far new near' far')
  breaks_on (Ok course) part why = tt
  breaks_on (Err fault) part why = inr (record { mid = mid; near_mid = near_mid; far_mid = far_mid; hears = hears; asks = part; why = why })
