-- A session that failed.
use Rattle.std.proofs.Common.{◌≡◌, ℕ, ap, inl, inr}
use Rattle.mvd_meet.specs.declared.schedule.Schedule.{Schedule}
use Rattle.mvd_server.specs.Peerings.{FailsMeeting}
use Rattle.mvd_server.specs.declared.peering.Peering.{Peering}

-- what changed before is met as it would have been
pub keeps_news : (now : ℕ) (old : Peering) (new : Schedule) → FailsMeeting now old new → new.news ≡ old.schedule.news
keeps_news now old new fails = elim fails [
  | inl ends ↦ ends.news
  | inr again ↦ ap (λ (s : Schedule). s.news) again.1
]
