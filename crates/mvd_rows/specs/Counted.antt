-- The counts of updates and looks.
use Rattle.std.specs.Prelude.{◌≡◌, ℕ, ◌+◌, ◌≤◌}
use Rattle.mvd_count.specs.Counted.{counted}
use Rattle.mvd_rows.specs.declared.meters.Meter.{Meter}

pub record CountsUpdate (old new : Meter) : Type 0 where
  pub updates : new.updates ≡ counted old.updates 1
  pub looks : new.looks ≡ old.looks
  pub rises : old.updates ≤ new.updates

pub record CountsLook (old new : Meter) : Type 0 where
  pub updates : new.updates ≡ old.updates
  pub looks : new.looks ≡ counted old.looks 1
  pub rises : old.looks ≤ new.looks

-- at most so many updates and looks more, and no fewer than before
pub record Within (most_updates most_looks : ℕ) (old new : Meter) : Type 0 where
  pub updates : new.updates ≤ old.updates + most_updates
  pub looks : new.looks ≤ old.looks + most_looks
  pub least_updates : old.updates ≤ new.updates
  pub least_looks : old.looks ≤ new.looks

-- at most so many updates more, and no fewer of either than before
pub record WithinUpdates (most_updates : ℕ) (old new : Meter) : Type 0 where
  pub updates : new.updates ≤ old.updates + most_updates
  pub least_updates : old.updates ≤ new.updates
  pub least_looks : old.looks ≤ new.looks
