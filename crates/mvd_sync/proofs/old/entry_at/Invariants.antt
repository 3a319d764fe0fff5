use Rattle.std.proofs.Common.{◌≡◌, ℕ, ◌<◌, get_or}
use Rattle.mvd_dots.specs.Entry.{EntryValue}
use Rattle.mvd_sync.proofs.old.entry_at.Given as goal

abbrev pub invariant-loop-entry : goal.invariant-loop-entry
invariant-loop-entry l = (k : ℕ) (d : EntryValue) → k < l.entry-index → (get_or l.entry-items k d).site ≡ l.site → ⊥
