-- Whether a local state is older than what its peer saw of it.
use Rattle.std.specs.Prelude.{◌≡◌, ℕ, true, false, Option, Some, None}
use Rattle.std.specs.FinSet.{contains}
use Rattle.mvd_dots.specs.Dot.{DotValue}
use Rattle.mvd_keys.specs.State.{State}

-- the second state has seen a dot of this site that the first has not
abbrev pub HasUnseen : Option ℕ → State → State → Type 0
HasUnseen None mine theirs = ⊥
HasUnseen (Some site) mine theirs =
    (dot : DotValue) × (dot.site ≡ site) × (contains theirs.context dot ≡ true) × (contains mine.context dot ≡ false)
