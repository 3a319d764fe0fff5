-- What a command is stopped with whose file came to harm.
use Rattle.std.specs.Prelude.{ℕ, List, Some}
use Rattle.std.specs.Borrow.{Bor}
use Rattle.mvd_dots.specs.declared.refusals.Refusal.TheVariants.{Store}
use Rattle.mvd_hint.specs.declared.harm.Harm.{Harm}
use Rattle.mvd_hint.specs.declared.hint.Hint.TheVariants as hint
use Rattle.mvd_hint.specs.declared.hint.Stop.{Stop}
use Rattle.mvd_input.specs.declared.fault.Fault.TheVariants.{Stopped}

-- 21, and a hint that says what became of it
abbrev pub stop_at_harm : Bor (List ℕ) → Harm → Stop
stop_at_harm file harm = record { fault = Stopped Store; hint = Some (hint.Harmed file harm) }
