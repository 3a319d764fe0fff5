use Rattle.std.specs.Prelude.{◌⊎◌, ◌≡◌, ◌<◌, length, None}
use Rattle.std.specs.Option.{option_copied, IsSome}
use Rattle.mvd_input.proofs.Lines.{left}
use Rattle.mvd_input.proofs.Passing.{ReadsOn}
use Rattle.mvd_input.proofs.pass_files.passes_in.Given as goal

abbrev pub invariant-loop-rest : goal.invariant-loop-rest
invariant-loop-rest l = record {
  reads : ReadsOn l.text (option_copied l.rest) l.passes.items;
  some : IsSome l.rest ⊎ (0 < length l.passes.items);
}

abbrev pub decreases-loop-rest : goal.decreases-loop-rest
decreases-loop-rest l = left (option_copied l.rest)
