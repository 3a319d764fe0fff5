use Rattle.std.proofs.Common.{ap, ◌∙◌, ◌++◌, ℕ, List}
use Rattle.std.specs.Prelude.{string_bytes}
use Rattle.mvd_script.proofs.script.run_line.Goals as goal

pub returns-in_ok-push_str-in-Ok : goal.returns-in_ok-push_str-in-Ok
returns-in_ok-push_str-in-Ok c = (string_bytes c.run.new.out, c.in-Ok.ensures, c.in_ok-push_str-in-Ok.ensures.bytes ∙ ap (λ (t : List ℕ). string_bytes c.args.out.now ++ t) c.as_str.ensures.value)
