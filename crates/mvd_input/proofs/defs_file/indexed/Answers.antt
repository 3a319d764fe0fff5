use Rattle.std.proofs.Common.{◌≡◌, ◌∙◌, refl}
use Rattle.std.proofs.lemmas.Result.{IfErr-weaker, on_ok_weaker}
use Rattle.mvd_input.specs.Definitions.{index_added}
use Rattle.mvd_rows.specs.Defs.{with_index}
use Rattle.mvd_input.proofs.Defined.{read_so}
use Rattle.mvd_input.proofs.defs_file.indexed.Goals as goal

pub returns : goal.returns
returns c =
    let same : index_added c.args.defs.now c.args.field.now ≡ with_index c.args.defs.now c.in_ok-read.field-0 = let read = read_so _ _ _ c.in_ok-read.ensures in rw (read.0, read.1) refl in
    record {
      ok = on_ok_weaker c.index.result (λ e. same ∙ e) c.index.ensures.ok;
      refused = IfErr-weaker c.index.result _ _ (λ refusal told else. same ∙ told else) c.index.ensures.refused;
      unchanged = c.index.ensures.unchanged;
    }
