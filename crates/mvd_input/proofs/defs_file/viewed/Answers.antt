use Rattle.std.proofs.Common.{◌≡◌, ◌∙◌, refl}
use Rattle.std.proofs.lemmas.Result.{IfErr-weaker, on_ok_weaker}
use Rattle.mvd_input.specs.Definitions.{view_added}
use Rattle.mvd_rows.specs.Defs.{with_view}
use Rattle.mvd_input.proofs.Defined.{read_so}
use Rattle.mvd_input.proofs.defs_file.viewed.Goals as goal

pub returns : goal.returns
returns c =
    let same : view_added c.args.defs.now c.args.view ≡ with_view c.args.defs.now (record { name = c.in_ok-name.name; group = c.in_ok-group.group; sum = c.in_ok-sum.sum }) =
    let name = read_so _ _ _ c.in_ok-name.ensures in
    let group = read_so _ _ _ c.in_ok-group.ensures in
    let sum = read_so _ _ _ c.in_ok-sum.ensures in
    rw (name.0, name.1, group.0, group.1, sum.0, sum.1) refl in
    record {
      ok = on_ok_weaker c.view.result (λ e. same ∙ e) c.view.ensures.ok;
      refused = IfErr-weaker c.view.result _ _ (λ refusal told else. same ∙ told else) c.view.ensures.refused;
      unchanged = c.view.ensures.unchanged;
    }
