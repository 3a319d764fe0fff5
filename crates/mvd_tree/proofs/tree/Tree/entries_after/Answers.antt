use Rattle.std.proofs.Common.{◌≤◌, ap, sym, ◌∙◌, subst, arith, length}
use Rattle.std.specs.FinMap.{entries}
use Rattle.std.specs.Option.{option_copied}
use Rattle.mvd_tree.specs.Page.{keys_after}
use Rattle.mvd_tree.specs.Layout.{IsPath, gathered}
use Rattle.mvd_tree.proofs.Answers.{rest_three}
use Rattle.mvd_tree.proofs.tree.Tree.entries_after.Goals as goal

pub returns : goal.returns
returns c =
    let three : 3 ≤ length c.digits_of-digits.result.now = subst (λ path. 3 ≤ length path) (sym c.digits_of-digits.ensures.digits) (omega arith) in
    c.entries_after.ensures
    ∙ rest_three c.self.inside.buckets.items c.digits_of-digits.result.now (option_copied c.args.after) c.index.result.now c.self.invariant.all c.self.invariant.apart
    (subst IsPath (sym c.digits_of-digits.ensures.digits) c.digits_of-digits.ensures.path) three c.index.ensures
    ∙ ap (λ path. entries (keys_after (gathered c.self.inside.buckets.items) path (option_copied c.args.after))) c.digits_of-digits.ensures.digits
    ∙ ap (λ held. entries (keys_after held c.args.path.now (option_copied c.args.after))) c.self.view_is
