use Rattle.std.proofs.Common.{◌≡◌, false, true, ap, sym, ◌∙◌}
use Rattle.mvd_tree.specs.HashTree.{is_under}
use Rattle.mvd_tree.specs.Change.{changed}
use Rattle.mvd_tree.proofs.Under.{digest_above-same}
use Rattle.mvd_tree.proofs.Gathered.{get-changed_other}
use Rattle.mvd_tree.proofs.laws.change_leaves_other_nodes.Goals as goal

pub returns : goal.returns
returns c = λ held key digest path away. digest_above-same _ path (changed held key digest) held (λ q u. get-changed_other held key digest q (λ s. let t : false ≡ true = sym away ∙ ap (is_under path) (sym s) ∙ u in absurd (cc)))
