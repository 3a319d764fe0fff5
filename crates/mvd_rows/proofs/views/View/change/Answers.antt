use Rattle.std.proofs.Common.{ap, ◌∙◌}
use Rattle.mvd_rows.specs.Changes.{before}
use Rattle.mvd_rows.proofs.views.View.change.Goals as goal

pub add-requires : goal.add-requires
add-requires c = (c.requires.0, (c.requires.2.0, c.requires.2.1.0))

pub remove-requires : goal.remove-requires
remove-requires c = (c.requires.0, c.requires.1, (c.requires.2.0, (c.requires.2.1.0, c.requires.2.1.1 ∙ ap (λ way. before way c.args.document.now) c.in-Goes.is)))
