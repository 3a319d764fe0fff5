use Rattle.std.proofs.Common.{ap, ◌∙◌}
use Rattle.mvd_dots.specs.Context.{set_of}
use Rattle.mvd_dots.proofs.Members.{set_of-nil}
use Rattle.mvd_dots.proofs.contexts.Context.new.Goals as goal

pub returns : goal.returns
returns c = ap set_of c.new.ensures.items ∙ set_of-nil
