use Rattle.std.proofs.Common.{◌∙◌}
use Rattle.mvd_site.proofs.Alike.{from_writes}
use Rattle.mvd_site.proofs.OfTheSet.{of_the_set}
use Rattle.mvd_world.proofs.Apart.{agree_within}
use Rattle.mvd_world.proofs.laws.the_same_writes_are_answered_alike.Goals as goal

pub returns : goal.returns
returns c = λ setting world i j a b request sound mine theirs defs same asks.
    of_the_set a (world.known i) (world.known j) request same (agree_within world (world.known i) sound (sound.known i))
    ∙ from_writes a b (world.known j) request defs asks
