use Rattle.std.proofs.Common.{ap, sym, ◌∙◌}
use Rattle.std.specs.FinMap.{get}
use Rattle.mvd_replica.proofs.Lent.{get_lent}
use Rattle.mvd_replica.proofs.waiting.Waiting.place.Goals as goal

pub returns-in-Some : goal.returns-in-Some
returns-in-Some c =
    c.in-Some.ensures.value ∙ sym (get_lent c.self.inside.places.entries c.args.key.now) ∙ ap (λ m. get m c.args.key.now) c.self.view_is

pub returns-in-None : goal.returns-in-None
returns-in-None c =
    c.in-None.ensures.value ∙ sym (get_lent c.self.inside.places.entries c.args.key.now) ∙ ap (λ m. get m c.args.key.now) c.self.view_is
