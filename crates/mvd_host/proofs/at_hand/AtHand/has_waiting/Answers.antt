use Rattle.std.proofs.Common.{◌≡◌, ◌∙◌, ap, false, sym, true}
use Rattle.std.specs.List.{list_any}
use Rattle.mvd_host.specs.AtHand.{AtHandValue}
use Rattle.mvd_host.specs.Fronts.{has_some}
use Rattle.mvd_host.proofs.Fronts.{none_of_any, some_of_any}
use Rattle.mvd_host.proofs.at_hand.AtHand.has_waiting.Goals as goal

pub returns-clause-none : goal.returns-clause-none
returns-clause-none c is =
    let none : list_any has_some c.self.inside.asking.items ≡ false = cc in
    sym (ap (λ (h : AtHandValue). h.waits) c.self.view_is) ∙ none_of_any c.self.inside.asking.items none

pub returns-clause-some : goal.returns-clause-some
returns-clause-some c is nothing =
    let some : list_any has_some c.self.inside.asking.items ≡ true = cc in
    some_of_any c.self.inside.asking.items some (ap (λ (h : AtHandValue). h.waits) c.self.view_is ∙ nothing)
