use Rattle.mvd_input.proofs.addresses.+are_items.Given as goal

abbrev pub decreases-are_items : goal.decreases-are_items
decreases-are_items l = l.most
