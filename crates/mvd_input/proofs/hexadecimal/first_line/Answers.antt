use Rattle.std.proofs.Common.{rules, tests, ◌+◌, ◌==◌, ◌∙◌, sym}
use Rattle.std.proofs.lemmas.Iterator.{YieldsList-from_slice}
use Rattle.std.proofs.lemmas.Iterator.Search.{position_from_yields_List}
use Rattle.std.proofs.lemmas.List.{take_rest}
use Rattle.mvd_input.specs.Hexadecimal.{lines_after}
use Rattle.mvd_input.proofs.Lines.{cut_at, cut_nowhere}
use Rattle.mvd_input.proofs.hexadecimal.first_line.Goals as goal

pub returns-in-Some-clause-cut : goal.returns-in-Some-clause-cut
unfolding lines_after
returns-in-Some-clause-cut c =
    let found = position_from_yields_List (λ byte. byte == 10) _ _ c.position.result c.position.ensures.ran (YieldsList-from_slice _ c.iter.ensures.rest) (λ x b q k. search (rules, tests)) in
    rw (take_rest c.args.text.now (c.in-Some.at + 1)) (cut_at c.args.text.now c.in-Some.at (sym found ∙ c.in-Some.is))

pub returns-in-None-clause-cut : goal.returns-in-None-clause-cut
unfolding lines_after
returns-in-None-clause-cut c =
    let found = position_from_yields_List (λ byte. byte == 10) _ _ c.position.result c.position.ensures.ran (YieldsList-from_slice _ c.iter.ensures.rest) (λ x b q k. search (rules, tests)) in
    cut_nowhere c.args.text.now (sym found ∙ c.in-None.is)
