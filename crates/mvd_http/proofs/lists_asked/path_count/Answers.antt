use Rattle.std.proofs.Common.{◌==◌, rules, tests}
use Rattle.std.proofs.lemmas.Iterator.Splits.{YieldsList-from_slice_split}
use Rattle.std.proofs.lemmas.Iterator.Consumers.{count_from_yields_List}
use Rattle.mvd_http.proofs.lists_asked.path_count.Goals as goal

pub returns : goal.returns
returns c =
    count_from_yields_List c.split.result c.count.result c.count.ensures.ran
    (YieldsList-from_slice_split {s = c.split.result} _ (λ b. b == 44) c.args.paths.now c.split.ensures.rest c.split.ensures.done c.split.ensures.closure (λ x r q k. search (rules, tests)))
