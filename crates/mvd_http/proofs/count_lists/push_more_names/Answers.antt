use Rattle.mvd_http.specs.Json.{quoted}
use Rattle.mvd_http.proofs.Steps.{entry_more}
use Rattle.mvd_http.proofs.count_lists.push_more_names.Goals as goal

pub loop-key-preserved : goal.loop-key-preserved
loop-key-preserved c =
    entry_more quoted c.args.keys.now c.loop-key.key-index c.key-item.result _ _ _ _ c.loop-key-test.true c.key-item.is c.loop-key.invariant
    c.in_ok-push_word.ensures.text (rw c.text.ensures.same at c.in_ok-push_quoted.ensures.text)
