use Rattle.mvd_http.specs.Json.{key_count_text}
use Rattle.mvd_http.proofs.Steps.{entry_more}
use Rattle.mvd_http.proofs.count_lists.push_more_counts.Goals as goal

pub loop-entry-preserved : goal.loop-entry-preserved
loop-entry-preserved c =
    entry_more key_count_text c.args.keys.now c.loop-entry.entry-index c.entry-item.result _ _ _ _ c.loop-entry-test.true c.entry-item.is c.loop-entry.invariant
    c.in_ok-push_word.ensures.text c.in_ok-push_count.ensures.text
