use Rattle.mvd_http.specs.Json.{key_digest_text}
use Rattle.mvd_http.proofs.Steps.{entry_more}
use Rattle.mvd_http.proofs.json_lists.push_more_keys.Goals as goal

pub loop-entry-preserved : goal.loop-entry-preserved
loop-entry-preserved c =
    entry_more key_digest_text c.args.keys.now c.loop-entry.entry-index c.entry-item.result _ _ _ _ c.loop-entry-test.true c.entry-item.is c.loop-entry.invariant
    c.in_ok-push_word.ensures.text c.in_ok-push_key.ensures.text
