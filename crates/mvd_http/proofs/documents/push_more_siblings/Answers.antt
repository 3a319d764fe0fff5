use Rattle.mvd_keys.specs.State.{pair_of}
use Rattle.mvd_http.specs.Json.{sibling_json}
use Rattle.mvd_http.proofs.Steps.{entry_more}
use Rattle.mvd_http.proofs.documents.push_more_siblings.Goals as goal

pub loop-sibling-preserved : goal.loop-sibling-preserved
loop-sibling-preserved c =
    entry_more (λ s. sibling_json c.args.spelling (pair_of s)) c.args.siblings.now c.loop-sibling.sibling-index c.sibling-item.result _ _ _ _ c.loop-sibling-test.true c.sibling-item.is
    c.loop-sibling.invariant c.in_ok-push_word.ensures.text c.in_ok-push_sibling.ensures.text
