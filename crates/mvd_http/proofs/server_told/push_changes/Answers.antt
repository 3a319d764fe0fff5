use Rattle.mvd_http.proofs.Steps.{steps7}
use Rattle.mvd_http.proofs.server_told.push_changes.Goals as goal

pub returns-clause-text : goal.returns-clause-text
returns-clause-text c =
    steps7 _ _ _ _ _ _ _ _ _ _ _ _ _ _ _ c.in_ok-push_word.ensures.text c.in_ok-push_digest.ensures.text c.in_ok-push_word-2.ensures.text
    c.in_ok-push_key_list.ensures.text c.in_ok-push_word-3.ensures.text c.in_ok-push_truth.ensures c.in_ok-push_word-4.ensures.text
