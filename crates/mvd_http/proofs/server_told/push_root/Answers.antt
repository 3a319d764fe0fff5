use Rattle.mvd_http.proofs.Steps.{steps6}
use Rattle.mvd_http.proofs.server_told.push_root.Goals as goal

pub returns-clause-text : goal.returns-clause-text
returns-clause-text c =
    steps6 _ _ _ _ _ _ _ _ _ _ _ _ _ c.in_ok-push_word.ensures.text c.in_ok-push_digest.ensures.text c.in_ok-push_totals.ensures
    c.in_ok-push_word-2.ensures.text (rw c.from.ensures at c.in_ok-push_number.ensures.text) c.in_ok-push_word-3.ensures.text
