use Rattle.mvd_http.proofs.Steps.{steps5}
use Rattle.mvd_http.proofs.responses.push_refused.Goals as goal

pub returns-clause-text : goal.returns-clause-text
returns-clause-text c =
    steps5 _ _ _ _ _ _ _ _ _ _ _ c.in_ok-push_word.ensures.text
    (rw (c.from.ensures, c.number.ensures) at c.in_ok-push_number.ensures.text) c.in_ok-push_word-2.ensures.text
    (rw c.name.ensures at c.in_ok-push_word-3.ensures.text) c.in_ok-push_word-4.ensures.text
