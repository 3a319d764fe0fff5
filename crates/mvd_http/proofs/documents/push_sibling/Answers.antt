use Rattle.mvd_http.proofs.Steps.{steps5}
use Rattle.mvd_http.proofs.documents.push_sibling.Goals as goal

pub returns-clause-text : goal.returns-clause-text
returns-clause-text c =
    steps5 _ _ _ _ _ _ _ _ _ _ _ c.in_ok-push_word.ensures.text c.in_ok-push_dot.ensures.text c.in_ok-push_word-2.ensures.text
    c.in_ok-push_document.ensures.text c.in_ok-push_word-3.ensures.text
