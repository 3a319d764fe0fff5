use Rattle.mvd_http.proofs.Steps.{steps4}
use Rattle.mvd_http.proofs.documents.push_state.Goals as goal

pub returns-clause-text : goal.returns-clause-text
returns-clause-text c =
    steps4 _ _ _ _ _ _ _ _ _ c.in_ok-push_word.ensures.text (rw c.text.ensures.same at c.in_ok-push_quoted.ensures.text) c.in_ok-push_members.ensures.text
    c.in_ok-push_word-2.ensures.text
