use Rattle.mvd_http.proofs.Steps.{steps5}
use Rattle.mvd_http.proofs.listed.push_entry.Goals as goal

pub returns-clause-text : goal.returns-clause-text
returns-clause-text c =
    steps5 _ _ _ _ _ _ _ _ _ _ _ c.in_ok-push_word.ensures.text (rw c.text.ensures.same at c.in_ok-push_quoted.ensures.text) c.in_ok-push_siblings_of.ensures.text
    c.in_ok-hashed.ensures.text c.in_ok-push_word-2.ensures.text
