use Rattle.mvd_http.proofs.Steps.{steps2}
use Rattle.mvd_http.proofs.documents.push_value.Goals as goal

pub returns-clause-text : goal.returns-clause-text
returns-clause-text c = steps2 _ _ _ _ _ c.in_ok-push_word.ensures.text c.in_ok-push_word-2.ensures.text
