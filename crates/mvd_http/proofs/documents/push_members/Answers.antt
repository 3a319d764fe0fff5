use Rattle.mvd_http.proofs.Steps.{siblings_alike, steps5}
use Rattle.mvd_http.proofs.documents.push_members.Goals as goal

pub returns-clause-text : goal.returns-clause-text
returns-clause-text c =
    steps5 _ _ _ _ _ _ _ _ _ _ _ c.in_ok-push_word.ensures.text (rw c.context.ensures.same at c.in_ok-push_context.ensures.text) c.in_ok-push_word-2.ensures.text
    (rw (siblings_alike c.args.spelling _ _ c.siblings.ensures.entries) at c.in_ok-push_siblings.ensures.text) c.in_ok-push_word-3.ensures.text
