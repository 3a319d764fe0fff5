use Rattle.std.proofs.Common.{◌∙◌, ap, sym, take}
use Rattle.std.proofs.lemmas.List.{take_at}
use Rattle.mvd_web.proofs.response.push_response.Goals as goal

-- what was put behind the old bytes is cut off
pub returns-clause-err : goal.returns-clause-err
returns-clause-err c =
    c.truncate.ensures.items ∙ ap (take c.len-before.result) (c.in-Err.ensures.err ∙ c.in_ok-push_head.ensures.ok) ∙ take_at _ _ c.len-before.result (sym c.len-before.ensures.value)
