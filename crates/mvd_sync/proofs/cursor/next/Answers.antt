use Rattle.std.proofs.Common.{sym, ap, ◌∙◌, Some}
use Rattle.mvd_sync.proofs.Pages.{next_less, next_greater, next_both}
use Rattle.mvd_sync.proofs.cursor.next.Goals as goal

pub returns-in_ok-key-in-Less-clause-next : goal.returns-in_ok-key-in-Less-clause-next
returns-in_ok-key-in-Less-clause-next c = next_less _ _ _ _ c.in_ok-key-in-Less.ensures.0 (sym c.order.ensures ∙ c.in_ok-order.was ∙ ap Some c.in-Less.is)

pub returns-in_ok-key-in-Greater-clause-next : goal.returns-in_ok-key-in-Greater-clause-next
returns-in_ok-key-in-Greater-clause-next c = next_greater _ _ _ _ c.in_ok-key-in-Greater.ensures.0 (sym c.order.ensures ∙ c.in_ok-order.was ∙ ap Some c.in-Greater.is)

pub returns-in_ok-second-in-Equal-clause-next : goal.returns-in_ok-second-in-Equal-clause-next
returns-in_ok-second-in-Equal-clause-next c = next_both _ _ _ _ _ _ c.is_same.result c.in_ok-key-in-Equal.ensures.0 c.in_ok-second-in-Equal.ensures.0 (sym c.order.ensures ∙ c.in_ok-order.was ∙ ap Some c.in-Equal.is) c.is_same.ensures
