use Rattle.std.proofs.Common.{rules}
use Rattle.mvd_site.specs.Held.{IsHeldState}
use Rattle.mvd_replica.proofs.RestoredOrder.{not_too_long}
use Rattle.mvd_replica.proofs.restoring.respelled.Goals as goal

pub returns-in-Ok-encode_state-clause-spelled : goal.returns-in-Ok-encode_state-clause-spelled
returns-in-Ok-encode_state-clause-spelled c =
    let held : IsHeldState c.in-Ok.state = search rules in
    (c.in-Ok.state, c.in-Ok.ensures.found, c.in-Ok-encode_state.ensures.spells, held)

pub returns-clause-damaged : goal.returns-clause-damaged
returns-clause-damaged c damaged old =
    not_too_long c.in-Ok.state c.in-Err-encode_state.refusal c.in-Ok.ensures.short c.in-Err-encode_state.ensures.exact (c.unread-in-Err-encode_state.ensures.damaged damaged)
