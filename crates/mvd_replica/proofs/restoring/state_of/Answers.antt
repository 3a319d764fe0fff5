use Rattle.std.proofs.Common.{◌∙◌, rules, sym}
use Rattle.mvd_site.specs.Held.{IsHeldState}
use Rattle.mvd_wire.proofs.Spellings.{codec_is}
use Rattle.mvd_replica.proofs.restoring.state_of.Goals as goal

pub returns-then-may_be_held-clause-spelled : goal.returns-then-may_be_held-clause-spelled
returns-then-may_be_held-clause-spelled c = sym (codec_is c.in-Ok.state) ∙ sym c.in-Ok.ensures.found.1

pub returns-then-may_be_held-clause-stored : goal.returns-then-may_be_held-clause-stored
returns-then-may_be_held-clause-stored c =
    let held : IsHeldState c.in-Ok.state = search rules in
    (c.in-Ok.state, c.in-Ok.ensures.found, held)
