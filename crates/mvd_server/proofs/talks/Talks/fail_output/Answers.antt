use Rattle.std.proofs.Common.{ap, inr, sym}
use Rattle.mvd_dots.specs.declared.refusals.Refusal.TheVariants.{WriteFailed}
use Rattle.mvd_server.specs.Talking.{talking_of}
use Rattle.mvd_server.proofs.Deeds.{deed_cuts, deed_stops, unturned}
use Rattle.mvd_server.proofs.talks.Talks.fail_output.Goals as goal

pub returns-in-None : goal.returns-in-None
returns-in-None c = unturned (talking_of c.args.self.now) c.fail_output.new.self c.get_mut.follows.lender-at-none.entries (ap (λ m. m.entries) c.get_mut.follows.holds-at-none) (deed_cuts c.args.number (talking_of c.args.self.now) c.fail_output.new.self c.fail_output.ensures)

pub returns-in-Some : goal.returns-in-Some
returns-in-Some c =
    deed_stops c.args.number c.in-Some.web.now c.stop.new.self (talking_of c.args.self.now) (c.get_mut.follows.lender c.stop.new.self).entries (sym c.in-Some.ensures.value) (inr (WriteFailed, c.stop.ensures)) (c.get_mut.follows.holds c.stop.new.self).0
