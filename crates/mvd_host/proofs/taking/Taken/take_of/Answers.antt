use Rattle.std.proofs.Common.{◌≡◌, ◌∙◌, Some, IsSome, refl, sym, ap, subst}
use Rattle.mvd_host.specs.Hosts.{client_in}
use Rattle.mvd_host.proofs.TakingAll.{takes_here, takes_nowhere}
use Rattle.mvd_host.proofs.taking.Taken.take_of.Goals as goal

pub returns-then-has_fault-clause-took : goal.returns-then-has_fault-clause-took
returns-then-has_fault-clause-took c = takes_nowhere c.args.client c.args.clients.now.entries c.args.clients.now.entries c.args.self.now refl

pub returns-in-None-clause-took : goal.returns-in-None-clause-took
returns-in-None-clause-took c = takes_nowhere c.args.client c.args.clients.now.entries c.get_mut.follows.lender-at-none.entries c.args.self.now (ap (λ m. m.entries) c.get_mut.follows.holds-at-none)

pub returns-in-Some-clause-took : goal.returns-in-Some-clause-took
returns-in-Some-clause-took c =
    let k = c.take.new.connection in
    let was : client_in c.args.clients.now.entries c.args.client ≡ Some c.in-Some.connection.now = sym c.in-Some.ensures.value in
    let wrote = c.get_mut.follows.holds k in
    let updates = wrote.3 (subst IsSome (sym was) refl) in
    takes_here c.args.client c.args.clients.now.entries (c.get_mut.follows.lender k).entries c.in-Some.connection.now k c.args.self.now c.take.new.self was updates.1 updates.0
    (sym c.has_fault.ensures ∙ c.if-has_fault.false) c.take.ensures.took
