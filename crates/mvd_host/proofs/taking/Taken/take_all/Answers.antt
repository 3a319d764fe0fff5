use Rattle.mvd_host.specs.Taking.{held_in}
use Rattle.mvd_host.proofs.Orders.{fairly_still, none_still, same_count}
use Rattle.mvd_host.proofs.taking.Taken.take_all.Goals as goal

pub arrange-requires : goal.arrange-requires
arrange-requires c =
    let all = c.take_each-refused.ensures.took.0.all in
    same_count all.requests all.faulty c.take_each-refused.new.self all.holds

pub returns-clause-took : goal.returns-clause-took
returns-clause-took c =
    fairly_still (held_in c.args.self.now) c.args.ready.now c.args.clients.now.entries c.take_each-refused.new.clients.entries c.take_each-refused.new.self c.arrange.new.self c.arrange.ensures c.take_each-refused.ensures.took.0
    c.args.site.now.states c.take_each-refused.result c.take_each-refused.ensures.took.1

pub returns-clause-idle : goal.returns-clause-idle
returns-clause-idle c refused none =
    let all = c.take_each-refused.ensures.took.0.all in
    c.take_each-refused.ensures.idle refused (none_still all.requests all.faulty c.take_each-refused.new.self c.arrange.new.self c.arrange.ensures all.holds none)
