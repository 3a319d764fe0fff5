use Rattle.mvd_host.specs.Fronts.{Parts, waiting_in}
use Rattle.mvd_host.proofs.Beginning.{parts_turned}
use Rattle.mvd_host.proofs.front.Front.take_waiting.Goals as goal

pub returns : goal.returns
returns c done before =
    let states = c.args.site.now.states in
    let rest = waiting_in c.take_all-rest.result.items in
    let parts : Parts states done (waiting_in c.args.asking.items) rest c.take_all-rest.new.self = c.take_all-rest.ensures done before in
    parts_turned states done (waiting_in c.args.asking.items) rest c.take_all-rest.new.self parts (waiting_in c.turned.result.items) c.turned.ensures.own (c.turned.ensures.may parts.rest_may)
