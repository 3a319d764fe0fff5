use Rattle.mvd_host.proofs.Hosts.{kept_removed}
use Rattle.mvd_host.proofs.host.Host.dismiss.Goals as goal

pub invariant_of-self : goal.invariant_of-self
invariant_of-self c = kept_removed c.self.inside.clients.entries c.remove.new.self.entries c.args.client c.self.inside.admitted c.self.invariant c.remove.ensures.updates.0
