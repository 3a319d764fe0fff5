use Rattle.std.specs.Prelude.{Some}
use Rattle.mvd_site_tests.proofs.Anyone.{anyone_says}
use Rattle.mvd_site_tests.proofs.peers.CountingPeer.ask.Goals as goal

pub returns-clause-says : goal.returns-clause-says
returns-clause-says c = anyone_says (λ side. Some side.site.config.site) c.args.window.now c.tell.result c.args.self.now c.tell.new.self c.requires.some c.tell.ensures.answers
