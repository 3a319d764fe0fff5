use Rattle.mvd_world.proofs.Asking.{site_asked, site_not_asked}
use Rattle.mvd_world.proofs.windows.ask_site.Goals as goal

pub returns-in-None : goal.returns-in-None
returns-in-None c = site_not_asked c.args.world.now c.args.site c.args.window c.in-None.is

pub returns-in-Some : goal.returns-in-Some
returns-in-Some c = site_asked c.args.world.now c.ask_window.new.world c.args.site c.args.window c.in-Some.wanted c.ask_window.result c.in-Some.is c.ask_window.ensures
