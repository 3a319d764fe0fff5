use Rattle.mvd_line_tests.proofs.Among.{grown_same}
use Rattle.mvd_line_tests.proofs.among_others.ServedAmongOthers.others_write.Goals as goal

pub returns-in_default-clause-grown : goal.returns-in_default-clause-grown
returns-in_default-clause-grown c = grown_same c.args.self.now.site c.stands.ensures.held
