use Rattle.mvd_line_tests.proofs.Among.{pushed_grown}
use Rattle.mvd_line_tests.proofs.among_others.pushed.Goals as goal

pub returns : goal.returns
returns c = record { grown = pushed_grown c.args.site.now c.push-pushed.new.self c.args.key.now c.args.state.now c.push-pushed.result c.stands.ensures.held c.stands-2.ensures.held c.context-seen.ensures.valid c.push-pushed.ensures.joined c.push-pushed.ensures.unchanged c.push-pushed.ensures.told }
