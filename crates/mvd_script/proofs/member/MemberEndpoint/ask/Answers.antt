use Rattle.std.proofs.Common.{refl, subst, sym}
use Rattle.mvd_wire.specs.declared.reply.Reply.{Reply}
use Rattle.mvd_world.specs.declared.steps.Step.{Step}
use Rattle.mvd_world.specs.Worlds.{Steps}
use Rattle.mvd_script.specs.Staged.{MemberReplies}
use Rattle.mvd_script.proofs.Playing.{replies}
use Rattle.mvd_script.proofs.member.MemberEndpoint.ask.Goals as goal

pub returns : goal.returns
returns c =
    let steps = subst (λ (s : Step). Steps c.args.self.now.world c.step-outcome.new.self s c.step-outcome.result) c.step_of-step.ensures c.step-outcome.ensures.machine in
    subst (λ (r : Reply). MemberReplies c.args.self.now (record { world = c.step-outcome.new.self; site = c.args.self.now.site }) c.args.request r) (sym c.reply_of.ensures)
    (replies c.args.self.now (record { world = c.step-outcome.new.self; site = c.args.self.now.site }) c.args.request c.step-outcome.result refl steps)
