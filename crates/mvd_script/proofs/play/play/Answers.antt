use Rattle.std.specs.Prelude.{string_bytes}
use Rattle.std.proofs.Common.{sym, subst, ℕ}
use Rattle.mvd_input.specs.declared.command.Command.{Command}
use Rattle.mvd_world.specs.declared.steps.Step.TheVariants.{Session}
use Rattle.mvd_script.specs.Script.{TellsStep}
use Rattle.mvd_script.specs.Staged.{Acts, ActsFor}
use Rattle.mvd_script.proofs.Playing.{asks}
use Rattle.mvd_script.proofs.play.play.Goals as goal

pub returns-in-Ask : goal.returns-in-Ask
returns-in-Ask c = subst (λ (command : Command). Acts command c.args.member.now c.say.new.asked (string_bytes c.args.out.now) (string_bytes c.say.new.out) c.say.result) (sym c.in-Ask.is)
    (asks c.in-Ask.ask c.args.member.now c.say.new.asked (string_bytes c.args.out.now) (string_bytes c.say.new.out) c.say.result c.say.ensures)

pub returns-in-Send : goal.returns-in-Send
returns-in-Send c = subst (λ (command : Command). Acts command c.args.member.now c.send.new.member (string_bytes c.args.out.now) (string_bytes c.send.new.out) c.send.result) (sym c.in-Send.is) c.send.ensures

pub returns-in-Receive : goal.returns-in-Receive
returns-in-Receive c = subst (λ (command : Command). Acts command c.args.member.now c.take.new.member (string_bytes c.args.out.now) (string_bytes c.take.new.out) c.take.result) (sym c.in-Receive.is) c.take.ensures

pub returns-in-Sync : goal.returns-in-Sync
returns-in-Sync c = subst (λ (command : Command). Acts command c.args.member.now c.take-in-Sync.new.member (string_bytes c.args.out.now) (string_bytes c.take-in-Sync.new.out) c.take-in-Sync.result) (sym c.in-Sync.is)
    (subst (λ (peer : ℕ). ActsFor (λ setting before after told. TellsStep setting (Session c.args.member.now.site peer) before after told) c.args.member.now.world c.take-in-Sync.new.member.world (string_bytes c.args.out.now) (string_bytes c.take-in-Sync.new.out) c.take-in-Sync.result) c.site_of.ensures c.take-in-Sync.ensures)
