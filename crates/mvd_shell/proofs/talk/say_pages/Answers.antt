use Rattle.std.proofs.Common.{Ok, Option, subst, sym}
use Rattle.mvd_wire.specs.declared.request.Request.{Request}
use Rattle.mvd_shell.specs.Talk.{TurnsPage}
use Rattle.std.specs.Prelude.{string_bytes}
use Rattle.mvd_shell.proofs.Talking.{begins, ends, onward, refused, stays_shown, stops}
use Rattle.mvd_shell.proofs.talk.say_pages.Goals as goal

pub loop-init : goal.loop-init
loop-init g c = begins g.A.Endpoint.answers c.args.asked.now c.args.ask c.args.request (string_bytes c.args.out.now)

pub loop-preserved : goal.loop-preserved
loop-preserved g c = onward g.A.Endpoint.answers c.args.asked.now c.loop.asked c.turn.new.asked c.args.ask c.args.request c.loop.request c.in-Ok-Some.next (string_bytes c.args.out.now) (string_bytes c.reserve.new.self) (string_bytes c.turn.new.out)
    (stays_shown g.A.Endpoint.answers _ _ _ _ _ _ _ _ c.reserve.ensures.bytes c.loop.invariant)
    (subst (λ (o : Option Request). TurnsPage g.A.Endpoint.answers c.loop.asked c.turn.new.asked c.args.ask c.loop.request (string_bytes c.reserve.new.self) (string_bytes c.turn.new.out) (Ok o)) c.in-Ok-Some.field-0-is c.in-Ok-Some.ensures)

pub returns-in-Ok-None : goal.returns-in-Ok-None
returns-in-Ok-None g c = ends g.A.Endpoint.answers c.args.asked.now c.loop.asked c.turn.new.asked c.args.ask c.args.request c.loop.request (string_bytes c.args.out.now) (string_bytes c.reserve.new.self) (string_bytes c.turn.new.out) tt
    (stays_shown g.A.Endpoint.answers _ _ _ _ _ _ _ _ c.reserve.ensures.bytes c.loop.invariant)
    (subst (λ (o : Option Request). TurnsPage g.A.Endpoint.answers c.loop.asked c.turn.new.asked c.args.ask c.loop.request (string_bytes c.reserve.new.self) (string_bytes c.turn.new.out) (Ok o)) c.in-Ok-None.field-0-is c.in-Ok-None.ensures)

pub returns-in-Err : goal.returns-in-Err
returns-in-Err g c = refused g.A.Endpoint.answers c.args.asked.now c.loop.asked c.turn.new.asked c.args.ask c.args.request c.loop.request (string_bytes c.args.out.now) (string_bytes c.reserve.new.self) (string_bytes c.turn.new.out) c.in-Err.refusal
    (stays_shown g.A.Endpoint.answers _ _ _ _ _ _ _ _ c.reserve.ensures.bytes c.loop.invariant) c.in-Err.ensures

pub returns-then-is_err : goal.returns-then-is_err
returns-then-is_err g c = stops g.A.Endpoint.answers c.args.asked.now c.loop.asked c.args.ask c.args.request c.loop.request (string_bytes c.args.out.now) (string_bytes c.reserve.new.self)
    (stays_shown g.A.Endpoint.answers _ _ _ _ _ _ _ _ c.reserve.ensures.bytes c.loop.invariant)

pub returns : goal.returns
returns g c = stops g.A.Endpoint.answers c.args.asked.now c.loop.asked c.args.ask c.args.request c.loop.request (string_bytes c.args.out.now) (string_bytes c.loop.out) c.loop.invariant
