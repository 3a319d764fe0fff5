use Rattle.std.proofs.Common.{◌∙◌, inr, option_copied, subst, sym}
use Rattle.mvd_http.specs.Guard.{named_by}
use Rattle.mvd_replica.specs.Replicas.{site_of}
use Rattle.mvd_server.specs.Errands.{DoesPlan}
use Rattle.mvd_server.proofs.Errands.{asks_none, copied_some}
use Rattle.mvd_server.proofs.gate.ask.Goals as goal
use Rattle.mvd_web.specs.Inside.{web_of}
use Rattle.mvd_web.specs.Web.{TakesRequest}

pub returns-then-not-next : goal.returns-then-not-next
returns-then-not-next g c = asks_none _ _ _ _ c.args.number (web_of c.args.web.now) (web_of c.next.new.self) c.args.hand.now c.next.result c.next.ensures c.if-not-next.true

pub returns : goal.returns
returns g c = inr (record {
  mid = web_of c.next.new.self;
  takes = subst (λ b. TakesRequest (option_copied c.args.passes) (named_by c.args.names.now) (web_of c.args.web.now) b (web_of c.next.new.self)) c.if-not-next.false c.next.ensures;
  asked = c.in-Some.asked.now;
  kept = sym c.in-Some.ensures;
  plan = c.plan_of-plan.result;
  decides = c.plan_of-plan.ensures;
  does = subst (λ b. DoesPlan (site_of c.args.replica.now) c.args.changes.now b c.args.number c.plan_of-plan.result (web_of c.next.new.self) c.args.hand.now (web_of c.carry_out.new.web) c.carry_out.new.hand c.carry_out.result)
      (c.is_some-is_guarded.ensures ∙ sym (copied_some c.args.passes)) c.carry_out.ensures;
})
