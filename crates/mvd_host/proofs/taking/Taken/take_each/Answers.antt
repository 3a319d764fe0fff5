use Rattle.std.proofs.Common.{◌≡◌, ◌≤◌, ◌∙◌, sym, true≢false, length, subst, arith, rules}
use Rattle.mvd_host.specs.Taking.{TakesFairly, held_in}
use Rattle.mvd_host.proofs.TakingAll.{fair_of, idle_all, nothing_heavy, only_nothing, only_of}
use Rattle.mvd_host.proofs.taking.Taken.take_each.Goals.{then-take_of, else-take_of}
use Rattle.mvd_host.proofs.taking.Taken.take_each.Goals as goal

pub loop-client-init : goal.loop-client-init
loop-client-init c = record {
  took = (only_nothing (held_in c.args.self.now) c.args.ready.now c.args.clients.now.entries c.args.self.now c.requires.holds c.requires.apart, λ _ i below. absurd (omega (arith, below)));
  weighed = omega (arith, c.requires.weighed, c.min-weighed.ensures);
  idle = λ _ _ i below. absurd (omega (arith, below));
}

pub loop-client-preserved : goal.loop-client-preserved
loop-client-preserved c = record {
  took = elim c.if-take_of.branch [
    | then-take_of w ↦ (
      only_of (held_in c.args.self.now) c.args.ready.now c.loop-client.client-index c.args.clients.now.entries c.loop-client.clients.entries c.take_of.new.clients.entries c.loop-client.self c.take_of.new.self c.loop-client.invariant.took.0 c.take_of.ensures.took,
      λ no. absurd (true≢false (sym w.refused-is ∙ no)),
    )
    | else-take_of w ↦
        let step = fair_of c.args.site.now.states (held_in c.args.self.now) c.args.ready.now c.loop-client.client-index c.args.clients.now.entries c.loop-client.clients.entries c.take_of.new.clients.entries c.loop-client.self c.take_of.new.self c.take_of.new.weighed c.loop-client.invariant.took.0 c.take_of.ensures.took
        c.take_of.ensures.weighed (c.take_of.ensures.idle w.if-take_of.false) in
        (step.0, λ no. step.1 (c.loop-client.invariant.took.1 (sym w.refused-is ∙ no)))
  ];
  weighed = c.take_of.ensures.weighed;
  idle = elim c.if-take_of.branch [
    | then-take_of w ↦ λ no. absurd (true≢false (sym w.refused-is ∙ no))
    | else-take_of w ↦ λ no none. idle_all c.args.ready.now c.loop-client.client-index c.loop-client.clients.entries c.take_of.new.clients.entries c.loop-client.self c.take_of.new.self (4194304 ≤ c.take_of.new.weighed)
        (λ much. nothing_heavy (held_in c.args.self.now) c.args.ready.now c.loop-client.client-index c.args.clients.now.entries c.loop-client.clients.entries c.take_of.new.clients.entries c.loop-client.self c.take_of.new.self c.args.site.now.states c.take_of.new.weighed
        c.loop-client.invariant.took.0 c.take_of.ensures.took none c.take_of.ensures.weighed much) c.take_of.ensures.took c.take_of.ensures.grows none
        (c.take_of.ensures.idle w.if-take_of.false) (λ before. c.loop-client.invariant.idle (sym w.refused-is ∙ no) before)
  ];
}

pub returns-clause-took : goal.returns-clause-took
returns-clause-took c =
    let end : c.loop-client.client-index ≡ length c.args.ready.now = search rules in
    subst (λ n. TakesFairly c.args.site.now.states c.loop-client.refused (held_in c.args.self.now) c.args.ready.now n c.args.clients.now.entries c.loop-client.clients.entries c.loop-client.self) end c.loop-client.invariant.took
