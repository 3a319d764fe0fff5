use Rattle.std.proofs.Common.{◌≡◌, ◌∙◌, ap, arith, length, max, refl, subst}
use Rattle.mvd_sync.specs.Exchanges.{Exchanging}
use Rattle.mvd_sync.specs.Meetings.{ArePlans}
use Rattle.mvd_sync.specs.Weights.{next_most, weight}
use Rattle.mvd_sync.specs.Machines.{both, of_local, of_peer}
use Rattle.mvd_sync.specs.declared.report.SyncFault.TheVariants.{Local}
use Rattle.mvd_sync.proofs.hearing.hear_window.Goals as goal

pub returns-in-Err : goal.returns-in-Err
returns-in-Err c = of_local c.in-Err.refusal c.in-Err.ensures refl

pub returns-in-Err-read_states : goal.returns-in-Err-read_states
returns-in-Err-read_states c = of_peer c.in-Ok.states c.in-Err-read_states.refusal c.in-Ok.ensures c.in-Err-read_states.ensures refl

pub returns-in-Ok-meet : goal.returns-in-Ok-meet
returns-in-Ok-meet c =
    let m = c.in-Ok-meet.ensures.met in
    let number = c.number.ensures ∙ ap (λ (w : Exchanging). w.number) c.weigh.ensures in
    let o = c.args.entries.ok.0 in
    let l = c.len.ensures in
    let many : c.len.result ≡ length c.args.entries.items = omega (arith, o, l) in
    let next = c.weigh.ensures ∙ (λ i. record c.args.exchange.now { most = next_most c.args.limit (many i) (max (weight (c.deref.ensures.value i)) (weight (c.deref-2.ensures.value i))) }) in
    both c.in-Ok.states c.in-Ok-read_states.states c.in-Ok.ensures c.in-Ok-read_states.ensures
    (m.0, subst (λ n. ArePlans n c.args.entries.items c.in-Ok.states.items c.in-Ok-read_states.states.items m.0) number m.1, m.2, next)

pub returns-in-Err-meet : goal.returns-in-Err-meet
returns-in-Err-meet c = both c.in-Ok.states c.in-Ok-read_states.states c.in-Ok.ensures c.in-Ok-read_states.ensures (ap Local c.in-Err-meet.ensures.memory)
