use Rattle.std.proofs.Common.{◌∙◌, Some, ap, arith, length, refl, sym}
use Rattle.std.proofs.lemmas.Option.{slice_get_read}
use Rattle.std.specs.List.{slice_get}
use Rattle.mvd_server.specs.declared.batch.Batch.{Batch}
use Rattle.mvd_server.proofs.Lining.{each_more, each_none, next_refused, only_on, passes_more, passes_none}
use Rattle.mvd_server.proofs.batch.Batch.tell_refused.Goals as goal
use Rattle.mvd_wire.specs.declared.reply.Reply.TheVariants.{Refused}

pub loop-left-init : goal.loop-left-init
loop-left-init c = (refl, λ n hand. each_none n c.args.self.now hand, refl, passes_none c.args.self.now)

pub loop-left-preserved : goal.loop-left-preserved
loop-left-preserved c =
    let inv = c.loop-left.invariant in
    let batch = c.loop-left.self in
    let items = c.deref.result.now in
    let own = c.in-Some-Some.ensures.lookup in
    let at = sym (ap (λ l. slice_get l batch.told) c.deref.ensures.value) ∙ slice_get_read items (length items) batch.told c.in-Some-Some.field-0.now refl own.3.0 own.1 ∙ ap Some c.in-Some-Some.field-0-is in (
      only_on c.args.self.now batch _ inv.0 refl,
      λ n hand. each_more n c.args.self.now batch hand hand hand (Refused c.in-Some-Some.refusal) _ _ inv.0 (omega (arith, c)) (inv.1 n hand) (next_refused _ c.in-Some-Some.refusal n hand at) (omega (arith, c)) c.in_ok-push_line-in-Some-Some.ensures.text,
      omega (arith, c),
      passes_more c.args.self.now batch.told _ c.in-Some-Some.refusal inv.3 (ap (λ l. slice_get l batch.told) (sym (ap (λ (b : Batch). b.refused.items) inv.0)) ∙ at) (omega (arith, c)),
    )
