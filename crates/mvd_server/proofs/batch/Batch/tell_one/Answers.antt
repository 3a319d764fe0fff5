use Rattle.std.proofs.Common.{◌∙◌, Some, ap, arith, length, refl, sym}
use Rattle.std.proofs.lemmas.Option.{slice_get_read}
use Rattle.std.specs.List.{slice_get}
use Rattle.mvd_server.proofs.Lining.{each_one, next_taken}
use Rattle.mvd_server.proofs.batch.Batch.tell_one.Goals as goal

pub returns-clause-lines : goal.returns-clause-lines
returns-clause-lines c = λ n hand hand' takes.
    let batch = c.args.self.now in
    let items = c.deref.result.now in
    let own = c.in-Some-None.ensures.lookup in
    let at = sym (ap (λ l. slice_get l batch.told) c.deref.ensures.value) ∙ slice_get_read items (length items) batch.told c.in-Some-None.field-0.now refl own.3.0 own.1 ∙ ap Some c.in-Some-None.field-0-is in
    each_one n batch hand hand' c.args.reply.now _ _ (omega (arith, own.3.0, ap length c.deref.ensures.value)) (next_taken _ c.args.reply.now n hand hand' at takes) (omega (arith, own.3.0, c)) c.in_ok-push_line.ensures.text
