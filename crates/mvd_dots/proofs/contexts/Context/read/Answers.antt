use Rattle.std.proofs.Common.{◌≡◌, ◌⊎◌, ap, sym, subst, ◌∙◌, Err}
use Rattle.std.proofs.lemmas.Result.{err_from_is_err_and}
use Rattle.mvd_dots.specs.Answer.{IsReading}
use Rattle.mvd_dots.specs.Text.{IsTextOf, entries_text}
use Rattle.mvd_dots.specs.declared.refusals.Refusal.TheVariants.{BadContext, Memory}
use Rattle.mvd_dots.proofs.Canonical.{AreInRange-set_of, entries_of-set_of}
use Rattle.mvd_dots.proofs.Laws.{reading_refused}
use Rattle.mvd_dots.proofs.contexts.Context.read.Goals as goal

pub returns-in_err-read_entries : goal.returns-in_err-read_entries
returns-in_err-read_entries c =
    let p = err_from_is_err_and c.from_residual.result c.from_residual.ensures.1 in
    let r = c.in_err-read_entries.ensures in
    let text = c.args.text.now in
    subst (IsReading (λ dots. IsTextOf dots text) BadContext) (sym p.1)
    (reading_refused text p.0 (subst (λ e. (e ≡ BadContext) ⊎ (e ≡ Memory)) (sym p.2) r.only)
    (λ bad es form is. r.none (ap Err (sym p.2 ∙ bad)) es form (c.as_bytes.ensures.value ∙ is)))

pub returns : goal.returns
returns c =
    let es = c.in_ok-read_entries.field-0.items in
    let found = c.in_ok-read_entries.ensures.found in
    record {
      in_range = AreInRange-set_of es found.0;
      spelled = sym c.as_bytes.ensures.value ∙ found.1 ∙ ap entries_text (sym (entries_of-set_of es found.0));
    }
