use Rattle.std.proofs.Common.{◌≡◌, true, Err, Ok, Result, ap, sym, subst}
use Rattle.mvd_dots.specs.declared.refusals.Refusal.{Refusal}
use Rattle.mvd_dots.specs.declared.refusals.Refusal.TheVariants.{Broken}
use Rattle.mvd_keys.specs.Key.{is_key}
use Rattle.mvd_keys.specs.State.{IsValid}
use Rattle.mvd_kept.specs.declared.prepared.Prepared.{Prepared}
use Rattle.mvd_kept.specs.declared.prepared.Prepared.TheVariants.{Answer}
use Rattle.mvd_site.proofs.Outcomes.{err_is}
use Rattle.mvd_wire.specs.declared.reply.Reply.TheVariants.{Refused}
use Rattle.mvd_site.specs.Prepared.{IsReady, PreparesFrom}
use Rattle.mvd_replica.specs.Groups.{ComesTo, IsSendable}
use Rattle.mvd_replica.proofs.Grouped.{comes_answer, comes_change, comes_refused}
use Rattle.mvd_replica.proofs.groups.prepare_one.Goals as goal

not_broken : (prepared : Prepared) → ◌≡◌ {A = Result Prepared Refusal} (Ok prepared) (Err Broken) → ⊥
not_broken prepared is = absurd cc

pub returns-in-Err : goal.returns-in-Err
returns-in-Err c = record {
  broken = λ broken. ap (λ r. Answer (Refused r)) (err_is c.in-Err.refusal Broken (c.in-Err.ensures.broken broken));
  comes = λ whole. comes_refused c.args.site.now c.args.request.now c.in-Err.refusal whole (c.in-Err.ensures.states whole) c.in-Err.ensures.whole c.in-Err.ensures.frugal;
}

pub returns-in-Change : goal.returns-in-Change
returns-in-Change c = record {
  broken = λ broken. absurd (not_broken c.in-Ok.prepared (c.in-Ok.ensures.broken broken));
  comes = λ whole.
      let site = c.args.site.now in
      subst (λ p. ComesTo site.config site.states c.args.request.now p × IsSendable c.args.request.now p) (sym c.in-Change.is)
      (comes_change site c.args.request.now c.in-Change.change (subst (λ p. PreparesFrom site.config site.states c.args.request.now (Ok p)) c.in-Change.is (c.in-Ok.ensures.states whole))
      (subst (IsReady site) c.in-Change.is c.in-Ok.ensures.ready) c.in-Ok.ensures.valid c.state-state.ensures.spelled
      (subst IsValid c.state-state.ensures.state c.context-seen.ensures.valid) (subst (λ k. is_key k ≡ true) c.key-key.ensures c.text-text.ensures.key));
}

pub returns-in_default : goal.returns-in_default
returns-in_default c = record {
  broken = λ broken. absurd (not_broken c.in-Ok.prepared (c.in-Ok.ensures.broken broken));
  comes = λ whole.
      let site = c.args.site.now in
      subst (λ p. ComesTo site.config site.states c.args.request.now p × IsSendable c.args.request.now p) (sym c.in_default.is)
      (comes_answer site c.args.request.now c.in_default.field-0 (subst (λ p. PreparesFrom site.config site.states c.args.request.now (Ok p)) c.in_default.is (c.in-Ok.ensures.states whole))
      (subst (IsReady site) c.in_default.is c.in-Ok.ensures.ready) c.in-Ok.ensures.valid);
}
