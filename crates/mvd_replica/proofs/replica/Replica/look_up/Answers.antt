use Rattle.std.proofs.Common.{◌≡◌, ◌∙◌, ap, false, sym, true, true≢false, Ok, subst}
use Rattle.mvd_dots.specs.declared.refusals.Refusal.{Refusal}
use Rattle.mvd_dots.specs.declared.refusals.Refusal.TheVariants.{Memory}
use Rattle.mvd_wire.specs.declared.reply.Reply.{Reply}
use Rattle.mvd_wire.specs.declared.reply.Reply.TheVariants.{Refused}
use Rattle.mvd_site.specs.Prepared.{IsReady, PreparesFrom, is_refusal}
use Rattle.mvd_site.proofs.Outcomes.{whole_where_ok}
use Rattle.mvd_site.proofs.Pushes.{refusal_is}
use Rattle.mvd_replica.proofs.Asking.{tells_refusal, told_is, whole_tells}
use Rattle.mvd_replica.proofs.replica.Replica.look_up.Goals as goal

-- a reply that refuses nothing is no refusal
plain_no_refusal : (reply : Reply) (refusal : Refusal) → is_refusal reply ≡ false → reply ≡ Refused refusal → true ≡ false
plain_no_refusal reply refusal plain is = sym (ap is_refusal is) ∙ plain

pub returns-in-Ok-Answer-clause-tells : goal.returns-in-Ok-Answer-clause-tells
returns-in-Ok-Answer-clause-tells g c =
    let site = c.args.self.now.site in
    let whole : site.broken ≡ false = whole_where_ok site.broken c.in-Ok-Answer.field-0 c.in-Ok-Answer.ensures.broken in
    whole_tells site c.args.request.now _ whole
    (subst (λ p. PreparesFrom site.config site.states c.args.request.now (Ok p)) c.in-Ok-Answer.field-0-is (c.in-Ok-Answer.ensures.states whole)).answers

pub returns-in-Ok-Answer-clause-kind : goal.returns-in-Ok-Answer-clause-kind
returns-in-Ok-Answer-clause-kind g c = told_is _ _ _ (returns-in-Ok-Answer-clause-tells g c)

pub returns-in-Err-clause-tells : goal.returns-in-Err-clause-tells
returns-in-Err-clause-tells g c =
    tells_refusal c.args.self.now.site c.args.request.now c.in-Err.refusal c.in-Err.ensures.broken c.in-Err.ensures.states

pub returns-in-Err-clause-kind : goal.returns-in-Err-clause-kind
returns-in-Err-clause-kind g c = told_is _ _ _ (returns-in-Err-clause-tells g c)

pub returns-in-Ok-Answer-clause-frugal : goal.returns-in-Ok-Answer-clause-frugal
returns-in-Ok-Answer-clause-frugal g c _ is =
    let plain = subst (λ p. IsReady c.args.self.now.site p) c.in-Ok-Answer.field-0-is c.in-Ok-Answer.ensures.ready in
    true≢false (plain_no_refusal _ Memory plain.accepts is)

pub returns-in-Err-clause-frugal : goal.returns-in-Err-clause-frugal
returns-in-Err-clause-frugal g c frugal is = c.in-Err.ensures.frugal frugal (refusal_is c.in-Err.refusal Memory is)
