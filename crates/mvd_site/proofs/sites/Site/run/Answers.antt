use Rattle.std.proofs.Common.{◌≡◌, false, ap, sym, ◌∙◌, subst, subst₂, take, refl, ◌++◌, ◌∷◌, [], arith, length-append, length}
use Rattle.std.proofs.lemmas.List.{take_all, take_more}
use Rattle.std.specs.FinMap.{empty}
use Rattle.mvd_kept.specs.Sites.{SiteValue, SiteStands, AnswersFromNothing}
use Rattle.mvd_kept.proofs.AnsweredAtOnce.{adds_some, answers_one, keeps_config}
use Rattle.mvd_kept.proofs.Runs.{AnswersAll-none, AnswersAll-push, HasChoice, HasChoice-push}
use Rattle.mvd_kept.proofs.Prepare.{Stands-none}
use Rattle.mvd_site.proofs.sites.Site.run.Goals as goal

pub loop-request-init : goal.loop-request-init
loop-request-init c =
    let config = c.args.config.now in
    let site = c.in_ok-site.site in
    let is : site ≡ record { config = c.in_ok-copy.field-0; states = empty; broken = false } = cc (c.in_ok-site.ensures) in
    let copied : config ≡ c.in_ok-copy.field-0 = cc (c.in_ok-copy.ensures) in
    let stands : SiteStands site [] = λ _. Stands-none site.states (ap (λ (s : SiteValue). s.states) is) in
    record {
      answers = subst (AnswersFromNothing config site []) (sym c.new-replies.ensures.items) (AnswersAll-none config site (ap (λ (s : SiteValue). s.broken) is) stands);
      choice = ([], record { asked = refl; told = sym c.new-replies.ensures.items; fits = tt });
      config = ap (λ (s : SiteValue). s.config) is ∙ sym copied;
      count = ap length c.new-replies.ensures.items;
    }

pub loop-request-preserved : goal.loop-request-preserved
loop-request-preserved c =
    let config = c.args.config.now in
    let requests = c.args.requests.now in
    let i = c.loop-request.request-index in
    record {
      answers = subst₂ (AnswersFromNothing config c.answer-reply.new.self)
          (sym (take_more requests i c.request-item.result c.loop-request-test.true ∙ ap (λ r. take i requests ++ r ∷ []) (sym c.request-item.is)))
          (sym c.in_ok-push.ensures.items)
          (AnswersAll-push config c.loop-request.site c.answer-reply.new.self (take i requests) c.request-item.result c.loop-request.replies.items c.answer-reply.result
          c.loop-request.invariant.config c.loop-request.invariant.answers (answers_one c.loop-request.site c.answer-reply.new.self c.request-item.result c.answer-reply.result c.answer-reply.ensures));
      choice = subst₂ HasChoice
          (sym (take_more requests i c.request-item.result c.loop-request-test.true ∙ ap (λ r. take i requests ++ r ∷ []) (sym c.request-item.is)))
          (sym c.in_ok-push.ensures.items)
          (HasChoice-push (take i requests) c.request-item.result c.loop-request.replies.items c.answer-reply.result c.loop-request.invariant.choice
          (adds_some c.loop-request.site c.answer-reply.new.self c.request-item.result c.answer-reply.result c.answer-reply.ensures));
      config = keeps_config c.loop-request.site c.answer-reply.new.self c.request-item.result c.answer-reply.result c.answer-reply.ensures ∙ c.loop-request.invariant.config;
      count = grind (arith, length-append, c.in_ok-push.ensures.items, c.loop-request.invariant.count);
    }

pub returns-clause-answers : goal.returns-clause-answers
returns-clause-answers c =
    subst (λ l. AnswersFromNothing c.args.config.now c.loop-request.site l c.loop-request.replies.items) (take_all c.loop-request.request-index c.args.requests.now c.loop-request-test.false) c.loop-request.invariant.answers
