use Rattle.std.proofs.Common.{◌≡◌, false, Result, Ok, Err, subst, sym}
use Rattle.mvd_dots.specs.declared.refusals.Refusal.{Refusal}
use Rattle.mvd_wire.specs.declared.request.Request.TheVariants.{Push}
use Rattle.mvd_kept.specs.FromStates.{AnswersFrom, push_reply}
use Rattle.mvd_kept.specs.Prepared.{IsReady, PreparesFrom}
use Rattle.mvd_kept.proofs.Prepare.{answers_from_refusal}
use Rattle.mvd_kept.proofs.Pushes.{PushFacts, not_broken, on_ok, push_facts, pushed_by_install, pushed_still}
use Rattle.mvd_kept.proofs.Spent.{looked, one_look, wrote}
use Rattle.mvd_kept.proofs.kept.Kept.push.Goals as goal

pub returns-in-Err : goal.returns-in-Err
returns-in-Err c =
    let old = c.args.self.now in
    let key = c.args.key.now in
    let pushed = c.args.pushed.now in
    let result : Result (Unit {0}) Refusal = Err c.in-Err.refusal in
    let whole : old.broken ≡ false = sym c.if-is_broken.ensures in
    let answers : AnswersFrom old old (Push key pushed) (push_reply result) = answers_from_refusal old (Push key pushed) c.in-Err.refusal (λ _. c.in-Err.ensures.answer) in
    let facts : PushFacts old old key pushed result = push_facts old old key pushed result whole answers in
    record { answer = answers; joined = facts.joined; agreed = facts.agreed; clash = facts.clash; unchanged = facts.unchanged; told = facts.told; stays = λ broken. absurd (not_broken old.broken whole broken); valid = tt; idle = λ broken. absurd (not_broken old.broken whole broken); costs = one_look old (Push key pushed) _ _ (looked c.args.work.now c.prepare_push.new.looks 1 c.prepare_push.ensures.looked) }

pub returns-in-Ok-Answer : goal.returns-in-Ok-Answer
returns-in-Ok-Answer c =
    let old = c.args.self.now in
    let key = c.args.key.now in
    let pushed = c.args.pushed.now in
    let result : Result (Unit {0}) Refusal = Ok tt in
    let whole : old.broken ≡ false = sym c.if-is_broken.ensures in
    let ready = subst (IsReady old) c.in-Ok-Answer.field-0-is c.in-Ok-Answer.ensures.ready in
    let answers : AnswersFrom old old (Push key pushed) (push_reply result) =
    pushed_still old key pushed c.in-Ok-Answer.field-0-0 (tt {0}) ready.accepts (λ _. subst (λ p. PreparesFrom old.config old.states (Push key pushed) (Ok p)) c.in-Ok-Answer.field-0-is c.in-Ok-Answer.ensures.answer) in
    let facts : PushFacts old old key pushed result = push_facts old old key pushed result whole answers in
    record { answer = answers; joined = facts.joined; agreed = facts.agreed; clash = facts.clash; unchanged = facts.unchanged; told = facts.told; stays = λ broken. absurd (not_broken old.broken whole broken); valid = c.in-Ok-Answer.ensures.valid; idle = λ broken. absurd (not_broken old.broken whole broken); costs = one_look old (Push key pushed) _ _ (looked c.args.work.now c.prepare_push.new.looks 1 c.prepare_push.ensures.looked) }

pub returns : goal.returns
returns c =
    let old = c.args.self.now in
    let new = c.install.new.self in
    let key = c.args.key.now in
    let pushed = c.args.pushed.now in
    let result = c.install.result in
    let whole : old.broken ≡ false = sym c.if-is_broken.ensures in
    let prepared = subst (λ p. PreparesFrom old.config old.states (Push key pushed) (Ok p)) c.in-Ok-Change.field-0-is c.in-Ok-Change.ensures.answer in
    let answers : AnswersFrom old new (Push key pushed) (push_reply result) =
    pushed_by_install old new key pushed c.in-Ok-Change.change result c.install.ensures.ok c.install.ensures.err (λ _. prepared) in
    let facts = push_facts old new key pushed result whole answers in
    record {
      answer = answers;
      joined = facts.joined;
      agreed = facts.agreed;
      clash = facts.clash;
      unchanged = facts.unchanged;
      told = facts.told;
      stays = λ broken. absurd (not_broken old.broken whole broken);
      valid = on_ok result c.in-Ok-Change.ensures.valid;
      idle = λ broken. absurd (not_broken old.broken whole broken);
      costs = wrote old (Push key pushed) c.in-Ok-Change.change _ _ _ prepared (looked c.args.work.now c.prepare_push.new.looks 1 c.prepare_push.ensures.looked) c.install.ensures.costs;
    }
