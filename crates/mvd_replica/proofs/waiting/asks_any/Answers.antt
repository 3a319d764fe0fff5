use Rattle.std.proofs.Common.{sym, ◌∙◌}
use Rattle.mvd_replica.proofs.SameKey.{apart_none, get_apart, get_sees, other_apart, other_sees}
use Rattle.mvd_replica.proofs.waiting.asks_any.Goals as goal

pub returns-then-changes-eq0-clause-apart : goal.returns-then-changes-eq0-clause-apart
returns-then-changes-eq0-clause-apart c = λ _ group all count free. apart_none c.args.request.now group (sym count ∙ c.if-changes-eq0.true)

pub returns-in-Get : goal.returns-in-Get
returns-in-Get c = record {
  apart = λ none group all count free. get_apart c.args.request.now c.in-Get.key group c.args.waiting.now c.in-Get.is all (sym c.has.ensures ∙ none);
  sees = λ some group all count. get_sees c.args.request.now c.in-Get.key group c.args.waiting.now c.in-Get.is all (sym c.has.ensures ∙ some);
}

pub returns-in_default : goal.returns-in_default
returns-in_default c = record {
  apart = λ none group all count free. other_apart c.args.request.now group c.args.waiting.now c.in_default.not-Get (sym c.sees_all.ensures ∙ none) all free;
  sees = λ some group all count. other_sees c.args.request.now group (sym c.sees_all.ensures ∙ some) (λ none. c.if-changes-eq0.false (count ∙ none));
}
