use Rattle.std.proofs.Common.{◌<◌, ◌∷◌, true, false, refl, arith, ap, ◌∙◌}
use Rattle.std.proofs.lemmas.Option.{IfSome_then}
use Rattle.std.specs.Ordering.{nat_cmp}
use Rattle.std.specs.Cmp.Lexicographic.{slice_cmp}
use Rattle.serde_json.specs.Data.{null, boolean}
use Rattle.mvd_docs.proofs.PlainTexts.{less_from, string_value, number_value, literal_value, array_value, object_value, no_more_items, one_more_item, no_more_members, one_more_member}
use Rattle.mvd_docs.proofs.plain.+values.Goals as goal

pub items-returns-in-Some : goal.items-returns-in-Some
items-returns-in-Some t c = no_more_items c.args.room false c.args.text.now c.in-Some.rest.now c.in-Some.ensures.found

pub items-loop-more-init : goal.items-loop-more-init
items-loop-more-init t c r i = one_more_item c.args.room false c.args.text.now c.args.text.now c.in_ok-rest.rest.now r refl c.in_ok-rest.ensures i

pub items-loop-more-preserved : goal.items-loop-more-preserved
items-loop-more-preserved t c r i =
    c.loop-more.invariant r (one_more_item c.args.room true c.loop-more.rest.now c.in-Some-behind.more.now c.in_ok-rest-2.rest.now r c.in-Some-behind.ensures.found c.in_ok-rest-2.ensures i)

pub items-returns : goal.items-returns
items-returns t c =
    IfSome_then c.behind-2.result c.behind-2.ensures.found (λ rest e. c.loop-more.invariant rest.now (no_more_items c.args.room true c.loop-more.rest.now rest.now e))

pub members-returns-in-Some : goal.members-returns-in-Some
members-returns-in-Some t c = no_more_members c.args.room false c.args.text.now c.in-Some.rest.now c.in-Some.ensures.found

pub members-loop-more-init : goal.members-loop-more-init
members-loop-more-init t c r m before =
    one_more_member c.args.room false c.args.text.now c.args.text.now c.in_ok-name.name.now c.in_ok-name.rest.now r refl c.in_ok-name.ensures m before

pub members-loop-more-preserved : goal.members-loop-more-preserved
members-loop-more-preserved t c r m before =
    let less = less_from (slice_cmp nat_cmp c.loop-more.name.now c.in_ok-next.next.now) cc in
    c.loop-more.invariant r (one_more_member c.args.room true c.loop-more.rest.now c.in-Some-behind.more.now c.in_ok-next.next.now c.in_ok-next.left.now r c.in-Some-behind.ensures.found c.in_ok-next.ensures m before) less

pub members-returns : goal.members-returns
members-returns t c =
    IfSome_then c.behind-2.result c.behind-2.ensures.found (λ rest e. c.loop-more.invariant rest.now (no_more_members c.args.room true c.loop-more.rest.now rest.now e) tt)

pub value-returns-in_ok-checked_sub-in-123 : goal.value-returns-in_ok-checked_sub-in-123
value-returns-in_ok-checked_sub-in-123 t c =
    let first = c.in_ok-first.ensures.cases.0 ∙ ap (λ x. x ∷ c.in_ok-first.rest.now) c.in-123.is in
    let inner = c.in_ok-checked_sub-in-123.field-0 in
    let within : inner < c.args.room = omega (arith, c.in_ok-checked_sub-in-123.ensures) in
    IfSome_then c.members.result c.members.ensures (λ rest m. object_value c.args.room inner c.args.text.now c.in_ok-first.rest.now rest.now within first m)

pub value-returns-in_ok-checked_sub-in-91 : goal.value-returns-in_ok-checked_sub-in-91
value-returns-in_ok-checked_sub-in-91 t c =
    let first = c.in_ok-first.ensures.cases.0 ∙ ap (λ x. x ∷ c.in_ok-first.rest.now) c.in-91.is in
    let inner = c.in_ok-checked_sub-in-91.field-0 in
    let within : inner < c.args.room = omega (arith, c.in_ok-checked_sub-in-91.ensures) in
    IfSome_then c.items.result c.items.ensures (λ rest i. array_value c.args.room inner c.args.text.now c.in_ok-first.rest.now rest.now within first i)

pub value-returns-in-34 : goal.value-returns-in-34
value-returns-in-34 t c = IfSome_then c.string.result c.string.ensures (λ rest q. string_value c.args.room c.args.text.now rest.now q)

pub value-returns-in-116 : goal.value-returns-in-116
value-returns-in-116 t c =
    IfSome_then c.literal.result c.literal.ensures (λ rest e. literal_value c.args.room c.args.text.now rest.now (boolean true) e refl tt tt)

pub value-returns-in-102 : goal.value-returns-in-102
value-returns-in-102 t c =
    IfSome_then c.literal-in-102.result c.literal-in-102.ensures (λ rest e. literal_value c.args.room c.args.text.now rest.now (boolean false) e refl tt tt)

pub value-returns-in-110 : goal.value-returns-in-110
value-returns-in-110 t c =
    IfSome_then c.literal-in-110.result c.literal-in-110.ensures (λ rest e. literal_value c.args.room c.args.text.now rest.now null e refl tt tt)

pub value-returns-in_default : goal.value-returns-in_default
value-returns-in_default t c = IfSome_then c.number.result c.number.ensures (λ rest n. number_value c.args.room c.args.text.now rest.now n)
