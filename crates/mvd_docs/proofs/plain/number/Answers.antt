use Rattle.std.proofs.Common.{◌≡◌, ℕ, List, ◌∷◌}
use Rattle.std.proofs.lemmas.Option.{IfSome_then}
use Rattle.mvd_docs.proofs.PlainTexts.{at_none, natural_number, negative_number}
use Rattle.mvd_docs.proofs.plain.number.Goals as goal

pub returns-in_default : goal.returns-in_default
returns-in_default c = IfSome_then c.natural.result c.natural.ensures (λ rest n. natural_number c.args.text.now rest.now n)

pub returns : goal.returns
returns c =
    let digits = c.in-Some.digits.now in
    let not_zero = at_none ((r : List ℕ) → digits ≡ 48 ∷ r → ⊥) c.behind-2.result (cc) c.behind-2.ensures.none in
    IfSome_then c.natural-2.result c.natural-2.ensures (λ rest n. negative_number c.args.text.now digits rest.now c.in-Some.ensures.found not_zero n)
