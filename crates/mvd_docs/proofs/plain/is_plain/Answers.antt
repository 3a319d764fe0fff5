use Rattle.std.proofs.Common.{◌≡◌, ◌∷◌, ◌++◌, [], false, ap, ◌∙◌, sym, arith, append-nil}
use Rattle.std.proofs.lemmas.Bool.{eqb-true}
use Rattle.std.proofs.lemmas.List.{nil_from_length}
use Rattle.serde_json.specs.Written.{members_text}
use Rattle.mvd_docs.proofs.ReadBack.{own_object}
use Rattle.mvd_docs.proofs.plain.is_plain.Goals as goal

pub returns : goal.returns
returns c is =
    let m = c.in-Some-members.ensures in
    let inside = members_text false m.members in
    let first = sym c.as_bytes.ensures.value ∙ c.in-Some.ensures.found in
    let none : c.in-Some-members.rest.now ≡ [] = nil_from_length _ (eqb-true _ 0 (sym c.is_empty.ensures ∙ is)) in
    let text = first ∙ ap (λ l. 123 ∷ l) (m.is_text ∙ ap (λ l. inside ++ l) none ∙ append-nil inside) in
    own_object c.args.text.now m.members text m.rising m.whole (omega (arith, m.nests)) c.requires
