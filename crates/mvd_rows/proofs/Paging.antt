-- The first thousand of a list, taken one by one.
use Rattle.std.proofs.Common.{◌≡◌, ℕ, suc, ◌+◌, ◌≤◌, Bool, true, false, not, List, [], ◌∷◌, ◌++◌, length, length-append, append_assoc, append-nil, take, sym, ap, ◌∙◌, arith, nat_lt, le-ltb, lt-ltb, if◌then◌else◌}
use Rattle.std.proofs.lemmas.List.{take_all, take-append-le}
use Rattle.std.proofs.lemmas.Bool.Decides.{nat_tests}
use Rattle.mvd_rows.specs.Pages.{IsPageOf, up_to}
use Rattle.std.specs.Ordering.{is_gt}
use Rattle.mvd_docs.specs.Term.{term_cmp}
use Rattle.mvd_docs.specs.declared.term.Term.{Term}
use Rattle.mvd_rows.specs.declared.marks.Mark.{Mark}

over : (n m : ℕ) → n ≡ 1000 → nat_lt 1000 (n + m) ≡ nat_lt 0 m
over n m e = grind (arith, nat_tests)

module _ {A : Type 0} where
  -- nothing is left
  pub page_ends : (all page : List A) → all ≡ page ++ [] → length page ≤ 1000 → IsPageOf all page false
  page_ends all page e h =
      let same : all ≡ page = e ∙ append-nil page in
      record { first = sym (ap (take 1000) same ∙ take_all 1000 page h); left = sym (ap (λ xs. nat_lt 1000 (length xs)) same ∙ le-ltb 1000 (length page) h) }

  taken_all : (page rest : List A) → length page ≡ 1000 → take 1000 (page ++ rest) ≡ page
  taken_all page rest e = take-append-le 1000 page rest (omega arith) ∙ take_all 1000 page (omega arith)

  -- a thousand are taken
  pub page_full : (all page rest : List A) (more : Bool) → all ≡ page ++ rest → length page ≡ 1000 → more ≡ nat_lt 0 (length rest) → IsPageOf all page more
  page_full all page rest more e h m = record {
    first = sym (ap (take 1000) e ∙ taken_all page rest h);
    left = m ∙ sym (ap (λ xs. nat_lt 1000 (length xs)) e ∙ ap (nat_lt 1000) (length-append page rest) ∙ over (length page) (length rest) h);
  }

pub up_to_none : (to : Term) (rest : List (Mark × Unit {0})) → rest ≡ [] → up_to to rest ≡ []
up_to_none to rest e = ap (up_to to) e

pub up_to_beyond : (to : Term) (rest more : List (Mark × Unit {0})) (mark : Mark) (u : Unit {0}) → rest ≡ (mark, u) ∷ more → is_gt (term_cmp mark.term to) ≡ true → up_to to rest ≡ []
up_to_beyond to rest more mark u e h = ap (up_to to) e ∙ ap (λ b. if b then [] else mark ∷ up_to to more) h

pub up_to_more : (to : Term) (rest more : List (Mark × Unit {0})) (mark : Mark) (u : Unit {0}) → rest ≡ (mark, u) ∷ more → is_gt (term_cmp mark.term to) ≡ false → up_to to rest ≡ mark ∷ up_to to more
up_to_more to rest more mark u e h = ap (up_to to) e ∙ ap (λ b. if b then [] else mark ∷ up_to to more) h

pub one_more_taken : (all taken left new : List Mark) (mark copied : Mark) (more : List Mark) → all ≡ taken ++ left → left ≡ mark ∷ more → new ≡ taken ++ copied ∷ [] → mark ≡ copied → all ≡ new ++ more
one_more_taken all taken left new mark copied more e f g h = e ∙ ap (λ xs. taken ++ xs) (f ∙ ap (λ m. m ∷ more) h) ∙ sym (append_assoc taken (copied ∷ []) more) ∙ ap (λ xs. xs ++ more) (sym g)

pub more_left : (to : Term) (rest more : List (Mark × Unit {0})) (mark : Mark) (u : Unit {0}) (b : Bool) → rest ≡ (mark, u) ∷ more → is_gt (term_cmp mark.term to) ≡ b → not b ≡ nat_lt 0 (length (up_to to rest))
more_left to rest more mark u true e h = sym (ap (λ xs. nat_lt 0 (length xs)) (up_to_beyond to rest more mark u e h))
more_left to rest more mark u false e h = sym (ap (λ xs. nat_lt 0 (length xs)) (up_to_more to rest more mark u e h) ∙ lt-ltb 0 (suc (length (up_to to more))) (omega arith))
