-- Entries in order: what is found among them, and after a filter.
use Rattle.std.proofs.Common.{◌≡◌, Bool, true, false, T, ◌&&◌, cond, List, [], ◌∷◌, filter, Option, Some, None, is_some, refl, sym, ap, ◌∙◌, true≢false, Ordering, Less, Equal, Greater}
use Rattle.std.specs.Ordering.{eq_by_cmp, is_eq, is_lt}
use Rattle.std.specs.Cmp.{IsTotalOrder, Equal-is}
use Rattle.std.specs.FinMap.{IsAntisymmetric, find, is_sorted}
use Rattle.std.specs.FinMap.Entries.{below_all}

pub both : (a b : Bool) → T a → T b → T (a && b)
both true b p q = q
both false b p q = p

pub first : (a b : Bool) → T (a && b) → T a
first true b p = tt
first false b p = p

pub second : (a b : Bool) → T (a && b) → T b
second true b p = p
second false b p = absurd p

apart_less : (r : Ordering) → T (is_lt r) → is_eq r ≡ false
apart_less Less h = refl
apart_less Equal h = absurd h
apart_less Greater h = absurd h

-- what is found and passes
abbrev pub kept : {K X : Type 0} → (K × X → Bool) → K → Option X → Option X
kept p q None = None
kept p q (Some x) = cond (p (q, x)) (Some x) None

module _ {K X : Type 0} {R : K → K → Ordering} (o : IsTotalOrder R) where
  -- what ties with a key below all of them is not found
  pub none_below : (q x : K) (es : List (K × X)) → eq_by_cmp R q x ≡ true → T (below_all R x es) → find R q es ≡ None
  none_below q x [] tied h = refl
  none_below q x (e ∷ es) tied h =
      ap (λ b. cond b (Some e.1) (find R q es)) (ap is_eq (o.congr q x e.0 ((Equal-is (R q x)).0 tied)) ∙ apart_less (R x e.0) (first _ _ h))
      ∙ none_below q x es tied (second (is_lt (R x e.0)) _ h)

  -- what is found among the later ones does not tie with the first
  pub later_apart : (q : K) (e : K × X) (es : List (K × X)) (x : X) → T (is_sorted R (e ∷ es)) → find R q es ≡ Some x → eq_by_cmp R q e.0 ≡ false
  later_apart q e es x sorted found = elim (eq_by_cmp R q e.0) as (λ b. eq_by_cmp R q e.0 ≡ b → b ≡ false) [
    | true ↦ λ tied. absurd (true≢false (sym (ap is_some (sym (none_below q e.0 es tied (first _ _ sorted)) ∙ found))))
    | false ↦ λ _. refl
  ] refl

  pub found_later : (q : K) (e : K × X) (es : List (K × X)) (x : X) → T (is_sorted R (e ∷ es)) → find R q es ≡ Some x → find R q (e ∷ es) ≡ Some x
  found_later q e es x sorted found = ap (λ b. cond b (Some e.1) (find R q es)) (later_apart q e es x sorted found) ∙ found

  below-filter : (p : K × X → Bool) (x : K) (es : List (K × X)) → T (below_all R x es) → T (below_all R x (filter p es))
  below-filter p x [] h = tt
  below-filter p x (e ∷ es) h =
      let rest = below-filter p x es (second (is_lt (R x e.0)) _ h) in
      elim (p e) as (λ b. T (below_all R x (cond b (e ∷ filter p es) (filter p es)))) [ true ↦ both _ _ (first _ _ h) rest | false ↦ rest ]

  pub sorted-filter : (p : K × X → Bool) (es : List (K × X)) → T (is_sorted R es) → T (is_sorted R (filter p es))
  sorted-filter p [] h = tt
  sorted-filter p (e ∷ es) h =
      let rest = sorted-filter p es (second (below_all R e.0 es) _ h) in
      elim (p e) as (λ b. T (is_sorted R (cond b (e ∷ filter p es) (filter p es)))) [ true ↦ both _ _ (below-filter p e.0 es (first _ _ h)) rest | false ↦ rest ]

  module _ (exact : IsAntisymmetric R) where
    pub find-filter : (p : K × X → Bool) (q : K) (es : List (K × X)) → T (is_sorted R es) → find R q (filter p es) ≡ kept p q (find R q es)
    find-filter p q [] h = refl
    find-filter p q (e ∷ es) h =
        let rest = find-filter p q es (second (below_all R e.0 es) _ h) in
        elim (eq_by_cmp R q e.0) as (λ t. eq_by_cmp R q e.0 ≡ t → find R q (cond (p e) (e ∷ filter p es) (filter p es)) ≡ kept p q (cond t (Some e.1) (find R q es))) [
          | true ↦ λ t. elim (p e) as (λ b. p e ≡ b → find R q (cond b (e ∷ filter p es) (filter p es)) ≡ cond (p (q, e.1)) (Some e.1) None) [
            | true ↦ λ y. ap (λ b. cond b (Some e.1) (find R q (filter p es))) t ∙ sym (ap (λ b. cond b (Some e.1) None) (ap (λ k. p (k, e.1)) (exact q e.0 ((Equal-is (R q e.0)).0 t)) ∙ y))
            | false ↦ λ n. rest ∙ ap (kept p q) (none_below q e.0 es t (first _ _ h)) ∙ sym (ap (λ b. cond b (Some e.1) None) (ap (λ k. p (k, e.1)) (exact q e.0 ((Equal-is (R q e.0)).0 t)) ∙ n))
          ] refl
          | false ↦ λ t. elim (p e) as (λ b. find R q (cond b (e ∷ filter p es) (filter p es)) ≡ kept p q (find R q es)) [
            | true ↦ ap (λ b. cond b (Some e.1) (find R q (filter p es))) t ∙ rest
            | false ↦ rest
          ]
        ] refl
