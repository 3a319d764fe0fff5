-- Lists that are others without some of their elements.
use Rattle.std.proofs.Common.{◌≡◌, ◌⊎◌, inl, inr, ℕ, Bool, true, false, cond, ◌||◌, List, [], ◌∷◌, ◌++◌, refl, sym, ap, ◌∙◌}
use Rattle.std.specs.List.{filter}
use Rattle.std.specs.Ordering.{eq_by_cmp, nat_cmp}
use Rattle.std.specs.Cmp.Lexicographic.{slice_cmp}
use Rattle.mvd_sync.specs.Session.{AreDistinct, is_member}
use Rattle.mvd_sync.proofs.Keys.{is_member-append, or_left, or_right}

-- the first is the second without some of it
abbrev pub IsPart : {X : Type 0} → List X → List X → Type 0
IsPart [] ys = Unit {0}
IsPart (x ∷ xs) [] = ⊥
IsPart (x ∷ xs) (y ∷ ys) = ((x ≡ y) × IsPart xs ys) ⊎ IsPart (x ∷ xs) ys

pub part_more : {X : Type 0} (y : X) (xs ys : List X) → IsPart xs ys → IsPart xs (y ∷ ys)
part_more y [] ys h = tt
part_more y (x ∷ xs) ys h = inr h

pub part_filter : {X : Type 0} (test : X → Bool) (xs : List X) → IsPart (filter test xs) xs
part_filter test [] = tt
part_filter test (x ∷ xs) = elim (test x) as (λ b. IsPart (cond b (x ∷ filter test xs) (filter test xs)) (x ∷ xs)) [
  | true ↦ inl (refl, part_filter test xs)
  | false ↦ part_more x (filter test xs) xs (part_filter test xs)
]

pub part_behind : {X : Type 0} (ys zs ws : List X) → IsPart zs ws → IsPart zs (ys ++ ws)
part_behind [] zs ws h = h
part_behind (y ∷ ys) zs ws h = part_more y zs (ys ++ ws) (part_behind ys zs ws h)

pub part_append : {X : Type 0} (xs ys zs ws : List X) → IsPart xs ys → IsPart zs ws → IsPart (xs ++ zs) (ys ++ ws)
part_append [] ys zs ws h g = part_behind ys zs ws g
part_append (x ∷ xs) [] zs ws h g = absurd h
part_append (x ∷ xs) (y ∷ ys) zs ws (inl here) g = inl (here.0, part_append xs ys zs ws here.1 g)
part_append (x ∷ xs) (y ∷ ys) zs ws (inr later) g = inr (part_append (x ∷ xs) ys zs ws later g)

pub part_member : (xs ys : List (List ℕ)) (k : List ℕ) → IsPart xs ys → is_member ys k ≡ false → is_member xs k ≡ false
part_member [] ys k h none = refl
part_member (x ∷ xs) [] k h none = absurd h
part_member (x ∷ xs) (y ∷ ys) k (inl here) none =
    let first : eq_by_cmp (slice_cmp nat_cmp) k x ≡ false = ap (eq_by_cmp (slice_cmp nat_cmp) k) here.0 ∙ or_left (eq_by_cmp (slice_cmp nat_cmp) k y) (is_member ys k) none in
    ap (λ b. b || is_member xs k) first ∙ part_member xs ys k here.1 (or_right (eq_by_cmp (slice_cmp nat_cmp) k y) (is_member ys k) none)
part_member (x ∷ xs) (y ∷ ys) k (inr later) none = part_member (x ∷ xs) ys k later (or_right (eq_by_cmp (slice_cmp nat_cmp) k y) (is_member ys k) none)

pub part_distinct : (xs ys : List (List ℕ)) → IsPart xs ys → AreDistinct ys → AreDistinct xs
part_distinct [] ys h d = tt
part_distinct (x ∷ xs) [] h d = absurd h
part_distinct (x ∷ xs) (y ∷ ys) (inl here) d = (ap (is_member xs) here.0 ∙ part_member xs ys y here.1 d.0, part_distinct xs ys here.1 d.1)
part_distinct (x ∷ xs) (y ∷ ys) (inr later) d = part_distinct (x ∷ xs) ys later d.1

-- the first and the last of a list that has each once
pub distinct_first : (xs ys : List (List ℕ)) → AreDistinct (xs ++ ys) → AreDistinct xs
distinct_first [] ys d = tt
distinct_first (x ∷ xs) ys d = (or_left (is_member xs x) (is_member ys x) (sym (is_member-append xs ys x) ∙ d.0), distinct_first xs ys d.1)

pub distinct_last : (xs ys : List (List ℕ)) → AreDistinct (xs ++ ys) → AreDistinct ys
distinct_last [] ys d = d
distinct_last (x ∷ xs) ys d = distinct_last xs ys d.1
