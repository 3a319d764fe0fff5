-- The least and the greatest of some whole numbers, by how often each stands among them.
use Rattle.std.proofs.Common.{◌≡◌, ℕ, zero, suc, ◌+◌, ◌≤◌, ne_eqb, Bool, true, false, cond, if◌then◌else◌, List, [], ◌∷◌, Option, Some, None, is_some, refl, sym, ap, ap₂, ◌∙◌, subst, true≢false, int_lt, ◌⊎◌, inl, inr, ⊎_elim, arith, ℤ, ◌≤ℤ◌}
use Rattle.std.proofs.lemmas.Int.{ints, clamps}
use Rattle.std.specs.Int.{int_min, int_max}
use Rattle.std.specs.List.{cons_option}
use Rattle.std.specs.Ordering.{eq_by_cmp, int_cmp, is_eq}
use Rattle.std.specs.Cmp.{Equal-is, int_cmp_total, tied_itself}
use Rattle.std.specs.FinMap.{int_cmp-IsAntisymmetric}
use Rattle.mvd_keys.specs.State.{Text}
use Rattle.mvd_rows.specs.Names.{Field}
use Rattle.mvd_docs.specs.declared.term.Term.{Term}
use Rattle.mvd_rows.specs.declared.marks.Spot.{Spot}
use Rattle.mvd_docs.specs.Document.{whole_of}
use Rattle.mvd_rows.proofs.Ranges.{whole_of-fits}
use Rattle.mvd_rows.specs.Marks.{tally_of}
use Rattle.mvd_rows.specs.Stands.{IsTallied, AreEnds, no_ends, two_ends, IsI64, tally_at, unless_none}
use Rattle.mvd_rows.specs.Views.{members, wholes, times, ends_of, widened}
use Rattle.mvd_rows.specs.Visible.{Visible}
use Rattle.mvd_rows.specs.declared.tallies.Tallies.{Tallies}

record Ends (ws : List ℤ) (least greatest : ℤ) : Type 0 where
  has_least : 1 ≤ times least ws
  has_greatest : 1 ≤ times greatest ws
  bounds : (w : ℤ) → 1 ≤ times w ws → (least ≤ℤ w) × (w ≤ℤ greatest)

itself : (x : ℤ) → eq_by_cmp int_cmp x x ≡ true
itself x = ap is_eq (tied_itself int_cmp_total x)

int_tied : (w x : ℤ) → eq_by_cmp int_cmp w x ≡ true → w ≡ x
int_tied w x tied = int_cmp-IsAntisymmetric w x ((Equal-is (int_cmp w x)).0 tied)

times_head : (x : ℤ) (xs : List ℤ) → 1 ≤ times x (x ∷ xs)
times_head x xs = let e = ap (λ b. if b then times x xs + 1 else times x xs) (itself x) in omega arith

if_up : (b : Bool) (n : ℕ) → 1 ≤ n → 1 ≤ (if b then n + 1 else n)
if_up true n h = omega arith
if_up false n h = h

times_tail : (w x : ℤ) (xs : List ℤ) → 1 ≤ times w xs → 1 ≤ times w (x ∷ xs)
times_tail w x xs h = if_up (eq_by_cmp int_cmp w x) (times w xs) h

-- what stands in a list is its head or stands in its tail
split : (P : Type 0) (w x : ℤ) (xs : List ℤ) → (w ≡ x → P) → (1 ≤ times w xs → P) → 1 ≤ times w (x ∷ xs) → P
split P w x xs here there h = elim (eq_by_cmp int_cmp w x) as (λ b. eq_by_cmp int_cmp w x ≡ b → 1 ≤ (if b then times w xs + 1 else times w xs) → P) [
  | true ↦ λ tied _. here (int_tied w x tied)
  | false ↦ λ _ k. there k
] refl h

min_case : (x a : ℤ) → (int_min x a ≡ x) ⊎ (int_min x a ≡ a)
min_case x a = elim (int_lt a x) as (λ b. (cond b a x ≡ x) ⊎ (cond b a x ≡ a)) [ true ↦ inr refl | false ↦ inl refl ]

max_case : (x a : ℤ) → (int_max x a ≡ x) ⊎ (int_max x a ≡ a)
max_case x a = elim (int_lt a x) as (λ b. (cond b x a ≡ x) ⊎ (cond b x a ≡ a)) [ true ↦ inl refl | false ↦ inr refl ]

abbrev Found : (ws : List ℤ) → Type 0
Found ws = (e : ℤ × ℤ) × ((ends_of ws ≡ Some e) × Ends ws e.0 e.1)

found : (x : ℤ) (xs : List ℤ) → Found (x ∷ xs)
found x [] = ((x, x), (refl, record { has_least = times_head x []; has_greatest = times_head x []; bounds = λ w h. split _ w x [] (λ e. (omega (arith, ints), omega (arith, ints))) (λ k. absurd (omega arith)) h }))
found x (y ∷ ys) =
    let f = found y ys in
    let lo = f.0.0 in
    let hi = f.0.1 in (
      (int_min x lo, int_max x hi),
      (
        ap (widened x) f.1.0,
        record {
          has_least = ⊎_elim (λ e. subst (λ z. 1 ≤ times z (x ∷ y ∷ ys)) (sym e) (times_head x (y ∷ ys))) (λ e. subst (λ z. 1 ≤ times z (x ∷ y ∷ ys)) (sym e) (times_tail lo x (y ∷ ys) f.1.1.has_least)) (min_case x lo);
          has_greatest = ⊎_elim (λ e. subst (λ z. 1 ≤ times z (x ∷ y ∷ ys)) (sym e) (times_head x (y ∷ ys))) (λ e. subst (λ z. 1 ≤ times z (x ∷ y ∷ ys)) (sym e) (times_tail hi x (y ∷ ys) f.1.1.has_greatest)) (max_case x hi);
          bounds = λ w h. split _ w x (y ∷ ys)
              (λ e. (omega (arith, ints, clamps), omega (arith, ints, clamps)))
              (λ k. let b = f.1.1.bounds w k in let l = b.0 in let g = b.1 in (omega (arith, ints, clamps), omega (arith, ints, clamps))) h;
        },
      ),
    )

-- each number that a field gives fits an i64
fits_by : (sum : Field) (e : Spot × Text) (ws : List ℤ) (w : ℤ) (o : Option ℤ) → whole_of sum e.1 ≡ o → (1 ≤ times w ws → IsI64 w) → 1 ≤ times w (cons_option o ws) → IsI64 w
fits_by sum e ws w None gives later h = later h
fits_by sum e ws w (Some x) gives later h =
    let f = whole_of-fits sum e.1 x gives in
    let least = f.least in
    let most = f.most in
    split (IsI64 w) w x ws (λ same. record { least = omega (arith, ints); most = omega (arith, ints) }) later h

stands_fits : (sum : Field) (es : List (Spot × Text)) (w : ℤ) → 1 ≤ times w (wholes sum es) → IsI64 w
stands_fits sum [] w h = absurd (omega arith)
stands_fits sum (e ∷ es) w h = fits_by sum e (wholes sum es) w (whole_of sum e.1) refl (stands_fits sum es w) h

one_at : (n : ℕ) → is_some (unless_none n n) ≡ true → 1 ≤ n
one_at zero h = absurd (true≢false (sym h))
one_at (suc n) h = omega arith

some_at : (n : ℕ) → 1 ≤ n → is_some (unless_none n n) ≡ true
some_at zero h = absurd (omega arith)
some_at (suc n) h = ap (λ b. is_some (if b then None else Some (suc n))) (ne_eqb (suc n) 0 (λ e. omega arith))

same_by : (ws : List ℤ) (lo hi : ℤ) → ((w : ℤ) → 1 ≤ times w ws → IsI64 w) → 1 ≤ times lo ws → 1 ≤ times hi ws → ((w : ℤ) → IsI64 w → 1 ≤ times w ws → (lo ≤ℤ w) × (w ≤ℤ hi)) → Some (lo, hi) ≡ ends_of ws
same_by [] lo hi fits has_lo has_hi bounds = absurd (omega arith)
same_by (x ∷ xs) lo hi fits has_lo has_hi bounds =
    let f = found x xs in
    let a = f.1.1.bounds lo has_lo in
    let b = f.1.1.bounds hi has_hi in
    let c = bounds f.0.0 (fits f.0.0 f.1.1.has_least) f.1.1.has_least in
    let d = bounds f.0.1 (fits f.0.1 f.1.1.has_greatest) f.1.1.has_greatest in
    let low : lo ≡ f.0.0 = (let p = a.0 in let q = c.0 in omega (arith, ints)) in
    let high : hi ≡ f.0.1 = (let p = b.1 in let q = d.1 in omega (arith, ints)) in
    ap₂ (λ l h. Some (l, h)) low high ∙ sym f.1.0

none_by : (ws : List ℤ) → ((w : ℤ) → 1 ≤ times w ws → ⊥) → None ≡ ends_of ws
none_by [] none = refl
none_by (x ∷ xs) none = absurd (none x (times_head x xs))

-- the ends that the tallies tell are those of the group's whole numbers
pub ends_are : (group sum : Field) (tallies : Tallies) (visible : Visible) (u : Term) (ends : Option (ℤ × ℤ)) → IsTallied group sum tallies visible → AreEnds tallies.kept.map u ends → ends ≡ ends_of (wholes sum (members group u visible))
unfolding tally_at
ends_are group sum tallies visible u ends is (no_ends none) =
    none_by _ (λ w h. true≢false (sym (ap is_some (is.at (tally_of u w)) ∙ some_at _ h) ∙ none w (stands_fits sum (members group u visible) w h)))
ends_are group sum tallies visible u ends is (two_ends lo hi has_lo has_hi bounds) =
    same_by (wholes sum (members group u visible)) lo hi (stands_fits sum (members group u visible))
    (one_at _ (sym (ap is_some (is.at (tally_of u lo))) ∙ has_lo)) (one_at _ (sym (ap is_some (is.at (tally_of u hi))) ∙ has_hi))
    (λ w fits h. bounds w fits (ap is_some (is.at (tally_of u w)) ∙ some_at _ h))
