use Rattle.std.proofs.Common.{◌≡◌, ℕ, suc, ◌-◌, ◌<◌, ◌≤◌, Bool, true, false, List, length, get_or, refl, sym, ap, subst, ◌∙◌, arith, T}
use Rattle.std.specs.FinMap.{is_sorted}
use Rattle.std.specs.Ordering.{is_lt}
use Rattle.mvd_tree.proofs.Entries.{Entry, order, rises_by_pairs, pairs_rise}
use Rattle.mvd_tree.proofs.Changes.{any_default}
use Rattle.mvd_tree.proofs.rises.Goals as goal

holds : (b : Bool) → T b → true ≡ b
holds true h = refl
holds false h = absurd h

fails_at : (es : List Entry) (i : ℕ) (x y : Entry) → 1 ≤ i → i < length es → is_lt (order (get_or es (i - 1) x).0 (get_or es i y).0) ≡ false → false ≡ is_sorted order es
fails_at es i x y low high not_less =
    elim (is_sorted order es) as (λ b. is_sorted order es ≡ b → false ≡ b) [
      | true ↦ λ sorted.
          let next : suc (i - 1) ≡ i = omega arith in
          let less = pairs_rise es (subst T (sym sorted) tt) (i - 1) x (omega arith) in
          let there : get_or es (suc (i - 1)) x ≡ get_or es i y = ap (λ k. get_or es k x) next ∙ any_default es i x y high in
          let less_at : is_lt (order (get_or es (i - 1) x).0 (get_or es i y).0) ≡ true = ap (λ e. is_lt (order (get_or es (i - 1) x).0 e.0)) (sym there) ∙ less in
          absurd (cc)
      | false ↦ λ _. refl
    ] refl

pub returns-then-not-is_below : goal.returns-then-not-is_below
returns-then-not-is_below c =
    fails_at c.args.entries.now c.loop-i.i c.index-entries-i.result c.index-entries-i-in-loop-i.result (omega arith) (omega arith) (sym c.is_below.ensures ∙ c.if-not-is_below.true)

pub returns : goal.returns
returns c = holds _ (rises_by_pairs c.args.entries.now (λ k d l. c.loop-i.invariant k d (omega arith)))
