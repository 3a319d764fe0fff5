-- A tree that is made at once of keys that rise.
use Rattle.std.proofs.Common.{◌≡◌, ℕ, ◌*◌, ◌+◌, Bool, true, false, cond, List, [], ◌∷◌, ◌++◌, length, get_or, set, map, refl, sym, ap, subst, ◌∙◌, arith, Some, None, Option, T}
use Rattle.std.specs.Prelude.{slice_range}
use Rattle.std.specs.Option.{option_or}
use Rattle.std.specs.declared.cmp.Ordering.{Ordering}
use Rattle.std.specs.declared.cmp.Ordering.TheVariants.{Less, Equal, Greater}
use Rattle.std.specs.Ordering.{is_eq}
use Rattle.std.specs.Cmp.Lexicographic.{nat_list_cmp_total}
use Rattle.std.specs.FinMap.{get, entries, empty, insert, from_entries, find, is_sorted, get-empty, get-insert, get-from_entries, same_map}
use Rattle.std.specs.FinMap.Entries.{below_all}
use Rattle.std.proofs.Math.ListN.{get_or-map}
use Rattle.std.proofs.lemmas.List.{length-map, length-set}
use Rattle.mvd_tree.specs.HashTree.{KeyDigests}
use Rattle.mvd_tree.specs.Kept.{kept_bucket, kept_inner}
use Rattle.mvd_tree.specs.Layout.{bucket_of, path_of_one, path_of_two, path_of_three, gathered, AreApart, HoldApart, AreOver, KeepsLevel, KeepsTree}
use Rattle.mvd_tree.proofs.Under.{keys_same}
use Rattle.mvd_tree.proofs.Entries.{Entry, order, less, front, back, turned}
use Rattle.mvd_tree.proofs.KeptNodes.{bucket-kept, inner-kept}
use Rattle.mvd_tree.proofs.Gathered.{find-append, or_none, get-gathered, entries_under, new_buckets-apart, new_buckets-gathered}
use Rattle.mvd_tree.proofs.Changes.{any_default, children_of_two, children_of_one, children_of_root}

-- a key that is below all of these is below one among them
below_one : (k : List ℕ) (es rest : List Entry) (e : Entry) → T (below_all order k (es ++ e ∷ rest)) → order k e.0 ≡ Less
below_one k [] rest e h = less _ (front _ _ h)
below_one k (f ∷ es) rest e h = below_one k es rest e (back _ _ h)

-- a key is not among those that stand before it
none_before : (es rest : List Entry) (e : Entry) → T (is_sorted order (es ++ e ∷ rest)) → find order e.0 es ≡ None
none_before [] rest e h = refl
none_before (f ∷ es) rest e h =
    ap (λ o. cond (is_eq o) (Some f.1) (find order e.0 es)) (turned f.0 e.0 Less (below_one f.0 es rest e (front _ _ h)))
    ∙ none_before es rest e (back _ _ h)

first_found : (tied : Bool) (v : List ℕ) (o : Option (List ℕ)) → (tied ≡ true → o ≡ None) → cond tied (Some v) o ≡ option_or o (cond tied (Some v) None)
first_found true v o h = ap (λ o. option_or o (Some v)) (sym (h refl))
first_found false v o h = sym (or_none o)

same_key : (k l : List ℕ) (o : Ordering) → order k l ≡ o → is_eq o ≡ true → k ≡ l
same_key k l Less e h = absurd (cc)
same_key k l Equal e h = keys_same k l e
same_key k l Greater e h = absurd (cc)

-- one entry more
from_entries_more : (es rest : List Entry) (e : Entry) → T (is_sorted order (es ++ e ∷ rest)) → insert {R = order} (from_entries es) e.0 e.1 ≡ from_entries (es ++ e ∷ [])
from_entries_more es rest e sorted =
    same_map nat_list_cmp_total keys_same _ _ (λ q.
    get-insert nat_list_cmp_total (from_entries es) e.0 e.1 q
    ∙ ap (cond (is_eq (order q e.0)) (Some e.1)) (get-from_entries nat_list_cmp_total es q)
    ∙ first_found (is_eq (order q e.0)) e.1 (find order q es) (λ tied. ap (λ k. find order k es) (same_key q e.0 (order q e.0) refl tied) ∙ none_before es rest e sorted)
    ∙ sym (get-from_entries nat_list_cmp_total (es ++ e ∷ []) q ∙ find-append q es (e ∷ [])))

-- buckets with no key
pub hold_none : (bs : List KeyDigests) → length bs ≡ 4096 → ((n : ℕ) → get_or bs n empty ≡ empty) → HoldApart bs (from_entries [])
hold_none bs all none =
    let found : (n : ℕ) (q : List ℕ) → get (get_or bs n empty) q ≡ None = λ n q. ap (λ b. get b q) (none n) ∙ get-empty _ q in
    let apart : AreApart bs = λ n q _. found n q in
    record { all = all; apart = apart; holds = same_map nat_list_cmp_total keys_same _ _ (λ q. get-gathered bs apart q ∙ found _ q ∙ sym (get-from_entries nat_list_cmp_total [] q)) }

-- buckets once one key more is put in
pub hold_more : (bs bs' : List KeyDigests) (done rest : List Entry) (e : Entry) (n : ℕ) → HoldApart bs (from_entries done) → T (is_sorted order (done ++ e ∷ rest))
    → n ≡ bucket_of e.0 → bs' ≡ set bs n (insert (get_or bs n empty) e.0 e.1) → HoldApart bs' (from_entries (done ++ e ∷ []))
hold_more bs bs' done rest e n hold sorted at new_bs =
    let is : bs' ≡ set bs (bucket_of e.0) (insert (get_or bs (bucket_of e.0) empty) e.0 e.1) = new_bs ∙ ap (λ k. set bs k (insert (get_or bs k empty) e.0 e.1)) at in
    record {
      all = ap length is ∙ length-set bs (bucket_of e.0) _ ∙ hold.all;
      apart = subst AreApart (sym is) (new_buckets-apart bs e.0 (Some e.1) hold.all hold.apart);
      holds = ap gathered is ∙ new_buckets-gathered bs e.0 (Some e.1) hold.all hold.apart ∙ ap (λ m. insert m e.0 e.1) hold.holds ∙ from_entries_more done rest e sorted;
    }

-- the tree over these buckets, each node of which was computed once
pub opened_tree : (bs : List KeyDigests) (lowest middle upper : List (Option (List ℕ))) (root : Option (List ℕ)) (held : KeyDigests)
    → HoldApart bs held → lowest ≡ map (λ b. kept_bucket (entries b)) bs → AreOver lowest 256 middle → AreOver middle 16 upper
    → root ≡ kept_inner (slice_range upper (0 * 16) (0 * 16 + 16))
    → KeepsTree bs lowest middle upper root
opened_tree bs lowest middle upper root held hold low mid up top =
    let wide : length lowest ≡ 4096 = ap length low ∙ length-map bs _ ∙ hold.all in
    let keeps_lowest : KeepsLevel 0 path_of_three 4096 (gathered bs) lowest = record {
      all = wide;
      each = λ n l.
          any_default lowest n None (kept_bucket (entries {R = order} empty)) (omega (arith, wide))
          ∙ ap (λ nodes. get_or nodes n (kept_bucket (entries {R = order} empty))) low
          ∙ get_or-map (λ b. kept_bucket (entries b)) bs n empty
          ∙ bucket-kept (gathered bs) (path_of_three n) _ (entries_under bs hold.apart n);
    } in
    let keeps_middle : KeepsLevel 1 path_of_two 256 (gathered bs) middle = record {
      all = mid.all;
      each = λ n l. mid.each n l ∙ inner-kept 0 (gathered bs) (path_of_two n) _ (omega arith) (children_of_two (gathered bs) lowest n keeps_lowest l);
    } in
    let keeps_upper : KeepsLevel 2 path_of_one 16 (gathered bs) upper = record {
      all = up.all;
      each = λ n l. up.each n l ∙ inner-kept 1 (gathered bs) (path_of_one n) _ (omega arith) (children_of_one (gathered bs) middle n keeps_middle l);
    } in
    record {
      all = hold.all;
      apart = hold.apart;
      keeps_lowest = keeps_lowest;
      keeps_middle = keeps_middle;
      keeps_upper = keeps_upper;
      keeps_root = top ∙ inner-kept 2 (gathered bs) [] _ (omega arith) (children_of_root (gathered bs) upper keeps_upper);
    }
