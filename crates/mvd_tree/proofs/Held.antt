-- The digests of key states, as one state is put in: what a site needs to see its tree as that of its states.
use Rattle.std.proofs.Common.{◌≡◌, ℕ, List, [], ◌∷◌, cond, refl, sym, ap, ◌∙◌, Some}
use Rattle.std.specs.Prelude.{option_map, map, T}
use Rattle.std.specs.declared.cmp.Ordering.TheVariants.{Less, Equal, Greater}
use Rattle.std.specs.Ordering.{nat_cmp, is_eq}
use Rattle.std.specs.Cmp.Lexicographic.{slice_cmp, nat_list_cmp_total}
use Rattle.std.specs.FinMap.{FinMap, get, empty, insert, from_entries, is_sorted, get-empty, get-insert, get-from_entries, same_map}
use Rattle.std.specs.FinMap.Entries.{below_all}
use Rattle.mvd_tree.specs.States.{key_digest, digests_of}
use Rattle.mvd_tree.specs.Change.{changed}
use Rattle.mvd_tree.proofs.Under.{keys_same}
use Rattle.mvd_tree.proofs.KeyDigests.{find-digests, get-digests_of}
use Rattle.mvd_tree.proofs.Entries.{front, back, both}

module _ {S : Type 0} (spelled : List ℕ → S → List ℕ) where
  pub digests_of-empty : digests_of spelled empty ≡ empty
  digests_of-empty = same_map nat_list_cmp_total keys_same _ _ (λ q. get-digests_of spelled empty q ∙ ap (option_map (key_digest spelled q)) (get-empty _ q) ∙ sym (get-empty _ q))

  -- the tree's change follows the site's
  pub digests_of-insert : (m : FinMap (slice_cmp nat_cmp) S) (key : List ℕ) (state : S) → digests_of spelled (insert m key state) ≡ changed (digests_of spelled m) key (Some (key_digest spelled key state))
  digests_of-insert m key state =
      same_map nat_list_cmp_total keys_same _ _ (λ q.
      get-digests_of spelled (insert m key state) q ∙ ap (option_map (key_digest spelled q)) (get-insert nat_list_cmp_total m key state q)
      ∙ elim (slice_cmp nat_cmp q key) as (λ o. slice_cmp nat_cmp q key ≡ o → option_map (key_digest spelled q) (cond (is_eq o) (Some state) (get m q)) ≡ cond (is_eq o) (Some (key_digest spelled key state)) (get (digests_of spelled m) q)) [
        | Less ↦ λ _. sym (get-digests_of spelled m q)
        | Equal ↦ λ e. ap (λ k. Some (key_digest spelled k state)) (keys_same q key e)
        | Greater ↦ λ _. sym (get-digests_of spelled m q)
      ] refl
      ∙ sym (get-insert nat_list_cmp_total (digests_of spelled m) key (key_digest spelled key state) q))

  -- the digests of entries that are held
  abbrev pub digest_entries : List (List ℕ × S) → List (List ℕ × List ℕ)
  digest_entries es = map (λ e. (e.0, key_digest spelled e.0 e.1)) es

  -- a tree that is opened with them
  pub digests_of-entries : (es : List (List ℕ × S)) → digests_of spelled (from_entries es) ≡ from_entries (digest_entries es)
  digests_of-entries es =
      same_map nat_list_cmp_total keys_same _ _ (λ q.
      get-digests_of spelled (from_entries es) q ∙ ap (option_map (key_digest spelled q)) (get-from_entries nat_list_cmp_total es q)
      ∙ sym (get-from_entries nat_list_cmp_total (digest_entries es) q ∙ find-digests spelled q es))

  digests_above : (k : List ℕ) (es : List (List ℕ × S)) → T (below_all (slice_cmp nat_cmp) k es) → T (below_all (slice_cmp nat_cmp) k (digest_entries es))
  digests_above k [] h = h
  digests_above k (e ∷ es) h = both _ _ (front _ _ h) (digests_above k es (back _ _ h))

  -- their keys rise where those of the states do
  pub digests_rise : (es : List (List ℕ × S)) → T (is_sorted (slice_cmp nat_cmp) es) → T (is_sorted (slice_cmp nat_cmp) (digest_entries es))
  digests_rise [] h = h
  digests_rise (e ∷ es) h = both _ _ (digests_above e.0 es (front _ _ h)) (digests_rise es (back _ _ h))
