-- Where SHA-256 tells the texts of two trees apart, equal digests mean equal keys, and equal states of them.
use Rattle.std.proofs.Common.{◌≡◌, ◌≢◌, ◌⊎◌, inl, inr, ℕ, zero, suc, ◌+◌, ◌<◌, Bool, true, false, cond, List, [], ◌∷◌, ◌++◌, length, get_or, refl, sym, ap, ◌∙◌, arith, length-append, Some, None, Option}
use Rattle.std.specs.Prelude.{flat_map, nat_eq, option_map, replicate}
use Rattle.std.specs.Ordering.{nat_cmp}
use Rattle.std.specs.Cmp.{unsigned_Decides}
use Rattle.std.specs.Cmp.Lexicographic.{slice_cmp, nat_list_cmp_total}
use Rattle.std.specs.FinMap.{FinMap, get, entries, len, empty_of_len, same_entries_map}
use Rattle.mvd_digest.specs.Sha256.{sha256}
use Rattle.mvd_digest.proofs.Facts256.{length-sha256}
use Rattle.mvd_tree.specs.HashTree.{KeyDigests, path_of_key, is_under, under, digits, zero_digest, digest_unless_empty, digest_above, text_above}
use Rattle.mvd_tree.specs.States.{key_digest, digests_of}
use Rattle.mvd_tree.specs.Hashed.{IsNodeText, AreDigests, AreToldApart, HashesTellApart, HaveOneText, SameUnder}
use Rattle.mvd_tree.proofs.Under.{get-under}
use Rattle.mvd_tree.proofs.KeyDigests.{Each, Each-weaker, got_each, get-digests_of}
use Rattle.mvd_tree.proofs.Lists.{append_parts, same_pieces, begins-more}
use Rattle.mvd_tree.proofs.Bytes.{digits_small, place_length}

pub digest_above-text : (levels : ℕ) (m : KeyDigests) (path : List ℕ) → digest_above levels m path ≡ digest_unless_empty (under path m) (text_above levels m path)
unfolding digest_above text_above
digest_above-text zero m path = refl
digest_above-text (suc levels) m path = refl

length-unless_empty : (m : KeyDigests) (text : List ℕ) → length (digest_unless_empty m text) ≡ 32
unfolding digest_unless_empty zero_digest
length-unless_empty m text = elim (nat_eq (len m) 0) as (λ b. length (cond b (replicate 32 0) (sha256 text)) ≡ 32) [ true ↦ refl | false ↦ length-sha256 text ]

length-digest_above : (levels : ℕ) (m : KeyDigests) (path : List ℕ) → length (digest_above levels m path) ≡ 32
length-digest_above levels m path = ap length (digest_above-text levels m path) ∙ length-unless_empty _ _

some_of_map : {X Y : Type 0} (f : X → Y) (o : Option X) (y : Y) → option_map f o ≡ Some y → (x : X) × (o ≡ Some x) × (y ≡ f x)
some_of_map f None y e = absurd (cc)
some_of_map f (Some x) y e = (x, refl, cc)

kept_of_cond : {X : Type 0} (b : Bool) (o : Option X) (x : X) → cond b o None ≡ Some x → o ≡ Some x
kept_of_cond true o x e = e
kept_of_cond false o x e = absurd (cc)

-- the entries under a path are those of the map
entries_got : (m : KeyDigests) (path : List ℕ) → Each (λ e. get m e.0 ≡ Some e.1) (entries (under path m))
entries_got m path =
    Each-weaker (λ e. get (under path m) e.0 ≡ Some e.1) (λ e. get m e.0 ≡ Some e.1)
    (λ e h. kept_of_cond (is_under path e.0) (get m e.0) e.1 (sym (get-under path m e.0) ∙ h))
    (entries (under path m))
    (got_each nat_list_cmp_total (under path m))

not_zero : (n : ℕ) → nat_eq n 0 ≡ false → n ≢ 0
not_zero n e h = let f : nat_eq n 0 ≡ true = (unsigned_Decides n 0).1 h in cc

both_empty : (m n : KeyDigests) → nat_eq (len m) 0 ≡ true → nat_eq (len n) 0 ≡ true → m ≡ n
both_empty m n p q = empty_of_len m ((unsigned_Decides (len m) 0).0 p) ∙ sym (empty_of_len n ((unsigned_Decides (len n) 0).0 q))

-- two digests that are equal are of no keys, or of one text
unless_cases : (m n : KeyDigests) (s t : List ℕ)
    → (len m ≢ 0 → len n ≢ 0 → sha256 s ≡ sha256 t → s ≡ t) → (len m ≢ 0 → sha256 s ≢ zero_digest) → (len n ≢ 0 → sha256 t ≢ zero_digest)
    → digest_unless_empty m s ≡ digest_unless_empty n t → (m ≡ n) ⊎ (s ≡ t)
unfolding digest_unless_empty
unless_cases m n s t distinct left right =
    elim (nat_eq (len m) 0) as (λ x. nat_eq (len m) 0 ≡ x → cond x zero_digest (sha256 s) ≡ cond (nat_eq (len n) 0) zero_digest (sha256 t) → (m ≡ n) ⊎ (s ≡ t)) [
      | true ↦ λ p. elim (nat_eq (len n) 0) as (λ y. nat_eq (len n) 0 ≡ y → zero_digest ≡ cond y zero_digest (sha256 t) → (m ≡ n) ⊎ (s ≡ t)) [
        | true ↦ λ q _. inl (both_empty m n p q)
        | false ↦ λ q e. absurd (right (not_zero _ q) (sym e))
      ] refl
      | false ↦ λ p. elim (nat_eq (len n) 0) as (λ y. nat_eq (len n) 0 ≡ y → sha256 s ≡ cond y zero_digest (sha256 t) → (m ≡ n) ⊎ (s ≡ t)) [
        | true ↦ λ q e. absurd (left (not_zero _ p) e)
        | false ↦ λ q e. inr (distinct (not_zero _ p) (not_zero _ q) e)
      ] refl
    ] refl

-- what holds of each of the sixteen digits holds of each number below sixteen
pub each_digit : (P : ℕ → Type 0) → Each P digits → (d : ℕ) → d < 16 → P d
unfolding digits
each_digit P h zero n = h.0
each_digit P h (suc zero) n = h.1.0
each_digit P h (suc (suc zero)) n = h.1.1.0
each_digit P h (suc (suc (suc zero))) n = h.1.1.1.0
each_digit P h (suc (suc (suc (suc zero)))) n = h.1.1.1.1.0
each_digit P h (suc (suc (suc (suc (suc zero))))) n = h.1.1.1.1.1.0
each_digit P h (suc (suc (suc (suc (suc (suc zero)))))) n = h.1.1.1.1.1.1.0
each_digit P h (suc (suc (suc (suc (suc (suc (suc zero))))))) n = h.1.1.1.1.1.1.1.0
each_digit P h (suc (suc (suc (suc (suc (suc (suc (suc zero)))))))) n = h.1.1.1.1.1.1.1.1.0
each_digit P h (suc (suc (suc (suc (suc (suc (suc (suc (suc zero))))))))) n = h.1.1.1.1.1.1.1.1.1.0
each_digit P h (suc (suc (suc (suc (suc (suc (suc (suc (suc (suc zero)))))))))) n = h.1.1.1.1.1.1.1.1.1.1.0
each_digit P h (suc (suc (suc (suc (suc (suc (suc (suc (suc (suc (suc zero))))))))))) n = h.1.1.1.1.1.1.1.1.1.1.1.0
each_digit P h (suc (suc (suc (suc (suc (suc (suc (suc (suc (suc (suc (suc zero)))))))))))) n = h.1.1.1.1.1.1.1.1.1.1.1.1.0
each_digit P h (suc (suc (suc (suc (suc (suc (suc (suc (suc (suc (suc (suc (suc zero))))))))))))) n = h.1.1.1.1.1.1.1.1.1.1.1.1.1.0
each_digit P h (suc (suc (suc (suc (suc (suc (suc (suc (suc (suc (suc (suc (suc (suc zero)))))))))))))) n = h.1.1.1.1.1.1.1.1.1.1.1.1.1.1.0
each_digit P h (suc (suc (suc (suc (suc (suc (suc (suc (suc (suc (suc (suc (suc (suc (suc zero))))))))))))))) n = h.1.1.1.1.1.1.1.1.1.1.1.1.1.1.1.0
each_digit P h (suc (suc (suc (suc (suc (suc (suc (suc (suc (suc (suc (suc (suc (suc (suc (suc d)))))))))))))))) n = absurd (omega arith)

module _ (a b : KeyDigests) (apart : AreToldApart a b) where
  -- buckets of one text have the same entries
  same_bucket : (es fs : List (List ℕ × List ℕ)) → Each (λ e. get a e.0 ≡ Some e.1) es → Each (λ e. get b e.0 ≡ Some e.1) fs → flat_map (λ e. e.1) es ≡ flat_map (λ e. e.1) fs → es ≡ fs
  same_bucket [] [] p q e = refl
  same_bucket [] (f ∷ fs) p q e =
      let n = length-append f.1 (flat_map (λ e. e.1) fs) in
      let m = apart.right f.0 f.1 q.0 in
      let z = ap length e in
      absurd (omega (arith, n, m, z))
  same_bucket (e ∷ es) [] p q is =
      let n = length-append e.1 (flat_map (λ e. e.1) es) in
      let m = apart.left e.0 e.1 p.0 in
      let z = ap length is in
      absurd (omega (arith, n, m, z))
  same_bucket (e ∷ es) (f ∷ fs) p q is =
      let lengths : length e.1 ≡ length f.1 = apart.left e.0 e.1 p.0 ∙ sym (apart.right f.0 f.1 q.0) in
      let parts = append_parts e.1 (flat_map (λ e. e.1) es) f.1 (flat_map (λ e. e.1) fs) lengths is in
      let key = apart.keys e.0 f.0 e.1 p.0 (q.0 ∙ ap Some (sym parts.0)) in
      let rest = same_bucket es fs p.1 q.1 parts.1 in
      λ i. (key i, parts.0 i) ∷ rest i

  same_part : (path : List ℕ) → under path a ≡ under path b → SameUnder path a b
  same_part path e key h =
      ap (λ t. cond t (get a key) None) (sym h) ∙ sym (get-under path a key) ∙ ap (λ u. get u key) e ∙ get-under path b key ∙ ap (λ t. cond t (get b key) None) h

  cases_at : (levels : ℕ) (path : List ℕ) → length path + levels ≡ 3 → digest_above levels a path ≡ digest_above levels b path
      → (under path a ≡ under path b) ⊎ (text_above levels a path ≡ text_above levels b path)
  cases_at levels path depth e =
      let s = text_above levels a path in
      let t = text_above levels b path in
      let hashed_a : len (under path a) ≢ 0 → IsNodeText a s = λ h. record { path = path; levels = levels; depth = depth; holds = h; is = refl } in
      let hashed_b : len (under path b) ≢ 0 → IsNodeText b t = λ h. record { path = path; levels = levels; depth = depth; holds = h; is = refl } in
      unless_cases (under path a) (under path b) s t
      (λ p q. apart.distinct s t (hashed_a p) (hashed_b q)) (λ p. apart.left_nonzero s (hashed_a p)) (λ q. apart.right_nonzero t (hashed_b q))
      (sym (digest_above-text levels a path) ∙ e ∙ digest_above-text levels b path)

  pub same_under : (levels : ℕ) (path : List ℕ) → length path + levels ≡ 3 → digest_above levels a path ≡ digest_above levels b path → SameUnder path a b
  unfolding text_above
  same_under zero path depth e =
      elim (cases_at zero path depth e) [
        | inl same ↦ same_part path same
        | inr text ↦ same_part path (same_entries_map _ _ (same_bucket _ _ (entries_got a path) (entries_got b path) text))
      ]
  same_under (suc levels) path depth e =
      elim (cases_at (suc levels) path depth e) [
        | inl same ↦ same_part path same
        | inr text ↦ λ key h.
            let pieces = same_pieces (λ d. digest_above levels a (path ++ d ∷ [])) (λ d. digest_above levels b (path ++ d ∷ [])) 32 (λ d. length-digest_above levels _ _) (λ d. length-digest_above levels _ _) digits text in
            let d = get_or (path_of_key key) (length path) 0 in
            let child = each_digit (λ d. digest_above levels a (path ++ d ∷ []) ≡ digest_above levels b (path ++ d ∷ [])) pieces d (digits_small key (length path)) in
            let longer = length-append path (d ∷ []) in
            let three = place_length key in
            same_under levels (path ++ d ∷ []) (omega arith) child key (begins-more path (path_of_key key) (omega arith) h)
      ]

module _ {S : Type 0} (spelled : List ℕ → S → List ℕ) where
  digests_are : (m : FinMap (slice_cmp nat_cmp) S) → AreDigests (digests_of spelled m)
  unfolding key_digest
  digests_are m k d h =
      let found = some_of_map (key_digest spelled k) (get m k) d (sym (get-digests_of spelled m k) ∙ h) in
      ap length found.2 ∙ length-sha256 _

  module _ (a b : FinMap (slice_cmp nat_cmp) S) (apart : HashesTellApart spelled a b) (one_text : HaveOneText spelled a b) where
    -- keys with one digest are one key in one state
    same_key : (k l : List ℕ) (s t : S) → get a k ≡ Some s → get b l ≡ Some t → key_digest spelled k s ≡ key_digest spelled l t → (k ≡ l) × (s ≡ t)
    unfolding key_digest
    same_key k l s t p q e =
        one_text k l s t p q (apart.distinct (spelled k s) (spelled l t)
        (inl (inl (record { key = k; state = s; held = p; is = refl })))
        (inr (inl (record { key = l; state = t; held = q; is = refl }))) e)

    -- the premise on texts gives that on digests
    pub told : AreToldApart (digests_of spelled a) (digests_of spelled b)
    told = record {
      left = digests_are a;
      right = digests_are b;
      keys = λ k l d p q.
          let f = some_of_map (key_digest spelled k) (get a k) d (sym (get-digests_of spelled a k) ∙ p) in
          let g = some_of_map (key_digest spelled l) (get b l) d (sym (get-digests_of spelled b l) ∙ q) in
          (same_key k l f.0 g.0 f.1 g.1 (sym f.2 ∙ g.2)).0;
      distinct = λ s t p q. apart.distinct s t (inl (inr p)) (inr (inr q));
      left_nonzero = λ s p. apart.nonzero s (inl (inr p));
      right_nonzero = λ s p. apart.nonzero s (inr (inr p));
    }

    -- keys with one digest or none in both have one state or none
    pub same_state : (key : List ℕ) → get (digests_of spelled a) key ≡ get (digests_of spelled b) key → get a key ≡ get b key
    same_state key e =
        let both : option_map (key_digest spelled key) (get a key) ≡ option_map (key_digest spelled key) (get b key) = sym (get-digests_of spelled a key) ∙ e ∙ get-digests_of spelled b key in
        elim (get a key) as (λ x. get a key ≡ x → option_map (key_digest spelled key) x ≡ option_map (key_digest spelled key) (get b key) → x ≡ get b key) [
          | None ↦ λ p. elim (get b key) as (λ y. get b key ≡ y → None ≡ option_map (key_digest spelled key) y → None ≡ y) [
            | None ↦ λ q _. refl
            | Some t ↦ λ q h. absurd (cc)
          ] refl
          | Some s ↦ λ p. elim (get b key) as (λ y. get b key ≡ y → Some (key_digest spelled key s) ≡ option_map (key_digest spelled key) y → Some s ≡ y) [
            | None ↦ λ q h. absurd (cc)
            | Some t ↦ λ q h.
                let same : key_digest spelled key s ≡ key_digest spelled key t = cc in
                ap Some (same_key key key s t p q same).1
          ] refl
        ] refl both

    -- nodes of one path with one digest hold the same keys in the same states
    pub same_states_under : (levels : ℕ) (path : List ℕ) → length path + levels ≡ 3 → digest_above levels (digests_of spelled a) path ≡ digest_above levels (digests_of spelled b) path → SameUnder path a b
    same_states_under levels path depth e key u = same_state key (same_under (digests_of spelled a) (digests_of spelled b) told levels path depth e key u)
