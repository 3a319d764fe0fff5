-- The buckets of a walk hold no more keys than a side.
use Rattle.std.proofs.Common.{◌≡◌, ℕ, ◌≤◌, Bool, true, false, cond, ◌&&◌, ◌||◌, List, [], ◌∷◌, ◌++◌, length, map, refl, sym, ap, ◌∙◌, arith, Some, None, Option, option_map, true≢false, length-append, inl, inr}
use Rattle.std.specs.Prelude.{is_some}
use Rattle.std.proofs.lemmas.List.{length-map}
use Rattle.std.specs.Ordering.{nat_cmp, eq_by_cmp}
use Rattle.std.specs.Cmp.Lexicographic.{slice_cmp}
use Rattle.std.specs.FinMap.{contains_key-keys, entries, entries_sorted, get, keys, len, len-entries}
use Rattle.mvd_tree.proofs.KeyDigests.{get-digests_of}
use Rattle.mvd_tree.specs.States.{key_digest}
use Rattle.mvd_tree.specs.HashTree.{KeyDigests, is_under, path_of_key}
use Rattle.mvd_tree.specs.Page.{is_after, keys_after}
use Rattle.mvd_site.specs.Answer.{digests, spelled}
use Rattle.mvd_site.specs.Held.{States}
use Rattle.mvd_sync.proofs.Buckets.{held_in}
use Rattle.mvd_sync.proofs.Walk.{has_below}
use Rattle.mvd_sync.specs.Session.{AreDistinct, is_member}
use Rattle.mvd_peer.specs.PushedStates.{Each}
use Rattle.mvd_sync.proofs.Keys.{Each-weaker, distinct-append, or_cases, or_left, or_right}
use Rattle.mvd_sync.proofs.Nodes.{begins-one}
use Rattle.mvd_peer.proofs.Pushes.{Each-append, tied}
use Rattle.mvd_sync.proofs.Rest.{get-rest}
use Rattle.mvd_sync.proofs.Sessions.{few_keys}
use Rattle.mvd_sync.proofs.Taking.{any_member, each_member, held_member, sorted_distinct}

abbrev rest_at : States → List ℕ → KeyDigests
rest_at a path = keys_after (digests a) path None

abbrev keys_at : States → List ℕ → List (List ℕ)
keys_at a path = map (λ e. e.0) (entries (rest_at a path))

abbrev all_keys : States → List (List ℕ) → List (List ℕ)
all_keys a [] = []
all_keys a (path ∷ paths) = keys_at a path ++ all_keys a paths

all_long : (a : States) (paths : List (List ℕ)) → length (all_keys a paths) ≡ held_in a paths
all_long a [] = refl
all_long a (path ∷ paths) =
    let n = length-append (keys_at a path) (all_keys a paths) in
    let m = length-map (entries (rest_at a path)) (λ e. e.0) in
    let rest = all_long a paths in
    omega (arith, n, m, rest)

both : {X : Type 0} (u v : Bool) (o : Option X) → is_some (cond (u && v) o None) ≡ true → (u ≡ true) × (is_some o ≡ true)
both true true o h = (refl, h)
both true false o h = absurd (true≢false (sym h))
both false v o h = absurd (true≢false (sym h))

mapped : {X Y : Type 0} (f : X → Y) (o : Option X) → is_some (option_map f o) ≡ is_some o
mapped f None = refl
mapped f (Some x) = refl

-- each of the keys is under its path, and is held
abbrev IsThere : States → List ℕ → List ℕ → Type 0
IsThere a path k = (is_under path k ≡ true) × (is_member (keys a) k ≡ true)

are_there : (a : States) (path : List ℕ) → Each (IsThere a path) (keys_at a path)
are_there a path = each_member (IsThere a path) (keys_at a path) (λ k h.
    let held : is_some (get (rest_at a path) k) ≡ true = contains_key-keys (rest_at a path) k ∙ any_member k (keys (rest_at a path)) ∙ h in
    let two = both (is_under path k) (is_after None k) (get (digests a) k) (sym (ap is_some (get-rest (digests a) path None k)) ∙ held) in
    (two.0, sym (held_member a k) ∙ sym (mapped (key_digest spelled k) (get a k)) ∙ sym (ap is_some (get-digests_of spelled a k)) ∙ two.1))

abbrev tie : List ℕ → List ℕ → Bool
tie p q = eq_by_cmp (slice_cmp nat_cmp) p q

-- no key is under two of the paths
not_below : (p : List ℕ) (ps : List (List ℕ)) (k : List ℕ) → length p ≡ 3 → Each (λ path. length path ≡ 3) ps → is_member ps p ≡ false → is_under p k ≡ true → has_below ps k ≡ true → ⊥
not_below p [] k long longs apart h i = true≢false (sym i)
not_below p (q ∷ ps) k long longs apart h i =
    elim (or_cases (is_under q k) (has_below ps k) i) [
      | inl here ↦ true≢false (sym (tied p) ∙ ap (tie p) (begins-one p q (path_of_key k) (long ∙ sym longs.0) h here) ∙ or_left (tie p q) (is_member ps p) apart)
      | inr later ↦ not_below p ps k long longs.1 (or_right (tie p q) (is_member ps p) apart) h later
    ]

or_later : (a b : Bool) → b ≡ true → (a || b) ≡ true
or_later true b h = refl
or_later false b h = h

all_below : (a : States) (paths : List (List ℕ)) → Each (λ k. (has_below paths k ≡ true) × (is_member (keys a) k ≡ true)) (all_keys a paths)
all_below a [] = tt
all_below a (path ∷ paths) =
    let Here : List ℕ → Type 0 = λ k. (has_below (path ∷ paths) k ≡ true) × (is_member (keys a) k ≡ true) in
    Each-append Here (keys_at a path) (all_keys a paths)
    (Each-weaker (IsThere a path) Here (λ k h. (ap (λ b. b || has_below paths k) h.0, h.1)) (keys_at a path) (are_there a path))
    (Each-weaker (λ k. (has_below paths k ≡ true) × (is_member (keys a) k ≡ true)) Here (λ k h. (or_later (is_under path k) (has_below paths k) h.0, h.1)) (all_keys a paths) (all_below a paths))

all_distinct : (a : States) (paths : List (List ℕ)) → AreDistinct paths → Each (λ path. length path ≡ 3) paths → AreDistinct (all_keys a paths)
all_distinct a [] d longs = tt
all_distinct a (path ∷ paths) d longs =
    distinct-append (λ k. is_under path k ≡ true) (λ k. has_below paths k ≡ true) (λ k h i. not_below path paths k longs.0 longs.1 d.0 h i) (keys_at a path) (all_keys a paths)
    (Each-weaker (IsThere a path) (λ k. is_under path k ≡ true) (λ k h. h.0) (keys_at a path) (are_there a path))
    (Each-weaker (λ k. (has_below paths k ≡ true) × (is_member (keys a) k ≡ true)) (λ k. has_below paths k ≡ true) (λ k h. h.0) (all_keys a paths) (all_below a paths))
    (sorted_distinct (entries (rest_at a path)) (entries_sorted (rest_at a path))) (all_distinct a paths d.1 longs.1)

pub held_few : (a : States) (paths : List (List ℕ)) → AreDistinct paths → Each (λ path. length path ≡ 3) paths → held_in a paths ≤ len a
held_few a paths d longs =
    let n = few_keys (all_keys a paths) (keys a) (all_distinct a paths d longs)
    (Each-weaker (λ k. (has_below paths k ≡ true) × (is_member (keys a) k ≡ true)) (λ k. is_member (keys a) k ≡ true) (λ k h. h.1) (all_keys a paths) (all_below a paths)) in
    let m = all_long a paths in
    let o = length-map (entries a) (λ e. e.0) in
    let q = len-entries a in
    omega (arith, n, m, o, q)
