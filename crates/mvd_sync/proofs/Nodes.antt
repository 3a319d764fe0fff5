-- Nodes that differ, and the keys below them.
use Rattle.std.proofs.Common.{◌≡◌, ◌≢◌, inl, inr, ℕ, suc, ◌+◌, ◌-◌, ◌<◌, ◌≤◌, Bool, not, true, false, cond, ◌&&◌, ◌||◌, ◌==◌, List, [], ◌∷◌, ◌++◌, length, map, get_or, refl, sym, ap, ◌∙◌, arith, length-append, Some, None, Option, true≢false}
use Rattle.std.specs.Prelude.{IsTrue, bytes_eq, option_map}
use Rattle.std.specs.Ordering.{nat_cmp, eq_by_cmp}
use Rattle.std.specs.Cmp.{Equal-is, tied_itself, unsigned_Decides}
use Rattle.std.specs.Cmp.Lexicographic.{slice_cmp, nat_list_cmp_total}
use Rattle.std.specs.FinMap.{FinMap, get}
use Rattle.std.specs.List.{filter, flat_map, list_any}
use Rattle.std.proofs.Common.{add-one, append_assoc, take}
use Rattle.std.proofs.Math.Seq.{take-suc}
use Rattle.std.proofs.lemmas.List.{append-nil, get_or-map, length-map, map-append, take_all}
use Rattle.std.proofs.lemmas.List.Elements.{filter-append}
use Rattle.std.proofs.lemmas.Grind.{flat_map-append}
use Rattle.std.proofs.lemmas.List.Folds.{list_any-append, list_any_at}
use Rattle.std.proofs.lemmas.Slice.Eq.{bytes_eq-Decides}
use Rattle.mvd_tree.specs.HashTree.{KeyDigests, begins, digits, is_under, node_digest, path_of_key}
use Rattle.mvd_tree.proofs.Bytes.{digits_small, place_length}
use Rattle.mvd_tree.proofs.Lists.{begins-more}
use Rattle.mvd_tree.proofs.Under.{digest_above-same}
use Rattle.mvd_sync.specs.Session.{AreDistinct, is_member}
use Rattle.mvd_peer.specs.PushedStates.{Each}
use Rattle.mvd_sync.specs.Nodes.{child_paths, differing_children, differs_at, told_children}
use Rattle.mvd_sync.proofs.Walk.{has_below}
use Rattle.mvd_keys.specs.Key.{key_cmp}
use Rattle.mvd_tree.specs.Page.{children_digests}
use Rattle.mvd_tree.specs.States.{digests_of, key_digest}
use Rattle.mvd_tree.proofs.KeyDigests.{get-digests_of}
use Rattle.mvd_sync.proofs.Below.{child_digest, digit_at, sixteen_digits}
use Rattle.mvd_sync.proofs.Keys.{Each-weaker, distinct-append, member_has, no_member, or_cases, or_left, or_right}

-- ---- tests

pub or_first : (a b : Bool) → a ≡ true → (a || b) ≡ true
or_first true b h = refl
or_first false b h = absurd (cc)

pub or_second : (a b : Bool) → b ≡ true → (a || b) ≡ true
or_second true b h = refl
or_second false b h = h

not_true : (b : Bool) → not b ≡ true → b ≡ true → ⊥
not_true true h e = absurd (cc)
not_true false h e = absurd (cc)

is_not : (b : Bool) → (b ≡ true → ⊥) → not b ≡ true
is_not true h = absurd (h refl)
is_not false h = refl

pub differs-is : (a b : KeyDigests) (path : List ℕ) → differs_at a b path ≡ true → node_digest a path ≢ node_digest b path
differs-is a b path h e = not_true (bytes_eq (node_digest a path) (node_digest b path)) h ((bytes_eq-Decides (node_digest a path) (node_digest b path)).1 e)

pub differs-from : (a b : KeyDigests) (path : List ℕ) → node_digest a path ≢ node_digest b path → differs_at a b path ≡ true
differs-from a b path h = is_not (bytes_eq (node_digest a path) (node_digest b path)) (λ e. h ((bytes_eq-Decides (node_digest a path) (node_digest b path)).0 e))

-- ---- lists that are filtered

pub Each-append : {X : Type 0} (P : X → Type 0) (xs ys : List X) → Each P xs → Each P ys → Each P (xs ++ ys)
Each-append P [] ys p q = q
Each-append P (x ∷ xs) ys p q = (p.0, Each-append P xs ys p.1 q)

pub Each-filter : {X : Type 0} (P : X → Type 0) (test : X → Bool) (xs : List X) → Each P xs → Each P (filter test xs)
Each-filter P test [] e = tt
Each-filter P test (x ∷ xs) e =
    elim (test x) as (λ b. Each P (cond b (x ∷ filter test xs) (filter test xs))) [
      | true ↦ (e.0, Each-filter P test xs e.1)
      | false ↦ Each-filter P test xs e.1
    ]

-- what is left passes the test
pub Each-passes : {X : Type 0} (test : X → Bool) (xs : List X) → Each (λ x. test x ≡ true) (filter test xs)
Each-passes test [] = tt
Each-passes test (x ∷ xs) =
    elim (test x) as (λ b. test x ≡ b → Each (λ x. test x ≡ true) (cond b (x ∷ filter test xs) (filter test xs))) [
      | true ↦ λ e. (e, Each-passes test xs)
      | false ↦ λ _. Each-passes test xs
    ] refl

member-filter : (test : List ℕ → Bool) (ks : List (List ℕ)) (k : List ℕ) → is_member ks k ≡ false → is_member (filter test ks) k ≡ false
member-filter test [] k h = refl
member-filter test (x ∷ ks) k h =
    let rest = member-filter test ks k (or_right (eq_by_cmp (slice_cmp nat_cmp) k x) (is_member ks k) h) in
    elim (test x) as (λ b. is_member (cond b (x ∷ filter test ks) (filter test ks)) k ≡ false) [
      | true ↦ ap (λ b. b || is_member (filter test ks) k) (or_left (eq_by_cmp (slice_cmp nat_cmp) k x) (is_member ks k) h) ∙ rest
      | false ↦ rest
    ]

pub distinct-filter : (test : List ℕ → Bool) (ks : List (List ℕ)) → AreDistinct ks → AreDistinct (filter test ks)
distinct-filter test [] d = tt
distinct-filter test (x ∷ ks) d =
    elim (test x) as (λ b. AreDistinct (cond b (x ∷ filter test ks) (filter test ks))) [
      | true ↦ (member-filter test ks x d.0, distinct-filter test ks d.1)
      | false ↦ distinct-filter test ks d.1
    ]

-- a test that no filtered element passes
any-filter : {X : Type 0} (q test : X → Bool) (xs : List X) → Each (λ x. q x ≡ true → test x ≡ true) xs → list_any q xs ≡ true → list_any q (filter test xs) ≡ true
any-filter q test [] e h = h
any-filter q test (x ∷ xs) e h =
    elim (test x) as (λ b. test x ≡ b → list_any q (cond b (x ∷ filter test xs) (filter test xs)) ≡ true) [
      | true ↦ λ _. elim (or_cases (q x) (list_any q xs) h) [
        | inl y ↦ or_first (q x) (list_any q (filter test xs)) y
        | inr z ↦ or_second (q x) (list_any q (filter test xs)) (any-filter q test xs e.1 z)
      ]
      | false ↦ λ no. elim (or_cases (q x) (list_any q xs) h) [
        | inl y ↦ absurd (true≢false (sym (e.0 y) ∙ no))
        | inr z ↦ any-filter q test xs e.1 z
      ]
    ] refl

-- ---- the children of a node

Each-flat_map : {X Y : Type 0} (P : Y → Type 0) (f : X → List Y) (xs : List X) → Each (λ x. Each P (f x)) xs → Each P (flat_map f xs)
Each-flat_map P f [] e = tt
Each-flat_map P f (x ∷ xs) e = Each-append P (f x) (flat_map f xs) e.0 (Each-flat_map P f xs e.1)

Each-map : {X Y : Type 0} (P : Y → Type 0) (f : X → Y) (xs : List X) → Each (λ x. P (f x)) xs → Each P (map f xs)
Each-map P f [] e = tt
Each-map P f (x ∷ xs) e = (e.0, Each-map P f xs e.1)

pub Each-all : {X : Type 0} (P : X → Type 0) → ((x : X) → P x) → (xs : List X) → Each P xs
Each-all P h [] = tt
Each-all P h (x ∷ xs) = (h x, Each-all P h xs)

begins-longer : (path : List ℕ) (d : ℕ) → IsTrue (begins path (path ++ d ∷ []))
begins-longer [] d = refl
begins-longer (x ∷ path) d = ap (λ b. b && begins path (path ++ d ∷ [])) ((unsigned_Decides x x).1 refl) ∙ begins-longer path d

-- a child of a node: one digit longer, and it begins with the path
pub record IsChildOf (path child : List ℕ) : Type 0 where
  pub longer : length child ≡ length path + 1
  pub begins : IsTrue (begins path child)

are_children : (path : List ℕ) → Each (IsChildOf path) (child_paths path)
are_children path = Each-map (IsChildOf path) (λ d. path ++ d ∷ []) digits (Each-all (λ d. IsChildOf path (path ++ d ∷ [])) (λ d. record { longer = length-append path (d ∷ []); begins = begins-longer path d }) digits)

last_of : (path : List ℕ) (d : ℕ) → get_or (path ++ d ∷ []) (length path) 0 ≡ d
last_of [] d = refl
last_of (x ∷ path) d = last_of path d

-- numbers that rise from one on
abbrev Rise : ℕ → List ℕ → Type 0
Rise n [] = Unit {0}
Rise n (d ∷ ds) = (n ≤ d) × Rise (suc d) ds

from_low : (n m : ℕ) (ds : List ℕ) → n ≤ m → Rise m ds → Each (λ e. n ≤ e) ds
from_low n m [] h r = tt
from_low n m (d ∷ ds) h r = (omega (arith, h, r.0), from_low n (suc d) ds (omega (arith, h, r.0)) r.1)

sixteen_rise : Rise 0 digits
unfolding digits
sixteen_rise = search (arith)

other_children : (path : List ℕ) (d n : ℕ) (ds : List ℕ) → suc d ≤ n → Rise n ds → is_member (map (λ e. path ++ e ∷ []) ds) (path ++ d ∷ []) ≡ false
other_children path d n ds h r =
    no_member (λ k. get_or k (length path) 0 ≢ d) (map (λ e. path ++ e ∷ []) ds)
    (Each-map (λ k. get_or k (length path) 0 ≢ d) (λ e. path ++ e ∷ []) ds
    (Each-weaker (λ e. suc d ≤ e) (λ e. get_or (path ++ e ∷ []) (length path) 0 ≢ d) (λ e l is. let at = last_of path e in omega (arith, at, is, l)) ds (from_low (suc d) n ds h r)))
    (path ++ d ∷ []) (λ never. never (last_of path d))

rising_distinct : (path : List ℕ) (n : ℕ) (ds : List ℕ) → Rise n ds → AreDistinct (map (λ e. path ++ e ∷ []) ds)
rising_distinct path n [] r = tt
rising_distinct path n (d ∷ ds) r = (other_children path d (suc d) ds (omega arith) r.1, rising_distinct path (suc d) ds r.1)

pub distinct_children : (path : List ℕ) → AreDistinct (child_paths path)
distinct_children path = rising_distinct path 0 digits sixteen_rise

-- ---- the children of several nodes

-- two paths of one length that begin a place are one
pub begins-one : (p q place : List ℕ) → length p ≡ length q → IsTrue (begins p place) → IsTrue (begins q place) → p ≡ q
begins-one [] [] place e h i = refl
begins-one [] (x ∷ q) place e h i = absurd (omega arith)
begins-one (x ∷ p) [] place e h i = absurd (omega arith)
begins-one (x ∷ p) (y ∷ q) [] e h i = absurd (cc)
begins-one (x ∷ p) (y ∷ q) (z ∷ place) e h i =
    elim (x == z) as (λ b. x == z ≡ b → IsTrue (b && begins p place) → x ∷ p ≡ y ∷ q) [
      | false ↦ λ _ h. absurd (cc)
      | true ↦ λ xz h. elim (y == z) as (λ b. y == z ≡ b → IsTrue (b && begins q place) → x ∷ p ≡ y ∷ q) [
        | false ↦ λ _ i. absurd (cc)
        | true ↦ λ yz i.
            let head : x ≡ y = (unsigned_Decides x z).0 xz ∙ sym ((unsigned_Decides y z).0 yz) in
            let tail = begins-one p q place (omega arith) h i in
            λ j. head j ∷ tail j
      ] refl i
    ] refl h

-- it begins with one of these
abbrev IsBelowOne : List (List ℕ) → List ℕ → Type 0
IsBelowOne paths k = (path : List ℕ) × (is_member paths path ≡ true) × IsChildOf path k

member_itself : (k : List ℕ) → eq_by_cmp (slice_cmp nat_cmp) k k ≡ true
member_itself k = (Equal-is (slice_cmp nat_cmp k k)).1 (tied_itself nat_list_cmp_total k)

below_one : (paths : List (List ℕ)) → Each (IsBelowOne paths) (flat_map child_paths paths)
below_one [] = tt
below_one (p ∷ ps) =
    Each-append (IsBelowOne (p ∷ ps)) (child_paths p) (flat_map child_paths ps)
    (Each-weaker (IsChildOf p) (IsBelowOne (p ∷ ps)) (λ k c. (p, or_first (eq_by_cmp (slice_cmp nat_cmp) p p) (is_member ps p) (member_itself p), c)) (child_paths p) (are_children p))
    (Each-weaker (IsBelowOne ps) (IsBelowOne (p ∷ ps)) (λ k c. (c.0, or_second (eq_by_cmp (slice_cmp nat_cmp) c.0 p) (is_member ps c.0) c.1, c.2)) (flat_map child_paths ps) (below_one ps))

-- all of one length
abbrev pub AreLong : ℕ → List (List ℕ) → Type 0
AreLong n paths = Each (λ path. length path ≡ n) paths

pub distinct-below : (n : ℕ) (paths : List (List ℕ)) → AreLong n paths → AreDistinct paths → AreDistinct (flat_map child_paths paths)
distinct-below n [] l d = tt
distinct-below n (p ∷ ps) l d =
    distinct-append (IsChildOf p) (IsBelowOne ps)
    (λ k c e.
    let long : length e.0 ≡ n = member_has (λ path. length path ≡ n) ps l.1 e.0 e.1 in
    let same : p ≡ e.0 = begins-one p e.0 k (l.0 ∙ sym long) c.begins e.2.begins in
    let none : is_member ps p ≡ false = d.0 in
    absurd (true≢false (sym e.1 ∙ ap (is_member ps) (sym same) ∙ none)))
    (child_paths p) (flat_map child_paths ps) (are_children p) (below_one ps) (distinct_children p) (distinct-below n ps l.1 d.1)

pub long-below : (n : ℕ) (paths : List (List ℕ)) → AreLong n paths → AreLong (n + 1) (flat_map child_paths paths)
long-below n paths l =
    Each-flat_map (λ k. length k ≡ n + 1) child_paths paths
    (Each-weaker (λ path. length path ≡ n) (λ path. Each (λ k. length k ≡ n + 1) (child_paths path)) (λ path e. Each-weaker (IsChildOf path) (λ k. length k ≡ n + 1) (λ k c. c.longer ∙ ap (λ m. m + 1) e) (child_paths path) (are_children path)) paths l)

-- ---- as many nodes as keys

-- whether one of the keys is under a path
abbrev has_key : List ℕ → List (List ℕ) → Bool
has_key path ks = list_any (is_under path) ks

-- the keys that are elsewhere
abbrev elsewhere : List ℕ → List (List ℕ) → List (List ℕ)
elsewhere path ks = filter (λ k. not (is_under path k)) ks

elsewhere-le : (path : List ℕ) (ks : List (List ℕ)) → length (elsewhere path ks) ≤ length ks
elsewhere-le path [] = omega arith
elsewhere-le path (k ∷ ks) =
    let rest = elsewhere-le path ks in
    elim (is_under path k) as (λ b. length (cond (not b) (k ∷ elsewhere path ks) (elsewhere path ks)) ≤ length (k ∷ ks)) [
      | true ↦ omega (arith, rest)
      | false ↦ omega (arith, rest)
    ]

elsewhere-fewer : (path : List ℕ) (ks : List (List ℕ)) → has_key path ks ≡ true → length (elsewhere path ks) + 1 ≤ length ks
elsewhere-fewer path [] h = absurd (cc)
elsewhere-fewer path (k ∷ ks) h =
    let all = elsewhere-le path ks in
    elim (is_under path k) as (λ b. (b || has_key path ks) ≡ true → length (cond (not b) (k ∷ elsewhere path ks) (elsewhere path ks)) + 1 ≤ length (k ∷ ks)) [
      | true ↦ λ _. omega (arith, all)
      | false ↦ λ h. let rest = elsewhere-fewer path ks h in omega (arith, rest)
    ] h

-- distinct nodes of one length, each with one of the keys under it, are no more than the keys
pub few_nodes : (n : ℕ) (paths ks : List (List ℕ)) → AreLong n paths → AreDistinct paths → Each (λ path. has_key path ks ≡ true) paths → length paths ≤ length ks
few_nodes n [] ks l d h = omega arith
few_nodes n (p ∷ ps) ks l d h =
    let apart : Each (λ q. eq_by_cmp (slice_cmp nat_cmp) p q ≡ false) ps = others p ps d.0 in
    let kept : Each (λ q. has_key q (elsewhere p ks) ≡ true) ps = Each-three p n ks ps l.0 l.1 apart h.1 in
    let rest = few_nodes n ps (elsewhere p ks) l.1 d.1 kept in
    let fewer = elsewhere-fewer p ks h.0 in
    omega (arith, rest, fewer)
  where
    others : (p : List ℕ) (ps : List (List ℕ)) → is_member ps p ≡ false → Each (λ q. eq_by_cmp (slice_cmp nat_cmp) p q ≡ false) ps
    others p [] h = tt
    others p (q ∷ ps) h = (or_left (eq_by_cmp (slice_cmp nat_cmp) p q) (is_member ps p) h, others p ps (or_right (eq_by_cmp (slice_cmp nat_cmp) p q) (is_member ps p) h))

    Each-three : (p : List ℕ) (n : ℕ) (ks ps : List (List ℕ)) → length p ≡ n → AreLong n ps → Each (λ q. eq_by_cmp (slice_cmp nat_cmp) p q ≡ false) ps → Each (λ q. has_key q ks ≡ true) ps → Each (λ q. has_key q (elsewhere p ks) ≡ true) ps
    Each-three p n ks [] e l a h = tt
    Each-three p n ks (q ∷ ps) e l a h = (
      any-filter (is_under q) (λ k. not (is_under p k)) ks
          (Each-all (λ k. is_under q k ≡ true → not (is_under p k) ≡ true) (λ k u. is_not (is_under p k) (λ v.
          let same : p ≡ q = begins-one p q (path_of_key k) (e ∙ sym l.0) v u in
          absurd (true≢false (sym (member_itself p) ∙ ap (eq_by_cmp (slice_cmp nat_cmp) p) same ∙ a.0)))) ks) h.0,
      Each-three p n ks ps e l.1 a.1 h.1,
    )

-- ---- a node that differs has a key that differs under it

stable_list : (xs ys : List ℕ) → ((xs ≡ ys → ⊥) → ⊥) → xs ≡ ys
stable_list xs ys h =
    elim (bytes_eq xs ys) as (λ b. bytes_eq xs ys ≡ b → xs ≡ ys) [
      | true ↦ λ e. (bytes_eq-Decides xs ys).0 e
      | false ↦ λ e. absurd (h (λ s. true≢false (sym ((bytes_eq-Decides xs ys).1 s) ∙ e)))
    ] refl

stable_option : (x y : Option (List ℕ)) → ((x ≡ y → ⊥) → ⊥) → x ≡ y
stable_option None None h = refl
stable_option None (Some t) h = absurd (h (λ e. absurd (cc)))
stable_option (Some s) None h = absurd (h (λ e. absurd (cc)))
stable_option (Some s) (Some t) h = ap Some (stable_list s t (λ no. h (λ e. no (cc))))

none_passes : {X : Type 0} (test : X → Bool) (xs : List X) → list_any test xs ≡ false → Each (λ x. test x ≡ false) xs
none_passes test [] h = tt
none_passes test (x ∷ xs) h = (or_left (test x) (list_any test xs) h, none_passes test xs (or_right (test x) (list_any test xs) h))

pub differing_has_key : {S : Type 0} (spelled : List ℕ → S → List ℕ) (a b : FinMap key_cmp S) (ks : List (List ℕ)) → ((k : List ℕ) → get a k ≢ get b k → is_member ks k ≡ true) → (path : List ℕ) → differs_at (digests_of spelled a) (digests_of spelled b) path ≡ true → has_key path ks ≡ true
differing_has_key spelled a b ks all path h =
    elim (has_key path ks) as (λ x. has_key path ks ≡ x → x ≡ true) [
      | true ↦ λ _. refl
      | false ↦ λ none. absurd (differs-is (digests_of spelled a) (digests_of spelled b) path h
          (digest_above-same (3 - length path) path (digests_of spelled a) (digests_of spelled b) (λ k u.
          stable_option (get (digests_of spelled a) k) (get (digests_of spelled b) k) (λ apart.
          let differ : get a k ≢ get b k = λ e. apart (get-digests_of spelled a k ∙ ap (option_map (key_digest spelled k)) e ∙ sym (get-digests_of spelled b k)) in
          let not_under : is_under path k ≡ false = member_has (λ k. is_under path k ≡ false) ks (none_passes (is_under path) ks none) k (all k differ) in
          true≢false (sym u ∙ not_under)))))
    ] refl

-- ---- a key whose nodes differ is below the children that differ

any-children : (n : ℕ) (paths : List (List ℕ)) (k : List ℕ) → n < 3 → AreLong n paths → has_below paths k ≡ true → has_below (flat_map child_paths paths) k ≡ true
any-children n [] k short l h = h
any-children n (p ∷ ps) k short l h =
    list_any-append (λ path. is_under path k) (child_paths p) (flat_map child_paths ps)
    ∙ elim (or_cases (is_under p k) (has_below ps k) h) [
      | inl u ↦
          let d = get_or (path_of_key k) (length p) 0 in
          let small : d < 16 = digits_small k (length p) in
          let sixteen = sixteen_digits in
          let long = length-map digits (λ d. p ++ d ∷ []) in
          let three = place_length k in
          let more = begins-more p (path_of_key k) (omega (arith, three, short, l.0)) u in
          let at : get_or (child_paths p) d [] ≡ p ++ d ∷ [] = get_or-map (λ d. p ++ d ∷ []) digits d 0 [] (omega (arith, small, sixteen)) ∙ ap (λ d. p ++ d ∷ []) (digit_at d small) in
          or_first (has_below (child_paths p) k) (has_below (flat_map child_paths ps) k)
          (list_any_at (λ path. is_under path k) (child_paths p) d [] (omega (arith, small, sixteen, long)) (ap (λ path. is_under path k) at ∙ more))
      | inr r ↦ or_second (has_below (child_paths p) k) (has_below (flat_map child_paths ps) k) (any-children n ps k short l.1 r)
    ]

pub whole_below : (a b : KeyDigests) (n : ℕ) (paths : List (List ℕ)) (k : List ℕ) → n < 3 → AreLong n paths → ((path : List ℕ) → length path ≤ 3 → IsTrue (is_under path k) → differs_at a b path ≡ true) → has_below paths k ≡ true → has_below (differing_children a b paths) k ≡ true
whole_below a b n paths k short l differ h =
    let D = differs_at a b in
    let U : List ℕ → Bool = λ path. is_under path k in
    let first = any-filter U D paths (Each-weaker (λ path. length path ≡ n) (λ path. U path ≡ true → D path ≡ true) (λ path e u. differ path (omega (arith, e, short)) u) paths l) h in
    let kept = Each-filter (λ path. length path ≡ n) D paths l in
    let second = any-children n (filter D paths) k short kept first in
    any-filter U D (flat_map child_paths (filter D paths))
    (Each-weaker (λ path. length path ≡ n + 1) (λ path. U path ≡ true → D path ≡ true) (λ path e u. differ path (omega (arith, e, short)) u) (flat_map child_paths (filter D paths)) (long-below n (filter D paths) kept))
    second

-- ---- what is told of nodes

pub differing_children-append : (a b : KeyDigests) (ps qs : List (List ℕ)) → differing_children a b (ps ++ qs) ≡ differing_children a b ps ++ differing_children a b qs
differing_children-append a b ps qs =
    let D = differs_at a b in
    ap (λ xs. filter D (flat_map child_paths xs)) (filter-append D ps qs)
    ∙ ap (filter D) (flat_map-append child_paths (filter D ps) (filter D qs))
    ∙ filter-append D (flat_map child_paths (filter D ps)) (flat_map child_paths (filter D qs))

filter-map : {X Y : Type 0} (test : Y → Bool) (other : X → Bool) (f : X → Y) (xs : List X) → Each (λ x. test (f x) ≡ other x) xs → filter test (map f xs) ≡ map f (filter other xs)
filter-map test other f [] e = refl
filter-map test other f (x ∷ xs) e =
    ap (λ b. cond b (f x ∷ filter test (map f xs)) (filter test (map f xs))) e.0
    ∙ elim (other x) as (λ b. cond b (f x ∷ filter test (map f xs)) (filter test (map f xs)) ≡ map f (cond b (x ∷ filter other xs) (filter other xs))) [
      | true ↦ ap (λ ys. f x ∷ ys) (filter-map test other f xs e.1)
      | false ↦ filter-map test other f xs e.1
    ]

small_digits : Each (λ d. d < 16) digits
unfolding digits
small_digits = search (arith)

pub told-is : (a b : KeyDigests) (path : List ℕ) (mine theirs : List ℕ × List (List ℕ)) → mine.0 ≡ node_digest a path → mine.1 ≡ children_digests a path → theirs.0 ≡ node_digest b path → theirs.1 ≡ children_digests b path → told_children path mine theirs ≡ differing_children a b (path ∷ [])
told-is a b path mine theirs own children own' children' =
    let D = differs_at a b in
    let f : ℕ → List ℕ = λ d. path ++ d ∷ [] in
    let g : ℕ → Bool = λ d. not (bytes_eq (get_or mine.1 d []) (get_or theirs.1 d [])) in
    let same : bytes_eq mine.0 theirs.0 ≡ bytes_eq (node_digest a path) (node_digest b path) = λ i. bytes_eq (own i) (own' i) in
    let all : filter D (child_paths path) ≡ map f (filter g digits) =
    filter-map D g f digits (Each-weaker (λ d. d < 16) (λ d. D (f d) ≡ g d) (λ d small. let p = child_digest a path d small mine.1 children in let q = child_digest b path d small theirs.1 children' in sym (λ i. not (bytes_eq (p i) (q i)))) digits small_digits) in
    ap (λ b. cond b [] (map f (filter g digits))) same
    ∙ elim (bytes_eq (node_digest a path) (node_digest b path)) as (λ x. cond x [] (map f (filter g digits)) ≡ filter D (flat_map child_paths (cond (not x) (path ∷ []) []))) [
      | true ↦ refl
      | false ↦ sym (ap (filter D) (append-nil (child_paths path)) ∙ all)
    ]

-- the children told of the first digits
abbrev pub told_first : List ℕ → ℕ → List ℕ × List (List ℕ) → List ℕ × List (List ℕ) → List (List ℕ)
told_first path n mine theirs = map (λ d. path ++ d ∷ []) (filter (λ d. not (bytes_eq (get_or mine.1 d []) (get_or theirs.1 d []))) (take n digits))

first_digits : (d : ℕ) → d < 16 → take (d + 1) digits ≡ take d digits ++ d ∷ []
first_digits d h = let n = sixteen_digits in rw add-one (take-suc digits d 0 (omega (arith, n, h)) ∙ ap (λ e. take d digits ++ e ∷ []) (digit_at d h))

pub told_first-more : (path : List ℕ) (d : ℕ) (mine theirs : List ℕ × List (List ℕ)) → d < 16 → told_first path (d + 1) mine theirs ≡ told_first path d mine theirs ++ cond (bytes_eq (get_or mine.1 d []) (get_or theirs.1 d [])) [] ((path ++ d ∷ []) ∷ [])
told_first-more path d mine theirs h =
    let f : ℕ → List ℕ = λ d. path ++ d ∷ [] in
    let g : ℕ → Bool = λ d. not (bytes_eq (get_or mine.1 d []) (get_or theirs.1 d [])) in
    ap (λ ds. map f (filter g ds)) (first_digits d h)
    ∙ ap (map f) (filter-append g (take d digits) (d ∷ []))
    ∙ map-append f (filter g (take d digits)) (filter g (d ∷ []))
    ∙ ap (λ xs. map f (filter g (take d digits)) ++ xs)
    (elim (bytes_eq (get_or mine.1 d []) (get_or theirs.1 d [])) as (λ b. map f (cond (not b) (d ∷ []) []) ≡ cond b [] (f d ∷ [])) [ true ↦ refl | false ↦ refl ])

-- a child that is told, or not
pub told_step : (below old : List (List ℕ)) (path : List ℕ) (d : ℕ) (mine theirs : List ℕ × List (List ℕ)) → d < 16 → below ≡ old ++ told_first path d mine theirs
    → ((get_or mine.1 d [] ≡ get_or theirs.1 d [] → ⊥) → below ++ (path ++ d ∷ []) ∷ [] ≡ old ++ told_first path (d + 1) mine theirs)
    × (get_or mine.1 d [] ≡ get_or theirs.1 d [] → below ≡ old ++ told_first path (d + 1) mine theirs)
told_step below old path d mine theirs h e =
    let more = told_first-more path d mine theirs h in
    let at = bytes_eq-Decides (get_or mine.1 d []) (get_or theirs.1 d []) in
    let both : (b : Bool) → bytes_eq (get_or mine.1 d []) (get_or theirs.1 d []) ≡ b → below ++ cond b [] ((path ++ d ∷ []) ∷ []) ≡ old ++ told_first path (d + 1) mine theirs =
    λ b is. ap (λ xs. xs ++ cond b [] ((path ++ d ∷ []) ∷ [])) e ∙ append_assoc old (told_first path d mine theirs) (cond b [] ((path ++ d ∷ []) ∷ [])) ∙ ap (λ xs. old ++ xs) (ap (λ b. told_first path d mine theirs ++ cond b [] ((path ++ d ∷ []) ∷ [])) (sym is) ∙ sym more) in (
      λ other. both false (is_false (bytes_eq (get_or mine.1 d []) (get_or theirs.1 d [])) (λ t. other (at.0 t))),
      λ same. sym (append-nil below) ∙ both true (at.1 same),
    )
  where
    is_false : (b : Bool) → (b ≡ true → ⊥) → b ≡ false
    is_false true h = absurd (h refl)
    is_false false h = refl

pub told_last : (path : List ℕ) (mine theirs : List ℕ × List (List ℕ)) → (mine.0 ≡ theirs.0 → ⊥) → told_first path 16 mine theirs ≡ told_children path mine theirs
told_last path mine theirs other =
    let n = sixteen_digits in
    elim (bytes_eq mine.0 theirs.0) as (λ b. bytes_eq mine.0 theirs.0 ≡ b → told_first path 16 mine theirs ≡ cond b [] (map (λ d. path ++ d ∷ []) (filter (λ d. not (bytes_eq (get_or mine.1 d []) (get_or theirs.1 d []))) digits))) [
      | true ↦ λ e. absurd (other ((bytes_eq-Decides mine.0 theirs.0).0 e))
      | false ↦ λ _. ap (λ ds. map (λ d. path ++ d ∷ []) (filter (λ d. not (bytes_eq (get_or mine.1 d []) (get_or theirs.1 d []))) ds)) (take_all 16 digits (omega (arith, n)))
    ] refl

pub told_none : (path : List ℕ) (mine theirs : List ℕ × List (List ℕ)) → mine.0 ≡ theirs.0 → told_children path mine theirs ≡ []
told_none path mine theirs same = ap (λ b. cond b [] (map (λ d. path ++ d ∷ []) (filter (λ d. not (bytes_eq (get_or mine.1 d []) (get_or theirs.1 d []))) digits))) ((bytes_eq-Decides mine.0 theirs.0).1 same)
