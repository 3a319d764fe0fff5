-- What a tree answers of its nodes.
use Rattle.std.proofs.Common.{◌≡◌, ℕ, ◌+◌, ◌-◌, ◌*◌, ◌/◌, ◌%◌, ◌<◌, ◌≤◌, List, [], ◌∷◌, ◌++◌, length, take, get_or, map, refl, sym, ap, ◌∙◌, arith, None, Option}
use Rattle.std.specs.Prelude.{slice_range}
use Rattle.std.proofs.Math.ListN.{get_or-map}
use Rattle.std.proofs.Math.Nat.{min_comm}
use Rattle.std.specs.Prelude.{min}
use Rattle.std.proofs.lemmas.List.{ext_get_or, length-map, take_min}
use Rattle.std.specs.FinMap.{entries, empty, retain_keys}
use Rattle.mvd_tree.specs.HashTree.{KeyDigests, digits, digest_above}
use Rattle.mvd_tree.specs.Kept.{kept_node, digest_or_zeros}
use Rattle.mvd_tree.specs.Page.{children_digests, keys_after, is_after}
use Rattle.mvd_tree.specs.Layout.{IsPath, path_of_one, path_of_two, path_of_three, gathered, AreApart, KeepsLevel}
use Rattle.mvd_tree.proofs.KeptNodes.{digest_above-kept}
use Rattle.mvd_tree.proofs.Gathered.{rest_in_bucket}
use Rattle.mvd_tree.proofs.Changes.{any_default, by_digits, children_of_two, children_of_one}

-- a path of three digits, read as a number
pub record IsAtThree (path : List ℕ) : Type 0 where
  pub within : (get_or path 0 0 * 16 + get_or path 1 0) * 16 + get_or path 2 0 < 4096
  pub is : path ≡ path_of_three ((get_or path 0 0 * 16 + get_or path 1 0) * 16 + get_or path 2 0)

pub at_three : (path : List ℕ) → IsPath path → 3 ≤ length path → IsAtThree path
at_three [] p n = absurd (omega arith)
at_three (a ∷ []) p n = absurd (omega arith)
at_three (a ∷ b ∷ []) p n = absurd (omega arith)
at_three (a ∷ b ∷ c ∷ []) p n =
    let h : a < 16 = p.small 0 0 (omega arith) in
    let i : b < 16 = p.small 1 0 (omega arith) in
    let j : c < 16 = p.small 2 0 (omega arith) in
    let one : a ≡ ((a * 16 + b) * 16 + c) / 16 / 16 = omega arith in
    let two : b ≡ ((a * 16 + b) * 16 + c) / 16 % 16 = omega arith in
    let three : c ≡ ((a * 16 + b) * 16 + c) % 16 = omega arith in
    record { within = omega arith; is = λ t. one t ∷ two t ∷ three t ∷ [] }
at_three (a ∷ b ∷ c ∷ d ∷ path) p n = let s = p.short in absurd (omega arith)

pub kept_three : (held : KeyDigests) (nodes : List (Option (List ℕ))) (path : List ℕ) → KeepsLevel 0 path_of_three 4096 held nodes → IsPath path → 3 ≤ length path
    → get_or nodes ((get_or path 0 0 * 16 + get_or path 1 0) * 16 + get_or path 2 0) None ≡ kept_node (3 - length path) held path
kept_three held nodes path kept p n =
    let at = at_three path p n in
    let s = p.short in
    let none : 0 ≡ 3 - length path = omega arith in
    kept.each _ at.within ∙ ap (kept_node 0 held) (sym at.is) ∙ ap (λ levels. kept_node levels held path) none

map_twice : {X Y Z : Type 0} (f : X → Y) (g : Y → Z) (h : X → Z) (xs : List X) → ((x : X) → g (f x) ≡ h x) → map g (map f xs) ≡ map h xs
map_twice f g h [] e = refl
map_twice f g h (x ∷ xs) e = λ i. e x i ∷ map_twice f g h xs e i

-- the digests of sixteen children
told : (levels : ℕ) (held : KeyDigests) (path : List ℕ) (children : List (Option (List ℕ))) → children ≡ map (λ d. kept_node levels held (path ++ d ∷ [])) digits → map digest_or_zeros children ≡ map (λ d. digest_above levels held (path ++ d ∷ [])) digits
told levels held path children e =
    ap (map digest_or_zeros) e ∙ map_twice (λ d. kept_node levels held (path ++ d ∷ [])) digest_or_zeros (λ d. digest_above levels held (path ++ d ∷ [])) digits (λ d. sym (digest_above-kept levels held (path ++ d ∷ [])))

pub children_none : (held : KeyDigests) (nodes : List (Option (List ℕ))) (path : List ℕ) → KeepsLevel 2 path_of_one 16 held nodes → length path < 1 → map digest_or_zeros nodes ≡ children_digests held path
children_none held nodes [] kept n = told 2 held [] nodes (by_digits (λ d. kept_node 2 held (d ∷ [])) None nodes kept.all (λ k l. kept.each k l))
children_none held nodes (a ∷ path) kept n = absurd (omega arith)

pub children_one : (held : KeyDigests) (nodes : List (Option (List ℕ))) (path : List ℕ) → KeepsLevel 1 path_of_two 256 held nodes → IsPath path → 1 ≤ length path → length path < 2
    → map digest_or_zeros (slice_range nodes (get_or path 0 0 * 16) (get_or path 0 0 * 16 + 16)) ≡ children_digests held path
children_one held nodes [] kept p n m = absurd (omega arith)
children_one held nodes (a ∷ []) kept p n m =
    let h : a < 16 = p.small 0 0 (omega arith) in
    told 1 held (a ∷ []) _ (children_of_one held nodes a kept h)
children_one held nodes (a ∷ b ∷ path) kept p n m = absurd (omega arith)

pub children_two : (held : KeyDigests) (nodes : List (Option (List ℕ))) (path : List ℕ) → KeepsLevel 0 path_of_three 4096 held nodes → IsPath path → 2 ≤ length path → length path < 3
    → map digest_or_zeros (slice_range nodes ((get_or path 0 0 * 16 + get_or path 1 0) * 16) ((get_or path 0 0 * 16 + get_or path 1 0) * 16 + 16)) ≡ children_digests held path
children_two held nodes [] kept p n m = absurd (omega arith)
children_two held nodes (a ∷ []) kept p n m = absurd (omega arith)
children_two held nodes (a ∷ b ∷ []) kept p n m =
    let h : a < 16 = p.small 0 0 (omega arith) in
    let i : b < 16 = p.small 1 0 (omega arith) in
    let one : (a * 16 + b) / 16 ≡ a = omega arith in
    let two : (a * 16 + b) % 16 ≡ b = omega arith in
    told 0 held (a ∷ b ∷ []) _ (children_of_two held nodes (a * 16 + b) kept (omega arith) ∙ ap (λ path. map (λ d. kept_node 0 held (path ++ d ∷ [])) digits) (λ t. one t ∷ two t ∷ []))
children_two held nodes (a ∷ b ∷ c ∷ path) kept p n m = absurd (omega arith)

-- the keys of a bucket after a key
pub rest_three : (bs : List KeyDigests) (path : List ℕ) (after : Option (List ℕ)) (b : KeyDigests) → length bs ≡ 4096 → AreApart bs → IsPath path → 3 ≤ length path
    → b ≡ get_or bs ((get_or path 0 0 * 16 + get_or path 1 0) * 16 + get_or path 2 0) b → entries (retain_keys b (is_after after)) ≡ entries (keys_after (gathered bs) path after)
rest_three bs path after b all apart p n e =
    let at = at_three path p n in
    ap (λ m. entries (retain_keys m (is_after after))) (e ∙ any_default bs _ b empty (omega (arith, all, at.within)))
    ∙ ap entries (sym (rest_in_bucket bs apart _ after)) ∙ ap (λ path. entries (keys_after (gathered bs) path after)) (sym at.is)

-- the digests of sixteen nodes, one by one
pub all_told : (nodes : List (Option (List ℕ))) (digests : List (List ℕ)) → length nodes ≡ 16 → length digests ≡ 16 → ((k : ℕ) → k < 16 → get_or digests k [] ≡ digest_or_zeros (get_or nodes k None)) → digests ≡ map digest_or_zeros nodes
all_told nodes digests n m h =
    ext_get_or [] digests (map digest_or_zeros nodes) (m ∙ sym n ∙ sym (length-map nodes digest_or_zeros)) (λ k l. let s : k < 16 = omega arith in
    h k s ∙ sym (any_default (map digest_or_zeros nodes) k [] (digest_or_zeros None) (omega (arith, length-map nodes digest_or_zeros)) ∙ get_or-map digest_or_zeros nodes k None))

pub first_thousand : {X : Type 0} (xs : List X) → take (min (length xs) 1000) xs ≡ take 1000 xs
first_thousand xs = ap (λ n. take n xs) (min_comm (length xs) 1000) ∙ take_min 1000 xs
