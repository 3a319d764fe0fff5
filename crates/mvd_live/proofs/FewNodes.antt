-- The descent asks about few nodes: under each stands a key that differed.
use Rattle.std.proofs.Common.{◌≡◌, inl, inr, ℕ, zero, suc, ◌+◌, ◌*◌, ◌<◌, ◌≤◌, Bool, true, false, cond, List, [], ◌∷◌, ◌++◌, length, drop, refl, sym, ap, subst, ◌∙◌, arith, append-nil, append_assoc, length-append}
use Rattle.std.specs.List.{filter, flat_map, list_any}
use Rattle.std.proofs.lemmas.Bool.{cases_lt}
use Rattle.std.proofs.lemmas.List.{take-append-drop}
use Rattle.mvd_keys.specs.Writes.{Key}
use Rattle.mvd_tree.specs.HashTree.{is_under}
use Rattle.mvd_tree.specs.Page.{children_digests}
use Rattle.mvd_site.specs.Answer.{digests, spelled}
use Rattle.mvd_peer.specs.PushedStates.{Each}
use Rattle.mvd_peer.specs.Windows.{ForEach}
use Rattle.mvd_sync.specs.Level.{GoesDown, IsDown, Level, along, down, next_nodes}
use Rattle.mvd_sync.specs.Nodes.{child_paths, differing_children, differs_at}
use Rattle.mvd_sync.specs.Session.{AreDistinct}
use Rattle.mvd_sync.specs.Walk.{told, told_all}
use Rattle.mvd_sync.specs.declared.asking.Node.{Node}
use Rattle.mvd_sync.proofs.Descents.{Each-left, Each-right, Each-take, long_told_all}
use Rattle.mvd_sync.proofs.Keys.{Each-weaker}
use Rattle.mvd_sync.proofs.Nodes.{AreLong, Each-append, Each-passes, differing_has_key, distinct-below, few_nodes, told-is}
use Rattle.mvd_live.specs.Few.{HasAllThatDiffered}
use Rattle.mvd_live.proofs.Levels.{NodeAt}
use Rattle.mvd_live.proofs.Moments.{Frame}
use Rattle.mvd_live.proofs.Parts.{IsPart, distinct_first, distinct_last, part_append, part_distinct, part_filter}

-- a key that counts stands under it
abbrev pub HasKey : List Key → List ℕ → Type 0
HasKey keys path = list_any (is_under path) keys ≡ true

-- HOW FAR DOWN IT IS: of the nodes of this level some were told, and the others are left; those below, which differ, are
-- children of the ones that were told
pub record LevelFew (keys : List Key) (asked : ℕ) (at : Level) : Type 0 where
  pub gone : List (List ℕ)
  pub low : at.depth ≤ 3
  pub long : AreLong at.depth (gone ++ at.rest)
  pub distinct : AreDistinct (gone ++ at.rest)
  pub part : IsPart at.below (flat_map child_paths gone)
  pub below_long : AreLong (at.depth + 1) at.below
  pub below : Each (HasKey keys) at.below
  pub few : asked + length at.rest ≤ 1 + at.depth * length keys

flat_append : (xs ys : List (List ℕ)) → flat_map child_paths (xs ++ ys) ≡ flat_map child_paths xs ++ flat_map child_paths ys
flat_append [] ys = refl
flat_append (x ∷ xs) ys = ap (λ zs. child_paths x ++ zs) (flat_append xs ys) ∙ sym (append_assoc (child_paths x) (flat_map child_paths xs) (flat_map child_paths ys))

below_part : (path : List ℕ) (test : List ℕ → Bool) → IsPart (filter test (flat_map child_paths (filter test (path ∷ [])))) (child_paths path)
below_part path test = elim (test path) as (λ b. IsPart (filter test (flat_map child_paths (cond b (path ∷ []) []))) (child_paths path)) [
  | true ↦ subst (λ ps. IsPart (filter test ps) (child_paths path)) (sym (append-nil (child_paths path))) (part_filter test (child_paths path))
  | false ↦ tt
]

few_below : (n asked rest below most asked' : ℕ) → n < 3 → asked + rest ≤ 1 + n * most → asked' ≤ asked + rest → below ≤ most → asked' + below ≤ 1 + (n + 1) * most
few_below zero asked rest below most asked' low a b c = omega (arith, a, b, c)
few_below (suc zero) asked rest below most asked' low a b c = omega (arith, a, b, c)
few_below (suc (suc zero)) asked rest below most asked' low a b c = omega (arith, a, b, c)
few_below (suc (suc (suc n))) asked rest below most asked' low a b c = absurd (omega (arith, low))

module _ (f : Frame) (keys : List Key) (all : HasAllThatDiffered f.locals f.peers keys) where
  -- one node that both told
  one_few : (path : List ℕ) (m t : Node) → length path < 3 → NodeAt f.locals f.a f.a' path m → NodeAt f.peers f.b f.b' path t → Each (HasKey keys) (told path m t) × IsPart (told path m t) (child_paths path)
  one_few path m t low p q =
      let s = p.1.0 in
      let u = q.1.0 in
      let test = differs_at (digests s) (digests u) in
      let mine : m.children ≡ children_digests (digests s) path = let e = p.2.1 in let f = p.1.2.1 low in cc in
      let theirs : t.children ≡ children_digests (digests u) path = let e = q.2.1 in let f = q.1.2.1 low in cc in
      let is : told path m t ≡ differing_children (digests s) (digests u) (path ∷ []) =
      told-is (digests s) (digests u) path (m.own, m.children) (t.own, t.children) (p.2.0 ∙ p.1.2.0) mine (q.2.0 ∙ q.1.2.0) theirs in
      let passes = Each-passes test (flat_map child_paths (filter test (path ∷ []))) in (
        subst (Each (HasKey keys)) (sym is) (Each-weaker (λ x. test x ≡ true) (HasKey keys) (λ x d. differing_has_key spelled s u keys (all s u p.1.1.among q.1.1.among) x d) (differing_children (digests s) (digests u) (path ∷ [])) passes),
        subst (λ ps. IsPart ps (child_paths path)) (sym is) (below_part path test),
      )

  all_few : (n : ℕ) (paths : List (List ℕ)) (mine theirs : List Node) → n < 3 → AreLong n paths → ForEach (NodeAt f.locals f.a f.a') paths mine → ForEach (NodeAt f.peers f.b f.b') paths theirs
      → Each (HasKey keys) (told_all paths mine theirs) × IsPart (told_all paths mine theirs) (flat_map child_paths paths)
  all_few n [] mine theirs low long p q = (tt, tt)
  all_few n (path ∷ paths) [] theirs low long p q = absurd p
  all_few n (path ∷ paths) (m ∷ mine) [] low long p q = absurd q
  all_few n (path ∷ paths) (m ∷ mine) (t ∷ theirs) low long p q =
      let one = one_few path m t (let e = long.0 in omega (arith, low, e)) p.0 q.0 in
      let rest = all_few n paths mine theirs low long.1 p.1 q.1 in (
        Each-append (HasKey keys) (told path m t) (told_all paths mine theirs) one.0 rest.0,
        part_append (told path m t) (child_paths path) (told_all paths mine theirs) (flat_map child_paths paths) one.1 rest.1,
      )

  -- THE NEXT NODES WERE TOLD
  module _ (asked asked' : ℕ) (at : Level) (mine theirs : List Node) (few : LevelFew keys asked at) (more : IsDown at → ⊥)
      (p : ForEach (NodeAt f.locals f.a f.a') (next_nodes at) mine) (q : ForEach (NodeAt f.peers f.b f.b') (next_nodes at) theirs) (spent : asked' ≤ asked + length (next_nodes at)) where
    short : at.depth < 3
    short = elim (cases_lt at.depth 3) [ inl less ↦ less | inr not_less ↦ absurd (more (inl not_less)) ]

    found : List (List ℕ)
    found = at.below ++ told_all (next_nodes at) mine theirs

    next_long : AreLong at.depth (next_nodes at)
    next_long = Each-take (λ path. length path ≡ at.depth) 64 at.rest (Each-right (λ path. length path ≡ at.depth) few.gone at.rest few.long)

    here : Each (HasKey keys) (told_all (next_nodes at) mine theirs) × IsPart (told_all (next_nodes at) mine theirs) (flat_map child_paths (next_nodes at))
    here = all_few at.depth (next_nodes at) mine theirs short next_long p q

    found_keys : Each (HasKey keys) found
    unfolding found
    found_keys = Each-append (HasKey keys) at.below (told_all (next_nodes at) mine theirs) few.below here.0

    found_long : AreLong (at.depth + 1) found
    unfolding found
    found_long = Each-append (λ path. length path ≡ at.depth + 1) at.below (told_all (next_nodes at) mine theirs) few.below_long (long_told_all at.depth (next_nodes at) mine theirs next_long)

    found_part : IsPart found (flat_map child_paths (few.gone ++ next_nodes at))
    unfolding found
    found_part = subst (IsPart (at.below ++ told_all (next_nodes at) mine theirs)) (sym (flat_append few.gone (next_nodes at)))
        (part_append at.below (flat_map child_paths few.gone) (told_all (next_nodes at) mine theirs) (flat_map child_paths (next_nodes at)) few.part here.1)

    same : (few.gone ++ next_nodes at) ++ drop 64 at.rest ≡ few.gone ++ at.rest
    same = append_assoc few.gone (next_nodes at) (drop 64 at.rest) ∙ ap (λ ps. few.gone ++ ps) (take-append-drop 64 at.rest)

    cut : length (next_nodes at) + length (drop 64 at.rest) ≡ length at.rest
    cut = sym (length-append (next_nodes at) (drop 64 at.rest)) ∙ ap length (take-append-drop 64 at.rest)

    pub level_few : (new : Level) → GoesDown at mine theirs new → LevelFew keys asked' new
    unfolding found
    level_few new (along some is) = subst (LevelFew keys asked') (sym is) (record {
      gone = few.gone ++ next_nodes at;
      low = few.low;
      long = subst (AreLong at.depth) (sym same) few.long;
      distinct = subst AreDistinct (sym same) few.distinct;
      part = found_part;
      below_long = found_long;
      below = found_keys;
      few = let n = few.few in omega (arith, n, cut, spent);
    })
    level_few new (down none is) =
        let whole : AreLong at.depth (few.gone ++ next_nodes at) = Each-left (λ path. length path ≡ at.depth) (few.gone ++ next_nodes at) (drop 64 at.rest) (subst (AreLong at.depth) (sym same) few.long) in
        let once = distinct_first (few.gone ++ next_nodes at) (drop 64 at.rest) (subst AreDistinct (sym same) few.distinct) in
        let distinct = part_distinct found (flat_map child_paths (few.gone ++ next_nodes at)) found_part (distinct-below at.depth (few.gone ++ next_nodes at) whole once) in
        let most = few_nodes (at.depth + 1) found keys found_long distinct found_keys in
        subst (LevelFew keys asked') (sym is) (record {
          gone = [];
          low = omega (arith, short);
          long = found_long;
          distinct = distinct;
          part = tt;
          below_long = tt;
          below = tt;
          few = few_below at.depth asked (length at.rest) (length found) (length keys) asked' short few.few (omega (arith, spent, cut)) most;
        })

-- it begins with the root
pub first_few : (keys : List Key) → LevelFew keys 0 (record { depth = 0; rest = [] ∷ []; below = [] })
first_few keys = record {
  gone = [];
  low = omega arith;
  long = (refl, tt);
  distinct = (refl, tt);
  part = tt;
  below_long = tt;
  below = tt;
  few = omega arith;
}

-- its end: the buckets that differ, each once
pub level_ends : (keys : List Key) (asked : ℕ) (at : Level) → LevelFew keys asked at → IsDown at → AreDistinct at.rest × AreLong 3 at.rest × (asked + length at.rest ≤ 1 + 3 * length keys)
level_ends keys asked at few ended = (
  distinct_last few.gone at.rest few.distinct,
  elim ended [
    | inl deep ↦ subst (λ n. AreLong n at.rest) (let low = few.low in omega (arith, deep, low)) (Each-right (λ path. length path ≡ at.depth) few.gone at.rest few.long)
    | inr none ↦ subst (AreLong 3) (sym none) tt
  ],
  few_last at.depth (asked + length at.rest) (length keys) few.low few.few,
)
  where
    few_last : (n asked most : ℕ) → n ≤ 3 → asked ≤ 1 + n * most → asked ≤ 1 + 3 * most
    few_last zero asked most low a = omega (arith, a)
    few_last (suc zero) asked most low a = omega (arith, a)
    few_last (suc (suc zero)) asked most low a = omega (arith, a)
    few_last (suc (suc (suc zero))) asked most low a = omega (arith, a)
    few_last (suc (suc (suc (suc n)))) asked most low a = absurd (omega (arith, low))

-- and what is wanted next
pub level_wants : (keys : List Key) (asked : ℕ) (at : Level) → LevelFew keys asked at → asked + length (next_nodes at) ≤ 1 + 3 * length keys
level_wants keys asked at few =
    let n : length (next_nodes at) + length (drop 64 at.rest) ≡ length at.rest = sym (length-append (next_nodes at) (drop 64 at.rest)) ∙ ap length (take-append-drop 64 at.rest) in
    wants at.depth (asked + length at.rest) (length keys) few.low few.few (omega (arith, n))
  where
    wants : (n whole most : ℕ) → n ≤ 3 → whole ≤ 1 + n * most → asked + length (next_nodes at) ≤ whole → asked + length (next_nodes at) ≤ 1 + 3 * most
    wants zero whole most low a b = omega (arith, a, b)
    wants (suc zero) whole most low a b = omega (arith, a, b)
    wants (suc (suc zero)) whole most low a b = omega (arith, a, b)
    wants (suc (suc (suc zero))) whole most low a b = omega (arith, a, b)
    wants (suc (suc (suc (suc n)))) whole most low a b = absurd (omega (arith, low))
