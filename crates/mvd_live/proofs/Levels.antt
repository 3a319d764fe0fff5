-- The descent: a key whose digests differ at two moments is below a child that is told.
use Rattle.std.proofs.Common.{◌≡◌, ◌⊎◌, inl, inr, ℕ, ◌+◌, ◌<◌, ◌≤◌, ◌||◌, true, false, List, [], ◌∷◌, ◌++◌, length, drop, sym, ap, subst, ◌∙◌, arith, append-nil}
use Rattle.std.specs.Prelude.{IsTrue}
use Rattle.std.specs.FinMap.{get}
use Rattle.std.proofs.lemmas.Bool.{cases_lt}
use Rattle.mvd_keys.specs.Writes.{Key}
use Rattle.mvd_tree.specs.HashTree.{is_under}
use Rattle.mvd_tree.specs.Page.{children_digests}
use Rattle.mvd_wire.specs.declared.reply.Digests.{Digests}
use Rattle.mvd_site.specs.Answer.{digests}
use Rattle.mvd_site.specs.Held.{States}
use Rattle.mvd_peer.specs.PushedStates.{Each}
use Rattle.mvd_peer.specs.Windows.{ForEach, IsNode}
use Rattle.mvd_sync.specs.Level.{GoesDown, IsDown, Level, along, down, next_nodes}
use Rattle.mvd_sync.specs.Nodes.{differing_children, differs_at}
use Rattle.mvd_sync.proofs.Walk.{has_below}
use Rattle.mvd_sync.specs.Tellings.{IsNodeOf}
use Rattle.mvd_sync.specs.Walk.{told, told_all}
use Rattle.mvd_sync.specs.declared.asking.Node.{Node}
use Rattle.mvd_sync.proofs.Descents.{long_told_all}
use Rattle.mvd_sync.proofs.Keys.{or_cases}
use Rattle.mvd_sync.proofs.Nodes.{differs-from, told-is, whole_below}
use Rattle.mvd_live.specs.Lives.{TellApart}
use Rattle.mvd_live.proofs.Moments.{AtMoment, Frame, Had, digest_or_not, digests_had, node_same}
use Rattle.mvd_live.proofs.Some.{AnyOf, any_cut, any_left, any_right, any_with}

-- a node under which the key stands, so deep
abbrev pub IsOver : Key → ℕ → List ℕ → Type 0
IsOver key depth path = (length path ≡ depth) × IsTrue (is_under path key)

-- A KEY IS STILL TO BE DESCENDED TO: a node over it is left, or was found, and then others are left
abbrev pub InLevel : Key → Level → Type 0
InLevel key at = AnyOf (IsOver key at.depth) at.rest ⊎ (AnyOf (IsOver key (at.depth + 1)) at.below × (IsDown at → ⊥))

some_below : (key : Key) (paths : List (List ℕ)) → has_below paths key ≡ true → AnyOf (λ path. IsTrue (is_under path key)) paths
some_below key [] h = absurd (cc)
some_below key (path ∷ paths) h = elim (or_cases (is_under path key) (has_below paths key) h) [ inl here ↦ inl here | inr later ↦ inr (some_below key paths later) ]

-- a node as a side told it at a moment
abbrev pub NodeAt : List States → States → States → List ℕ → Node → Type 0
NodeAt moments first last path node = (d : Digests) × AtMoment moments first last (λ held. IsNode (digests held) path d) × IsNodeOf d node

module _ (f : Frame) (apart : TellApart f.locals f.peers) (key : Key) where
  -- one node that both told
  one_told : (n : ℕ) (path : List ℕ) (m t : Node) → n < 3 → NodeAt f.locals f.a f.a' path m → NodeAt f.peers f.b f.b' path t → IsOver key n path → Had f key ⊎ AnyOf (IsOver key (n + 1)) (told path m t)
  one_told n path m t short p q over =
      let s = p.1.0 in
      let u = q.1.0 in
      let sp = p.1.1 in
      let sq = q.1.1 in
      let hashes = apart s u sp.among sq.among in
      elim (digest_or_not (get (digests s) key) (get (digests u) key)) [
        | inl same ↦ inl (digests_had f key apart s u sp sq same)
        | inr other ↦
            let mine : m.children ≡ children_digests (digests s) path = let e = p.2.1 in let f = p.1.2.1 (omega (arith, short, over.0)) in cc in
            let theirs : t.children ≡ children_digests (digests u) path = let e = q.2.1 in let f = q.1.2.1 (omega (arith, short, over.0)) in cc in
            let is : told path m t ≡ differing_children (digests s) (digests u) (path ∷ []) =
            told-is (digests s) (digests u) path (m.own, m.children) (t.own, t.children) (p.2.0 ∙ p.1.2.0) mine (q.2.0 ∙ q.1.2.0) theirs in
            let differ : (below : List ℕ) → length below ≤ 3 → IsTrue (is_under below key) → differs_at (digests s) (digests u) below ≡ true =
            λ below low under. differs-from (digests s) (digests u) below (λ e. other (node_same s u sp.form sq.form hashes below low key under e)) in
            let found = whole_below (digests s) (digests u) n (path ∷ []) key short (over.0, tt) differ (ap (λ b. b || false) over.1) in
            let some = some_below key (told path m t) (subst (λ ps. has_below ps key ≡ true) (sym is) found) in
            let long : Each (λ child. length child ≡ n + 1) (told path m t) = subst (Each (λ child. length child ≡ n + 1)) (append-nil (told path m t)) (long_told_all n (path ∷ []) (m ∷ []) (t ∷ []) (over.0, tt)) in
            inr (any_with (λ path. IsTrue (is_under path key)) (λ child. length child ≡ n + 1) (IsOver key (n + 1)) (λ child under e. (e, under)) (told path m t) some long)
      ]

  pub all_told : (n : ℕ) (paths : List (List ℕ)) (mine theirs : List Node) → n < 3 → ForEach (NodeAt f.locals f.a f.a') paths mine → ForEach (NodeAt f.peers f.b f.b') paths theirs → AnyOf (IsOver key n) paths
      → Had f key ⊎ AnyOf (IsOver key (n + 1)) (told_all paths mine theirs)
  all_told n [] mine theirs short p q never = absurd never
  all_told n (path ∷ paths) [] theirs short p q some = absurd p
  all_told n (path ∷ paths) (m ∷ mine) [] short p q some = absurd q
  all_told n (path ∷ paths) (m ∷ mine) (t ∷ theirs) short p q (inl here) =
      elim (one_told n path m t short p.0 q.0 here) [ inl had ↦ inl had | inr found ↦ inr (any_left (IsOver key (n + 1)) (told path m t) (told_all paths mine theirs) found) ]
  all_told n (path ∷ paths) (m ∷ mine) (t ∷ theirs) short p q (inr later) =
      elim (all_told n paths mine theirs short p.1 q.1 later) [ inl had ↦ inl had | inr found ↦ inr (any_right (IsOver key (n + 1)) (told path m t) (told_all paths mine theirs) found) ]

  above : (at : Level) → (IsDown at → ⊥) → at.depth < 3
  above at more = elim (cases_lt at.depth 3) [ inl less ↦ less | inr not_less ↦ absurd (more (inl not_less)) ]

  -- THE NEXT NODES WERE TOLD: the key was found equal, or is still to be descended to
  pub goes_down : (at new : Level) (mine theirs : List Node) → (IsDown at → ⊥) → ForEach (NodeAt f.locals f.a f.a') (next_nodes at) mine → ForEach (NodeAt f.peers f.b f.b') (next_nodes at) theirs → GoesDown at mine theirs new → InLevel key at
      → Had f key ⊎ InLevel key new
  goes_down at new mine theirs more p q (along some is) (inl left) =
      elim (any_cut (IsOver key at.depth) 64 at.rest left) [
        | inl next ↦ elim (all_told at.depth (next_nodes at) mine theirs (above at more) p q next) [
          | inl had ↦ inl had
          | inr found ↦ inr (subst (InLevel key) (sym is) (inr (any_right (IsOver key (at.depth + 1)) at.below (told_all (next_nodes at) mine theirs) found, still)))
        ]
        | inr rest ↦ inr (subst (InLevel key) (sym is) (inl rest))
      ]
    where
      still : IsDown (record { depth = at.depth; rest = drop 64 at.rest; below = at.below ++ told_all (next_nodes at) mine theirs }) → ⊥
      still (inl three) = more (inl three)
      still (inr none) = some none
  goes_down at new mine theirs more p q (along some is) (inr found) =
      inr (subst (InLevel key) (sym is) (inr (any_left (IsOver key (at.depth + 1)) at.below (told_all (next_nodes at) mine theirs) found.0, still)))
    where
      still : IsDown (record { depth = at.depth; rest = drop 64 at.rest; below = at.below ++ told_all (next_nodes at) mine theirs }) → ⊥
      still (inl three) = more (inl three)
      still (inr none) = some none
  goes_down at new mine theirs more p q (down none is) (inl left) =
      elim (any_cut (IsOver key at.depth) 64 at.rest left) [
        | inl next ↦ elim (all_told at.depth (next_nodes at) mine theirs (above at more) p q next) [
          | inl had ↦ inl had
          | inr found ↦ inr (subst (InLevel key) (sym is) (inl (any_right (IsOver key (at.depth + 1)) at.below (told_all (next_nodes at) mine theirs) found)))
        ]
        | inr rest ↦ absurd (subst (AnyOf (IsOver key at.depth)) none rest)
      ]
  goes_down at new mine theirs more p q (down none is) (inr found) =
      inr (subst (InLevel key) (sym is) (inl (any_left (IsOver key (at.depth + 1)) at.below (told_all (next_nodes at) mine theirs) found.0)))
