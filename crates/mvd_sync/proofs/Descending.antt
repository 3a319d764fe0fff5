-- A descent between two windows of questions.
use Rattle.std.proofs.Common.{◌≡◌, ◌≢◌, ℕ, zero, suc, ◌+◌, ◌*◌, ◌<◌, ◌-◌, ◌≤◌, ◌↔◌, inl, inr, List, [], ◌∷◌, ◌++◌, length, take, drop, refl, sym, ap, subst, ◌∙◌, arith, append-nil, append_assoc, length-drop}
use Rattle.std.proofs.lemmas.List.{drop-drop, length-take, take-append-drop, take_all}
use Rattle.mvd_dots.specs.declared.refusals.Refusal.{Refusal}
use Rattle.mvd_dots.specs.declared.refusals.Refusal.TheVariants.{Memory}
use Rattle.mvd_site.specs.Answer.{digests}
use Rattle.mvd_site.specs.Held.{AreHeld}
use Rattle.mvd_peer.specs.PushedStates.{Each}
use Rattle.mvd_peer.specs.Sides.{HasAnswered, SideOf}
use Rattle.mvd_sync.specs.Level.{GoesDown, IsDown, Level, along, down, found_by, next_nodes}
use Rattle.mvd_sync.proofs.Readings.{AllAnswered, AnswersEach, ComesToEnd, IsInner, Keeps, with_left}
use Rattle.mvd_sync.proofs.Walk.{ReadsSide}
use Rattle.mvd_sync.specs.Walk.{told_all}
use Rattle.mvd_sync.specs.declared.asking.Node.{Node}
use Rattle.mvd_sync.specs.declared.asking.Questions.{Questions}
use Rattle.mvd_sync.specs.declared.report.SyncFault.TheVariants.{Local, Peer}
use Rattle.mvd_sync.proofs.Compose.{Moves, answered_still}
use Rattle.mvd_sync.proofs.Descents.{Each-right, Each-take, descends_more, nothing_asked, reads_of, reads_on}
use Rattle.mvd_sync.proofs.Fails.{local_fails, memory_fails, peer_fails, window_fits}
use Rattle.mvd_sync.proofs.Keys.{Each-weaker}
use Rattle.mvd_sync.proofs.Pages.{no_entries}
use Rattle.mvd_sync.proofs.Positions.{AreFewForBy, DescendsBy, FindsBucketsBy, ReadsEndBy}
use Rattle.mvd_sync.proofs.Walks.{Walks, walk_ends, walks_on}

-- so it stands: the levels above are gone through, and of this one these nodes
pub record StandsAt {L P : Type 0} (l : SideOf L) (p : SideOf P) (left left' : Questions) (local local' : L) (peer peer' : P) (at : Level) : Type 0 where
  pub mid : Questions
  pub local1 : L
  pub peer1 : P
  pub done : List (List ℕ)
  pub walks : Walks l p at.depth left mid local local1 peer peer1 (done ++ at.rest)
  pub level : DescendsBy l p done mid left' local1 local' peer1 peer' at.below
  pub fresh : IsDown at → done ≡ []
  pub high : at.depth ≤ 3

-- ---- lists

-- all were told, where none is left
pub none_left : (told : ℕ) (paths : List (List ℕ)) → told ≤ length paths → (told ≡ length paths) ↔ (drop told paths ≡ [])
none_left told paths low = (
  λ all. no_entries (drop told paths) (let n = length-drop told paths in omega (arith, n, all)),
  λ none. let n = length-drop told paths in let z : length (drop told paths) ≡ 0 = ap length none in omega (arith, n, z, low),
)

-- what is left of a slice, as it is taken of it
pub rest_told : (all paths : List (List ℕ)) (told : ℕ) → all ≡ paths → take (length all - told) (drop told all) ≡ drop told paths
rest_told all paths told is = take_all (length all - told) (drop told all) (let n = length-drop told all in omega (arith, n)) ∙ ap (drop told) is

-- a descent that is done above the buckets has come to none
pub no_buckets : (at : Level) → IsDown at → at.depth < 3 → [] ≡ at.rest
no_buckets at (inl three) high = absurd (omega (arith, three, high))
no_buckets at (inr none) high = sym none

module _ (old : Level) (depth told count : ℕ) (paths below found : List (List ℕ)) (mine theirs : List Node)
    (view : record { depth = depth; rest = drop told paths; below = below } ≡ old) (counted : count ≡ length (take 64 (drop told paths)))
    (is : found ≡ below ++ told_all (take 64 (drop told paths)) mine theirs) where
  -- others of the level are left
  pub goes_along : told + count < length paths → GoesDown old mine theirs (record { depth = depth; rest = drop (told + count) paths; below = found })
  goes_along low =
      let a = length-drop told paths in
      let b = length-drop 64 (drop told paths) in
      let c = length-take 64 (drop told paths) in
      let full : count ≡ 64 = omega (arith, a, c, counted, low) in
      let rest : drop (told + count) paths ≡ drop 64 (drop told paths) = ap (λ k. drop (told + k) paths) full ∙ sym (drop-drop 64 told paths) in
      let new : GoesDown (record { depth = depth; rest = drop told paths; below = below }) mine theirs (record { depth = depth; rest = drop (told + count) paths; below = found }) =
      along (λ none. let z : length (drop 64 (drop told paths)) ≡ 0 = ap length none in absurd (omega (arith, a, b, z, full, low))) (λ i. record { depth = depth; rest = rest i; below = is i }) in
      subst (λ at. GoesDown at mine theirs (record { depth = depth; rest = drop (told + count) paths; below = found })) view new

  -- it was the last
  pub goes_down : (next none : List (List ℕ)) → next ≡ found → none ≡ [] → length paths ≤ told + count → GoesDown old mine theirs (record { depth = depth + 1; rest = next; below = none })
  goes_down next none same empty low =
      let a = length-drop told paths in
      let b = length-drop 64 (drop told paths) in
      let c = length-take 64 (drop told paths) in
      let new : GoesDown (record { depth = depth; rest = drop told paths; below = below }) mine theirs (record { depth = depth + 1; rest = next; below = none }) =
      down (no_entries (drop 64 (drop told paths)) (omega (arith, a, b, c, counted, low))) (λ i. record { depth = depth + 1; rest = (same ∙ is) i; below = empty i }) in
      subst (λ at. GoesDown at mine theirs (record { depth = depth + 1; rest = next; below = none })) view new

-- ---- how it stands

-- a side told of nodes
abbrev pub ToldNodes : {S : Type 0} → SideOf S → List (List ℕ) → List Node → (left left' : ℕ) → (old new : S) → Type 0
ToldNodes s paths nodes left left' old new =
    AllAnswered s (λ _ _. HasAnswered s.follows s.can_answer old new) (AnswersEach s (IsInner (digests (s.states old))) paths nodes old new) paths nodes (with_left old left) (with_left new left')

few_reached : (n asked paths most : ℕ) → n ≤ 3 → asked + paths ≤ 1 + n * most → asked + paths ≤ 1 + 3 * most
few_reached zero asked paths most low a = omega (arith, a)
few_reached (suc zero) asked paths most low a = omega (arith, a)
few_reached (suc (suc zero)) asked paths most low a = omega (arith, a)
few_reached (suc (suc (suc zero))) asked paths most low a = a
few_reached (suc (suc (suc (suc n)))) asked paths most low a = absurd (omega (arith, low))

deep_reached : (n : ℕ) (paths : List (List ℕ)) → n ≤ 3 → Each (λ path. length path ≡ n) paths → IsDown (record { depth = n; rest = paths; below = [] }) → Each (λ path. length path ≡ 3) paths
deep_reached n paths low long (inl three) = subst (λ n. Each (λ path. length path ≡ n) paths) (omega (arith, low, three)) long
deep_reached n paths low long (inr none) = subst (Each (λ path. length path ≡ 3)) (sym none) tt

some_level : (n : ℕ) (paths : List (List ℕ)) → (n ≡ 0 → paths ≢ []) → IsDown (record { depth = n; rest = paths; below = [] }) → 1 ≤ n
some_level zero paths some (inl three) = absurd (omega (arith, three))
some_level zero paths some (inr none) = absurd (some refl none)
some_level (suc n) paths some is = omega arith

module _ {L P : Type 0} (l : SideOf L) (p : SideOf P)
    (on : (m n : ℕ) (old mid new : L) → l.follows m old mid → l.follows n mid new → l.follows (m + n) old new)
    (on' : (m n : ℕ) (old mid new : P) → p.follows m old mid → p.follows n mid new → p.follows (m + n) old new)
    (self : (s : L) → l.follows 0 s s) (self' : (s : P) → p.follows 0 s s) where
  -- it begins with the root
  pub stands_first : (left : Questions) (local : L) (peer : P) → StandsAt l p left left local local peer peer (record { depth = 0; rest = [] ∷ []; below = [] })
  stands_first left local peer = record {
    mid = left;
    local1 = local;
    peer1 = peer;
    done = [];
    walks = record {
      asked = 0;
      local_side = record { spent = omega arith; follows = self local; kept = λ t. record { still = t; states = refl } };
      peer_side = record { spent = omega arith; follows = self' peer; kept = λ t. record { still = t; states = refl } };
      answers = λ one. absurd (omega (arith, one));
      some = λ _ none. absurd (cc);
      long = (refl, tt);
      right = λ t u. record { distinct = (refl, tt); differ = λ one. absurd (omega (arith, one)); whole = λ apart key differ. refl };
      few = λ t u keys all. omega arith;
    };
    level = nothing_asked l p on on' self self' left local peer [] refl;
    fresh = λ _. refl;
    high = omega arith;
  }

  module _ (left left' : Questions) (local local' : L) (peer peer' : P) (at : Level) (s : StandsAt l p left left' local local' peer peer' at) where
    -- the buckets are reached
    pub stands_last : IsDown at → FindsBucketsBy l p left left' local local' peer peer' at.rest
    stands_last is =
        let none = s.fresh is in
        let w : Walks l p at.depth left s.mid local s.local1 peer s.peer1 at.rest = subst (λ xs. Walks l p at.depth left s.mid local s.local1 peer s.peer1 (xs ++ at.rest)) none s.walks in
        let d : DescendsBy l p [] s.mid left' s.local1 local' s.peer1 peer' at.below = subst (λ xs. DescendsBy l p xs s.mid left' s.local1 local' s.peer1 peer' at.below) none s.level in
        let one = some_level at.depth at.rest w.some is in
        let old = w.answers one in
        record {
          asked = w.asked + 0;
          local_side = reads_on l on w.asked 0 left.local s.mid.local left'.local local s.local1 local' w.local_side d.local_side;
          peer_side = reads_on p on' w.asked 0 left.peer s.mid.peer left'.peer peer s.peer1 peer' w.peer_side d.peer_side;
          answers = (answered_still l on local s.local1 local' (0, d.local_side.follows) old.0, answered_still p on' peer s.peer1 peer' (0, d.peer_side.follows) old.1);
          deep = deep_reached at.depth at.rest s.high w.long is;
          right = λ t u. let r = w.right t u in record { distinct = r.distinct; differ = r.differ one; whole = r.whole };
          few = λ t u keys all. let few = few_reached at.depth w.asked (length at.rest) (length keys) s.high (w.few t u keys all) in omega (arith, few);
        }

    -- the nodes that are next are above the buckets
    pub next_long : Each (λ path. length path ≡ at.depth) (next_nodes at)
    next_long = Each-take (λ path. length path ≡ at.depth) 64 at.rest (Each-right (λ path. length path ≡ at.depth) s.done at.rest s.walks.long)

    pub next_short : at.depth < 3 → Each (λ path. length path < 3) (next_nodes at)
    next_short high = Each-weaker (λ path. length path ≡ at.depth) (λ path. length path < 3) (λ path e. omega (arith, e, high)) (next_nodes at) next_long

    fits : length s.done + length (next_nodes at) ≤ length (s.done ++ at.rest)
    fits = window_fits (s.done ++ at.rest) s.done at.rest 64 refl

    few : length s.done ≤ length (s.done ++ at.rest)
    few = let h = fits in omega (arith, h)

    -- memory was refused
    pub stands_nowhere : (refusal : Refusal) → refusal ≡ Memory → ReadsEndBy l p (λ asked. AreFewForBy l p local peer (λ most. asked ≤ 1 + 3 * most)) left local local' peer peer' (Local refusal)
    stands_nowhere refusal is =
        walk_ends l p on on' at.depth s.high left s.mid local s.local1 peer s.peer1 (s.done ++ at.rest) s.walks local' peer' (Local refusal)
        (memory_fails l p (length (s.done ++ at.rest)) (length s.done) (length s.done) left'.local left'.peer s.mid s.local1 local' s.peer1 peer' s.level.local_side s.level.peer_side few few refusal is)

    -- the local side came to an end
    pub stands_local_ends : (local2 : L) (peer2 : P) (refusal : Refusal) → ComesToEnd l (Keeps l local' local2) (length (next_nodes at)) (with_left local' left'.local) local2 refusal → Moves p (length (next_nodes at)) left'.peer peer' peer2
        → ReadsEndBy l p (λ asked. AreFewForBy l p local peer (λ most. asked ≤ 1 + 3 * most)) left local local2 peer peer2 (Local refusal)
    stands_local_ends local2 peer2 refusal e also =
        walk_ends l p on on' at.depth s.high left s.mid local s.local1 peer s.peer1 (s.done ++ at.rest) s.walks local2 peer2 (Local refusal)
        (local_fails l p (length (s.done ++ at.rest)) (length s.done) (length s.done) left'.local left'.peer s.mid s.local1 local' s.peer1 peer' s.level.local_side s.level.peer_side few few refusal on on' (length (next_nodes at)) local2 peer2 fits fits e also)

    module _ (after : Questions) (local2 : L) (mine : List Node)
        (first : ToldNodes l (next_nodes at) mine left'.local after.local local' local2) where
      read_mine : ReadsSide l (length s.done + length (next_nodes at)) (with_left s.local1 s.mid.local) (with_left local2 after.local)
      read_mine =
          reads_on l on (length s.done) (length (next_nodes at)) s.mid.local left'.local after.local s.local1 local' local2 s.level.local_side
          (reads_of l (λ _ _. HasAnswered l.follows l.can_answer local' local2) (IsInner (digests (l.states local'))) (next_nodes at) mine left'.local after.local local' local2 first)

      -- the peer came to an end
      pub stands_peer_ends : (peer2 : P) (refusal : Refusal) → ComesToEnd p (Keeps p peer' peer2) (length (next_nodes at)) (with_left peer' left'.peer) peer2 refusal
          → ReadsEndBy l p (λ asked. AreFewForBy l p local peer (λ most. asked ≤ 1 + 3 * most)) left local local2 peer peer2 (Peer refusal)
      stands_peer_ends peer2 refusal e =
          walk_ends l p on on' at.depth s.high left s.mid local s.local1 peer s.peer1 (s.done ++ at.rest) s.walks local2 peer2 (Peer refusal)
          (peer_fails l p (length (s.done ++ at.rest)) (length s.done + length (next_nodes at)) (length s.done) after.local left'.peer s.mid s.local1 local2 s.peer1 peer' read_mine s.level.peer_side fits few refusal on' (length (next_nodes at)) peer2 fits e)

      module _ (peer2 : P) (theirs : List Node)
          (second : ToldNodes p (next_nodes at) theirs left'.peer after.peer peer' peer2) where
        read_theirs : ReadsSide p (length s.done + length (next_nodes at)) (with_left s.peer1 s.mid.peer) (with_left peer2 after.peer)
        read_theirs =
            reads_on p on' (length s.done) (length (next_nodes at)) s.mid.peer left'.peer after.peer s.peer1 peer' peer2 s.level.peer_side
            (reads_of p (λ _ _. HasAnswered p.follows p.can_answer peer' peer2) (IsInner (digests (p.states peer'))) (next_nodes at) theirs left'.peer after.peer peer' peer2 second)

        -- memory was refused for the children
        pub stands_memory_ends : (refusal : Refusal) → refusal ≡ Memory → ReadsEndBy l p (λ asked. AreFewForBy l p local peer (λ most. asked ≤ 1 + 3 * most)) left local local2 peer peer2 (Local refusal)
        stands_memory_ends refusal is =
            walk_ends l p on on' at.depth s.high left s.mid local s.local1 peer s.peer1 (s.done ++ at.rest) s.walks local2 peer2 (Local refusal)
            (memory_fails l p (length (s.done ++ at.rest)) (length s.done + length (next_nodes at)) (length s.done + length (next_nodes at)) after.local after.peer s.mid s.local1 local2 s.peer1 peer2 read_mine read_theirs fits fits refusal is)

        level_more : DescendsBy l p (s.done ++ next_nodes at) s.mid after s.local1 local2 s.peer1 peer2 (found_by at mine theirs)
        level_more = descends_more l p on on' s.done (next_nodes at) s.mid left' after s.local1 local' local2 s.peer1 peer' peer2 at.below mine theirs s.level first second

        moved : s.done ++ at.rest ≡ (s.done ++ next_nodes at) ++ drop 64 at.rest
        moved = ap (λ xs. s.done ++ xs) (sym (take-append-drop 64 at.rest)) ∙ sym (append_assoc s.done (take 64 at.rest) (drop 64 at.rest))

        -- both told of the next nodes
        pub stands_next : (held : (s : L) → l.is_faithful s → AreHeld (l.states s)) (held' : (s : P) → p.is_faithful s → AreHeld (p.states s)) → at.depth < 3 → (at' : Level) → GoesDown at mine theirs at' → StandsAt l p left after local local2 peer peer2 at'
        stands_next held held' high at' (along some is) =
            let new : StandsAt l p left after local local2 peer peer2 (record { depth = at.depth; rest = drop 64 at.rest; below = found_by at mine theirs }) = record {
              mid = s.mid;
              local1 = s.local1;
              peer1 = s.peer1;
              done = s.done ++ next_nodes at;
              walks = subst (Walks l p at.depth left s.mid local s.local1 peer s.peer1) moved s.walks;
              level = level_more;
              fresh = λ end. elim end [ inl three ↦ absurd (omega (arith, high, three)) | inr none ↦ absurd (some none) ];
              high = s.high;
            } in
            subst (StandsAt l p left after local local2 peer peer2) (sym is) new
        stands_next held held' high at' (down none is) =
            let whole : s.done ++ at.rest ≡ s.done ++ next_nodes at = moved ∙ ap (λ xs. (s.done ++ next_nodes at) ++ xs) none ∙ append-nil (s.done ++ next_nodes at) in
            let walks = subst (Walks l p at.depth left s.mid local s.local1 peer s.peer1) whole s.walks in
            let new : StandsAt l p left after local local2 peer peer2 (record { depth = at.depth + 1; rest = found_by at mine theirs; below = [] }) = record {
              mid = after;
              local1 = local2;
              peer1 = peer2;
              done = [];
              walks = walks_on l p on on' at.depth high left s.mid local s.local1 peer s.peer1 (s.done ++ next_nodes at) walks held held' after local2 peer2 (found_by at mine theirs) level_more;
              level = nothing_asked l p on on' self self' after local2 peer2 [] refl;
              fresh = λ _. refl;
              high = omega (arith, high);
            } in
            subst (StandsAt l p left after local local2 peer peer2) (sym is) new
