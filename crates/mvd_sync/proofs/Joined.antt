-- What the keys that are done say of both sides, and of the report.
use Rattle.std.proofs.Common.{◌≡◌, inl, inr, ℕ, Bool, true, false, cond, ◌||◌, List, [], ◌∷◌, filter, refl, sym, ap, subst, ◌∙◌, Some, None, Option, true≢false}
use Rattle.std.specs.Prelude.{MatchBool}
use Rattle.std.specs.Ordering.{nat_cmp, eq_by_cmp}
use Rattle.std.specs.Cmp.{Equal-is}
use Rattle.std.specs.Cmp.Lexicographic.{slice_cmp}
use Rattle.std.specs.FinMap.{get}
use Rattle.mvd_dots.specs.declared.refusals.Refusal.{Refusal}
use Rattle.mvd_keys.specs.State.{join}
use Rattle.mvd_tree.proofs.Under.{keys_same}
use Rattle.mvd_site.specs.Held.{States, state_at}
use Rattle.mvd_sync.specs.Exchanges.{Done, given_keys, is_given, keys_done}
use Rattle.mvd_sync.proofs.Exchanges.{is_joined, joined_keys}
use Rattle.mvd_sync.specs.Session.{AreDistinct, CanMeet, is_member}
use Rattle.mvd_peer.specs.PushedStates.{Each}
use Rattle.mvd_sync.specs.declared.report.Side.{Side}
use Rattle.mvd_sync.specs.declared.report.Side.TheVariants.{Local as AtLocal, Peer as AtPeer}
use Rattle.mvd_sync.proofs.Keys.{Each-weaker, or_cases, or_left, or_right}
use Rattle.mvd_sync.proofs.Positions.{CameToBy, IsDoneBy, JoinsBy, JoinsSomeBy, SoFarBy}

-- ---- a part of the keys

either_false : (a b : Bool) → a ≡ false → b ≡ false → (a || b) ≡ false
either_false true b e f = absurd (true≢false e)
either_false false b e f = f

-- what is not in a list is not in a part of it
pub filtered : (Q : Done → Bool) (k : List ℕ) (ds : List Done) → is_member (keys_done ds) k ≡ false → is_member (keys_done (filter Q ds)) k ≡ false
filtered Q k [] none = refl
filtered Q k (d ∷ ds) none =
    let rest = filtered Q k ds (or_right (eq_by_cmp (slice_cmp nat_cmp) k d.key) (is_member (keys_done ds) k) none) in
    elim (Q d) as (λ b. is_member (keys_done (cond b (d ∷ filter Q ds) (filter Q ds))) k ≡ false) [
      | true ↦ either_false (eq_by_cmp (slice_cmp nat_cmp) k d.key) (is_member (keys_done (filter Q ds)) k) (or_left (eq_by_cmp (slice_cmp nat_cmp) k d.key) (is_member (keys_done ds) k) none) rest
      | false ↦ rest
    ]

-- this of a key in the part, and that of any other
pub member_at : (Q : Done → Bool) (P N : List ℕ → Type 0) (k : List ℕ) (ds : List Done) → AreDistinct (keys_done ds) → Each (λ d. MatchBool (Q d) (P d.key) (N d.key)) ds → (is_member (keys_done ds) k ≡ false → N k) → MatchBool (is_member (keys_done (filter Q ds)) k) (P k) (N k)
member_at Q P N k [] distinct each none = none refl
member_at Q P N k (d ∷ ds) distinct each none =
    elim (eq_by_cmp (slice_cmp nat_cmp) k d.key) as (λ t. eq_by_cmp (slice_cmp nat_cmp) k d.key ≡ t → MatchBool (is_member (keys_done (cond (Q d) (d ∷ filter Q ds) (filter Q ds))) k) (P k) (N k)) [
      | true ↦ λ e.
          let same : k ≡ d.key = keys_same k d.key ((Equal-is _).0 e) in
          elim (Q d) as (λ b. MatchBool b (P d.key) (N d.key) → MatchBool (is_member (keys_done (cond b (d ∷ filter Q ds) (filter Q ds))) k) (P k) (N k)) [
            | true ↦ λ p. subst (λ b. MatchBool (b || is_member (keys_done (filter Q ds)) k) (P k) (N k)) (sym e) (subst P (sym same) p)
            | false ↦ λ n. subst (λ b. MatchBool b (P k) (N k)) (sym (filtered Q k ds (ap (is_member (keys_done ds)) same ∙ distinct.0))) (subst N (sym same) n)
          ] each.0
      | false ↦ λ e.
          let rest = member_at Q P N k ds distinct.1 each.1 (λ no. none (ap (λ b. b || is_member (keys_done ds) k) e ∙ no)) in
          elim (Q d) as (λ b. MatchBool (is_member (keys_done (cond b (d ∷ filter Q ds) (filter Q ds))) k) (P k) (N k)) [
            | true ↦ subst (λ b. MatchBool (b || is_member (keys_done (filter Q ds)) k) (P k) (N k)) (sym e) rest
            | false ↦ rest
          ]
    ] refl

if_true : (b : Bool) (P N : Type 0) → MatchBool b P N → b ≡ true → P
if_true true P N h e = h
if_true false P N h e = absurd (true≢false (sym e))

or_later : (a b : Bool) → b ≡ true → (a || b) ≡ true
or_later true b h = refl
or_later false b h = h

-- a refused key may be joined, and the others of the list still are
some_part : (k : List ℕ) (d : Done) (r : Side × Refusal) (ds : List Done) → is_member (joined_keys ds) k ≡ true → is_member (keys_done (cond (is_joined (Some r)) (d ∷ filter (λ d. is_joined d.refused) ds) (filter (λ d. is_joined d.refused) ds))) k ≡ true
some_part k d (AtLocal, refusal) ds h = h
some_part k d (AtPeer, refusal) ds h = or_later (eq_by_cmp (slice_cmp nat_cmp) k d.key) (is_member (joined_keys ds) k) h

-- ---- both sides

module _ (most_local most_peer : ℕ) (a b a' b' : States) where
  came_local : (number : Option ℕ) (key : List ℕ) (refused : Option (Side × Refusal)) → CameToBy most_local most_peer number a b a' b' key refused → MatchBool (is_joined refused) (state_at a' key ≡ join (state_at a key) (state_at b key)) (get a' key ≡ get a key)
  came_local number key None h = h.1
  came_local number key (Some (AtLocal, refusal)) h = h.1
  came_local number key (Some (AtPeer, refusal)) h = h.1

  came_peer : (number : Option ℕ) (key : List ℕ) (refused : Option (Side × Refusal)) → CameToBy most_local most_peer number a b a' b' key refused → MatchBool (is_given refused) (state_at b' key ≡ join (state_at a key) (state_at b key)) (get b' key ≡ get b key)
  came_peer number key None h = h.2
  came_peer number key (Some (AtLocal, refusal)) h = h.2
  came_peer number key (Some (AtPeer, refusal)) h = h.2

  came_met : (number : Option ℕ) (key : List ℕ) (refused : Option (Side × Refusal)) → CameToBy most_local most_peer number a b a' b' key refused → MatchBool (is_joined refused) (CanMeet a b key) (Unit {0})
  came_met number key None h = h.0
  came_met number key (Some (AtLocal, refusal)) h = tt
  came_met number key (Some (AtPeer, refusal)) h = h.0

  each_of : (number : Option ℕ) (P : Done → Type 0) → ((d : Done) → CameToBy most_local most_peer number a b a' b' d.key d.refused → P d) → (ds : List Done) → Each (IsDoneBy most_local most_peer number a b a' b') ds → Each P ds
  each_of number P f ds each = Each-weaker (IsDoneBy most_local most_peer number a b a' b') P (λ d h. f d h.came) ds each

  -- what was given to both was joined
  given_part : (k : List ℕ) (ds : List Done) → is_member (given_keys ds) k ≡ true → is_member (joined_keys ds) k ≡ true
  given_part k [] h = h
  given_part k (d ∷ ds) h =
      elim d.refused as (λ o. is_member (keys_done (cond (is_given o) (d ∷ filter (λ d. is_given d.refused) ds) (filter (λ d. is_given d.refused) ds))) k ≡ true → is_member (keys_done (cond (is_joined o) (d ∷ filter (λ d. is_joined d.refused) ds) (filter (λ d. is_joined d.refused) ds))) k ≡ true) [
        | None ↦ λ h. elim (or_cases (eq_by_cmp (slice_cmp nat_cmp) k d.key) (is_member (given_keys ds) k) h) [
          | inl tie ↦ ap (λ b. b || is_member (joined_keys ds) k) tie
          | inr later ↦ or_later (eq_by_cmp (slice_cmp nat_cmp) k d.key) (is_member (joined_keys ds) k) (given_part k ds later)
        ]
        | Some r ↦ λ h. some_part k d r ds (given_part k ds h)
      ] h

  pub joins_of : (number : Option ℕ) (T U : Type 0) (done : List Done) → SoFarBy most_local most_peer number a b a' b' done → JoinsBy T U a b a' b' (joined_keys done) (given_keys done)
  joins_of number T U done so = record {
    part = λ k h. given_part k done h;
    met = λ k h. if_true (is_member (joined_keys done) k) (CanMeet a b k) (Unit {0})
        (member_at (λ d. is_joined d.refused) (CanMeet a b) (λ _. Unit {0}) k done so.distinct
        (each_of number (λ d. MatchBool (is_joined d.refused) (CanMeet a b d.key) (Unit {0})) (λ d h. came_met number d.key d.refused h) done so.each) (λ _. tt)) h;
    local_side = λ _ k. member_at (λ d. is_joined d.refused) (λ k. state_at a' k ≡ join (state_at a k) (state_at b k)) (λ k. get a' k ≡ get a k) k done so.distinct
        (each_of number (λ d. MatchBool (is_joined d.refused) (state_at a' d.key ≡ join (state_at a d.key) (state_at b d.key)) (get a' d.key ≡ get a d.key)) (λ d h. came_local number d.key d.refused h) done so.each) (λ no. (so.rest k no).0);
    peer_side = λ _ k. member_at (λ d. is_given d.refused) (λ k. state_at b' k ≡ join (state_at a k) (state_at b k)) (λ k. get b' k ≡ get b k) k done so.distinct
        (each_of number (λ d. MatchBool (is_given d.refused) (state_at b' d.key ≡ join (state_at a d.key) (state_at b d.key)) (get b' d.key ≡ get b d.key)) (λ d h. came_peer number d.key d.refused h) done so.each) (λ no. (so.rest k no).1);
  }

  -- a fault that changes nothing
  pub joins_some : (number : Option ℕ) (T U : Type 0) (done : List Done) → SoFarBy most_local most_peer number a b a' b' done → JoinsSomeBy T U a b a' b'
  joins_some number T U done so = record { joined = joined_keys done; given = given_keys done; joins = joins_of number T U done so }
