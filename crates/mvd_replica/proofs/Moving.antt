-- Keys of version 1, moved one after the other.
use Rattle.std.proofs.Common.{◌≡◌, ◌⊎◌, ◌∙◌, ◌<◌, Bool, true, false, cond, ℕ, suc, List, [], ◌∷◌, ◌++◌, length, take, drop, get_or, Option, Some, None, Result, Ok, Err, T, refl, sym, ap, subst, inl, inr}
use Rattle.std.proofs.Math.Seq.{split_at}
use Rattle.std.proofs.lemmas.List.{map-append}
use Rattle.std.specs.Result.{OnErr, OnOk}
use Rattle.mvd_dots.specs.declared.refusals.Refusal.{Refusal}
use Rattle.std.specs.declared.cmp.Ordering.{Ordering}
use Rattle.std.specs.declared.cmp.Ordering.TheVariants.{Less, Equal, Greater}
use Rattle.std.specs.Ordering.{eq_by_cmp, is_eq, is_lt}
use Rattle.std.specs.Cmp.{eq_by_cmp_equiv}
use Rattle.std.specs.FinMap.{entries, entries_sorted, find, get, get-entries, get-insert, get-remove, is_sorted}
use Rattle.std.specs.FinMap.Entries.{below_all}
use Rattle.mvd_keys.specs.Key.{key_cmp}
use Rattle.mvd_keys.specs.State.{State}
use Rattle.mvd_keys.specs.Writes.{Key}
use Rattle.mvd_keys.proofs.KeyOrder.{key_total, same_where_tied, tied_itself_key}
use Rattle.mvd_keys.proofs.Rising.{first_true, second_true}
use Rattle.mvd_wire.specs.Codec.{IsPrefixFree, Spells}
use Rattle.mvd_wire.specs.Codecs.{Layout, layout1, layout2, state_codec}
use Rattle.mvd_wire.proofs.CodecLaws.{lawful_state, wide_layout1, wide_layout2}
use Rattle.mvd_wire.proofs.Laws.{prefix_free}
use Rattle.mvd_records.specs.Pairs.{Pair, pair_entries}
use Rattle.mvd_records.specs.States.{StoredStates as Stored}
use Rattle.mvd_records.specs.Records.{AreDisjoint, EndsMove, KeepsStates, MovesState, new_states, old_states}
use Rattle.sqlite.specs.Effect.{Database}
use Rattle.mvd_replica.specs.Readable.{HasState, SpellsHeldState, Respells, SameStates, SpelledIn}

-- ---- an entry of a map

pub less_is_no_tie : (o : Ordering) → T (is_lt o) → is_eq o ≡ false
less_is_no_tie Less h = refl
less_is_no_tie Equal h = absurd h
less_is_no_tie Greater h = absurd h

pub below_part : (key : Key) (es : List (Key × List ℕ)) (e : Key × List ℕ) (fs : List (Key × List ℕ)) → T (below_all key_cmp key (es ++ e ∷ fs)) → T (is_lt (key_cmp key e.0))
below_part key [] e fs h = first_true _ _ h
below_part key (x ∷ es) e fs h = below_part key es e fs (second_true (is_lt (key_cmp key x.0)) _ h)

found_among : (es : List (Key × List ℕ)) (e : Key × List ℕ) (fs : List (Key × List ℕ)) → T (is_sorted key_cmp (es ++ e ∷ fs)) → find key_cmp e.0 (es ++ e ∷ fs) ≡ Some e.1
found_among [] e fs h = ap (λ b. cond b (Some e.1) (find key_cmp e.0 fs)) (tied_itself_key e.0)
found_among (x ∷ es) e fs h =
    ap (λ b. cond b (Some x.1) (find key_cmp e.0 (es ++ e ∷ fs)))
    ((eq_by_cmp_equiv key_total).symm e.0 x.0 ∙ less_is_no_tie (key_cmp x.0 e.0) (below_part x.0 es e fs (first_true _ _ h)))
    ∙ found_among es e fs (second_true (below_all key_cmp x.0 (es ++ e ∷ fs)) _ h)

-- the pair at a place of those that a map has
pub found_at : (m : Stored) (pairs : List Pair) (n : ℕ) (p : Pair) → pair_entries pairs ≡ entries m → n < length pairs → p ≡ get_or pairs n p → get m p.0 ≡ Some p.1.items
found_at m pairs n p same low is =
    let whole : pairs ≡ take n pairs ++ p ∷ drop (suc n) pairs = split_at pairs n p low ∙ ap (λ x. take n pairs ++ x ∷ drop (suc n) pairs) (sym is) in
    let parts : entries m ≡ pair_entries (take n pairs) ++ (p.0, p.1.items) ∷ pair_entries (drop (suc n) pairs) = sym same ∙ ap pair_entries whole ∙ map-append (λ (q : Pair). (q.0, q.1.items)) (take n pairs) (p ∷ drop (suc n) pairs) in
    get-entries m p.0 ∙ ap (find key_cmp p.0) parts
    ∙ found_among (pair_entries (take n pairs)) (p.0, p.1.items) (pair_entries (drop (suc n) pairs)) (subst (λ l. T (is_sorted key_cmp l)) parts (entries_sorted m))

-- ---- one state for one spelling

pub spells_one : (layout : Layout) → IsPrefixFree (state_codec layout) → (s t : State) (bytes : List ℕ) → Spells (state_codec layout) s bytes → Spells (state_codec layout) t bytes → s ≡ t
spells_one layout free s t bytes one other = (free s t [] [] one.0 other.0 (ap (λ l. l ++ []) (sym one.1 ∙ other.1))).0

pub free1 : IsPrefixFree (state_codec layout1)
free1 = prefix_free (state_codec layout1) (lawful_state layout1 wide_layout1)

pub free2 : IsPrefixFree (state_codec layout2)
free2 = prefix_free (state_codec layout2) (lawful_state layout2 wide_layout2)

pub some_is : (a b : List ℕ) → Some a ≡ Some b → a ≡ b
some_is a b e = cc

pub none_is_some : (a : List ℕ) → ◌≡◌ {A = Option (List ℕ)} None (Some a) → ⊥
none_is_some a e = cc

-- ---- one key

module _ (a b : Database) (k : Key) (old new : List ℕ) (moves : MovesState a b k new) where
  pub new_at : (key : Key) (tied : Bool) → eq_by_cmp key_cmp key k ≡ tied → get (new_states b) key ≡ cond tied (Some new) (get (new_states a) key)
  new_at key tied is = ap (λ m. get m key) moves.saved ∙ get-insert key_total (new_states a) k new key ∙ ap (λ t. cond t (Some new) (get (new_states a) key)) is

  pub old_at : (key : Key) (tied : Bool) → eq_by_cmp key_cmp key k ≡ tied → get (old_states b) key ≡ cond tied None (get (old_states a) key)
  old_at key tied is = ap (λ m. get m key) moves.removed ∙ get-remove key_total (old_states a) k key ∙ ap (λ t. cond t None (get (old_states a) key)) is

  -- no old key is made
  pub old_shrinks : (key bytes : List ℕ) → get (old_states b) key ≡ Some bytes → get (old_states a) key ≡ Some bytes
  old_shrinks key bytes found =
      elim (eq_by_cmp key_cmp key k) as (λ t. eq_by_cmp key_cmp key k ≡ t → get (old_states a) key ≡ Some bytes) [
        | true ↦ λ is. absurd (none_is_some bytes (sym (old_at key true is) ∙ found))
        | false ↦ λ is. sym (old_at key false is) ∙ found
      ] refl

  pub stays_apart : AreDisjoint (old_states a) (new_states a) → AreDisjoint (old_states b) (new_states b)
  stays_apart apart key x y in_old in_new =
      elim (eq_by_cmp key_cmp key k) as (λ t. eq_by_cmp key_cmp key k ≡ t → ⊥) [
        | true ↦ λ is. none_is_some x (sym (old_at key true is) ∙ in_old)
        | false ↦ λ is. apart key x y (sym (old_at key false is) ∙ in_old) (sym (new_at key false is) ∙ in_new)
      ] refl

  module _ (apart : AreDisjoint (old_states a) (new_states a)) (was : get (old_states a) k ≡ Some old) (spelled : Respells old new) where
    was_at : (key : Key) → eq_by_cmp key_cmp key k ≡ true → get (old_states a) key ≡ Some old
    was_at key is = ap (get (old_states a)) (same_where_tied key k is) ∙ was

    kept_at : (key : Key) (s : State) (tied : Bool) → eq_by_cmp key_cmp key k ≡ tied → HasState a key s → HasState b key s
    kept_at key s true is (inl h) = absurd (apart key old h.0 (was_at key is) h.1)
    kept_at key s true is (inr h) =
        let same : h.0 ≡ old = some_is h.0 old (sym h.1 ∙ was_at key is) in
        let one : s ≡ spelled.0 = spells_one layout1 free1 s spelled.0 old (subst (Spells (state_codec layout1) s) same h.2) spelled.1 in
        inl (new, new_at key true is, subst (λ t. Spells (state_codec layout2) t new) (sym one) spelled.2)
    kept_at key s false is (inl h) = inl (h.0, new_at key false is ∙ h.1, h.2)
    kept_at key s false is (inr h) = inr (h.0, old_at key false is ∙ h.1, h.2)

    only_at : (key : Key) (s : State) (tied : Bool) → eq_by_cmp key_cmp key k ≡ tied → HasState b key s → HasState a key s
    only_at key s true is (inl h) =
        let same : h.0 ≡ new = some_is h.0 new (sym h.1 ∙ new_at key true is) in
        let one : s ≡ spelled.0 = spells_one layout2 free2 s spelled.0 new (subst (Spells (state_codec layout2) s) same h.2) spelled.2 in
        inr (old, was_at key is, subst (λ t. Spells (state_codec layout1) t old) (sym one) spelled.1)
    only_at key s true is (inr h) = absurd (none_is_some h.0 (sym (old_at key true is) ∙ h.1))
    only_at key s false is (inl h) = inl (h.0, sym (new_at key false is) ∙ h.1, h.2)
    only_at key s false is (inr h) = inr (h.0, sym (old_at key false is) ∙ h.1, h.2)

    new_kept_at : (key : Key) (bytes : List ℕ) (tied : Bool) → eq_by_cmp key_cmp key k ≡ tied → get (new_states a) key ≡ Some bytes → get (new_states b) key ≡ Some bytes
    new_kept_at key bytes true is found = absurd (apart key old bytes (was_at key is) found)
    new_kept_at key bytes false is found = new_at key false is ∙ found

    new_only_at : (key : Key) (bytes : List ℕ) (tied : Bool) → eq_by_cmp key_cmp key k ≡ tied → get (new_states b) key ≡ Some bytes → (get (new_states a) key ≡ Some bytes) ⊎ SpellsHeldState layout2 bytes
    new_only_at key bytes true is found = inr (subst (SpellsHeldState layout2) (some_is new bytes (sym (new_at key true is) ∙ found)) (spelled.0, spelled.2, spelled.3))
    new_only_at key bytes false is found = inl (sym (new_at key false is) ∙ found)

    old_kept_at : (key : Key) (bytes : List ℕ) (tied : Bool) → eq_by_cmp key_cmp key k ≡ tied → get (old_states a) key ≡ Some bytes → (get (old_states b) key ≡ Some bytes) ⊎ SpellsHeldState layout1 bytes
    old_kept_at key bytes true is found = inr (subst (SpellsHeldState layout1) (some_is old bytes (sym (was_at key is) ∙ found)) (spelled.0, spelled.1, spelled.3))
    old_kept_at key bytes false is found = inl (old_at key false is ∙ found)

    pub move_keeps : SameStates a b
    move_keeps = record {
      kept = λ key s has. kept_at key s (eq_by_cmp key_cmp key k) refl has;
      only = λ key s has. only_at key s (eq_by_cmp key_cmp key k) refl has;
      new_kept = λ key bytes found. new_kept_at key bytes (eq_by_cmp key_cmp key k) refl found;
      new_only = λ key bytes found. new_only_at key bytes (eq_by_cmp key_cmp key k) refl found;
      old_kept = λ key bytes found. old_kept_at key bytes (eq_by_cmp key_cmp key k) refl found;
      old_only = old_shrinks;
    }

-- ---- many keys

pub same_none : (a : Database) → SameStates a a
same_none a = record {
  kept = λ key s has. has;
  only = λ key s has. has;
  new_kept = λ key bytes found. found;
  new_only = λ key bytes found. inl found;
  old_kept = λ key bytes found. inl found;
  old_only = λ key bytes found. found;
}

pub same_then : (a b c : Database) → SameStates a b → SameStates b c → SameStates a c
same_then a b c one other = record {
  kept = λ key s has. other.kept key s (one.kept key s has);
  only = λ key s has. one.only key s (other.only key s has);
  new_kept = λ key bytes found. other.new_kept key bytes (one.new_kept key bytes found);
  new_only = λ key bytes found. elim (other.new_only key bytes found) [ inl there ↦ one.new_only key bytes there | inr stored ↦ inr stored ];
  old_kept = λ key bytes found. elim (one.old_kept key bytes found) [ inl there ↦ other.old_kept key bytes there | inr stored ↦ inr stored ];
  old_only = λ key bytes found. one.old_only key bytes (other.old_only key bytes found);
}

has_by : (x y : Stored) (layout : Layout) (key : Key) (s : State) → y ≡ x → SpelledIn layout x key s → SpelledIn layout y key s
has_by x y layout key s same has = subst (λ m. SpelledIn layout m key s) (sym same) has

has_kept : (a b : Database) (key : Key) (s : State) → new_states b ≡ new_states a → old_states b ≡ old_states a → HasState a key s → HasState b key s
has_kept a b key s news olds (inl h) = inl (has_by _ _ layout2 key s news h)
has_kept a b key s news olds (inr h) = inr (has_by _ _ layout1 key s olds h)

pub same_kept : (a b : Database) → KeepsStates a b → SameStates a b
same_kept a b keeps = record {
  kept = λ key s has. has_kept a b key s keeps.new_same keeps.old_same has;
  only = λ key s has. has_kept b a key s (sym keeps.new_same) (sym keeps.old_same) has;
  new_kept = λ key bytes found. ap (λ m. get m key) keeps.new_same ∙ found;
  new_only = λ key bytes found. inl (ap (λ m. get m key) (sym keeps.new_same) ∙ found);
  old_kept = λ key bytes found. inl (ap (λ m. get m key) keeps.old_same ∙ found);
  old_only = λ key bytes found. ap (λ m. get m key) (sym keeps.old_same) ∙ found;
}

pub same_unchanged : (a b : Database) → b ≡ a → SameStates a b
same_unchanged a b same = subst (SameStates a) (sym same) (same_none a)

-- keys were moved from the first database to the second
pub record Moving (a b : Database) : Type 0 where
  pub same : SameStates a b
  pub apart : AreDisjoint (old_states b) (new_states b)
  pub shrinks : (key bytes : List ℕ) → get (old_states b) key ≡ Some bytes → get (old_states a) key ≡ Some bytes

pub moving_none : (a b : Database) → b ≡ a → AreDisjoint (old_states a) (new_states a) → Moving a b
moving_none a b same apart = subst (Moving a) (sym same) (record { same = same_none a; apart = apart; shrinks = λ key bytes found. found })

moving_on : (a b c : Database) (key old new : List ℕ) → Moving a b → MovesState b c key new → get (old_states a) key ≡ Some old → Respells old new → Moving a c
moving_on a b c key old new moving moves was spelled =
    let before : moves.was.0 ≡ old = some_is moves.was.0 old (sym (moving.shrinks key moves.was.0 moves.was.1) ∙ was) in
    let here : get (old_states b) key ≡ Some old = moves.was.1 ∙ ap (λ (l : List ℕ). Some l) before in
    record {
      same = same_then a b c moving.same (move_keeps b c key old new moves moving.apart here spelled);
      apart = stays_apart b c key old new moves moving.apart;
      shrinks = λ other bytes found. moving.shrinks other bytes (old_shrinks b c key old new moves other bytes found);
    }

pub moving_more : (a b c : Database) (key old old' new new' : List ℕ) → Moving a b → MovesState b c key new' → get (old_states a) key ≡ Some old → Respells old' new → new' ≡ new → old' ≡ old → Moving a c
moving_more a b c key old old' new new' moving moves was spelled new-is old-is =
    moving_on a b c key old new moving (subst (MovesState b c key) new-is moves) was (subst (λ l. Respells l new) old-is spelled)

-- the end of a move
pub ended_same : (result : Result (Unit {0}) Refusal) (a b c : Database) (number : ℕ) → SameStates a b → OnOk result (EndsMove number b c) → OnErr result (c ≡ b) → SameStates a c
ended_same (Ok done) a b c number same ends still = same_then a b c same (same_kept b c ends.states)
ended_same (Err e) a b c number same ends still = same_then a b c same (same_unchanged b c still)
