-- Records in order.
use Rattle.std.proofs.Common.{◌≡◌, ◌≢◌, ◌⊎◌, ◌∙◌, ◌↔◌, ◌<◌, Bool, true, false, cond, ℕ, suc, List, [], ◌∷◌, ◌++◌, length, map, take, drop, get_or, is_some, Option, Some, None, option_map, Result, Ok, Err, T, refl, sym, ap, subst, subst₂, inl, inr, true≢false, if◌then◌else◌, ltb, ◌≤◌, nat_le, arith}
use Rattle.std.proofs.Math.Seq.{split_at}
use Rattle.std.proofs.lemmas.List.{map-append, map-id}
use Rattle.std.proofs.lemmas.Bool.Decides.{nat_tests}
use Rattle.std.specs.Result.{IfErr, IfOk, MatchResult, OnErr, OnOk}
use Rattle.std.specs.List.{AllByRecursion}
use Rattle.std.specs.Ordering.{eq_by_cmp}
use Rattle.std.specs.Cmp.{eq_by_cmp_equiv}
use Rattle.std.specs.FinMap.{entries, entries_sorted, find, get, get-entries, is_sorted, len, same_map}
use Rattle.std.specs.FinMap.Entries.{below_all, find-append}
use Rattle.mvd_dots.specs.Answer.{IsAnswer}
use Rattle.mvd_dots.specs.declared.refusals.Refusal.{Refusal}
use Rattle.mvd_dots.specs.declared.refusals.Refusal.TheVariants.{Damaged, Full, Memory, StateTooLarge}
use Rattle.mvd_keys.specs.Key.{is_key, key_cmp}
use Rattle.mvd_keys.specs.State.{State}
use Rattle.mvd_keys.specs.Writes.{Key}
use Rattle.mvd_keys.proofs.KeyOrder.{key_antisymmetric, key_total, same_where_tied}
use Rattle.mvd_keys.proofs.Rising.{first_true, second_true}
use Rattle.mvd_wire.specs.Codec.{Spells, spelled_within}
use Rattle.mvd_wire.specs.Codecs.{layout1, layout2, spell_state, state_codec, state_limit}
use Rattle.mvd_wire.proofs.Forms.{fits_of}
use Rattle.mvd_wire.proofs.Spellings.{codec_is}
use Rattle.mvd_records.specs.Pairs.{Pair, pair_entries}
use Rattle.mvd_records.specs.States.{StoredStates as Stored}
use Rattle.mvd_records.specs.Records.{AreDisjoint, EndsMove, HasNone, IsWhole, KeepsStates, LacksKey, HoldsRecords, MovesState, TellsVersion, marks_of, new_states, old_states}
use Rattle.mvd_site.specs.Config.{ConfigValue}
use Rattle.mvd_site.specs.Held.{IsHeldState, States}
use Rattle.mvd_site.specs.Sites.{SiteValue, opened}
use Rattle.sqlite.specs.Effect.{Database}
use Rattle.mvd_replica.specs.Holds.{AreSpelled, HoldsStates, SpellStates}
use Rattle.mvd_replica.specs.Readable.{AreDamaged, AreInOrder, AreStored, HasJust, HasState, HoldsTooMany, SpellsHeldState, Migrates, Respells, Resumes, SameStates, spelled_entries}
use Rattle.mvd_replica.proofs.Moving.{Moving, free2, found_at, less_is_no_tie, below_part, new_at, old_at, none_is_some, some_is, spells_one}

-- ---- what is stored

-- each entry is, so what a key has is
pub stored_by : (P : List ℕ → Type 0) (m : Stored) → AllByRecursion (λ (e : Key × List ℕ). P e.1) (entries m) → (key : Key) (bytes : List ℕ) → get m key ≡ Some bytes → P bytes
stored_by P m all key bytes found = among (entries m) all (sym (get-entries m key) ∙ found)
  where
    among : (es : List (Key × List ℕ)) → AllByRecursion (λ (e : Key × List ℕ). P e.1) es → find key_cmp key es ≡ Some bytes → P bytes
    among [] all found = absurd (none_is_some bytes found)
    among (e ∷ es) all found =
        elim (eq_by_cmp key_cmp key e.0) as (λ b. cond b (Some e.1) (find key_cmp key es) ≡ Some bytes → P bytes) [
          | true ↦ λ is. subst P (some_is e.1 bytes is) all.0
          | false ↦ λ is. among es all.1 is
        ] found

-- a pair that is not
pub not_stored : (P : List ℕ → Type 0) (m : Stored) (pairs : List Pair) (n : ℕ) (p : Pair) (bytes : List ℕ) → pair_entries pairs ≡ entries m → n < length pairs → p ≡ get_or pairs n p → bytes ≡ p.1.items → ¬ P bytes →
    ((key : Key) (bytes : List ℕ) → get m key ≡ Some bytes → P bytes) → ⊥
not_stored P m pairs n p bytes same low is same-bytes wrong all = wrong (subst P (sym same-bytes) (all p.0 p.1.items (found_at m pairs n p same low is)))

-- a key is not among those before it
not_before : (es : List (Key × List ℕ)) (e : Key × List ℕ) (fs : List (Key × List ℕ)) → T (is_sorted key_cmp (es ++ e ∷ fs)) → find key_cmp e.0 es ≡ None
not_before [] e fs h = refl
not_before (x ∷ es) e fs h =
    ap (λ b. cond b (Some x.1) (find key_cmp e.0 es))
    ((eq_by_cmp_equiv key_total).symm e.0 x.0 ∙ less_is_no_tie (key_cmp x.0 e.0) (below_part x.0 es e fs (first_true _ _ h)))
    ∙ not_before es e fs (second_true (below_all key_cmp x.0 (es ++ e ∷ fs)) _ h)

pub not_yet : (m : Stored) (pairs done : List Pair) (p : Pair) → pair_entries pairs ≡ entries m → map (λ x. x) done ≡ take (length done) pairs → length done < length pairs → p ≡ get_or pairs (length done) p → find key_cmp p.0 (pair_entries done) ≡ None
not_yet m pairs done p same so_far low is =
    let n = length done in
    let front : done ≡ take n pairs = sym (map-id done) ∙ so_far in
    let whole : pairs ≡ take n pairs ++ p ∷ drop (suc n) pairs = split_at pairs n p low ∙ ap (λ x. take n pairs ++ x ∷ drop (suc n) pairs) (sym is) in
    let parts : entries m ≡ pair_entries (take n pairs) ++ (p.0, p.1.items) ∷ pair_entries (drop (suc n) pairs) = sym same ∙ ap pair_entries whole ∙ map-append (λ (q : Pair). (q.0, q.1.items)) (take n pairs) (p ∷ drop (suc n) pairs) in
    ap (λ l. find key_cmp p.0 (pair_entries l)) front
    ∙ not_before (pair_entries (take n pairs)) (p.0, p.1.items) (pair_entries (drop (suc n) pairs)) (subst (λ l. T (is_sorted key_cmp l)) parts (entries_sorted m))

-- ---- keys that were moved

-- the keys of the list were moved from the first database to the second
pub record Moved (a b : Database) (done : List (Key × List ℕ)) : Type 0 where
  pub left : (key : Key) → get (old_states b) key ≡ cond (is_some (find key_cmp key done)) None (get (old_states a) key)
  pub had : (key : Key) (bytes : List ℕ) → find key_cmp key done ≡ Some bytes → get (old_states a) key ≡ Some bytes
  pub read : (key : Key) (bytes : List ℕ) → find key_cmp key done ≡ Some bytes → SpellsHeldState layout1 bytes
  pub kept : (key : Key) (bytes : List ℕ) → get (new_states a) key ≡ Some bytes → get (new_states b) key ≡ Some bytes
  pub from : (key : Key) (bytes : List ℕ) → get (new_states b) key ≡ Some bytes →
      (get (new_states a) key ≡ Some bytes) ⊎ (SpellsHeldState layout2 bytes × ((was : List ℕ) × (get (old_states a) key ≡ Some was)))

pub moved_none : (a b : Database) → b ≡ a → Moved a b []
moved_none a b same = subst (λ d. Moved a d []) (sym same) (record {
  left = λ key. refl;
  had = λ key bytes found. absurd (none_is_some bytes found);
  read = λ key bytes found. absurd (none_is_some bytes found);
  kept = λ key bytes found. found;
  from = λ key bytes found. inl found;
})

module _ (a b c : Database) (k : Key) (old new : List ℕ) (done : List (Key × List ℕ)) (moved : Moved a b done) (apart : AreDisjoint (old_states a) (new_states a)) (moves : MovesState b c k new)
    (was : get (old_states a) k ≡ Some old) (yet : find key_cmp k done ≡ None) (spelled : Respells old new) where
  abbrev more : List (Key × List ℕ)
  more = done ++ (k, old) ∷ []

  found_more : (key : Key) (tied : Bool) → eq_by_cmp key_cmp key k ≡ tied → find key_cmp key more ≡ cond tied (Some old) (find key_cmp key done)
  found_more key tied is = find-append key_cmp key_total done k old key yet ∙ ap (λ b. cond b (Some old) (find key_cmp key done)) is

  left_at : (key : Key) (tied : Bool) → eq_by_cmp key_cmp key k ≡ tied → get (old_states c) key ≡ cond (is_some (find key_cmp key more)) None (get (old_states a) key)
  left_at key true is = old_at b c k old new moves key true is ∙ sym (ap (λ o. cond (is_some o) None (get (old_states a) key)) (found_more key true is))
  left_at key false is = old_at b c k old new moves key false is ∙ moved.left key ∙ sym (ap (λ o. cond (is_some o) None (get (old_states a) key)) (found_more key false is))

  had_at : (key : Key) (bytes : List ℕ) (tied : Bool) → eq_by_cmp key_cmp key k ≡ tied → find key_cmp key more ≡ Some bytes → get (old_states a) key ≡ Some bytes
  had_at key bytes true is found = ap (get (old_states a)) (same_where_tied key k is) ∙ was ∙ sym (found_more key true is) ∙ found
  had_at key bytes false is found = moved.had key bytes (sym (found_more key false is) ∙ found)

  read_at : (key : Key) (bytes : List ℕ) (tied : Bool) → eq_by_cmp key_cmp key k ≡ tied → find key_cmp key more ≡ Some bytes → SpellsHeldState layout1 bytes
  read_at key bytes true is found = subst (SpellsHeldState layout1) (some_is old bytes (sym (found_more key true is) ∙ found)) (spelled.0, spelled.1, spelled.3)
  read_at key bytes false is found = moved.read key bytes (sym (found_more key false is) ∙ found)

  kept_at : (key : Key) (bytes : List ℕ) (tied : Bool) → eq_by_cmp key_cmp key k ≡ tied → get (new_states a) key ≡ Some bytes → get (new_states c) key ≡ Some bytes
  kept_at key bytes true is found = absurd (apart key old bytes (ap (get (old_states a)) (same_where_tied key k is) ∙ was) found)
  kept_at key bytes false is found = new_at b c k old new moves key false is ∙ moved.kept key bytes found

  from_at : (key : Key) (bytes : List ℕ) (tied : Bool) → eq_by_cmp key_cmp key k ≡ tied → get (new_states c) key ≡ Some bytes →
      (get (new_states a) key ≡ Some bytes) ⊎ (SpellsHeldState layout2 bytes × ((was : List ℕ) × (get (old_states a) key ≡ Some was)))
  from_at key bytes true is found =
      inr (subst (SpellsHeldState layout2) (some_is new bytes (sym (new_at b c k old new moves key true is) ∙ found)) (spelled.0, spelled.2, spelled.3), (old, ap (get (old_states a)) (same_where_tied key k is) ∙ was))
  from_at key bytes false is found = moved.from key bytes (sym (new_at b c k old new moves key false is) ∙ found)

  pub moved_on : Moved a c more
  moved_on = record {
    left = λ key. left_at key (eq_by_cmp key_cmp key k) refl;
    had = λ key bytes found. had_at key bytes (eq_by_cmp key_cmp key k) refl found;
    read = λ key bytes found. read_at key bytes (eq_by_cmp key_cmp key k) refl found;
    kept = λ key bytes found. kept_at key bytes (eq_by_cmp key_cmp key k) refl found;
    from = λ key bytes found. from_at key bytes (eq_by_cmp key_cmp key k) refl found;
  }

pub moved_more : (a b c : Database) (done : List Pair) (p : Pair) (old new new' : List ℕ) → Moved a b (pair_entries done) → AreDisjoint (old_states a) (new_states a) → MovesState b c p.0 new' →
    get (old_states a) p.0 ≡ Some p.1.items → find key_cmp p.0 (pair_entries done) ≡ None → Respells old new → new' ≡ new → old ≡ p.1.items → Moved a c (pair_entries (done ++ p ∷ []))
moved_more a b c done p old new new' moved apart moves was yet spelled new-is old-is =
    subst (Moved a c) (sym (map-append (λ (q : Pair). (q.0, q.1.items)) done (p ∷ [])))
    (moved_on a b c p.0 p.1.items new (pair_entries done) moved apart (subst (MovesState b c p.0) new-is moves) was yet (subst (λ l. Respells l new) old-is spelled))

-- a key that is not moved yet is there
pub still_there : (a b : Database) (done : List (Key × List ℕ)) (key : Key) (bytes : List ℕ) → Moved a b done → get (old_states a) key ≡ Some bytes → find key_cmp key done ≡ None → LacksKey (old_states b) key → ⊥
still_there a b done key bytes moved was yet lacks = lacks bytes (moved.left key ∙ ap (λ o. cond (is_some o) None (get (old_states a) key)) yet ∙ was)

none_twice : (o : Option (List ℕ)) (bytes : List ℕ) → cond (is_some o) None o ≡ Some bytes → ⊥
none_twice None bytes e = none_is_some bytes e
none_twice (Some x) bytes e = none_is_some bytes e

-- all are moved
pub all_gone : (a b : Database) (done : List (Key × List ℕ)) → Moved a b done → done ≡ entries (old_states a) → HasNone (old_states b)
all_gone a b done moved all key bytes found =
    let same : find key_cmp key done ≡ get (old_states a) key = ap (find key_cmp key) all ∙ sym (get-entries (old_states a) key) in
    none_twice (get (old_states a) key) bytes (sym (ap (λ o. cond (is_some o) None (get (old_states a) key)) same) ∙ sym (moved.left key) ∙ found)

migrates_all : (a b c : Database) (version : ℕ) (done : List (Key × List ℕ)) → Moved a b done → done ≡ entries (old_states a) → IsWhole version (old_states a) (old_states a) (new_states a) → KeepsStates b c → Migrates version a c
migrates_all a b c version done moved all whole keeps = record {
  whole = whole;
  stored = λ key bytes found. moved.read key bytes (ap (find key_cmp key) all ∙ sym (get-entries (old_states a) key) ∙ found);
  kept = λ key bytes found. ap (λ m. get m key) keeps.new_same ∙ moved.kept key bytes found;
  from = λ key bytes found. moved.from key bytes (sym (ap (λ m. get m key) keeps.new_same) ∙ found);
  none = subst HasNone (sym keeps.old_same) (all_gone a b done moved all);
}

pub migrated : (result : Result (Unit {0}) Refusal) (a b c : Database) (version number : ℕ) (done : List (Key × List ℕ)) → Moved a b done → done ≡ entries (old_states a) → IsWhole version (old_states a) (old_states a) (new_states a) →
    OnOk result (EndsMove number b c) → IfErr result (λ e. e ≡ Damaged → ¬ HasNone (old_states b)) →
    MatchResult result (λ _. Migrates version a c) (λ e. e ≡ Damaged → ¬ AreInOrder version (old_states a) (new_states a))
migrated (Ok ended) a b c version number done moved all whole ends damaged = migrates_all a b c version done moved all whole ends.states
migrated (Err e) a b c version number done moved all whole ends damaged = λ is _. damaged is (all_gone a b done moved all)

-- ---- in order

pub whole_new : (version : ℕ) (old new : Stored) → AreInOrder version old new → IsWhole version new old new
whole_new version old new order = record { keys = order.new_keys; tables = order.tables }

pub whole_old : (version : ℕ) (old new : Stored) → AreInOrder version old new → IsWhole version old old new
whole_old version old new order = record { keys = order.old_keys; tables = order.tables }

pub not_whole : (version : ℕ) (db : Database) → version ≡ 2 → ¬ IsWhole version (new_states db) (old_states db) (new_states db) → ¬ AreInOrder 2 (old_states db) (new_states db)
not_whole version db two unwhole order = unwhole (subst (λ v. IsWhole v (new_states db) (old_states db) (new_states db)) (sym two) (whole_new 2 (old_states db) (new_states db) order))

-- records of version 2
pub second_order : (old new : Stored) → IsWhole 2 new old new → AreStored layout2 new → AreInOrder 2 old new
second_order old new whole stored = let none : HasNone old = whole.tables.moved refl in record {
  old_keys = λ key bytes found. absurd (none key bytes found);
  new_keys = whole.keys;
  tables = whole.tables;
  old_stored = λ key bytes found. absurd (none key bytes found);
  new_stored = stored;
}

-- from those that were moved to those that were there
pub order_before : (version : ℕ) (a b : Database) → Migrates version a b → AreInOrder 2 (old_states b) (new_states b) → AreInOrder version (old_states a) (new_states a)
order_before version a b migrates order = record {
  old_keys = migrates.whole.keys;
  new_keys = λ key bytes found. order.new_keys key bytes (migrates.kept key bytes found);
  tables = migrates.whole.tables;
  old_stored = migrates.stored;
  new_stored = λ key bytes found. order.new_stored key bytes (migrates.kept key bytes found);
}

-- and back
pub order_after : (version : ℕ) (a b : Database) → Migrates version a b → AreInOrder version (old_states a) (new_states a) → AreInOrder 2 (old_states b) (new_states b)
order_after version a b migrates order = record {
  old_keys = λ key bytes found. absurd (migrates.none key bytes found);
  new_keys = λ key bytes found. key_from key bytes (migrates.from key bytes found);
  tables = record { apart = λ key x y in_old in_new. migrates.none key x in_old; moved = λ _. migrates.none };
  old_stored = λ key bytes found. absurd (migrates.none key bytes found);
  new_stored = λ key bytes found. stored_from key bytes (migrates.from key bytes found);
}
  where
    key_from : (key : Key) (bytes : List ℕ) → (get (new_states a) key ≡ Some bytes) ⊎ (SpellsHeldState layout2 bytes × ((was : List ℕ) × (get (old_states a) key ≡ Some was))) → is_key key ≡ true
    key_from key bytes (inl there) = order.new_keys key bytes there
    key_from key bytes (inr moved) = order.old_keys key moved.1.0 moved.1.1

    stored_from : (key : Key) (bytes : List ℕ) → (get (new_states a) key ≡ Some bytes) ⊎ (SpellsHeldState layout2 bytes × ((was : List ℕ) × (get (old_states a) key ≡ Some was))) → SpellsHeldState layout2 bytes
    stored_from key bytes (inl there) = order.new_stored key bytes there
    stored_from key bytes (inr moved) = moved.0

pub order_kept : (version : ℕ) (a b : Database) → KeepsStates a b → AreInOrder version (old_states a) (new_states a) → AreInOrder version (old_states b) (new_states b)
order_kept version a b keeps order = subst₂ (AreInOrder version) (sym keeps.old_same) (sym keeps.new_same) order

pub order_back : (version : ℕ) (a b : Database) → KeepsStates a b → AreInOrder version (old_states b) (new_states b) → AreInOrder version (old_states a) (new_states a)
order_back version a b keeps order = subst₂ (AreInOrder version) keeps.old_same keeps.new_same order

pub read_order : (version : ℕ) (db : Database) (pairs : List Pair) → version ≡ 2 → IsWhole version (new_states db) (old_states db) (new_states db) → pair_entries pairs ≡ entries (new_states db) →
    AllByRecursion (λ (e : Key × List ℕ). SpellsHeldState layout2 e.1) (pair_entries pairs) → AreInOrder 2 (old_states db) (new_states db)
read_order version db pairs two whole same all =
    second_order (old_states db) (new_states db) (subst (λ v. IsWhole v (new_states db) (old_states db) (new_states db)) two whole)
    (stored_by (SpellsHeldState layout2) (new_states db) (subst (AllByRecursion (λ (e : Key × List ℕ). SpellsHeldState layout2 e.1)) same all))

-- ---- a move that was broken off

module _ (version : ℕ) (a b : Database) (done : List (Key × List ℕ)) (moved : Moved a b done) (moving : Moving a b) (whole : IsWhole version (old_states a) (old_states a) (new_states a)) where
  order_on : AreInOrder version (old_states a) (new_states a) → AreInOrder version (old_states b) (new_states b)
  order_on order = record {
    old_keys = λ key bytes found. whole.keys key bytes (moving.shrinks key bytes found);
    new_keys = λ key bytes found. key_from key bytes (moved.from key bytes found);
    tables = record { apart = moving.apart; moved = λ two key bytes found. whole.tables.moved two key bytes (moving.shrinks key bytes found) };
    old_stored = λ key bytes found. order.old_stored key bytes (moving.shrinks key bytes found);
    new_stored = λ key bytes found. stored_from key bytes (moved.from key bytes found);
  }
    where
      key_from : (key : Key) (bytes : List ℕ) → (get (new_states a) key ≡ Some bytes) ⊎ (SpellsHeldState layout2 bytes × ((was : List ℕ) × (get (old_states a) key ≡ Some was))) → is_key key ≡ true
      key_from key bytes (inl there) = order.new_keys key bytes there
      key_from key bytes (inr came) = whole.keys key came.1.0 came.1.1

      stored_from : (key : Key) (bytes : List ℕ) → (get (new_states a) key ≡ Some bytes) ⊎ (SpellsHeldState layout2 bytes × ((was : List ℕ) × (get (old_states a) key ≡ Some was))) → SpellsHeldState layout2 bytes
      stored_from key bytes (inl there) = order.new_stored key bytes there
      stored_from key bytes (inr came) = came.0

  order_off : AreInOrder version (old_states b) (new_states b) → AreInOrder version (old_states a) (new_states a)
  order_off order = record {
    old_keys = whole.keys;
    new_keys = λ key bytes found. order.new_keys key bytes (moved.kept key bytes found);
    tables = whole.tables;
    old_stored = λ key bytes found. old_by key bytes (find key_cmp key done) refl found;
    new_stored = λ key bytes found. order.new_stored key bytes (moved.kept key bytes found);
  }
    where
      old_by : (key : Key) (bytes : List ℕ) (o : Option (List ℕ)) → find key_cmp key done ≡ o → get (old_states a) key ≡ Some bytes → SpellsHeldState layout1 bytes
      old_by key bytes None is found = order.old_stored key bytes (moved.left key ∙ ap (λ o. cond (is_some o) None (get (old_states a) key)) is ∙ found)
      old_by key bytes (Some was) is found = moved.read key bytes (is ∙ sym (moved.had key was is) ∙ found)

  pub order_moved : AreInOrder version (old_states a) (new_states a) ↔ AreInOrder version (old_states b) (new_states b)
  order_moved = (order_on, order_off)

  -- where nothing more was moved
  pub order_then : (c : Database) → c ≡ b → AreInOrder version (old_states a) (new_states a) ↔ AreInOrder version (old_states c) (new_states c)
  order_then c same = subst (λ d. AreInOrder version (old_states a) (new_states a) ↔ AreInOrder version (old_states d) (new_states d)) (sym same) order_moved

  -- the end of a move that was refused
  pub order_ended : (result : Result (Unit {0}) Refusal) (c : Database) → OnErr result (c ≡ b) → IfErr result (λ _. AreInOrder version (old_states a) (new_states a) ↔ AreInOrder version (old_states c) (new_states c))
  order_ended (Ok ended) c same = tt
  order_ended (Err e) c same = order_then c same

pub order_same : (version : ℕ) (a b : Database) → b ≡ a → AreInOrder version (old_states a) (new_states a) ↔ AreInOrder version (old_states b) (new_states b)
order_same version a b same = subst (λ d. AreInOrder version (old_states a) (new_states a) ↔ AreInOrder version (old_states d) (new_states d)) (sym same) (λ order. order, λ order. order)

pub resumes_same : (version number : ℕ) (a b : Database) → b ≡ a → HoldsRecords version number a → Resumes version number a b
resumes_same version number a b same holds = (version, inl refl, subst (HoldsRecords version number) (sym same) holds, order_same version a b same)

pub resumes_moved : (version number : ℕ) (a b c : Database) → c ≡ b → HoldsRecords 2 number b → Migrates version a b → Resumes version number a c
resumes_moved version number a b c same holds migrates = subst (Resumes version number a) (sym same) (2, inr refl, holds, (order_after version a b migrates, order_before version a b migrates))

-- from the database before its tables were made
pub resumes_opened : (version site number : ℕ) (a b c : Database) → number ≡ site → KeepsStates a b → Resumes version number b c → Resumes version site a c
resumes_opened version site number a b c same keeps it = subst (λ n. Resumes version n a c) same
    (it.0, it.1, it.2, (λ order. it.3.0 (order_kept version a b keeps order), λ order. order_back version a b keeps (it.3.1 order)))

-- ---- one pair more

all_more : {X : Type 0} (P : X → Type 0) (xs : List X) (x : X) → AllByRecursion P xs → P x → AllByRecursion P (xs ++ x ∷ [])
all_more P [] x all one = (one, tt)
all_more P (y ∷ ys) x all one = (all.0, all_more P ys x all.1 one)

pub spelled_more : (before after : List (Key × State)) (done : List Pair) (p : Pair) (s : State) (read : List ℕ) → after ≡ before ++ (p.0, s) ∷ [] → spelled_entries before ≡ pair_entries done → spell_state s ≡ read → read ≡ p.1.items →
    spelled_entries after ≡ pair_entries (done ++ p ∷ [])
spelled_more before after done p s read is so_far spelled same =
    ap spelled_entries is ∙ map-append (λ (e : Key × State). (e.0, spell_state e.1)) before ((p.0, s) ∷ [])
    ∙ ap (λ l. l ++ (p.0, spell_state s) ∷ []) so_far ∙ ap (λ b. pair_entries done ++ (p.0, b) ∷ []) (spelled ∙ same) ∙ sym (map-append (λ (q : Pair). (q.0, q.1.items)) done (p ∷ []))

pub held_more : (before after : List (Key × State)) (e : Key × State) → after ≡ before ++ e ∷ [] → AllByRecursion (λ (x : Key × State). IsHeldState x.1) before → IsHeldState e.1 → AllByRecursion (λ (x : Key × State). IsHeldState x.1) after
held_more before after e is all one = subst (AllByRecursion (λ (x : Key × State). IsHeldState x.1)) (sym is) (all_more (λ (x : Key × State). IsHeldState x.1) before e all one)

pub stored_more : (done : List Pair) (p : Pair) (read : List ℕ) → AllByRecursion (λ (x : Key × List ℕ). SpellsHeldState layout2 x.1) (pair_entries done) → SpellsHeldState layout2 read → read ≡ p.1.items → AllByRecursion (λ (x : Key × List ℕ). SpellsHeldState layout2 x.1) (pair_entries (done ++ p ∷ []))
stored_more done p read all one same =
    subst (AllByRecursion (λ (x : Key × List ℕ). SpellsHeldState layout2 x.1)) (sym (map-append (λ (q : Pair). (q.0, q.1.items)) done (p ∷ [])))
    (all_more (λ (x : Key × List ℕ). SpellsHeldState layout2 x.1) (pair_entries done) (p.0, p.1.items) all (subst (SpellsHeldState layout2) same one))

-- ---- a state of version 1

too_long : (short : Bool) (bytes : List ℕ) (e : Refusal) → short ≡ true → ◌≡◌ {A = Result (List ℕ) Refusal} (if short then Ok bytes else Err StateTooLarge) (Err e) → ⊥
too_long true bytes e is same = cc
too_long false bytes e is same = absurd (true≢false (sym is))

pub not_too_long : (s : State) (e : Refusal) → length (spell_state s) ≤ state_limit → (e ≢ Memory → spelled_within StateTooLarge state_limit (state_codec layout2) s ≡ Err e) → e ≢ Memory → ⊥
not_too_long s e short exact other =
    let few : length ((state_codec layout2).spell s) ≤ state_limit = subst (λ (bytes : List ℕ). length bytes ≤ state_limit) (sym (codec_is s)) short in
    let is : nat_le (length ((state_codec layout2).spell s)) state_limit ≡ true = grind (arith, nat_tests) in
    too_long (nat_le (length ((state_codec layout2).spell s)) state_limit) ((state_codec layout2).spell s) e is (exact other)

-- ---- how opening ends

pub order_opened : (a b : Database) (version site number : ℕ) → number ≡ site → TellsVersion (marks_of a) number (Ok version) → KeepsStates a b → AreInOrder version (old_states b) (new_states b) →
    (v : ℕ) × TellsVersion (marks_of a) site (Ok v) × AreInOrder v (old_states a) (new_states a)
order_opened a b version site number same told keeps order = (version, subst (λ n. TellsVersion (marks_of a) n (Ok version)) same told, order_back version a b keeps order)

pub told_as : (db : Database) (site number : ℕ) (e wanted : Refusal) → number ≡ site → e ≡ wanted → TellsVersion (marks_of db) number (Err e) → TellsVersion (marks_of db) site (Err wanted)
told_as db site number e wanted same is told = subst (λ r. TellsVersion (marks_of db) site (Err r)) is (subst (λ n. TellsVersion (marks_of db) n (Err e)) same told)

pub damaged_site : (a b : Database) (version site number : ℕ) → number ≡ site → TellsVersion (marks_of a) number (Ok version) → KeepsStates a b → ¬ AreInOrder version (old_states b) (new_states b) → AreDamaged site a
damaged_site a b version site number same told keeps unordered = inr (version, subst (λ n. TellsVersion (marks_of a) n (Ok version)) same told, λ order. unordered (order_kept version a b keeps order))

-- ---- how a load ends

opened_not_damaged : (full : Bool) (x : SiteValue) → ◌≡◌ {A = Result SiteValue Refusal} (if full then Err Full else Ok x) (Err Damaged) → ⊥
opened_not_damaged true x e = cc
opened_not_damaged false x e = cc

pub loaded_order : (config : ConfigValue) (states : List (Key × State)) (result : Result SiteValue Refusal) (old new : Stored) → IsAnswer result (opened config states) → AreInOrder 2 old new →
    MatchResult result (λ _. AreInOrder 2 old new) (λ e. e ≡ Damaged → ¬ AreInOrder 2 old new)
loaded_order config states (Ok site) old new is order = order
loaded_order config states (Err e) old new is order = λ damaged.
    let refused : opened config states ≡ Err e = is (λ memory. (let bad : Damaged ≡ Memory = sym damaged ∙ memory in absurd cc)) in
    absurd (opened_not_damaged (ltb config.max_keys (length states)) _ (refused ∙ ap (λ (r : Refusal). Err r) damaged))

pub too_many : (result : Result SiteValue Refusal) (most : ℕ) (db : Database) → AreInOrder 2 (old_states db) (new_states db) → IfErr result (λ e. e ≡ Full → most < len (new_states db)) →
    IfErr result (λ e. e ≡ Full → HoldsTooMany most db × AreInOrder 2 (old_states db) (new_states db))
too_many (Ok site) most db order many = tt
too_many (Err e) most db order many = λ full. (record { alone = order.tables.moved refl; more = many full }, order)

-- a load that changed nothing
pub too_many_after : (result : Result SiteValue Refusal) (most version : ℕ) (a b : Database) → version ≡ 2 → b ≡ a → IfErr result (λ e. e ≡ Full → HoldsTooMany most a × AreInOrder 2 (old_states a) (new_states a)) →
    IfErr result (λ e. e ≡ Full → HoldsTooMany most b × AreInOrder version (old_states a) (new_states a))
too_many_after (Ok site) most version a b two same many = tt
too_many_after (Err e) most version a b two same many = λ full. (subst (HoldsTooMany most) (sym same) (many full).0, subst (λ v. AreInOrder v (old_states a) (new_states a)) (sym two) (many full).1)

-- and one after a move
pub too_many_moved : (result : Result SiteValue Refusal) (most version : ℕ) (a b c : Database) → c ≡ b → Migrates version a b → IfErr result (λ e. e ≡ Full → HoldsTooMany most b × AreInOrder 2 (old_states b) (new_states b)) →
    IfErr result (λ e. e ≡ Full → HoldsTooMany most c × AreInOrder version (old_states a) (new_states a))
too_many_moved (Ok site) most version a b c same migrates many = tt
too_many_moved (Err e) most version a b c same migrates many = λ full. (subst (HoldsTooMany most) (sym same) (many full).0, order_before version a b migrates (many full).1)

pub order_by : (result : Result SiteValue Refusal) (version : ℕ) (old new : Stored) → version ≡ 2 → MatchResult result (λ _. AreInOrder 2 old new) (λ e. e ≡ Damaged → ¬ AreInOrder 2 old new) →
    MatchResult result (λ _. AreInOrder version old new) (λ e. e ≡ Damaged → ¬ AreInOrder version old new)
order_by result version old new two order = subst (λ v. MatchResult result (λ _. AreInOrder v old new) (λ e. e ≡ Damaged → ¬ AreInOrder v old new)) (sym two) order

pub order_migrated : (result : Result SiteValue Refusal) (version : ℕ) (a b : Database) → Migrates version a b → MatchResult result (λ _. AreInOrder 2 (old_states b) (new_states b)) (λ e. e ≡ Damaged → ¬ AreInOrder 2 (old_states b) (new_states b)) →
    MatchResult result (λ _. AreInOrder version (old_states a) (new_states a)) (λ e. e ≡ Damaged → ¬ AreInOrder version (old_states a) (new_states a))
order_migrated (Ok site) version a b migrates order = order_before version a b migrates order
order_migrated (Err e) version a b migrates order = λ damaged before. order damaged (order_after version a b migrates before)

pub alone_ordered : (result : Result SiteValue Refusal) (b c : Database) → c ≡ b → MatchResult result (λ _. AreInOrder 2 (old_states b) (new_states b)) (λ e. e ≡ Damaged → ¬ AreInOrder 2 (old_states b) (new_states b)) → IfOk result (λ _. HasNone (old_states c))
alone_ordered (Ok site) b c same order = subst (λ d. HasNone (old_states d)) (sym same) (order.tables.moved refl)
alone_ordered (Err e) b c same order = tt

-- ---- what opening gives

-- what records without old keys have is what they spell
has_spelled : (db : Database) (states : States) → HasNone (old_states db) → SpellStates (new_states db) states → AreSpelled states → HasJust db states
has_spelled db states none spelled fits key s = (by, back)
  where
    by_found : (found : Option State) → get states key ≡ found → (bytes : List ℕ) → option_map spell_state found ≡ Some bytes → Spells (state_codec layout2) s bytes → get states key ≡ Some s
    by_found None is bytes same spells = absurd (none_is_some bytes same)
    by_found (Some t) is bytes same spells =
        let own : Spells (state_codec layout2) t bytes = (fits_of t (fits key t is), sym (codec_is t ∙ some_is (spell_state t) bytes same)) in
        is ∙ ap (λ (x : State). Some x) (spells_one layout2 free2 t s bytes own spells)

    by : HasState db key s → get states key ≡ Some s
    by (inl has) = by_found (get states key) refl has.0 (sym (spelled key) ∙ has.1) has.2
    by (inr has) = absurd (none key has.0 has.1)

    back : get states key ≡ Some s → HasState db key s
    back is = inl (spell_state s, spelled key ∙ ap (option_map spell_state) is, (fits_of s (fits key s is), sym (codec_is s)))

pub has_just : (a b : Database) (states : States) → SameStates a b → HasNone (old_states b) → SpellStates (new_states b) states → AreSpelled states → HasJust a states
has_just a b states same none spelled fits key s =
    let there = has_spelled b states none spelled fits key s in
    (λ has. there.0 (same.kept key s has), λ is. same.only key s (there.1 is))

pub held_just : (number : ℕ) (db : Database) (states : States) → HoldsStates number states db → HasJust db states
held_just number db states holds = has_spelled db states holds.alone holds.spelled holds.fits

-- two maps of the same states are one
pub just_one : (db : Database) (x y : States) → HasJust db x → HasJust db y → x ≡ y
just_one db x y one other = same_map key_total key_antisymmetric _ _ (λ key. at key (get x key) refl (get y key) refl)
  where
    none_some : (s : State) → ◌≡◌ {A = Option State} None (Some s) → ⊥
    none_some s e = cc

    at : (key : Key) (a : Option State) → get x key ≡ a → (b : Option State) → get y key ≡ b → get x key ≡ get y key
    at key None is None also = is ∙ sym also
    at key (Some s) is b also = is ∙ sym ((other key s).0 ((one key s).1 is))
    at key None is (Some t) also = absurd (none_some t (sym is ∙ (one key t).0 ((other key t).1 also)))
