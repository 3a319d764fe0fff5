-- What the relation of each call says of databases.
use Rattle.std.proofs.Common.{◌≡◌, IsTrue, ℕ, List, [], ◌∷◌, Result, Ok, Err, IfErr, OnErr, OnOk, Vec, IfOk, refl, sym, subst}
use Rattle.std.specs.FinMap.{entries}
use Rattle.std.specs.declared.alloc.Global.{Global}
use Rattle.sqlite.specs.Effect.{Database}
use Rattle.sqlite.specs.State.{State, Survives}
use Rattle.sqlite.proofs.StateLemmas.{survives_weaker}
use Rattle.mvd_dots.specs.declared.refusals.Refusal.{Refusal}
use Rattle.mvd_dots.specs.declared.refusals.Refusal.TheVariants.{Damaged}
use Rattle.mvd_records.specs.declared.loading.StateTable.{StateTable}
use Rattle.mvd_records.specs.declared.loading.StateTable.TheVariants.{Version1, Version2}
use Rattle.mvd_records.specs.States.{StoredStates}
use Rattle.mvd_records.specs.Pairs.{Pair, pair_entries}
use Rattle.mvd_records.specs.Records.{EndsMove, HasNone, HoldsRecords, IsSound, IsWhole, LacksKey, LeavesTrees, MovesState}
use Rattle.mvd_records.specs.Records.{OnlyReads, SavesState, SavesStates, new_states, old_states, states_at}
use Rattle.mvd_records.specs.Contents.{Contents, EndsMoves, Holds, MovesKey, SetsStates, map_of}
use Rattle.mvd_records.specs.Seen.{Seen}
use Rattle.mvd_records.specs.Calls.{Commits, Finishes, SameCommit, Loads, MovesOldKey, Saves, SavesAll}
use Rattle.mvd_records.proofs.Contracts.{Change}

abbrev pub contents_of : ℕ → ℕ → Database → Contents
contents_of version site db =
    record { version = version; site = site; old_map = old_states db; new_map = new_states db }

pub holds_all : (version site : ℕ) (db : Database) → HoldsRecords version site db → Holds db (contents_of version site db)
holds_all version site db it = record { records = it; old_is = refl; new_is = refl }

-- ---- a change of what is held, as one of the database

abbrev pub Gives : (Contents → Contents → Type 0) → Change → Type 0
Gives C P = (version site : ℕ) (a b : Database) (now : Contents) → C (contents_of version site a) now → Holds b now →
    P version site a b

on_ok_map : {A E : Type 0} (result : Result A E) (P Q : Type 0) → (P → Q) → OnOk result P → OnOk result Q
on_ok_map (Ok x) P Q f p = f p
on_ok_map (Err e) P Q f p = tt

module _ {A : Type 0} (C : Contents → Contents → Type 0) (P : Change) (gives : Gives C P) (old new : State)
    (result : Result A Refusal) (it : Commits C old result new) where
  pub done_of : (version site : ℕ) → IsSound new → HoldsRecords version site old.committed →
      OnOk result (P version site old.committed new.committed)
  done_of version site sound holds =
      on_ok_map result _ _ (λ d. gives version site old.committed new.committed d.0 d.1 d.2)
      (it.done (contents_of version site old.committed) sound (holds_all version site old.committed holds))

  pub survives_of : Survives old new (λ trees. IsTrue old.is_open × LeavesTrees old (λ version site db. P version site old.committed db) trees)
  survives_of = survives_weaker _ _ _ _ (λ _ trees left. (
    left.0,
    λ version site is_open holds. (
        let d = left.1 (contents_of version site old.committed) (holds_all version site old.committed holds) in
        (d.2, d.3, gives version site old.committed d.2 d.0 d.1 d.4, d.5)),
  )) it.survives

sets_gives : (pairs : List (List ℕ × List ℕ)) →
    Gives (SetsStates pairs) (λ version site a b. HoldsRecords version site b × SavesStates a b pairs)
sets_gives pairs version site a b now is holds =
    let h = subst (Holds b) is holds in (h.records, record { old_same = h.old_is; saved = h.new_is })

set_gives : (key state : List ℕ) →
    Gives (SetsStates ((key, state) ∷ [])) (λ version site a b. HoldsRecords version site b × SavesState a b key state)
set_gives key state version site a b now is holds =
    let h = subst (Holds b) is holds in (h.records, record { old_same = h.old_is; saved = h.new_is })

moves_gives : (key state : List ℕ) →
    Gives (MovesKey key state) (λ version site a b. HoldsRecords version site b × MovesState a b key state)
moves_gives key state version site a b now change holds =
    let h = subst (Holds b) change.is holds in
    (h.records, record { was = change.there; removed = h.old_is; saved = h.new_is })

ends_gives : Gives EndsMoves (λ _ site a b. EndsMove site a b)
ends_gives version site a b now change holds =
    let h = subst (Holds b) change.is holds in record {
      holds = h.records;
      states = record { old_same = h.old_is; new_same = h.new_is };
      moved = subst HasNone (sym h.old_is) change.none;
    }

-- the marks are as before, after Ok and after a refusal
kept_by : {A : Type 0} (version site : ℕ) (a b : Database) (result : Result A Refusal) (P : Type 0) →
    OnOk result (HoldsRecords version site b × P) → OnErr result (b ≡ a) → HoldsRecords version site a → HoldsRecords version site b
kept_by version site a b (Ok x) P done same holds = done.0
kept_by version site a b (Err e) P done same holds = subst (HoldsRecords version site) (sym same) holds

-- ---- save_all and save

module _ {A : Type 0} (old new : Seen) (pairs : List (List ℕ × List ℕ)) (result : Result A Refusal)
    (it : SavesAll old pairs result new) where
  sets : (version site : ℕ) → IsSound new.store → HoldsRecords version site old.store.committed →
      OnOk result (HoldsRecords version site new.store.committed × SavesStates old.store.committed new.store.committed pairs)
  sets = done_of (SetsStates pairs) _ (sets_gives pairs) old.store new.store result it.commits

  pub saves_kept : (version site : ℕ) → IsSound new.store → HoldsRecords version site old.store.committed →
      HoldsRecords version site new.store.committed
  saves_kept version site sound holds =
      kept_by version site old.store.committed new.store.committed result _ (sets version site sound holds) (it.unchanged sound) holds

  pub all_survive : Survives old.store new.store (λ trees. IsTrue old.store.is_open × LeavesTrees old.store (λ version site db.
      HoldsRecords version site db × SavesStates old.store.committed db pairs) trees)
  all_survive = survives_of (SetsStates pairs) _ (sets_gives pairs) old.store new.store result it.commits

module _ {A : Type 0} (old new : Seen) (key state : List ℕ) (result : Result A Refusal)
    (it : Saves old key state result new) where
  pub saves_saved : (version site : ℕ) → IsSound new.store → HoldsRecords version site old.store.committed →
      OnOk result (SavesState old.store.committed new.store.committed key state)
  saves_saved version site sound holds = on_ok_map result _ _ (λ d. d.1)
      (done_of (SetsStates ((key, state) ∷ [])) _ (set_gives key state) old.store new.store result it.commits version site sound holds)

  pub saves_survives : Survives old.store new.store (λ trees. IsTrue old.store.is_open × LeavesTrees old.store (λ version site db.
      HoldsRecords version site db × SavesState old.store.committed db key state) trees)
  saves_survives = survives_of (SetsStates ((key, state) ∷ [])) _ (set_gives key state) old.store new.store result it.commits

-- ---- move_key

module _ {A : Type 0} (old new : Seen) (key state : List ℕ) (result : Result A Refusal)
    (it : MovesOldKey old key state result new) where
  moved : (version site : ℕ) → IsSound new.store → HoldsRecords version site old.store.committed →
      OnOk result (HoldsRecords version site new.store.committed × MovesState old.store.committed new.store.committed key state)
  moved = done_of (MovesKey key state) _ (moves_gives key state) old.store new.store result it.commits

  pub moves_kept : (version site : ℕ) → IsSound new.store → HoldsRecords version site old.store.committed →
      HoldsRecords version site new.store.committed
  moves_kept version site sound holds =
      kept_by version site old.store.committed new.store.committed result _ (moved version site sound holds) (it.unchanged sound) holds

  pub moves_moved : (version site : ℕ) → IsSound new.store → HoldsRecords version site old.store.committed →
      OnOk result (MovesState old.store.committed new.store.committed key state)
  moves_moved version site sound holds = on_ok_map result _ _ (λ d. d.1) (moved version site sound holds)

  pub moves_damaged : (version site : ℕ) → IsSound new.store → HoldsRecords version site old.store.committed →
      IfErr result (λ e. e ≡ Damaged → LacksKey (old_states old.store.committed) key)
  moves_damaged version site sound holds = it.damaged (contents_of version site old.store.committed) sound (holds_all version site old.store.committed holds)

-- ---- finish

module _ {A : Type 0} (old new : Seen) (result : Result A Refusal) (it : Finishes old result new) where
  pub finishes_finished : (version site : ℕ) → IsSound new.store → HoldsRecords version site old.store.committed →
      OnOk result (EndsMove site old.store.committed new.store.committed)
  finishes_finished = done_of EndsMoves (λ _ site a b. EndsMove site a b) ends_gives old.store new.store result it.commits

  pub finishes_damaged : (version site : ℕ) → IsSound new.store → HoldsRecords version site old.store.committed →
      IfErr result (λ e. e ≡ Damaged → ¬ HasNone (old_states old.store.committed))
  finishes_damaged version site sound holds = it.damaged (contents_of version site old.store.committed) sound (holds_all version site old.store.committed holds)

  pub finishes_unchanged : (version site : ℕ) → IsSound new.store → HoldsRecords version site old.store.committed →
      OnErr result (SameCommit old.store new.store)
  finishes_unchanged version site sound holds = it.unchanged (contents_of version site old.store.committed) sound (holds_all version site old.store.committed holds)

-- ---- load_all and load_old

of_table : (table : StateTable) (P : StoredStates → Type 0) (version site : ℕ) (db : Database) → P (map_of table (contents_of version site db)) → P (states_at table db)
of_table Version1 P version site db it = it
of_table Version2 P version site db it = it

module _ (table : StateTable) (old new : Seen) (result : Result (Vec Pair Global) Refusal) (it : Loads table old result new) where
  pub loads_reads : OnlyReads old.store new.store
  loads_reads = record {
    before = it.before;
    unchanged = λ version site sound holds. it.unchanged (contents_of version site old.store.committed) sound (holds_all version site old.store.committed holds);
    survives = survives_weaker _ _ _ _ (λ _ trees left version site is_open holds.
        absurd ((left.1 (contents_of version site old.store.committed) (holds_all version site old.store.committed holds)).1)) it.survives;
  }

  pub loads_entries : (version site : ℕ) → IsSound new.store → HoldsRecords version site old.store.committed →
      IfOk result (λ pairs. pair_entries pairs.items ≡ entries (states_at table old.store.committed))
  loads_entries version site sound holds =
      of_table table (λ m. IfOk result (λ pairs. pair_entries pairs.items ≡ entries m)) version site old.store.committed
      (it.loaded (contents_of version site old.store.committed) sound (holds_all version site old.store.committed holds))

  pub loads_whole : (version site : ℕ) → IsSound new.store → HoldsRecords version site old.store.committed → OnOk result
      (IsWhole old.version (states_at table old.store.committed) (old_states old.store.committed) (new_states old.store.committed))
  loads_whole version site sound holds =
      of_table table (λ m. OnOk result (IsWhole old.version m (old_states old.store.committed) (new_states old.store.committed)))
      version site old.store.committed (it.whole (contents_of version site old.store.committed) sound (holds_all version site old.store.committed holds))

  pub loads_damaged : (version site : ℕ) → IsSound new.store → HoldsRecords version site old.store.committed →
      IfErr result (λ e. e ≡ Damaged → ¬ IsWhole old.version (states_at table old.store.committed)
      (old_states old.store.committed) (new_states old.store.committed))
  loads_damaged version site sound holds = of_table table (λ m. IfErr result (λ e. e ≡ Damaged →
      ¬ IsWhole old.version m (old_states old.store.committed) (new_states old.store.committed)))
      version site old.store.committed (it.damaged (contents_of version site old.store.committed) sound (holds_all version site old.store.committed holds))
