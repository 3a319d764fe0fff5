-- The relation of each call, from what its clauses on databases say.
use Rattle.std.proofs.Common.{◌≡◌, ◌⊎◌, inl, inr, ℕ, List, [], ◌∷◌, Vec, Some, Result, Ok, Err, IfOk, IfErr, OnOk, arith, refl, sym, ap, subst, subst₂, ◌∙◌}
use Rattle.std.specs.Prelude.{IsTrue, MatchResult, ⊤}
use Rattle.std.specs.FinMap.{entries, get, insert, remove}
use Rattle.std.specs.declared.alloc.Global.{Global}
use Rattle.sqlite.specs.Effect.{Database, IsDatabase}
use Rattle.sqlite.specs.Tree.{Trees}
use Rattle.sqlite.specs.State.{HasCleanDisk, IsUnchanged, State, Survives}
use Rattle.sqlite.proofs.StateLemmas.{survives_then, survives_weaker}
use Rattle.mvd_dots.specs.declared.refusals.Refusal.{Refusal}
use Rattle.mvd_dots.specs.declared.refusals.Refusal.TheVariants.{Damaged, Memory, Store}
use Rattle.mvd_records.specs.declared.loading.StateTable.{StateTable}
use Rattle.mvd_records.specs.declared.loading.StateTable.TheVariants.{Version1, Version2}
use Rattle.mvd_records.specs.States.{StoredStates}
use Rattle.mvd_records.specs.Pairs.{Pair, pair_entries, pairs_rise}
use Rattle.mvd_records.specs.Records.{EndsMove, HasNone, HoldsRecords, IsSound, IsWhole, LacksKey, LeavesTrees, LeavesMade, LeavesUnmade, MovesState, OnlyReads, SavesState, SavesStates, marks_of, new_states, old_states, states_at, with_pairs}
use Rattle.mvd_records.specs.Contents.{Contents, EndsMoves, Holds, MovesKey, SetsStates, map_of}
use Rattle.mvd_records.specs.Calls.{Commits, Finishes, IsOpenedAs, IsRefusedAs, LeavesChange, Loads, MovesOldKey, SavesAll}
use Rattle.mvd_records.specs.Foreign.{HoldsForeign}
use Rattle.mvd_records.specs.Jobs.{DoesWhole, LeavesJob, Meaning, OfRecords, always, finishing, moving, opening}
use Rattle.mvd_records.proofs.Checked.{if_err, if_ok}
use Rattle.mvd_records.proofs.Marked.{told_store}
use Rattle.mvd_records.proofs.PairLemmas.{pairs_sorted}

-- what a call does to a database of ours of this version and site
abbrev pub Change : Type 1
Change = ℕ → ℕ → Database → Database → Type 0

-- A change of a database is one of what it holds
abbrev pub Follows : Change → (Contents → Contents → Type 0) → Type 0
Follows P C =
    (was : Contents) (a b : Database) → Holds a was → P was.version was.site a b → (now : Contents) × C was now × Holds b now

-- ---- a call on a store that was found open

-- an open store is as it was, and nothing is committed yet
pub record IsFound (old mid : State) : Type 0 where
  pub same : HasCleanDisk mid → IsUnchanged old mid
  pub nothing : Survives old mid (λ _. ⊥)

module _ (old mid new : State) (found : IsFound old mid) where
  pub before_found : (IsSound new → IsSound mid) → IsSound new → IsSound old
  before_found before sound =
      let it = before sound in
      record { clean = omega (arith, found.nothing.clean, it.clean); is_open = (found.same it.clean).0.was_open }

  pub commit_found : (IsSound new → IsSound mid) → IsSound new → mid.committed ≡ old.committed
  commit_found before sound = (found.same (before sound).clean).0.committed_is

  -- what was held was held then
  pub held_found : (IsSound new → IsSound mid) → (was : Contents) → IsSound new → Holds old.committed was → Holds mid.committed was
  held_found before was sound holds = subst (λ (d : Database). Holds d was) (sym (commit_found before sound)) holds

pub left : (P : Change) (C : Contents → Contents → Type 0) (s : State) (trees : Trees) → Follows P C → IsTrue s.is_open →
    LeavesTrees s (λ version site db. P version site s.committed db) trees → LeavesChange C s trees
left P C s trees follows is_open leaves = (
  is_open,
  λ was holds. (
      let it = leaves was.version was.site is_open holds.records in
      let now = follows was s.committed it.0 holds it.2 in
      (now.0, now.1, it.0, it.1, now.2, it.3)),
)

-- what a crash leaves of a store that was found open is left of it as it was before
leaves_as : (P : Change) (old mid : State) (trees : Trees) → IsUnchanged old mid →
    LeavesTrees mid (λ version site db. P version site mid.committed db) trees → LeavesTrees old (λ version site db. P version site old.committed db) trees
leaves_as P old mid trees same leaves version site _ holds =
    let is = same.0.committed_is in
    let it = leaves version site same.0.is_open (subst (HoldsRecords version site) (sym is) holds) in
    (it.0, it.1, subst (λ (d : Database). P version site d it.0) is it.2, it.3)

pub survives_found : (P : Change) (C : Contents → Contents → Type 0) (old mid new : State) → Follows P C → IsFound old mid →
    Survives mid new (LeavesTrees mid (λ version site db. P version site mid.committed db)) → Survives old new (LeavesChange C old)
survives_found P C old mid new follows found it =
    survives_then _ _ _ _ _ _ (λ _ _ none. absurd none) (λ clean trees leaves. (
    let early : HasCleanDisk mid = omega (arith, it.clean, clean) in
    let same = found.same early in
    left P C old trees follows same.0.was_open (leaves_as P old mid trees same leaves))) found.nothing it

-- ---- a call on a store that was found shut

-- ---- the changes

pub sets : (pairs : List (List ℕ × List ℕ)) → Follows (λ version site a b. HoldsRecords version site b × SavesStates a b pairs) (SetsStates pairs)
sets pairs was a b holds it = (
  record was { new_map = with_pairs was.new_map pairs },
  refl,
  record {
    records = it.0;
    old_is = it.1.old_same ∙ holds.old_is;
    new_is = it.1.saved ∙ ap (λ (m : StoredStates). with_pairs m pairs) holds.new_is;
  },
)

pub sets_one : (key state : List ℕ) → Follows (λ version site a b. HoldsRecords version site b × SavesState a b key state) (SetsStates ((key, state) ∷ []))
sets_one key state was a b holds it = (
  record was { new_map = insert was.new_map key state },
  refl,
  record {
    records = it.0;
    old_is = it.1.old_same ∙ holds.old_is;
    new_is = it.1.saved ∙ ap (λ (m : StoredStates). insert m key state) holds.new_is;
  },
)

pub moves : (key state : List ℕ) → Follows (λ version site a b. HoldsRecords version site b × MovesState a b key state) (MovesKey key state)
moves key state was a b holds it = (
  record was { old_map = remove was.old_map key; new_map = insert was.new_map key state },
  record { there = (it.1.was.0, subst (λ (m : StoredStates). get m key ≡ Some it.1.was.0) holds.old_is it.1.was.1); is = refl },
  record {
    records = it.0;
    old_is = it.1.removed ∙ ap (λ (m : StoredStates). remove m key) holds.old_is;
    new_is = it.1.saved ∙ ap (λ (m : StoredStates). insert m key state) holds.new_is;
  },
)

pub ends : Follows (λ version site a b. EndsMove site a b) EndsMoves
ends was a b holds it = (
  record was { version = 2 },
  record { none = subst HasNone (it.states.old_same ∙ holds.old_is) it.moved; is = refl },
  record { records = it.holds; old_is = it.states.old_same ∙ holds.old_is; new_is = it.states.new_same ∙ holds.new_is },
)

-- ---- a job in a transaction of its own

-- what a job of records makes of them is a change of what is held
pub of_records : (P : Database → Database → Type 0) (C : Contents → Contents → Type 0) → Follows (λ version site a b. HoldsRecords version site b × P a b) C
    → (was : Contents) (a b : Database) → Holds a was → IsDatabase a → OfRecords P a b → IsDatabase b × ((now : Contents) × C was now × Holds b now)
of_records P C follows was a b holds sound makes = let it = makes was.version was.site sound holds.records in (it.0, follows was a b holds it.1)

module _ {A : Type 0} (job : Meaning A) (C : Contents → Contents → Type 0) (follows : (out : A) (was : Contents) (a b : Database) → Holds a was → IsDatabase a → job.makes out a b → IsDatabase b × ((now : Contents) × C was now × Holds b now)) where
  leaves_change : (s : State) (result : Result A Refusal) (trees : Trees) → LeavesJob job result s trees → LeavesChange C s trees
  leaves_change s result trees (told, is_open, (out, db, did, is)) =
      (is_open, λ was holds. (let n = follows out was s.committed db holds did.0 did.1 in (n.1.0, n.1.1, db, n.0, n.1.2, is)))

  pub commits_whole : (old new : State) (result : Result A Refusal) → DoesWhole job old result new → Commits C old result new
  commits_whole old new (Ok out) it = record {
    before = it.before;
    done = λ was sound holds. (let did = it.made sound in (follows out was old.committed new.committed holds did.0 did.1).1);
    survives = survives_weaker _ _ _ _ (λ _. leaves_change old (Ok out)) it.survives;
  }
  commits_whole old new (Err e) it = record { before = it.before; done = λ _ _ _. tt; survives = survives_weaker _ _ _ _ (λ _. leaves_change old (Err e)) it.survives }

-- a job that is never refused but for 21
pub only_store : {A : Type 0} (result : Result A Refusal) → IfErr result (λ e. (e ≡ Store) ⊎ ⊥) → IfErr result (λ e. e ≡ Store)
only_store result it = if_err result _ _ (λ e h. elim h [ inl is ↦ is | inr none ↦ absurd none ]) it

pub saves_all : (P : Database → Database → Type 0) (pairs : List (List ℕ × List ℕ)) (version : ℕ) (old new : State) (result : Result ⊤ Refusal) → Follows (λ version site a b. HoldsRecords version site b × P a b) (SetsStates pairs)
    → DoesWhole (always P) old result new → SavesAll (record { version = version; store = old }) pairs result (record { version = version; store = new })
saves_all P pairs version old new result follows it = record {
  commits = commits_whole (always P) (SetsStates pairs) (λ _. of_records P (SetsStates pairs) follows) old new result it;
  refusal = only_store result it.refusal;
  unchanged = it.unchanged;
  stays_open = it.stays_open;
  version = refl;
}

never : (e : Refusal) → e ≡ Store → e ≡ Damaged → ⊥
never e a b = let apart : Store ≡ Damaged = sym a ∙ b in cc

pub moves_key : (key state : List ℕ) (version : ℕ) (old new : State) (result : Result ⊤ Refusal) → DoesWhole (moving key state) old result new
    → MovesOldKey (record { version = version; store = old }) key state result (record { version = version; store = new })
moves_key key state version old new result it = record {
  commits = commits_whole (moving key state) (MovesKey key state) (λ _. of_records (λ a b. MovesState a b key state) (MovesKey key state) (moves key state)) old new result it;
  refusal = if_err result _ _ (λ e h. elim h [ inl is ↦ inr is | inr is ↦ inl is ]) it.refusal;
  damaged = λ was sound holds. if_err result _ _ (λ e h is. elim h [
    | inl store ↦ absurd (never e store is)
    | inr did ↦ subst (λ (m : StoredStates). LacksKey m key) holds.old_is (did.1 was.version was.site did.0 holds.records)
  ]) (it.refused sound);
  unchanged = it.unchanged;
  version = refl;
}

pub finishes_moves : (version version' : ℕ) (old new : State) (result : Result ⊤ Refusal) → MatchResult result (λ _. version' ≡ 2) (λ _. version' ≡ version) → DoesWhole finishing old result new
    → Finishes (record { version = version; store = old }) result (record { version = version'; store = new })
finishes_moves version version' old new result raised it = record {
  commits = commits_whole finishing EndsMoves (λ _ was a b holds sound makes. (let did = makes was.version was.site sound holds.records in (did.0, ends was a b holds did.1))) old new result it;
  refusal = if_err result _ _ (λ e h. elim h [ inl is ↦ inr is | inr is ↦ inl is ]) it.refusal;
  damaged = λ was sound holds. if_err result _ _ (λ e h is. elim h [
    | inl store ↦ absurd (never e store is)
    | inr did ↦ subst (λ (m : StoredStates). ¬ HasNone m) holds.old_is (did.1 was.version was.site did.0 holds.records)
  ]) (it.refused sound);
  unchanged = λ was sound holds. it.unchanged sound;
  version = raised;
}

-- what a crash may leave of an opening
leaves_made : (site : ℕ) (s : State) (result : Result ℕ Refusal) (trees : Trees) → LeavesJob (opening site) result s trees → LeavesMade s site trees
leaves_made site s result trees (told, is_open, (version, db, did, is)) _ ours = let it = did.1 ours did.0 in (db, version, it.0, it.1, is)

pub opened_whole : (site : ℕ) (old new : State) (version : ℕ) → DoesWhole (opening site) old (Ok version) new → ¬ HoldsForeign old → IsOpenedAs old site (record { version = version; store = new })
opened_whole site old new version it own = record {
  before = it.before;
  opened = λ sound ours. (let did = it.made sound in (did.1 ours did.0).1);
  autocommit = it.autocommit;
  survives = survives_weaker _ _ _ _ (λ _ trees left. (left.1, leaves_made site old (Ok version) trees left)) it.survives;
  own = own;
}

pub refused_whole : (site : ℕ) (old new : State) (e : Refusal) → DoesWhole (opening site) old (Err e) new → IsRefusedAs old site e new
refused_whole site old new e it = record {
  before = it.before;
  refusal = elim it.refusal [ inl is ↦ inr (inr is) | inr other ↦ elim other [ inl mismatch ↦ inl mismatch | inr damaged ↦ inr (inl damaged) ] ];
  told = λ sound ours. elim (it.refused sound) [ inl is ↦ told_store (marks_of old.committed) site e is | inr did ↦ did.1 ours ];
  unchanged = it.unchanged;
  survives = survives_weaker _ _ _ _ (λ _ trees left. (left.1, subst (λ r. LeavesUnmade r old site trees) (sym left.0) (leaves_made site old (Err e) trees left))) it.survives;
}

-- ---- loads

at_table : (table : StateTable) (db : Database) (it : Contents) → Holds db it → states_at table db ≡ map_of table it
at_table Version1 db it holds = holds.old_is
at_table Version2 db it holds = holds.new_is

of_maps : (table : StateTable) (P : StoredStates → StoredStates → StoredStates → Type 0) (db : Database) (it : Contents) → Holds db it → P (states_at table db) (old_states db) (new_states db) → P (map_of table it) it.old_map it.new_map
of_maps table P db it holds p = subst (λ (m : StoredStates). P m it.old_map it.new_map) (at_table table db it holds) (subst₂ (λ (o n : StoredStates). P (states_at table db) o n) holds.old_is holds.new_is p)

pub loads : (table : StateTable) (version : ℕ) (old mid new : State) (result : Result (Vec Pair Global) Refusal) → IsFound old mid → OnlyReads mid new
    → ((marked site : ℕ) → IsSound new → HoldsRecords marked site mid.committed → IfOk result (λ pairs. pair_entries pairs.items ≡ entries (states_at table mid.committed)))
    → IfOk result (λ pairs. pairs_rise (pair_entries pairs.items))
    → ((marked site : ℕ) → IsSound new → HoldsRecords marked site mid.committed → OnOk result (IsWhole version (states_at table mid.committed) (old_states mid.committed) (new_states mid.committed)))
    → ((marked site : ℕ) → IsSound new → HoldsRecords marked site mid.committed → IfErr result (λ e. e ≡ Damaged → ¬ IsWhole version (states_at table mid.committed) (old_states mid.committed) (new_states mid.committed)))
    → IfErr result (λ e. (e ≡ Damaged) ⊎ ((e ≡ Memory) ⊎ (e ≡ Store)))
    → (HasCleanDisk new → OnOk result (IsTrue new.is_open))
    → Loads table (record { version = version; store = old }) result (record { version = version; store = new })
loads table version old mid new result found reads loaded rising whole damaged refusal stays =
    let there = held_found old mid new found reads.before in
    record {
      before = before_found old mid new found reads.before;
      loaded = λ was sound holds. (let h = there was sound holds in of_maps table (λ m _ _. IfOk result (λ pairs. pair_entries pairs.items ≡ entries m)) mid.committed was h (loaded was.version was.site sound h.records));
      rising = rising;
      sorted = if_ok result _ _ (λ pairs up. pairs_sorted pairs.items up) rising;
      whole = λ was sound holds. (let h = there was sound holds in of_maps table (λ m o n. OnOk result (IsWhole version m o n)) mid.committed was h (whole was.version was.site sound h.records));
      damaged = λ was sound holds. (let h = there was sound holds in of_maps table (λ m o n. IfErr result (λ e. e ≡ Damaged → ¬ IsWhole version m o n)) mid.committed was h (damaged was.version was.site sound h.records));
      refusal = refusal;
      unchanged = λ was sound holds. reads.unchanged was.version was.site sound (there was sound holds).records ∙ commit_found old mid new found reads.before sound;
      stays_open = stays;
      survives = survives_found (λ _ _ _ _. ⊥) (λ _ _. ⊥) old mid new (λ _ _ _ _ none. absurd none) found reads.survives;
      version = refl;
    }
