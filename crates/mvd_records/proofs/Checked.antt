-- What a call leaves that reads the records.
use Rattle.std.proofs.Common.{◌≡◌, ◌≢◌, ◌==◌, inl, inr, ℕ, List, [], ◌∷◌, length, not, Bool, true, false, IsTrue, MatchBool, Result, Ok, Err, IfOk, IfErr, OnOk, refl, sym, ap, subst, ◌∙◌, arith}
use Rattle.std.specs.Bool.{MatchBool}
use Rattle.std.specs.Cmp.{unsigned_Decides}
use Rattle.sqlite.specs.Order.{Row}
use Rattle.sqlite.specs.Effect.{Database, IsDatabase}
use Rattle.sqlite.specs.Listing.{understood}
use Rattle.sqlite.specs.Given.{IsPlain}
use Rattle.sqlite.specs.State.{State, HasCleanDisk, KeepsCommit, Survives, Shown, CommitsShowing}
use Rattle.sqlite.proofs.Callers.{never_commits}
use Rattle.sqlite.proofs.StateLemmas.{survives_then, survives_weaker}
use Rattle.mvd_records.specs.Tables.{all_tables, old_states_table, new_states_table}
use Rattle.mvd_records.specs.States.{states_in}
use Rattle.mvd_records.specs.Records.{IsSound, IsQuiescent, HoldsRecords, OnlyReads, LeavesTrees, HasNone, AreDisjoint, rows_at}
use Rattle.mvd_records.specs.Records as maps
use Rattle.mvd_records.proofs.Calls.{shown_open}
use Rattle.mvd_records.proofs.Rules.{AreStates, apart_in, old_states_of, new_states_of}
use Rattle.mvd_records.proofs.Saved.{rows_there}
use Rattle.mvd_records.proofs.Texts.{any_old_text, any_both_text}
use Rattle.mvd_records.proofs.Asked.{any_old, any_both, no_state, no_row, maps_apart, rows_unlike}

-- the schema that a statement meets
pub met_schema : (version site : ℕ) (old : State) → IsQuiescent old → IsTrue old.is_open → HoldsRecords version site old.committed → old.now.schema ≡ all_tables
met_schema version site old settled was holds = ap (λ (d : Database). d.schema) (settled.settled was) ∙ holds.tables.schema

-- a query that is plain under all tables only reads
pub only_reads : (sql : List ℕ) (old new : State) → IsPlain (understood all_tables sql) → IsQuiescent old → (IsSound new → IsSound old)
    → (HasCleanDisk new → IsPlain (understood old.now.schema sql) → KeepsCommit old new) → Survives old new (CommitsShowing sql [] old) → OnlyReads old new
only_reads sql old new plain settled before keeps survives = record {
  before = before;
  unchanged = λ version site it holds. (keeps it.clean (at version site (before it).is_open holds)).committed it.is_open;
  survives = survives_weaker old new _ _ (λ clean db shows version site was holds. absurd (never_commits sql [] old db (at version site was holds) shows)) survives;
}
  where
    at : (version site : ℕ) → IsTrue old.is_open → HoldsRecords version site old.committed → IsPlain (understood old.now.schema sql)
    at version site was holds = subst (λ s. IsPlain (understood s sql)) (sym (met_schema version site old settled was holds)) plain

pub reads_then : (a b c : State) → (HasCleanDisk c → IsTrue b.is_open) → OnlyReads a b → OnlyReads b c → OnlyReads a c
reads_then a b c stays one two = record {
  before = λ it. one.before (two.before it);
  unchanged = λ version site it holds. (let mid = one.unchanged version site (two.before it) holds in two.unchanged version site it (subst (HoldsRecords version site) (sym mid) holds) ∙ mid);
  survives = survives_then a b c _ _ _ (λ _ db left. left) (λ clean db left version site was holds. (
      let sound : IsSound b = record { clean = omega (arith, two.survives.clean, clean); is_open = stays clean } in
      left version site (stays clean) (subst (HoldsRecords version site) (sym (one.unchanged version site sound holds)) holds))) one.survives two.survives;
}

-- where the store is not settled nothing is read
pub reads_nothing : (s : State) → OnlyReads s s
reads_nothing s = record {
  before = λ it. it;
  unchanged = λ version site it holds. refl;
  survives = record { clean = omega arith; shield = λ h. h; counts = omega arith; limit = refl; closes = λ _ h. inl h; crash = λ _ db h. inl h };
}

-- the rows of the two tables
pub states_of : (version site : ℕ) (old : State) → IsQuiescent old → IsTrue old.is_open → HoldsRecords version site old.committed → AreStates (old.now.trees 0) × AreStates (old.now.trees 4)
states_of version site old settled was holds =
    let now : old.now ≡ old.committed = settled.settled was in
    let here = subst (HoldsRecords version site) (sym now) holds in
    let sound = (settled.live was).0 in
    (old_states_of old.now here.tables.schema sound (here.tables.rows old_states_table (inl refl)), new_states_of old.now here.tables.schema sound (here.tables.rows new_states_table (inr (inr (inl refl)))))

-- the two maps, by those rows
pub maps_of : (version site : ℕ) (old : State) → IsQuiescent old → IsTrue old.is_open → HoldsRecords version site old.committed
    → (maps.old_states old.committed ≡ states_in (old.now.trees 0)) × (maps.new_states old.committed ≡ states_in (old.now.trees 4))
maps_of version site old settled was holds =
    let now : old.now ≡ old.committed = settled.settled was in
    let there = rows_there old.committed holds.tables.schema in
    (ap states_in (there.0 ∙ ap (λ (d : Database). d.trees 0) (sym now)), ap states_in (there.1 ∙ ap (λ (d : Database). d.trees 4) (sym now)))

abbrev pub Tells : (Type 0) → Bool → Type 0
Tells P any = MatchBool any (¬ P) P

-- whether there is a row
pub any_row : (empty : Bool) (rows : List Row) → empty ≡ (length rows == 0) → MatchBool (not empty) (rows ≢ []) (rows ≡ [])
any_row true [] e = refl
any_row true (r ∷ rows) e = absurd (let none : length (r ∷ rows) ≡ 0 = (unsigned_Decides (length (r ∷ rows)) 0).0 (sym e) in omega (arith, none))
any_row false [] e = absurd (let no : false ≡ true = e in cc)
any_row false (r ∷ rows) e = λ none. absurd (let no : r ∷ rows ≡ [] = none in cc)

-- as the connection sees it
pub tells_inside : (version site : ℕ) (old new : State) (rows : List Row) (any : Bool) → IsDatabase old.now → HoldsRecords version site old.now → Shown any_old_text [] old new rows → MatchBool any (rows ≢ []) (rows ≡ [])
    → Tells (HasNone (maps.old_states old.now)) any
tells_inside version site old new rows any sound holds h is =
    let has = holds.tables.schema in
    let asked = any_old old new rows has h in
    let are = old_states_of old.now has sound (holds.tables.rows old_states_table (inl refl)) in
    subst (λ m. Tells (HasNone m) any) (sym (ap states_in (rows_there old.now has).0)) (answer any is asked (apart_in _ are))
  where
    answer : (any : Bool) → MatchBool any (rows ≢ []) (rows ≡ []) → (rows ≡ [] → old.now.trees 0 ≡ []) × (old.now.trees 0 ≡ [] → rows ≡ []) → Rattle.mvd_records.proofs.Rows.IsApart (old.now.trees 0) → Tells (HasNone (states_in (old.now.trees 0))) any
    answer true some both apart = λ none. some (both.1 (no_row _ apart none))
    answer false none both apart = no_state _ (both.0 none)

pub tells_old : (version site : ℕ) (old new : State) (rows : List Row) (any : Bool) → IsQuiescent old → HoldsRecords version site old.committed → Shown any_old_text [] old new rows → MatchBool any (rows ≢ []) (rows ≡ [])
    → Tells (HasNone (maps.old_states old.committed)) any
tells_old version site old new rows any settled holds h is =
    let was = shown_open any_old_text [] old new rows h in
    let now = settled.settled was in
    subst (λ (d : Database). Tells (HasNone (maps.old_states d)) any) now (tells_inside version site old new rows any (settled.live was).0 (subst (HoldsRecords version site) (sym now) holds) h is)

pub tells_both : (version site : ℕ) (old new : State) (rows : List Row) (any : Bool) → IsQuiescent old → HoldsRecords version site old.committed → Shown any_both_text [] old new rows → MatchBool any (rows ≢ []) (rows ≡ [])
    → Tells (AreDisjoint (maps.old_states old.committed) (maps.new_states old.committed)) any
tells_both version site old new rows any settled holds h is =
    let was = shown_open any_both_text [] old new rows h in
    let are = states_of version site old settled was holds in
    let asked = any_both old new rows (met_schema version site old settled was holds) are.0 are.1 h in
    let both = maps_of version site old settled was holds in
    let held : Tells (AreDisjoint (states_in (old.now.trees 0)) (states_in (old.now.trees 4))) any = answer any is (apart_in _ are.0) (apart_in _ are.1) asked.0 asked.1 in
    subst (λ m. Tells (AreDisjoint m (maps.new_states old.committed)) any) (sym both.0) (subst (λ m. Tells (AreDisjoint (states_in (old.now.trees 0)) m) any) (sym both.1) held)
  where
    answer : (any : Bool) → MatchBool any (rows ≢ []) (rows ≡ []) → Rattle.mvd_records.proofs.Rows.IsApart (old.now.trees 0) → Rattle.mvd_records.proofs.Rows.IsApart (old.now.trees 4)
        → (rows ≡ [] → Rattle.mvd_records.proofs.Asked.AreUnlike (old.now.trees 0) (old.now.trees 4)) → (Rattle.mvd_records.proofs.Asked.AreUnlike (old.now.trees 0) (old.now.trees 4) → rows ≡ [])
        → Tells (AreDisjoint (states_in (old.now.trees 0)) (states_in (old.now.trees 4))) any
    answer true some one other fst snd = λ apart. some (snd (rows_unlike _ _ one other apart))
    answer false none one other fst snd = maps_apart _ _ (fst none)

pub if_ok : {X E : Type 0} (r : Result X E) (P Q : X → Type 0) → ((x : X) → P x → Q x) → IfOk r P → IfOk r Q
if_ok (Ok x) P Q f h = f x h
if_ok (Err e) P Q f h = tt

pub if_both : {X E : Type 0} (r : Result X E) (P Q R : X → Type 0) → ((x : X) → P x → Q x → R x) → IfOk r P → IfOk r Q → IfOk r R
if_both (Ok x) P Q R f h k = f x h k
if_both (Err e) P Q R f h k = tt

pub if_err : {X E : Type 0} (r : Result X E) (P Q : E → Type 0) → ((e : E) → P e → Q e) → IfErr r P → IfErr r Q
if_err (Ok x) P Q f h = tt
if_err (Err e) P Q f h = f e h

pub on_ok : {X E : Type 0} (r : Result X E) (P Q : X → Type 0) (R : Type 0) → ((x : X) → P x → Q x → R) → IfOk r P → IfOk r Q → OnOk r R
on_ok (Ok x) P Q R f h k = f x h k
on_ok (Err e) P Q R f h k = tt

-- the text is plain under the schema that it meets
pub plain_at : (sql : List ℕ) (version site : ℕ) (old : State) → IsPlain (understood all_tables sql) → IsQuiescent old → IsTrue old.is_open → HoldsRecords version site old.committed → IsPlain (understood old.now.schema sql)
plain_at sql version site old plain settled was holds = subst (λ s. IsPlain (understood s sql)) (sym (met_schema version site old settled was holds)) plain

pub on_then : {X E : Type 0} (r : Result X E) (P Q : Type 0) → (P → Q) → OnOk r P → OnOk r Q
on_then (Ok x) P Q f h = f h
on_then (Err e) P Q f h = tt
