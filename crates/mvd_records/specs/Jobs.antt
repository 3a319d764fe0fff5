-- A job that is done in one transaction: all of it, or nothing.
use Rattle.std.specs.Prelude.{◌≡◌, ◌⊎◌, ⊤, ℕ, Bool, MatchBool, List, [], Option, Result, IsTrue, false, OnOk, OnErr}
use Rattle.std.specs.Prelude.{IfOk, IfErr, Ok, Err}
use Rattle.sqlite.specs.Order.{Row}
use Rattle.sqlite.specs.Tree.{Trees}
use Rattle.sqlite.specs.Effect.{Database, IsDatabase}
use Rattle.sqlite.specs.State.{State, Executes, HasCleanDisk, Survives}
use Rattle.mvd_dots.specs.declared.refusals.Refusal.{Refusal}
use Rattle.mvd_dots.specs.declared.refusals.Refusal.TheVariants.{Damaged, SiteMismatch, Store}
use Rattle.mvd_records.specs.Tables.{all_tables}
use Rattle.mvd_records.specs.Records.{ChangesState, EndsMove, FindsNone, HasNone, HasTables, HoldsRecords, IsOurs}
use Rattle.mvd_records.specs.Records.{IsSound, KeepsRows, KeepsStates, LacksKey, MovesState, OpensRecords, SavesState}
use Rattle.mvd_records.specs.Records.{SavesStates, StaysInside, TakesStoredState, TellsMarks, TellsVersion, marks_of}
use Rattle.mvd_records.specs.Records.{old_states}

-- the statement ran inside a transaction, which goes on
pub record RanStatement (sql : List ℕ) (params : Row) (old : State) (count : ℕ) (new : State) : Type 0 where
  pub did : Executes sql params old new (Ok count)
  pub inside : IsTrue new.in_transaction

-- What a job is: what it makes of a database at Ok, what it is refused with beside 21, and of which database it is
pub record Meaning (A : Type 0) : Type 1 where
  pub makes : A → Database → Database → Type 0
  pub may_refuse : Refusal → Type 0
  pub refuses : Refusal → Database → Type 0

-- inside a transaction nothing is committed, and the database is the one that the connection sees
pub record DoesInside {A : Type 0} (job : Meaning A) (old : State) (result : Result A Refusal) (new : State)
    : Type 0 where
  pub stays : StaysInside old new
  pub inside : HasCleanDisk new → IsTrue old.in_transaction → OnOk result (IsTrue new.in_transaction)
  pub made : HasCleanDisk new → IsTrue old.in_transaction → IfOk result (λ out. job.makes out old.now new.now)
  pub refusal : IfErr result (λ e. (e ≡ Store) ⊎ job.may_refuse e)
  pub refused : HasCleanDisk new → IsTrue old.in_transaction → IfErr result (λ e. (e ≡ Store) ⊎ job.refuses e old.now)

-- the job is done of a database that lists its schema and obeys it
abbrev pub Did : (Database → Type 0) → Database → Type 0
Did P db = IsDatabase db × P db

-- what a crash may leave of a job that went to its commit, where the store was open: the trees of a database that it
-- made
abbrev pub LeavesJob : {A : Type 0} → Meaning A → Result A Refusal → State → Trees → Type 0
LeavesJob {A} job result s trees = IfErr result (λ e. e ≡ Store) × IsTrue s.is_open ×
    ((out : A) × (db : Database) × Did (λ old. job.makes out old db) s.committed × (trees ≡ db.trees))

-- in a transaction of its own it is done of what was committed, or nothing is
pub record DoesWhole {A : Type 0} (job : Meaning A) (old : State) (result : Result A Refusal) (new : State)
    : Type 0 where
  pub before : IsSound new → IsSound old
  pub made : IsSound new → IfOk result (λ out. Did (λ db. job.makes out db new.committed) old.committed)
  pub refusal : IfErr result (λ e. (e ≡ Store) ⊎ job.may_refuse e)
  pub refused : IsSound new → IfErr result (λ e. (e ≡ Store) ⊎ Did (job.refuses e) old.committed)
  pub unchanged : IsSound new → OnErr result (new.committed ≡ old.committed)
  pub stays_open : HasCleanDisk new → OnOk result (IsTrue new.is_open)
  pub autocommit : OnOk result (new.in_transaction ≡ false)
  pub survives : Survives old new (LeavesJob job result old)

-- ---- the jobs

-- of records of ours it makes records of the same version and site
abbrev pub OfRecords : (Database → Database → Type 0) → Database → Database → Type 0
OfRecords P old new = (version site : ℕ) → IsDatabase old → HoldsRecords version site old →
    IsDatabase new × (HoldsRecords version site new × P old new)

-- nothing is refused but for 21
abbrev pub always : (Database → Database → Type 0) → Meaning ⊤
always P = record { makes = λ _. OfRecords P; may_refuse = λ _. ⊥; refuses = λ _ _. ⊥ }

abbrev pub saving : List ℕ → List ℕ → Meaning ⊤
saving key state = always (λ old new. SavesState old new key state)

-- it is told whether the key was there, and then it has the state
abbrev pub changing : List ℕ → List ℕ → Meaning Bool
changing key state = record {
  makes = λ there. OfRecords (λ old new. MatchBool there (ChangesState old new key state) (FindsNone old new key));
  may_refuse = λ _. ⊥;
  refuses = λ _ _. ⊥;
}

abbrev pub saving_all : List (List ℕ × List ℕ) → Meaning ⊤
saving_all pairs = always (λ old new. SavesStates old new pairs)

-- 17 where the key is no old one
abbrev pub of_old : List ℕ → (Database → Database → Type 0) → Meaning ⊤
of_old key P = record {
  makes = λ _. OfRecords P;
  may_refuse = λ e. e ≡ Damaged;
  refuses = λ e db. (version site : ℕ) → IsDatabase db → HoldsRecords version site db → LacksKey (old_states db) key;
}

abbrev pub one_statement : List ℕ → Meaning ⊤
one_statement key = of_old key (λ old new. TakesStoredState old new key)

abbrev pub moving : List ℕ → List ℕ → Meaning ⊤
moving key state = of_old key (λ old new. MovesState old new key state)

-- ---- the end of a move

-- of records of ours it is told whether an old key is left, and nothing is changed
abbrev pub finding_old : Meaning Bool
finding_old = record {
  makes = λ any old new. (version site : ℕ) → IsDatabase old → HoldsRecords version site old →
      (new ≡ old) × MatchBool any (¬ HasNone (old_states old)) (HasNone (old_states old));
  may_refuse = λ _. ⊥;
  refuses = λ _ _. ⊥;
}

-- the version is 2
abbrev pub raising : Meaning ⊤
raising = record {
  makes = λ _ old new. (version site : ℕ) → IsDatabase old → HoldsRecords version site old →
      IsDatabase new × HoldsRecords 2 site new × KeepsStates old new;
  may_refuse = λ _. ⊥;
  refuses = λ _ _. ⊥;
}

-- 17 where an old key is left
abbrev pub finishing : Meaning ⊤
finishing = record {
  makes = λ _ old new. (version site : ℕ) → IsDatabase old → HoldsRecords version site old →
      IsDatabase new × EndsMove site old new;
  may_refuse = λ e. e ≡ Damaged;
  refuses = λ e db. (version site : ℕ) → IsDatabase db → HoldsRecords version site db → ¬ HasNone (old_states db);
}

-- ---- the opening of records

-- the tables that are missing are made
abbrev pub making_tables : Meaning ⊤
making_tables = record {
  makes = λ _ old new. IsOurs old → HasTables all_tables new × KeepsRows old new × (IsDatabase old → IsDatabase new);
  may_refuse = λ _. ⊥;
  refuses = λ _ _. ⊥;
}

-- the marks tell the version to the site, or why they do not
abbrev pub telling : ℕ → Meaning (Option ℕ)
telling site = record {
  makes = λ version old new. HasTables all_tables old → (new ≡ old) × TellsMarks (marks_of old) site (Ok version);
  may_refuse = λ e. (e ≡ SiteMismatch) ⊎ (e ≡ Damaged);
  refuses = λ e db. HasTables all_tables db → TellsVersion (marks_of db) site (Err e);
}

-- the first marks are written
abbrev pub marking : ℕ → Meaning ⊤
marking site = record {
  makes = λ _ old new. HasTables all_tables old →
      IsDatabase new × (marks_of old ≡ [] → HoldsRecords 2 site new × KeepsStates old new);
  may_refuse = λ _. ⊥;
  refuses = λ _ _. ⊥;
}

-- the records of the site, in the version that is told, of such a database; 16 or 17 as the marks are
abbrev pub opening_of : (Database → Type 0) → ℕ → Meaning ℕ
opening_of Is site = record {
  makes = λ version old new. Is old → IsDatabase old → IsDatabase new × OpensRecords version site old new;
  may_refuse = λ e. (e ≡ SiteMismatch) ⊎ (e ≡ Damaged);
  refuses = λ e db. Is db → TellsVersion (marks_of db) site (Err e);
}

-- our tables are there already
abbrev pub settling : ℕ → Meaning ℕ
settling = opening_of (HasTables all_tables)

abbrev pub opening : ℕ → Meaning ℕ
opening = opening_of IsOurs
