-- Why the database was asked in vain.
use Rattle.std.specs.Prelude.{◌≡◌, ◌⊎◌, Bool, false, ℕ, List, [], Option, None, IsTrue, codes}
use Rattle.sqlite.specs.declared.error.Error.{Error}
use Rattle.sqlite.specs.State.{State, FailsToQuery, HasCleanDisk, IsNotRun}
use Rattle.mvd_records.specs.Records.{HasTables, IsMarked, IsSound, marks_of}
use Rattle.mvd_records.specs.Tables.{all_tables}

-- a store is found shut only where it does not even run an empty statement
abbrev pub FindsShut : State → State → Bool → Type 0
FindsShut old new result = HasCleanDisk new → result ≡ false → (e : Error) × IsNotRun old new (codes "") [] e

-- the text that asks for the marks
abbrev pub asks_marks : List ℕ
asks_marks = codes "SELECT name, value FROM meta"

-- no site is named only where a transaction is under way, the database does not answer, or the marks are none of ours
abbrev pub NamesNone : State → State → Option ℕ → Type 0
NamesNone old new result =
    IsSound new → HasTables all_tables old.committed → result ≡ None →
    IsTrue old.in_transaction ⊎ (((e : Error) × FailsToQuery asks_marks [] old new e)
    ⊎ ((version site : ℕ) → ¬ IsMarked version site (marks_of old.committed)))
