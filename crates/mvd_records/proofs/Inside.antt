-- Statements inside a transaction.
use Rattle.std.proofs.Common.{◌≡◌, ◌⊎◌, inl, inr, ℕ, List, false, cond, Option, Some, None, Ok, Result, IsTrue, ap, ◌∙◌, arith}
use Rattle.sqlite.specs.Order.{Row}
use Rattle.sqlite_resolve.specs.declared.compiled.Compiled.{Compiled}
use Rattle.sqlite_schema.specs.declared.command.Returning.{Returning}
use Rattle.sqlite.specs.declared.error.Error.{Error}
use Rattle.sqlite.specs.State.{State, HasCleanDisk, KeepsCommit, Survives, ExecutesInside, Shown, ShowsRows, FailsToQuery, IsTooLate}
use Rattle.sqlite.proofs.InsideLemmas.{inside_keeps, keeps_then, unchanged_keeps}
use Rattle.sqlite.proofs.StateLemmas.{survives_then}
use Rattle.mvd_records.specs.Records.{StaysInside}
use Rattle.mvd_records.specs.Jobs.{RanStatement}
use Rattle.mvd_records.proofs.Calls.{not_shown}

pub execute_stays : (old new : State) (sql : List ℕ) (params : Row) (r : Result ℕ Error) → (HasCleanDisk new → IsTrue old.in_transaction → ExecutesInside 0 sql params old new r) → Survives old new (λ _. ⊥) → StaysInside old new
execute_stays old new sql params r runs survives = record { kept = λ clean inside. inside_keeps old new 0 false sql params r (runs clean inside); survives = survives }

pub ran_inside : (sql : List ℕ) (params : Row) (old new : State) (count : ℕ) → ExecutesInside 0 sql params old new (Ok count) → RanStatement sql params old count new
ran_inside sql params old new count h = record { did = h.0; inside = h.1.mode }

pub stays_then : (a b c : State) → (HasCleanDisk b → IsTrue a.in_transaction → IsTrue b.in_transaction) → StaysInside a b → StaysInside b c → StaysInside a c
stays_then a b c on one two = record {
  kept = λ clean inside. (let mid : HasCleanDisk b = omega (arith, two.survives.clean, clean) in keeps_then a b c (one.kept mid inside) (two.kept clean (on mid inside)));
  survives = survives_then a b c _ _ (λ _. ⊥) (λ _ db none. none) (λ _ db none. none) one.survives two.survives;
}

pub early : (a b : State) → StaysInside a b → HasCleanDisk b → HasCleanDisk a
early a b stays clean = omega (arith, stays.survives.clean, clean)

-- ---- a query inside a transaction

shows_keeps : (old new : State) (sql : List ℕ) (c : Compiled) (params : Row) (rows : List Row) (returning : Option Returning) → IsTrue old.in_transaction → ShowsRows old new sql c params rows returning
    → KeepsCommit old new × (new.in_transaction ≡ old.in_transaction)
shows_keeps old new sql c params rows None inside h = (unchanged_keeps old new (inl h.3), h.3.0.mode)
shows_keeps old new sql c params rows (Some what) inside h =
    (record { was_open = λ _. h.1.shown.was_open; committed = λ _. h.1.shown.committed_is ∙ ap (λ b. cond b old.committed new.now) inside }, h.1.shown.mode)

pub shown_inside : (sql : List ℕ) (params : Row) (old new : State) (rows : List Row) → IsTrue old.in_transaction → Shown sql params old new rows → KeepsCommit old new × (new.in_transaction ≡ old.in_transaction)
unfolding Shown
shown_inside sql params old new rows inside h = shows_keeps old new sql h.0 _ rows h.0.returning inside h.2

pub failed_inside : (sql : List ℕ) (params : Row) (old new : State) (e : Error) → FailsToQuery sql params old new e ⊎ IsTooLate sql params old new e → KeepsCommit old new
failed_inside sql params old new e (inl failed) = not_shown sql params old new e failed
failed_inside sql params old new e (inr late) = unchanged_keeps old new (inl late.5)
