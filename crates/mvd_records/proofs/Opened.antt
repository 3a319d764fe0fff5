-- What a transaction leaves that was begun, and then committed or rolled back.
use Rattle.std.proofs.Common.{◌≡◌, ◌≤◌, inl, inr, true, IsTrue, refl, arith}
use Rattle.sqlite.specs.Tree.{Trees}
use Rattle.sqlite_trees.specs.declared.store.Store.{Ghosts}
use Rattle.sqlite.specs.declared.error.Error.{Error}
use Rattle.sqlite.specs.Held.{Held, state}
use Rattle.sqlite.specs.State.{State, HasCleanDisk, KeepsCommit, Survives}
use Rattle.sqlite.specs.View.{doubt}
use Rattle.sqlite.specs.Steps.{FailsToCommit}
use Rattle.sqlite.proofs.InsideLemmas.{keeps_then, unchanged_keeps}
use Rattle.sqlite.proofs.StateLemmas.{survives_then}
use Rattle.sqlite.proofs.Callers.{survives_begin}
use Rattle.mvd_records.proofs.Calls.{sound_before}
use Rattle.mvd_records.specs.Records.{StaysInside, IsSound}

module _ {S : Type 0} (g : Ghosts S) (old mid : Held S) where
  abbrev pub begun : State
  begun = state g (record old { in_transaction = true })

  -- from before the transaction on, as the connection sees it
  since : KeepsCommit begun (state g mid) → KeepsCommit (state g old) (state g mid)
  since it = record { was_open = it.was_open; committed = it.committed }

  -- a commit that went through
  pub committed_before : (end : State) → StaysInside begun (state g mid) → Survives (state g mid) end (λ db. db ≡ (state g mid).now.trees) → (HasCleanDisk end → IsTrue (state g mid).is_open) → IsSound end → IsSound (state g old)
  committed_before end stays survives was it =
      let early : HasCleanDisk (state g mid) = omega (arith, survives.clean, it.clean) in
      record { clean = omega (arith, stays.survives.clean, early); is_open = (stays.kept early refl).was_open (was it.clean) }

  -- the end keeps the last commit where the transaction did not commit
  pub undone : (end : State) → StaysInside begun (state g mid) → doubt (state g mid).is_clean ≤ doubt end.is_clean → (HasCleanDisk end → KeepsCommit (state g mid) end) → HasCleanDisk end → KeepsCommit (state g old) end
  undone end stays rises ends clean = keeps_then (state g old) (state g mid) end (since (stays.kept (omega (arith, rises, clean)) refl)) (ends clean)

  -- and the premise on the store goes backward
  pub before_undone : (end : State) → StaysInside begun (state g mid) → doubt (state g mid).is_clean ≤ doubt end.is_clean → (HasCleanDisk end → KeepsCommit (state g mid) end) → IsSound end → IsSound (state g old)
  before_undone end stays rises ends = sound_before (state g old) end (omega (arith, stays.survives.clean, rises)) (undone end stays rises ends)

  pub survives_all : (end : State) (P Q : Trees → Type 0) → StaysInside begun (state g mid) → (HasCleanDisk end → (db : Trees) → P db → Q db) → Survives (state g mid) end P → Survives (state g old) end Q
  survives_all end P Q stays f ends = survives_then (state g old) (state g mid) end (λ _. ⊥) P Q (λ _ db none. absurd none) f (survives_begin g old (state g mid) (λ _. ⊥) stays.survives) ends

-- a commit that failed
pub failed_commit : (old new : State) (e : Error) → FailsToCommit old new e → KeepsCommit old new
failed_commit old new e (inl failed) = unchanged_keeps old new (inr failed.3)
failed_commit old new e (inr late) = unchanged_keeps old new (inl late.2)
