-- What a call leaves that saves the states of many keys.
use Rattle.std.proofs.Common.{◌≡◌, ℕ, false, List, [], ◌∷◌, ◌++◌, inl, ◌+◌, ◌<◌, get_or, length, take, arith, refl, sym, ap, ◌∙◌}
use Rattle.std.proofs.lemmas.List.{map-append, take_more}
use Rattle.std.specs.FinMap.{insert}
use Rattle.sqlite.specs.Effect.{Database}
use Rattle.sqlite.specs.State.{State}
use Rattle.mvd_records.specs.declared.storing.Save.{Save}
use Rattle.mvd_records.specs.States.{StoredStates}
use Rattle.mvd_records.specs.Records.{SavesStates, SavesState, StaysInside, with_pairs}
use Rattle.mvd_records.specs.Pairs.{saved_entries}

with_more : (states : StoredStates) (pairs : List (List ℕ × List ℕ)) (p : List ℕ × List ℕ) → with_pairs states (pairs ++ p ∷ []) ≡ insert (with_pairs states pairs) p.0 p.1
with_more states [] p = refl
with_more states (q ∷ pairs) p = with_more (insert states q.0 q.1) pairs p

pub none_saved : (db : Database) → SavesStates db db []
none_saved db = record { old_same = refl; saved = refl }

pub one_more : (a b c : Database) (pairs : List (List ℕ × List ℕ)) (key bytes : List ℕ) → SavesStates a b pairs → SavesState b c key bytes → SavesStates a c (pairs ++ (key, bytes) ∷ [])
one_more a b c pairs key bytes so_far one = record {
  old_same = one.old_same ∙ so_far.old_same;
  saved = one.saved ∙ (ap (λ (m : StoredStates). insert m key bytes) so_far.saved ∙ sym (with_more _ pairs (key, bytes)));
}

-- nothing was done
pub stays_self : (a : State) → StaysInside a a
stays_self a = record {
  kept = λ _ _. record { was_open = λ h. h; committed = λ _. refl };
  survives = record { clean = omega arith; shield = λ h. h; counts = omega arith; limit = refl; closes = λ _ was. inl was; crash = λ _ _ may. inl may };
}

-- what stands where none does
abbrev pub no_save : Save
no_save = record { key = record { ref_ptr = (0, 0); now = [] }; bytes = record { ref_ptr = (0, 0); now = [] }; is_held = false }

pub entries_more : (saves : List Save) (i : ℕ) → i < length saves → let s = get_or saves i no_save in saved_entries (take (i + 1) saves) ≡ saved_entries (take i saves) ++ (s.key.now, s.bytes.now) ∷ []
entries_more saves i low = let s = get_or saves i no_save in ap saved_entries (take_more saves i no_save low) ∙ map-append _ (take i saves) (s ∷ [])
