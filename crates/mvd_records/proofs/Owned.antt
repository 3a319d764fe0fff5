-- Marks that are none of ours.
use Rattle.std.proofs.Common.{◌≡◌, ◌<◌, ◌^◌, inl, inr, ℕ, List, [], ◌∷◌, map, length, Option, None, Result, Ok, Err, IfErr, refl, sym, ap, subst, arith, true, false}
use Rattle.std.specs.Result.{is_ok}
use Rattle.std.proofs.lemmas.List.Sorted.{length_permutation}
use Rattle.sqlite.specs.Order.{Row}
use Rattle.sqlite.specs.Effect.{Database}
use Rattle.sqlite.specs.State.{State, Shown}
use Rattle.mvd_dots.specs.declared.refusals.Refusal.{Refusal}
use Rattle.mvd_dots.specs.declared.refusals.Refusal.TheVariants.{Damaged}
use Rattle.mvd_records.specs.Tables.{all_tables}
use Rattle.mvd_records.specs.States.{AreMarks, first_two}
use Rattle.mvd_records.specs.Records.{HasTables, IsMarked, IsQuiescent, IsVersion, TellsMarks, marks_of}
use Rattle.mvd_records.proofs.Calls.{shown_open}
use Rattle.mvd_records.proofs.Marking.{told_marks}
use Rattle.mvd_records.proofs.Texts.{marks_text}

below : (version : ℕ) → IsVersion version → version < 2 ^ 32
below version (inl e) = omega (arith, e)
below version (inr e) = omega (arith, e)

none_marked : (pairs : List Row) → pairs ≡ [] → (version site : ℕ) → ¬ IsMarked version site pairs
none_marked pairs none version site it = let same = length_permutation pairs _ it.2 in let no = ap length none in omega (arith, same, no)

-- none in what was read are none in the table
unmarked_in : (p q : List Row) → ((r : Result (Option ℕ) Refusal) → TellsMarks q 1 r → TellsMarks p 1 r)
    → ((version site : ℕ) → ¬ IsMarked version site q) → (version site : ℕ) → ¬ IsMarked version site p
unmarked_in p [] moved none = none_marked p (moved (Ok None) refl)
unmarked_in p (x ∷ q) moved none = (moved (Err Damaged) ((λ e. absurd cc), none)).1

-- where the rows that were read are no marks, those of the last commit are none of ours
pub unmarked : (old new : State) (answer : List Row) → IsQuiescent old → HasTables all_tables old.committed → Shown marks_text [] old new answer
    → ((v s : ℕ) → v < 2 ^ 32 → s < 2 ^ 32 → ¬ AreMarks v s (map first_two answer)) → (version site : ℕ) → ¬ IsMarked version site (marks_of old.committed)
unmarked old new answer settled has h none =
    let now = settled.settled (shown_open marks_text [] old new answer h) in
    subst (λ (d : Database). (version site : ℕ) → ¬ IsMarked version site (marks_of d)) now
    (unmarked_in _ (map first_two answer) (λ r. told_marks old new answer 1 r (subst (HasTables all_tables) (sym now) has) h)
    (λ v s it. none v s (below v it.0) it.1.1 it.2))

-- what is so after an error
pub found_err : {A E : Type 0} (result : Result A E) (R : E → Type 0) → IfErr result R → is_ok result ≡ false → (e : E) × R e
found_err (Ok x) R r told = absurd (let no : true ≡ false = told in cc)
found_err (Err e) R r told = (e, r)
