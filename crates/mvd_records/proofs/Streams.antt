-- A query whose rows are read one at a time.
use Rattle.std.proofs.Common.{◌≡◌, ◌⊎◌, inl, inr, ℕ, List, ◌∷◌, [], ◌++◌, Ok, refl, sym, subst, true, map, IsTrue}
use Rattle.sqlite.specs.Order.{Row}
use Rattle.sqlite.specs.Effect.{Database}
use Rattle.sqlite.specs.Listing.{understood, reads_listing, IsSourceOf}
use Rattle.sqlite.specs.State.{State, IsStatement, IsUnchanged, KeepsCommit, ShowsRows, Shown, Begins, Fails}
use Rattle.sqlite.specs.Given.{IsPlain, HasBegun}
use Rattle.sqlite_trees.specs.declared.store.Store.{Ghosts}
use Rattle.sqlite.specs.Held.{Held, state}
use Rattle.mvd_records.proofs.Calls.{shown_open}
use Rattle.sqlite.specs.Clock.{timed}
use Rattle.sqlite.specs.declared.error.Error.{Error}
use Rattle.sqlite.proofs.Callers.{unchanged_then}
use Rattle.sqlite.proofs.InsideLemmas.{unchanged_keeps}
use Rattle.sqlite_rules.specs.Lists.{Has}
use Rattle.mvd_records.specs.Pairs.{IsPair, ArePairs, pairs_rise}
use Rattle.mvd_records.specs.States.{shown_row_entry}
use Rattle.mvd_keys.specs.Key.{is_key}
use Rattle.std.specs.List.{AllByRecursion}
use Rattle.std.proofs.lemmas.List.{map-append}

earlier : (sql : List ℕ) (params : Row) (first old : State) (c : _) → IsUnchanged first old → IsStatement old sql params c → IsStatement first sql params c
earlier sql params first old c same it = record { is = subst (λ (d : Database). understood d.schema sql ≡ Ok c) same.0.now_is it.is; whole = it.whole; given = it.given; now = it.now }

-- what was shown since nothing had changed was shown from the start
pub shown_since : (sql : List ℕ) (params : Row) (first old new : State) (rows : List Row) → IsPlain (understood first.now.schema sql) → IsUnchanged first old → Shown sql params old new rows → Shown sql params first new rows
unfolding Shown earlier
shown_since sql params first old new rows plain same h =
    let it = earlier sql params first old h.0 same h.1 in
    let bare = (subst IsPlain it.is plain).0 in
    let full = timed params h.0.formats h.1.now in
    let read = subst (ShowsRows old new sql h.0 full rows) bare h.2 in
    (h.0, it, subst (ShowsRows first new sql h.0 full rows) (sym bare) (read.0, subst (λ (d : Database). IsSourceOf (reads_listing d.schema sql) d read.0) same.0.now_is read.1, read.2, unchanged_then first old new same read.3))

pub begins_since : (sql : List ℕ) (params : Row) (first old : State) (rows : List Row) → IsUnchanged first old → Begins sql params old rows → Begins sql params first rows
unfolding Begins earlier
begins_since sql params first old rows same h =
    (h.0, earlier sql params first old h.0 same h.1, h.2, h.3, subst (λ (d : Database). IsSourceOf (reads_listing d.schema sql) d h.3) same.0.now_is h.4, h.5)

-- the last row is why they are no pairs
pub not_pairs : (rows : List Row) (row : Row) → (IsPair row → ¬ pairs_rise (map shown_row_entry (rows ++ row ∷ []))) → ¬ ArePairs (rows ++ row ∷ [])
not_pairs rows row why it = why (it.each row (last_there rows)) it.rising
  where
    last_there : (xs : List Row) → Has (xs ++ row ∷ []) row
    last_there [] = inl refl
    last_there (x ∷ xs) = inr (last_there xs)

pub one_more : (rows : List Row) (row : Row) → map shown_row_entry (rows ++ row ∷ []) ≡ map shown_row_entry rows ++ shown_row_entry row ∷ []
one_more rows row = map-append shown_row_entry rows (row ∷ [])

pub all_form : (entries : List (List ℕ × List ℕ)) (e : List ℕ × List ℕ) → AllByRecursion (λ x. is_key x.0 ≡ true) entries → is_key e.0 ≡ true → AllByRecursion (λ (x : List ℕ × List ℕ). is_key x.0 ≡ true) (entries ++ e ∷ [])
all_form [] e all last = (last, tt)
all_form (x ∷ entries) e all last = (all.0, all_form entries e all.1 last)

-- a query that has begun found the store open
pub begun_open : {S : Type 0} (g : Ghosts S) (sql : List ℕ) (params : Row) (old new : Held S) → HasBegun g sql params old new → IsTrue (state g old).is_open
begun_open g sql params old new (inl h) = h.1.0.was_open
begun_open g sql params old new (inr h) = shown_open sql params (state g old) (state g new) _ h.1

-- what a read of one more row leaves of the last commit, where it failed
pub fault_keeps : (old new : State) (e : Error) → Fails old new ⊥ e ⊎ IsUnchanged old new → KeepsCommit old new
fault_keeps old new e h = unchanged_keeps old new (elim h [ inl failed ↦ inr failed.3 | inr still ↦ inl still ])
