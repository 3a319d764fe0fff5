-- A job inside a transaction, and what its end leaves.
use Rattle.std.proofs.Common.{◌≡◌, ◌⊎◌, inl, inr, ℕ, true, false, IsTrue, Option, Result, Ok, Err, IfErr, refl, sym, subst, ◌∙◌, arith}
use Rattle.sqlite.specs.Effect.{Database, IsDatabase}
use Rattle.sqlite.specs.Held.{Held, state}
use Rattle.sqlite.specs.State.{State, HasCleanDisk, IsRolledBack, KeepsCommit, Shows, Survives}
use Rattle.sqlite.proofs.InsideLemmas.{unchanged_keeps}
use Rattle.sqlite.proofs.StateLemmas.{survives_then, survives_weaker}
use Rattle.sqlite_trees.specs.declared.store.Store.{Ghosts}
use Rattle.mvd_dots.specs.declared.refusals.Refusal.{Refusal}
use Rattle.mvd_dots.specs.declared.refusals.Refusal.TheVariants.{Damaged, SiteMismatch, Store}
use Rattle.mvd_records.specs.Tables.{all_tables}
use Rattle.mvd_records.specs.Records.{HasTables, IsQuiescent, StaysInside, TellsMarks, marks_of}
use Rattle.mvd_records.specs.Jobs.{DoesInside, DoesWhole, LeavesJob, Meaning, telling}
use Rattle.mvd_records.proofs.Calls.{same_commit, sound_before}
use Rattle.mvd_records.proofs.Opened.{before_undone, committed_before, survives_all, undone}
use Rattle.mvd_records.proofs.Contracts.{IsFound, before_found, commit_found}
use Rattle.mvd_records.proofs.Inside.{early, stays_then}

-- ---- a step of a job

module _ {A : Type 0} (job : Meaning A) (a b : State) (stays : StaysInside a b) where
  pub went : (out : A) → (HasCleanDisk b → IsTrue a.in_transaction → IsTrue b.in_transaction) → (HasCleanDisk b → IsTrue a.in_transaction → job.makes out a.now b.now) → DoesInside job a (Ok out) b
  went out inside made = record { stays = stays; inside = inside; made = made; refusal = tt; refused = λ _ _. tt }

  pub stopped : (e : Refusal) → e ≡ Store → DoesInside job a (Err e) b
  stopped e is = record { stays = stays; inside = λ _ _. tt; made = λ _ _. tt; refusal = inl is; refused = λ _ _. inl is }

-- a refusal of a step is one of the whole job
pub refused_as : {A B : Type 0} (one : Meaning A) (all : Meaning B) (a b : State) (e : Refusal) → (one.may_refuse e → all.may_refuse e) → ((d : Database) → one.refuses e d → all.refuses e d)
    → DoesInside one a (Err e) b → DoesInside all a (Err e) b
refused_as one all a b e may refuses i = record {
  stays = i.stays;
  inside = λ _ _. tt;
  made = λ _ _. tt;
  refusal = elim i.refusal [ inl is ↦ inl is | inr it ↦ inr (may it) ];
  refused = λ clean on. elim (i.refused clean on) [ inl is ↦ inl is | inr it ↦ inr (refuses a.now it) ];
}

-- a step and the rest make the whole job
pub record Joins {A B : Type 0} (one : Meaning A) (x : A) (two all : Meaning B) : Type 0 where
  pub makes : (y : B) (d e f : Database) → one.makes x d e → two.makes y e f → all.makes y d f
  pub may_refuse : (r : Refusal) → two.may_refuse r → all.may_refuse r
  pub refuses : (r : Refusal) (d e : Database) → one.makes x d e → two.refuses r e → all.refuses r d

-- both were done, and the second tells so
pub both_done : {A B C : Type 0} (one : Meaning A) (x : A) (two : Meaning B) (y : B) (all : Meaning C) (z : C) (a b c : State) → ((d e f : Database) → one.makes x d e → two.makes y e f → all.makes z d f)
    → DoesInside one a (Ok x) b → DoesInside two b (Ok y) c → DoesInside all a (Ok z) c
both_done one x two y all z a b c makes i j = record {
  stays = stays_then a b c i.inside i.stays j.stays;
  inside = λ clean on. j.inside clean (i.inside (early b c j.stays clean) on);
  made = λ clean on. (let mid = early b c j.stays clean in makes a.now b.now c.now (i.made mid on) (j.made clean (i.inside mid on)));
  refusal = tt;
  refused = λ _ _. tt;
}

-- the second was refused
pub second_refused : {A B C : Type 0} (one : Meaning A) (x : A) (two : Meaning B) (all : Meaning C) (e : Refusal) (a b c : State) → (two.may_refuse e → all.may_refuse e)
    → ((d f : Database) → one.makes x d f → two.refuses e f → all.refuses e d) → DoesInside one a (Ok x) b → DoesInside two b (Err e) c → DoesInside all a (Err e) c
second_refused one x two all e a b c may refuses i j = record {
  stays = stays_then a b c i.inside i.stays j.stays;
  inside = λ _ _. tt;
  made = λ _ _. tt;
  refusal = elim j.refusal [ inl is ↦ inl is | inr it ↦ inr (may it) ];
  refused = λ clean on. (let mid = early b c j.stays clean in elim (j.refused clean (i.inside mid on)) [ inl is ↦ inl is | inr it ↦ inr (refuses a.now b.now (i.made mid on) it) ]);
}

pub does_then : {A B : Type 0} (one : Meaning A) (x : A) (two all : Meaning B) (a b c : State) (r : Result B Refusal) → Joins one x two all → DoesInside one a (Ok x) b → DoesInside two b r c → DoesInside all a r c
does_then one x two all a b c (Ok y) joins i j = both_done one x two y all y a b c (joins.makes y) i j
does_then one x two all a b c (Err e) joins i j = second_refused one x two all e a b c (joins.may_refuse e) (joins.refuses e) i j

-- what was done is what another job does
pub done_as : {A B : Type 0} (one : Meaning A) (x : A) (all : Meaning B) (y : B) (a b : State) → ((d e : Database) → one.makes x d e → all.makes y d e) → DoesInside one a (Ok x) b → DoesInside all a (Ok y) b
done_as one x all y a b makes i = record { stays = i.stays; inside = i.inside; made = λ clean on. makes a.now b.now (i.made clean on); refusal = tt; refused = λ _ _. tt }

-- what the marks tell
pub told_so : (site : ℕ) (a b : State) (r : Result (Option ℕ) Refusal) → StaysInside a b → (HasCleanDisk b → IsTrue a.in_transaction → IsTrue b.in_transaction) → (HasCleanDisk b → HasTables all_tables a.now → b.now ≡ a.now)
    → (HasCleanDisk b → HasTables all_tables a.now → TellsMarks (marks_of a.now) site r) → IfErr r (λ e. (e ≡ SiteMismatch) ⊎ (e ≡ Damaged)) → DoesInside (telling site) a r b
told_so site a b (Ok version) stays on same told why = record { stays = stays; inside = on; made = λ clean _ has. (same clean has, told clean has); refusal = tt; refused = λ _ _. tt }
told_so site a b (Err e) stays on same told why = record { stays = stays; inside = λ _ _. tt; made = λ _ _. tt; refusal = inr why; refused = λ clean _. inr (told clean) }

-- ---- the whole job

-- nothing was done
pub none_done : {A : Type 0} (job : Meaning A) (first end : State) → (HasCleanDisk end → KeepsCommit first end) → Survives first end (λ _. ⊥) → DoesWhole job first (Err Store) end
none_done job first end keeps nothing = record {
  before = sound_before first end nothing.clean keeps;
  made = λ _. tt;
  refusal = inl refl;
  refused = λ _. inl refl;
  unchanged = same_commit first end keeps;
  stays_open = λ _. tt;
  autocommit = tt;
  survives = survives_weaker _ _ _ _ (λ _ _ none. absurd none) nothing;
}

-- a store that was found open, where no transaction was under way; there the job was begun, and then it ended
module _ {S : Type 0} (g : Ghosts S) {A : Type 0} (job : Meaning A) (first : State) (old mid : Held S) (end : State) (found : IsFound first (state g old)) (settled : IsQuiescent (state g old)) where
  abbrev pub begun : State
  begun = state g (record old { in_transaction = true })

  -- the transaction saw what was committed first
  seen : HasCleanDisk (state g old) → IsTrue (state g old).is_open → begun.now ≡ first.committed
  seen clean was = settled.settled was ∙ (found.same clean).0.committed_is

  sound : HasCleanDisk (state g old) → IsTrue (state g old).is_open → IsDatabase first.committed
  sound clean was = subst IsDatabase (found.same clean).0.committed_is (settled.live was).1

  -- what a crash may leave, where the transaction went to its commit
  left : (out : A) (r : Result A Refusal) → IfErr r (λ e. e ≡ Store) → DoesInside job begun (Ok out) (state g mid) → Survives (state g mid) end (λ t. t ≡ (state g mid).now.trees) → Survives first end (LeavesJob job r first)
  left out r told i it =
      survives_then _ _ _ _ _ _ (λ _ _ none. absurd none) (λ _ _ h. h) found.nothing (survives_all g old mid end _ (LeavesJob job r first) i.stays (λ clean trees is. (
      let early : HasCleanDisk (state g mid) = omega (arith, it.clean, clean) in
      let start : HasCleanDisk (state g old) = omega (arith, i.stays.survives.clean, early) in
      let shown = (found.same start).0 in
      (told, shown.was_open, (out, (state g mid).now, (sound start shown.is_open, subst (λ d. job.makes out d (state g mid).now) (seen start shown.is_open) (i.made early refl)), is)))) it)

  pub committed : (out : A) → DoesInside job begun (Ok out) (state g mid) → (HasCleanDisk end → Shows (state g mid) end (state g mid).now (state g mid).now false) → end.in_transaction ≡ false
      → Survives (state g mid) end (λ t. t ≡ (state g mid).now.trees) → DoesWhole job first (Ok out) end
  committed out i shows ended it =
      let before = committed_before g old mid end i.stays it (λ clean. (shows clean).was_open) in
      record {
        before = before_found first (state g old) end found before;
        made = λ whole. (
            let was = before whole in
            let early : HasCleanDisk (state g mid) = omega (arith, it.clean, whole.clean) in
            let is = seen was.clean was.is_open in
            (sound was.clean was.is_open, subst (λ d. job.makes out d end.committed) is (subst (λ d. job.makes out begun.now d) (sym (shows whole.clean).committed_is) (i.made early refl))));
        refusal = tt;
        refused = λ _. tt;
        unchanged = λ _. tt;
        stays_open = λ clean. (shows clean).is_open;
        autocommit = ended;
        survives = left out (Ok out) tt i it;
      }

  pub not_committed : (out : A) → DoesInside job begun (Ok out) (state g mid) → (HasCleanDisk end → KeepsCommit (state g mid) end) → Survives (state g mid) end (λ t. t ≡ (state g mid).now.trees) → DoesWhole job first (Err Store) end
  not_committed out i keeps it =
      let before = before_undone g old mid end i.stays it.clean keeps in
      record {
        before = before_found first (state g old) end found before;
        made = λ _. tt;
        refusal = inl refl;
        refused = λ _. inl refl;
        unchanged = λ whole. same_commit _ _ (undone g old mid end i.stays it.clean keeps) whole ∙ commit_found first (state g old) end found before whole;
        stays_open = λ _. tt;
        autocommit = tt;
        survives = left out (Err Store) refl i it;
      }

  pub rolled_back : (e : Refusal) → DoesInside job begun (Err e) (state g mid) → (HasCleanDisk end → IsRolledBack (state g mid) end) → Survives (state g mid) end (λ _. ⊥) → DoesWhole job first (Err e) end
  rolled_back e i back it =
      let keeps = λ (clean : HasCleanDisk end). unchanged_keeps (state g mid) end (inr (back clean)) in
      let before = before_undone g old mid end i.stays it.clean keeps in
      record {
        before = before_found first (state g old) end found before;
        made = λ _. tt;
        refusal = i.refusal;
        refused = λ whole. (
            let was = before whole in
            let early : HasCleanDisk (state g mid) = omega (arith, it.clean, whole.clean) in
            elim (i.refused early refl) [ inl is ↦ inl is | inr of ↦ inr (sound was.clean was.is_open, subst (job.refuses e) (seen was.clean was.is_open) of) ]);
        unchanged = λ whole. same_commit _ _ (undone g old mid end i.stays it.clean keeps) whole ∙ commit_found first (state g old) end found before whole;
        stays_open = λ _. tt;
        autocommit = tt;
        survives = survives_then _ _ _ _ _ _ (λ _ _ none. absurd none) (λ _ _ none. absurd none) found.nothing (survives_all g old mid end _ (λ _. ⊥) i.stays (λ _ _ none. none) it);
      }
