use Rattle.std.proofs.Common.{◌≡◌, inl, IsTrue, ◌++◌, ◌∷◌, [], Some, None, refl, sym, ap, subst, ◌∙◌, rules, arith}
use Rattle.sqlite.specs.Listing.{understood}
use Rattle.sqlite.specs.State.{HasCleanDisk, KeepsCommit, Survives, Shown, CommitsShowing, FailsToQuery}
use Rattle.sqlite.specs.Held.{Held, state}
use Rattle.sqlite.proofs.Callers.{IsPlain, given_begin, begun_plain}
use Rattle.std.specs.Prelude.{option_copied}
use Rattle.sqlite.specs.Given.{Advances, row_if}
use Rattle.sqlite.proofs.StateLemmas.{survives_then}
use Rattle.sqlite.proofs.Callers.{unchanged_then}
use Rattle.sqlite.proofs.InsideLemmas.{unchanged_keeps, keeps_then}
use Rattle.mvd_records.specs.Records.{IsSound}
use Rattle.mvd_records.specs.States.{shown_row_entry}
use Rattle.mvd_records.proofs.Calls.{not_shown, sound_before}
use Rattle.mvd_records.proofs.Streams.{fault_keeps, begun_open, shown_since, begins_since, not_pairs, one_more, all_form}
use Rattle.mvd_records.proofs.loading.read_pairs.Given.{Over}
use Rattle.mvd_records.proofs.loading.read_pairs.Goals as goal

-- the connection goes back as the rows leave it
same_advance : (g : Over) (c : goal.After-drop-pairs-in-Err-advance g) → c.advance.new.self.conn.now ≡ c.conn-in-Err-advance-1.given.0
same_advance g c = search rules

same_pushed : (g : Over) (c : goal.After-drop-pairs-in-Err-push_row g) → c.advance.new.self.conn.now ≡ c.conn-in-Err-push_row-1.given.0
same_pushed g c = search rules

same_ended : (g : Over) (c : goal.After-conn-in-None-1 g) → c.advance.new.self.conn.now ≡ c.conn-in-None-1.given.0
same_ended g c = search rules

same_last : (g : Over) (c : goal.After-drop-pairs-2 g) → c.rows.rows.conn.now ≡ c.conn-2-1.given.0
same_last g c = search rules

pub returns-in-Err-clause-kept : goal.returns-in-Err-clause-kept
returns-in-Err-clause-kept g c clean plain =
    let old = state g.S.Store c.args.conn.now in
    let new = state g.S.Store c.query.follows.lender-at-none in
    let held = c.query.follows.holds-at-none in
    let failed : FailsToQuery c.args.sql.now [] old new c.in-Err.field-0 = search rules in
    not_shown _ _ old new c.in-Err.field-0 failed

pub returns-in-Err-clause-before : goal.returns-in-Err-clause-before
returns-in-Err-clause-before g c =
    let old = state g.S.Store c.args.conn.now in
    let new = state g.S.Store c.query.follows.lender-at-none in
    let held = c.query.follows.holds-at-none in
    let kept : Survives old new (CommitsShowing c.args.sql.now [] old) = search rules in
    let failed : HasCleanDisk new → FailsToQuery c.args.sql.now [] old new c.in-Err.field-0 = search rules in
    sound_before old new kept.clean (λ clean. not_shown _ _ old new c.in-Err.field-0 (failed clean))

pub returns-in-Err-clause-survives : goal.returns-in-Err-clause-survives
returns-in-Err-clause-survives g c =
    let old = state g.S.Store c.args.conn.now in
    let new = state g.S.Store c.query.follows.lender-at-none in
    let held = c.query.follows.holds-at-none in
    let kept : Survives old new (CommitsShowing c.args.sql.now [] old) = search rules in kept

pub rows-init : goal.rows-init
rows-init g c =
    let made = c.in-Ok.ensures in
    record {
      lender = refl;
      before = λ it. record { clean = omega (arith, made.survives.clean, it.clean); is_open = begun_open g.S.Store c.args.sql.now [] c.args.conn.now c.in-Ok.rows.conn.now (made.begun it.clean) };
      survives = made.survives;
      given = λ plain clean. (let begun = begun_plain g.S.Store _ _ c.args.conn.now _ plain (made.begun clean) in ([], begun.0, begun.1, rw c.new-pairs.ensures.items refl));
      form = rw c.new-pairs.ensures.items tt;
      rising = rw c.new-pairs.ensures.items tt;
    }

pub returns-in-None-clause-shown : goal.returns-in-None-clause-shown
returns-in-None-clause-shown g c clean plain =
    let old = state g.S.Store c.args.conn.now in
    let before = c.rows.rows.conn.now in
    let now = c.advance.new.self.conn.now in
    let late = subst (λ (h : Held _). HasCleanDisk (state g.S.Store h)) (sym (same_ended g c)) clean in
    let was = c.rows.invariant.given plain (omega (arith, c.in-Ok-advance.ensures.survives.clean)) in
    let none : row_if c.advance.new.self.has_row now ≡ None = sym c.get.ensures ∙ ap option_copied c.in-None.is in
    let shown = subst (Advances g.S.Store before now) none (c.in-Ok-advance.ensures.ok late) c.args.sql.now [] was.0 was.1 in
    let all : Shown c.args.sql.now [] old (state g.S.Store now) was.0 = shown_since c.args.sql.now [] old (state g.S.Store before) (state g.S.Store now) was.0 plain was.2 shown in
    (was.0, subst (λ (h : Held _). Shown c.args.sql.now [] old (state g.S.Store h) was.0) (same_ended g c) all, was.3)

pub returns-in-Err-push_row-clause-damaged : goal.returns-in-Err-push_row-clause-damaged
returns-in-Err-push_row-clause-damaged g c clean plain is =
    let old = state g.S.Store c.args.conn.now in
    let before = c.rows.rows.conn.now in
    let now = c.advance.new.self.conn.now in
    let late = subst (λ (h : Held _). HasCleanDisk (state g.S.Store h)) (sym (same_pushed g c)) clean in
    let was = c.rows.invariant.given plain (omega (arith, c.in-Ok-advance.ensures.survives.clean)) in
    let some : row_if c.advance.new.self.has_row now ≡ Some c.in-Some.row.now = sym c.get.ensures ∙ ap option_copied c.in-Some.is in
    let given = subst (Advances g.S.Store before now) some (c.in-Ok-advance.ensures.ok late) c.args.sql.now [] was.0 was.1 in
    let all = was.0 ++ c.in-Some.row.now ∷ [] in
    let begun = begins_since c.args.sql.now [] old (state g.S.Store now) all (unchanged_then old (state g.S.Store before) (state g.S.Store now) was.2 (c.in-Ok-advance.ensures.same late)) (given_begin g.S.Store c.args.sql.now [] now all given) in
    let why = c.in-Err-push_row.ensures.damaged c.rows.invariant.rising is in
    (all, begun, not_pairs was.0 c.in-Some.row.now (λ pair up. why pair (rw was.3 (rw one_more at up))))

pub rows-preserved : goal.rows-preserved
rows-preserved g c =
    let old = state g.S.Store c.args.conn.now in
    let before = c.rows.rows.conn.now in
    let now = c.advance.new.self.conn.now in
    let moved = c.in-Ok-advance.ensures in
    let pushed = c.in-Ok-push_row.ensures in
    record {
      lender = moved.same_reference ∙ c.rows.invariant.lender;
      before = λ it. c.rows.invariant.before (record { clean = omega (arith, moved.survives.clean, it.clean); is_open = (moved.same it.clean).0.was_open });
      survives = survives_then old (state g.S.Store before) (state g.S.Store now) _ _ (CommitsShowing c.args.sql.now [] old) (λ _ db it. it) (λ _ db none. absurd none) c.rows.invariant.survives moved.survives;
      given = λ plain late. (let was = c.rows.invariant.given plain (omega (arith, moved.survives.clean)) in
          let some : row_if c.advance.new.self.has_row now ≡ Some c.in-Some.row.now = sym c.get.ensures ∙ ap option_copied c.in-Some.is in
          let given = subst (Advances g.S.Store before now) some (moved.ok late) c.args.sql.now [] was.0 was.1 in
          (was.0 ++ c.in-Some.row.now ∷ [], given, unchanged_then old (state g.S.Store before) (state g.S.Store now) was.2 (moved.same late), pushed.pushed ∙ (rw was.3 (sym (one_more was.0 c.in-Some.row.now)))));
      form = rw pushed.pushed (all_form _ (shown_row_entry c.in-Some.row.now) c.rows.invariant.form pushed.form);
      rising = pushed.rising c.rows.invariant.rising;
    }

pub returns-in-Err-advance-clause-before : goal.returns-in-Err-advance-clause-before
returns-in-Err-advance-clause-before g c =
    subst (λ (h : Held _). IsSound (state g.S.Store h) → IsSound (state g.S.Store c.args.conn.now)) (same_advance g c) (λ it. c.rows.invariant.before (sound_before (state g.S.Store c.rows.rows.conn.now) (state g.S.Store c.advance.new.self.conn.now) c.in-Err-advance.ensures.survives.clean (λ clean. fault_keeps (state g.S.Store c.rows.rows.conn.now) (state g.S.Store c.advance.new.self.conn.now) c.in-Err-advance.field-0 (c.in-Err-advance.ensures.kept clean)) it))

pub returns-in-Err-advance-clause-kept : goal.returns-in-Err-advance-clause-kept
returns-in-Err-advance-clause-kept g c =
    subst (λ (h : Held _). HasCleanDisk (state g.S.Store h) → IsPlain (understood (state g.S.Store c.args.conn.now).now.schema c.args.sql.now) → KeepsCommit (state g.S.Store c.args.conn.now) (state g.S.Store h)) (same_advance g c) (λ late plain. keeps_then (state g.S.Store c.args.conn.now) (state g.S.Store c.rows.rows.conn.now) (state g.S.Store c.advance.new.self.conn.now) (unchanged_keeps (state g.S.Store c.args.conn.now) (state g.S.Store c.rows.rows.conn.now) (inl (c.rows.invariant.given plain (omega (arith, c.in-Err-advance.ensures.survives.clean, late))).2)) (fault_keeps (state g.S.Store c.rows.rows.conn.now) (state g.S.Store c.advance.new.self.conn.now) c.in-Err-advance.field-0 (c.in-Err-advance.ensures.kept late)))

pub returns-in-Err-advance-clause-survives : goal.returns-in-Err-advance-clause-survives
returns-in-Err-advance-clause-survives g c =
    subst (λ (h : Held _). Survives (state g.S.Store c.args.conn.now) (state g.S.Store h) (CommitsShowing c.args.sql.now [] (state g.S.Store c.args.conn.now))) (same_advance g c) (survives_then (state g.S.Store c.args.conn.now) (state g.S.Store c.rows.rows.conn.now) (state g.S.Store c.advance.new.self.conn.now) _ _ (CommitsShowing c.args.sql.now [] (state g.S.Store c.args.conn.now)) (λ _ db it. it) (λ _ db none. absurd none) c.rows.invariant.survives c.in-Err-advance.ensures.survives)

pub returns-in-Err-push_row-clause-before : goal.returns-in-Err-push_row-clause-before
returns-in-Err-push_row-clause-before g c =
    subst (λ (h : Held _). IsSound (state g.S.Store h) → IsSound (state g.S.Store c.args.conn.now)) (same_pushed g c) (λ it. c.rows.invariant.before (record { clean = omega (arith, c.in-Ok-advance.ensures.survives.clean, it.clean); is_open = (c.in-Ok-advance.ensures.same it.clean).0.was_open }))

pub returns-in-Err-push_row-clause-kept : goal.returns-in-Err-push_row-clause-kept
returns-in-Err-push_row-clause-kept g c =
    subst (λ (h : Held _). HasCleanDisk (state g.S.Store h) → IsPlain (understood (state g.S.Store c.args.conn.now).now.schema c.args.sql.now) → KeepsCommit (state g.S.Store c.args.conn.now) (state g.S.Store h)) (same_pushed g c) (λ late plain. unchanged_keeps (state g.S.Store c.args.conn.now) (state g.S.Store c.advance.new.self.conn.now) (inl (unchanged_then (state g.S.Store c.args.conn.now) (state g.S.Store c.rows.rows.conn.now) (state g.S.Store c.advance.new.self.conn.now) (c.rows.invariant.given plain (omega (arith, c.in-Ok-advance.ensures.survives.clean, late))).2 (c.in-Ok-advance.ensures.same late))))

pub returns-in-Err-push_row-clause-survives : goal.returns-in-Err-push_row-clause-survives
returns-in-Err-push_row-clause-survives g c =
    subst (λ (h : Held _). Survives (state g.S.Store c.args.conn.now) (state g.S.Store h) (CommitsShowing c.args.sql.now [] (state g.S.Store c.args.conn.now))) (same_pushed g c) (survives_then (state g.S.Store c.args.conn.now) (state g.S.Store c.rows.rows.conn.now) (state g.S.Store c.advance.new.self.conn.now) _ _ (CommitsShowing c.args.sql.now [] (state g.S.Store c.args.conn.now)) (λ _ db it. it) (λ _ db none. absurd none) c.rows.invariant.survives c.in-Ok-advance.ensures.survives)

pub returns-in-None-clause-before : goal.returns-in-None-clause-before
returns-in-None-clause-before g c =
    subst (λ (h : Held _). IsSound (state g.S.Store h) → IsSound (state g.S.Store c.args.conn.now)) (same_ended g c) (λ it. c.rows.invariant.before (record { clean = omega (arith, c.in-Ok-advance.ensures.survives.clean, it.clean); is_open = (c.in-Ok-advance.ensures.same it.clean).0.was_open }))

pub returns-in-None-clause-kept : goal.returns-in-None-clause-kept
returns-in-None-clause-kept g c =
    subst (λ (h : Held _). HasCleanDisk (state g.S.Store h) → IsPlain (understood (state g.S.Store c.args.conn.now).now.schema c.args.sql.now) → KeepsCommit (state g.S.Store c.args.conn.now) (state g.S.Store h)) (same_ended g c) (λ late plain. unchanged_keeps (state g.S.Store c.args.conn.now) (state g.S.Store c.advance.new.self.conn.now) (inl (unchanged_then (state g.S.Store c.args.conn.now) (state g.S.Store c.rows.rows.conn.now) (state g.S.Store c.advance.new.self.conn.now) (c.rows.invariant.given plain (omega (arith, c.in-Ok-advance.ensures.survives.clean, late))).2 (c.in-Ok-advance.ensures.same late))))

pub returns-in-None-clause-survives : goal.returns-in-None-clause-survives
returns-in-None-clause-survives g c =
    subst (λ (h : Held _). Survives (state g.S.Store c.args.conn.now) (state g.S.Store h) (CommitsShowing c.args.sql.now [] (state g.S.Store c.args.conn.now))) (same_ended g c) (survives_then (state g.S.Store c.args.conn.now) (state g.S.Store c.rows.rows.conn.now) (state g.S.Store c.advance.new.self.conn.now) _ _ (CommitsShowing c.args.sql.now [] (state g.S.Store c.args.conn.now)) (λ _ db it. it) (λ _ db none. absurd none) c.rows.invariant.survives c.in-Ok-advance.ensures.survives)

pub returns-in-None-clause-open : goal.returns-in-None-clause-open
returns-in-None-clause-open g c =
    subst (λ (h : Held _). HasCleanDisk (state g.S.Store h) → IsTrue (state g.S.Store h).is_open) (same_ended g c) (λ late. (c.in-Ok-advance.ensures.same late).0.is_open)

pub returns-clause-before : goal.returns-clause-before
returns-clause-before g c =
    subst (λ (h : Held _). IsSound (state g.S.Store h) → IsSound (state g.S.Store c.args.conn.now)) (same_last g c) (c.rows.invariant.before)

pub returns-clause-kept : goal.returns-clause-kept
returns-clause-kept g c =
    subst (λ (h : Held _). HasCleanDisk (state g.S.Store h) → IsPlain (understood (state g.S.Store c.args.conn.now).now.schema c.args.sql.now) → KeepsCommit (state g.S.Store c.args.conn.now) (state g.S.Store h)) (same_last g c) (λ late plain. unchanged_keeps (state g.S.Store c.args.conn.now) (state g.S.Store c.rows.rows.conn.now) (inl (c.rows.invariant.given plain late).2))

pub returns-clause-survives : goal.returns-clause-survives
returns-clause-survives g c =
    subst (λ (h : Held _). Survives (state g.S.Store c.args.conn.now) (state g.S.Store h) (CommitsShowing c.args.sql.now [] (state g.S.Store c.args.conn.now))) (same_last g c) (c.rows.invariant.survives)
