use Rattle.std.proofs.Common.{◌≡◌, ◌⊎◌, ◌∙◌, ◌<◌, ◌++◌, inl, inr, [], map, ap, refl, sym, subst, true≢false}
use Rattle.std.specs.Prelude.{IsTrue}
use Rattle.sqlite.specs.Held.{state}
use Rattle.sqlite.specs.State.{Survives}
use Rattle.mvd_dots.specs.declared.refusals.Refusal.TheVariants.{Memory, Store}
use Rattle.mvd_records.specs.Records.{HoldsRecords, SavesStates}
use Rattle.mvd_site.specs.Installs.{changes_in}
use Rattle.mvd_replica.specs.Groups.{pairs_in, reply_unstored}
use Rattle.mvd_replica.specs.Shared.{LeavesPairs}
use Rattle.mvd_replica.proofs.Counting.{counts_group}
use Rattle.mvd_replica.proofs.Grouping.{may_all, pairs_none}
use Rattle.mvd_replica.proofs.Putting.{asked_of, one_put, one_unstored, still_end, told_of, turns_of}
use Rattle.mvd_replica.proofs.Recording.{stores_none, stores_put}
use Rattle.mvd_replica.proofs.Still.{none_changed, same_replica, still_requests}
use Rattle.mvd_replica.proofs.replica.Replica.commit.Goals as goal

pub install_all-requires-clause-fresh : goal.install_all-requires-clause-fresh
install_all-requires-clause-fresh g c whole =
    let together = c.requires.together.1 in
    may_all c.args.group.items c.args.self.now.site c.requires.together.0 together.sendable together.ordered

pub returns-in-Ok-clause-ok : goal.returns-in-Ok-clause-ok
returns-in-Ok-clause-ok g c requests together =
    let old = c.args.self.now.site in
    let group = c.args.group.items in
    let whole = c.requires.whole in
    let before = state g.S.Store c.args.self.now.records.conn in
    let after = state g.S.Store c.store_all.new.records.conn in
    let it = c.install_all.ensures.puts in
    let one = one_put requests group it.0 old c.install_all.new.self together.sendable it.2 in
    let same = λ (none : pairs_in group ≡ []). ap (λ r. state g.S.Store r.conn) (c.in-Ok.ensures.still (ap pairs_in c.deref.ensures.value ∙ none)) in
    let stored = stores_put requests group it.0 old c.install_all.new.self before after whole together.ordered together.sendable it.2 c.stands.ensures.held.spelled
    (λ disk. subst (λ l. IsTrue after.is_open ⊎ (pairs_in l ≡ [])) c.deref.ensures.value (c.in-Ok.ensures.open disk))
    (λ site sound holds. subst (λ l. HoldsRecords 2 site after.committed × SavesStates before.committed after.committed (pairs_in l)) c.deref.ensures.value (c.in-Ok.ensures.stored site sound holds))
    (λ trees is_open may. g.met.S.Store.settled c.store_all.new.records.conn.store trees is_open may) same
    (subst (λ l. Survives before after (LeavesPairs before (pairs_in l))) c.deref.ensures.value c.in-Ok.ensures.survives) in
    record {
      turns = turns_of requests it.0;
      asked = asked_of requests it.0 one;
      told = it.1 ∙ ap (λ l. c.args.replies.now.items ++ l) (sym (told_of requests it.0 one));
      commits = record {
        takes = stored.takes;
        counts = counts_group requests group it.0 old c.install_all.new.self c.args.self.now.commits c.counted-self.result before after whole together it.2
            (λ none. c.counted-self.ensures.none (ap changes_in c.deref-in-Ok.ensures.value ∙ none))
            (λ some. c.counted-self.ensures.one (subst (λ l. 0 < changes_in l) (sym c.deref-in-Ok.ensures.value) some)) same;
        still = λ still. elim still [
          | inl broken ↦ absurd (true≢false (sym broken ∙ whole))
          | inr each ↦ (let none = none_changed old requests group together.each (still_requests old requests it.0 one each) in
              same_replica _ c.args.self.now (still_end group it.0 old c.install_all.new.self whole (pairs_none group none) it.2)
              (c.in-Ok.ensures.still (ap pairs_in c.deref.ensures.value ∙ pairs_none group none))
              (c.counted-self.ensures.none (ap changes_in c.deref-in-Ok.ensures.value ∙ none)))
        ];
        taken = stored.taken;
        before = c.in-Ok.ensures.before;
        records = stored.records;
        lost = stored.lost;
        survives = stored.survives;
        leaves = stored.leaves;
      };
    }

pub returns-in-Err-clause-ok : goal.returns-in-Err-clause-ok
returns-in-Err-clause-ok g c requests together =
    let old = c.args.self.now.site in
    let group = c.args.group.items in
    let whole = c.requires.whole in
    let before = state g.S.Store c.args.self.now.records.conn in
    let after = state g.S.Store c.store_all.new.records.conn in
    let told = map reply_unstored group in
    let one = one_unstored requests group together.sendable in
    let same = λ (none : pairs_in group ≡ []). ap (λ r. state g.S.Store r.conn) (c.in-Err.ensures.still (ap pairs_in c.deref.ensures.value ∙ none)) in
    let stored = stores_none requests group old before after whole together.each together.ordered together.sendable c.stands.ensures.held.spelled c.in-Err.ensures.unchanged
    (λ trees is_open may. g.met.S.Store.settled c.store_all.new.records.conn.store trees is_open may) same
    (subst (λ l. Survives before after (LeavesPairs before (pairs_in l))) c.deref.ensures.value c.in-Err.ensures.survives) in
    record {
      turns = turns_of requests told;
      asked = asked_of requests told one;
      told = c.refuse_all.ensures.replies ∙ ap (λ l. c.args.replies.now.items ++ l) (sym (told_of requests told one));
      commits = record {
        takes = stored.takes;
        counts = inl (refl, refl, c.in-Err.ensures.unchanged);
        still = λ still. elim still [
          | inl broken ↦ absurd (true≢false (sym broken ∙ whole))
          | inr each ↦ (let none = none_changed old requests group together.each (still_requests old requests told one each) in
              same_replica _ c.args.self.now refl (c.in-Err.ensures.still (ap pairs_in c.deref.ensures.value ∙ pairs_none group none)) refl)
        ];
        taken = stored.taken;
        before = c.in-Err.ensures.before;
        records = stored.records;
        lost = stored.lost;
        survives = stored.survives;
        leaves = stored.leaves;
      };
    }

pub returns-in-Err-Memory-clause-err : goal.returns-in-Err-Memory-clause-err
returns-in-Err-Memory-clause-err g c =
    let same : c.store_all.new.records ≡ c.args.self.now.records = elim c.in-Err-Memory.ensures.refusal [
      | inl store ↦ absurd (let bad : Store ≡ Memory = sym store ∙ c.in-Err-Memory.field-0-is in cc)
      | inr memory ↦ memory.1
    ] in
    (refl, same_replica _ c.args.self.now refl same refl)
