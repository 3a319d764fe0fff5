use Rattle.std.proofs.Common.{Ok, Err, inl, inr, refl, sym, subst, ap}
use Rattle.mvd_dots.specs.declared.refusals.Refusal.TheVariants.{Damaged, SiteMismatch}
use Rattle.sqlite.specs.Held.{state}
use Rattle.mvd_records.specs.Records.{IsSound, KeepsStates, TellsVersion, marks_of}
use Rattle.mvd_replica.specs.Opened.{RefusesSite}
use Rattle.mvd_replica.proofs.Leaving.{at_rest}
use Rattle.mvd_replica.proofs.Loading.{holds_opened}
use Rattle.mvd_replica.proofs.Moving.{same_kept, same_then, same_unchanged}
use Rattle.mvd_replica.proofs.OpenRefusals.{open_not_full, read_no_mismatch, read_refusal}
use Rattle.mvd_replica.proofs.RestoredOrder.{damaged_site, has_just, order_opened, resumes_opened, told_as}
use Rattle.mvd_replica.proofs.replica.Replica.open.Goals as goal

pub returns-in-Ok-site_in : goal.returns-in-Ok-site_in
returns-in-Ok-site_in g c = record {
  opens = record {
    is = c.in-Ok-site_in.ensures.config;
    stands = c.in-Ok-site_in.ensures.stands;
    before = λ sound. c.in-Ok.ensures.before (c.in-Ok-site_in.ensures.before sound);
    is_open = c.in-Ok-site_in.ensures.stays_open;
    rests = λ sound ours. (
        let opened = c.in-Ok.ensures.opened (c.in-Ok-site_in.ensures.before sound) ours in
        let both = c.in-Ok-site_in.ensures.holds c.site.result sound opened.holds in
        let none = c.in-Ok-site_in.ensures.alone c.site.result sound opened.holds in
        at_rest c.in-Ok-site_in.site _ (λ trees is_open may. g.met.S.Store.settled c.site_in.new.records.conn.store trees is_open may) c.stands.ensures.live sound
        c.in-Ok-site_in.ensures.config.1 c.stands.ensures.held.spelled
        (holds_opened c.in-Ok-site_in.site c.args.config c.site.result _ c.in-Ok-site_in.ensures.config.0 c.site.ensures.site both.0 none both.1));
    opened = λ sound ours. (
        let store = state g.S.Store c.args.conn in
        let opened = c.in-Ok.ensures.opened (c.in-Ok-site_in.ensures.before sound) ours in
        let both = c.in-Ok-site_in.ensures.holds c.site.result sound opened.holds in
        let none = c.in-Ok-site_in.ensures.alone c.site.result sound opened.holds in
        let same = same_then _ _ _ (same_kept _ _ opened.states) (c.in-Ok-site_in.ensures.states c.site.result sound opened.holds) in
        record {
          order = order_opened store.committed _ c.in-Ok.records.version c.args.config.site c.site.result c.site.ensures.site opened.told opened.states (c.in-Ok-site_in.ensures.order c.site.result sound opened.holds);
          spelled = has_just _ _ c.in-Ok-site_in.site.states same none both.1 c.stands.ensures.held.spelled;
          holds = holds_opened c.in-Ok-site_in.site c.args.config c.site.result _ c.in-Ok-site_in.ensures.config.0 c.site.ensures.site both.0 none both.1;
          states = same;
          kept = (
            c.in-Ok.records.version,
            subst (λ n. TellsVersion (marks_of store.committed) n (Ok c.in-Ok.records.version)) c.site.ensures.site opened.told,
            λ two. subst (KeepsStates store.committed) (sym (c.in-Ok-site_in.ensures.still two c.site.result sound opened.holds)) opened.states,
          );
        });
    own = c.in-Ok.ensures.own;
  };
  foreign = λ foreign. absurd (c.in-Ok.ensures.own foreign);
  counts = refl;
}

pub returns-in-Err : goal.returns-in-Err
returns-in-Err g c = record {
  opens = record {
    refusal = inl c.in-Err.ensures.0.refusal;
    before = c.in-Err.ensures.0.before;
    refused = λ sound ours. (
        let was = (state g.S.Store c.args.conn).committed in
        let told = c.in-Err.ensures.0.told sound ours in
        record {
          states = same_unchanged _ _ (c.in-Err.ensures.0.unchanged sound);
          kept = inl (c.in-Err.ensures.0.unchanged sound);
          mismatch = λ is. told_as was c.args.config.site c.site.result c.in-Err.refused.0 SiteMismatch c.site.ensures.site is told;
          damaged = λ is. inl (told_as was c.args.config.site c.site.result c.in-Err.refused.0 Damaged c.site.ensures.site is told);
          full = λ is. absurd (open_not_full _ c.in-Err.ensures.0.refusal is);
          resumes = inl (c.in-Err.ensures.0.unchanged sound);
        });
    foreign = λ foreign. (
        let same = c.in-Err.ensures.1 foreign in
        (ap (λ r. r.0) same, ap (λ r. (state g.S.Store r.1).committed) same));
    untouched = λ sound is. c.in-Err.ensures.0.unchanged sound;
  };
  foreign = λ foreign. ap (λ r. Err r) (c.in-Err.ensures.1 foreign);
  counts = tt;
}

pub returns-in-Err-site_in : goal.returns-in-Err-site_in
returns-in-Err-site_in g c = record {
  opens = record {
    refusal = read_refusal _ c.in-Err-site_in.ensures.refusal;
    before = λ sound. c.in-Ok.ensures.before (c.in-Err-site_in.ensures.before (subst (λ k. IsSound (state g.S.Store k)) c.into_connection.ensures sound));
    refused = λ sound ours. (
        let was = (state g.S.Store c.args.conn).committed in
        let same = c.into_connection.ensures in
        let real = subst (λ k. IsSound (state g.S.Store k)) same sound in
        let opened = c.in-Ok.ensures.opened (c.in-Err-site_in.ensures.before real) ours in
        let version = c.in-Ok.records.version in
        let number = c.site.result in
        subst (λ k. RefusesSite c.args.config was c.in-Err-site_in.refusal (state g.S.Store k).committed) (sym same) (record {
          states = same_then _ _ _ (same_kept _ _ opened.states) (c.in-Err-site_in.ensures.states number real opened.holds);
          kept = inr (
            version,
            subst (λ n. TellsVersion (marks_of was) n (Ok version)) c.site.ensures.site opened.told,
            λ two. subst (KeepsStates was) (sym (c.in-Err-site_in.ensures.still two number real opened.holds)) opened.states,
          );
          mismatch = λ is. absurd (read_no_mismatch _ c.in-Err-site_in.ensures.refusal is);
          damaged = λ is. damaged_site was _ version c.args.config.site number c.site.ensures.site opened.told opened.states (c.in-Err-site_in.ensures.order number real opened.holds is);
          full = λ is. (
              let many = c.in-Err-site_in.ensures.full number real opened.holds is in
              (many.0, order_opened was _ version c.args.config.site number c.site.ensures.site opened.told opened.states many.1));
          resumes = inr (
            version,
            subst (λ n. TellsVersion (marks_of was) n (Ok version)) c.site.ensures.site opened.told,
            resumes_opened version c.args.config.site number _ _ _ c.site.ensures.site opened.states (c.in-Err-site_in.ensures.resumes number real opened.holds),
          );
        }));
    foreign = λ foreign. absurd (c.in-Ok.ensures.own foreign);
    untouched = λ sound is. absurd (read_no_mismatch _ c.in-Err-site_in.ensures.refusal is);
  };
  foreign = λ foreign. absurd (c.in-Ok.ensures.own foreign);
  counts = tt;
}
