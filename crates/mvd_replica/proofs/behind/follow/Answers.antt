use Rattle.std.proofs.Common.{subst, ◌≡◌, true}
use Rattle.mvd_keys.specs.Key.{is_key}
use Rattle.mvd_keys.specs.State.{IsValid}
use Rattle.mvd_site.specs.Known.{IsValidRequest}
use Rattle.mvd_site.specs.Over.{with_states}
use Rattle.mvd_site.specs.Prepared.{IsReady, PreparesFrom}
use Rattle.std.specs.Prelude.{IfOk}
use Rattle.mvd_replica.proofs.Grouped.{comes_change}
use Rattle.mvd_replica.proofs.behind.follow.Goals as goal

pub returns-clause-alone : goal.returns-clause-alone
returns-clause-alone c whole =
    let site = c.args.site.now in (
      c.in-Some._own,
      (
        subst (PreparesFrom site.config site.states c.args.request.now) c.in-Some.ensures (c.prepare.ensures.states whole),
        (subst (λ r. IfOk r (IsReady site)) c.in-Some.ensures c.prepare.ensures.ready).0,
      ),
    )

pub returns-clause-behind : goal.returns-clause-behind
returns-clause-behind c = λ states found.
    let site = with_states c.args.site.now states in
    comes_change site c.args.request.now c.in-Some-change_in.change (subst (PreparesFrom site.config site.states c.args.request.now) c.in-Some-change_in.ensures (c.prepare_after.ensures.states states found))
    (subst (λ r. IfOk r (IsReady site)) c.in-Some-change_in.ensures (c.prepare_after.ensures.ready states found)) (subst (λ r. IfOk r (λ _. IsValidRequest c.args.request.now)) c.in-Some-change_in.ensures c.prepare_after.ensures.valid) c.state-state.ensures.spelled
    (subst IsValid c.state-state.ensures.state c.context-seen.ensures.valid) (subst (λ k. is_key k ≡ true) c.key-key.ensures c.text-text.ensures.key)
