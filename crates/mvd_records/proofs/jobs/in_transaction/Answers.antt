use Rattle.std.proofs.Common.{◌≡◌, Ok, Err, rules, subst}
use Rattle.sqlite.specs.Held.{Held, state}
use Rattle.mvd_dots.specs.declared.refusals.Refusal.TheVariants.{Store}
use Rattle.mvd_records.specs.Jobs.{DoesInside, DoesWhole}
use Rattle.mvd_records.proofs.Opened.{failed_commit}
use Rattle.mvd_records.proofs.Transacted.{committed, none_done, not_committed, rolled_back}
use Rattle.mvd_records.proofs.jobs.in_transaction.Goals as goal

pub returns-then-not-is_open : goal.returns-then-not-is_open
returns-then-not-is_open g c = none_done (g.J.Job.means c.args.job.now) _ _ c.is_open.ensures.kept c.is_open.ensures.survives

pub returns-then-not-is_settled : goal.returns-then-not-is_settled
returns-then-not-is_settled g c = none_done (g.J.Job.means c.args.job.now) _ _ c.is_open.ensures.kept c.is_open.ensures.survives

pub returns-in-Err : goal.returns-in-Err
returns-in-Err g c =
    let mid = c.run.new.tx.conn.now in
    let end = c.drop-tx.new.self.0 in
    let same : end ≡ c.conn-1.given.0 = search rules in
    let inside = subst (λ (h : Held _). DoesInside (g.J.Job.means c.args.job.now) (state g.S.Store h) (Err c.in-Err.refusal) (state g.S.Store mid)) c.transaction-tx.ensures.begun c.in-Err.ensures.done in
    subst (λ (h : Held _). DoesWhole (g.J.Job.means c.args.job.now) (state g.S.Store c.args.conn.now) (Err c.in-Err.refusal) (state g.S.Store h)) same
    (rolled_back g.S.Store (g.J.Job.means c.args.job.now) _ c.is_open.new.conn mid (state g.S.Store end) (record { same = λ clean. c.is_open.ensures.open clean c.if-not-is_open.false; nothing = c.is_open.ensures.survives }) (c.is_settled.ensures.settled c.if-not-is_settled.false)
    c.in-Err.refusal inside c.drop-tx.ensures.undone c.drop-tx.ensures.survives)

pub returns-in-Ok-commit : goal.returns-in-Ok-commit
returns-in-Ok-commit g c =
    let mid = c.run.new.tx.conn.now in
    let end = c.commit.new.self.0 in
    let same : end ≡ c.conn-2-1.given.0 = search rules in
    let inside = subst (λ (h : Held _). DoesInside (g.J.Job.means c.args.job.now) (state g.S.Store h) (Ok c.in-Ok.out) (state g.S.Store mid)) c.transaction-tx.ensures.begun c.in-Ok.ensures.done in
    subst (λ (h : Held _). DoesWhole (g.J.Job.means c.args.job.now) (state g.S.Store c.args.conn.now) (Ok c.in-Ok.out) (state g.S.Store h)) same
    (committed g.S.Store (g.J.Job.means c.args.job.now) _ c.is_open.new.conn mid (state g.S.Store end) (record { same = λ clean. c.is_open.ensures.open clean c.if-not-is_open.false; nothing = c.is_open.ensures.survives }) (c.is_settled.ensures.settled c.if-not-is_settled.false)
    c.in-Ok.out inside (λ clean. (c.in-Ok-commit.ensures.ok clean).1) c.in-Ok-commit.ensures.ended c.in-Ok-commit.ensures.survives)

pub returns-in-Err-commit : goal.returns-in-Err-commit
returns-in-Err-commit g c =
    let mid = c.run.new.tx.conn.now in
    let end = c.commit.new.self.0 in
    let same : end ≡ c.conn-2-1.given.0 = search rules in
    let inside = subst (λ (h : Held _). DoesInside (g.J.Job.means c.args.job.now) (state g.S.Store h) (Ok c.in-Ok.out) (state g.S.Store mid)) c.transaction-tx.ensures.begun c.in-Ok.ensures.done in
    subst (λ (h : Held _). DoesWhole (g.J.Job.means c.args.job.now) (state g.S.Store c.args.conn.now) (Err Store) (state g.S.Store h)) same
    (not_committed g.S.Store (g.J.Job.means c.args.job.now) _ c.is_open.new.conn mid (state g.S.Store end) (record { same = λ clean. c.is_open.ensures.open clean c.if-not-is_open.false; nothing = c.is_open.ensures.survives }) (c.is_settled.ensures.settled c.if-not-is_settled.false)
    c.in-Ok.out inside (λ clean. failed_commit _ _ _ (c.in-Err-commit.ensures.err clean)) c.in-Err-commit.ensures.survives)
