use Rattle.std.proofs.Common.{◌<◌, ◌≤◌, ◌∙◌, ◌∷◌, [], ap, arith, drop, length, length-append, refl, subst, take}
use Rattle.mvd_sync.specs.Exchanges.{Exchanging}
use Rattle.mvd_sync.specs.Machines.{equal, fills, waits}
use Rattle.mvd_sync.proofs.Exchanging.{low_of, short_of}
use Rattle.mvd_sync.proofs.Machined.{was_false, was_true}
use Rattle.mvd_sync.proofs.stage.settle.Goals as goal

pub returns-then-not-entry-clause-settles : goal.returns-then-not-entry-clause-settles
returns-then-not-entry-clause-settles c = equal c.in-Some.entry c.in-Some.is (was_false c.in-Some.entry.differs c.if-not-entry.true) refl refl

pub returns-then-is_full-clause-settles : goal.returns-then-is_full-clause-settles
returns-then-is_full-clause-settles c =
    let wait = c.in_ok-wait.ensures.waits in
    let n = ap (λ (w : Exchanging). length w.waiting) wait in
    let m = length-append c.args.exchange.now.waiting (c.in-Some.entry ∷ []) in
    let took = c.in_ok-entries.ensures in
    fills c.in-Some.entry c.in_ok-entries.entries c.in-Some.is (was_true c.in-Some.entry.differs c.if-not-entry.false)
    (subst (λ (w : Exchanging). w.most ≤ length w.waiting) wait (c.is_full.ensures.full.0 c.if-is_full.true))
    (took.entries ∙ ap (λ (w : Exchanging). take w.most w.waiting) wait)
    (took.some (omega (arith, n, m)))
    (took.rest ∙ ap (λ (w : Exchanging). record w { waiting = drop w.most w.waiting }) wait) refl

pub returns-clause-settles : goal.returns-clause-settles
returns-clause-settles c =
    let long = length c.wait.new.self.waiting in
    let short = short_of c.is_full.result long long c.is_full.ensures.short c.if-is_full.false refl in
    let low = low_of c.is_full.result c.wait.new.self.most long long c.is_full.ensures.full c.if-is_full.false refl in
    let most = ap (λ (w : Exchanging). w.most) c.in_ok-wait.ensures.waits in
    waits c.in-Some.entry c.in-Some.is (was_true c.in-Some.entry.differs c.if-not-entry.false) c.in_ok-wait.ensures.waits (short, subst (λ n. long < n) most low) refl
