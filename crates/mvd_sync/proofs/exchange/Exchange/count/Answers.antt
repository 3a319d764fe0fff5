use Rattle.std.proofs.Common.{◌∙◌, ◌+◌, ap, cond}
use Rattle.mvd_sync.specs.Exchanges.{Exchanging}
use Rattle.mvd_sync.proofs.Counting.{adds_given, adds_left}
use Rattle.mvd_sync.proofs.exchange.Exchange.count.Goals as goal

pub returns-in-None-clause-adds : goal.returns-in-None-clause-adds
returns-in-None-clause-adds c =
    let at = c.count_old.ensures in
    let view = c.self.view_is in
    adds_given (record { key = c.args.key; is_old = c.args.is_old; refused = c.args.refused }) c.args.self.now c.count_old.new.self c.in-None.is
    (ap (λ (v : Exchanging). v.number) at ∙ ap (λ (v : Exchanging). v.number) view)
    (ap (λ (v : Exchanging). v.waiting) at ∙ ap (λ (v : Exchanging). v.waiting) view)
    (ap (λ (v : Exchanging). v.most) at ∙ ap (λ (v : Exchanging). v.most) view)
    (ap (λ (v : Exchanging). v.keys) at ∙ ap (λ (v : Exchanging). v.keys + 1) view)
    (ap (λ (v : Exchanging). v.refused) at ∙ ap (λ (v : Exchanging). v.refused) view)
    (ap (λ (v : Exchanging). v.first_refused) at ∙ ap (λ (v : Exchanging). v.first_refused) view)
    (ap (λ (v : Exchanging). v.older) at ∙ ap (λ (v : Exchanging). v.older + cond c.args.is_old 1 0) view)

pub returns-in_ok-leave-in-Some-clause-adds : goal.returns-in_ok-leave-in-Some-clause-adds
returns-in_ok-leave-in-Some-clause-adds c =
    let at = c.count_old-in-Some.ensures in
    let left = c.in_ok-leave-in-Some.ensures in
    adds_left (record { key = c.args.key; is_old = c.args.is_old; refused = c.args.refused }) (c.in-Some.side, c.in-Some.refusal) c.args.self.now c.count_old-in-Some.new.self c.in-Some.is
    (ap (λ (v : Exchanging). v.number) at ∙ left.number)
    (ap (λ (v : Exchanging). v.waiting) at ∙ left.waiting)
    (ap (λ (v : Exchanging). v.most) at ∙ left.most)
    (ap (λ (v : Exchanging). v.keys) at ∙ left.keys)
    (ap (λ (v : Exchanging). v.refused) at ∙ left.refused)
    (λ less. ap (λ (v : Exchanging). v.first_refused) at ∙ left.named less)
    (λ more. ap (λ (v : Exchanging). v.first_refused) at ∙ left.full more)
    (ap (λ (v : Exchanging). v.older) at ∙ ap (λ n. n + cond c.args.is_old 1 0) left.older)
