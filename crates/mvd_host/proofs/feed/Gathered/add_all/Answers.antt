use Rattle.std.proofs.Common.{◌≡◌, ◌+◌, ◌-◌, ◌++◌, arith, drop, filter, subst}
use Rattle.mvd_host.specs.Feeds.{begins_with}
use Rattle.mvd_host.specs.Gathered.{Gathers}
use Rattle.mvd_host.proofs.Feeding.{kept_more}
use Rattle.mvd_host.proofs.feed.Gathered.add_all.Goals as goal

pub keys-preserved : goal.keys-preserved
keys-preserved c =
    let keys = c.args.keys.now in
    let p = begins_with c.args.prefix.now in
    let i = c.keys.left - 1 in
    let next : c.keys.left ≡ i + 1 = omega arith in (
      omega arith,
      λ later g.
          let before = subst (λ n. Gathers c.keys.self (filter p (drop n keys) ++ later)) next (c.keys.invariant.1 later g) in
          subst (λ l. Gathers c.add_if.new.self l) (kept_more p keys later i c.index-keys-left.result (omega arith) c.index-keys-left.is) (c.in_ok-add_if.ensures.back (filter p (drop (i + 1) keys) ++ later) before),
    )
