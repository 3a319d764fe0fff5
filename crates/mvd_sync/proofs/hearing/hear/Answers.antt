use Rattle.mvd_sync.specs.Machines.{hears}
use Rattle.mvd_sync.proofs.hearing.hear.Goals as goal

pub returns : goal.returns
returns c = hears c.share_out-shares.result (c.asks.ensures.0 c.if-not-asks.false) c.share_out-shares.ensures c.hear_at.ensures
