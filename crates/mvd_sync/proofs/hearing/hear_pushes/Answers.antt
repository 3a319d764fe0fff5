use Rattle.std.proofs.Common.{subst, sym}
use Rattle.mvd_sync.specs.Machines.{CarriedOn, other_of, share_of, told_by_side}
use Rattle.mvd_sync.specs.declared.report.Side.{Side}
use Rattle.mvd_sync.proofs.hearing.hear_pushes.Goals as goal

pub returns-in-Local : goal.returns-in-Local
returns-in-Local c = subst (λ (s : Side). CarriedOn c.args.walk c.args.turn (share_of s c.args.shares) (told_by_side s c.args.answers) (told_by_side (other_of s) c.args.answers) c.hear_side.result) (sym c.in-Local.is) c.hear_side.ensures

pub returns-in-Peer : goal.returns-in-Peer
returns-in-Peer c = subst (λ (s : Side). CarriedOn c.args.walk c.args.turn (share_of s c.args.shares) (told_by_side s c.args.answers) (told_by_side (other_of s) c.args.answers) c.hear_side-in-Peer.result) (sym c.in-Peer.is) c.hear_side-in-Peer.ensures
