use Rattle.mvd_peer.proofs.Growths.{pushed_grows, rises_each, rises_grow}
use Rattle.mvd_peer.proofs.JoinLaws.{valid_at}
use Rattle.mvd_peer.proofs.laws.moments_grow.Goals as goal

pub returns : goal.returns
returns c = record {
  whole = λ old new moments p q up. rises_grow old moments new p q up;
  each = rises_each;
  pushed = pushed_grows;
  form = valid_at;
}
