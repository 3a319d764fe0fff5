use Rattle.std.proofs.Common.{ap}
use Rattle.mvd_keys.specs.State.{State}
use Rattle.mvd_keys.specs.Writes.{writes_of}
use Rattle.mvd_keys.proofs.Standing.{AreOf-writes_of, held-same, state-own}
use Rattle.mvd_keys.proofs.laws.own_writes.Goals as goal

pub returns : goal.returns
returns c = record {
  state = state-own;
  context = λ key W. ap (λ (s : State). s.context) (state-own key W);
  held = λ key W. held-same key W (writes_of key W) (state-own key W);
  own = AreOf-writes_of;
}
