use Rattle.std.specs.Prelude.{◌≡◌}
use Rattle.mvd_peer.specs.Windows.{HasKeys, IsNode, TellsMore}
use Rattle.mvd_site.specs.Answer.{digests}
use Rattle.mvd_site.specs.Held.{state_at}
use Rattle.mvd_live.specs.Told.{TellsNode, PageTold, StateTold}
use Rattle.mvd_live.proofs.Quiet.{push_refused, push_taken, quiet_told}
use Rattle.mvd_live.proofs.laws.a_quiet_side_is_live.Goals as goal

pub returns : goal.returns
returns c = record {
  nodes = λ most held paths told form each. quiet_told TellsNode (IsNode (digests held)) held form (λ q a p. p) (λ q refusal. tt) paths told.items each;
  pages = λ most held asked told form each. quiet_told PageTold (λ q page. HasKeys held q.0 q.1 page × TellsMore held q.0 q.1 page) held form (λ q a p. p) (λ q refusal. tt) asked told.items each;
  states = λ most held keys told form each. quiet_told StateTold (λ key state. state ≡ state_at held key) held form (λ q a p. p) (λ q refusal. tt) keys told.items each;
  taken = push_taken;
  refused = push_refused;
}
