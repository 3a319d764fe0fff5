use Rattle.std.proofs.Common.{◌∙◌}
use Rattle.mvd_host.proofs.Changing.{with_key, without_key}
use Rattle.mvd_host.proofs.noting.changed_keys.Goals as goal

pub loop-request-preserved-in-Continue-branch-2 : goal.loop-request-preserved-in-Continue-branch-2
loop-request-preserved-in-Continue-branch-2 c =
    with_key c.loop-request.yielded c.in-Some.request c.in-Some-changed_key.key c.loop-request.keys.items c.push.new.self.items c.loop-request.invariant c.in-Some-changed_key.ensures c.in_ok-push.ensures.items

pub loop-request-preserved : goal.loop-request-preserved
loop-request-preserved c =
    without_key c.loop-request.yielded c.in-Some.request c.loop-request.keys.items c.loop-request.invariant (λ key is. c.in_default.not-Some key (c.changed_key.ensures ∙ is))
