use Rattle.std.proofs.Common.{◌≡◌, true}
use Rattle.mvd_keys.specs.Key.{is_key}
use Rattle.mvd_keys.specs.State.{IsValid}
use Rattle.mvd_kept.proofs.Opened.{each_more}
use Rattle.mvd_kept.proofs.held.are_valid.Goals as goal

pub loop-entry-preserved : goal.loop-entry-preserved
loop-entry-preserved c =
    each_more (λ e. IsValid e.1 × (is_key e.0 ≡ true)) c.args.states.now c.loop-entry.entry-index c.entry-item.result c.loop-entry.invariant c.loop-entry-test.true c.entry-item.is (c.context-seen.ensures.valid, c.text-text.ensures.key)
