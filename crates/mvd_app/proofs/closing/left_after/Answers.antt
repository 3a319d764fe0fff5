use Rattle.std.proofs.Common.{◌∙◌, inl, inr, refl, sym, true≢false}
use Rattle.mvd_app.proofs.closing.left_after.Goals as goal

pub returns-then-bars_closing : goal.returns-then-bars_closing
returns-then-bars_closing g c = (refl, inr (c.bars_closing.ensures.0 c.if-bars_closing.true))

pub returns-then-is_broken : goal.returns-then-is_broken
returns-then-is_broken g c = (refl, inl (sym c.is_broken.ensures ∙ c.if-is_broken.true))

pub returns-in-Ok : goal.returns-in-Ok
returns-in-Ok g c = (
  sym c.is_broken.ensures ∙ c.if-is_broken.false,
  (λ bars. true≢false (sym (c.bars_closing.ensures.1 bars) ∙ c.if-bars_closing.false), c.in-Ok.ensures.closed),
)

pub returns-in-Err : goal.returns-in-Err
returns-in-Err g c = (c.in-Err.error, c.in-Err.ensures.failed)
