use Rattle.std.proofs.Common.{refl}
use Rattle.mvd_wire.specs.Rows.{page, items}
use Rattle.mvd_frames.proofs.spelled_lists.page_at.Goals as goal

pub returns : goal.returns
unfolding page items
returns g c = rw (c.in_ok-more.ensures, c.in_ok-count.ensures, c.in_ok-items.ensures) refl
