use Rattle.std.proofs.Common.{◌≡◌, ◌&&◌, true, refl, rules}
use Rattle.std.specs.FinSet.{contains}
use Rattle.mvd_wire.specs.Codecs.{comes_after, sibling}
use Rattle.mvd_wire.proofs.state_bytes.sibling_at.Goals as goal

pub returns : goal.returns
unfolding sibling
returns c =
    let fits : (comes_after c.args.previous c.in-Ok.found.0 && contains c.args.context.now c.in-Ok.found.0) ≡ true = search rules in
    rw (c.in-Ok.ensures, fits, c.in_ok-document.ensures) refl
