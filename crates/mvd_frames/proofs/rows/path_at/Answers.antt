use Rattle.std.proofs.Common.{◌≡◌, true, arith, leb, refl}
use Rattle.std.proofs.lemmas.Bool.{le-leb}
use Rattle.mvd_wire.specs.Codecs.{path}
use Rattle.mvd_frames.proofs.rows.path_at.Goals as goal

pub returns : goal.returns
unfolding path
returns c =
    let few : leb c.in_ok-count.count 3 ≡ true = le-leb _ _ (omega arith) in
    rw (c.in_ok-count.ensures, few, ← c.from.ensures, c.in_ok-digits.ensures, c.in_ok-new.ensures) refl
