use Rattle.std.proofs.Common.{◌≡◌, true, leb, refl, arith}
use Rattle.std.proofs.lemmas.Bool.{le-leb}
use Rattle.mvd_wire.specs.Codecs.{key}
use Rattle.mvd_wire.proofs.values.key_at.Goals as goal

pub returns : goal.returns
unfolding key
returns c =
    let some : leb 1 c.in_ok-count.count ≡ true = le-leb _ _ (omega arith) in
    let few : leb c.in_ok-count.count 128 ≡ true = le-leb _ _ (omega arith) in
    rw (c.in_ok-count.ensures, some, few, ← c.from.ensures, c.in_ok-text.ensures, c.in_ok-key_of_bytes.ensures) refl
