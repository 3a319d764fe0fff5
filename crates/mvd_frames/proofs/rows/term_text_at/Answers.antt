use Rattle.std.proofs.Common.{◌≡◌, true, arith, leb, refl}
use Rattle.std.proofs.lemmas.Bool.{le-leb}
use Rattle.mvd_wire.specs.Rows.{term_text_codec}
use Rattle.mvd_frames.proofs.rows.term_text_at.Goals as goal

pub returns : goal.returns
unfolding term_text_codec
returns c =
    let few : leb c.in_ok-count.count 512 ≡ true = le-leb _ _ (omega arith) in
    rw (c.in_ok-count.ensures, few, ← c.from.ensures, c.in_ok-text.ensures, c.in_ok-text_of.ensures) refl
