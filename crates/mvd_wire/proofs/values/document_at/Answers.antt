use Rattle.std.proofs.Common.{◌≡◌, true, leb, refl}
use Rattle.std.proofs.lemmas.Bool.{le-leb}
use Rattle.mvd_wire.specs.Codecs.{document}
use Rattle.mvd_wire.proofs.values.document_at.Goals as goal

pub returns : goal.returns
unfolding document
returns c =
    let few : leb c.in_ok-count.count 65536 ≡ true = le-leb _ _ c.if-count-gt-DOCUMENT_LIMIT.false in
    rw (c.in_ok-count.ensures, few, c.in_ok-text.ensures, c.in_ok-document_of_text.ensures) refl
