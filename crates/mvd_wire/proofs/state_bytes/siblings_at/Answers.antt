use Rattle.std.proofs.Common.{arith}
use Rattle.mvd_keys.specs.State.{AreParts, pairs_of}
use Rattle.mvd_wire.specs.Codecs.{siblings_codec, layout_of}
use Rattle.mvd_wire.proofs.Laws.{is_read}
use Rattle.mvd_wire.proofs.CodecLaws.{wide_layout_of, lawful_siblings}
use Rattle.mvd_wire.proofs.Siblings.{siblings_parts}
use Rattle.mvd_wire.proofs.state_bytes.siblings_at.Goals as goal

pub returns-clause-parts : goal.returns-clause-parts
returns-clause-parts c =
    let v = layout_of c.args.version in
    let dots = c.args.context.now in
    is_read (siblings_codec v dots) (lawful_siblings v (wide_layout_of c.args.version) dots) c.args.bytes.now (λ i. omega (arith, c.type_inv.bytes i)) (λ z. pairs_of z.0.items) (λ z. z.1.now) (λ z. AreParts z.0.items dots) (λ z fits. siblings_parts v dots z.0.items fits) c.list_of_siblings_at.result c.list_of_siblings_at.ensures
