use Rattle.std.proofs.Common.{arith}
use Rattle.mvd_wire.specs.Codecs.{unlimited_state, layout_of}
use Rattle.mvd_wire.proofs.Laws.{is_length}
use Rattle.mvd_wire.proofs.CodecLaws.{wide_layout_of, lawful_unlimited_state}
use Rattle.mvd_wire.proofs.state_bytes.unlimited_state_at.Goals as goal

pub returns-clause-len : goal.returns-clause-len
returns-clause-len c =
    let v = layout_of c.args.version in
    is_length (unlimited_state v) (lawful_unlimited_state v (wide_layout_of c.args.version)) c.args.bytes.now (λ i. omega (arith, c.type_inv.bytes i)) (λ z. z.0) (λ z. z.1.now) c.parts_of_state_at.result c.parts_of_state_at.ensures
