use Rattle.std.proofs.Common.{arith}
use Rattle.std.specs.Prelude.{IfOk}
use Rattle.mvd_wire.specs.Codec.{Spells}
use Rattle.mvd_wire.specs.Codecs.{state_codec, layout1}
use Rattle.mvd_wire.proofs.Laws.{is_found, is_only}
use Rattle.mvd_wire.proofs.CodecLaws.{wide_layout1, lawful_state}
use Rattle.mvd_wire.proofs.Versions.{was_short, was_spelled}
use Rattle.mvd_wire.proofs.state_bytes.decode_old_state.Goals as goal

pub returns-clause-found : goal.returns-clause-found
returns-clause-found c = is_found (state_codec layout1) (lawful_state layout1 wide_layout1) c.args.bytes.now (λ i. omega (arith, c.type_inv.bytes i)) c.decode.result c.decode.ensures

pub returns-clause-only : goal.returns-clause-only
returns-clause-only c = is_only (state_codec layout1) (lawful_state layout1 wide_layout1) c.args.bytes.now (λ i. omega (arith, c.type_inv.bytes i)) c.decode.result c.decode.ensures

pub returns-clause-spelled : goal.returns-clause-spelled
returns-clause-spelled c =
    let found : IfOk c.decode.result (λ s. Spells (state_codec layout1) s c.args.bytes.now) = is_found (state_codec layout1) (lawful_state layout1 wide_layout1) c.args.bytes.now (λ i. omega (arith, c.type_inv.bytes i)) c.decode.result c.decode.ensures in
    was_spelled c.args.bytes.now c.decode.result found

pub returns-clause-short : goal.returns-clause-short
returns-clause-short c =
    let found : IfOk c.decode.result (λ s. Spells (state_codec layout1) s c.args.bytes.now) = is_found (state_codec layout1) (lawful_state layout1 wide_layout1) c.args.bytes.now (λ i. omega (arith, c.type_inv.bytes i)) c.decode.result c.decode.ensures in
    was_short c.args.bytes.now c.decode.result found
