use Rattle.std.proofs.Common.{arith}
use Rattle.mvd_wire.specs.Codecs.{state_codec, layout2}
use Rattle.mvd_wire.proofs.Laws.{is_found, is_only}
use Rattle.mvd_wire.proofs.CodecLaws.{wide_layout2, lawful_state}
use Rattle.mvd_wire.proofs.state_bytes.decode_state.Goals as goal

pub returns-clause-found : goal.returns-clause-found
returns-clause-found c = is_found (state_codec layout2) (lawful_state layout2 wide_layout2) c.args.bytes.now (λ i. omega (arith, c.type_inv.bytes i)) c.decode.result c.decode.ensures

pub returns-clause-only : goal.returns-clause-only
returns-clause-only c = is_only (state_codec layout2) (lawful_state layout2 wide_layout2) c.args.bytes.now (λ i. omega (arith, c.type_inv.bytes i)) c.decode.result c.decode.ensures
