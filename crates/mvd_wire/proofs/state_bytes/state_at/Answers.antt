use Rattle.std.proofs.Common.{◌≤◌, arith, length, refl}
use Rattle.std.proofs.lemmas.Bool.{le-leb}
use Rattle.mvd_wire.specs.Codecs.{state_codec, unlimited_state, layout_of}
use Rattle.mvd_wire.proofs.state_bytes.state_at.Goals as goal

pub returns : goal.returns
unfolding state_codec
returns c =
    let v = layout_of c.args.version in
    let short : length ((unlimited_state v).spell c.in_ok-state.state) ≤ v.limit = omega (arith, c.in_ok-state.ensures.len, c.limit_of.ensures, c.if-bytes-rest.false) in
    rw (c.in_ok-state.ensures.read, le-leb _ _ short) refl
