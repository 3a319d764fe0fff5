use Rattle.std.proofs.Common.{arith, refl}
use Rattle.mvd_peer.specs.Windows.{dropped, refused}
use Rattle.mvd_peer.proofs.Dropped.{holds_state}
use Rattle.mvd_peer.proofs.holding.hold.Goals as goal

pub returns-then-bytes-ge-HELD_BYTES : goal.returns-then-bytes-ge-HELD_BYTES
returns-then-bytes-ge-HELD_BYTES c =
    let much = c.if-bytes-ge-HELD_BYTES.true in
    dropped c.in-Ok.state c.in-Ok.is (omega (arith, much)) refl refl

pub returns-else-bytes-ge-HELD_BYTES : goal.returns-else-bytes-ge-HELD_BYTES
returns-else-bytes-ge-HELD_BYTES c =
    let low = c.if-bytes-ge-HELD_BYTES.false in
    holds_state c.args.bytes.now c.state_length.result c.saturating_add.result c.args.answer c.in-Ok.state c.in-Ok.is (omega (arith, low)) c.state_length.ensures.length c.saturating_add.ensures

pub returns-in-Err : goal.returns-in-Err
returns-in-Err c = refused c.in-Err.refusal c.in-Err.is refl refl
