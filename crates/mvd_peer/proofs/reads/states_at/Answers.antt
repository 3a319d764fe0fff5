use Rattle.std.proofs.Common.{◌≡◌, ◌+◌, ◌-◌, ◌^◌, subst, sym}
use Rattle.std.specs.Prelude.{min}
use Rattle.mvd_peer.specs.SiteTells.{TellsState}
use Rattle.mvd_peer.specs.Windows.{AreWithin}
use Rattle.mvd_peer.proofs.Dropped.{bytes_of, held_told, held_within, within_more}
use Rattle.mvd_peer.proofs.OneByOne.{for_each_at}
use Rattle.mvd_peer.proofs.reads.states_at.Goals as goal

pub loop-key-preserved : goal.loop-key-preserved
loop-key-preserved c =
    let before = c.loop-key.invariant in
    let it = c.get.ensures in
    let told = held_told c.args.site.now c.key-item.result _ _ c.get.result c.hold.result c.hold.ensures (record { whole = it.whole; state = it.state; refused = it.refused }) in
    let now = within_more 0 c.loop-key.bytes c.hold.new.bytes c.loop-key.told.items c.hold.result before.bytes before.told.1 (held_within _ _ _ _ c.hold.ensures) in
    let items = c.in_ok-push.ensures.items in
    record {
      told = (for_each_at (TellsState c.args.site.now) c.args.keys.now _ c.key-item.result _ _ c.hold.result c.loop-key-test.true c.key-item.is items before.told.0 told, subst (AreWithin 0) (sym items) now.0);
      bytes = subst (λ ts. c.hold.new.bytes ≡ min (0 + bytes_of ts) (2 ^ 64 - 1)) (sym items) now.1;
    }
