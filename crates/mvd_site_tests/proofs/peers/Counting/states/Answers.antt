use Rattle.std.proofs.Common.{◌≡◌, ◌+◌, ◌-◌, ◌^◌, arith, length, length-append, min, subst, sym}
use Rattle.mvd_peer.specs.Windows.{AreWithin}
use Rattle.mvd_peer.proofs.Dropped.{bytes_of, held_within, within_more}
use Rattle.mvd_site_tests.proofs.peers.Counting.states.Goals as goal

pub loop-key-preserved : goal.loop-key-preserved
loop-key-preserved c =
    let before = c.loop-key.invariant in
    let now = within_more 0 c.loop-key.bytes c.hold.new.bytes c.loop-key.told.items c.hold.result before.bytes before.within (held_within _ _ _ _ c.hold.ensures) in
    let items = c.in_ok-push.ensures.items in
    record {
      count = grind (arith, length-append, items, before.count);
      within = subst (AreWithin 0) (sym items) now.0;
      bytes = subst (λ ts. c.hold.new.bytes ≡ min (0 + bytes_of ts) (2 ^ 64 - 1)) (sym items) now.1;
    }
