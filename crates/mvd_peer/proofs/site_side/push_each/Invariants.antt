use Rattle.std.proofs.Common.{◌≡◌, ◌≤◌, length, take, vec_capacity}
use Rattle.mvd_peer.specs.Saying.{manner_of}
use Rattle.mvd_peer.specs.Sides.{IsWholeSite, site_side}
use Rattle.mvd_peer.specs.Telling.{TellsLive, TellsPush}
use Rattle.mvd_peer.specs.Windows.{Asked, Pushes, for_pushes}
use Rattle.mvd_peer.proofs.site_side.push_each.Given as goal

-- the first pushes were made and told
abbrev pub invariant-loop-key : goal.invariant-loop-key
invariant-loop-key l = record {
  pushes : IsWholeSite l.fn.site → IsWholeSite l.site × Pushes l.fn.site.config.max_keys l.fn.site.states (take l.key-index l.pairs) l.told.items l.site.states;
  so_far : Asked (manner_of site_side) for_pushes (take l.key-index l.pairs) l.told.items l.fn.site l.site;
  live : TellsLive IsWholeSite (λ site. site.states) (TellsPush l.fn.site.config.max_keys) (take l.key-index l.pairs) l.told.items l.fn.site l.site;
  count : length l.told.items ≡ l.key-index;
  room : length l.pairs ≤ vec_capacity l.told;
}
