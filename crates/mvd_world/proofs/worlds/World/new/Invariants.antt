use Rattle.std.proofs.Common.{◌≡◌, length}
use Rattle.mvd_world.specs.Machine.{nothing_yet, setting_of}
use Rattle.mvd_world.specs.Worlds.{AreSites}
use Rattle.mvd_world.proofs.worlds.World.new.Given as goal

-- so many sites with no key are made
abbrev pub invariant-loop-site : goal.invariant-loop-site
invariant-loop-site l = record {
  count : length l.sites.items ≡ l.site;
  sites : AreSites (setting_of l.fn.count l.fn.max_keys l.fn.defs) nothing_yet l.sites.items;
}
