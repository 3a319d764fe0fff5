use Rattle.std.specs.Prelude.{string_bytes}
use Rattle.std.proofs.Common.{length, ◌-◌}
use Rattle.std.specs.List.{slice_get}
use Rattle.mvd_world.specs.Machine.{is_numbered}
use Rattle.mvd_script.specs.Script.{site_in}
use Rattle.mvd_script.proofs.Playing.{numbered, says_so}
use Rattle.mvd_script.proofs.play.run.Goals as goal

pub returns-clause-said : goal.returns-clause-said
returns-clause-said c =
    let world = c.args.member.now.world in
    let site = c.site_of-member.result in
    says_so c.settle.result c.args.site (site_in c.args.site) c.args.command (record { world = world; site = site }) c.play-said.new.member (string_bytes c.begin_line.new.out) (string_bytes c.play-said.new.out) (string_bytes c.settle.new.out) c.play-said.result c.site_of-member.ensures c.in_ok-begin_line.ensures.empty
    (numbered (is_numbered (length world.sites.items) site) c.site.result (slice_get world.sites.items (site - 1)) c.site.ensures c.if-is_none.ensures) c.play-said.ensures c.settle.ensures.told
