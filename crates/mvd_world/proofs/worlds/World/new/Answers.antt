use Rattle.std.proofs.Common.{◌≡◌, ◌+◌, [], ◌∷◌, false, length, sym, ap, ◌∙◌, subst, arith, length-append}
use Rattle.std.specs.List.{AllByRecursion}
use Rattle.std.specs.FinMap.{empty}
use Rattle.mvd_site.specs.Answer.{is_too_large}
use Rattle.mvd_world.specs.declared.worlds.Message.{Message}
use Rattle.mvd_world.specs.Machine.{Setting, config_of, is_numbered, nothing_yet, setting_of}
use Rattle.mvd_world.specs.Worlds.{AreSites}
use Rattle.mvd_world.proofs.Leading.{all_sites, config_there, no_sites, number_in, one_more_site}
use Rattle.mvd_world.proofs.Sound.{sound_start}
use Rattle.mvd_world.proofs.worlds.World.new.Goals as goal

pub loop-site-init : goal.loop-site-init
loop-site-init c = record {
  count = ap length c.new-sites.ensures.items;
  sites = subst (AreSites (setting_of c.args.count c.args.max_keys c.args.defs) nothing_yet) (sym c.new-sites.ensures.items) (no_sites (setting_of c.args.count c.args.max_keys c.args.defs));
}

pub loop-site-preserved : goal.loop-site-preserved
loop-site-preserved c =
    let setting : Setting = setting_of c.args.count c.args.max_keys c.args.defs in
    let config = config_of c.args.max_keys c.args.defs (c.loop-site.site + 1) in
    let s = c.in_ok-new.field-0 in
    let copied : c.in_ok-copy.field-0 ≡ c.args.defs = cc (c.in_ok-copy.ensures, c.defs.view_is) in
    let made : s ≡ record { config = c.new-config.result; states = empty; broken = false } = cc (c.in_ok-new.ensures) in
    let is : s ≡ record { config = config; states = empty; broken = false } =
    made ∙ (λ i. record { config = c.new-config.ensures i; states = empty; broken = false }) ∙ ap (λ d. record { config = record { site = c.loop-site.site + 1; max_keys = c.args.max_keys; defs = d }; states = empty; broken = false }) copied in
    record {
      count = ap length c.in_ok-push.ensures.items ∙ length-append c.loop-site.sites.items (s ∷ []) ∙ ap (λ n. n + 1) c.loop-site.invariant.count;
      sites = one_more_site setting c.loop-site.sites.items c.push.new.self.items s c.loop-site.site config c.loop-site.invariant.sites c.in_ok-push.ensures.items c.loop-site.invariant.count
          (config_there (is_numbered c.args.count (c.loop-site.site + 1)) config (number_in c.args.count (c.loop-site.site + 1) (omega (arith)) (omega (arith, c.loop-site-test.true)))) is;
    }

pub returns-clause-world : goal.returns-clause-world
returns-clause-world c = record {
  all = all_sites c.args.count c.args.max_keys c.args.defs c.loop-site.sites.items (c.loop-site.invariant.count ∙ omega (arith, c.loop-site-test.false));
  sites = c.loop-site.invariant.sites;
  messages = c.new-2.ensures.items;
  sound = sound_start;
}

pub returns-clause-short : goal.returns-clause-short
returns-clause-short c = subst (AllByRecursion (λ (m : Message). is_too_large m.state ≡ false)) (sym c.new-2.ensures.items) tt
