use Rattle.std.proofs.Common.{◌≡◌, ◌-◌, refl, sym, subst₂, arith}
use Rattle.std.specs.Vec.{with_items}
use Rattle.mvd_world.specs.declared.worlds.World.{World}
use Rattle.mvd_world.specs.Worlds.{TwoMeet}
use Rattle.mvd_world.proofs.Leading.{meets_lead, refilled}
use Rattle.mvd_world.proofs.worlds.World.meet.Goals as goal

pub returns-clause-leads : goal.returns-clause-leads
returns-clause-leads c =
    let old = c.args.self.now in
    let new : World = record { alloc = old.alloc; sites = with_items old.sites c.sync_at.new.sites; messages = old.messages } in
    let filled : new.sites.items ≡ c.sync_at.new.sites = refilled old.sites.len old.sites.items c.deref_mut.result.now c.sync_at.new.sites (c.args.local - 1) (c.args.peer - 1) c.sync_at.result old.sites.ok.0 c.deref_mut.ensures.value c.sync_at.ensures in
    meets_lead old new c.args.local c.args.peer (c.args.local - 1) (c.args.peer - 1) c.sync_at.result (omega (arith, c.requires.some_local)) (omega (arith, c.requires.some_peer)) c.requires.two
    (subst₂ (λ l m. TwoMeet l m (c.args.local - 1) (c.args.peer - 1) c.sync_at.result) c.deref_mut.ensures.value (sym filled) c.sync_at.ensures) refl

pub returns-clause-short : goal.returns-clause-short
returns-clause-short c = λ short. short
