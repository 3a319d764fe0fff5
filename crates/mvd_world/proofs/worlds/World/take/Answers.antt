use Rattle.std.proofs.Common.{◌-◌, refl, sym, ap, ◌∙◌}
use Rattle.std.specs.Vec.{with_item}
use Rattle.mvd_wire.specs.declared.reply.Reply.TheVariants.{Done, Refused}
use Rattle.mvd_site.specs.Sites.{SiteValue}
use Rattle.mvd_world.specs.declared.worlds.Message.{Message}
use Rattle.mvd_world.specs.declared.worlds.World.{World}
use Rattle.mvd_world.proofs.Asking.{takes_none, takes_sent}
use Rattle.mvd_world.proofs.Leading.{changes_at, never_ok, refused_so, same_config}
use Rattle.mvd_world.proofs.Taking.{numbered}
use Rattle.mvd_world.proofs.worlds.World.take.Goals as goal

pub returns-then-not-has : goal.returns-then-not-has
returns-then-not-has c index there = takes_none c.args.self.now c.args.site index (sym c.has.ensures ∙ c.if-not-has.true)

pub returns-in-Ok : goal.returns-in-Ok
returns-in-Ok c index there =
    let old = c.args.self.now in
    let s = c.index_mut-taker.result.now in
    let m : Message = record { key = c.args.key.now; state = c.args.state.now } in
    let new : World = record { alloc = old.alloc; sites = with_item old.sites (c.args.site - 1) c.push.new.self; messages = old.messages } in
    let there_is = sym c.has.ensures ∙ c.if-not-has.false in
    let low = numbered _ _ there_is in
    takes_sent old new c.args.site index m s c.push.new.self Done there_is there
    (changes_at old new c.args.site s c.push.new.self low.0 low.1 c.index_mut-taker.ensures.value refl refl (ap (λ (v : SiteValue). v.config) c.in-Ok.ensures.joined))
    c.in-Ok.ensures.answer (λ broken. absurd (never_ok _ _ (c.in-Ok.ensures.stays broken)))

pub returns-in-Err : goal.returns-in-Err
returns-in-Err c index there =
    let old = c.args.self.now in
    let s = c.index_mut-taker.result.now in
    let m : Message = record { key = c.args.key.now; state = c.args.state.now } in
    let new : World = record { alloc = old.alloc; sites = with_item old.sites (c.args.site - 1) c.push.new.self; messages = old.messages } in
    let there_is = sym c.has.ensures ∙ c.if-not-has.false in
    let low = numbered _ _ there_is in
    takes_sent old new c.args.site index m s c.push.new.self (Refused c.in-Err.refusal) there_is there
    (changes_at old new c.args.site s c.push.new.self low.0 low.1 c.index_mut-taker.ensures.value refl refl (same_config s c.push.new.self c.in-Err.refusal c.in-Err.ensures.unchanged c.in-Err.ensures.told))
    c.in-Err.ensures.answer (λ broken. refused_so s c.push.new.self c.in-Err.refusal (c.in-Err.ensures.stays broken) c.in-Err.ensures.told)
