use Rattle.std.proofs.Common.{◌≡◌, ◌-◌, length, Some, refl, ap, arith}
use Rattle.std.specs.List.{slice_get}
use Rattle.std.specs.Vec.{with_item}
use Rattle.std.proofs.lemmas.Option.{slice_get_read}
use Rattle.mvd_wire.specs.declared.reply.Reply.TheVariants.{Done, Refused}
use Rattle.mvd_site.specs.Sites.{SiteValue}
use Rattle.mvd_world.specs.declared.worlds.World.{World}
use Rattle.mvd_world.proofs.Leading.{changes_at, never_ok, receives_lead, refused_so, same_config}
use Rattle.mvd_world.proofs.Known.{known_changes_nothing, repeats_done, repeats_refused, same_again, stays_the_same}
use Rattle.mvd_world.proofs.worlds.World.receive.Goals as goal

pub returns-in-Ok-clause-leads : goal.returns-in-Ok-clause-leads
returns-in-Ok-clause-leads c =
    let old = c.args.self.now in
    let s = c.index_mut-taker.result.now in
    let m = c.index-message.result.now in
    let new : World = record { alloc = old.alloc; sites = with_item old.sites (c.args.site - 1) c.push.new.self; messages = old.messages } in
    receives_lead old new c.args.site c.args.message (c.args.message - 1) m s c.push.new.self Done
    (changes_at old new c.args.site s c.push.new.self c.requires.some c.requires.within c.index_mut-taker.ensures.value refl refl (ap (λ (v : SiteValue). v.config) c.in-Ok.ensures.joined))
    (slice_get_read old.messages.items (length old.messages.items) (c.args.message - 1) m refl (omega (arith, c.requires.some_message, c.requires.within_messages)) c.index-message.ensures) refl
    c.in-Ok.ensures.answer (λ broken. absurd (never_ok _ _ (c.in-Ok.ensures.stays broken)))

pub returns-in-Err-clause-leads : goal.returns-in-Err-clause-leads
returns-in-Err-clause-leads c =
    let old = c.args.self.now in
    let s = c.index_mut-taker.result.now in
    let m = c.index-message.result.now in
    let new : World = record { alloc = old.alloc; sites = with_item old.sites (c.args.site - 1) c.push.new.self; messages = old.messages } in
    receives_lead old new c.args.site c.args.message (c.args.message - 1) m s c.push.new.self (Refused c.in-Err.refusal)
    (changes_at old new c.args.site s c.push.new.self c.requires.some c.requires.within c.index_mut-taker.ensures.value refl refl (same_config s c.push.new.self c.in-Err.refusal c.in-Err.ensures.unchanged c.in-Err.ensures.told))
    (slice_get_read old.messages.items (length old.messages.items) (c.args.message - 1) m refl (omega (arith, c.requires.some_message, c.requires.within_messages)) c.index-message.ensures) refl
    c.in-Err.ensures.answer (λ broken. refused_so s c.push.new.self c.in-Err.refusal (c.in-Err.ensures.stays broken) c.in-Err.ensures.told)

pub returns-in-Ok-clause-same : goal.returns-in-Ok-clause-same
returns-in-Ok-clause-same c =
    let old = c.args.self.now in
    let s = c.index_mut-taker.result.now in
    let m = c.index-message.result.now in
    let new : World = record { alloc = old.alloc; sites = with_item old.sites (c.args.site - 1) c.push.new.self; messages = old.messages } in
    let here : slice_get old.sites.items (c.args.site - 1) ≡ Some s = slice_get_read old.sites.items (length old.sites.items) (c.args.site - 1) s refl (omega (arith, c.requires.some, c.requires.within)) c.index_mut-taker.ensures.value in
    let there : slice_get old.messages.items (c.args.message - 1) ≡ Some m = slice_get_read old.messages.items (length old.messages.items) (c.args.message - 1) m refl (omega (arith, c.requires.some_message, c.requires.within_messages)) c.index-message.ensures in
    stays_the_same old new c.args.site c.args.message s m Done
    (repeats_done old new c.args.site c.args.message s c.push.new.self m c.requires.some here there (same_again old (c.args.site - 1) s c.push.new.self here) (λ broken. never_ok _ _ (c.in-Ok.ensures.stays broken)) c.in-Ok.ensures.joined)

pub returns-in-Ok-clause-known : goal.returns-in-Ok-clause-known
returns-in-Ok-clause-known c =
    let old = c.args.self.now in
    let s = c.index_mut-taker.result.now in
    let m = c.index-message.result.now in
    let new : World = record { alloc = old.alloc; sites = with_item old.sites (c.args.site - 1) c.push.new.self; messages = old.messages } in
    let here : slice_get old.sites.items (c.args.site - 1) ≡ Some s = slice_get_read old.sites.items (length old.sites.items) (c.args.site - 1) s refl (omega (arith, c.requires.some, c.requires.within)) c.index_mut-taker.ensures.value in
    let there : slice_get old.messages.items (c.args.message - 1) ≡ Some m = slice_get_read old.messages.items (length old.messages.items) (c.args.message - 1) m refl (omega (arith, c.requires.some_message, c.requires.within_messages)) c.index-message.ensures in
    known_changes_nothing old new c.args.site c.args.message s m Done
    (repeats_done old new c.args.site c.args.message s c.push.new.self m c.requires.some here there (same_again old (c.args.site - 1) s c.push.new.self here) (λ broken. never_ok _ _ (c.in-Ok.ensures.stays broken)) c.in-Ok.ensures.joined)

pub returns-in-Err-clause-same : goal.returns-in-Err-clause-same
returns-in-Err-clause-same c =
    let old = c.args.self.now in
    let s = c.index_mut-taker.result.now in
    let m = c.index-message.result.now in
    let new : World = record { alloc = old.alloc; sites = with_item old.sites (c.args.site - 1) c.push.new.self; messages = old.messages } in
    let here : slice_get old.sites.items (c.args.site - 1) ≡ Some s = slice_get_read old.sites.items (length old.sites.items) (c.args.site - 1) s refl (omega (arith, c.requires.some, c.requires.within)) c.index_mut-taker.ensures.value in
    let there : slice_get old.messages.items (c.args.message - 1) ≡ Some m = slice_get_read old.messages.items (length old.messages.items) (c.args.message - 1) m refl (omega (arith, c.requires.some_message, c.requires.within_messages)) c.index-message.ensures in
    stays_the_same old new c.args.site c.args.message s m (Refused c.in-Err.refusal)
    (repeats_refused old new c.args.site c.args.message s c.push.new.self m c.in-Err.refusal c.requires.some here there (same_again old (c.args.site - 1) s c.push.new.self here) c.stands.ensures.held c.in-Err.ensures.answer
    (λ broken. (refused_so s c.push.new.self c.in-Err.refusal (c.in-Err.ensures.stays broken) c.in-Err.ensures.told).0) c.in-Err.ensures.unchanged c.in-Err.ensures.told)

pub returns-in-Err-clause-known : goal.returns-in-Err-clause-known
returns-in-Err-clause-known c =
    let old = c.args.self.now in
    let s = c.index_mut-taker.result.now in
    let m = c.index-message.result.now in
    let new : World = record { alloc = old.alloc; sites = with_item old.sites (c.args.site - 1) c.push.new.self; messages = old.messages } in
    let here : slice_get old.sites.items (c.args.site - 1) ≡ Some s = slice_get_read old.sites.items (length old.sites.items) (c.args.site - 1) s refl (omega (arith, c.requires.some, c.requires.within)) c.index_mut-taker.ensures.value in
    let there : slice_get old.messages.items (c.args.message - 1) ≡ Some m = slice_get_read old.messages.items (length old.messages.items) (c.args.message - 1) m refl (omega (arith, c.requires.some_message, c.requires.within_messages)) c.index-message.ensures in
    known_changes_nothing old new c.args.site c.args.message s m (Refused c.in-Err.refusal)
    (repeats_refused old new c.args.site c.args.message s c.push.new.self m c.in-Err.refusal c.requires.some here there (same_again old (c.args.site - 1) s c.push.new.self here) c.stands.ensures.held c.in-Err.ensures.answer
    (λ broken. (refused_so s c.push.new.self c.in-Err.refusal (c.in-Err.ensures.stays broken) c.in-Err.ensures.told).0) c.in-Err.ensures.unchanged c.in-Err.ensures.told)

pub returns-in-Ok-clause-short : goal.returns-in-Ok-clause-short
returns-in-Ok-clause-short c = λ short. short

pub returns-in-Err-clause-short : goal.returns-in-Err-clause-short
returns-in-Err-clause-short c = λ short. short
