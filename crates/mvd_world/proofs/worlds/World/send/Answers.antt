use Rattle.std.proofs.Common.{◌≡◌, ◌-◌, false, length, refl, sym, ap, subst, ◌∙◌, arith}
use Rattle.std.specs.List.{AllByRecursion}
use Rattle.std.proofs.lemmas.Option.{slice_get_read}
use Rattle.mvd_site.specs.Answer.{is_too_large}
use Rattle.mvd_site.specs.Held.{state_at}
use Rattle.mvd_world.specs.declared.worlds.Message.{Message}
use Rattle.mvd_world.proofs.Known.{short_at, short_push}
use Rattle.mvd_world.proofs.Leading.{for_memory, sends_lead, sends_not_lead}
use Rattle.mvd_world.proofs.worlds.World.send.Goals as goal

pub returns-in-Err-clause-leads : goal.returns-in-Err-clause-leads
returns-in-Err-clause-leads c =
    let old = c.args.self.now in
    let s = c.index-sender.result.now in
    sends_not_lead old old c.args.site (c.args.site - 1) s c.in-Err.refusal (omega (arith, c.requires.some))
    (slice_get_read old.sites.items (length old.sites.items) (c.args.site - 1) s refl (omega (arith, c.requires.some, c.requires.within)) c.index-sender.ensures)
    c.in-Err.ensures.refused refl refl

pub returns-in-Err-append-clause-leads : goal.returns-in-Err-append-clause-leads
returns-in-Err-append-clause-leads c =
    let old = c.args.self.now in
    let s = c.index-sender.result.now in
    sends_not_lead old c.append.new.self c.args.site (c.args.site - 1) s c.in-Err-append.refusal (omega (arith, c.requires.some))
    (slice_get_read old.sites.items (length old.sites.items) (c.args.site - 1) s refl (omega (arith, c.requires.some, c.requires.within)) c.index-sender.ensures)
    (for_memory s.broken c.in-Err-append.refusal c.in-Ok.ensures.whole c.in-Err-append.ensures.memory) c.append.ensures.sites c.in-Err-append.ensures.err

pub returns-in-Ok-append-clause-leads : goal.returns-in-Ok-append-clause-leads
returns-in-Ok-append-clause-leads c =
    let old = c.args.self.now in
    let new = c.append.new.self in
    let s = c.index-sender.result.now in
    let m : Message = record { key = c.args.key.now; state = c.in-Ok.state } in
    let same : m ≡ record { key = c.args.key.now; state = state_at s.states c.args.key.now } = λ i. record { key = c.args.key.now; state = c.in-Ok.ensures.state i } in
    sends_lead old new c.args.site (c.args.site - 1) s c.args.key.now m c.len.result (omega (arith, c.requires.some))
    (slice_get_read old.sites.items (length old.sites.items) (c.args.site - 1) s refl (omega (arith, c.requires.some, c.requires.within)) c.index-sender.ensures)
    c.in-Ok.ensures.whole same c.append.ensures.sites c.in-Ok-append.ensures.ok (c.len.ensures ∙ new.messages.ok.0)

pub returns-in-Err-clause-short : goal.returns-in-Err-clause-short
returns-in-Err-clause-short c = λ short. short

pub returns-in-Err-append-clause-short : goal.returns-in-Err-append-clause-short
returns-in-Err-append-clause-short c = subst (AllByRecursion (λ (m : Message). is_too_large m.state ≡ false)) (sym c.in-Err-append.ensures.err)

pub returns-in-Ok-append-clause-short : goal.returns-in-Ok-append-clause-short
returns-in-Ok-append-clause-short c = λ short.
    let s = c.index-sender.result.now in
    let m : Message = record { key = c.args.key.now; state = c.in-Ok.state } in
    subst (AllByRecursion (λ (x : Message). is_too_large x.state ≡ false)) (sym c.in-Ok-append.ensures.ok)
    (short_push c.args.self.now.messages.items m short (ap is_too_large c.in-Ok.ensures.state ∙ short_at s.states c.args.key.now c.stands.ensures.held))
