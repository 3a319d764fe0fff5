use Rattle.std.proofs.Common.{Some, refl, subst, sym, ◌∙◌}
use Rattle.mvd_host.specs.AtHand.{AtHandValue, TakesFirst}
use Rattle.mvd_server.specs.Talking.{HearsOwn, talking_of}
use Rattle.mvd_server.proofs.Deeds.{deeds_one}
use Rattle.mvd_server.proofs.Replying.{keeps_other, keeps_own, own_above}
use Rattle.mvd_server.proofs.talks.Talks.tell_next.Goals as goal

pub returns-then-is_own-clause-deeds : goal.returns-then-is_own-clause-deeds
returns-then-is_own-clause-deeds c =
    let old = talking_of c.args.self.now in
    let takes = subst (λ o. TakesFirst c.args.self.now.hand o c.next.new.self) c.in-Some.is c.next.ensures in
    deeds_one (HearsOwn c.in-Some.number c.in-Some.reply) old (record old { hand = c.next.new.self }) (λ site. tt) (own_above c.in-Some.number (sym c.is_own.ensures ∙ c.if-is_own.true), (takes, refl))

pub returns-then-is_own-clause-heard : goal.returns-then-is_own-clause-heard
returns-then-is_own-clause-heard c =
    let takes = subst (λ o. TakesFirst c.args.self.now.hand o c.next.new.self) c.in-Some.is c.next.ensures in
    keeps_own c.in-Some.number c.in-Some.reply c.args.self.now _ takes (sym c.is_own.ensures ∙ c.if-is_own.true) c.push.ensures.told c.push.ensures.lost

pub returns-clause-heard : goal.returns-clause-heard
returns-clause-heard c =
    let takes = subst (λ o. TakesFirst c.args.self.now.hand o c.next.new.self) c.in-Some.is c.next.ensures in
    keeps_other c.in-Some.number c.in-Some.reply c.args.self.now c.tell.new.self (subst (λ (h : AtHandValue). TakesFirst c.args.self.now.hand (Some (c.in-Some.number, c.in-Some.reply)) h) (sym c.tell.ensures.hand) takes)
    (sym c.is_own.ensures ∙ c.if-is_own.false) c.tell.ensures.heard
