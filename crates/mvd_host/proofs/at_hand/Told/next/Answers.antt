use Rattle.std.proofs.Common.{◌≡◌, ◌∙◌, ◌+◌, [], ℕ, Option, ap, drop, subst, sym}
use Rattle.mvd_wire.specs.declared.reply.Reply.{Reply}
use Rattle.mvd_host.specs.AtHand.{told_at_hand}
use Rattle.mvd_host.specs.KeptAtHand.{TakesNext, left_of, told_each}
use Rattle.mvd_host.proofs.Telling.{hand_next, hand_past, none_past}
use Rattle.mvd_host.proofs.at_hand.Told.next.Goals as goal

pub loop-at-preserved : goal.loop-at-preserved
loop-at-preserved c =
    let clients = c.args.clients.now in
    let i = c.loop-at.at in
    record {
      left =
          c.loop-at.invariant.left
          ∙ hand_past (drop i (told_each clients c.loop-at.self)) _ c.in_ok-reply.reply (drop (i + 1) (told_each clients c.take.new.self)) (c.in_ok-reply.ensures clients c.loop-at-test.true) c.if-client-ge-FIRST_AT_HAND.false;
    }

pub returns-then-client-ge-FIRST_AT_HAND : goal.returns-then-client-ge-FIRST_AT_HAND
returns-then-client-ge-FIRST_AT_HAND c =
    let clients = c.args.clients.now in
    let i = c.loop-at.at in
    c.loop-at.invariant.left
    ∙ hand_next (drop i (told_each clients c.loop-at.self)) _ c.in_ok-reply.reply (drop (i + 1) (told_each clients c.take.new.self)) (c.in_ok-reply.ensures clients c.loop-at-test.true) c.if-client-ge-FIRST_AT_HAND.true

pub returns-in_err-reply : goal.returns-in_err-reply
returns-in_err-reply c =
    let clients = c.args.clients.now in
    let none : left_of clients c.args.self.now c.args.at.now ≡ [] = c.loop-at.invariant.left ∙ ap told_at_hand (c.in_err-reply.ensures clients c.loop-at-test.true) in
    subst (λ (r : Option (ℕ × Reply)). TakesNext (left_of clients c.args.self.now c.args.at.now) r (left_of clients c.take.new.self c.loop-at.at)) (sym c.from_residual.ensures) none

pub returns : goal.returns
returns c = c.loop-at.invariant.left ∙ ap told_at_hand (none_past c.args.clients.now c.loop-at.self c.loop-at.at c.loop-at-test.false)
