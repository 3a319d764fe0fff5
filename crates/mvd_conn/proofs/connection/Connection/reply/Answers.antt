use Rattle.std.proofs.Common.{◌≡◌, ◌≤◌, length, List, ℕ, sym, refl, subst, ap, ◌∙◌, inl, inr, true≢false}
use Rattle.mvd_dots.specs.declared.refusals.Refusal.TheVariants.{Memory}
use Rattle.mvd_wire.specs.declared.reply.Reply.TheVariants.{Refused}
use Rattle.mvd_wire.specs.Replies.{reply_bytes}
use Rattle.mvd_wire.proofs.Laws.{ok_is}
use Rattle.mvd_conn.specs.History.{History, frame_most, replied}
use Rattle.mvd_conn.proofs.LengthLemmas.{sent_fits}
use Rattle.mvd_conn.proofs.connection.Connection.reply.Goals.{in_default-2-via-in-Err-1, in_default-2-via-in-Ok+else-queue}
use Rattle.mvd_conn.proofs.connection.Connection.reply.Goals as goal

pub queue-requires-clause-few : goal.queue-requires-clause-few
queue-requires-clause-few c =
    let reply = c.args.reply.now in
    let bytes : c.deref.result.now ≡ reply_bytes reply = c.deref.ensures.value ∙ ok_is c.in-Ok.bytes.items (reply_bytes reply) (sym c.in-Ok.ensures.exact ∙ c.requires.fits) in
    subst (λ (t : List ℕ). length t ≤ frame_most) (sym bytes) (sent_fits reply c.requires.fits)

pub returns-in-Some : goal.returns-in-Some
returns-in-Some c =
    let after = c.queue_short.ensures ∙ ap (λ (t : List ℕ). replied c.args.self.now t) (c.bytes.ensures ∙ c.in-Some.ensures.1) in
    (c.args.reply.now, inl (refl, λ long. absurd (true≢false (sym c.in-Some.ensures.0 ∙ long))), after)

pub returns-2 : goal.returns-2
returns-2 c =
    let same : c.in_default-2.self ≡ c.args.self.now = elim c.in_default-2.branch [
      | in_default-2-via-in-Err-1 w ↦ w.self-is
      | in_default-2-via-in-Ok+else-queue w ↦ w.self-is ∙ w.queue.ensures.no w.if-queue.false
    ] in
    let after = c.queue_short-2.ensures ∙ ap (λ (h : History). replied h c.bytes-2.result.now) same ∙ ap (λ (t : List ℕ). replied c.args.self.now t) (c.bytes-2.ensures ∙ c.refused.ensures) in
    (Refused Memory, inr (c.in_default.ensures, refl), after)
