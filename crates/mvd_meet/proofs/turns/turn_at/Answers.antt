use Rattle.std.proofs.Common.{◌≡◌, ◌⊎◌, inl, inr, ◌++◌, Some, take, slice_index, refl, sym, subst, ap, ◌∙◌}
use Rattle.std.specs.Prelude.{Ok, Err}
use Rattle.mvd_wire.specs.Replies.{reply_kind, reply_of}
use Rattle.mvd_remote.specs.LinkWindows.{AnswersTurn, ToldBy}
use Rattle.mvd_remote.specs.Links.{IsOther, TellsNone, of_body, of_kind}
use Rattle.mvd_meet.proofs.Taking.{behind_of, no_some, received}
use Rattle.mvd_meet.proofs.turns.turn_at.Goals as goal

pub returns-then-came : goal.returns-then-came
returns-then-came c = (c.in-Whole.ensures.within, λ more. of_kind refl (received c.args.bytes.now c.in-Whole.size (IsOther c.args.kind) c.in-Whole.ensures (c.if-came-kind.true, c.if-came.true) more))

pub returns-then-number-lt30 : goal.returns-then-number-lt30
returns-then-number-lt30 c =
    let frame = take c.in-Whole.size c.args.bytes.now in
    let kind = slice_index frame 4 in
    let asked : (kind ≡ c.args.kind) ⊎ (kind ≡ 0xEE) = elim c.else-came-kind.either [ inl other ↦ inr other.1 | inr same ↦ inl same ] in (
      c.in-Whole.ensures.within,
      tt,
      λ more. subst (λ n. AnswersTurn c.args.kind n (Err c.in-Err.refusal) (Some (frame ++ more)) (Some more)) (sym (no_some c.args.none c.in_default.not-Some))
          (received c.args.bytes.now c.in-Whole.size (ToldBy c.args.kind (Err c.in-Err.refusal)) c.in-Whole.ensures ((asked, λ other. ap (reply_of kind) (sym (behind_of frame 5)) ∙ c.in-Err.ensures.exact other), rw c.number.ensures at c.if-number-lt30.true) more),
    )

pub returns-in-Ok : goal.returns-in-Ok
returns-in-Ok c =
    let frame = take c.in-Whole.size c.args.bytes.now in
    let kind = slice_index frame 4 in
    let asked : (kind ≡ c.args.kind) ⊎ (kind ≡ 0xEE) = elim c.else-came-kind.either [ inl other ↦ inr other.1 | inr same ↦ inl same ] in
    let spelled : kind ≡ reply_kind c.in-Ok.reply = c.in-Ok.ensures.found.1 in (
      c.in-Whole.ensures.within,
      elim asked [ inl same ↦ inl (sym spelled ∙ same) | inr refused ↦ inr (sym spelled ∙ refused) ],
      λ more. subst (λ n. AnswersTurn c.args.kind n (Ok c.in-Ok.reply) (Some (frame ++ more)) (Some more)) (sym (no_some c.args.none c.in_default.not-Some))
          (received c.args.bytes.now c.in-Whole.size (ToldBy c.args.kind (Ok c.in-Ok.reply)) c.in-Whole.ensures (asked, ap (reply_of kind) (sym (behind_of frame 5)) ∙ c.in-Ok.ensures.exact) more),
    )

pub returns-else-number-lt30 : goal.returns-else-number-lt30
returns-else-number-lt30 c =
    let frame = take c.in-Whole.size c.args.bytes.now in
    let kind = slice_index frame 4 in
    let asked : (kind ≡ c.args.kind) ⊎ (kind ≡ 0xEE) = elim c.else-came-kind.either [ inl other ↦ inr other.1 | inr same ↦ inl same ] in (
      c.in-Whole.ensures.within,
      λ more. of_body (rw c.number.ensures at c.if-number-lt30.false)
          (received c.args.bytes.now c.in-Whole.size (TellsNone c.args.kind c.in-Err.refusal) c.in-Whole.ensures (asked, λ other. ap (reply_of kind) (sym (behind_of frame 5)) ∙ c.in-Err.ensures.exact other) more),
    )
