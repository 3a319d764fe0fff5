use Rattle.std.proofs.Common.{◌<◌, ◌∙◌, Bool, ℕ, Ok, ap, inl, inr, length, string_bytes, subst}
use Rattle.std.proofs.lemmas.Bool.{lt-leb}
use Rattle.mvd_server.proofs.Questions.{never_later, told_line}
use Rattle.mvd_server.proofs.asks.push_answer.Goals.{else-as_str-ge-TOLD_MAX-via-then-as_str-ge-TOLD_MAX+in_ok-push_later+else-branch, else-as_str-ge-TOLD_MAX-via-else-as_str-ge-TOLD_MAX}
use Rattle.mvd_server.proofs.asks.push_answer.Goals as goal

pub returns : goal.returns
returns c =
    told_line c.args.site.now c.args.spelling (string_bytes c.args.out.now) _ _ c.args.request.now _ _ c.in_ok-reply.ensures
    (elim c.else-as_str-ge-TOLD_MAX.branch [
      | else-as_str-ge-TOLD_MAX-via-then-as_str-ge-TOLD_MAX+in_ok-push_later+else-branch w ↦
          let (none, same) = never_later _ _ _ _ (w.in_ok-push_later.was ∙ ap (λ (b : Bool). Ok b) w.if-branch.false) w.push_later.ensures in
          (inr none, ap string_bytes w.out-is ∙ same)
      | else-as_str-ge-TOLD_MAX-via-else-as_str-ge-TOLD_MAX w ↦
          (inl (lt-leb 1048576 _ (subst (λ (n : ℕ). n < 1048576) (ap length c.as_str.ensures.value) w.if-as_str-ge-TOLD_MAX.false)), ap string_bytes w.out-is)
    ])
    c.push_told.ensures
