use Rattle.std.proofs.Common.{◌∙◌, ℕ, List, ◌∷◌, ap, subst, sym}
use Rattle.std.specs.Prelude.{Some, option_map}
use Rattle.mvd_wire.specs.Frames.{Reads, frame_at, frame_value}
use Rattle.mvd_line_tests.proofs.Among.{grown_over, next_answer}
use Rattle.mvd_line_tests.proofs.among_others.ServedAmongOthersLine.receive.Goals as goal

pub returns-in_default-clause-live : goal.returns-in_default-clause-live
returns-in_default-clause-live c t = (c.others_write.ensures.grown.is, c.others_write.ensures.grown.grows, tt)

pub returns-in-Err-clause-live : goal.returns-in-Err-clause-live
returns-in-Err-clause-live c t =
    let all = grown_over c.args.self.now.site c.others_write.new.self.site c.answer-reply.new.self.site c.others_write.ensures.grown c.answer-reply.ensures.grown in
    (all.is, all.grows, tt)

pub returns-clause-live : goal.returns-clause-live
returns-clause-live c t =
    let all = grown_over c.args.self.now.site c.others_write.new.self.site c.answer-reply.new.self.site c.others_write.ensures.grown c.answer-reply.ensures.grown in (
      all.is,
      all.grows,
      next_answer c.args.self.now.site c.others_write.new.self.site c.answer-reply.new.self.site c.in-Some.request c.answer-reply.result c.in-Ok.bytes.items (Some c.read_frame.new.reader.now) c.args.self.now.waiting.items c.answer-reply.new.self.waiting.items c.read_frame.result
          c.others_write.ensures.grown c.answer-reply.ensures.grown c.answer-reply.ensures.truth (sym c.others_write.ensures.waiting ∙ c.in-Some.ensures.items ∙ ap (λ l. c.in-Some.request ∷ l) (sym c.answer-reply.ensures.waiting)) c.in-Ok.ensures.exact c.in-Ok.ensures.fits
          (subst (λ (b : List ℕ). Reads (option_map frame_value) (Some b) (Some c.read_frame.new.reader.now) c.read_frame.result frame_at) c.as_slice.ensures.value c.read_frame.ensures.read),
    )
