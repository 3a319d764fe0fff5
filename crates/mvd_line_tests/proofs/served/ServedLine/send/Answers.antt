use Rattle.std.proofs.Common.{◌≡◌, ◌∙◌, refl, subst, sym}
use Rattle.mvd_line_tests.specs.Serving.{far_at}
use Rattle.mvd_line_tests.proofs.Serving.{Went, went_all, went_cut, went_none, went_on, went_some}
use Rattle.mvd_line_tests.proofs.served.ServedLine.send.Goals as goal

pub loop-turn-init : goal.loop-turn-init
loop-turn-init c = record { config = refl; held = λ h. h; went = λ rs f. went_none _ rs _ f }

pub returns-in-Ok-None-clause-truth : goal.returns-in-Ok-None-clause-truth
returns-in-Ok-None-clause-truth c t rs f =
    let came = c.in-Ok-None.ensures.read c.loop-turn.rest.now refl in
    (c.loop-turn.invariant.held t, went_all _ _ rs _ _ came.0 c.in-Ok-None.field-0-is came.2 (c.loop-turn.invariant.went rs f))

pub returns-in-Err-clause-truth : goal.returns-in-Err-clause-truth
returns-in-Err-clause-truth c t rs f = (c.loop-turn.invariant.held t, went_some _ _ rs _ (c.loop-turn.invariant.went rs f))

pub returns-clause-truth : goal.returns-clause-truth
returns-clause-truth c t rs f = (c.loop-turn.invariant.held t, went_some _ _ rs _ (c.loop-turn.invariant.went rs f))

pub returns-in-Err-take-clause-truth : goal.returns-in-Err-take-clause-truth
returns-in-Err-take-clause-truth c t rs f =
    let came = c.in-Ok-Some.ensures.read c.loop-turn.rest.now refl in (
      c.take.ensures.held (c.loop-turn.invariant.held t),
      went_cut (far_at c.args.self.now.site c.args.self.now.waiting.items) (far_at c.loop-turn.self.site c.loop-turn.self.waiting.items) (far_at c.take.new.self.site c.take.new.self.waiting.items) rs c.loop-turn.rest.now c.in-Ok-Some.field-0 c.in-Ok-Some.frame came.0
          c.in-Ok-Some.field-0-is came.2 (c.loop-turn.invariant.went rs f) c.in-Err-take.field-0 c.in-Err-take.ensures.truth,
    )

pub loop-turn-preserved : goal.loop-turn-preserved
loop-turn-preserved c =
    let came = c.in-Ok-Some.ensures.read c.loop-turn.rest.now refl in
    let rest : c.read_frame.new.reader.now ≡ came.0 = let e = came.1 in cc in
    record {
      config = c.take.ensures.config ∙ c.loop-turn.invariant.config;
      held = λ t. c.take.ensures.held (c.loop-turn.invariant.held t);
      went = λ rs f.
          subst (Went (far_at c.args.self.now.site c.args.self.now.waiting.items) (far_at c.take.new.self.site c.take.new.self.waiting.items) rs) (sym rest)
          (went_on (far_at c.args.self.now.site c.args.self.now.waiting.items) (far_at c.loop-turn.self.site c.loop-turn.self.waiting.items) (far_at c.take.new.self.site c.take.new.self.waiting.items) rs c.loop-turn.rest.now c.in-Ok-Some.field-0 c.in-Ok-Some.frame came.0
          c.in-Ok-Some.field-0-is came.2 (c.loop-turn.invariant.went rs f) c.take.ensures.config c.in-Ok.ensures.truth);
    }
