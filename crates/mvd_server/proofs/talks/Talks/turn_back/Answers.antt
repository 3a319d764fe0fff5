use Rattle.std.proofs.Common.{subst, sym}
use Rattle.mvd_server.specs.Talking.{GoesAtOnce, IsGoneBy, talking_of, with_host}
use Rattle.mvd_server.proofs.Leaving.{back_frames, back_web}
use Rattle.mvd_server.proofs.talks.Talks.turn_back.Goals as goal

pub returns-in-Frames-clause-deeds : goal.returns-in-Frames-clause-deeds
returns-in-Frames-clause-deeds c =
    let old = talking_of c.args.self.now in
    subst (λ k. GoesAtOnce k c.args.number old (with_host old c.dismiss.new.self)) (sym c.in-Frames.is) (back_frames c.args.number old c.dismiss.new.self c.dismiss.ensures.leaves)

pub returns-in-Http-clause-deeds : goal.returns-in-Http-clause-deeds
returns-in-Http-clause-deeds c =
    let old = talking_of c.args.self.now in
    let new = talking_of c.dismiss-in-Http.new.self in
    subst (λ k. GoesAtOnce k c.args.number old new) (sym c.in-Http.is) (back_web c.args.number old new c.dismiss-in-Http.ensures.deeds)

pub returns-in-Frames-clause-gone : goal.returns-in-Frames-clause-gone
returns-in-Frames-clause-gone c =
    let old = talking_of c.args.self.now in
    subst (λ k. IsGoneBy k c.args.number old (with_host old c.dismiss.new.self)) (sym c.in-Frames.is) c.dismiss.ensures.leaves

pub returns-in-Http-clause-gone : goal.returns-in-Http-clause-gone
returns-in-Http-clause-gone c = c.dismiss-in-Http.ensures.gone c.args.kind
