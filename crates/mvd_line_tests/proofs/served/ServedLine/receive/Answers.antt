use Rattle.std.proofs.Common.{ℕ, List, refl, subst}
use Rattle.std.specs.Prelude.{Some, option_map}
use Rattle.mvd_wire.specs.Frames.{Reads, frame_at, frame_value}
use Rattle.mvd_line_tests.proofs.Serving.{next_reply}
use Rattle.mvd_line_tests.proofs.served.ServedLine.receive.Goals as goal

pub returns-clause-truth : goal.returns-clause-truth
returns-clause-truth c t = (
  t,
  refl,
  next_reply c.in-Some.reply c.in-Ok.bytes.items (Some c.read_frame.new.reader.now) c.args.self.now.waiting.items c.pop_front.new.self.items c.read_frame.result c.in-Ok.ensures.exact c.in-Ok.ensures.fits c.in-Some.ensures.items
      (subst (λ (b : List ℕ). Reads (option_map frame_value) (Some b) (Some c.read_frame.new.reader.now) c.read_frame.result frame_at) c.as_slice.ensures.value c.read_frame.ensures.read),
)
