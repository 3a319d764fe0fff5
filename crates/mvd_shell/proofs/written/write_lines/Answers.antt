use Rattle.std.proofs.Common.{List, ℕ, subst}
use Rattle.std.specs.Io.KnownBytes.{Appends}
use Rattle.mvd_shell.proofs.Fronts.{front_all}
use Rattle.mvd_shell.proofs.written.write_lines.Goals as goal

pub returns-in-Err-flush-clause-front : goal.returns-in-Err-flush-clause-front
returns-in-Err-flush-clause-front g c =
    front_all (g.W.Write.contents c.args.writer.now) (g.W.Write.contents c.write_frame.new.writer) (g.W.Write.contents c.flush.new.self) c.args.lines.now
    (subst (λ (bs : List ℕ). Appends (g.W.Write.contents c.args.writer.now) (g.W.Write.contents c.write_frame.new.writer) bs) c.as_bytes.ensures.value c.in-Ok.ensures.ok) c.in-Err-flush.ensures.bytes
