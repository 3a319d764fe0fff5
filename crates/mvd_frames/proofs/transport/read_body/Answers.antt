use Rattle.std.proofs.Common.{rules, arith, subst, List, ℕ, get_or, ◌∷◌, []}
use Rattle.std.specs.Io.KnownBytes.{Consumes}
use Rattle.mvd_frames.proofs.FrameLemmas.{one_byte, body_is}
use Rattle.mvd_frames.proofs.transport.read_body.Goals as goal

pub returns-clause-read : goal.returns-clause-read
returns-clause-read g c = λ bytes known.
    let before = g.R.Read.remaining c.args.reader.now in
    let between = g.R.Read.remaining c.fill.new.reader in
    let one : Consumes before between (get_or c.fill.new.buf 0 0 ∷ []) = subst (λ (t : List ℕ). Consumes before between t) (one_byte c.fill.new.buf c.in_ok-fill.field-0 (search rules) (omega (arith, c.if-branch-lt1.false))) c.in_ok-fill.ensures.bytes in
    body_is c.args.size before between (g.R.Read.remaining c.read_up_to.new.reader) (get_or c.fill.new.buf 0 0) c.in_ok-payload.payload.items bytes (omega (arith, c.in_ok-payload.payload.ok.0, c.in_ok-payload.ensures.bound, c.len.ensures, c.if-len-count.false)) known one c.in_ok-payload.ensures.bytes
