use Rattle.std.proofs.Common.{rules, arith, ◌≡◌, ◌∙◌, ap, ◌-◌, length}
use Rattle.std.specs.Int.{w32, to_be_bytes}
use Rattle.mvd_frames.proofs.FrameLemmas.{measured_is}
use Rattle.mvd_frames.proofs.sending.measured.Goals as goal

pub returns-clause-exact : goal.returns-clause-exact
returns-clause-exact c =
    let len : c.len-length.result ≡ length c.args.frame.items = search rules in
    measured_is c.args.frame.items c.to_be_bytes.result c.requires (omega (arith, c.if-length-gt-FRAME_LIMIT.false, len)) (c.to_be_bytes.ensures ∙ ap (λ n. to_be_bytes w32 (n - 4)) len)
