use Rattle.std.proofs.Common.{◌≡◌, ℕ, ◌+◌, ◌-◌, List, ◌++◌, Option, length, take, drop, sym, ap, ◌∙◌, subst, arith, length-take, length-drop}
use Rattle.std.proofs.lemmas.List.{take_rest}
use Rattle.std.specs.Io.KnownBytes.{Appends}
use Rattle.std.proofs.KnownBytes.{Appends-trans}
use Rattle.std.proofs.Math.Seq.{take-add}
use Rattle.mvd_frames.proofs.transport.write_frame.Goals as goal

-- what was written, and the next n bytes of the rest
one_more : (a b c : Option (List ℕ)) (at n : ℕ) (frame : List ℕ) → Appends a b (take at frame) → Appends b c (take n (take (length frame - at) (drop at frame))) → Appends a c (take (at + n) frame)
one_more a b c at n frame p q =
    let rest : take (length frame - at) (drop at frame) ≡ drop at frame = take_rest frame at in
    subst (Appends a c) (ap (λ (l : List ℕ). take at frame ++ take n l) rest ∙ sym (take-add at n frame)) (Appends-trans a b c (take at frame) (take n (take (length frame - at) (drop at frame))) p q)

pub loop-at-preserved : goal.loop-at-preserved
loop-at-preserved g c =
    let at = c.loop-at.at in
    let frame = c.args.frame.now in
    (omega (arith, length-take (length frame - at) (drop at frame), length-drop at frame, c.in-Ok.ensures.bound), one_more (g.W.Write.contents c.args.writer.now) (g.W.Write.contents c.loop-at.writer) (g.W.Write.contents c.write.new.self) at c.in-Ok.n frame c.loop-at.invariant.1 c.in-Ok.ensures.bytes)
