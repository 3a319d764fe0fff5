use Rattle.std.proofs.Common.{◌≡◌, ◌∙◌, ◌++◌, ℕ, List, Ok, Option, ap, refl, subst}
use Rattle.std.specs.Prelude.{IfSome, codes, option_map, string_bytes}
use Rattle.hex.specs.Hex.{encode_lower}
use Rattle.mvd_app.proofs.Frames.{front_taken, so_far_all, so_far_more}
use Rattle.mvd_frames.proofs.FramesRead.{no_frame_taken}
use Rattle.mvd_wire.specs.Frames.{frame_at, frame_value, spell_frame}
use Rattle.mvd_wire.specs.declared.frame.Frame.{Frame}
use Rattle.mvd_app.proofs.looping.print_frames.Goals as goal

pub returns-in-None : goal.returns-in-None
returns-in-None c =
    let came = c.in_ok-read_frame.ensures.read c.loop-out.rest.now refl in
    let none = subst (λ (o : Option Frame). frame_at c.loop-out.rest.now ≡ Ok (option_map frame_value o, came.0)) c.in-None.is came.2 in
    so_far_all c.args.frames.now c.loop-out.rest.now (string_bytes c.args.out.now) (string_bytes c.loop-out.out) c.loop-out.invariant (no_frame_taken c.loop-out.rest.now came.0 none).0

pub loop-out-preserved-in_ok-print_digits-in-Some : goal.loop-out-preserved-in_ok-print_digits-in-Some
loop-out-preserved-in_ok-print_digits-in-Some c =
    let frame = frame_value c.in-Some.field-0 in
    let is : c.loop-out.rest.now ≡ spell_frame frame ++ c.read_frame.new.reader.now = subst (λ (o : Option Frame). IfSome o (λ f. c.loop-out.rest.now ≡ spell_frame (frame_value f) ++ c.read_frame.new.reader.now)) c.in-Some.is c.in_ok-read_frame.ensures.spelled in
    so_far_more c.args.frames.now c.loop-out.rest.now c.read_frame.new.reader.now (string_bytes c.args.out.now) (string_bytes c.loop-out.out) (string_bytes c.print_digits.new.out) frame c.loop-out.invariant is
    (c.in_ok-print_digits-in-Some.ensures ∙ ap (λ (b : List ℕ). string_bytes c.loop-out.out ++ (encode_lower b ++ codes "\n")) (front_taken c.loop-out.rest.now (spell_frame frame) c.read_frame.new.reader.now _ is refl))
