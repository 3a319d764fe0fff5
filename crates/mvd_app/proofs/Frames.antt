-- Frames that are read one after the other, each printed as a line.
use Rattle.std.proofs.Common.{◌≡◌, ◌∙◌, ◌-◌, ◌+◌, ◌≤◌, ◌<◌, ℕ, List, [], ◌∷◌, ◌++◌, length, take, ap, append_assoc, arith, refl, sym}
use Rattle.std.proofs.lemmas.List.{append-nil, flat_map_more, length-append, take_at}
use Rattle.std.specs.Int.{w32}
use Rattle.std.specs.List.{flat_map}
use Rattle.mvd_app.specs.Looped.{PrintsFrames, frame_line}
use Rattle.mvd_wire.specs.Codec.{number}
use Rattle.mvd_wire.specs.Frames.{FrameValue, spell_frame}

-- these frames were read and printed, and this is left
pub record SoFar (all left old new : List ℕ) : Type 0 where
  pub frames : List FrameValue
  pub taken : all ≡ flat_map spell_frame frames ++ left
  pub printed : new ≡ old ++ flat_map frame_line frames

pub so_far_none : (all old : List ℕ) → SoFar all all old old
so_far_none all old = record { frames = []; taken = refl; printed = sym (append-nil old) }

pub so_far_more : (all before left old new newer : List ℕ) (frame : FrameValue) → SoFar all before old new → before ≡ spell_frame frame ++ left → newer ≡ new ++ frame_line frame →
    SoFar all left old newer
so_far_more all before left old new newer frame it is prints = record {
  frames = it.frames ++ frame ∷ [];
  taken = it.taken ∙ ap (λ (b : List ℕ). flat_map spell_frame it.frames ++ b) is ∙ sym (append_assoc (flat_map spell_frame it.frames) (spell_frame frame) left)
      ∙ ap (λ (b : List ℕ). b ++ left) (flat_map_more spell_frame [] it.frames frame);
  printed = prints ∙ ap (λ (b : List ℕ). b ++ frame_line frame) it.printed ∙ flat_map_more frame_line old it.frames frame;
}

pub so_far_all : (all left old new : List ℕ) → SoFar all left old new → left ≡ [] → PrintsFrames all old new
so_far_all all left old new it none =
    (it.frames, it.taken ∙ ap (λ (b : List ℕ). flat_map spell_frame it.frames ++ b) none ∙ append-nil (flat_map spell_frame it.frames), it.printed)

-- what was taken of the bytes
less : (first left : List ℕ) → length first ≡ length (first ++ left) - length left
less first left = omega (arith, length-append first left)

pub front_taken : (before first left : List ℕ) (n : ℕ) → before ≡ first ++ left → n ≡ length before - length left → take n before ≡ first
front_taken before first left n is count = ap (take n) is ∙ take_at first left n (less first left ∙ sym (ap (λ (b : List ℕ). length b - length left) is) ∙ sym count)

spelled_some : (frame : FrameValue) → 1 ≤ length (spell_frame frame)
spelled_some frame = omega (arith, length-append ((number w32).spell (length frame.payload + 1)) (frame.kind ∷ frame.payload))

pub fewer_left : (before left : List ℕ) (frame : FrameValue) → before ≡ spell_frame frame ++ left → length left < length before
fewer_left before left frame is = omega (arith, ap length is, length-append (spell_frame frame) left, spelled_some frame)
