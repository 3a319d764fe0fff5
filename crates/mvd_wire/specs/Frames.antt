-- Frames on a stream: this project's own format (docs/FORMATS.md, Frames).
use Rattle.std.specs.Prelude.{◌≡◌, ◌≢◌, ◌⊎◌, ℕ, ◌+◌, ◌-◌, ◌&&◌, nat_lt, nat_le, ◌==◌, if◌then◌else◌, List, [], ◌∷◌, ◌++◌, length, take, drop, slice_index, Option, Some, None, Result, Ok, Err, MatchResult}
use Rattle.std.specs.Int.{w32, from_be_bytes}
use Rattle.std.specs.Io.KnownBytes.{Appends}
use Rattle.mvd_dots.specs.declared.refusals.Refusal.{Refusal}
use Rattle.mvd_dots.specs.declared.refusals.Refusal.TheVariants.{Memory, ReadFailed, Truncated, FrameTooLong}
use Rattle.mvd_wire.specs.declared.frame.Frame.{Frame}
use Rattle.mvd_wire.specs.Codec.{◌>>=◌, number}

-- the known bytes grew by a front of the frame
abbrev pub AppendsFront : Option (List ℕ) → Option (List ℕ) → List ℕ → Type 0
AppendsFront old new frame = (n : ℕ) × Appends old new (take n frame)

-- A function that reads gave what the bytes that the reader has left say, and left the bytes after it, unless
-- memory ran out or the reader failed. Of a reader whose bytes are not known nothing is said.
abbrev pub Reads : {X Y : Type 0} → (X → Y) → Option (List ℕ) → Option (List ℕ) → Result X Refusal
    → (List ℕ → Result (Y × List ℕ) Refusal) → Type 0
Reads view old new result read = (bytes : List ℕ) → old ≡ Some bytes →
    MatchResult result
    (λ x. (rest : List ℕ) × (new ≡ Some rest) × (read bytes ≡ Ok (view x, rest)))
    (λ e. e ≢ Memory → e ≢ ReadFailed → read bytes ≡ Err e)

-- the refusals with which the reading of frames ends
abbrev pub EndsReading : Refusal → Type 0
EndsReading r = (r ≡ Truncated) ⊎ ((r ≡ FrameTooLong) ⊎ ((r ≡ ReadFailed) ⊎ (r ≡ Memory)))

pub record FrameValue : Type 0 where
  pub kind : ℕ
  pub payload : List ℕ

abbrev pub frame_value : Frame → FrameValue
frame_value f = record { kind = f.kind; payload = f.payload.items }

-- four bytes of length, the kind, and the payload; the length counts the kind and the payload
abbrev pub spell_frame : FrameValue → List ℕ
spell_frame f = (number w32).spell (length f.payload + 1) ++ f.kind ∷ f.payload

-- the greatest length of a frame's kind and payload, in bytes
abbrev pub frame_limit : ℕ
frame_limit = 1200000

-- the length of a frame, or nothing where the bytes end before its first
unfoldable pub length_at : List ℕ → Result (Option ℕ × List ℕ) Refusal
length_at bytes =
    if length bytes == 0 then Ok (None, []) else
    (if nat_lt (length bytes) 4 then Err Truncated else
    (if nat_le 1 (from_be_bytes w32 (take 4 bytes))
    && nat_le (from_be_bytes w32 (take 4 bytes)) frame_limit then Ok (
      Some (from_be_bytes w32 (take 4 bytes)),
      drop 4 bytes,
    ) else Err FrameTooLong))

-- the kind and the payload, n bytes together
unfoldable pub body_at : ℕ → List ℕ → Result (FrameValue × List ℕ) Refusal
body_at n bytes =
    if nat_lt (length bytes) n then Err Truncated else
    Ok (record { kind = slice_index bytes 0; payload = take (n - 1) (drop 1 bytes) }, drop n bytes)

abbrev pub frame_behind : Option ℕ × List ℕ → Result (Option FrameValue × List ℕ) Refusal
frame_behind (None, rest) = Ok (None, rest)
frame_behind (Some n, rest) = body_at n rest >>= λ f. Ok (Some f.0, f.1)

-- the frame at the front of the bytes, or none where there is no byte
unfoldable pub frame_at : List ℕ → Result (Option FrameValue × List ℕ) Refusal
frame_at bytes = length_at bytes >>= frame_behind
