-- What stands at the front of bytes.
use Rattle.std.specs.Prelude.{◌≡◌, ℕ, ◌≤◌, ◌<◌, ◌⊎◌, List, [], length, take, drop, Some, None, Ok, Err}
use Rattle.mvd_dots.specs.declared.refusals.Refusal.TheVariants.{FrameTooLong, Truncated}
use Rattle.mvd_wire.specs.Frames.{frame_at, spell_frame}
use Rattle.mvd_conn.specs.declared.scan.Front.{Front}
use Rattle.mvd_conn.specs.declared.scan.Front.TheVariants.{Whole, Part, TooLong}
use Rattle.mvd_conn.specs.declared.scan.Found.{Found}
use Rattle.mvd_conn.specs.declared.scan.Found.TheVariants as found
use Rattle.mvd_conn.specs.History.{Gives, History, Over, Stops, Waits, frame_most, frames_most, next_of, taking}
use Rattle.mvd_conn.specs.Stands.{frame_of}

-- the first n bytes spell a frame
pub record IsWholeFrame (bytes : List ℕ) (n : ℕ) : Type 0 where
  pub some : 5 ≤ n
  pub few : n ≤ frame_most
  pub within : n ≤ length bytes
  pub spelled : take n bytes ≡ spell_frame (frame_of (take n bytes))
  pub read : frame_at bytes ≡ Ok (Some (frame_of (take n bytes)), drop n bytes)

-- the bytes are a part of a frame, or none
pub record IsPart (bytes : List ℕ) : Type 0 where
  pub few : length bytes < frame_most
  pub read : ((bytes ≡ []) × (frame_at bytes ≡ Ok (None, []))) ⊎ (frame_at bytes ≡ Err Truncated)

abbrev pub IsFront : List ℕ → Front → Type 0
IsFront bytes (Whole n) = IsWholeFrame bytes n
IsFront bytes Part = IsPart bytes
IsFront bytes TooLong = frame_at bytes ≡ Err FrameTooLong

-- what comes next, with a whole frame as its length
abbrev pub IsFound : History → Found → Type 0
IsFound h (found.Frame size) =
    IsWholeFrame h.held size × (next_of h ≡ Gives (frame_of (take size h.held)) (drop size h.held))
    × (length h.taken < frames_most)
IsFound h found.End = next_of h ≡ Over
IsFound h (found.Stops refusal) = next_of h ≡ Stops refusal
IsFound h found.Nothing = next_of h ≡ Waits

-- the frame of the first bytes is taken in hand
abbrev pub TakesFrame : History → ℕ → History → Type 0
TakesFrame old size new = new ≡ taking old (frame_of (take size old.held)) (drop size old.held)
