-- What went through a connection, and what each call makes of it.
use Rattle.std.specs.Prelude.{◌≡◌, ℕ, ◌+◌, ◌-◌, min, max, Bool, true, false, ◌==◌, ◌&&◌, ◌||◌, nat_le, if◌then◌else◌, List, [], ◌∷◌, ◌++◌, length, take, drop, Option, Some, None, is_some, Result, Ok, Err}
use Rattle.mvd_dots.specs.declared.refusals.Refusal.{Refusal}
use Rattle.mvd_dots.specs.declared.refusals.Refusal.TheVariants.{FrameTooLong, Memory, NotAdmitted, Truncated, TooManyRequests, WriteFailed}
use Rattle.mvd_dots.specs.Refusal.{number_of}
use Rattle.mvd_wire.specs.declared.request.Request.TheVariants.{Bye}
use Rattle.mvd_wire.specs.declared.reply.Reply.TheVariants.{Refused}
use Rattle.mvd_wire.specs.Frames.{FrameValue, frame_at}
use Rattle.mvd_wire.specs.Requests as asked
use Rattle.mvd_wire.specs.Replies.{reply_bytes}
use Rattle.mvd_conn.specs.Guard.{guard_met, is_barred, may_come}
use Rattle.mvd_conn.specs.declared.guard.Guard.{Guard}
use Rattle.mvd_conn.specs.declared.passes.Pass.{Pass}
use Rattle.mvd_conn.specs.declared.source.Source.{Source}
use Rattle.mvd_conn.specs.declared.source.Source.TheVariants as source
use Rattle.mvd_wire.specs.declared.ending.Ending.{Ending}
use Rattle.mvd_wire.specs.declared.ending.Ending.TheVariants as ending

pub record History : Type 0 where
  -- what was shown, where a token is asked for before anything else is taken
  pub guard : Option Guard
  -- all bytes that came in, those that are not taken yet, and whether more may come
  pub came : List ℕ
  pub held : List ℕ
  pub source : Source
  -- all frames that were taken, and the last of them while it can be looked at
  pub taken : List FrameValue
  pub hand : Option FrameValue
  -- the most bytes of the replies that are due: of those to all frames but the last that was taken, and of that to the
  -- last
  pub behind : ℕ
  pub brings : ℕ
  -- the frames of all replies, and why no further frame is taken
  pub answers : List (List ℕ)
  pub last : Option Ending
  -- all bytes that left, those that wait, and whether the writer failed
  pub left : List ℕ
  pub waits : List ℕ
  pub failed : Bool

-- ---- limits

-- the most frames of a connection that are taken
abbrev pub frames_most : ℕ
frames_most = 1000000

-- the bytes that wait or are owed from which on nothing more is taken, and that wait from which on nothing is wanted
abbrev pub waits_most : ℕ
waits_most = 262144

-- the most bytes that may come at once
abbrev pub piece_most : ℕ
piece_most = 65536

-- the most bytes of a frame with its length
abbrev pub frame_most : ℕ
frame_most = 1200004

-- and of a short reply
abbrev pub short_most : ℕ
short_most = 17

-- a row, and a node with sixteen children
abbrev pub row_most : ℕ
row_most = 46

abbrev pub node_most : ℕ
node_most = 550

-- ---- what comes next

-- the number of frames that were taken and are not answered
abbrev pub due : History → ℕ
due h = length h.taken - length h.answers

-- The most bytes that the reply to a frame of this kind has: that to a Put, a Delete, a Push, a Hello and a Bye is short,
-- and a row and a node have few. Any other may be as long as a frame
abbrev pub most_of : ℕ → ℕ
most_of kind =
    if (kind == 0x22) || (kind == 0x23) || (kind == 0x29) || (kind == 0x2D) || (kind == 0x2F) then short_most
    else (if kind == 0x25 then row_most else (if kind == 0x27 then node_most else frame_most))

-- the replies that are due have at most as many bytes, as things stand
abbrev pub owes : History → ℕ
owes h = if due h == 0 then 0 else h.behind + h.brings

-- the frame of a Bye
abbrev pub is_bye : FrameValue → Bool
is_bye f = (f.kind == asked.request_kind Bye) && (length f.payload == 0)

-- a frame, with what follows it; the end after a frame; a refusal; or more bytes are wanted
pub data NextTaken : Type 0 where
  Gives : FrameValue → List ℕ → NextTaken
  Over : NextTaken
  Stops : Refusal → NextTaken
  Waits : NextTaken

-- where no whole frame is held
abbrev pub next_of_source : Source → List ℕ → NextTaken
next_of_source source.Open held = Waits
next_of_source source.AtEnd [] = Over
next_of_source source.AtEnd (b ∷ held) = Stops Truncated
next_of_source (source.Failed refusal) held = Stops refusal

-- a length that no frame has is told at once
abbrev pub next_held : Source → List ℕ → Result (Option FrameValue × List ℕ) Refusal → NextTaken
next_held from held (Ok (Some f, rest)) = Gives f rest
next_held from held (Ok (None, rest)) = next_of_source from held
next_held from held (Err refusal) = if number_of refusal == number_of FrameTooLong then Stops FrameTooLong
    else next_of_source from held

-- a frame is given only where it may be taken behind these
abbrev pub let_in : Option Guard → List FrameValue → NextTaken → NextTaken
let_in guard taken (Gives f rest) = if may_come guard taken f then Gives f rest else Stops NotAdmitted
let_in guard taken Over = Over
let_in guard taken (Stops refusal) = Stops refusal
let_in guard taken Waits = Waits

-- the first cause decides: as many frames as there may be, a length that no Hello has where one is wanted, a whole
-- frame, which may come in or not, a length that no frame has, the source's end
abbrev pub next_of : History → NextTaken
next_of h =
    if length h.taken == frames_most then Stops TooManyRequests
    else (if is_barred h.guard h.taken h.held then Stops NotAdmitted
    else let_in h.guard h.taken (next_held h.source h.held (frame_at h.held)))

-- nothing more is taken, or not before replies are queued or leave
abbrev pub is_held_up : History → Bool
is_held_up h = is_some h.last || h.failed || nat_le waits_most (length h.waits + owes h)

-- more bytes are wanted: no whole frame is held, and there is room for replies
pub record WantsInput (h : History) : Type 0 where
  pub going : h.last ≡ None
  pub whole : h.failed ≡ false
  pub room : nat_le waits_most (length h.waits) ≡ false
  pub next : next_of h ≡ Waits

-- ---- what calls do

abbrev pub new_history : Option Guard → History
new_history guard =
    record {
      guard = guard;
      came = [];
      held = [];
      source = source.Open;
      taken = [];
      hand = None;
      behind = 0;
      brings = 0;
      answers = [];
      last = None;
      left = [];
      waits = [];
      failed = false;
    }

-- the frame in hand can no longer be looked at
abbrev pub released : History → History
released h = record h { hand = None }

-- bytes came
abbrev pub fed : History → List ℕ → History
fed h bytes = record h { came = h.came ++ bytes; held = h.held ++ bytes; hand = None }

-- no further bytes come, unless that was told before
abbrev pub first_source : Source → Source → Source
first_source source.Open new = new
first_source source.AtEnd new = source.AtEnd
first_source (source.Failed refusal) new = source.Failed refusal

abbrev pub closed : History → Source → History
closed h new = record h { source = first_source h.source new }

-- the frame that comes next, if any; where the connection has ended, none does
abbrev pub coming : History → Result (Option FrameValue × List ℕ) Refusal
coming h = if is_some h.last then Ok (None, h.held) else frame_at h.held

-- these passes are known: before the first frame its token decides, and then whether it is known still
abbrev pub met : List Pass → History → History
met passes h = record h { guard = guard_met passes h.taken (coming h) h.guard }

-- a frame is handed out, and its reply counts as much as one of its kind may have; a Bye is the last
abbrev pub taking : History → FrameValue → List ℕ → History
taking h f rest =
    record h {
      held = rest;
      taken = h.taken ++ f ∷ [];
      hand = Some f;
      behind = owes h;
      brings = most_of f.kind;
      last = if is_bye f then Some ending.Bye
          else h.last;
    }

-- the reply to the last frame that was taken has at most as many bytes, as things stand; it counts as a short one at least
abbrev pub expected : History → ℕ → History
expected h most = record h { brings = max short_most (min most h.brings) }

-- the frame that tells of an end
abbrev pub last_bytes : Option Ending → List ℕ
last_bytes None = []
last_bytes (Some ending.Bye) = []
last_bytes (Some ending.End) = []
last_bytes (Some (ending.Stopped refusal)) = reply_bytes (Refused refusal)

abbrev pub over : History → History
over h = record h { last = Some ending.End }

abbrev pub stopped : History → Refusal → History
stopped h refusal =
    record h { last = Some (ending.Stopped refusal); waits = h.waits ++ last_bytes (Some (ending.Stopped refusal)) }

-- an end is told once all replies are queued
abbrev pub stepped : History → NextTaken → Bool × History
stepped h (Gives f rest) = (true, taking h f rest)
stepped h Over = (false, if due h == 0 then over h else h)
stepped h (Stops refusal) = (false, if due h == 0 then stopped h refusal else h)
stepped h Waits = (false, h)

-- whether a frame is handed out, and what the connection is then
abbrev pub after_next : History → Bool × History
after_next h = if is_held_up h then (false, released h) else stepped (released h) (next_of h)

-- want of memory where a frame would be handed out, and none is
abbrev pub NextRefused : History → Refusal → History → Type 0
NextRefused old refusal new = (refusal ≡ Memory) × ((after_next old).0 ≡ true) × (new ≡ released old)

-- a reply is queued
abbrev pub replied : History → List ℕ → History
replied h frame = record h { answers = h.answers ++ frame ∷ []; waits = h.waits ++ frame }

-- so many of the waiting bytes left
abbrev pub sent : History → ℕ → History
sent h count = record h { left = h.left ++ take count h.waits; waits = drop count h.waits }

abbrev pub cut : History → History
cut h = record h { failed = true }

-- how a connection ended, which a failure of its writer decides
abbrev pub ending_of : History → Option Ending
ending_of h = if h.failed then Some (ending.Stopped WriteFailed) else h.last

-- nothing more comes, and nothing more leaves
abbrev pub is_done : History → Bool
is_done h = h.failed || (is_some h.last && (due h == 0) && (length h.waits == 0))
