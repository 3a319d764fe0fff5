-- Many questions over a connection: all their frames go out, and then a reply comes in for each.
use Rattle.std.specs.Prelude.{◌≡◌, ◌⊎◌, ◌<◌, ℕ, List, [], ◌∷◌, ◌++◌, take, Option, Some, None, Result, Ok, Err}
use Rattle.std.specs.Prelude.{Contains, MatchResult, map}
use Rattle.std.specs.Io.KnownBytes.{Appends}
use Rattle.std.specs.declared.alloc.Global.{Global}
use Rattle.std.specs.declared.vec.Vec.{Vec}
use Rattle.mvd_dots.specs.Refusal.{number_of}
use Rattle.mvd_dots.specs.declared.refusals.Refusal.{Refusal}
use Rattle.mvd_dots.specs.declared.refusals.Refusal.TheVariants.{BadKind, Broken, Memory, WriteFailed}
use Rattle.mvd_wire.specs.declared.request.Request.{Request}
use Rattle.mvd_wire.specs.declared.reply.Reply.{Reply}
use Rattle.mvd_wire.specs.declared.reply.Reply.TheVariants.{Refused, State as Told}
use Rattle.mvd_keys.specs.State.{State}
use Rattle.mvd_wire.specs.Frames.{AppendsFront, FrameValue}
use Rattle.mvd_wire.specs.Replies.{reply_kind}
use Rattle.mvd_wire.specs.Requests.{request_frame}
use Rattle.mvd_remote.specs.Links.{IsUp, Link, ReadCause, ReceivesFrame, TellsReply, TellsNone}
use Rattle.mvd_peer.specs.Windows.{ForEach}

-- ---- what goes out

-- the frames of requests, one after the other, and for each request why it has none, if it has none
abbrev pub Frames : Type 0
Frames = List ℕ × List (Option Refusal)

-- with one frame more
abbrev pub and_frame : Frames → Result (List ℕ) Refusal → Frames
and_frame (frames, nones) (Ok frame) = (frames ++ frame, nones ++ None ∷ [])
and_frame (frames, nones) (Err refusal) = (frames, nones ++ Some refusal ∷ [])

abbrev pub frames_after : Frames → List Request → Frames
frames_after before [] = before
frames_after before (r ∷ rs) = frames_after (and_frame before (request_frame r)) rs

abbrev pub frames_of : List Request → Frames
frames_of requests = frames_after ([], []) requests

-- ---- what comes in

-- a frame tells this: a reply of the kind that was asked for, or a refusal; or it spells none, and the link goes on
abbrev pub ToldBy : ℕ → Result Reply Refusal → FrameValue → Type 0
ToldBy kind (Ok reply) frame = TellsReply kind reply frame
ToldBy kind (Err refusal) frame = TellsNone kind refusal frame × (number_of refusal < 30)

-- in its turn a request is answered by the next frame that comes in; one that has no frame is refused so, and nothing
-- is read
abbrev pub AnswersTurn : ℕ → Option Refusal → Result Reply Refusal → Option (List ℕ) → Option (List ℕ) → Type 0
AnswersTurn kind None told old new = ReceivesFrame old new (ToldBy kind told)
AnswersTurn kind (Some refusal) told old new = (told ≡ Err refusal) × (new ≡ old)

-- each in its turn
abbrev pub TakeTurns : ℕ → List (Option Refusal) → List (Result Reply Refusal) → Option (List ℕ) → Option (List ℕ)
    → Type 0
TakeTurns kind [] [] old new = new ≡ old
TakeTurns kind (none ∷ nones) (told ∷ replies) old new =
    (mid : Option (List ℕ)) × AnswersTurn kind none told old mid × TakeTurns kind nones replies mid new
TakeTurns kind nones replies old new = ⊥

-- after the first came in the next broke the link
abbrev pub TurnBreaks : ℕ → List (Option Refusal) → Option (List ℕ) → Option (List ℕ) → Refusal → Type 0
TurnBreaks kind nones old new refusal =
    (n : ℕ) × (replies : List (Result Reply Refusal)) × (mid : Option (List ℕ))
    × TakeTurns kind (take n nones) replies old mid × ReadCause mid new kind refusal

-- what a reply tells of a state
abbrev pub state_in : Result Reply Refusal → Result State Refusal
state_in (Ok (Told state)) = Ok state
state_in reply = Err BadKind

abbrev pub states_in : List (Result Reply Refusal) → List (Result State Refusal)
states_in replies = map state_in replies

-- a reply is kept, or the state that it tells is dropped, and there was no memory for it
abbrev pub IsKeptOf : Result Reply Refusal → Result Reply Refusal → Type 0
IsKeptOf reply kept = (kept ≡ reply) ⊎ ((kept ≡ Err Memory) × (told : Reply) × (reply ≡ Ok told))

-- ---- a window

-- all frames went out, and then each request was answered in its turn
pub record AnswersInTurn (kind : ℕ) (frames : Frames) (replies : List (Result Reply Refusal))
    (old new : Link) : Type 0 where
  pub wrote : Appends old.output new.output frames.0
  pub read : TakeTurns kind frames.1 replies old.input new.input
  pub goes_on : IsUp new

-- an answer is what a reply tells
abbrev pub IsToldBy : {A : Type 0} → (A → Reply) → Result Reply Refusal → Result A Refusal → Type 0
IsToldBy as_reply reply (Ok answer) = reply ≡ Ok (as_reply answer)
IsToldBy as_reply reply (Err refusal) = (reply ≡ Ok (Refused refusal)) ⊎ (reply ≡ Err refusal)

-- A WINDOW WAS ANSWERED so
pub record AsksAll {A : Type 0} (as_reply : A → Reply) (kind : ℕ) (frames : Frames) (told : List (Result A Refusal))
    (old new : Link) : Type 0 where
  pub replies : List (Result Reply Refusal)
  pub answered : AnswersInTurn kind frames replies old new
  pub tells : ForEach (IsToldBy as_reply) replies told

-- A WINDOW WAS REFUSED so
pub data RefusesAll (kind : ℕ) (frames : Frames) (old new : Link) (refusal : Refusal) : Type 0 where
  -- nothing was sent
  of_none : new ≡ old → (old.refused ≡ Some refusal) ⊎ (refusal ≡ Memory) → RefusesAll kind frames old new refusal
  -- the writer failed after a front of the frames, and nothing was read
  of_write : refusal ≡ WriteFailed → AppendsFront old.output new.output frames.0 → new.input ≡ old.input
      → new.refused ≡ Some refusal → RefusesAll kind frames old new refusal
  -- a reply broke the link
  of_read : Appends old.output new.output frames.0 → TurnBreaks kind frames.1 old.input new.input refusal
      → new.refused ≡ Some refusal → RefusesAll kind frames old new refusal
  -- all were answered, and one by that the side is broken, or memory was refused
  of_answer : (replies : List (Result Reply Refusal)) → AnswersInTurn kind frames replies old new → (refusal ≡ Memory)
      ⊎ ((refusal ≡ Broken) × (Contains replies (Ok (Refused Broken)) ⊎ Contains replies (Err Broken)))
      → RefusesAll kind frames old new refusal

-- a reply of a kind that was asked for, or a refusal
abbrev pub IsOfKind : ℕ → Result Reply Refusal → Type 0
IsOfKind kind (Ok reply) = (reply_kind reply ≡ kind) ⊎ (reply_kind reply ≡ 0xEE)
IsOfKind kind (Err refusal) = Unit {0}

-- ---- a window that left before

-- each of its requests was answered in its turn, and nothing was sent
pub record TakesEach (kind : ℕ) (nones : List (Option Refusal)) (replies : List (Result Reply Refusal))
    (old new : Link) : Type 0 where
  pub read : TakeTurns kind nones replies old.input new.input
  pub unsent : new.output ≡ old.output
  pub goes_on : IsUp new

-- A WINDOW THAT LEFT WAS ANSWERED so
pub record CollectsAll {A : Type 0} (as_reply : A → Reply) (kind : ℕ) (nones : List (Option Refusal))
    (told : List (Result A Refusal)) (old new : Link) : Type 0 where
  pub replies : List (Result Reply Refusal)
  pub takes : TakesEach kind nones replies old new
  pub tells : ForEach (IsToldBy as_reply) replies told

-- A WINDOW THAT LEFT WAS REFUSED so
pub data CollectsNone (kind : ℕ) (nones : List (Option Refusal)) (old new : Link) (refusal : Refusal) : Type 0 where
  -- a reply broke the link
  of_read : TurnBreaks kind nones old.input new.input refusal → new.refused ≡ Some refusal
      → CollectsNone kind nones old new refusal
  -- all were answered, and one by that the side is broken, or memory was refused
  of_reply : (replies : List (Result Reply Refusal)) → TakesEach kind nones replies old new → (refusal ≡ Memory)
      ⊎ ((refusal ≡ Broken) × (Contains replies (Ok (Refused Broken)) ⊎ Contains replies (Err Broken)))
      → CollectsNone kind nones old new refusal

abbrev pub Collects : {A : Type 0} → (A → Reply) → ℕ → List (Option Refusal) → Link → Link
    → Result (Vec (Result A Refusal) Global) Refusal → Type 0
Collects as_reply kind nones old new result =
    MatchResult result (λ told. CollectsAll as_reply kind nones told.items old new) (CollectsNone kind nones old new)
