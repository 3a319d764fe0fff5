-- Questions over a connection: a frame goes out, and a frame comes in.
use Rattle.std.specs.Prelude.{◌≡◌, ◌≢◌, ◌⊎◌, ◌<◌, ◌≤◌, ℕ, List, Option, Some, None, Result, Ok, Err, MatchResult}
use Rattle.std.specs.Io.KnownBytes.{Appends}
use Rattle.mvd_dots.specs.Refusal.{number_of}
use Rattle.mvd_dots.specs.declared.refusals.Refusal.{Refusal}
use Rattle.mvd_dots.specs.declared.refusals.Refusal.TheVariants.{BadKind, FrameTooLong, Memory, ReadFailed, Truncated}
use Rattle.mvd_dots.specs.declared.refusals.Refusal.TheVariants.{WriteFailed}
use Rattle.mvd_wire.specs.declared.request.Request.{Request}
use Rattle.mvd_wire.specs.declared.request.Request.TheVariants.{Get, Put, Delete, Find, Row, Rows, Node, Bucket, Push}
use Rattle.mvd_wire.specs.declared.request.Request.TheVariants.{Range, Keys, Conflicts, Hello, Bye}
use Rattle.mvd_wire.specs.declared.reply.Reply.{Reply}
use Rattle.mvd_wire.specs.declared.reply.Reply.TheVariants.{Refused}
use Rattle.mvd_wire.specs.Frames.{AppendsFront, FrameValue, frame_at}
use Rattle.mvd_wire.specs.Requests.{request_frame}
use Rattle.mvd_wire.specs.Replies.{reply_of}
use Rattle.mvd_remote.specs.declared.remote.Remote.{Remote}

-- what a line has still to give, what it took, and the refusal of the link itself, if there was one
pub record Link : Type 0 where
  pub input : Option (List ℕ)
  pub output : Option (List ℕ)
  pub refused : Option Refusal

-- the link of a remote side, by what is known of the bytes that its line has still to give and that it took
abbrev pub link : {L : Type 0} → (L → Option (List ℕ)) → (L → Option (List ℕ)) → Remote L → Link
link remaining contents remote =
    record { input = remaining remote.line; output = contents remote.line; refused = remote.refused }

-- the link is up: it has not refused
abbrev pub IsUp : Link → Type 0
IsUp link = link.refused ≡ None

-- the kind byte of the replies that accept a request
abbrev pub answered_by : Request → ℕ
answered_by (Get k) = 0xA1
answered_by (Put k c d) = 0xA2
answered_by (Delete k c) = 0xA3
answered_by (Find f t after) = 0xA4
answered_by (Row v t) = 0xA5
answered_by (Rows v after) = 0xA6
answered_by (Node p) = 0xA7
answered_by (Bucket p after) = 0xA8
answered_by (Push k s) = 0xA3
answered_by (Range f from to after) = 0xA4
answered_by (Keys p after) = 0xA9
answered_by (Conflicts after) = 0xA9
answered_by (Hello t) = 0xA3
answered_by Bye = 0xA3

-- just one frame came in, of which this holds
abbrev pub ReceivesFrame : Option (List ℕ) → Option (List ℕ) → (FrameValue → Type 0) → Type 0
ReceivesFrame old new Came =
    (bytes : List ℕ) → old ≡ Some bytes → (frame : FrameValue) × (rest : List ℕ)
    × (frame_at bytes ≡ Ok (Some frame, rest)) × (new ≡ Some rest) × Came frame

-- just this frame went out, and just one frame came in, of which this holds
pub record Exchanged (old new : Link) (sent : List ℕ) (Came : FrameValue → Type 0) : Type 0 where
  pub wrote : Appends old.output new.output sent
  pub read : ReceivesFrame old.input new.input Came

-- the frame spells the reply, which is of the kind that was asked for, or a refusal
abbrev pub TellsReply : ℕ → Reply → FrameValue → Type 0
TellsReply kind reply frame =
    ((frame.kind ≡ kind) ⊎ (frame.kind ≡ 0xEE)) × (reply_of frame.kind frame.payload ≡ Ok reply)

-- the frame is of the kind that was asked for, or a refusal, and spells no reply, for this reason, unless memory was
-- refused
abbrev pub TellsNone : ℕ → Refusal → FrameValue → Type 0
TellsNone kind refusal frame =
    ((frame.kind ≡ kind) ⊎ (frame.kind ≡ 0xEE)) × (refusal ≢ Memory → reply_of frame.kind frame.payload ≡ Err refusal)

-- the frame is of another kind than was asked for, and no refusal
abbrev pub IsOther : ℕ → FrameValue → Type 0
IsOther kind frame = (frame.kind ≢ kind) × (frame.kind ≢ 0xEE)

-- the bytes end before a frame does
abbrev pub EndsWithinFrame : List ℕ → Type 0
EndsWithinFrame bytes = (frame_at bytes ≡ Err Truncated) ⊎ ((rest : List ℕ) × (frame_at bytes ≡ Ok (None, rest)))

-- of the bytes that a reader had left this holds
abbrev pub HadLeft : Option (List ℕ) → (List ℕ → Type 0) → Type 0
HadLeft old Left = (bytes : List ℕ) → old ≡ Some bytes → Left bytes

-- why the reading of a reply breaks a link with this refusal
pub data ReadCause (old new : Option (List ℕ)) (kind : ℕ) (refusal : Refusal) : Type 0 where
  -- the reader failed, or memory was refused for what it gave
  of_reader : (refusal ≡ ReadFailed) ⊎ (refusal ≡ Memory) → ReadCause old new kind refusal
  of_end : refusal ≡ Truncated → HadLeft old EndsWithinFrame → ReadCause old new kind refusal
  of_length : refusal ≡ FrameTooLong → HadLeft old (λ bytes. frame_at bytes ≡ Err FrameTooLong)
      → ReadCause old new kind refusal
  of_kind : refusal ≡ BadKind → ReceivesFrame old new (IsOther kind) → ReadCause old new kind refusal
  -- the frame that came spells no reply
  of_body : 30 ≤ number_of refusal → ReceivesFrame old new (TellsNone kind refusal) → ReadCause old new kind refusal

-- how the reading of a reply of this kind ends, and whether the link refuses from now on
abbrev pub ReadsReply : Option (List ℕ) → Option (List ℕ) → ℕ → Option Refusal → Result Reply Refusal → Type 0
ReadsReply old new kind refused (Ok reply) = ReceivesFrame old new (TellsReply kind reply) × (refused ≡ None)
ReadsReply old new kind refused (Err refusal) =
    (ReadCause old new kind refusal × (refused ≡ Some refusal))
    ⊎ (ReceivesFrame old new (TellsNone kind refusal) × (refused ≡ None) × (number_of refusal < 30))

-- why a link breaks with this refusal
pub data BreakCause (old new : Link) (sent : List ℕ) (kind : ℕ) (refusal : Refusal) : Type 0 where
  -- the writer failed after a front of the frame, and nothing was read
  of_write : refusal ≡ WriteFailed → AppendsFront old.output new.output sent → new.input ≡ old.input
      → BreakCause old new sent kind refusal
  of_read : Appends old.output new.output sent → ReadCause old.input new.input kind refusal
      → BreakCause old new sent kind refusal

-- the link itself refuses, from now on
pub record Breaks (old new : Link) (sent : List ℕ) (kind : ℕ) (refusal : Refusal) : Type 0 where
  pub cause : BreakCause old new sent kind refusal
  pub kept : new.refused ≡ Some refusal

-- how the sending of a frame over a link that goes on ends, where a reply of this kind is asked for
abbrev pub SendsAsked : Link → Link → List ℕ → ℕ → Result Reply Refusal → Type 0
SendsAsked old new sent kind (Ok reply) = Exchanged old new sent (TellsReply kind reply) × IsUp new
SendsAsked old new sent kind (Err refusal) =
    Breaks old new sent kind refusal
    ⊎ (Exchanged old new sent (TellsNone kind refusal) × IsUp new × (number_of refusal < 30))

-- nothing was sent: the link had refused before, or the request has no frame, or memory was refused for it
abbrev pub SendsNothing : Link → Link → Request → Refusal → Type 0
SendsNothing old new request refusal =
    (new ≡ old) × ((old.refused ≡ Some refusal) ⊎ (refusal ≢ Memory → request_frame request ≡ Err refusal))

-- the frame of the request was sent
abbrev pub SendsFrame : Link → Link → Request → Result Reply Refusal → Type 0
SendsFrame old new request told =
    (frame : List ℕ) × (request_frame request ≡ Ok frame) × SendsAsked old new frame (answered_by request) told

-- what a question gives
abbrev pub Asks : Link → Link → Request → Result Reply Refusal → Type 0
Asks old new request (Ok reply) = SendsFrame old new request (Ok reply)
Asks old new request (Err refusal) = SendsNothing old new request refusal ⊎ SendsFrame old new request (Err refusal)

-- a refusal of a question: the link gave it, or the peer told it
abbrev pub RefusesAsked : Link → Link → Request → Refusal → Type 0
RefusesAsked old new request refusal =
    Asks old new request (Err refusal) ⊎ SendsFrame old new request (Ok (Refused refusal))

-- what a question for an answer gives: a reply that tells it, or a refusal
abbrev pub AsksLinkFor : {A : Type 0} → (A → Reply) → Request → Link → Link → Result A Refusal → Type 0
AsksLinkFor as_reply request old new result =
    MatchResult result (λ answer. SendsFrame old new request (Ok (as_reply answer)))
    (λ refusal. RefusesAsked old new request refusal)

-- a link that has refused refuses so again, and stays as it is
abbrev pub StaysRefused : {L A : Type 0} → Remote L → Remote L → Result A Refusal → Type 0
StaysRefused old new result = (refusal : Refusal) → old.refused ≡ Some refusal → (result ≡ Err refusal) × (new ≡ old)
