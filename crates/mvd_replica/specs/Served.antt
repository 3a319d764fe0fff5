-- A whole connection: from the bytes that came to the bytes that went out.
use Rattle.std.specs.Prelude.{◌≡◌, ◌≢◌, ◌⊎◌, ℕ, ◌<◌, ◌≤◌, Bool, false, if◌then◌else◌, List, [], ◌++◌, length, take, flat_map, Option, Some, Result, Ok, Err}
use Rattle.std.specs.List.{AllByRecursion}
use Rattle.std.specs.Io.KnownBytes.{Appends}
use Rattle.mvd_dots.specs.declared.refusals.Refusal.{Refusal}
use Rattle.mvd_dots.specs.declared.refusals.Refusal.TheVariants.{Memory, Broken, ReadFailed, WriteFailed, TooManyRequests}
use Rattle.mvd_wire.specs.declared.request.Request.TheVariants.{Bye}
use Rattle.mvd_wire.specs.declared.reply.Reply.TheVariants.{Done, Refused}
use Rattle.mvd_wire.specs.Frames.{FrameValue, frame_at}
use Rattle.mvd_wire.specs.Requests.{request_of}
use Rattle.mvd_wire.specs.Replies.{reply_bytes}
use Rattle.mvd_replica.specs.declared.replica.Replica.{Replica}
use Rattle.mvd_replica.specs.declared.serving.Ended.{Ended}
use Rattle.mvd_replica.specs.declared.serving.Ended.TheVariants as ended
use Rattle.mvd_replica.specs.Replicas.{StoredSite, stored_of}
use Rattle.mvd_replica.specs.Sides.{ReplicaFollows}
use Rattle.mvd_replica.specs.Turns.{AreFrames, TurnEvent, IsNoBye, IsFirstBroken, IsToldElse, LeavesTurns, Replies, StandsOn, TellsTurns, Turn}
use Rattle.sqlite_trees.specs.declared.store.Store.{Ghosts}

-- a site with its store, between a reader and a writer: what is left to read, and what was written, where that is known
pub record Conversation : Type 1 where
  pub stored : StoredSite
  pub input : Option (List ℕ)
  pub output : Option (List ℕ)

-- a replica between a reader and a writer, by what is left of the one and what the other has taken
abbrev pub conversation_of : {S : Type 0} {g : Ghosts S} →
    Replica S g → Option (List ℕ) → Option (List ℕ) → Conversation
conversation_of replica input output = record { stored = stored_of replica; input = input; output = output }

-- what ends a connection once the turns are over: a Bye, the end of the input, a refusal that is told in one frame
-- more, or the writer
pub data Close : Type 0 where
  AtBye : Close
  AtEnd : Close
  AtRefusal : Refusal → Close
  AtWriter : Close

abbrev pub result_of : Close → Result Ended Refusal
result_of AtBye = Ok ended.Bye
result_of AtEnd = Ok ended.End
result_of (AtRefusal refusal) = Err refusal
result_of AtWriter = Err WriteFailed

-- the frame that goes out at the end
abbrev pub ending_bytes : Bool → Close → List ℕ
ending_bytes broken AtBye = reply_bytes (if broken then Refused Broken else Done)
ending_bytes broken AtEnd = []
ending_bytes broken (AtRefusal refusal) = reply_bytes (Refused refusal)
ending_bytes broken AtWriter = []

-- why the reading of frames ended at this rest, and what is left unread of it
abbrev pub StopsServing : List ℕ → Option (List ℕ) → Close → Type 0
StopsServing rest left AtBye =
    (frame : FrameValue) × (next : List ℕ) × (frame_at rest ≡ Ok (Some frame, next))
    × (request_of frame.kind frame.payload ≡ Ok Bye) × (left ≡ Some next)
StopsServing rest left AtEnd = (rest ≡ []) × (left ≡ Some [])
StopsServing rest left (AtRefusal refusal) =
    (refusal ≡ Memory)
    ⊎ ((refusal ≡ ReadFailed)
    ⊎ (((refusal ≡ TooManyRequests) × (left ≡ Some rest)) ⊎ (frame_at rest ≡ Err refusal)))
StopsServing rest left AtWriter = left ≡ Some rest

-- the most frames of a connection that are answered
abbrev pub frames_most : ℕ
frames_most = 1000000

-- so many frames were answered: as many as there may be exactly where that is what ends it
abbrev pub IsCount : ℕ → Close → Type 0
IsCount count AtBye = count < frames_most
IsCount count AtEnd = count < frames_most
IsCount count (AtRefusal refusal) =
    ((count < frames_most) × (refusal ≢ TooManyRequests)) ⊎ ((count ≡ frames_most) × (refusal ≡ TooManyRequests))
IsCount count AtWriter = count ≤ frames_most

-- so many replies may not have gone out whole: the one at which the writer failed
abbrev pub IsCutCount : ℕ → Close → Type 0
IsCutCount count AtBye = count ≡ 0
IsCutCount count AtEnd = count ≡ 0
IsCutCount count (AtRefusal refusal) = count ≡ 0
IsCutCount count AtWriter = count ≡ 1

-- the frames of the replies, one after the other
abbrev pub replies_bytes : List Turn → List ℕ
replies_bytes turns = flat_map (λ turn. reply_bytes turn.reply) turns

-- what is to go out: bytes that do so whole, and others behind them, of which a front may; and the result that is
-- wanted, and the one where the writer failed
pub record Outgoing (X : Type 0) : Type 0 where
  pub whole : List ℕ
  pub rest : List ℕ
  pub wanted : X
  pub failed : X

-- all of it went out, or the writer failed, behind a front of the rest
abbrev pub GoesOut : {X : Type 0} → Option (List ℕ) → Outgoing X → X → Option (List ℕ) → Type 0
GoesOut old sending result new =
    ((result ≡ sending.wanted) × Appends old new (sending.whole ++ sending.rest))
    ⊎ ((result ≡ sending.failed) × ((n : ℕ) × Appends old new (sending.whole ++ take n sending.rest)))

-- all replies but the one at which the writer failed went out whole, and then what ends the connection
pub record WentOut (turns : List Turn) (ending : Close) (old new : Conversation) (result : Result Ended Refusal)
    : Type 0 where
  pub whole : List Turn
  pub cut : List Turn
  pub all : turns ≡ whole ++ cut
  pub count : IsCutCount (length cut) ending
  pub wrote : GoesOut old.output (record {
    whole = replies_bytes whole;
    rest = replies_bytes cut ++ ending_bytes new.stored.site.broken ending;
    wanted = result_of ending;
    failed = Err WriteFailed;
  }) result new.output

-- What turns of a connection do to a stored site. The records follow the states; where the site broke, no request had
-- been told 22 before, and they hold the change of the first that was
pub record ServesTurns (turns : List Turn) (old new : StoredSite) : Type 0 where
  -- each reply is one that may be given from the writes known then
  pub replies : Replies old.site new.site turns
  -- the states stand for all that is known, also where the site broke
  pub stands : StandsOn old.site new.site turns
  -- there is a choice of what the turns added that fits
  pub choice : (events : List TurnEvent) × TellsTurns events turns
  -- none of them is a Bye
  pub goes_on : AllByRecursion IsNoBye turns
  -- none is told 22, unless the site is broken
  pub told : new.site.broken ≡ false → AllByRecursion IsToldElse turns
  -- the records follow
  pub follows : ReplicaFollows (IsFirstBroken turns) old new
  -- a stop leaves whole turns
  pub leaves : LeavesTurns turns old new

-- A connection, from its first frame to its end. A Bye, and what could not be read as a frame, are no turns
pub record Served (old new : Conversation) (result : Result Ended Refusal) : Type 0 where
  -- what was asked, each with its reply, in order; and why it ended
  pub turns : List Turn
  pub ending : Close
  -- each reply may be given from the writes known then, and the records follow
  pub takes : ServesTurns turns old.stored new.stored
  -- at most 1,000,000 turns
  pub count : IsCount (length turns) ending
  -- the bytes that came spell the turns' frames, and then a rest at which it ended so
  pub read : (bytes : List ℕ) → old.input ≡ Some bytes →
      (rest : List ℕ) × AreFrames turns bytes rest × StopsServing rest new.input ending
  -- all replies and the last frame were written, or the writer failed: then each reply but the one that was being
  -- written went out whole
  pub went_out : WentOut turns ending old new result

-- The same of a replica, with its reader and its writer: `left` tells what the one still has, and `taken` what the
-- other took
abbrev pub ServesOver : {S R W : Type 0} {g : Ghosts S} → (R → Option (List ℕ)) → (W → Option (List ℕ)) →
    Replica S g × R × W → Replica S g × R × W → Result Ended Refusal → Type 0
ServesOver left taken old new result =
    Served (conversation_of old.0 (left old.1) (taken old.2)) (conversation_of new.0 (left new.1) (taken new.2)) result

-- turns that were taken, after which the connection goes on
pub record Went (turns : List Turn) (old new : Conversation) : Type 0 where
  pub takes : ServesTurns turns old.stored new.stored
  pub config : new.stored.site.config ≡ old.stored.site.config
  pub read : (bytes : List ℕ) → old.input ≡ Some bytes →
      (rest : List ℕ) × (new.input ≡ Some rest) × AreFrames turns bytes rest
  pub wrote : Appends old.output new.output (replies_bytes turns)
