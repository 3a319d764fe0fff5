-- One frame of a connection.
use Rattle.std.specs.Prelude.{◌≡◌, ◌≢◌, ◌⊎◌, ℕ, false, true, List, [], ◌∷◌, ◌++◌, length, Option, Some, None, Result, Ok, Err}
use Rattle.mvd_dots.specs.declared.refusals.Refusal.{Refusal}
use Rattle.mvd_dots.specs.declared.refusals.Refusal.TheVariants.{Broken, Memory, WriteFailed, TooManyRequests}
use Rattle.mvd_keys.specs.Writes.{Write}
use Rattle.mvd_wire.specs.declared.request.Request.{Request}
use Rattle.mvd_wire.specs.declared.request.Request.TheVariants.{Bye}
use Rattle.mvd_wire.specs.declared.reply.Reply.{Reply}
use Rattle.mvd_wire.specs.declared.reply.Reply.TheVariants.{Refused}
use Rattle.mvd_wire.specs.declared.frame.Frame.{Frame}
use Rattle.mvd_wire.specs.Replies.{CanBeSent, is_short, reply_bytes}
use Rattle.mvd_wire.specs.Requests.{request_of}
use Rattle.mvd_site.specs.Sites.{SiteValue}
use Rattle.mvd_replica.specs.declared.replica.Replica.{Replica}
use Rattle.mvd_replica.specs.declared.serving.Ended.{Ended}
use Rattle.mvd_replica.specs.Replicas.{site_of, stored_of}
use Rattle.mvd_replica.specs.Sides.{ReplicaFollows}
use Rattle.mvd_replica.specs.Turns.{AddsAt, AreFrames, IsToldElse, LeavesTurns, RepliesOne, Turn}
use Rattle.mvd_replica.specs.Served.{AtBye, AtEnd, AtRefusal, AtWriter, Close, GoesOut, StopsServing, ServesTurns, Conversation}
use Rattle.mvd_replica.specs.Served.{Went, ending_bytes, replies_bytes, result_of}
use Rattle.sqlite_trees.specs.declared.store.Store.{Ghosts}

-- the reply that goes out: want of memory may stand in place of one that needs memory
abbrev pub IsSent : Reply → Reply → Type 0
IsSent reply sent = (sent ≡ reply) ⊎ ((is_short reply ≡ false) × (sent ≡ Refused Memory))

-- it went out, or want of memory in its place, or the writer failed
abbrev pub SendsReply : Option (List ℕ) → Reply → Result (Unit {0}) Refusal → Option (List ℕ) → Type 0
SendsReply old reply result new =
    (sent : Reply) × IsSent reply sent
    × GoesOut old (record { whole = []; rest = reply_bytes sent; wanted = Ok tt; failed = Err WriteFailed }) result new

-- a refusal was told in a last frame and is the result, or the writer failed, and 35 is
abbrev pub StopsWith : Option (List ℕ) → Refusal → Refusal → Option (List ℕ) → Type 0
StopsWith old refusal result new = GoesOut old (record {
  whole = [];
  rest = reply_bytes (Refused refusal);
  wanted = refusal;
  failed = WriteFailed;
}) result new

-- the request that a frame is, or its fault
abbrev pub asked_in : Frame → Result Request Refusal
asked_in frame = request_of frame.kind frame.payload.items

-- what answering one frame does, a Bye apart
pub record RepliesTo (asked : Result Request Refusal) (old new : SiteValue) (reply : Reply) : Type 0 where
  pub one : RepliesOne old new (record { asked = asked; reply = reply })
  pub fits : CanBeSent reply
  pub goes_on : asked ≡ Ok Bye → ⊥
  pub choice : (added : List Write) × AddsAt asked reply added
  pub config : new.config ≡ old.config
  -- a reply that takes memory told nothing but what was asked for
  pub long : is_short reply ≡ false → new.broken ≡ old.broken
  -- a request is told 22 where the site is broken, and one that breaks it is
  pub told : new.broken ≡ false → IsToldElse (record { asked = asked; reply = reply })
  pub breaks : old.broken ≡ false → new.broken ≡ true → reply ≡ Refused Broken

-- the same, or nothing where the frame is a Bye
abbrev pub TellsFrame : Result Request Refusal → SiteValue → SiteValue → Option Reply → Type 0
TellsFrame asked old new None = (asked ≡ Ok Bye) × (new ≡ old)
TellsFrame asked old new (Some reply) = RepliesTo asked old new reply

abbrev pub IsLastCount : ℕ → Close → Type 0
IsLastCount count AtBye = count ≡ 0
IsLastCount count AtEnd = count ≡ 0
IsLastCount count (AtRefusal refusal) = (count ≡ 0) × (refusal ≢ TooManyRequests)
IsLastCount count AtWriter = count ≡ 1

-- the turn of a frame, none where it is a Bye
abbrev pub turns_at : Result Request Refusal → Option Reply → List Turn
turns_at asked None = []
turns_at asked (Some reply) = record { asked = asked; reply = reply } ∷ []

-- the connection ends here
pub record EndsConversation (old new : Conversation) (result : Result Ended Refusal) : Type 0 where
  pub turns : List Turn
  pub ending : Close
  pub takes : ServesTurns turns old.stored new.stored
  pub count : IsLastCount (length turns) ending
  pub read : (bytes : List ℕ) → old.input ≡ Some bytes →
      (rest : List ℕ) × AreFrames turns bytes rest × StopsServing rest new.input ending
  pub wrote : GoesOut old.output (record {
    whole = [];
    rest = replies_bytes turns ++ ending_bytes new.stored.site.broken ending;
    wanted = result_of ending;
    failed = Err WriteFailed;
  }) result new.output

-- one turn was taken, or the connection ended
abbrev pub TakesTurn : Conversation → Conversation → Result (Option Ended) Refusal → Type 0
TakesTurn old new (Ok None) = (turn : Turn) × Went (turn ∷ []) old new
TakesTurn old new (Ok (Some ended)) = EndsConversation old new (Ok ended)
TakesTurn old new (Err fault) = EndsConversation old new (Err fault)

module _ {S : Type 0} {g : Ghosts S} where
  -- a replica answers the frame, unless it is a Bye
  abbrev pub AnswersFrame : Replica S g → Frame → Option Reply → Replica S g → Type 0
  AnswersFrame old frame result new = TellsFrame (asked_in frame) (site_of old) (site_of new) result

  -- and its records follow
  abbrev pub FollowsFrame : Replica S g → Frame → Replica S g → Type 0
  FollowsFrame old frame new = ReplicaFollows (λ request. asked_in frame ≡ Ok request) (stored_of old) (stored_of new)

  -- and a stop leaves it whole
  abbrev pub LeavesFrame : Replica S g → Frame → Option Reply → Replica S g → Type 0
  LeavesFrame old frame result new = LeavesTurns (turns_at (asked_in frame) result) (stored_of old) (stored_of new)
