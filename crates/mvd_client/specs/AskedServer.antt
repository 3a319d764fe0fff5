-- A server as a shell asks it: which of its writes are lost.
use Rattle.std.specs.Prelude.{◌≡◌, ◌+◌, ◌-◌, ◌^◌, ◌==◌, ◌&&◌, ◌||◌, ℕ, Bool, true, false, if◌then◌else◌, min, nat_le}
use Rattle.std.specs.Prelude.{not, is_ok, Option, Some, None, Result, Ok, Err}
use Rattle.mvd_client.specs.declared.asked_server.AskedServer.{AskedServer}
use Rattle.mvd_dots.specs.Refusal.{number_of}
use Rattle.mvd_dots.specs.declared.refusals.Refusal.{Refusal}
use Rattle.mvd_dots.specs.declared.refusals.Refusal.TheVariants.{BadBody}
use Rattle.mvd_remote.specs.Remotes.{RepliesFar}
use Rattle.mvd_remote.specs.declared.line.Line.{Ghosts}
use Rattle.mvd_shell.specs.Fits.{fits}
use Rattle.mvd_wire.specs.declared.reply.Reply.{Reply}
use Rattle.mvd_wire.specs.declared.reply.Reply.TheVariants.{Refused}
use Rattle.mvd_wire.specs.declared.request.Request.{Request}
use Rattle.mvd_wire.specs.declared.request.Request.TheVariants.{Delete, Push, Put}
use Rattle.mvd_wire.specs.Requests.{request_frame}

-- a request that may change what a site holds
abbrev pub may_change : Request → Bool
may_change (Put k c d) = true
may_change (Delete k c) = true
may_change (Push k s) = true
may_change _ = false

-- the request has a frame: one that is too long has none, and is not handed to the link
abbrev pub has_frame : Request → Bool
has_frame request = is_ok (request_frame request)

-- a link that refuses so, with 30 to 36, a request that it was handed, has broken
abbrev pub breaks_link : Refusal → Bool
breaks_link refusal = nat_le 30 (number_of refusal) && nat_le (number_of refusal) 36

-- one more is broken where it was handed a request that it refuses so
abbrev pub breaks_at : Bool → Refusal → Bool
breaks_at is_handed refusal = is_handed && breaks_link refusal

-- then, or with 20, the request may have gone out, if the link was not known to be broken
abbrev pub may_be_sent : Bool → Refusal → Bool
may_be_sent is_handed refusal = number_of refusal == 20 || breaks_at is_handed refusal

-- where no reply came, the link may have broken
abbrev pub down_after : Bool → Request → Result Reply Refusal → Bool
down_after is_down request (Ok reply) = is_down
down_after is_down request (Err refusal) = is_down || breaks_at (has_frame request) refusal

-- where no reply came to a write that may have gone out, one more is lost
abbrev pub lost_after : Bool → ℕ → Request → Result Reply Refusal → ℕ
lost_after is_down lost request (Ok reply) = lost
lost_after is_down lost request (Err refusal) =
    if may_change request && (not is_down && may_be_sent (has_frame request) refusal) then min (lost + 1) (2 ^ 64 - 1)
    else lost

-- a refusal behind which a server ends the connection: it waited too long (34), serves as many as it may (36), or was
-- shown no token (38); where it was shown one, 38 is what that does not allow
abbrev pub ends_connection : Bool → Refusal → Bool
ends_connection shown refusal =
    number_of refusal == 34 || (number_of refusal == 36 || (number_of refusal == 38 && not shown))

-- by which refusal a reply says that the server has ended the connection, if it does
abbrev pub ended_by : Bool → Reply → Option Refusal
ended_by shown (Refused refusal) = if ends_connection shown refusal then Some refusal else None
ended_by shown reply = None

abbrev pub ended_after : Bool → Result Reply Refusal → Option Refusal
ended_after shown (Ok reply) = ended_by shown reply
ended_after shown (Err refusal) = None

-- a page that is none of those that were asked for is refused in its place
abbrev pub passed_on : Request → Reply → Reply
passed_on request came = if fits request came then came else Refused BadBody

-- A request is asked over a line, and replied to, or refused in place of a reply. One more write is lost just where no
-- reply came to one that may have gone out: the link was not known to be broken, and refuses with 20, or with 30 to 36
-- a request that has a frame. So 31 is of a write that was answered by no frame, and not of one that is too long to be
-- sent. What the server itself refuses is not lost.
pub record AsksNoted {L : Type 0} (line : Ghosts L) (old new : AskedServer L) (request : Request)
    (reply : Reply) : Type 0 where
  -- what came, or the refusal
  pub came : Reply
  pub replies : RepliesFar line old.remote new.remote request came
  pub passed : reply ≡ passed_on request came
  pub down : new.is_down ≡ down_after old.is_down request replies.told
  pub lost : new.lost ≡ lost_after old.is_down old.lost request replies.told
  pub ended : new.ended ≡ ended_after old.shown replies.told
  pub shown : new.shown ≡ old.shown

-- A REQUEST TO A SERVER is asked over the line; or the server has ended the connection, and then nothing is asked, and
-- the request is refused as that was
pub data RepliesNoted {L : Type 0} (line : Ghosts L) (old new : AskedServer L) (request : Request)
    (reply : Reply) : Type 0 where
  asks : old.ended ≡ None → AsksNoted line old new request reply → RepliesNoted line old new request reply
  is_over : (refusal : Refusal) → old.ended ≡ Some refusal → new ≡ old → reply ≡ Refused refusal
      → RepliesNoted line old new request reply

-- how many writes are lost
abbrev pub lost_of : {L : Type 0} → AskedServer L → ℕ
lost_of server = server.lost
