-- A line to a far side: the frames of requests go out, and those of its replies come in. A true one is what a transport
-- is that hands on what is written and what is read, where the far side is faithful.
use Rattle.std.proofs.Common.{ap, append-nil, append_assoc, length-append, refl, sym, ◌∙◌}
use Rattle.std.specs.Prelude.{◌≡◌, ◌≢◌, ◌≤◌, ◌⊎◌, ◌+◌, ℕ, Bool, true, false, List, [], ◌∷◌, ◌++◌, Option, Some, None}
use Rattle.std.specs.Prelude.{Contains, IfSome, Result, Ok, Err, IfOk, IfErr, length, map, take}
use Rattle.std.specs.FinMap.{empty}
use Rattle.mvd_dots.specs.Refusal.{number_of}
use Rattle.mvd_dots.specs.declared.refusals.Refusal.{Refusal}
use Rattle.mvd_dots.specs.declared.refusals.Refusal.TheVariants.{Broken, Memory}
use Rattle.mvd_keys.specs.State.{State}
use Rattle.mvd_keys.specs.Writes.{Key}
use Rattle.mvd_tree.specs.Page.{is_more_after_page, bucket_page}
use Rattle.mvd_wire.specs.declared.frame.Frame.{Frame}
use Rattle.mvd_wire.specs.declared.request.Request.{Request}
use Rattle.mvd_wire.specs.declared.request.Request.TheVariants.{Get, Node, Bucket, Push}
use Rattle.mvd_wire.specs.declared.reply.Digests.{Digests}
use Rattle.mvd_wire.specs.declared.reply.Reply.{Reply}
use Rattle.mvd_wire.specs.declared.reply.Reply.TheVariants.{State as Shown, Done, Digests as Told, Keys, Refused}
use Rattle.mvd_wire.specs.Frames.{FrameValue, frame_value}
use Rattle.mvd_wire.specs.Requests.{IsRequest, request_frame}
use Rattle.mvd_wire.specs.Replies.{reply_of}
use Rattle.mvd_site.specs.Answer.{digests}
use Rattle.mvd_site.specs.Config.{ConfigValue}
use Rattle.mvd_site.specs.FromStates.{after_from, answer_from}
use Rattle.mvd_site.specs.Held.{States, state_at}
use Rattle.mvd_peer.specs.Sides.{Stays, is_of_question, stays_on}
use Rattle.mvd_peer.specs.Windows.{CannotTake, IsNode, PageValue, RefusesPage, TakesState, leaves_open}
use Rattle.mvd_remote.specs.declared.remote.Remote.{Remote}

-- the far end: the key states that it holds once all that went out is answered, the replies that are still to be read,
-- and what it was set up with
pub record Far : Type 0 where
  pub states : States
  pub due : List Reply
  pub config : ConfigValue

-- the far end of a line of which nothing is claimed
abbrev pub nowhere : Far
nowhere = record {
  states = empty;
  due = [];
  config = record { site = 0; max_keys = 0; defs = record { indexes = []; views = [] } };
}

-- ---- what a faithful side replies

-- a question was refused, and not for itself alone
abbrev pub RefusesQuestion : States → Refusal → States → Type 0
RefusesQuestion old refusal new = (is_of_question refusal ≡ false) × (new ≡ old)

-- a push was refused for its cause, and not taken; or the side broke, and may hold it
abbrev pub RefusesPush : ℕ → States → Key → State → Refusal → States → Type 0
RefusesPush most old key state refusal new =
    (CannotTake most old key state refusal × (new ≡ old)) ⊎ ((refusal ≡ Broken) × TakesState old key state new)

-- a site answers as its states and what it was set up with say, and has the states after that; or it refuses for its
-- own sake, with a refusal from 20 on, and has done nothing, or broke, and may have done it
abbrev pub RepliesFromStates : ConfigValue → States → Request → Reply → States → Type 0
RepliesFromStates config old request reply new =
    ((reply ≡ answer_from config old request) × (new ≡ after_from config old request))
    ⊎ ((refusal : Refusal) × (reply ≡ Refused refusal) × (20 ≤ number_of refusal)
    × ((new ≡ old) ⊎ ((refusal ≡ Broken) × (new ≡ after_from config old request))))

-- THE REPLY OF A FAITHFUL SIDE TO A REQUEST, from the states that it holds, and those that it holds then. What a
-- session asks, any faithful side may be asked; all else is asked of a site.
abbrev pub TrueReply : ConfigValue → States → Request → Reply → States → Type 0
TrueReply config old (Get key) (Shown state) new = (state ≡ state_at old key) × (new ≡ old)
TrueReply config old (Get key) (Refused refusal) new = RefusesQuestion old refusal new
TrueReply config old (Get key) reply new = ⊥
TrueReply config old (Node path) (Told node) new = IsNode (digests old) path node × (new ≡ old)
TrueReply config old (Node path) (Refused refusal) new = RefusesQuestion old refusal new
TrueReply config old (Node path) reply new = ⊥
TrueReply config old (Bucket path after) (Keys page more) new =
    (page ≡ bucket_page (digests old) path after) × (more ≡ is_more_after_page (digests old) path after) × (new ≡ old)
TrueReply config old (Bucket path after) (Refused refusal) new = RefusesPage path refusal × (new ≡ old)
TrueReply config old (Bucket path after) reply new = ⊥
TrueReply config old (Push key state) Done new = TakesState old key state new
TrueReply config old (Push key state) (Refused refusal) new = RefusesPush config.max_keys old key state refusal new
TrueReply config old (Push key state) reply new = ⊥
TrueReply config old request reply new = RepliesFromStates config old request reply new

-- so to requests one after the other
abbrev pub TrueReplies : ConfigValue → States → List Request → List Reply → States → Type 0
TrueReplies config old [] [] new = new ≡ old
TrueReplies config old (q ∷ qs) (r ∷ rs) new =
    (mid : States) × TrueReply config old q r mid × TrueReplies config mid qs rs new
TrueReplies config old qs rs new = ⊥

-- ---- what goes out and what comes in

-- the bytes are the frames of these requests
abbrev pub AreRequestFrames : List Request → List ℕ → Type 0
AreRequestFrames [] bytes = bytes ≡ []
AreRequestFrames (q ∷ qs) bytes =
    (frame : List ℕ) × (rest : List ℕ) × IsRequest q × (request_frame q ≡ Ok frame) × (bytes ≡ frame ++ rest)
    × AreRequestFrames qs rest

-- all of them are taken, and the replies to them are due after those that were
pub record TakesAll (old : Far) (requests : List Request) (new : Far) : Type 0 where
  pub replies : List Reply
  pub are_true : TrueReplies old.config old.states requests replies new.states
  pub due : new.due ≡ old.due ++ replies

-- the first of them are taken
abbrev pub TakesFirst : ConfigValue → States → List Request → States → Type 0
TakesFirst config old requests new =
    (n : ℕ) × (replies : List Reply) × TrueReplies config old (take n requests) replies new

-- frames of requests went out; where that failed, the first of them were taken
abbrev pub RequestsGoOut : Far → Far → List Request → Result (Unit {0}) Refusal → Type 0
RequestsGoOut old new requests (Ok done) = TakesAll old requests new
RequestsGoOut old new requests (Err refusal) = TakesFirst old.config old.states requests new.states

-- what was sent over a line that is true, if these are frames of requests
abbrev pub SendsTruly : {L : Type 0} → (L → Type 0) → (L → Far) → List ℕ → L → L → Result (Unit {0}) Refusal → Type 0
SendsTruly is_true far bytes old new result =
    is_true old → (requests : List Request) → AreRequestFrames requests bytes
    → is_true new × RequestsGoOut (far old) (far new) requests result

-- where a reply is due, the frame that came spells the first of them
abbrev pub IsNextReply : List Reply → List Reply → FrameValue → Type 0
IsNextReply [] left frame = Unit {0}
IsNextReply (reply ∷ later) left frame = (reply_of frame.kind frame.payload ≡ Ok reply) × (left ≡ later)

-- what came over a line that is true
abbrev pub ReadsTruly : {L : Type 0} → (L → Type 0) → (L → Far) → L → L → Result (Option Frame) Refusal → Type 0
ReadsTruly is_true far old new result = is_true old →
    is_true new × ((far new).states ≡ (far old).states)
    × IfOk result (λ came. IfSome came (λ frame. IsNextReply (far old).due (far new).due (frame_value frame)))

-- ---- a remote side

-- its line
abbrev pub line_of : {L : Type 0} → Remote L → L
line_of remote = remote.line

-- what its link itself refuses with, once it does
abbrev pub refused_of : {L : Type 0} → Remote L → Option Refusal
refused_of remote = remote.refused

-- what its questions were told, one after the other: a reply, or why there was none
abbrev pub told_of : {L : Type 0} → Remote L → List (Result Reply Refusal × Unit {0})
told_of remote = remote.told.items

-- as it is noted
abbrev pub noted : List (Result Reply Refusal) → List (Result Reply Refusal × Unit {0})
noted replies = map (λ told. (told, tt)) replies

-- so many questions were told something, one after the other
abbrev pub NotesMore : {L : Type 0} → ℕ → Remote L → Remote L → Type 0
NotesMore n old new =
    (more : List (Result Reply Refusal × Unit {0})) × (length more ≡ n) × (told_of new ≡ told_of old ++ more)

-- at most so many
abbrev pub NotesUpTo : {L : Type 0} → ℕ → Remote L → Remote L → Type 0
NotesUpTo most old new = (n : ℕ) × (n ≤ most) × NotesMore n old new

-- a question was told this refusal: by a reply, or since there was none
abbrev pub WasTold : {L : Type 0} → Remote L → Refusal → Type 0
WasTold remote refusal =
    Contains (told_of remote) (Ok (Refused refusal), tt) ⊎ Contains (told_of remote) (Err refusal, tt)

-- WHAT A REMOTE SIDE MAY REFUSE WITH, as it is after that: its link refuses so; or the link goes on, and a question was
-- told so, or memory was refused
abbrev pub RemoteRefuses : {L : Type 0} → Remote L → Refusal → Type 0
RemoteRefuses remote refusal =
    (remote.refused ≡ Some refusal)
    ⊎ ((remote.refused ≡ None) × (WasTold remote refusal ⊎ (refusal ≡ Memory)))

-- what is at the other end of its line
abbrev pub far_of : {L : Type 0} → (L → Far) → Remote L → Far
far_of far remote = far remote.line

-- what the far side was set up with stays
abbrev pub KeepsConfig : {L : Type 0} → (L → Far) → Remote L → Remote L → Type 0
KeepsConfig far old new = (far_of far new).config ≡ (far_of far old).config

-- over a true line: no reply is due, unless its link refuses, and then with a refusal that leaves open what was taken
pub record IsTrueRemote {L : Type 0} (is_true : L → Type 0) (far : L → Far) (remote : Remote L) : Type 0 where
  pub line : is_true remote.line
  pub step : remote.refused ≡ None → (far remote.line).due ≡ []
  pub own : (refusal : Refusal) → remote.refused ≡ Some refusal → leaves_open refusal ≡ true

-- AFTER SO MANY QUESTIONS just as many are noted; a link that refuses stays as it is, and so does what the far side was
-- set up with
abbrev pub RemoteFollows : {L : Type 0} → (L → Far) → ℕ → Remote L → Remote L → Type 0
RemoteFollows {L} far n old new =
    Stays (λ (remote : Remote L). (refusal : Refusal) × (remote.refused ≡ Some refusal)) old new
    × ((far new.line).config ≡ (far old.line).config) × NotesMore n old new

pub remote_follows_self : {L : Type 0} (far : L → Far) (remote : Remote L) → RemoteFollows far 0 remote remote
remote_follows_self far remote = (λ _. refl, refl, ([], refl, sym (append-nil (told_of remote))))

pub notes_on : {L : Type 0} (m n : ℕ) (old mid new : Remote L) → NotesMore m old mid → NotesMore n mid new
    → NotesMore (m + n) old new
notes_on m n old mid new (first, many, was) (later, more, is) = (
  first ++ later,
  length-append first later ∙ ap (λ k. k + length later) many ∙ ap (λ k. m + k) more,
  is ∙ ap (λ all. all ++ later) was ∙ append_assoc (told_of old) first later,
)

pub remote_follows_on : {L : Type 0} (far : L → Far) (m n : ℕ) (old mid new : Remote L) → RemoteFollows far m old mid
    → RemoteFollows far n mid new → RemoteFollows far (m + n) old new
remote_follows_on {L} far m n old mid new p q = (
  stays_on (λ (remote : Remote L). (refusal : Refusal) × (remote.refused ≡ Some refusal)) old mid new p.0 q.0,
  q.1 ∙ p.1,
  notes_on m n old mid new p.2 q.2,
)

-- where the link does not refuse, it refuses with none of its own
pub refuses_none : {P : Type 0} (own : Option Refusal) (refusal : Refusal) → own ≡ None → own ≡ Some refusal → P
refuses_none own refusal none is = let never = sym none ∙ is in absurd (cc)

-- a request was taken, or it was not
abbrev pub MayTake : ConfigValue → States → Request → States → Type 0
MayTake config old request new = (new ≡ old) ⊎ ((reply : Reply) × TrueReply config old request reply new)

-- what a faithful side answers to a request, or why there is no answer: it refuses, or the request has no frame, or it
-- is left open
abbrev pub AnswersTruly : {A : Type 0} → (A → Reply) → ConfigValue → States → Request → Result A Refusal → States
    → Type 0
AnswersTruly as_reply config old request (Ok answer) new = TrueReply config old request (as_reply answer) new
AnswersTruly as_reply config old request (Err refusal) new =
    TrueReply config old request (Refused refusal) new
    ⊎ (((request_frame request ≡ Err refusal) × (new ≡ old))
    ⊎ ((leaves_open refusal ≡ true) × MayTake config old request new))

-- the replies that tell digests, a page, a state, and that it is done
abbrev pub as_digests : Digests → Reply
as_digests digests = Told digests

abbrev pub as_page : PageValue → Reply
as_page page = Keys page.0.items page.1

abbrev pub as_state : State → Reply
as_state state = Shown state

abbrev pub as_done : Unit {0} → Reply
as_done _ = Done

-- what is shown of a question: the reply, or the refusal in its place
abbrev pub shown_reply : Result Reply Refusal → Reply
shown_reply (Ok reply) = reply
shown_reply (Err refusal) = Refused refusal

-- what a reply is taken as: what it tells, or that there is no memory for it
abbrev pub IsReplyTaken : Reply → Result Reply Refusal → Type 0
IsReplyTaken reply told = (told ≡ Ok reply) ⊎ (told ≡ Err Memory)

-- where a reply is due, the first of them is taken
abbrev pub TakesDue : List Reply → List Reply → Result Reply Refusal → Type 0
TakesDue [] left told = Unit {0}
TakesDue (reply ∷ later) left told = IsReplyTaken reply told × (left ≡ later)

-- what a remote side takes from a true line, unless it breaks
pub record Took {L : Type 0} (is_true : L → Type 0) (far : L → Far) (old new : Remote L)
    (told : Result Reply Refusal) : Type 0 where
  pub line : is_true new.line
  pub states : (far new.line).states ≡ (far old.line).states
  pub due : new.refused ≡ None → TakesDue (far old.line).due (far new.line).due told
  pub own : (refusal : Refusal) → new.refused ≡ Some refusal → leaves_open refusal ≡ true

-- ---- a window

-- in its turn a request takes the next reply due, if it has a frame
abbrev pub DueTurn : Option Refusal → List Reply → List Reply → Result Reply Refusal → Type 0
DueTurn None due left told = TakesDue due left told
DueTurn (Some refusal) due left told = (told ≡ Err refusal) × (left ≡ due)

-- each in its turn, as long as replies are due
abbrev pub DueTurns : List (Option Refusal) → List (Result Reply Refusal) → List Reply → List Reply → Type 0
DueTurns [] [] due left = left ≡ due
DueTurns (None ∷ nones) (told ∷ replies) [] left = Unit {0}
DueTurns (None ∷ nones) (told ∷ replies) (reply ∷ later) left =
    IsReplyTaken reply told × DueTurns nones replies later left
DueTurns (Some refusal ∷ nones) (told ∷ replies) due left = (told ≡ Err refusal) × DueTurns nones replies due left
DueTurns nones replies due left = ⊥

-- turns were taken over a true line, or the link broke
pub record TookTurns {L V : Type 0} (is_true : L → Type 0) (far : L → Far) (Due : List Reply → List Reply → V → Type 0)
    (old new : Remote L) (result : Result V Refusal) : Type 0 where
  pub line : is_true new.line
  pub states : (far new.line).states ≡ (far old.line).states
  pub due : IfOk result (Due (far old.line).due (far new.line).due)
  pub unsure : IfErr result (λ refusal. leaves_open refusal ≡ true)

-- what is spelled by a frame
abbrev pub HasFrame : Request → Type 0
HasFrame request = IfOk (request_frame request) (λ _. IsRequest request)

abbrev pub HaveFrames : List Request → Type 0
HaveFrames [] = Unit {0}
HaveFrames (q ∷ qs) = HasFrame q × HaveFrames qs

-- what a request was told in its turn: the reply, or why it has no frame, or that there is no memory for the reply
abbrev pub ToldTruly : ConfigValue → States → Request → Result Reply Refusal → States → Type 0
ToldTruly config old request (Ok reply) new = TrueReply config old request reply new
ToldTruly config old request (Err refusal) new =
    ((request_frame request ≡ Err refusal) × (new ≡ old))
    ⊎ ((refusal ≡ Memory) × ((reply : Reply) × TrueReply config old request reply new))

abbrev pub AllToldTruly : ConfigValue → States → List Request → List (Result Reply Refusal) → States → Type 0
AllToldTruly config old [] [] new = new ≡ old
AllToldTruly config old (q ∷ qs) (t ∷ ts) new =
    (mid : States) × ToldTruly config old q t mid × AllToldTruly config mid qs ts new
AllToldTruly config old qs ts new = ⊥

-- those requests that have a frame
abbrev pub and_framed : Request → Result (List ℕ) Refusal → List Request → List Request
and_framed q (Ok frame) qs = q ∷ qs
and_framed q (Err refusal) qs = qs

abbrev pub framed_requests : List Request → List Request
framed_requests [] = []
framed_requests (q ∷ qs) = and_framed q (request_frame q) (framed_requests qs)

-- one answer of a window that was answered; nothing is left open
abbrev pub SettlesTruly : {A : Type 0} → (A → Reply) → ConfigValue → States → Request → Result A Refusal → States
    → Type 0
SettlesTruly as_reply config old request (Ok answer) new = TrueReply config old request (as_reply answer) new
SettlesTruly as_reply config old request (Err refusal) new =
    ((refusal ≢ Broken) × TrueReply config old request (Refused refusal) new)
    ⊎ ((request_frame request ≡ Err refusal) × (new ≡ old))

abbrev pub SettleTruly : {A : Type 0} → (A → Reply) → ConfigValue → States → List Request → List (Result A Refusal)
    → States → Type 0
SettleTruly as_reply config old [] [] new = new ≡ old
SettleTruly as_reply config old (q ∷ qs) (t ∷ ts) new =
    (mid : States) × SettlesTruly as_reply config old q t mid × SettleTruly as_reply config mid qs ts new
SettleTruly as_reply config old qs ts new = ⊥

-- a window went out, and what was told in each turn is true
abbrev pub TellsAllTruly : ConfigValue → States → List Request → List (Result Reply Refusal) → States → Type 0
TellsAllTruly config old requests replies new =
    AllToldTruly config old requests replies new × TakesFirst config old (framed_requests requests) new

-- a window was refused, and of its requests the first were taken
abbrev pub EndsOpen : ConfigValue → States → List Request → Refusal → States → Type 0
EndsOpen config old requests refusal new =
    (leaves_open refusal ≡ true) × TakesFirst config old (framed_requests requests) new

-- a question for a state, whose reply may be given up for want of memory, since it changes nothing
abbrev pub IsGet : Request → Type 0
IsGet (Get key) = Unit {0}
IsGet request = ⊥

abbrev pub AreGets : List Request → Type 0
AreGets [] = Unit {0}
AreGets (q ∷ qs) = IsGet q × AreGets qs

-- a reply was taken for what it tells, or may be given up, and the answer leaves nothing open
abbrev pub LeavesNothingOpen : {A : Type 0} → Bool → Result Reply Refusal → Result A Refusal → Type 0
LeavesNothingOpen gives_up reply answer = (reply ≡ Err Memory → gives_up ≡ true) × (answer ≢ Err Broken)
