-- What a connection asked and was answered, frame by frame.
use Rattle.std.specs.Prelude.{◌≡◌, ◌⊎◌, Bool, false, ℕ, List, [], ◌∷◌, ◌++◌, map, flat_map, Some, Result, Ok, Err, ⊤}
use Rattle.std.specs.List.{AllByRecursion}
use Rattle.mvd_dots.specs.declared.refusals.Refusal.{Refusal}
use Rattle.mvd_dots.specs.declared.refusals.Refusal.TheVariants.{Broken, Memory, Store}
use Rattle.mvd_keys.specs.Writes.{Stands, Write}
use Rattle.mvd_wire.specs.declared.request.Request.{Request}
use Rattle.mvd_wire.specs.declared.request.Request.TheVariants.{Bye}
use Rattle.mvd_wire.specs.declared.reply.Reply.{Reply}
use Rattle.mvd_wire.specs.declared.reply.Reply.TheVariants.{Refused}
use Rattle.mvd_wire.specs.Frames.{FrameValue, frame_at}
use Rattle.mvd_wire.specs.Requests.{request_of}
use Rattle.mvd_site.specs.Config.{ConfigValue}
use Rattle.mvd_site.specs.Known.{Adds, ChangesKey, MayReply}
use Rattle.mvd_site.specs.Sites.{SiteStands, SiteValue}
use Rattle.mvd_replica.specs.Replicas.{StoredSite}
use Rattle.mvd_replica.specs.Whole.{LeavesWhole}

-- the store refused a change, and the site is as it was
pub record StoreRefused (config : ConfigValue) (known : List Write) (before : Bool) (request : Request) (reply : Reply)
    (after : Bool) : Type 0 where
  pub told : reply ≡ Refused Store
  pub changes : ChangesKey config known request
  pub whole : before ≡ false
  pub still : after ≡ false

-- What a site whose states are stored may reply, and whether it is broken before and after: what a site may reply, or,
-- only where a change was to be stored, that the store refused
abbrev pub MayReplyStored : ConfigValue → List Write → Bool → Request → Reply → Bool → Type 0
MayReplyStored config known before request reply after =
    MayReply config known before request reply after ⊎ StoreRefused config known before request reply after

-- ---- turns

-- a frame that was read, as the request that it is or its fault, and the reply
pub record Turn : Type 0 where
  pub asked : Result Request Refusal
  pub reply : Reply

-- want of memory in place of a reply, which breaks nothing
abbrev pub IsMemory : Bool → Reply → Bool → Type 0
IsMemory before reply after = (reply ≡ Refused Memory) × (after ≡ before)

-- the reply to a request is one that the site may give, and to any other frame its fault; in place of it may stand want
-- of memory
abbrev pub MayTell : ConfigValue → List Write → Bool → Result Request Refusal → Reply → Bool → Type 0
MayTell config known before (Ok request) reply after =
    MayReplyStored config known before request reply after ⊎ IsMemory before reply after
MayTell config known before (Err fault) reply after =
    ((reply ≡ Refused fault) × (after ≡ before)) ⊎ IsMemory before reply after

-- what a frame and its reply add to the writes known
abbrev pub AddsAt : Result Request Refusal → Reply → List Write → Type 0
AddsAt (Ok request) reply added = Adds request reply added
AddsAt (Err fault) reply added = added ≡ []

-- a turn, and one choice of what it added
pub record TurnEvent : Type 0 where
  pub turn : Turn
  pub added : List Write

-- the events are these turns, in order, with a choice that fits
pub record TellsTurns (events : List TurnEvent) (turns : List Turn) : Type 0 where
  pub told : map (λ event. event.turn) events ≡ turns
  pub fits : AllByRecursion (λ event. AddsAt event.turn.asked event.turn.reply event.added) events

-- all that the events added
abbrev pub known_after_turns : List TurnEvent → List Write
known_after_turns events = flat_map (λ event. event.added) events

-- each reply is one that may be given from the writes known before it; whether the site is broken goes from reply to
-- reply
abbrev pub AllTold : ConfigValue → List Write → Bool → List TurnEvent → Bool → Type 0
AllTold config known broken [] after = broken ≡ after
AllTold config known broken (event ∷ events) after =
    (between : Bool) × MayTell config known broken event.turn.asked event.turn.reply between
    × AllTold config (known ++ event.added) between events after

-- From any writes that the site stood for, and for every choice of what the turns added, each reply is one that may be
-- given from the writes known before it, and the site stands for all of them afterwards, unless it is broken
abbrev pub Replies : SiteValue → SiteValue → List Turn → Type 0
Replies old new turns = (known : List Write) (events : List TurnEvent) → SiteStands old known
    → TellsTurns events turns →
    AllTold old.config known old.broken events new.broken × SiteStands new (known ++ known_after_turns events)

-- The states themselves, also those of a site that is broken, stand afterwards for what they stood for and what the
-- turns added
abbrev pub StandsOn : SiteValue → SiteValue → List Turn → Type 0
StandsOn old new turns = (known : List Write) (events : List TurnEvent) → Stands old.states known
    → TellsTurns events turns → Stands new.states (known ++ known_after_turns events)

-- the same of one turn
pub record RepliesOne (old new : SiteValue) (turn : Turn) : Type 0 where
  pub replies : (known : List Write) → SiteStands old known
      → MayTell old.config known old.broken turn.asked turn.reply new.broken
  pub stands : (known added : List Write) → SiteStands old known → AddsAt turn.asked turn.reply added
      → SiteStands new (known ++ added)
  pub keeps : (known added : List Write) → Stands old.states known → AddsAt turn.asked turn.reply added
      → Stands new.states (known ++ added)

-- and of one request, for which no memory is wanted but the site's own
pub record AnswersStored (old new : SiteValue) (request : Request) (reply : Reply) : Type 0 where
  pub replies : (known : List Write) → SiteStands old known
      → MayReplyStored old.config known old.broken request reply new.broken
  pub stands : (known added : List Write) → SiteStands old known → Adds request reply added
      → SiteStands new (known ++ added)

-- the bytes are the frames of the turns, and the rest
abbrev pub AreFrames : List Turn → List ℕ → List ℕ → Type 0
AreFrames [] bytes rest = bytes ≡ rest
AreFrames (turn ∷ turns) bytes rest = (frame : FrameValue) × (next : List ℕ) × (frame_at bytes ≡ Ok (Some frame, next))
    × (turn.asked ≡ request_of frame.kind frame.payload) × AreFrames turns next rest

-- the turn asked this request, and was told 22
abbrev pub IsToldBroken : Request → Turn → Type 0
IsToldBroken request turn = (turn.asked ≡ Ok request) × (turn.reply ≡ Refused Broken)

-- the turn asked no request that was told 22
abbrev pub IsToldElse : Turn → Type 0
IsToldElse turn = (request : Request) → ¬ IsToldBroken request turn

-- of the turns, the first whose request was told 22 asked this one
abbrev pub IsFirstBroken : List Turn → Request → Type 0
IsFirstBroken [] request = ⊥
IsFirstBroken (turn ∷ turns) request = IsToldBroken request turn ⊎ (IsToldElse turn × IsFirstBroken turns request)

-- some of the turns, in order, asked these requests
abbrev pub AreAskedIn : List Turn → List Request → Type 0
AreAskedIn turns [] = ⊤
AreAskedIn [] (request ∷ requests) = ⊥
AreAskedIn (turn ∷ turns) (request ∷ requests) =
    ((turn.asked ≡ Ok request) × AreAskedIn turns requests) ⊎ AreAskedIn turns (request ∷ requests)

-- the turn asked this request, and the store refused it, or it broke the site
abbrev pub IsToldUndone : Request → Turn → Type 0
IsToldUndone request turn = (turn.asked ≡ Ok request) × ((turn.reply ≡ Refused Store) ⊎ (turn.reply ≡ Refused Broken))

-- some of the turns, in order, asked these requests, and each was told 21 or 22
abbrev pub AreUndoneIn : List Turn → List Request → Type 0
AreUndoneIn turns [] = ⊤
AreUndoneIn [] (request ∷ requests) = ⊥
AreUndoneIn (turn ∷ turns) (request ∷ requests) =
    (IsToldUndone request turn × AreUndoneIn turns requests) ⊎ AreUndoneIn turns (request ∷ requests)

-- What a stop leaves of a stored site after these turns: all that they were told done, and what at most some of the
-- requests were to change that were refused with 21 or 22
abbrev pub LeavesTurns : List Turn → StoredSite → StoredSite → Type 0
LeavesTurns turns old new = LeavesWhole (AreUndoneIn turns) old new

-- the turn is no Bye
abbrev pub IsNoBye : Turn → Type 0
IsNoBye turn = turn.asked ≡ Ok Bye → ⊥
