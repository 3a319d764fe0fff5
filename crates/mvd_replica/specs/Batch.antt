-- Many requests at once, whose changes share commits.
use Rattle.std.specs.Prelude.{◌≡◌, ◌≢◌, ◌⊎◌, ⊤, ℕ, ◌<◌, ◌≤◌, ◌+◌, false, true, List, [], ◌∷◌, ◌++◌, length, map, take, Result, Ok, Err}
use Rattle.std.specs.List.{AllByRecursion}
use Rattle.mvd_dots.specs.declared.refusals.Refusal.{Refusal}
use Rattle.mvd_dots.specs.declared.refusals.Refusal.TheVariants.{Memory}
use Rattle.mvd_wire.specs.declared.request.Request.{Request}
use Rattle.mvd_wire.specs.declared.request.Request.TheVariants.{Put, Delete, Push}
use Rattle.mvd_wire.specs.declared.reply.Reply.{Reply}
use Rattle.mvd_wire.specs.declared.reply.Reply.TheVariants.{Refused}
use Rattle.mvd_records.specs.Records.{IsSound}
use Rattle.mvd_site.specs.AtOnce.{AnswersRequest}
use Rattle.mvd_site.specs.FromStates.{after_from}
use Rattle.mvd_site.specs.Held.{AreHeld}
use Rattle.mvd_site.specs.Sites.{SiteValue}
use Rattle.mvd_replica.specs.Holds.{HoldsSite, HoldsStates}
use Rattle.mvd_replica.specs.Replicas.{StoredSite}
use Rattle.mvd_replica.specs.Sides.{StoreRefusedFrom}
use Rattle.mvd_replica.specs.Whole.{after_all}
use Rattle.mvd_replica.specs.Turns.{TurnEvent, IsFirstBroken, IsToldBroken, IsToldElse, LeavesTurns, Replies, StandsOn, TellsTurns, Turn}
use Rattle.sqlite.specs.Effect.{Database}
use Rattle.sqlite.specs.State.{HasCleanDisk}

-- how many of the requests ask for a change
abbrev pub asks_change : Request → ℕ
asks_change (Put key seen document) = 1
asks_change (Delete key seen) = 1
asks_change (Push key pushed) = 1
asks_change request = 0

abbrev pub changes_asked : List Request → ℕ
changes_asked [] = 0
changes_asked (request ∷ requests) = asks_change request + changes_asked requests

-- ---- the site, turn by turn

-- What one request does to a site, from its states alone: what a site does with it, or, only where there was something
-- to store, the store refused. States in form stay so: from such no reply is too long for its frame (law
-- `replies_fit_their_frames`)
pub record AnswersOneFrom (old new : SiteValue) (request : Request) (reply : Reply) : Type 0 where
  pub does : AnswersRequest old new request reply ⊎ StoreRefusedFrom old new request reply
  pub form : AreHeld old.states → AreHeld new.states

-- and a frame, which is told its fault, or want of memory in its place, where it is no request
abbrev pub TakesFrom : SiteValue → SiteValue → Result Request Refusal → Reply → Type 0
TakesFrom old new (Ok request) reply = AnswersOneFrom old new request reply
TakesFrom old new (Err fault) reply = ((reply ≡ Refused fault) ⊎ (reply ≡ Refused Memory)) × (new ≡ old)

-- each turn does so to the site that the one before it left
abbrev pub TakesAllFrom : SiteValue → SiteValue → List Turn → Type 0
TakesAllFrom old new [] = new ≡ old
TakesAllFrom old new (turn ∷ turns) =
    (mid : SiteValue) × TakesFrom old mid turn.asked turn.reply × TakesAllFrom mid new turns

-- a turn counts no commit, or one where it changed the site
abbrev pub MayCount : SiteValue → SiteValue → ℕ → ℕ → Type 0
MayCount old new count rest = (count ≡ rest) ⊎ ((new ≢ old) × (count ≡ rest + 1))

-- turns that do so, one after the other, count so many
abbrev pub CountsAlong : SiteValue → SiteValue → List Turn → ℕ → Type 0
CountsAlong old new [] count = (new ≡ old) × (count ≡ 0)
CountsAlong old new (turn ∷ turns) count =
    (mid : SiteValue) × (rest : ℕ) × TakesFrom old mid turn.asked turn.reply × MayCount old mid count rest
    × CountsAlong mid new turns rest

-- ---- the records

-- some of the turns, in order, asked these requests, and each was told 22
abbrev pub AreAmongTurns : List Request → List Turn → Type 0
AreAmongTurns [] turns = ⊤
AreAmongTurns (request ∷ requests) [] = ⊥
AreAmongTurns (request ∷ requests) (turn ∷ turns) =
    (IsToldBroken request turn × AreAmongTurns requests turns) ⊎ AreAmongTurns (request ∷ requests) turns

-- What a site that turns broke has lost: what the first request changes that was told 22, and what some of the later
-- ones change that were told so
pub record Loses (turns : List Turn) (site : SiteValue) : Type 0 where
  pub before : List Turn
  pub broke : Turn
  pub later : List Turn
  pub all : turns ≡ before ++ broke ∷ later
  pub first : AllByRecursion IsToldElse before
  pub request : Request
  pub asked : IsToldBroken request broke
  pub changes : after_from site.config site.states request ≢ site.states
  pub rest : List Request
  pub among : AreAmongTurns rest later

-- the requests that it lost
abbrev pub lost_requests : {turns : List Turn} {site : SiteValue} → Loses turns site → List Request
lost_requests lost = lost.request ∷ lost.rest

-- The database holds the states that the site had, with what it lost
pub record HoldsLost (turns : List Turn) (site : SiteValue) (db : Database) : Type 0 where
  pub lost : Loses turns site
  pub holds : HoldsStates site.config.site (after_all site.config site.states (lost_requests lost)) db

-- What turns do to a replica. It keeps its configuration, and once broken all of its site. If the store is sound now it
-- was, and if it held the site it does; once the site is broken the store stays as it is, and if that came by these
-- turns it holds what was lost as well. A store that was shut takes no change. A stop leaves whole turns.
pub record TurnsFollow (turns : List Turn) (old new : StoredSite) : Type 0 where
  pub config : new.site.config ≡ old.site.config
  pub still : old.site.broken ≡ true → new.site ≡ old.site
  pub sound : IsSound new.store → IsSound old.store
  pub holds : IsSound new.store → HoldsSite old.site old.store.committed → HoldsSite new.site new.store.committed
  pub stays : old.site.broken ≡ true → new.store.committed ≡ old.store.committed
  pub stored : IsSound new.store → HoldsSite old.site old.store.committed → old.site.broken ≡ false →
      new.site.broken ≡ true → HoldsLost turns new.site new.store.committed
  pub clean : HasCleanDisk new.store → HasCleanDisk old.store
  pub shut : HasCleanDisk new.store → old.store.is_open ≡ false → new.site ≡ old.site
  pub leaves : LeavesTurns turns old new

-- ---- both

-- Turns of a replica: each reply is one that may be given from the writes known then; and the records follow
pub record TakesTurns (turns : List Turn) (old new : StoredSite) : Type 0 where
  pub replies : Replies old.site new.site turns
  pub stands : StandsOn old.site new.site turns
  pub config : new.site.config ≡ old.site.config
  pub choice : (events : List TurnEvent) × TellsTurns events turns
  -- a request is told 22 where the site is broken, and one that breaks it is
  pub told : new.site.broken ≡ false → AllByRecursion IsToldElse turns
  pub breaks : old.site.broken ≡ false → new.site.broken ≡ true → (request : Request) × IsFirstBroken turns request
  pub follows : TurnsFollow turns old new

-- Requests that are answered at once: one turn for each, in order, with its reply, which is also given from the states
-- that the turn before left
pub record AnswersAll (requests : List Request) (replies : List Reply) (old new : StoredSite) : Type 0 where
  pub turns : List Turn
  pub asked : map (λ turn. turn.asked) turns ≡ map (λ request. Ok request) requests
  pub told : map (λ turn. turn.reply) turns ≡ replies
  pub states : TakesAllFrom old.site new.site turns
  pub takes : TakesTurns turns old new

-- some of the requests were answered, from the first on, and their replies stand behind those before
pub record AnswersFront (requests : List Request) (told given : List Reply) (old new : StoredSite) : Type 0 where
  pub count : ℕ
  pub some : 0 < count
  pub within : count ≤ length requests
  pub replies : List Reply
  pub appended : given ≡ told ++ replies
  pub answers : AnswersAll (take count requests) replies old new
