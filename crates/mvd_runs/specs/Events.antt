-- What a stored site was asked and told, as events of the store.
use Rattle.std.specs.Prelude.{◌≡◌, ◌≢◌, ℕ, Bool, true, false, List, [], ◌∷◌, ◌++◌, Result, Ok, Err}
use Rattle.mvd_dots.specs.declared.refusals.Refusal.{Refusal}
use Rattle.mvd_dots.specs.declared.refusals.Refusal.TheVariants.{Broken}
use Rattle.mvd_keys.specs.Writes.{Stands}
use Rattle.mvd_wire.specs.declared.request.Request.{Request}
use Rattle.mvd_wire.specs.declared.reply.Reply.{Reply}
use Rattle.mvd_wire.specs.declared.reply.Reply.TheVariants.{Refused}
use Rattle.mvd_site.specs.Sites.{SiteValue}
use Rattle.mvd_model.specs.TheStore.{AreAmong, Broke, Event, Happen, Knows, Told, config}
use Rattle.mvd_replica.specs.Turns.{TurnEvent as Added, Replies, StandsOn, TellsTurns, Turn}
use Rattle.mvd_runs.specs.Calls.{AreUndoneAtOnce}

-- a turn as an event of this site: a frame that is no request asked nothing of it
abbrev pub told_at : ℕ → Result Request Refusal → Reply → List Event
told_at i (Ok request) reply = Told i request reply ∷ []
told_at i (Err fault) reply = []

-- the same, unless 22 was told
abbrev pub told_else_at : ℕ → Result Request Refusal → Reply → List Event
told_else_at i (Ok request) (Refused Broken) = []
told_else_at i asked reply = told_at i asked reply

abbrev pub each_told : ℕ → List Turn → List Event
each_told i [] = []
each_told i (turn ∷ turns) = told_at i turn.asked turn.reply ++ each_told i turns

abbrev pub else_told : ℕ → List Turn → List Event
else_told i [] = []
else_told i (turn ∷ turns) = told_else_at i turn.asked turn.reply ++ else_told i turns

-- the requests that were told 22
abbrev pub broken_at : Result Request Refusal → Reply → List Request
broken_at (Ok request) (Refused Broken) = request ∷ []
broken_at asked reply = []

abbrev pub broken_in : List Turn → List Request
broken_in [] = []
broken_in (turn ∷ turns) = broken_at turn.asked turn.reply ++ broken_in turns

-- the site broke with these, if with any
abbrev pub broke_with : ℕ → List Request → List Event
broke_with i [] = []
broke_with i (request ∷ behind) = Broke i (request ∷ behind) ∷ []

abbrev pub is_broken_by : List Request → Bool
is_broken_by [] = false
is_broken_by (request ∷ behind) = true

-- The calls as events, from a site that is broken or not: one for each request; but those that were told 22 in the call
-- that broke it are one
abbrev pub events_of : ℕ → Bool → List (List Turn) → List Event
events_of i broken [] = []
events_of i true (turns ∷ calls) = each_told i turns ++ events_of i true calls
events_of i false (turns ∷ calls) = (else_told i turns ++ broke_with i (broken_in turns))
    ++ events_of i (is_broken_by (broken_in turns)) calls

-- the site is the one of this number in the store: it is set up so, is as whole, and its states stand for what it knows
pub record IsSiteKnown (a : Knows) (i : ℕ) (site : SiteValue) : Type 0 where
  pub config : site.config ≡ config i (a i).setup
  pub broken : site.broken ≡ (a i).broken
  pub stands : Stands site.states (a i).known

-- The turns of the calls are events of the store, and then the site is the one of its number again; all others are as
-- they were. Of a site that was not broken before, what was left undone is among the requests that it refused
pub record AreEvents (a : Knows) (i : ℕ) (calls : List (List Turn)) (new : SiteValue) : Type 0 where
  pub end : Knows
  pub happen : Happen a (events_of i (a i).broken calls) end
  pub site : IsSiteKnown end i new
  pub others : (j : ℕ) → j ≢ i → end j ≡ a j
  pub refused : (a i).broken ≡ false → (undone : List Request) → AreUndoneAtOnce calls undone
      → AreAmong undone (end i).refused

-- what the calls of a replica tell of turns, of the site alone
pub record AreTurns (turns : List Turn) (old new : SiteValue) : Type 0 where
  pub replies : Replies old new turns
  pub stands : StandsOn old new turns
  pub config : new.config ≡ old.config
  pub choice : (events : List Added) × TellsTurns events turns
