-- What a session beside other writers comes to.
use Rattle.std.specs.Prelude.{◌≡◌, ◌⊎◌, ℕ, true, List, Contains, length, map, take}
use Rattle.mvd_dots.specs.declared.refusals.Refusal.TheVariants.{DotClash}
use Rattle.mvd_keys.specs.State.{State, clashes}
use Rattle.mvd_keys.specs.Writes.{Key}
use Rattle.mvd_tree.specs.Hashed.{HashesTellApart}
use Rattle.mvd_site.specs.Answer.{spelled}
use Rattle.mvd_site.specs.Held.{States, state_at}
use Rattle.mvd_peer.specs.Live.{AtSomeMoment, HaveBoth}
use Rattle.mvd_peer.specs.PushedStates.{Each}
use Rattle.mvd_peer.specs.Sides.{Two, is_of_key}
use Rattle.mvd_peer.specs.Windows.{CannotTake}
use Rattle.mvd_sync.specs.Exchanges.{Exchanging}
use Rattle.mvd_sync.specs.Session.{IsIn}
use Rattle.mvd_peer.specs.Asking.{asked}
use Rattle.mvd_sync.specs.declared.asked.Step.{Step}
use Rattle.mvd_sync.specs.declared.report.Left.{Left}
use Rattle.mvd_sync.specs.declared.report.Side.TheVariants.{Local as AtLocal, Peer as AtPeer}
use Rattle.mvd_live.specs.Runs.{Standing}

-- THE HASH PREMISE: SHA-256 tells the texts apart that are hashed for what the two sides held at any two of these
-- moments
abbrev pub TellApart : (locals peers : List States) → Type 0
TellApart locals peers =
    (a b : States) → Contains locals a → Contains peers b → HashesTellApart spelled a b

-- a state that was held at some of these moments, at its key
abbrev pub WasHeld : List States → Key × State → Type 0
WasHeld moments pair = AtSomeMoment moments (λ held. pair.1 ≡ state_at held pair.0)

-- NOTHING IS MADE UP: what is pushed into a side is what the other told of that key
pub record IsGiven (locals peers : List States) (step : Step) : Type 0 where
  pub to_local : Each (WasHeld peers) (asked step.local).pushes
  pub to_peer : Each (WasHeld locals) (asked step.peer).pushes

-- WHY A KEY IS LEFT: what the other side told of it was refused, with 9, 10 or 11, for a cause that was so at some
-- moment; or what the two sides held at two moments clashes (11)
pub data IsLeftFor (most : Two ℕ ℕ) (locals peers : List States) (l : Left) : Type 0 where
  here : (state : State) → l.side ≡ AtLocal → WasHeld peers (l.key, state) → is_of_key l.refusal ≡ true
      → AtSomeMoment locals (λ held. CannotTake most.local held l.key state l.refusal) → IsLeftFor most locals peers l
  there : (state : State) → l.side ≡ AtPeer → WasHeld locals (l.key, state) → is_of_key l.refusal ≡ true
      → AtSomeMoment peers (λ held. CannotTake most.peer held l.key state l.refusal) → IsLeftFor most locals peers l
  clash : l.side ≡ AtLocal → l.refusal ≡ DotClash
      → AtSomeMoment locals (λ a. AtSomeMoment peers (λ b. clashes (state_at a l.key) (state_at b l.key) ≡ true))
      → IsLeftFor most locals peers l

-- WHAT A SESSION THAT IS DONE has come to: the keys that were left, each for its cause, and of each other key both
-- sides have what either had
pub record Lives (most : Two ℕ ℕ) (locals peers : List States) (old new : Standing) (done : Exchanging) : Type 0 where
  pub left : List Left
  pub counted : (done.refused ≡ length left) × (done.first_refused ≡ take 100 left)
  pub causes : Each (IsLeftFor most locals peers) left
  pub both : TellApart locals peers → (key : Key) → IsIn (map (λ l. l.key) left) key
      ⊎ HaveBoth old.local old.peer new.local new.peer key
