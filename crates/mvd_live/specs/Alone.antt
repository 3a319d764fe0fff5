-- A session of two sides to which nobody else writes.
use Rattle.std.specs.Prelude.{◌≡◌, ◌⊎◌, ℕ, List, [], ◌∷◌, Contains, length, map, take, Option, Some, None}
use Rattle.std.specs.Prelude.{Result, Ok, Err}
use Rattle.mvd_dots.specs.declared.refusals.Refusal.{Refusal}
use Rattle.mvd_keys.specs.State.{State, join}
use Rattle.mvd_keys.specs.Writes.{Key}
use Rattle.mvd_site.specs.Held.{States, state_at}
use Rattle.mvd_peer.specs.PushedStates.{Each}
use Rattle.mvd_peer.specs.Sides.{Two}
use Rattle.mvd_peer.specs.Windows.{TakesState}
use Rattle.mvd_sync.specs.Exchanges.{Exchanging}
use Rattle.mvd_sync.specs.Session.{IsIn}
use Rattle.mvd_peer.specs.Asking.{Wanted}
use Rattle.mvd_sync.specs.declared.report.Left.{Left}
use Rattle.mvd_peer.specs.declared.window.Told.{Told}
use Rattle.mvd_peer.specs.declared.window.Told.TheVariants as told
use Rattle.mvd_live.specs.Lives.{IsLeftFor, TellApart}
use Rattle.mvd_live.specs.Runs.{Leg, Standing}

-- ---- what a side holds

-- a push that is taken joins its state; one that is refused changes nothing
abbrev pub PushesAlone : Key × State → Result (Unit {0}) Refusal → States → States → Type 0
PushesAlone pair (Ok done) old new = TakesState old pair.0 pair.1 new
PushesAlone pair (Err refusal) old new = new ≡ old

-- one after the other; each leaves what is held at its moment
abbrev pub AllPushAlone : List (Key × State) → List (Result (Unit {0}) Refusal) → States → List States → States → Type 0
AllPushAlone [] [] old [] new = new ≡ old
AllPushAlone (p ∷ ps) (t ∷ ts) old (held ∷ later) new = PushesAlone p t old held × AllPushAlone ps ts held later new
AllPushAlone ps ts old moments new = ⊥

-- the same is held all the while
abbrev pub HoldsStill : States → List States → States → Type 0
HoldsStill old moments new = ((held : States) → Contains moments held → held ≡ old) × (new ≡ old)

-- NOBODY ELSE WRITES TO A SIDE while it tells of a window
abbrev pub SideAlone : Wanted → Option Told → States → List States → States → Type 0
SideAlone w None = HoldsStill
SideAlone w (Some (told.Pushes answers)) = AllPushAlone w.pushes answers.items
SideAlone w (Some other) = HoldsStill

-- nor to either side of a session
abbrev pub AreAlone : Standing → List Leg → Standing → Type 0
AreAlone old [] new = (new.local ≡ old.local) × (new.peer ≡ old.peer)
AreAlone old (leg ∷ legs) new = SideAlone leg.asks.local leg.mine old.local leg.locals leg.after.local
    × SideAlone leg.asks.peer leg.theirs old.peer leg.peers leg.after.peer × AreAlone leg.after legs new

-- ---- what comes of it

-- both sides hold the join of what they held
pub record HaveJoined (old new : Standing) (key : Key) : Type 0 where
  pub mine : state_at new.local key ≡ join (state_at old.local key) (state_at old.peer key)
  pub theirs : state_at new.peer key ≡ join (state_at old.local key) (state_at old.peer key)

-- each side holds what it held, or the join
pub record HoldOldOrJoin (old new : Standing) (key : Key) : Type 0 where
  pub mine : (state_at new.local key ≡ state_at old.local key)
      ⊎ (state_at new.local key ≡ join (state_at old.local key) (state_at old.peer key))
  pub theirs : (state_at new.peer key ≡ state_at old.peer key)
      ⊎ (state_at new.peer key ≡ join (state_at old.local key) (state_at old.peer key))

-- WHAT A SESSION COMES TO BESIDE NOBODY: as one of `sync_within` does, it leaves the join of each key on both sides,
-- but for the keys that are left, each for its cause; of these a side has what it had, or the join
pub record JoinsAlone (most : Two ℕ ℕ) (locals peers : List States) (old new : Standing)
    (done : Exchanging) : Type 0 where
  pub left : List Left
  pub counted : (done.refused ≡ length left) × (done.first_refused ≡ take 100 left)
  pub causes : Each (IsLeftFor most locals peers) left
  pub each : (key : Key) → HoldOldOrJoin old new key
  pub joined : TellApart locals peers → (key : Key) → IsIn (map (λ l. l.key) left) key ⊎ HaveJoined old new key
