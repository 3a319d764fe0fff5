-- A session of two sides to which others write, one window after the other.
use Rattle.std.specs.Prelude.{◌≡◌, ◌+◌, ℕ, List, [], ◌∷◌, Option, Ok, flat_map}
use Rattle.mvd_site.specs.Held.{AreHeld, States}
use Rattle.mvd_peer.specs.Live.{Grows}
use Rattle.mvd_peer.specs.Sides.{Two, two}
use Rattle.mvd_sync.specs.Machines.{Machining, StageAsks, StageWent, Starts, TakesTold, wanted_at}
use Rattle.mvd_peer.specs.Asking.{Wanted, asked}
use Rattle.mvd_sync.specs.Steps.{cut_wanted}
use Rattle.mvd_sync.specs.declared.asked.Step.{Step}
use Rattle.mvd_sync.specs.declared.report.Side.TheVariants.{Local as AtLocal, Peer as AtPeer}
use Rattle.mvd_peer.specs.declared.window.Told.{Told}
use Rattle.mvd_live.specs.Told.{LiveTells}

-- how far a session is, and what its two sides hold
pub record Standing : Type 0 where
  pub machine : Machining
  pub local : States
  pub peer : States

-- a session begins, of two sides in form
pub record StartsRun (number : Option ℕ) (questions : ℕ) (now : Standing) : Type 0 where
  pub starts : Starts number questions now.machine
  pub local : AreHeld now.local
  pub peer : AreHeld now.peer

-- what a step asks of both sides
abbrev pub both_asked : Step → Two Wanted Wanted
both_asked step = two (asked step.local) (asked step.peer)

-- IT WENT ON without a question, as far as it could, and asks this of both sides
pub record GoesOnAsking (old new : Machining) (asks : Two Wanted Wanted) : Type 0 where
  pub left : new.left ≡ old.left
  pub went : StageWent old.work old.stage new.work new.stage
  pub local : asks.local ≡ cut_wanted new.left.local (wanted_at AtLocal new.stage)
  pub peer : asks.peer ≡ cut_wanted new.left.peer (wanted_at AtPeer new.stage)
  pub some : StageAsks new.stage

-- What happened from one window to the next: what was asked of either side, what it told, and what it held at the
-- moment of each answer; and how the session then stands
pub record Leg : Type 0 where
  pub asking : Machining
  pub asks : Two Wanted Wanted
  pub mine : Option Told
  pub theirs : Option Told
  pub locals : List States
  pub peers : List States
  pub after : Standing

-- the machine asked that, took what was told, and goes on; both sides told as live sides do
pub record TakesLeg (most : Two ℕ ℕ) (old : Standing) (leg : Leg) : Type 0 where
  pub next : GoesOnAsking old.machine leg.asking leg.asks
  pub local : LiveTells most.local leg.asks.local leg.mine old.local leg.locals leg.after.local
  pub peer : LiveTells most.peer leg.asks.peer leg.theirs old.peer leg.peers leg.after.peer
  pub held : AreHeld leg.after.local × AreHeld leg.after.peer
  pub takes : TakesTold leg.asking leg.mine leg.theirs leg.after.machine (Ok tt)

-- the session went on, and both sides only grew
pub record IsLater (old new : Standing) : Type 0 where
  pub machine : new.machine ≡ old.machine
  pub local : AreHeld new.local × Grows old.local new.local
  pub peer : AreHeld new.peer × Grows old.peer new.peer

-- a session goes on by steps, each from where the one before it led, to where it may end
abbrev pub LeadsTo : {S L : Type 0} → (S → L → Type 0) → (L → S) → (S → Type 0) → S → List L → Type 0
LeadsTo Takes after Ends old [] = Ends old
LeadsTo Takes after Ends old (step ∷ steps) = Takes old step × LeadsTo Takes after Ends (after step) steps

-- where the last of them led
abbrev pub led_to : {S L : Type 0} → (L → S) → S → List L → S
led_to after old [] = old
led_to after old (step ∷ steps) = led_to after (after step) steps

-- so many in all of them
abbrev pub in_all : {L : Type 0} → (L → ℕ) → List L → ℕ
in_all count [] = 0
in_all count (step ∷ steps) = count step + in_all count steps

-- A RUN OF A SESSION beside other writers
abbrev pub RunsLegs : Two ℕ ℕ → Standing → List Leg → Standing → Type 0
RunsLegs most old legs new =
    LeadsTo (TakesLeg most) (λ (leg : Leg). leg.after) (λ (now : Standing). IsLater now new) old legs

-- what the local side held at the moments of its answers, and what the peer did
abbrev pub all_locals : List Leg → List States
all_locals legs = flat_map (λ (leg : Leg). leg.locals) legs

abbrev pub all_peers : List Leg → List States
all_peers legs = flat_map (λ (leg : Leg). leg.peers) legs
