-- What a session pushes into a side is what the other told.
use Rattle.std.proofs.Common.{◌≡◌, ℕ, List, [], ◌∷◌, map, sym, subst, Option}
use Rattle.std.specs.Prelude.{IfSome, Result}
use Rattle.mvd_dots.specs.declared.refusals.Refusal.{Refusal}
use Rattle.mvd_keys.specs.State.{IsValid, State}
use Rattle.mvd_keys.specs.Writes.{Key}
use Rattle.mvd_peer.specs.PushedStates.{Each}
use Rattle.mvd_peer.specs.Windows.{ForEach}
use Rattle.mvd_site.specs.Held.{States}
use Rattle.mvd_sync.specs.Machines.{GoesAlone, SettlesFound, TurnBegins, counts, equal, ends, fills, goes_on, last, none_found, turns, waits}
use Rattle.mvd_sync.specs.Meetings.{ArePlans, held_keys, noted, pushed_pair, taken_from}
use Rattle.mvd_sync.specs.Exchanges.{Exchanging}
use Rattle.mvd_sync.specs.OneTurn.{BeginsTurn, IsSameTurn}
use Rattle.mvd_sync.specs.Walking.{Walking}
use Rattle.mvd_sync.specs.declared.cursor.Entry.{Entry}
use Rattle.mvd_sync.specs.declared.meetings.Meeting.{Meeting}
use Rattle.mvd_sync.specs.declared.report.Side.{Side}
use Rattle.mvd_sync.specs.declared.report.Side.TheVariants.{Local as AtLocal, Peer as AtPeer}
use Rattle.mvd_sync.specs.declared.stage.Stage.{Stage}
use Rattle.mvd_sync.specs.declared.stage.Stage.TheVariants.{Descends, Walks, Meets, Carries, Done, Failed}
use Rattle.mvd_sync.specs.declared.turn.Turn.{Turn}
use Rattle.mvd_sync.proofs.Handing.{gives_given, gives_good, pulls_given, pulls_good}
use Rattle.mvd_sync.proofs.Stages.{each_may}
use Rattle.mvd_live.specs.Lives.{WasHeld}
use Rattle.mvd_live.proofs.Meets.{StateAt}

-- a state in form that was held at some of these moments
abbrev pub Given : List States → Key → State → Type 0
Given moments key state = WasHeld moments (key, state) × IsValid state

-- what a side is to take in its turn is what the other told; in the local side's turn, what the peer is to take after it, too
abbrev pub GivenTo : (locals peers : List States) → Side → Turn → Type 0
GivenTo locals peers AtLocal turn = Each (λ p. Given peers p.0 p.1) turn.pairs.items
    × Each (λ (m : Meeting). IfSome m.give (Given locals m.key)) turn.meetings.items
GivenTo locals peers AtPeer turn = Each (λ p. Given locals p.0 p.1) turn.pairs.items

abbrev pub GivenAt : (locals peers : List States) → Stage → Type 0
GivenAt locals peers (Descends level) = Unit {0}
GivenAt locals peers (Walks walk) = Unit {0}
GivenAt locals peers (Meets walk entries) = Unit {0}
GivenAt locals peers (Carries walk turn count) = GivenTo locals peers turn.side turn
GivenAt locals peers Done = Unit {0}
GivenAt locals peers (Failed fault) = Unit {0}

module _ (locals peers : List States) where
  given_begins : (side : Side) (walk : Walking) (ms : List Meeting) (stage : Stage) → TurnBegins walk side ms stage → ((turn : Turn) → BeginsTurn side ms turn → GivenTo locals peers side turn) → GivenAt locals peers stage
  given_begins side walk ms stage b given = subst (GivenAt locals peers) (sym b.is) (subst (λ s. GivenTo locals peers s b.turn) (sym b.begun.of_side) (given b.turn b.begun))

  pub given_settles : (walk : Walking) (found : Option Entry) (old new : Exchanging) (stage : Stage) → SettlesFound walk found old new stage → GivenAt locals peers stage
  given_settles walk found old new stage (none_found none same is) = subst (GivenAt locals peers) (sym is) tt
  given_settles walk found old new stage (equal e some differs same is) = subst (GivenAt locals peers) (sym is) tt
  given_settles walk found old new stage (waits e some differs same low is) = subst (GivenAt locals peers) (sym is) tt
  given_settles walk found old new stage (fills e entries some differs full list one same is) = subst (GivenAt locals peers) (sym is) tt

  -- without a question
  pub given_alone : (work : Exchanging) (stage : Stage) (work' : Exchanging) (stage' : Stage) → GoesAlone work stage work' stage' → GivenAt locals peers stage → GivenAt locals peers stage'
  given_alone work (Descends level) work' stage' g given = subst (GivenAt locals peers) (sym g.1) tt
  given_alone work (Walks walk) work' stage' (goes_on walk' found g settles) given = given_settles walk' found work work' stage' settles
  given_alone work (Walks walk) work' stage' (last entries walked list one same is) given = subst (GivenAt locals peers) (sym is) tt
  given_alone work (Walks walk) work' stage' (ends walked none same is) given = subst (GivenAt locals peers) (sym is) tt
  given_alone work (Carries walk turn count) work' stage' (counts side adds is) given = subst (GivenAt locals peers) (sym is) tt
  given_alone work (Carries walk turn count) work' stage' (turns side same begins) given =
      let here : GivenTo locals peers AtLocal turn = subst (λ s. GivenTo locals peers s turn) side given in
      let ms = noted AtLocal turn.meetings.items turn.told.items in
      given_begins AtPeer walk ms stage' begins (λ next b. subst (Each (λ p. Given locals p.0 p.1)) (sym b.takes) (gives_good (Given locals) ms (noted_gives turn.meetings.items turn.told.items here.1)))
    where
      noted_gives : (ms : List Meeting) (told : List (Result (Unit {0}) Refusal)) → Each (λ (m : Meeting). IfSome m.give (Given locals m.key)) ms → Each (λ (m : Meeting). IfSome m.give (Given locals m.key)) (noted AtLocal ms told)
      noted_gives [] told each = tt
      noted_gives (m ∷ ms) told each = (each.0, noted_gives ms (Rattle.mvd_sync.specs.Meetings.rest_if m.asked told) each.1)
  given_alone work (Meets walk entries) work' stage' never given = absurd never
  given_alone work Done work' stage' never given = absurd never
  given_alone work (Failed fault) work' stage' never given = absurd never

  was_held : (moments : List States) (first final : States) (key : Key) (state : State) → StateAt moments first final key state → WasHeld moments (key, state)
  was_held moments first final key state at = (at.0, at.1.among, at.2)

  -- it was planned
  pub given_met : (number : Option ℕ) (walk : Walking) (entries : List Entry) (mine theirs : List State) (ms : List Meeting) (stage : Stage) (a a' b b' : States) → ForEach (StateAt locals a a') (held_keys AtLocal entries) mine → ForEach (StateAt peers b b') (held_keys AtPeer entries) theirs
      → ArePlans number entries mine theirs ms → TurnBegins walk AtLocal ms stage → GivenAt locals peers stage
  given_met number walk entries mine theirs ms stage a a' b b' p q plans begins =
      let G : Key → State → Type 0 = λ key state. WasHeld locals (key, state) in
      let H : Key → State → Type 0 = λ key state. WasHeld peers (key, state) in
      let gives = gives_given G number entries mine theirs ms (each_may (StateAt locals a a') G (was_held locals a a') (held_keys AtLocal entries) mine p) plans in
      let pulls = pulls_given H number entries mine theirs ms (each_may (StateAt peers b b') H (was_held peers b b') (held_keys AtPeer entries) theirs q) plans in
      given_begins AtLocal walk ms stage begins (λ turn begun. (
        subst (Each (λ p. Given peers p.0 p.1)) (sym begun.takes) (pulls_good (Given peers) ms pulls),
        subst (Each (λ (m : Meeting). IfSome m.give (Given locals m.key))) (sym begun.keys) (taken_gives ms gives),
      ))
    where
      taken_gives : (ms : List Meeting) → Each (λ (m : Meeting). IfSome m.give (Given locals m.key)) ms → Each (λ (m : Meeting). IfSome m.give (Given locals m.key)) (map (taken_from AtLocal) ms)
      taken_gives [] each = tt
      taken_gives (m ∷ ms) each = (each.0, taken_gives ms each.1)

  -- more of it was told
  pub given_same : (side : Side) (turn after : Turn) → IsSameTurn turn after → turn.side ≡ side → GivenTo locals peers side turn → GivenTo locals peers side after
  given_same AtLocal turn after same is given = (
    subst (Each (λ p. Given peers p.0 p.1)) (λ i. (sym same.takes i).items) given.0,
    subst (Each (λ (m : Meeting). IfSome m.give (Given locals m.key))) (λ i. (sym same.keys i).items) given.1,
  )
  given_same AtPeer turn after same is given = subst (Each (λ p. Given locals p.0 p.1)) (λ i. (sym same.takes i).items) given

  -- each of them is valid
  pub given_valid : (side : Side) (turn : Turn) → GivenTo locals peers side turn → Each (λ p. IsValid p.1) turn.pairs.items
  given_valid AtLocal turn given = Rattle.mvd_sync.proofs.Keys.Each-weaker (λ (p : Key × State). Given peers p.0 p.1) (λ p. IsValid p.1) (λ p g. g.1) turn.pairs.items given.0
  given_valid AtPeer turn given = Rattle.mvd_sync.proofs.Keys.Each-weaker (λ (p : Key × State). Given locals p.0 p.1) (λ p. IsValid p.1) (λ p g. g.1) turn.pairs.items given
