-- What a session that asked two live sides itself, with no fault, has come to.
use Rattle.std.specs.Prelude.{◌≡◌, ℕ, List, None}
use Rattle.mvd_keys.specs.Writes.{Key}
use Rattle.mvd_site.specs.Held.{States}
use Rattle.mvd_peer.specs.PushedStates.{Each}
use Rattle.mvd_peer.specs.Sides.{Sides, Two, two}
use Rattle.mvd_sync.specs.Machines.{HasNext, Machining}
use Rattle.mvd_sync.specs.declared.report.Report.{Report}
use Rattle.mvd_live.specs.Few.{AsksFew, HasAllThatDiffered}
use Rattle.mvd_live.specs.Lives.{Lives, WasHeld}
use Rattle.mvd_live.specs.Runs.{Leg, RunsLegs, Standing, StartsRun, all_locals, all_peers}

-- how far a session of two sides is, and what these hold
abbrev pub standing_over : {L P : Type 0} → Sides L P → Machining → Two L P → Standing
standing_over s machine at =
    record { machine = machine; local = s.local.states at.local; peer = s.peer.states at.peer }

-- how many keys each holds at most
abbrev pub most_over : {L P : Type 0} → Sides L P → Two L P → Two ℕ ℕ
most_over s at = two (s.local.most_keys at.local) (s.peer.most_keys at.peer)

-- each state that was pushed is what the other side told of that key, at a moment of this session
abbrev pub AreAllGiven : (locals peers : List States) → List Leg → Type 0
AreAllGiven locals peers legs = Each (λ (leg : Leg). Each (WasHeld peers) leg.asks.local.pushes
    × Each (WasHeld locals) leg.asks.peer.pushes) legs

-- A SESSION OF TWO LIVE SIDES, from its first question to its report, whoever writes to them meanwhile: it is a run of
-- the machine, both sides are live still, of each key that the report does not leave both have what either had as it
-- began, no state was made up, and few questions were asked
pub record LivesOver {L P : Type 0} (s : Sides L P) (questions : ℕ) (old new : Two L P) (report : Report) : Type 0 where
  pub first : Machining
  pub last : Machining
  pub done : Machining
  pub legs : List Leg
  pub begins : StartsRun (s.local.number old.local) questions (standing_over s first old)
  pub runs : RunsLegs (most_over s old) (standing_over s first old) legs (standing_over s last new)
  pub ends : HasNext last done None
  pub live : s.local.is_live new.local × s.peer.is_live new.peer
  pub reports : (report.keys ≡ done.work.keys) × (report.refused ≡ done.work.refused)
      × (report.old ≡ done.work.older) × (report.first_refused ≡ done.work.first_refused)
  pub lives : Lives (most_over s old) (all_locals legs) (all_peers legs) (standing_over s first old)
      (standing_over s last new) done.work
  pub given : AreAllGiven (all_locals legs) (all_peers legs) legs
  pub few : (differed : List Key) → HasAllThatDiffered (all_locals legs) (all_peers legs) differed
      → AsksFew legs done (standing_over s last new) differed
