-- A run with one window more.
use Rattle.std.proofs.Common.{ℕ, List, [], ◌∷◌, ◌++◌, refl, subst, Some, None, Option}
use Rattle.mvd_site.specs.Held.{AreHeld, States}
use Rattle.mvd_peer.specs.Live.{Grows}
use Rattle.mvd_peer.specs.Sides.{Two}
use Rattle.mvd_sync.specs.Machines.{HasNext, Machining}
use Rattle.mvd_sync.specs.declared.asked.Step.{Step}
use Rattle.mvd_peer.specs.Asking.{Wanted}
use Rattle.mvd_peer.specs.declared.window.Told.{Told}
use Rattle.mvd_peer.specs.declared.window.Told.TheVariants as told
use Rattle.mvd_live.specs.Runs.{GoesOnAsking, TakesLeg, IsLater, Leg, RunsLegs, Standing, both_asked}
use Rattle.mvd_live.specs.Told.{LiveTells, TellsNode, TellsNothing, PageTold, TellsPush, StateTold}
use Rattle.mvd_live.proofs.Moments.{grown_on}
use Rattle.mvd_peer.proofs.Telling.{each_since}
use Rattle.mvd_live.proofs.Whole.{grows_self}

nothing_since : (old mid new : States) (moments : List States) → AreHeld old → AreHeld mid → AreHeld new → Grows old mid → TellsNothing mid moments new → TellsNothing old moments new
nothing_since old mid new moments p q r up tells = (tells.0, grown_on old mid new p q r up tells.1)

tells_since : (most : ℕ) (w : Wanted) (t : Option Told) (old mid new : States) (moments : List States) → AreHeld old → AreHeld mid → AreHeld new → Grows old mid → LiveTells most w t mid moments new → LiveTells most w t old moments new
tells_since most w None old mid new moments p q r up tells = nothing_since old mid new moments p q r up tells
tells_since most w (Some (told.Nodes given)) old mid new moments p q r up tells = each_since TellsNode w.nodes given.items old mid new moments p q r up tells
tells_since most w (Some (told.Pages given)) old mid new moments p q r up tells = each_since PageTold w.pages given.items old mid new moments p q r up tells
tells_since most w (Some (told.States given)) old mid new moments p q r up tells = each_since StateTold w.gets given.items old mid new moments p q r up tells
tells_since most w (Some (told.Pushes given)) old mid new moments p q r up tells = each_since (TellsPush most) w.pushes given.items old mid new moments p q r up tells
tells_since most w (Some (told.Refused refusal)) old mid new moments p q r up tells = nothing_since old mid new moments p q r up tells

goes_since : (most : Two ℕ ℕ) (old mid : Standing) (leg : Leg) → AreHeld old.local → AreHeld old.peer → IsLater old mid → TakesLeg most mid leg → TakesLeg most old leg
goes_since most old mid leg p q later g = record {
  next = subst (λ (m : Machining). GoesOnAsking m leg.asking leg.asks) later.machine g.next;
  local = tells_since most.local leg.asks.local leg.mine old.local mid.local leg.after.local leg.locals p later.local.0 g.held.0 later.local.1 g.local;
  peer = tells_since most.peer leg.asks.peer leg.theirs old.peer mid.peer leg.after.peer leg.peers q later.peer.0 g.held.1 later.peer.1 g.peer;
  held = g.held;
  takes = g.takes;
}

-- ONE WINDOW MORE
pub run_more : (most : Two ℕ ℕ) (legs : List Leg) (old mid : Standing) (leg : Leg) → AreHeld old.local → AreHeld old.peer → RunsLegs most old legs mid → TakesLeg most mid leg → RunsLegs most old (legs ++ leg ∷ []) leg.after
run_more most [] old mid leg p q run g = (
  goes_since most old mid leg p q run g,
  record {
    machine = refl;
    local = (g.held.0, grows_self leg.after.local g.held.0);
    peer = (g.held.1, grows_self leg.after.peer g.held.1);
  },
)
run_more most (l ∷ legs) old mid leg p q run g = (run.0, run_more most legs l.after mid leg run.0.held.0 run.0.held.1 run.1 g)

-- and nothing asked, while others write
pub run_none : (most : Two ℕ ℕ) (old : Standing) → AreHeld old.local → AreHeld old.peer → RunsLegs most old [] old
run_none most old p q = record { machine = refl; local = (p, grows_self old.local p); peer = (q, grows_self old.peer q) }

-- what `next` names is asked
pub asks_named : (old asking : Machining) (step : Step) → HasNext old asking (Some step) → GoesOnAsking old asking (both_asked step)
asks_named old asking step next = record { left = next.left; went = next.went; local = next.asks.0.local; peer = next.asks.0.peer; some = next.asks.1 }
