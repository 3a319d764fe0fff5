-- From the beginning of a session to its end, window by window.
use Rattle.std.proofs.Common.{◌≡◌, inl, inr, ℕ, List, [], ◌∷◌, cond, length, take, refl, sym, subst, Some, None, Option}
use Rattle.std.specs.Prelude.{Contains, Ok, Err, Result}
use Rattle.std.proofs.lemmas.List.{take-append-drop}
use Rattle.std.proofs.lemmas.List.Elements.{Contains-append_left, Contains-append_right}
use Rattle.mvd_keys.specs.State.{State}
use Rattle.mvd_keys.specs.Writes.{Key}
use Rattle.mvd_site.specs.Held.{AreHeld, States, state_at}
use Rattle.mvd_peer.proofs.JoinLaws.{valid_at}
use Rattle.mvd_peer.specs.Live.{Grows}
use Rattle.mvd_peer.specs.PushedStates.{Each}
use Rattle.mvd_peer.specs.Sides.{Two}
use Rattle.mvd_sync.proofs.Exchanges.{Counts}
use Rattle.mvd_sync.specs.Exchanges.{Done as DoneKey, Exchanging, left_keys}
use Rattle.mvd_sync.specs.Machines.{HasNext, HearsAt, Machining, StageAsks, StageHears, TakesShares, hears, is_same, quiet, stage_after, stage_told, wanted_at}
use Rattle.mvd_sync.specs.OneTurn.{untold}
use Rattle.mvd_peer.specs.Asking.{Wanted}
use Rattle.mvd_sync.specs.declared.asked.Step.{Step}
use Rattle.mvd_sync.specs.declared.asking.Questions.{Questions}
use Rattle.mvd_sync.specs.declared.report.Side.{Side}
use Rattle.mvd_sync.specs.declared.report.Side.TheVariants.{Local as AtLocal, Peer as AtPeer}
use Rattle.mvd_sync.specs.declared.report.SyncFault.{SyncFault}
use Rattle.mvd_sync.specs.declared.stage.Stage.{Stage}
use Rattle.mvd_sync.specs.declared.stage.Stage.TheVariants.{Descends, Walks, Meets, Carries, Done, Failed}
use Rattle.mvd_sync.specs.declared.telling.Answers.{Answers}
use Rattle.mvd_sync.specs.declared.telling.Shares.{Shares}
use Rattle.mvd_sync.specs.declared.turn.Turn.{Turn}
use Rattle.mvd_sync.proofs.Descents.{Each-right, Each-take}
use Rattle.mvd_sync.proofs.Keys.{Each-weaker}
use Rattle.mvd_live.specs.Lives.{IsGiven, Lives, WasHeld}
use Rattle.mvd_live.specs.Runs.{GoesOnAsking, StartsRun, TakesLeg, Leg, RunsLegs, Standing, all_locals, all_peers, both_asked}
use Rattle.mvd_live.proofs.Fates.{AtStage, Holds, IsGood, went_good, went_holds}
use Rattle.mvd_live.proofs.Given.{Given, GivenAt, GivenTo}
use Rattle.mvd_live.proofs.Heard.{tells_grow}
use Rattle.mvd_live.proofs.Moments.{Frame, grown_on, includes_self}
use Rattle.mvd_live.proofs.Steps.{HeardBoth, hears_good, hears_holds}

-- ---- what is held only grows

pub runs_grow : (most : Two ℕ ℕ) (legs : List Leg) (old new : Standing) → AreHeld old.local → AreHeld old.peer → RunsLegs most old legs new → (AreHeld new.local × Grows old.local new.local) × (AreHeld new.peer × Grows old.peer new.peer)
runs_grow most [] old new p q run = (run.local, run.peer)
runs_grow most (leg ∷ legs) old new p q run =
    let g = run.0 in
    let rest = runs_grow most legs leg.after new g.held.0 g.held.1 run.1 in
    let here = tells_grow most.local leg.asks.local leg.mine old.local leg.after.local leg.locals p g.held.0 g.local in
    let there = tells_grow most.peer leg.asks.peer leg.theirs old.peer leg.after.peer leg.peers q g.held.1 g.peer in (
      (rest.0.0, grown_on old.local leg.after.local new.local p g.held.0 rest.0.0 here rest.0.1),
      (rest.1.0, grown_on old.peer leg.after.peer new.peer q g.held.1 rest.1.0 there rest.1.1),
    )

pub grows_self : (held : States) → AreHeld held → Grows held held
grows_self held form key = includes_self (state_at held key) (valid_at held form key)

-- ---- the answers were taken

pub hears_ok : (result : Result Stage SyncFault) (left : Questions) (work : Exchanging) (stage : Stage) (answers : Answers) (left' : Questions) (work' : Exchanging) → StageHears left work stage answers left' work' result → Ok tt ≡ stage_told result → StageAsks stage
    → (shares : Shares) × TakesShares stage left left' shares × HearsAt work stage shares answers work' (Ok (stage_after result))
hears_ok (Ok stage') left work stage answers left' work' (quiet never same same' is) told asks = absurd (never asks)
hears_ok (Ok stage') left work stage answers left' work' (hears shares asks' takes heard) told asks = (shares, takes, heard)
hears_ok (Err fault) left work stage answers left' work' h told asks = absurd (cc)

-- ---- one window

-- the session stands amid these moments
pub record Amid (f : Frame) (now : Standing) : Type 0 where
  pub local : AreHeld now.local × Grows f.a now.local × Grows now.local f.a'
  pub peer : AreHeld now.peer × Grows f.b now.peer × Grows now.peer f.b'

module _ (f : Frame) (most : Two ℕ ℕ) (old : Standing) (leg : Leg) (at : Amid f old) (after : Amid f leg.after) (among : (held : States) → Contains leg.locals held → Contains f.locals held) (among' : (held : States) → Contains leg.peers held → Contains f.peers held)
    (g : TakesLeg most old leg) where
  pub heard_both : HeardBoth f most leg.asking.left leg.asking.stage (record { mine = leg.mine; theirs = leg.theirs })
  heard_both = record {
    asked = leg.asks;
    local = record {
      old = old.local;
      new = leg.after.local;
      these = leg.locals;
      within = record { first_held = f.fa; last_held = f.fa'; old_held = at.local.0; new_held = after.local.0; since = at.local.1; until = after.local.2; among = among };
      tells = g.local;
    };
    peer = record {
      old = old.peer;
      new = leg.after.peer;
      these = leg.peers;
      within = record { first_held = f.fb; last_held = f.fb'; old_held = at.peer.0; new_held = after.peer.0; since = at.peer.1; until = after.peer.2; among = among' };
      tells = g.peer;
    };
    of_local = g.next.local;
    of_peer = g.next.peer;
  }

  pub taken : (shares : Shares) × TakesShares leg.asking.stage leg.asking.left leg.after.machine.left shares × HearsAt leg.asking.work leg.asking.stage shares (record { mine = leg.mine; theirs = leg.theirs }) leg.after.machine.work (Ok leg.after.machine.stage)
  taken =
      let t = hears_ok g.takes.after leg.asking.left leg.asking.work leg.asking.stage (record { mine = leg.mine; theirs = leg.theirs }) leg.after.machine.left leg.after.machine.work g.takes.hears g.takes.is g.next.some in
      (t.0, t.1, subst (λ s. HearsAt leg.asking.work leg.asking.stage t.0 (record { mine = leg.mine; theirs = leg.theirs }) leg.after.machine.work (Ok s)) (sym g.takes.stage) t.2)

  pub asked_good : IsGood f most old.machine.stage → IsGood f most leg.asking.stage
  asked_good good = went_good f most old.machine.work old.machine.stage leg.asking.work leg.asking.stage g.next.went good

  pub leg_good : IsGood f most old.machine.stage → IsGood f most leg.after.machine.stage
  leg_good good =
      hears_good f most leg.asking.left leg.after.machine.left (record { mine = leg.mine; theirs = leg.theirs }) taken.0 leg.asking.work leg.after.machine.work leg.asking.stage leg.after.machine.stage heard_both taken.1 taken.2 (asked_good good)

  pub leg_holds : IsGood f most old.machine.stage → (done : List DoneKey) → Holds f most done old.machine.work old.machine.stage → (now : List DoneKey) × Holds f most now leg.after.machine.work leg.after.machine.stage
  leg_holds good done holds =
      let went = went_holds f most done old.machine.work old.machine.stage leg.asking.work leg.asking.stage g.next.went good holds in
      (went.0, hears_holds f most leg.asking.left leg.after.machine.left (record { mine = leg.mine; theirs = leg.theirs }) taken.0 went.0 leg.asking.work leg.after.machine.work leg.asking.stage leg.after.machine.stage g.next.some heard_both taken.1 taken.2 (asked_good good) went.1)

-- ---- all windows

module _ (f : Frame) (most : Two ℕ ℕ) (new : Standing) (ends : Grows new.local f.a') (ends' : Grows new.peer f.b') where
  amid_next : (legs : List Leg) (now : Standing) → AreHeld now.local → AreHeld now.peer → Grows f.a now.local → Grows f.b now.peer → RunsLegs most now legs new → Amid f now
  amid_next legs now p q up up' run =
      let g = runs_grow most legs now new p q run in
      record {
        local = (p, up, grown_on now.local new.local f.a' p g.0.0 f.fa' g.0.1 ends);
        peer = (q, up', grown_on now.peer new.peer f.b' q g.1.0 f.fb' g.1.1 ends');
      }

  pub amid_leg : (old : Standing) (leg : Leg) (legs : List Leg) → Amid f old → TakesLeg most old leg → RunsLegs most leg.after legs new → Amid f leg.after
  amid_leg old leg legs at g run = amid_next legs leg.after g.held.0 g.held.1
      (grown_on f.a old.local leg.after.local f.fa at.local.0 g.held.0 at.local.1 (tells_grow most.local leg.asks.local leg.mine old.local leg.after.local leg.locals at.local.0 g.held.0 g.local))
      (grown_on f.b old.peer leg.after.peer f.fb at.peer.0 g.held.1 at.peer.1 (tells_grow most.peer leg.asks.peer leg.theirs old.peer leg.after.peer leg.peers at.peer.0 g.held.1 g.peer)) run

  pub run_good : (legs : List Leg) (old : Standing) → Amid f old → RunsLegs most old legs new → ((held : States) → Contains (all_locals legs) held → Contains f.locals held) → ((held : States) → Contains (all_peers legs) held → Contains f.peers held) → IsGood f most old.machine.stage → IsGood f most new.machine.stage
  run_good [] old at run among among' good = subst (λ (m : Machining). IsGood f most m.stage) (sym run.machine) good
  run_good (leg ∷ legs) old at run among among' good =
      let after = amid_leg old leg legs at run.0 run.1 in
      run_good legs leg.after after run.1 (λ held c. among held (Contains-append_right leg.locals (all_locals legs) held c)) (λ held c. among' held (Contains-append_right leg.peers (all_peers legs) held c))
      (leg_good f most old leg at after (λ held c. among held (Contains-append_left leg.locals (all_locals legs) held c)) (λ held c. among' held (Contains-append_left leg.peers (all_peers legs) held c)) run.0 good)

  pub run_holds : (legs : List Leg) (old : Standing) → Amid f old → RunsLegs most old legs new → ((held : States) → Contains (all_locals legs) held → Contains f.locals held) → ((held : States) → Contains (all_peers legs) held → Contains f.peers held) → IsGood f most old.machine.stage
      → (done : List DoneKey) → Holds f most done old.machine.work old.machine.stage → (now : List DoneKey) × Holds f most now new.machine.work new.machine.stage
  run_holds [] old at run among among' good done holds = (done, subst (λ (m : Machining). Holds f most done m.work m.stage) (sym run.machine) holds)
  run_holds (leg ∷ legs) old at run among among' good done holds =
      let after = amid_leg old leg legs at run.0 run.1 in
      let here = λ (held : States) (c : Contains leg.locals held). among held (Contains-append_left leg.locals (all_locals legs) held c) in
      let there = λ (held : States) (c : Contains leg.peers held). among' held (Contains-append_left leg.peers (all_peers legs) held c) in
      let next = leg_holds f most old leg at after here there run.0 good done holds in
      run_holds legs leg.after after run.1 (λ held c. among held (Contains-append_right leg.locals (all_locals legs) held c)) (λ held c. among' held (Contains-append_right leg.peers (all_peers legs) held c))
      (leg_good f most old leg at after here there run.0 good) next.0 next.1

-- ---- what is pushed

each_untold : (P : Key × State → Type 0) (turn : Turn) (count : ℕ) → Each P turn.pairs.items → Each P (take count (untold turn))
each_untold P turn count each =
    Each-take P count (untold turn) (Each-right P (take (length turn.told.items) turn.pairs.items) (untold turn) (subst (Each P) (sym (take-append-drop (length turn.told.items) turn.pairs.items)) each))

module _ (locals peers : List States) where
  turn_local : (side : Side) (turn : Turn) (count : ℕ) → GivenTo locals peers side turn → Each (WasHeld peers) (cond (is_same side AtLocal) (take count (untold turn)) [])
  turn_local AtLocal turn count given = each_untold (WasHeld peers) turn count (Each-weaker (λ p. Given peers p.0 p.1) (WasHeld peers) (λ p g. g.0) turn.pairs.items given.0)
  turn_local AtPeer turn count given = tt

  turn_peer : (side : Side) (turn : Turn) (count : ℕ) → GivenTo locals peers side turn → Each (WasHeld locals) (cond (is_same side AtPeer) (take count (untold turn)) [])
  turn_peer AtLocal turn count given = tt
  turn_peer AtPeer turn count given = each_untold (WasHeld locals) turn count (Each-weaker (λ p. Given locals p.0 p.1) (WasHeld locals) (λ p g. g.0) turn.pairs.items given)

  wanted_local : (stage : Stage) → GivenAt locals peers stage → Each (WasHeld peers) (wanted_at AtLocal stage).pushes
  wanted_local (Descends level) given = tt
  wanted_local (Walks walk) given = tt
  wanted_local (Meets walk entries) given = tt
  wanted_local (Carries walk turn count) given = turn_local turn.side turn count given
  wanted_local Done given = tt
  wanted_local (Failed fault) given = tt

  wanted_peer : (stage : Stage) → GivenAt locals peers stage → Each (WasHeld locals) (wanted_at AtPeer stage).pushes
  wanted_peer (Descends level) given = tt
  wanted_peer (Walks walk) given = tt
  wanted_peer (Meets walk entries) given = tt
  wanted_peer (Carries walk turn count) given = turn_peer turn.side turn count given
  wanted_peer Done given = tt
  wanted_peer (Failed fault) given = tt

-- ---- from the beginning

module _ (number : Option ℕ) (questions : ℕ) (most : Two ℕ ℕ) (old : Standing) (legs : List Leg) (new : Standing) (begins : StartsRun number questions old) (run : RunsLegs most old legs new) where
  pub grown : (AreHeld new.local × Grows old.local new.local) × (AreHeld new.peer × Grows old.peer new.peer)
  grown = runs_grow most legs old new begins.local begins.peer run

  unfoldable pub frame : Frame
  frame = record {
    a = old.local;
    b = old.peer;
    a' = new.local;
    b' = new.peer;
    fa = begins.local;
    fb = begins.peer;
    fa' = grown.0.0;
    fb' = grown.1.0;
    up = grown.0.1;
    up' = grown.1.1;
    locals = all_locals legs;
    peers = all_peers legs;
  }

  pub first_amid : Amid frame old
  unfolding frame
  first_amid = record {
    local = (begins.local, grows_self old.local begins.local, grown.0.1);
    peer = (begins.peer, grows_self old.peer begins.peer, grown.1.1);
  }

  first_good : IsGood frame most old.machine.stage
  first_good = subst (IsGood frame most) (sym begins.starts.stage) (record { given = tt; caused = tt })

  first_holds : Holds frame most [] old.machine.work old.machine.stage
  first_holds = record {
    causes = tt;
    counted = subst (Counts []) (sym begins.starts.work) (record { keys = refl; refused = refl; first_refused = refl; older = refl });
    each = λ apart key. inr (inr (subst (AtStage frame key old.machine.work.waiting) (sym begins.starts.stage) (inl (inl (refl, refl)))));
  }

  -- A SESSION LIVES
  pub lives : (done : Machining) → HasNext new.machine done None → Lives most (all_locals legs) (all_peers legs) old new done.work
  unfolding frame
  lives done next =
      let f = frame in
      let held = run_holds f most new (grows_self new.local grown.0.0) (grows_self new.peer grown.1.0) legs old first_amid run (λ held c. c) (λ held c. c) first_good [] first_holds in
      let good = run_good f most new (grows_self new.local grown.0.0) (grows_self new.peer grown.1.0) legs old first_amid run (λ held c. c) (λ held c. c) first_good in
      let last = went_holds f most held.0 new.machine.work new.machine.stage done.work done.stage next.went good held.1 in
      record {
        left = left_keys last.0;
        counted = (last.1.counted.refused, last.1.counted.first_refused);
        causes = last.1.causes;
        both = λ apart key. elim (last.1.each apart key) [
          | inl left ↦ inl left
          | inr (inl had) ↦ inr had
          | inr (inr at) ↦ absurd (subst (AtStage f key done.work.waiting) next.asks at)
        ];
      }

  -- nothing that is asked of both is made up
  pub given_so : (asking : Machining) (asks : Two Wanted Wanted) → GoesOnAsking new.machine asking asks → Each (WasHeld (all_peers legs)) asks.local.pushes × Each (WasHeld (all_locals legs)) asks.peer.pushes
  unfolding frame
  given_so asking asks next =
      let before = run_good frame most new (grows_self new.local grown.0.0) (grows_self new.peer grown.1.0) legs old first_amid run (λ held c. c) (λ held c. c) first_good in
      let now = (went_good frame most new.machine.work new.machine.stage asking.work asking.stage next.went before).given in (
        subst (Each (WasHeld (all_peers legs))) (λ i. (sym next.local i).pushes) (Each-take (WasHeld (all_peers legs)) asking.left.local (wanted_at AtLocal asking.stage).pushes (wanted_local (all_locals legs) (all_peers legs) asking.stage now)),
        subst (Each (WasHeld (all_locals legs))) (λ i. (sym next.peer i).pushes) (Each-take (WasHeld (all_locals legs)) asking.left.peer (wanted_at AtPeer asking.stage).pushes (wanted_peer (all_locals legs) (all_peers legs) asking.stage now)),
      )

  -- NOTHING IS MADE UP
  pub given : (asking : Machining) (step : Step) → HasNext new.machine asking (Some step) → IsGiven (all_locals legs) (all_peers legs) step
  given asking step next =
      let it = given_so asking (both_asked step) (record { left = next.left; went = next.went; local = next.asks.0.local; peer = next.asks.0.peer; some = next.asks.1 }) in
      record { to_local = it.0; to_peer = it.1 }
