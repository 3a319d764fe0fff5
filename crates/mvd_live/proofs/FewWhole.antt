-- From the beginning of a session on: how many questions it asks.
use Rattle.std.proofs.Common.{◌≡◌, ◌⊎◌, inl, inr, ℕ, ◌+◌, ◌*◌, ◌≤◌, true, cond, List, [], ◌∷◌, ◌++◌, drop, length, take, refl, sym, ap, subst, ◌∙◌, arith, Some, None, Option, length-append, length-drop}
use Rattle.std.specs.Prelude.{Contains, Ok}
use Rattle.std.proofs.lemmas.Bool.{cases_lt}
use Rattle.std.proofs.lemmas.List.{length-take-le}
use Rattle.std.proofs.lemmas.List.Elements.{Contains-append_left, Contains-append_right}
use Rattle.mvd_keys.specs.Writes.{Key}
use Rattle.mvd_site.specs.Held.{States}
use Rattle.mvd_peer.specs.Live.{Grows}
use Rattle.mvd_peer.specs.PushedStates.{Each}
use Rattle.mvd_peer.specs.Sides.{Two, two}
use Rattle.mvd_sync.specs.Exchanges.{Exchanging, IsHeldByEither}
use Rattle.mvd_sync.specs.Machines.{AsksForNext, CarriedOn, HasNext, HearsAt, Machining, StageAsks, StageWent, TakesShares, both, cut as cut_at, goes, is_same, met as met_first, no_room as no_place, of_local, of_other, of_peer, of_side, other_of, share_of, told_by_side, wanted_count, whole as uncut}
use Rattle.mvd_sync.specs.OneTurn.{untold}
use Rattle.mvd_peer.specs.Asking.{Wanted}
use Rattle.mvd_sync.specs.Walking.{Walking}
use Rattle.mvd_sync.specs.declared.asked.Step.{Step}
use Rattle.mvd_sync.specs.declared.asking.Questions.{Questions}
use Rattle.mvd_sync.specs.declared.report.Side.{Side}
use Rattle.mvd_sync.specs.declared.report.Side.TheVariants.{Local as AtLocal, Peer as AtPeer}
use Rattle.mvd_sync.specs.declared.stage.Stage.{Stage}
use Rattle.mvd_sync.specs.declared.stage.Stage.TheVariants.{Descends, Walks, Meets, Carries, Done, Failed}
use Rattle.mvd_sync.specs.declared.telling.Answers.{Answers}
use Rattle.mvd_sync.specs.declared.telling.Share.{Share}
use Rattle.mvd_sync.specs.declared.telling.Shares.{Shares}
use Rattle.mvd_peer.specs.declared.window.Told.{Told}
use Rattle.mvd_sync.specs.declared.turn.Turn.{Turn}
use Rattle.mvd_sync.proofs.Stages.{plan_keys, same_length}
use Rattle.mvd_live.specs.Few.{AsksFew, HasAllThatDiffered, HasLacked, HaveLacked, asked_local, asked_peer, questions_in}
use Rattle.mvd_live.specs.Runs.{GoesOnAsking, StartsRun, TakesLeg, Leg, RunsLegs, Standing, all_locals, all_peers, both_asked}
use Rattle.mvd_live.proofs.FewAgain.{Kept, KeptAt, cut_few, first_asked, kept_hears, kept_went, split_hears}
use Rattle.mvd_live.proofs.FewNodes.{first_few, level_few}
use Rattle.mvd_live.proofs.FewStages.{FewAt, held_short, local_begins, settle_few, stands_less, told_few, turn_owes, wants_few, went_few}
use Rattle.mvd_live.proofs.Moments.{Frame}
use Rattle.mvd_live.proofs.Steps.{HeardBoth, nodes_here, nodes_there, pages_here, pages_there}
use Rattle.mvd_live.proofs.Runner.{asks_named}
use Rattle.mvd_live.proofs.Whole.{Amid, amid_leg, first_amid, frame, grows_self, grown, heard_both, taken}

-- ---- one window

-- as many answers as pushes were wanted came of the turn
more_told : (turn after : Turn) (count answers : ℕ) → length after.told.items ≡ length turn.told.items + answers → after.pairs ≡ turn.pairs → count ≤ answers → count ≤ length (untold turn) → count + length (untold after) ≤ length (untold turn)
more_told turn after count answers told pairs enough within =
    let n : length (untold after) ≡ length (drop (length after.told.items) turn.pairs.items) = ap (λ ps. length (drop (length after.told.items) ps)) (λ i. (pairs i).items) in
    let m = length-drop (length after.told.items) turn.pairs.items in
    let k = length-drop (length turn.told.items) turn.pairs.items in
    omega (arith, n, m, k, told, enough, within)

module _ (f : Frame) (differed : List Key) (all : HasAllThatDiffered f.locals f.peers differed) (most : Two ℕ ℕ) (side : Side) (left left' : Questions) (answers : Answers) (shares : Shares) (asked asked' : ℕ) where
  wanted_share : (stage : Stage) (other : Side) → TakesShares stage left left' shares → (share_of other shares).wanted ≡ wanted_count other stage
  wanted_share stage AtLocal t = t.wanted.0
  wanted_share stage AtPeer t = t.wanted.1

  itself : (side : Side) → is_same side side ≡ true
  itself AtLocal = refl
  itself AtPeer = refl

  carried : (work : Exchanging) (walk : Walking) (turn : Turn) (count : ℕ) (share : Share) (told other : Option Told) (stage' : Stage) → share.wanted ≡ count → asked' ≤ asked + cond (is_same turn.side side) count 0 → CarriedOn walk turn share told other (Ok stage')
      → FewAt f differed side asked work (Carries walk turn count) → FewAt f differed side asked' work stage'
  carried work walk turn count share told other stage' wants spent (of_other refusal none is) few = absurd (cc)
  carried work walk turn count share told other stage' wants spent (of_side refusal why is) few = absurd (cc)
  carried work walk turn count share told other stage' wants spent (goes stage none p is) few =
      let same : stage' ≡ stage = cc in
      let told = ap length p.more ∙ length-append turn.told.items p.answers in
      let n = more_told turn p.after count (length p.answers) told p.same.takes (let c = p.counted in let w = p.whole in omega (arith, c, w, wants)) few.1 in
      let owes : asked' + turn_owes side turn.side p.after ≤ asked + turn_owes side turn.side turn = by side turn.side spent n in
      subst (FewAt f differed side asked' work) (sym (same ∙ p.goes)) (
        stands_less f differed side asked asked' work.waiting work.waiting (turn_owes side turn.side turn) (turn_owes side p.after.side p.after) walk few.0
            (subst (λ s. asked' + 2 * length work.waiting + turn_owes side s p.after ≤ asked + 2 * length work.waiting + turn_owes side turn.side turn) (sym p.same.of_side) (omega (arith, owes))),
        p.window.within,
      )
    where
      keys : (after : Turn) → after.meetings ≡ turn.meetings → length after.meetings.items ≡ length turn.meetings.items
      keys after same = λ i. length (same i).items

      by : (side other : Side) → asked' ≤ asked + cond (is_same other side) count 0 → count + length (untold p.after) ≤ length (untold turn) → asked' + turn_owes side other p.after ≤ asked + turn_owes side other turn
      by AtLocal AtLocal spent n = omega (arith, spent, n)
      by AtLocal AtPeer spent n = omega (arith, spent)
      by AtPeer AtLocal spent n = let k = keys p.after p.same.keys in omega (arith, spent, k)
      by AtPeer AtPeer spent n = omega (arith, spent, n)

  -- THE ANSWERS WERE TAKEN
  pub hears_few : (work work' : Exchanging) (stage stage' : Stage) → StageAsks stage → HeardBoth f most left stage answers → TakesShares stage left left' shares → (heard : HearsAt work stage shares answers work' (Ok stage')) → asked' ≤ asked + first_asked side work work' stage stage' shares answers heard
      → FewAt f differed side asked work stage → FewAt f differed side asked' work' stage'
  hears_few work work' (Descends level) stage' asks h t (same, both mine theirs m s (after, goes_on, is)) spent few =
      subst (FewAt f differed side asked' work') (sym is) (
        level_few f differed all asked asked' level mine.items theirs.items few.0 asks (nodes_here f most left left' answers shares level h t mine.items m) (nodes_there f most left left' answers shares level h t theirs.items s) spent after goes_on,
        ap (λ (w : Exchanging). w.waiting) same ∙ few.1,
      )
  hears_few work work' (Descends level) stage' asks h t (same, of_local refusal m is) spent few = absurd (cc)
  hears_few work work' (Descends level) stage' asks h t (same, of_peer mine refusal m s is) spent few = absurd (cc)
  hears_few work work' (Walks walk) stage' asks h t (both mine theirs m s (after, found, told, settled)) spent few =
      settle_few f differed side asked' after found work work' stage' settled
      (told_few f differed side asked asked' work.waiting walk after mine.items theirs.items found (pages_here f most left left' answers shares walk h t mine.items m) (pages_there f most left left' answers shares walk h t theirs.items s) told spent few)
  hears_few work work' (Walks walk) stage' asks h t (of_local refusal m is) spent few = absurd (cc)
  hears_few work work' (Walks walk) stage' asks h t (of_peer mine refusal m s is) spent few = absurd (cc)
  hears_few work work' (Meets walk entries) stage' asks h t (uncut none (both mine theirs m s (meetings, plans, begins, next))) spent few =
      let n : length meetings ≡ length entries.items = same_length meetings entries.items (plan_keys work.number entries.items mine.items theirs.items meetings plans) in
      let k = held_short side entries.items in
      let w : length work'.waiting ≡ length work.waiting = λ i. length (next i).waiting in
      local_begins f differed side asked' work' walk meetings stage' begins
      (stands_less f differed side asked asked' work.waiting work'.waiting (2 * length entries.items) (length meetings) walk few (omega (arith, n, k, w, spent)))
  hears_few work work' (Meets walk entries) stage' asks h t (uncut none (of_local refusal m is)) spent few = absurd (cc)
  hears_few work work' (Meets walk entries) stage' asks h t (uncut none (of_peer mine refusal m s is)) spent few = absurd (cc)
  hears_few work work' (Meets walk entries) stage' asks h t (cut_at count cut (met_first (both mine theirs m s (meetings, plans, begins, next)))) spent few =
      let ones = take count entries.items in
      let others = drop count entries.items in
      let n : length meetings ≡ length ones = same_length meetings ones (plan_keys work.number ones mine.items theirs.items meetings plans) in
      let k = held_short side ones in
      let less = cut.less in
      let c = length-take-le count entries.items (omega (arith, less)) in
      let d = length-drop count entries.items in
      let w : length work'.waiting ≡ length (others ++ work.waiting) = λ i. length (next i).waiting in
      let l = length-append others work.waiting in
      local_begins f differed side asked' work' walk meetings stage' begins
      (stands_less f differed side asked asked' work.waiting work'.waiting (2 * length entries.items) (length meetings) walk few (omega (arith, n, k, less, c, d, w, l, spent)))
  hears_few work work' (Meets walk entries) stage' asks h t (cut_at count cut (met_first (of_local refusal m is))) spent few = absurd (cc)
  hears_few work work' (Meets walk entries) stage' asks h t (cut_at count cut (met_first (of_peer mine refusal m s is))) spent few = absurd (cc)
  hears_few work work' (Meets walk entries) stage' asks h t (cut_at count cut (no_place is)) spent few = absurd (cc)
  hears_few work work' (Carries walk turn count) stage' asks h t (same, on) spent few =
      let wants : (share_of turn.side shares).wanted ≡ count = wanted_share (Carries walk turn count) turn.side t ∙ ap (λ b. cond b count 0) (itself turn.side) in
      subst (λ (w : Exchanging). FewAt f differed side asked' w stage') (sym same)
      (carried work walk turn count (share_of turn.side shares) (told_by_side turn.side answers) (told_by_side (other_of turn.side) answers) stage' wants spent on few)
  hears_few work work' Done stage' asks h t never spent few = absurd never
  hears_few work work' (Failed fault) stage' asks h t never spent few = absurd never

-- ---- the questions of a window

-- those of a window to a side
abbrev questions_at : Side → Two Wanted Wanted → ℕ
questions_at AtLocal asks = questions_in asks.local
questions_at AtPeer asks = questions_in asks.peer

both_few : (side : Side) (old asking : Machining) (asks : Two Wanted Wanted) → GoesOnAsking old asking asks → questions_at side asks ≤ wanted_count side asking.stage
both_few AtLocal old asking asks next = subst (λ w. questions_in w ≤ wanted_count AtLocal asking.stage) (sym next.local) (cut_few AtLocal asking.left.local asking.stage)
both_few AtPeer old asking asks next = subst (λ w. questions_in w ≤ wanted_count AtPeer asking.stage) (sym next.peer) (cut_few AtPeer asking.left.peer asking.stage)

pub step_few : (side : Side) (old asking : Machining) (step : Step) → HasNext old asking (Some step) → questions_at side (both_asked step) ≤ wanted_count side asking.stage
step_few side old asking step next = both_few side old asking (both_asked step) (asks_named old asking step next)

-- ---- all windows

-- HOW MANY WERE ASKED so far: few for the first time, and few of them again
pub record Counted (f : Frame) (differed : List Key) (asked : Two ℕ ℕ) (Lacked : Type 0) (work : Exchanging) (stage : Stage) : Type 0 where
  pub first : Two ℕ ℕ
  pub again : Two ℕ ℕ
  pub parts : (asked.local ≡ first.local + again.local) × (asked.peer ≡ first.peer + again.peer)
  pub local : FewAt f differed AtLocal first.local work stage
  pub peer : FewAt f differed AtPeer first.peer work stage
  pub kept : Kept work stage
  pub little : (again.local + work.most ≤ 16 + 7 * (first.local + first.peer)) × (again.peer + work.most ≤ 16 + 7 * (first.local + first.peer))
  pub unheld : 1 ≤ again.local + again.peer → Lacked

module _ (f : Frame) (differed : List Key) (all : HasAllThatDiffered f.locals f.peers differed) where
  went_counted : (asked : Two ℕ ℕ) (Lacked : Type 0) (work : Exchanging) (stage : Stage) (work' : Exchanging) (stage' : Stage) → StageWent work stage work' stage' → Counted f differed asked Lacked work stage → Counted f differed asked Lacked work' stage'
  went_counted asked Lacked work stage work' stage' went c =
      let kept = kept_went work stage work' stage' went c.kept in
      let n = kept.0 in
      let l = c.little in
      record {
        first = c.first;
        again = c.again;
        parts = c.parts;
        local = went_few f differed all AtLocal c.first.local work stage work' stage' went c.local;
        peer = went_few f differed all AtPeer c.first.peer work stage work' stage' went c.peer;
        kept = kept.1;
        little = (omega (arith, n, l.0), omega (arith, n, l.1));
        unheld = c.unheld;
      }

module _ (f : Frame) (differed : List Key) (all : HasAllThatDiffered f.locals f.peers differed) (most : Two ℕ ℕ) (new : Standing) (ends : Grows new.local f.a') (ends' : Grows new.peer f.b') where
  leg_counted : (old : Standing) (leg : Leg) → (at : Amid f old) → (after : Amid f leg.after) → (here : (held : States) → Contains leg.locals held → Contains f.locals held) → (there : (held : States) → Contains leg.peers held → Contains f.peers held) → TakesLeg most old leg
      → (asked : Two ℕ ℕ) (Lacked : Type 0) → Counted f differed asked Lacked old.machine.work old.machine.stage
      → Counted f differed (two (asked.local + questions_in leg.asks.local) (asked.peer + questions_in leg.asks.peer)) (Lacked ⊎ (HasLacked leg.mine ⊎ HasLacked leg.theirs)) leg.after.machine.work leg.after.machine.stage
  leg_counted old leg at after here there g asked Lacked old_counted =
      let answers : Answers = record { mine = leg.mine; theirs = leg.theirs } in
      let t = taken f most old leg at after here there g in
      let c = went_counted f differed all asked Lacked old.machine.work old.machine.stage leg.asking.work leg.asking.stage g.next.went old_counted in
      let s = split_hears leg.asking.left leg.after.machine.left answers t.0 (two (questions_in leg.asks.local) (questions_in leg.asks.peer)) leg.asking.work leg.after.machine.work leg.asking.stage leg.after.machine.stage c.kept t.1 (ap questions_in g.next.local, ap questions_in g.next.peer) t.2 in
      let both = heard_both f most old leg at after here there g in
      let p = c.parts in
      let q = s.parts in
      let l = c.little in
      let k = s.little in
      let w = s.within in
      record {
        first = two (c.first.local + s.first.local) (c.first.peer + s.first.peer);
        again = two (c.again.local + s.again.local) (c.again.peer + s.again.peer);
        parts = (omega (arith, p.0, q.0), omega (arith, p.1, q.1));
        local = hears_few f differed all most AtLocal leg.asking.left leg.after.machine.left answers t.0 c.first.local (c.first.local + s.first.local) leg.asking.work leg.after.machine.work leg.asking.stage leg.after.machine.stage g.next.some both t.1 t.2 (omega (arith, w.0)) c.local;
        peer = hears_few f differed all most AtPeer leg.asking.left leg.after.machine.left answers t.0 c.first.peer (c.first.peer + s.first.peer) leg.asking.work leg.after.machine.work leg.asking.stage leg.after.machine.stage g.next.some both t.1 t.2 (omega (arith, w.1)) c.peer;
        kept = kept_hears leg.asking.work leg.after.machine.work leg.asking.stage leg.after.machine.stage t.0 answers t.2 c.kept;
        little = (omega (arith, l.0, k.0), omega (arith, l.1, k.1));
        unheld = one_lacked c.again s.again Lacked (HasLacked leg.mine ⊎ HasLacked leg.theirs) c.unheld s.unheld;
      }
    where
      one_lacked : (m n : Two ℕ ℕ) (A B : Type 0) → (1 ≤ m.local + m.peer → A) → (1 ≤ n.local + n.peer → B) → 1 ≤ (m.local + n.local) + (m.peer + n.peer) → A ⊎ B
      one_lacked m n A B p q some = elim (cases_lt 0 (m.local + m.peer)) [
        | inl more ↦ inl (p (omega (arith, more)))
        | inr none ↦ inr (q (omega (arith, none, some)))
      ]

  run_counted : (legs : List Leg) (old : Standing) → Amid f old → RunsLegs most old legs new → ((held : States) → Contains (all_locals legs) held → Contains f.locals held) → ((held : States) → Contains (all_peers legs) held → Contains f.peers held)
      → (asked : Two ℕ ℕ) (Lacked : Type 0) → Counted f differed asked Lacked old.machine.work old.machine.stage
      → Counted f differed (two (asked.local + asked_local legs) (asked.peer + asked_peer legs)) (Lacked ⊎ HaveLacked legs) new.machine.work new.machine.stage
  run_counted [] old at run among among' asked Lacked c =
      let p = c.parts in
      subst (λ (m : Machining). Counted f differed (two (asked.local + 0) (asked.peer + 0)) (Lacked ⊎ HaveLacked []) m.work m.stage) (sym run.machine) (record {
        first = c.first;
        again = c.again;
        parts = (omega (arith, p.0), omega (arith, p.1));
        local = c.local;
        peer = c.peer;
        kept = c.kept;
        little = c.little;
        unheld = λ some. inl (c.unheld some);
      })
  run_counted (leg ∷ legs) old at run among among' asked Lacked c =
      let after = amid_leg f most new ends ends' old leg legs at run.0 run.1 in
      let here = λ (held : States) (c : Contains leg.locals held). among held (Contains-append_left leg.locals (all_locals legs) held c) in
      let there = λ (held : States) (c : Contains leg.peers held). among' held (Contains-append_left leg.peers (all_peers legs) held c) in
      let now = leg_counted old leg at after here there run.0 asked Lacked c in
      let rest = run_counted legs leg.after after run.1 (λ held c. among held (Contains-append_right leg.locals (all_locals legs) held c)) (λ held c. among' held (Contains-append_right leg.peers (all_peers legs) held c))
      (two (asked.local + questions_in leg.asks.local) (asked.peer + questions_in leg.asks.peer)) (Lacked ⊎ (HasLacked leg.mine ⊎ HasLacked leg.theirs)) now in
      let p = rest.parts in
      record {
        first = rest.first;
        again = rest.again;
        parts = (omega (arith, p.0), omega (arith, p.1));
        local = rest.local;
        peer = rest.peer;
        kept = rest.kept;
        little = rest.little;
        unheld = λ some. elim (rest.unheld some) [
          | inl (inl before) ↦ inl before
          | inl (inr one) ↦ inr (inl one)
          | inr later ↦ inr (inr later)
        ];
      }

asks_or_done : (now : Machining) (step : Option Step) → AsksForNext now step → StageAsks now.stage ⊎ (now.stage ≡ Done)
asks_or_done now None done = inr done
asks_or_done now (Some step) asks = inl asks.1

module _ (number : Option ℕ) (questions : ℕ) (most : Two ℕ ℕ) (old : Standing) (legs : List Leg) (new : Standing) (begins : StartsRun number questions old) (run : RunsLegs most old legs new) (differed : List Key) (all : HasAllThatDiffered (all_locals legs) (all_peers legs) differed) where
  first_at : (side : Side) → FewAt (frame number questions most old legs new begins run) differed side 0 old.machine.work old.machine.stage
  first_at side = subst (FewAt (frame number questions most old legs new begins run) differed side 0 old.machine.work) (sym begins.starts.stage) (first_few differed, λ i. (begins.starts.work i).waiting)

  none_counted : Counted (frame number questions most old legs new begins run) differed (two 0 0) ⊥ old.machine.work old.machine.stage
  none_counted =
      let n : old.machine.work.most ≡ 16 = λ i. (begins.starts.work i).most in
      record {
        first = two 0 0;
        again = two 0 0;
        parts = (omega arith, omega arith);
        local = first_at AtLocal;
        peer = first_at AtPeer;
        kept = record { waiting = subst (Each IsHeldByEither) (λ i. (sym begins.starts.work i).waiting) tt; at = subst (KeptAt old.machine.work) (sym begins.starts.stage) tt };
        little = (omega (arith, n), omega (arith, n));
        unheld = λ none. absurd (omega (arith, none));
      }

  -- A SESSION ASKS FEW
  pub asks_few : (asking : Machining) (step : Option Step) → HasNext new.machine asking step → AsksFew legs asking new differed
  unfolding frame
  asks_few asking step next =
      let f = frame number questions most old legs new begins run in
      let held = grown number questions most old legs new begins run in
      let counted = run_counted f differed all most new (grows_self new.local held.0.0) (grows_self new.peer held.1.0) legs old (first_amid number questions most old legs new begins run) run (λ held c. c) (λ held c. c) (two 0 0) ⊥ none_counted in
      let c = went_counted f differed all (two (0 + asked_local legs) (0 + asked_peer legs)) (⊥ ⊎ HaveLacked legs) new.machine.work new.machine.stage asking.work asking.stage next.went counted in
      let p = c.parts in
      let l = c.little in
      record {
        first = c.first;
        again = c.again;
        parts = (omega (arith, p.0), omega (arith, p.1));
        local = wants_few f differed AtLocal c.first.local asking.work asking.stage (asks_or_done asking step next.asks) c.local;
        peer = wants_few f differed AtPeer c.first.peer asking.work asking.stage (asks_or_done asking step next.asks) c.peer;
        little = (omega (arith, l.0), omega (arith, l.1));
        unheld = λ some. elim (c.unheld some) [ inl never ↦ absurd never | inr one ↦ one ];
      }
