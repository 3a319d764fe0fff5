-- Each key that is left is left for a cause.
use Rattle.std.proofs.Common.{◌≡◌, ℕ, zero, suc, true, true≢false, List, [], ◌∷◌, ◌++◌, length, map, filter_map, take, drop, refl, sym, ap, subst, ◌∙◌, Some, None, Option, option_map}
use Rattle.std.specs.Prelude.{All, IfSome, Result, Ok, Err, is_some}
use Rattle.std.specs.List.{cons_option}
use Rattle.std.proofs.lemmas.List.Elements.{filter_map-append}
use Rattle.mvd_dots.specs.declared.refusals.Refusal.{Refusal}
use Rattle.mvd_keys.specs.State.{State, clashes}
use Rattle.mvd_keys.specs.Writes.{Key}
use Rattle.mvd_keys.proofs.Joins.{apart_empty, empty_apart}
use Rattle.mvd_site.specs.Held.{States, state_at}
use Rattle.mvd_peer.specs.Live.{AtSomeMoment}
use Rattle.mvd_peer.specs.PushedStates.{Each}
use Rattle.mvd_peer.specs.Sides.{Two, is_of_key}
use Rattle.mvd_peer.specs.Windows.{CannotTake, ForEach}
use Rattle.mvd_sync.specs.Exchanges.{Done as DoneKey, Exchanging, left_as, left_keys, left_of}
use Rattle.mvd_sync.specs.Machines.{GoesAlone, SettlesFound, TurnBegins, counts, ends, equal, fills, goes_on, last, none_found, turns, waits}
use Rattle.mvd_sync.specs.Meetings.{ArePlans, Trades, clash as clashing, done_of, first_if, has, held_keys, meet, noted, noted_refusal, or_empty, pushed_pair, rest_if, taken_from, wanted}
use Rattle.mvd_sync.specs.OneTurn.{IsSameTurn, untold}
use Rattle.mvd_sync.specs.Questions.{IsOfKey}
use Rattle.mvd_sync.specs.Walking.{Walking}
use Rattle.mvd_sync.specs.declared.cursor.Entry.{Entry}
use Rattle.mvd_sync.specs.declared.meetings.Meeting.{Meeting}
use Rattle.mvd_sync.specs.declared.report.Left.{Left}
use Rattle.mvd_sync.specs.declared.report.Side.{Side}
use Rattle.mvd_sync.specs.declared.report.Side.TheVariants.{Local as AtLocal, Peer as AtPeer}
use Rattle.mvd_sync.specs.declared.stage.Stage.{Stage}
use Rattle.mvd_sync.specs.declared.stage.Stage.TheVariants.{Descends, Walks, Meets, Carries, Done, Failed}
use Rattle.mvd_sync.specs.declared.turn.Turn.{Turn}
use Rattle.mvd_sync.proofs.Descents.{answers_long}
use Rattle.mvd_sync.proofs.Handing.{next_given}
use Rattle.mvd_sync.proofs.Nodes.{Each-append}
use Rattle.mvd_sync.proofs.Pushing.{each_of}
use Rattle.mvd_live.specs.Lives.{IsLeftFor, WasHeld, clash, here, there}
use Rattle.mvd_live.specs.Told.{TellsPush}
use Rattle.mvd_live.proofs.Given.{Given, GivenTo}
use Rattle.mvd_live.proofs.Meets.{StateAt}

abbrev Answer : Type 0
Answer = Result (Unit {0}) Refusal

module _ (most : Two ℕ ℕ) (locals peers : List States) where
  -- why a side refused a state
  abbrev pub Refuses : Side → Key × State → Refusal → Type 0
  Refuses AtLocal pair refusal = (is_of_key refusal ≡ true) × AtSomeMoment locals (λ held. CannotTake most.local held pair.0 pair.1 refusal)
  Refuses AtPeer pair refusal = (is_of_key refusal ≡ true) × AtSomeMoment peers (λ held. CannotTake most.peer held pair.0 pair.1 refusal)

  -- what a side is to take is what the other told
  abbrev pub FromOther : Side → Key × State → Type 0
  FromOther AtLocal pair = WasHeld peers pair
  FromOther AtPeer pair = WasHeld locals pair

  -- of the answers so far each refusal has its cause
  abbrev pub Blamed : Side → List (Key × State) → List Answer → Type 0
  Blamed side pairs [] = Unit {0}
  Blamed side [] (t ∷ told) = ⊥
  Blamed side (p ∷ pairs) (Ok done ∷ told) = Blamed side pairs told
  Blamed side (p ∷ pairs) (Err refusal ∷ told) = Refuses side p refusal × Blamed side pairs told

  -- and so has each key that is refused
  abbrev pub Caused : Meeting → Type 0
  Caused m = (r : Side × Refusal) → m.refused ≡ Some r → IsLeftFor most locals peers (left_as m.key r)

  -- IN A TURN
  pub record CausedIn (turn : Turn) : Type 0 where
    pub meetings : List Meeting
    pub keys : turn.meetings.items ≡ map (taken_from turn.side) meetings
    pub takes : turn.pairs.items ≡ filter_map (pushed_pair turn.side) meetings
    pub blamed : Blamed turn.side turn.pairs.items turn.told.items
    pub each : Each Caused meetings

  abbrev pub CausedAt : Stage → Type 0
  CausedAt (Descends level) = Unit {0}
  CausedAt (Walks walk) = Unit {0}
  CausedAt (Meets walk entries) = Unit {0}
  CausedAt (Carries walk turn count) = CausedIn turn
  CausedAt Done = Unit {0}
  CausedAt (Failed fault) = Unit {0}

  caused_begins : (side : Side) (walk : Walking) (ms : List Meeting) (stage : Stage) → TurnBegins walk side ms stage → Each Caused ms → CausedAt stage
  caused_begins side walk ms stage b each =
      let turn = b.turn in
      let it : CausedIn turn = record {
        meetings = ms;
        keys = b.begun.keys ∙ ap (λ s. map (taken_from s) ms) (sym b.begun.of_side);
        takes = b.begun.takes ∙ ap (λ s. filter_map (pushed_pair s) ms) (sym b.begun.of_side);
        blamed = subst (Blamed turn.side turn.pairs.items) (sym b.begun.fresh) tt;
        each = each;
      } in
      subst CausedAt (sym b.is) it

  -- ---- what was planned

  not_some : {X : Type 0} (o : Option X) (x : X) → o ≡ None → o ≡ Some x → ⊥
  not_some o x none some = let e : None ≡ Some x = sym none ∙ some in absurd (cc)

  clash_of : (a a' b b' : States) (key : Key) (own other : Option State) → IfSome own (StateAt locals a a' key) → IfSome other (StateAt peers b b' key) → clashes (or_empty own) (or_empty other) ≡ true
      → AtSomeMoment locals (λ s. AtSomeMoment peers (λ t. clashes (state_at s key) (state_at t key) ≡ true))
  clash_of a a' b b' key None other p q both_have = absurd (true≢false (sym both_have ∙ apart_empty (or_empty other)))
  clash_of a a' b b' key (Some s) None p q both_have = absurd (true≢false (sym both_have ∙ empty_apart s))
  clash_of a a' b b' key (Some s) (Some t) p q both_have = (p.0, p.1.among, (q.0, q.1.among, (λ i. clashes (sym p.2 i) (sym q.2 i)) ∙ both_have))

  caused_plan : (a a' b b' : States) (m : Meeting) (key : Key) (own other : Option State) → m.key ≡ key → IfSome own (StateAt locals a a' key) → IfSome other (StateAt peers b b' key) → Trades own other m.pull m.give m.refused → Caused m
  caused_plan a a' b b' m key own other is p q (meet apart pull give refused) r some = absurd (not_some m.refused r refused some)
  caused_plan a a' b b' m key own other is p q (has apart pull give joined refused) r some = absurd (not_some m.refused r refused some)
  caused_plan a a' b b' m key own other is p q (clashing both_have pull give refused) r some =
      let same : r ≡ (AtLocal, Rattle.mvd_dots.specs.declared.refusals.Refusal.TheVariants.DotClash) = let e = sym some ∙ refused in cc in
      clash (ap (λ (r : Side × Refusal). r.0) same) (ap (λ (r : Side × Refusal). r.1) same)
      (subst (λ k. AtSomeMoment locals (λ s. AtSomeMoment peers (λ t. clashes (state_at s k) (state_at t k) ≡ true))) (sym is) (clash_of a a' b b' key own other p q both_have))

  caused_plans : (a a' b b' : States) (number : Option ℕ) (es : List Entry) (mine theirs : List State) (ms : List Meeting) → ForEach (StateAt locals a a') (held_keys AtLocal es) mine → ForEach (StateAt peers b b') (held_keys AtPeer es) theirs → ArePlans number es mine theirs ms → Each Caused ms
  caused_plans a a' b b' number [] mine theirs [] p q plans = tt
  caused_plans a a' b b' number [] mine theirs (m ∷ ms) p q plans = absurd plans
  caused_plans a a' b b' number (e ∷ es) mine theirs [] p q plans = absurd plans
  caused_plans a a' b b' number (e ∷ es) mine theirs (m ∷ ms) p q plans =
      let own = next_given (StateAt locals a a') AtLocal e es mine p in
      let other = next_given (StateAt peers b b') AtPeer e es theirs q in (
        caused_plan a a' b b' m e.key (first_if e.mine mine) (first_if e.theirs theirs) plans.0.of_key own.0 other.0 plans.0.meets,
        caused_plans a a' b b' number es (rest_if e.mine mine) (rest_if e.theirs theirs) ms own.1 other.1 plans.2,
      )

  pub caused_met : (a a' b b' : States) (number : Option ℕ) (walk : Walking) (entries : List Entry) (mine theirs : List State) (ms : List Meeting) (stage : Stage) → ForEach (StateAt locals a a') (held_keys AtLocal entries) mine → ForEach (StateAt peers b b') (held_keys AtPeer entries) theirs
      → ArePlans number entries mine theirs ms → TurnBegins walk AtLocal ms stage → CausedAt stage
  caused_met a a' b b' number walk entries mine theirs ms stage p q plans begins = caused_begins AtLocal walk ms stage begins (caused_plans a a' b b' number entries mine theirs ms p q plans)

  -- ---- what was told

  -- each answer of a side's turn at a moment of its own
  abbrev pub AnsweredAt : Side → Key × State → Answer → Type 0
  AnsweredAt AtLocal pair t = AtSomeMoment locals (λ held. TellsPush most.local held pair t)
  AnsweredAt AtPeer pair t = AtSomeMoment peers (λ held. TellsPush most.peer held pair t)

  one_blamed : (side : Side) (pair : Key × State) (refusal : Refusal) → AnsweredAt side pair (Err refusal) → is_of_key refusal ≡ true → Refuses side pair refusal
  one_blamed AtLocal pair refusal at of_key = (of_key, at)
  one_blamed AtPeer pair refusal at of_key = (of_key, at)

  blamed_first : (side : Side) (n : ℕ) (pairs : List (Key × State)) (answers : List Answer) → ForEach (AnsweredAt side) (take n pairs) answers → ForEach (λ _ t. IsOfKey t) (take n pairs) answers → Blamed side pairs answers
  blamed_first side n pairs [] each of_key = tt
  blamed_first side zero [] (t ∷ answers) each of_key = absurd each
  blamed_first side zero (p ∷ pairs) (t ∷ answers) each of_key = absurd each
  blamed_first side (suc n) [] (t ∷ answers) each of_key = absurd each
  blamed_first side (suc n) (p ∷ pairs) (Ok done ∷ answers) each of_key = blamed_first side n pairs answers each.1 of_key.1
  blamed_first side (suc n) (p ∷ pairs) (Err refusal ∷ answers) each of_key = (one_blamed side p refusal each.0 of_key.0, blamed_first side n pairs answers each.1 of_key.1)

  blamed_more : (side : Side) (n : ℕ) (pairs : List (Key × State)) (told answers : List Answer) → Blamed side pairs told → ForEach (AnsweredAt side) (take n (drop (length told) pairs)) answers → ForEach (λ _ t. IsOfKey t) (take n (drop (length told) pairs)) answers → Blamed side pairs (told ++ answers)
  blamed_more side n pairs [] answers blamed each of_key = blamed_first side n pairs answers each of_key
  blamed_more side n [] (t ∷ told) answers blamed each of_key = absurd blamed
  blamed_more side n (p ∷ pairs) (Ok done ∷ told) answers blamed each of_key = blamed_more side n pairs told answers blamed each of_key
  blamed_more side n (p ∷ pairs) (Err refusal ∷ told) answers blamed each of_key = (blamed.0, blamed_more side n pairs told answers blamed.1 each of_key)

  pub caused_more : (turn after : Turn) (n : ℕ) (answers : List Answer) → IsSameTurn turn after → after.told.items ≡ turn.told.items ++ answers → All IsOfKey answers → ForEach (AnsweredAt turn.side) (take n (untold turn)) answers → CausedIn turn → CausedIn after
  caused_more turn after n answers same more of_key each old =
      let keys = each_of IsOfKey (take n (untold turn)) answers (answers_long (AnsweredAt turn.side) (take n (untold turn)) answers each) of_key in
      let blamed = blamed_more turn.side n turn.pairs.items turn.told.items answers old.blamed each keys in
      record {
        meetings = old.meetings;
        keys = (λ i. (same.keys i).items) ∙ old.keys ∙ ap (λ s. map (taken_from s) old.meetings) (sym same.of_side);
        takes = (λ i. (same.takes i).items) ∙ old.takes ∙ ap (λ s. filter_map (pushed_pair s) old.meetings) (sym same.of_side);
        blamed = subst (λ s. Blamed s after.pairs.items after.told.items) (sym same.of_side)
            (subst (λ ps. Blamed turn.side ps after.told.items) (λ i. (sym same.takes i).items) (subst (Blamed turn.side turn.pairs.items) (sym more) blamed));
        each = old.each;
      }

  -- ---- a turn is over

  abbrev HeadBlamed : Side → Key → Option State → Option Answer → Type 0
  HeadBlamed side key (Some s) (Some (Err refusal)) = Refuses side (key, s) refusal × FromOther side (key, s)
  HeadBlamed side key None (Some t) = ⊥
  HeadBlamed side key w t = Unit {0}

  blamed_split : (side : Side) (key : Key) (w : Option State) (pairs : List (Key × State)) (told : List Answer) → Blamed side (cons_option (option_map (λ s. (key, s)) w) pairs) told → Each (FromOther side) (cons_option (option_map (λ s. (key, s)) w) pairs)
      → HeadBlamed side key w (first_if (is_some w) told) × Blamed side pairs (rest_if (is_some w) told) × Each (FromOther side) pairs
  blamed_split side key None pairs told blamed from = (tt, blamed, from)
  blamed_split side key (Some s) pairs [] blamed from = (tt, tt, from.1)
  blamed_split side key (Some s) pairs (Ok done ∷ told) blamed from = (tt, blamed, from.1)
  blamed_split side key (Some s) pairs (Err refusal ∷ told) blamed from = ((blamed.0, from.0), blamed.1, from.1)

  left_for : (side : Side) (key : Key) (s : State) (refusal : Refusal) → Refuses side (key, s) refusal × FromOther side (key, s) → IsLeftFor most locals peers (left_as key (side, refusal))
  left_for AtLocal key s refusal why = here s refl why.1 why.0.0 why.0.1
  left_for AtPeer key s refusal why = there s refl why.1 why.0.0 why.0.1

  one_noted : (side : Side) (key : Key) (refused : Option (Side × Refusal)) (w : Option State) (t : Option Answer) → ((r : Side × Refusal) → refused ≡ Some r → IsLeftFor most locals peers (left_as key r)) → HeadBlamed side key w t
      → (r : Side × Refusal) → noted_refusal side refused t ≡ Some r → IsLeftFor most locals peers (left_as key r)
  one_noted side key refused w None caused head r some = caused r some
  one_noted side key refused w (Some (Ok done)) caused head r some = caused r some
  one_noted side key refused None (Some (Err refusal)) caused head r some = absurd head
  one_noted side key refused (Some s) (Some (Err refusal)) caused head r some =
      let same : (side, refusal) ≡ r = cc in
      subst (λ r. IsLeftFor most locals peers (left_as key r)) same (left_for side key s refusal head)

  caused_noted : (side : Side) (ms : List Meeting) (told : List Answer) → Blamed side (filter_map (pushed_pair side) ms) told → Each (FromOther side) (filter_map (pushed_pair side) ms) → Each Caused ms → Each Caused (noted side (map (taken_from side) ms) told)
  caused_noted side [] told blamed from each = tt
  caused_noted AtLocal (m ∷ ms) told blamed from each =
      let split = blamed_split AtLocal m.key (wanted AtLocal m) (filter_map (pushed_pair AtLocal) ms) told blamed from in
      (one_noted AtLocal m.key m.refused (wanted AtLocal m) (first_if (is_some (wanted AtLocal m)) told) each.0 split.0, caused_noted AtLocal ms (rest_if (is_some (wanted AtLocal m)) told) split.1 split.2 each.1)
  caused_noted AtPeer (m ∷ ms) told blamed from each =
      let split = blamed_split AtPeer m.key (wanted AtPeer m) (filter_map (pushed_pair AtPeer) ms) told blamed from in
      (one_noted AtPeer m.key m.refused (wanted AtPeer m) (first_if (is_some (wanted AtPeer m)) told) each.0 split.0, caused_noted AtPeer ms (rest_if (is_some (wanted AtPeer m)) told) split.1 split.2 each.1)

  turn_noted : (turn : Turn) → CausedIn turn → Each (FromOther turn.side) turn.pairs.items → Each Caused (noted turn.side turn.meetings.items turn.told.items)
  turn_noted turn c from =
      subst (λ ms. Each Caused (noted turn.side ms turn.told.items)) (sym c.keys)
      (caused_noted turn.side c.meetings turn.told.items (subst (λ ps. Blamed turn.side ps turn.told.items) c.takes c.blamed) (subst (Each (FromOther turn.side)) c.takes from) c.each)

  from_other : (side : Side) (turn : Turn) → GivenTo locals peers side turn → Each (FromOther side) turn.pairs.items
  from_other AtLocal turn given = Rattle.mvd_sync.proofs.Keys.Each-weaker (λ (p : Key × State). Given peers p.0 p.1) (WasHeld peers) (λ p g. g.0) turn.pairs.items given.0
  from_other AtPeer turn given = Rattle.mvd_sync.proofs.Keys.Each-weaker (λ (p : Key × State). Given locals p.0 p.1) (WasHeld locals) (λ p g. g.0) turn.pairs.items given

  side_noted : (side : Side) (turn : Turn) → turn.side ≡ side → CausedIn turn → GivenTo locals peers turn.side turn → Each Caused (noted side turn.meetings.items turn.told.items)
  side_noted side turn is c given = subst (λ s. Each Caused (noted s turn.meetings.items turn.told.items)) is (turn_noted turn c (from_other turn.side turn given))

  -- the keys that are left
  left_caused : (ms : List Meeting) → Each Caused ms → Each (IsLeftFor most locals peers) (left_keys (map done_of ms))
  left_caused [] each = tt
  left_caused (m ∷ ms) each = one m.key m.refused each.0 (left_keys (map done_of ms)) (left_caused ms each.1)
    where
      one : (key : Key) (refused : Option (Side × Refusal)) → ((r : Side × Refusal) → refused ≡ Some r → IsLeftFor most locals peers (left_as key r)) → (ls : List Left) → Each (IsLeftFor most locals peers) ls → Each (IsLeftFor most locals peers) (cons_option (option_map (left_as key) refused) ls)
      one key None caused ls each = each
      one key (Some r) caused ls each = (caused r refl, each)

  pub left_on : (done : List DoneKey) (turn : Turn) → turn.side ≡ AtPeer → CausedIn turn → GivenTo locals peers turn.side turn → Each (IsLeftFor most locals peers) (left_keys done)
      → Each (IsLeftFor most locals peers) (left_keys (done ++ map done_of (noted AtPeer turn.meetings.items turn.told.items)))
  left_on done turn is c given each =
      let now = map done_of (noted AtPeer turn.meetings.items turn.told.items) in
      subst (Each (IsLeftFor most locals peers)) (sym (filter_map-append left_of done now))
      (Each-append (IsLeftFor most locals peers) (left_keys done) (left_keys now) each (left_caused (noted AtPeer turn.meetings.items turn.told.items) (side_noted AtPeer turn is c given)))

  caused_settles : (walk : Walking) (found : Option Entry) (old new : Exchanging) (stage : Stage) → SettlesFound walk found old new stage → CausedAt stage
  caused_settles walk found old new stage (none_found none same is) = subst CausedAt (sym is) tt
  caused_settles walk found old new stage (equal e some differs same is) = subst CausedAt (sym is) tt
  caused_settles walk found old new stage (waits e some differs same low is) = subst CausedAt (sym is) tt
  caused_settles walk found old new stage (fills e entries some differs full list one same is) = subst CausedAt (sym is) tt

  pub caused_found : (walk : Walking) (found : Option Entry) (old new : Exchanging) (stage : Stage) → SettlesFound walk found old new stage → CausedAt stage
  caused_found = caused_settles

  -- without a question
  pub caused_alone : (work : Exchanging) (stage : Stage) (work' : Exchanging) (stage' : Stage) → GoesAlone work stage work' stage' → Rattle.mvd_live.proofs.Given.GivenAt locals peers stage → CausedAt stage → CausedAt stage'
  caused_alone work (Descends level) work' stage' g given c = subst CausedAt (sym g.1) tt
  caused_alone work (Walks walk) work' stage' (goes_on walk' found g settles) given c = caused_settles walk' found work work' stage' settles
  caused_alone work (Walks walk) work' stage' (last entries walked list one same is) given c = subst CausedAt (sym is) tt
  caused_alone work (Walks walk) work' stage' (ends walked none same is) given c = subst CausedAt (sym is) tt
  caused_alone work (Carries walk turn count) work' stage' (counts side adds is) given c = subst CausedAt (sym is) tt
  caused_alone work (Carries walk turn count) work' stage' (turns side same begins) given c =
      caused_begins AtPeer walk (noted AtLocal turn.meetings.items turn.told.items) stage' begins (side_noted AtLocal turn side c given)
  caused_alone work (Meets walk entries) work' stage' never given c = absurd never
  caused_alone work Done work' stage' never given c = absurd never
  caused_alone work (Failed fault) work' stage' never given c = absurd never
