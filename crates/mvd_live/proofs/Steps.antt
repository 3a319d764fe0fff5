-- What becomes of each key as the answers of a window are taken.
use Rattle.std.proofs.Common.{◌≡◌, ◌⊎◌, inl, inr, ℕ, zero, suc, ◌≤◌, cond, List, [], ◌∷◌, ◌++◌, length, take, drop, refl, sym, ap, subst, ◌∙◌, arith, Option}
use Rattle.std.specs.Prelude.{Ok, Result, Vec}
use Rattle.std.specs.declared.alloc.Global.{Global}
use Rattle.mvd_dots.specs.declared.refusals.Refusal.{Refusal}
use Rattle.mvd_keys.specs.State.{State}
use Rattle.mvd_keys.specs.Writes.{Key}
use Rattle.mvd_site.specs.Held.{AreHeld, States}
use Rattle.mvd_peer.specs.Sides.{Two}
use Rattle.mvd_peer.specs.Windows.{ForEach}
use Rattle.mvd_sync.specs.Answers.{ListingValue}
use Rattle.mvd_sync.proofs.Exchanges.{Counts}
use Rattle.mvd_sync.specs.Exchanges.{Done as DoneKey, Exchanging}
use Rattle.mvd_sync.specs.Fronts.{IsCut, StateAnswer, front_told, share_in, told_first}
use Rattle.mvd_sync.specs.Level.{GoesDown, IsDown, Level, next_nodes}
use Rattle.mvd_sync.specs.Machines.{CarriedOn, HearsAt, Pushed, SettlesFound, StageAsks, TakesShares, TurnBegins, both, cut as cut_at, goes, is_same, met as met_first, no_room as no_place, of_local, of_other, of_peer, of_side, other_of, share_of, told_by_side, wanted_at, wanted_count, whole as uncut}
use Rattle.mvd_sync.specs.Made.{PassesFault}
use Rattle.mvd_sync.specs.Meetings.{ArePlans, held_keys}
use Rattle.mvd_sync.specs.OneTurn.{untold}
use Rattle.mvd_sync.specs.Questions.{TakesBudget}
use Rattle.mvd_peer.specs.Asking.{Wanted}
use Rattle.mvd_sync.specs.Steps.{cut_wanted}
use Rattle.mvd_sync.specs.Tellings.{AllRead, IsListingOf, IsNodeOf, IsStateOf, nodes_told, pages_told, pushes_told, states_told}
use Rattle.mvd_sync.specs.Walking.{IsTold, Walking, pages_of}
use Rattle.mvd_sync.specs.declared.asking.Node.{Node}
use Rattle.mvd_sync.specs.declared.asking.Questions.{Questions}
use Rattle.mvd_sync.specs.declared.cursor.Entry.{Entry}
use Rattle.mvd_sync.specs.declared.meetings.Meeting.{Meeting}
use Rattle.mvd_sync.specs.declared.report.Side.{Side}
use Rattle.mvd_sync.specs.declared.report.Side.TheVariants.{Local as AtLocal, Peer as AtPeer}
use Rattle.mvd_sync.specs.declared.stage.Stage.{Stage}
use Rattle.mvd_sync.specs.declared.stage.Stage.TheVariants.{Descends, Walks, Meets, Carries, Done, Failed}
use Rattle.mvd_sync.specs.declared.telling.Answers.{Answers}
use Rattle.mvd_sync.specs.declared.telling.Share.{Share}
use Rattle.mvd_sync.specs.declared.telling.Shares.{Shares}
use Rattle.mvd_peer.specs.declared.window.Told.{Told}
use Rattle.mvd_sync.specs.declared.turn.Turn.{Turn}
use Rattle.mvd_sync.proofs.CutWindows.{held_split}
use Rattle.mvd_sync.proofs.Stages.{each_may}
use Rattle.mvd_live.specs.Lives.{TellApart}
use Rattle.mvd_live.specs.Told.{StateTold}
use Rattle.mvd_live.proofs.Buckets.{Fits, PageAt, walk_told}
use Rattle.mvd_live.proofs.Causes.{AnsweredAt, CausedAt, CausedIn, caused_found, caused_met, caused_more}
use Rattle.mvd_live.proofs.Fates.{AtStage, Fate, Holds, IsGood, same_counts, settles, settles_counts, still_counts}
use Rattle.mvd_live.proofs.Given.{GivenAt, GivenTo, given_met, given_same, given_settles, given_valid}
use Rattle.mvd_live.proofs.Heard.{Heard, read_first, read_nodes, read_pages, read_states, seen_pushes}
use Rattle.mvd_live.proofs.Levels.{NodeAt, goes_down}
use Rattle.mvd_live.proofs.Meets.{StateAt, planned_any}
use Rattle.mvd_live.proofs.Moments.{AtMoment, Frame}
use Rattle.mvd_live.proofs.Some.{AnyOf, any_cut, any_left, any_right}
use Rattle.mvd_live.proofs.Turns.{PushAt, last_of, turn_begins, turn_more}

short_take : {X : Type 0} (n : ℕ) (xs : List X) → length (take n xs) ≤ n
short_take zero [] = omega arith
short_take zero (x ∷ xs) = omega arith
short_take (suc n) [] = omega arith
short_take (suc n) (x ∷ xs) = let rest = short_take n xs in omega (arith, rest)

-- a state as it was read
state_of_told : (moments : List States) (first last : States) (keys : List Key) (states : List State) → ForEach (λ q b. (a : State) × AtMoment moments first last (λ held. StateTold held q (Ok a)) × IsStateOf a b) keys states → ForEach (StateAt moments first last) keys states
state_of_told moments first last keys states each =
    each_may (λ (q : Key) (b : State). (a : State) × AtMoment moments first last (λ held. StateTold held q (Ok a)) × IsStateOf a b) (StateAt moments first last) (λ q b at. (at.1.0, at.1.1, at.2 ∙ at.1.2)) keys states each

held_last : (f : Frame) (side : Side) → AreHeld (last_of f side)
held_last f AtLocal = f.fa'
held_last f AtPeer = f.fb'

-- what is read of the first is told by the first
first_told : (n : ℕ) (told : Result (List StateAnswer) Refusal) (answers ts : List StateAnswer) → told ≡ Ok answers → told_first n told ≡ Ok ts → take n answers ≡ ts
first_told n told answers ts is first = let e : Ok (take n answers) ≡ Ok ts = sym (ap (told_first n) is) ∙ first in cc

-- both sides told of a window amid a session
pub record HeardBoth (f : Frame) (most : Two ℕ ℕ) (left : Questions) (stage : Stage) (answers : Answers) : Type 0 where
  pub asked : Two Wanted Wanted
  pub local : Heard most.local f.locals f.a f.a' asked.local answers.mine
  pub peer : Heard most.peer f.peers f.b f.b' asked.peer answers.theirs
  pub of_local : asked.local ≡ cut_wanted left.local (wanted_at AtLocal stage)
  pub of_peer : asked.peer ≡ cut_wanted left.peer (wanted_at AtPeer stage)

module _ (f : Frame) (most : Two ℕ ℕ) (left left' : Questions) (answers : Answers) (shares : Shares) where
  -- ---- what was read

  module _ (level : Level) (h : HeardBoth f most left (Descends level) answers) (t : TakesShares (Descends level) left left' shares) where
    pub nodes_here : (mine : List Node) → AllRead IsNodeOf (nodes_told answers.mine) shares.local mine → ForEach (NodeAt f.locals f.a f.a') (next_nodes level) mine
    nodes_here mine r = read_nodes most.local f.locals f.a f.a' h.asked.local answers.mine h.local left.local left'.local (length (next_nodes level)) shares.local IsNodeOf (next_nodes level) mine
        (record { cut = λ i. (h.of_local i).nodes; short = omega arith; budget = t.local; counted = t.wanted.0 }) r

    pub nodes_there : (theirs : List Node) → AllRead IsNodeOf (nodes_told answers.theirs) shares.peer theirs → ForEach (NodeAt f.peers f.b f.b') (next_nodes level) theirs
    nodes_there theirs r = read_nodes most.peer f.peers f.b f.b' h.asked.peer answers.theirs h.peer left.peer left'.peer (length (next_nodes level)) shares.peer IsNodeOf (next_nodes level) theirs
        (record { cut = λ i. (h.of_peer i).nodes; short = omega arith; budget = t.peer; counted = t.wanted.1 }) r

  module _ (walk : Walking) (h : HeardBoth f most left (Walks walk) answers) (t : TakesShares (Walks walk) left left' shares) where
    pub pages_here : (mine : List ListingValue) → AllRead IsListingOf (pages_told answers.mine) shares.local mine → ForEach (PageAt f.locals f.a f.a') (pages_of AtLocal walk) mine
    pages_here mine r = read_pages most.local f.locals f.a f.a' h.asked.local answers.mine h.local left.local left'.local (length (pages_of AtLocal walk)) shares.local IsListingOf (pages_of AtLocal walk) mine
        (record { cut = λ i. (h.of_local i).pages; short = omega arith; budget = t.local; counted = t.wanted.0 }) r

    pub pages_there : (theirs : List ListingValue) → AllRead IsListingOf (pages_told answers.theirs) shares.peer theirs → ForEach (PageAt f.peers f.b f.b') (pages_of AtPeer walk) theirs
    pages_there theirs r = read_pages most.peer f.peers f.b f.b' h.asked.peer answers.theirs h.peer left.peer left'.peer (length (pages_of AtPeer walk)) shares.peer IsListingOf (pages_of AtPeer walk) theirs
        (record { cut = λ i. (h.of_peer i).pages; short = omega arith; budget = t.peer; counted = t.wanted.1 }) r

  module _ (walk : Walking) (entries : Vec Entry Global) (h : HeardBoth f most left (Meets walk entries) answers) (t : TakesShares (Meets walk entries) left left' shares) where
    pub states_here : (mine : List State) → AllRead IsStateOf (states_told answers.mine) shares.local mine → ForEach (StateAt f.locals f.a f.a') (held_keys AtLocal entries.items) mine
    states_here mine r = state_of_told f.locals f.a f.a' (held_keys AtLocal entries.items) mine
        (read_states most.local f.locals f.a f.a' h.asked.local answers.mine h.local left.local left'.local (length (held_keys AtLocal entries.items)) shares.local IsStateOf (held_keys AtLocal entries.items) mine
        (record { cut = λ i. (h.of_local i).gets; short = omega arith; budget = t.local; counted = t.wanted.0 }) r)

    pub states_there : (theirs : List State) → AllRead IsStateOf (states_told answers.theirs) shares.peer theirs → ForEach (StateAt f.peers f.b f.b') (held_keys AtPeer entries.items) theirs
    states_there theirs r = state_of_told f.peers f.b f.b' (held_keys AtPeer entries.items) theirs
        (read_states most.peer f.peers f.b f.b' h.asked.peer answers.theirs h.peer left.peer left'.peer (length (held_keys AtPeer entries.items)) shares.peer IsStateOf (held_keys AtPeer entries.items) theirs
        (record { cut = λ i. (h.of_peer i).gets; short = omega arith; budget = t.peer; counted = t.wanted.1 }) r)

  -- and of a window that is cut, the first
  module _ (walk : Walking) (entries : Vec Entry Global) (h : HeardBoth f most left (Meets walk entries) answers) (t : TakesShares (Meets walk entries) left left' shares) (count : ℕ) (cut : IsCut entries.items shares answers count) where
    first_here : (mine : List State) → AllRead IsStateOf (front_told AtLocal (take count entries.items) answers.mine) (share_in AtLocal (take count entries.items)) mine → ForEach (StateAt f.locals f.a f.a') (held_keys AtLocal (take count entries.items)) mine
    first_here mine r =
        let ones = held_keys AtLocal (take count entries.items) in
        let others = held_keys AtLocal (drop count entries.items) in
        let split = held_split AtLocal count entries.items in
        let n = ap length split in
        let m = cut.from_local.all in
        let each = subst (λ ts. ForEach (PassesFault IsStateOf) ts mine) (sym (first_told (length ones) (states_told answers.mine) cut.mine r.answers cut.from_local.is r.is)) r.each in
        state_of_told f.locals f.a f.a' ones mine
        (read_first most.local f.locals f.a f.a' h.asked.local answers.mine h.local left.local left'.local (length (held_keys AtLocal entries.items)) shares.local IsStateOf ones others cut.mine mine
        (record { cut = (λ i. (h.of_local i).gets) ∙ ap (take left.local) split; short = omega (arith, n); budget = t.local; counted = t.wanted.0 }) cut.from_local.is (omega (arith, m)) cut.from_local.counted each)

    first_there : (theirs : List State) → AllRead IsStateOf (front_told AtPeer (take count entries.items) answers.theirs) (share_in AtPeer (take count entries.items)) theirs → ForEach (StateAt f.peers f.b f.b') (held_keys AtPeer (take count entries.items)) theirs
    first_there theirs r =
        let ones = held_keys AtPeer (take count entries.items) in
        let others = held_keys AtPeer (drop count entries.items) in
        let split = held_split AtPeer count entries.items in
        let n = ap length split in
        let m = cut.from_peer.all in
        let each = subst (λ ts. ForEach (PassesFault IsStateOf) ts theirs) (sym (first_told (length ones) (states_told answers.theirs) cut.theirs r.answers cut.from_peer.is r.is)) r.each in
        state_of_told f.peers f.b f.b' ones theirs
        (read_first most.peer f.peers f.b f.b' h.asked.peer answers.theirs h.peer left.peer left'.peer (length (held_keys AtPeer entries.items)) shares.peer IsStateOf ones others cut.theirs theirs
        (record { cut = (λ i. (h.of_peer i).gets) ∙ ap (take left.peer) split; short = omega (arith, n); budget = t.peer; counted = t.wanted.1 }) cut.from_peer.is (omega (arith, m)) cut.from_peer.counted each)

  module _ (walk : Walking) (turn : Turn) (count : ℕ) (h : HeardBoth f most left (Carries walk turn count) answers) (t : TakesShares (Carries walk turn count) left left' shares) where
    pushes_here : turn.side ≡ AtLocal → (stage : Stage) → (p : Pushed walk turn (pushes_told answers.mine) shares.local stage) → ForEach (PushAt most.local f.locals f.a f.a') (take count (untold turn)) p.answers
    pushes_here side stage p =
        let n : wanted_count AtLocal (Carries walk turn count) ≡ count = ap (λ s. cond (is_same s AtLocal) count 0) side in
        seen_pushes most.local f.locals f.a f.a' h.asked.local answers.mine h.local left.local left'.local count shares.local (take count (untold turn)) p.answers
        (record {
          cut = (λ i. (h.of_local i).pushes) ∙ ap (λ s. take left.local (cond (is_same s AtLocal) (take count (untold turn)) [])) side;
          short = short_take count (untold turn);
          budget = subst (λ k. TakesBudget left.local left'.local k shares.local.asked) n t.local;
          counted = t.wanted.0 ∙ n;
        }) p.is p.whole p.counted

    pushes_there : turn.side ≡ AtPeer → (stage : Stage) → (p : Pushed walk turn (pushes_told answers.theirs) shares.peer stage) → ForEach (PushAt most.peer f.peers f.b f.b') (take count (untold turn)) p.answers
    pushes_there side stage p =
        let n : wanted_count AtPeer (Carries walk turn count) ≡ count = ap (λ s. cond (is_same s AtPeer) count 0) side in
        seen_pushes most.peer f.peers f.b f.b' h.asked.peer answers.theirs h.peer left.peer left'.peer count shares.peer (take count (untold turn)) p.answers
        (record {
          cut = (λ i. (h.of_peer i).pushes) ∙ ap (λ s. take left.peer (cond (is_same s AtPeer) (take count (untold turn)) [])) side;
          short = short_take count (untold turn);
          budget = subst (λ k. TakesBudget left.peer left'.peer k shares.peer.asked) n t.peer;
          counted = t.wanted.1 ∙ n;
        }) p.is p.whole p.counted

  -- ---- what is given

  given_pushed : (walk : Walking) (turn : Turn) (share : Share) (told other : Option Told) (stage' : Stage) → GivenTo f.locals f.peers turn.side turn → CarriedOn walk turn share told other (Ok stage') → GivenAt f.locals f.peers stage'
  given_pushed walk turn share told other stage' given (goes stage none p is) =
      let same : stage' ≡ stage = cc in
      subst (GivenAt f.locals f.peers) (sym (same ∙ p.goes)) (subst (λ s. GivenTo f.locals f.peers s p.after) (sym p.same.of_side) (given_same f.locals f.peers turn.side turn p.after p.same refl given))
  given_pushed walk turn share told other stage' given (of_other refusal none is) = absurd (cc)
  given_pushed walk turn share told other stage' given (of_side refusal why is) = absurd (cc)

  -- WHAT IS PUSHED AFTER IT is what the other side told
  pub given_hears : (work work' : Exchanging) (stage stage' : Stage) → HeardBoth f most left stage answers → TakesShares stage left left' shares → HearsAt work stage shares answers work' (Ok stage') → GivenAt f.locals f.peers stage → GivenAt f.locals f.peers stage'
  given_hears work work' (Descends level) stage' h t (same, both mine theirs m s (after, goes_on, is)) given = subst (GivenAt f.locals f.peers) (sym is) tt
  given_hears work work' (Descends level) stage' h t (same, of_local refusal m is) given = absurd (cc)
  given_hears work work' (Descends level) stage' h t (same, of_peer mine refusal m s is) given = absurd (cc)
  given_hears work work' (Walks walk) stage' h t (both mine theirs m s (after, found, told, settled)) given = given_settles f.locals f.peers after found work work' stage' settled
  given_hears work work' (Walks walk) stage' h t (of_local refusal m is) given = absurd (cc)
  given_hears work work' (Walks walk) stage' h t (of_peer mine refusal m s is) given = absurd (cc)
  given_hears work work' (Meets walk entries) stage' h t (uncut none (both mine theirs m s (meetings, plans, begins, next))) given =
      given_met f.locals f.peers work.number walk entries.items mine.items theirs.items meetings stage' f.a f.a' f.b f.b' (states_here walk entries h t mine.items m) (states_there walk entries h t theirs.items s) plans begins
  given_hears work work' (Meets walk entries) stage' h t (uncut none (of_local refusal m is)) given = absurd (cc)
  given_hears work work' (Meets walk entries) stage' h t (uncut none (of_peer mine refusal m s is)) given = absurd (cc)
  given_hears work work' (Meets walk entries) stage' h t (cut_at count cut (met_first (both mine theirs m s (meetings, plans, begins, next)))) given =
      given_met f.locals f.peers work.number walk (take count entries.items) mine.items theirs.items meetings stage' f.a f.a' f.b f.b' (first_here walk entries h t count cut mine.items m) (first_there walk entries h t count cut theirs.items s) plans begins
  given_hears work work' (Meets walk entries) stage' h t (cut_at count cut (met_first (of_local refusal m is))) given = absurd (cc)
  given_hears work work' (Meets walk entries) stage' h t (cut_at count cut (met_first (of_peer mine refusal m s is))) given = absurd (cc)
  given_hears work work' (Meets walk entries) stage' h t (cut_at count cut (no_place is)) given = absurd (cc)
  given_hears work work' (Carries walk turn count) stage' h t (same, carried) given = given_pushed walk turn (share_of turn.side shares) (told_by_side turn.side answers) (told_by_side (other_of turn.side) answers) stage' given carried
  given_hears work work' Done stage' h t never given = absurd never
  given_hears work work' (Failed fault) stage' h t never given = absurd never

  -- and what is refused has its cause
  caused_pushed : (side : Side) (walk : Walking) (turn : Turn) (count : ℕ) → turn.side ≡ side → HeardBoth f most left (Carries walk turn count) answers → TakesShares (Carries walk turn count) left left' shares → (stage' : Stage)
      → CarriedOn walk turn (share_of side shares) (told_by_side side answers) (told_by_side (other_of side) answers) (Ok stage') → CausedIn most f.locals f.peers turn → CausedAt most f.locals f.peers stage'
  caused_pushed AtLocal walk turn count side h t stage' (goes stage none p is) c =
      let same : stage' ≡ stage = cc in
      let each = each_may (PushAt most.local f.locals f.a f.a') (AnsweredAt most f.locals f.peers AtLocal) (λ q t at. (at.0, at.1.among, at.2)) (take count (untold turn)) p.answers (pushes_here walk turn count h t side stage p) in
      subst (CausedAt most f.locals f.peers) (sym (same ∙ p.goes)) (caused_more most f.locals f.peers turn p.after count p.answers p.same p.more p.of_key (subst (λ s. ForEach (AnsweredAt most f.locals f.peers s) (take count (untold turn)) p.answers) (sym side) each) c)
  caused_pushed AtLocal walk turn count side h t stage' (of_other refusal none is) c = absurd (cc)
  caused_pushed AtLocal walk turn count side h t stage' (of_side refusal why is) c = absurd (cc)
  caused_pushed AtPeer walk turn count side h t stage' (goes stage none p is) c =
      let same : stage' ≡ stage = cc in
      let each = each_may (PushAt most.peer f.peers f.b f.b') (AnsweredAt most f.locals f.peers AtPeer) (λ q t at. (at.0, at.1.among, at.2)) (take count (untold turn)) p.answers (pushes_there walk turn count h t side stage p) in
      subst (CausedAt most f.locals f.peers) (sym (same ∙ p.goes)) (caused_more most f.locals f.peers turn p.after count p.answers p.same p.more p.of_key (subst (λ s. ForEach (AnsweredAt most f.locals f.peers s) (take count (untold turn)) p.answers) (sym side) each) c)
  caused_pushed AtPeer walk turn count side h t stage' (of_other refusal none is) c = absurd (cc)
  caused_pushed AtPeer walk turn count side h t stage' (of_side refusal why is) c = absurd (cc)

  pub caused_hears : (work work' : Exchanging) (stage stage' : Stage) → HeardBoth f most left stage answers → TakesShares stage left left' shares → HearsAt work stage shares answers work' (Ok stage') → CausedAt most f.locals f.peers stage → CausedAt most f.locals f.peers stage'
  caused_hears work work' (Descends level) stage' h t (same, both mine theirs m s (after, goes_on, is)) c = subst (CausedAt most f.locals f.peers) (sym is) tt
  caused_hears work work' (Descends level) stage' h t (same, of_local refusal m is) c = absurd (cc)
  caused_hears work work' (Descends level) stage' h t (same, of_peer mine refusal m s is) c = absurd (cc)
  caused_hears work work' (Walks walk) stage' h t (both mine theirs m s (after, found, told, settled)) c = caused_found most f.locals f.peers after found work work' stage' settled
  caused_hears work work' (Walks walk) stage' h t (of_local refusal m is) c = absurd (cc)
  caused_hears work work' (Walks walk) stage' h t (of_peer mine refusal m s is) c = absurd (cc)
  caused_hears work work' (Meets walk entries) stage' h t (uncut none (both mine theirs m s (meetings, plans, begins, next))) c =
      caused_met most f.locals f.peers f.a f.a' f.b f.b' work.number walk entries.items mine.items theirs.items meetings stage' (states_here walk entries h t mine.items m) (states_there walk entries h t theirs.items s) plans begins
  caused_hears work work' (Meets walk entries) stage' h t (uncut none (of_local refusal m is)) c = absurd (cc)
  caused_hears work work' (Meets walk entries) stage' h t (uncut none (of_peer mine refusal m s is)) c = absurd (cc)
  caused_hears work work' (Meets walk entries) stage' h t (cut_at count cut (met_first (both mine theirs m s (meetings, plans, begins, next)))) c =
      caused_met most f.locals f.peers f.a f.a' f.b f.b' work.number walk (take count entries.items) mine.items theirs.items meetings stage' (first_here walk entries h t count cut mine.items m) (first_there walk entries h t count cut theirs.items s) plans begins
  caused_hears work work' (Meets walk entries) stage' h t (cut_at count cut (met_first (of_local refusal m is))) c = absurd (cc)
  caused_hears work work' (Meets walk entries) stage' h t (cut_at count cut (met_first (of_peer mine refusal m s is))) c = absurd (cc)
  caused_hears work work' (Meets walk entries) stage' h t (cut_at count cut (no_place is)) c = absurd (cc)
  caused_hears work work' (Carries walk turn count) stage' h t (same, carried) c = caused_pushed turn.side walk turn count refl h t stage' carried c
  caused_hears work work' Done stage' h t never c = absurd never
  caused_hears work work' (Failed fault) stage' h t never c = absurd never

  pub hears_good : (work work' : Exchanging) (stage stage' : Stage) → HeardBoth f most left stage answers → TakesShares stage left left' shares → HearsAt work stage shares answers work' (Ok stage') → IsGood f most stage → IsGood f most stage'
  hears_good work work' stage stage' h t heard good = record {
    given = given_hears work work' stage stage' h t heard good.given;
    caused = caused_hears work work' stage stage' h t heard good.caused;
  }

  -- ---- what becomes of a key

  module _ (apart : TellApart f.locals f.peers) (key : Key) (done : List DoneKey) where
    fate_pushed : (side : Side) (walk : Walking) (turn : Turn) (count : ℕ) → turn.side ≡ side → HeardBoth f most left (Carries walk turn count) answers → TakesShares (Carries walk turn count) left left' shares → GivenTo f.locals f.peers turn.side turn → (stage' : Stage)
        → CarriedOn walk turn (share_of side shares) (told_by_side side answers) (told_by_side (other_of side) answers) (Ok stage') → (waiting : List Entry) → Fate f key done waiting (Carries walk turn count) → Fate f key done waiting stage'
    fate_pushed AtLocal walk turn count side h t given stage' (goes stage none p is) waiting (inl left) = inl left
    fate_pushed AtLocal walk turn count side h t given stage' (goes stage none p is) waiting (inr (inl had)) = inr (inl had)
    fate_pushed AtLocal walk turn count side h t given stage' (goes stage none p is) waiting (inr (inr (inl walks))) = let same : stage' ≡ stage = cc in inr (inr (subst (AtStage f key waiting) (sym (same ∙ p.goes)) (inl walks)))
    fate_pushed AtLocal walk turn count side h t given stage' (goes stage none p is) waiting (inr (inr (inr here))) =
        let same : stage' ≡ stage = cc in
        let each = subst (λ s. ForEach (PushAt most.local f.locals f.a (last_of f s)) (take count (untold turn)) p.answers) (sym side) (pushes_here walk turn count h t side stage p) in
        inr (inr (subst (AtStage f key waiting) (sym (same ∙ p.goes)) (inr (turn_more f key most.local f.locals f.a turn p.after count p.answers (held_last f turn.side) p.same p.more (given_valid f.locals f.peers turn.side turn given) each here))))
    fate_pushed AtLocal walk turn count side h t given stage' (of_other refusal none is) waiting fate = absurd (cc)
    fate_pushed AtLocal walk turn count side h t given stage' (of_side refusal why is) waiting fate = absurd (cc)
    fate_pushed AtPeer walk turn count side h t given stage' (goes stage none p is) waiting (inl left) = inl left
    fate_pushed AtPeer walk turn count side h t given stage' (goes stage none p is) waiting (inr (inl had)) = inr (inl had)
    fate_pushed AtPeer walk turn count side h t given stage' (goes stage none p is) waiting (inr (inr (inl walks))) = let same : stage' ≡ stage = cc in inr (inr (subst (AtStage f key waiting) (sym (same ∙ p.goes)) (inl walks)))
    fate_pushed AtPeer walk turn count side h t given stage' (goes stage none p is) waiting (inr (inr (inr here))) =
        let same : stage' ≡ stage = cc in
        let each = subst (λ s. ForEach (PushAt most.peer f.peers f.b (last_of f s)) (take count (untold turn)) p.answers) (sym side) (pushes_there walk turn count h t side stage p) in
        inr (inr (subst (AtStage f key waiting) (sym (same ∙ p.goes)) (inr (turn_more f key most.peer f.peers f.b turn p.after count p.answers (held_last f turn.side) p.same p.more (given_valid f.locals f.peers turn.side turn given) each here))))
    fate_pushed AtPeer walk turn count side h t given stage' (of_other refusal none is) waiting fate = absurd (cc)
    fate_pushed AtPeer walk turn count side h t given stage' (of_side refusal why is) waiting fate = absurd (cc)

    same_fate : (work work' : Exchanging) (stage : Stage) → work' ≡ work → Fate f key done work.waiting stage → Fate f key done work'.waiting stage
    same_fate work work' stage same fate = subst (λ (w : Exchanging). Fate f key done w.waiting stage) (sym same) fate

    -- in the walk
    fate_walked : (work work' : Exchanging) (walk after : Walking) (mine theirs : List ListingValue) (found : Option Entry) (stage' : Stage) → ForEach (PageAt f.locals f.a f.a') (pages_of AtLocal walk) mine → ForEach (PageAt f.peers f.b f.b') (pages_of AtPeer walk) theirs
        → IsTold walk mine theirs found after → SettlesFound after found work work' stage' → Fate f key done work.waiting (Walks walk) → Fate f key done work'.waiting stage'
    fate_walked work work' walk after mine theirs found stage' p q told settled (inl left) = inl left
    fate_walked work work' walk after mine theirs found stage' p q told settled (inr (inl had)) = inr (inl had)
    fate_walked work work' walk after mine theirs found stage' p q told settled (inr (inr (inl walks))) =
        elim (walk_told f key walk after mine theirs found p q told walks) [
          | inl still ↦ settles f key done after found work work' stage' settled (inl still)
          | inr one ↦ settles f key done after found work work' stage' settled (inr (inl one))
        ]
    fate_walked work work' walk after mine theirs found stage' p q told settled (inr (inr (inr wait))) = settles f key done after found work work' stage' settled (inr (inr wait))

    -- at the level
    fate_down : (waiting : List Entry) (level after : Level) (mine theirs : List Node) (stage' : Stage) → (IsDown level → ⊥) → ForEach (NodeAt f.locals f.a f.a') (next_nodes level) mine → ForEach (NodeAt f.peers f.b f.b') (next_nodes level) theirs
        → GoesDown level mine theirs after → stage' ≡ Descends after → Fate f key done waiting (Descends level) → Fate f key done waiting stage'
    fate_down waiting level after mine theirs stage' more p q deeper is (inl left) = inl left
    fate_down waiting level after mine theirs stage' more p q deeper is (inr (inl had)) = inr (inl had)
    fate_down waiting level after mine theirs stage' more p q deeper is (inr (inr here)) =
        elim (goes_down f apart key level after mine theirs more p q deeper here) [
          | inl had ↦ inr (inl had)
          | inr still ↦ inr (inr (subst (AtStage f key waiting) (sym is) still))
        ]

    -- its state was asked for, and of a window that is cut it may wait again
    fate_met : (number : Option ℕ) (waiting after : List Entry) (walk : Walking) (entries : Vec Entry Global) (first later : List Entry) (mine theirs : List State) (ms : List Meeting) (stage' : Stage)
        → after ≡ later ++ waiting → (AnyOf (Fits f key) entries.items → AnyOf (Fits f key) first ⊎ AnyOf (Fits f key) later) → ForEach (StateAt f.locals f.a f.a') (held_keys AtLocal first) mine → ForEach (StateAt f.peers f.b f.b') (held_keys AtPeer first) theirs
        → ArePlans number first mine theirs ms → TurnBegins walk AtLocal ms stage' → Fate f key done waiting (Meets walk entries) → Fate f key done after stage'
    fate_met number waiting after walk entries first later mine theirs ms stage' wait parts p q plans begins fate = elim fate [
      | inl left ↦ inl left
      | inr (inl had) ↦ inr (inl had)
      | inr (inr (inl (inl walks))) ↦ inr (inr (subst (AtStage f key after) (sym begins.is) (inl (inl walks))))
      | inr (inr (inl (inr waits))) ↦ inr (inr (subst (AtStage f key after) (sym begins.is) (inl (inr (subst (AnyOf (Fits f key)) (sym wait) (any_right (Fits f key) later waiting waits))))))
      | inr (inr (inr some)) ↦ elim (parts some) [
        | inl here ↦ inr (inr (subst (AtStage f key after) (sym begins.is) (inr (turn_begins f key AtLocal ms begins.turn begins.begun (planned_any f key number first mine theirs ms p q plans here)))))
        | inr again ↦ inr (inr (subst (AtStage f key after) (sym begins.is) (inl (inr (subst (AnyOf (Fits f key)) (sym wait) (any_left (Fits f key) later waiting again))))))
      ]
    ]

    -- THE ANSWERS WERE TAKEN
    pub fate_hears : (work work' : Exchanging) (stage stage' : Stage) → StageAsks stage → HeardBoth f most left stage answers → TakesShares stage left left' shares → HearsAt work stage shares answers work' (Ok stage') → GivenAt f.locals f.peers stage → Fate f key done work.waiting stage → Fate f key done work'.waiting stage'
    fate_hears work work' (Descends level) stage' asks h t (same, both mine theirs m s (after, goes_on, is)) given fate =
        fate_down work'.waiting level after mine.items theirs.items stage' asks (nodes_here level h t mine.items m) (nodes_there level h t theirs.items s) goes_on is (same_fate work work' (Descends level) same fate)
    fate_hears work work' (Descends level) stage' asks h t (same, of_local refusal m is) given fate = absurd (cc)
    fate_hears work work' (Descends level) stage' asks h t (same, of_peer mine refusal m s is) given fate = absurd (cc)
    fate_hears work work' (Walks walk) stage' asks h t (both mine theirs m s (after, found, told, settled)) given fate =
        fate_walked work work' walk after mine.items theirs.items found stage' (pages_here walk h t mine.items m) (pages_there walk h t theirs.items s) told settled fate
    fate_hears work work' (Walks walk) stage' asks h t (of_local refusal m is) given fate = absurd (cc)
    fate_hears work work' (Walks walk) stage' asks h t (of_peer mine refusal m s is) given fate = absurd (cc)
    fate_hears work work' (Meets walk entries) stage' asks h t (uncut none (both mine theirs m s (meetings, plans, begins, next))) given fate =
        fate_met work.number work.waiting work'.waiting walk entries entries.items [] mine.items theirs.items meetings stage' (λ i. (next i).waiting) (λ some. inl some) (states_here walk entries h t mine.items m) (states_there walk entries h t theirs.items s) plans begins fate
    fate_hears work work' (Meets walk entries) stage' asks h t (uncut none (of_local refusal m is)) given fate = absurd (cc)
    fate_hears work work' (Meets walk entries) stage' asks h t (uncut none (of_peer mine refusal m s is)) given fate = absurd (cc)
    fate_hears work work' (Meets walk entries) stage' asks h t (cut_at count cut (met_first (both mine theirs m s (meetings, plans, begins, next)))) given fate =
        fate_met work.number work.waiting work'.waiting walk entries (take count entries.items) (drop count entries.items) mine.items theirs.items meetings stage' (λ i. (next i).waiting) (any_cut (Fits f key) count entries.items) (first_here walk entries h t count cut mine.items m) (first_there walk entries h t count cut theirs.items s)
        plans begins fate
    fate_hears work work' (Meets walk entries) stage' asks h t (cut_at count cut (met_first (of_local refusal m is))) given fate = absurd (cc)
    fate_hears work work' (Meets walk entries) stage' asks h t (cut_at count cut (met_first (of_peer mine refusal m s is))) given fate = absurd (cc)
    fate_hears work work' (Meets walk entries) stage' asks h t (cut_at count cut (no_place is)) given fate = absurd (cc)
    fate_hears work work' (Carries walk turn count) stage' asks h t (same, carried) given fate = fate_pushed turn.side walk turn count refl h t given stage' carried work'.waiting (same_fate work work' (Carries walk turn count) same fate)
    fate_hears work work' Done stage' asks h t never given fate = absurd never
    fate_hears work work' (Failed fault) stage' asks h t never given fate = absurd never

  -- what is done is counted as before
  counts_hears : (done : List DoneKey) (work work' : Exchanging) (stage stage' : Stage) → HearsAt work stage shares answers work' (Ok stage') → Counts done work → Counts done work'
  counts_hears done work work' (Descends level) stage' (same, read) c = same_counts done work work' same c
  counts_hears done work work' (Walks walk) stage' (both mine theirs m s (after, found, told, settled)) c = settles_counts done after found work work' stage' settled c
  counts_hears done work work' (Walks walk) stage' (of_local refusal m is) c = absurd (cc)
  counts_hears done work work' (Walks walk) stage' (of_peer mine refusal m s is) c = absurd (cc)
  counts_hears done work work' (Meets walk entries) stage' (uncut none (both mine theirs m s (meetings, plans, begins, next))) c = still_counts done work work' (λ i. (next i).keys) (λ i. (next i).refused) (λ i. (next i).older) (λ i. (next i).first_refused) c
  counts_hears done work work' (Meets walk entries) stage' (uncut none (of_local refusal m is)) c = absurd (cc)
  counts_hears done work work' (Meets walk entries) stage' (uncut none (of_peer mine refusal m s is)) c = absurd (cc)
  counts_hears done work work' (Meets walk entries) stage' (cut_at count cut (met_first (both mine theirs m s (meetings, plans, begins, next)))) c = still_counts done work work' (λ i. (next i).keys) (λ i. (next i).refused) (λ i. (next i).older) (λ i. (next i).first_refused) c
  counts_hears done work work' (Meets walk entries) stage' (cut_at count cut (met_first (of_local refusal m is))) c = absurd (cc)
  counts_hears done work work' (Meets walk entries) stage' (cut_at count cut (met_first (of_peer mine refusal m s is))) c = absurd (cc)
  counts_hears done work work' (Meets walk entries) stage' (cut_at count cut (no_place is)) c = absurd (cc)
  counts_hears done work work' (Carries walk turn count) stage' (same, carried) c = same_counts done work work' same c
  counts_hears done work work' Done stage' never c = absurd never
  counts_hears done work work' (Failed fault) stage' never c = absurd never

  pub hears_holds : (done : List DoneKey) (work work' : Exchanging) (stage stage' : Stage) → StageAsks stage → HeardBoth f most left stage answers → TakesShares stage left left' shares → HearsAt work stage shares answers work' (Ok stage') → IsGood f most stage → Holds f most done work stage → Holds f most done work' stage'
  hears_holds done work work' stage stage' asks h t heard good holds = record {
    counted = counts_hears done work work' stage stage' heard holds.counted;
    causes = holds.causes;
    each = λ apart key. fate_hears apart key done work work' stage stage' asks h t heard good.given (holds.each apart key);
  }
