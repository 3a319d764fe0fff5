-- What becomes of each key, from one stage of a session to the next.
use Rattle.std.proofs.Common.{◌≡◌, ◌⊎◌, inl, inr, ℕ, ◌≤◌, List, [], ◌∷◌, ◌++◌, length, take, drop, map, filter_map, sym, ap, subst, ◌∙◌, Some, None, Option}
use Rattle.std.specs.Prelude.{IsTrue, Vec}
use Rattle.std.specs.declared.alloc.Global.{Global}
use Rattle.std.proofs.lemmas.List.{map-append}
use Rattle.std.proofs.lemmas.List.Elements.{filter_map-append}
use Rattle.mvd_keys.specs.Writes.{Key}
use Rattle.mvd_tree.specs.HashTree.{is_under}
use Rattle.mvd_sync.proofs.Exchanges.{Counts}
use Rattle.mvd_sync.specs.Exchanges.{CountsDone, Done as DoneKey, Exchanging, left_keys, left_of}
use Rattle.mvd_sync.specs.Level.{IsDown, Level}
use Rattle.mvd_sync.specs.Machines.{FromWalk, GoesAlone, IsQuiet, SettlesFound, StageWent, TurnBegins, counts, ends, equal, fills, goes_on, here, last, none_found, on, turns, waits}
use Rattle.mvd_sync.specs.Meetings.{done_of, noted, pushed_pair, taken_from}
use Rattle.mvd_sync.specs.Session.{IsIn, is_member}
use Rattle.mvd_sync.specs.Walking.{Walking}
use Rattle.mvd_sync.specs.declared.cursor.Entry.{Entry}
use Rattle.mvd_sync.specs.declared.meetings.Meeting.{Meeting}
use Rattle.mvd_sync.specs.declared.report.Left.{Left}
use Rattle.mvd_sync.specs.declared.report.Side.TheVariants.{Local as AtLocal, Peer as AtPeer}
use Rattle.mvd_sync.specs.declared.stage.Stage.{Stage}
use Rattle.mvd_sync.specs.declared.stage.Stage.TheVariants.{Descends, Walks, Meets, Carries, Done, Failed}
use Rattle.mvd_sync.specs.declared.turn.Turn.{Turn}
use Rattle.mvd_sync.proofs.Counting.{counts_on}
use Rattle.mvd_sync.proofs.Keys.{is_member-append}
use Rattle.mvd_sync.proofs.Nodes.{or_first, or_second}
use Rattle.mvd_peer.specs.PushedStates.{Each}
use Rattle.mvd_peer.specs.Sides.{Two}
use Rattle.mvd_live.specs.Lives.{IsLeftFor, TellApart}
use Rattle.mvd_live.proofs.Buckets.{Fits, InWalk, IsFound, at_rest, walk_ends, walk_goes}
use Rattle.mvd_live.proofs.Causes.{CausedAt, caused_alone, left_on}
use Rattle.mvd_live.proofs.Given.{GivenAt, given_alone}
use Rattle.mvd_live.proofs.Levels.{InLevel, IsOver}
use Rattle.mvd_live.proofs.Meets.{IsPlanned}
use Rattle.mvd_live.proofs.Moments.{Frame, Had}
use Rattle.mvd_live.proofs.Some.{AnyOf, any_cut, any_left, any_right, any_weaker}
use Rattle.mvd_live.proofs.Turns.{Ends, InTurn, Took, ends_any, last_of, noted_local, noted_peer, turn_begins}

-- the key is still to be taken, or was, and waits
abbrev pub AtWalk : Frame → Key → List Entry → Walking → Type 0
AtWalk f key waiting walk = InWalk f key walk ⊎ AnyOf (Fits f key) waiting

-- WHERE THE KEY IS in a stage
abbrev pub AtStage : Frame → Key → List Entry → Stage → Type 0
AtStage f key waiting (Descends level) = InLevel key level
AtStage f key waiting (Walks walk) = AtWalk f key waiting walk
AtStage f key waiting (Meets walk entries) = AtWalk f key waiting walk ⊎ AnyOf (Fits f key) entries.items
AtStage f key waiting (Carries walk turn count) = AtWalk f key waiting walk ⊎ InTurn f key turn
AtStage f key waiting Done = ⊥
AtStage f key waiting (Failed fault) = ⊥

-- the keys that are left
abbrev pub left_of_done : List DoneKey → List Key
left_of_done done = map (λ (l : Left). l.key) (left_keys done)

-- WHAT BECAME OF IT: it is left, or both sides have what either had, or it is still in the session
abbrev pub Fate : Frame → Key → List DoneKey → List Entry → Stage → Type 0
Fate f key done waiting stage = IsIn (left_of_done done) key ⊎ (Had f key ⊎ AtStage f key waiting stage)

-- what is pushed was given, and what is refused has its cause
pub record IsGood (f : Frame) (most : Two ℕ ℕ) (stage : Stage) : Type 0 where
  pub given : GivenAt f.locals f.peers stage
  pub caused : CausedAt most f.locals f.peers stage

-- so it is of each key, if the hashes tell; and those that are done are counted, and each that is left has its cause
pub record Holds (f : Frame) (most : Two ℕ ℕ) (done : List DoneKey) (work : Exchanging) (stage : Stage) : Type 0 where
  pub counted : Counts done work
  pub causes : Each (IsLeftFor most f.locals f.peers) (left_keys done)
  pub each : TellApart f.locals f.peers → (key : Key) → Fate f key done work.waiting stage

pub still_counts : (done : List DoneKey) (old new : Exchanging) → new.keys ≡ old.keys → new.refused ≡ old.refused → new.older ≡ old.older → new.first_refused ≡ old.first_refused → Counts done old → Counts done new
still_counts done old new keys refused older first c = record {
  keys = keys ∙ c.keys;
  refused = refused ∙ c.refused;
  first_refused = first ∙ c.first_refused;
  older = older ∙ c.older;
}

pub same_counts : (done : List DoneKey) (old new : Exchanging) → new ≡ old → Counts done old → Counts done new
same_counts done old new same c = subst (Counts done) (sym same) c

-- the first keys are taken out of those that wait
taken_out : (f : Frame) (key : Key) (walk : Walking) (most : ℕ) (all : List Entry) (entries : Vec Entry Global) (waiting : List Entry) → entries.items ≡ take most all → waiting ≡ drop most all → AnyOf (Fits f key) all → AtStage f key waiting (Meets walk entries)
taken_out f key walk most all entries waiting list rest some = elim (any_cut (Fits f key) most all some) [
  | inl out ↦ inr (subst (AnyOf (Fits f key)) (sym list) out)
  | inr later ↦ inl (inr (subst (AnyOf (Fits f key)) (sym rest) later))
]

-- ---- a key was found, or none

module _ (f : Frame) (key : Key) (done : List DoneKey) where
  -- it is in the walk, or it is the one that was found, or it waits
  abbrev pub Before : Walking → Option Entry → List Entry → Type 0
  Before walk found waiting = InWalk f key walk ⊎ (IsFound f key found ⊎ AnyOf (Fits f key) waiting)

  none_is_found : (found : Option Entry) → found ≡ None → IsFound f key found → ⊥
  none_is_found found none is = let e : None ≡ Some is.0 = sym none ∙ is.1 in absurd (cc)

  one_found : (found : Option Entry) (e : Entry) → found ≡ Some e → IsFound f key found → Fits f key e
  one_found found e some is = let same : is.0 ≡ e = let x : Some is.0 ≡ Some e = sym is.1 ∙ some in cc in subst (Fits f key) same is.2

  pub settles : (walk : Walking) (found : Option Entry) (old new : Exchanging) (stage : Stage) → SettlesFound walk found old new stage → InWalk f key walk ⊎ (IsFound f key found ⊎ AnyOf (Fits f key) old.waiting) → Fate f key done new.waiting stage
  settles walk found old new stage (none_found none same is) (inl walks) = inr (inr (subst (AtStage f key new.waiting) (sym is) (inl walks)))
  settles walk found old new stage (none_found none same is) (inr (inl one)) = absurd (none_is_found found none one)
  settles walk found old new stage (none_found none same is) (inr (inr wait)) = inr (inr (subst (AtStage f key new.waiting) (sym is) (inr (subst (λ (w : Exchanging). AnyOf (Fits f key) w.waiting) (sym same) wait))))
  settles walk found old new stage (equal e some differs same is) (inl walks) = inr (inr (subst (AtStage f key new.waiting) (sym is) (inl walks)))
  settles walk found old new stage (equal e some differs same is) (inr (inl one)) = inr (inl ((one_found found e some one).same differs))
  settles walk found old new stage (equal e some differs same is) (inr (inr wait)) = inr (inr (subst (AtStage f key new.waiting) (sym is) (inr (subst (λ (w : Exchanging). AnyOf (Fits f key) w.waiting) (sym same) wait))))
  settles walk found old new stage (waits e some differs same low is) (inl walks) = inr (inr (subst (AtStage f key new.waiting) (sym is) (inl walks)))
  settles walk found old new stage (waits e some differs same low is) (inr (inl one)) =
      inr (inr (subst (AtStage f key new.waiting) (sym is) (inr (subst (λ (w : Exchanging). AnyOf (Fits f key) w.waiting) (sym same) (any_right (Fits f key) old.waiting (e ∷ []) (inl (one_found found e some one)))))))
  settles walk found old new stage (waits e some differs same low is) (inr (inr wait)) =
      inr (inr (subst (AtStage f key new.waiting) (sym is) (inr (subst (λ (w : Exchanging). AnyOf (Fits f key) w.waiting) (sym same) (any_left (Fits f key) old.waiting (e ∷ []) wait)))))
  settles walk found old new stage (fills e entries some differs full list one same is) (inl walks) = inr (inr (subst (AtStage f key new.waiting) (sym is) (inl (inl walks))))
  settles walk found old new stage (fills e entries some differs full list one same is) (inr (inl it)) =
      let here = any_right (Fits f key) old.waiting (e ∷ []) (inl (one_found found e some it)) in
      inr (inr (subst (AtStage f key new.waiting) (sym is) (taken_out f key walk old.most (old.waiting ++ e ∷ []) entries new.waiting list (λ i. (same i).waiting) here)))
  settles walk found old new stage (fills e entries some differs full list one same is) (inr (inr wait)) =
      let here = any_left (Fits f key) old.waiting (e ∷ []) wait in
      inr (inr (subst (AtStage f key new.waiting) (sym is) (taken_out f key walk old.most (old.waiting ++ e ∷ []) entries new.waiting list (λ i. (same i).waiting) here)))

pub settles_counts : (done : List DoneKey) (walk : Walking) (found : Option Entry) (old new : Exchanging) (stage : Stage) → SettlesFound walk found old new stage → Counts done old → Counts done new
settles_counts done walk found old new stage (none_found none same is) c = same_counts done old new same c
settles_counts done walk found old new stage (equal e some differs same is) c = same_counts done old new same c
settles_counts done walk found old new stage (waits e some differs same low is) c = still_counts done old new (λ i. (same i).keys) (λ i. (same i).refused) (λ i. (same i).older) (λ i. (same i).first_refused) c
settles_counts done walk found old new stage (fills e entries some differs full list one same is) c = still_counts done old new (λ i. (same i).keys) (λ i. (same i).refused) (λ i. (same i).older) (λ i. (same i).first_refused) c

-- ---- more keys are done

left_more : (done now : List DoneKey) (key : Key) → IsIn (left_of_done done) key → IsIn (left_of_done (done ++ now)) key
left_more done now key is =
    let parts : left_of_done (done ++ now) ≡ left_of_done done ++ left_of_done now = ap (map (λ (l : Left). l.key)) (filter_map-append left_of done now) ∙ map-append (λ (l : Left). l.key) (left_keys done) (left_keys now) in
    ap (λ ks. is_member ks key) parts ∙ is_member-append (left_of_done done) (left_of_done now) key ∙ or_first (is_member (left_of_done done) key) (is_member (left_of_done now) key) is

left_now : (done now : List DoneKey) (key : Key) → IsIn (left_of_done now) key → IsIn (left_of_done (done ++ now)) key
left_now done now key is =
    let parts : left_of_done (done ++ now) ≡ left_of_done done ++ left_of_done now = ap (map (λ (l : Left). l.key)) (filter_map-append left_of done now) ∙ map-append (λ (l : Left). l.key) (left_keys done) (left_keys now) in
    ap (λ ks. is_member ks key) parts ∙ is_member-append (left_of_done done) (left_of_done now) key ∙ or_second (is_member (left_of_done done) key) (is_member (left_of_done now) key) is

walk_counts : (done : List DoneKey) (work work' : Exchanging) (walk : Walking) (stage' : Stage) → FromWalk work walk work' stage' → Counts done work → Counts done work'
walk_counts done work work' walk stage' (goes_on walk' found goes settled) c = settles_counts done walk' found work work' stage' settled c
walk_counts done work work' walk stage' (last entries walked list one same is) c = still_counts done work work' (λ i. (same i).keys) (λ i. (same i).refused) (λ i. (same i).older) (λ i. (same i).first_refused) c
walk_counts done work work' walk stage' (ends walked none same is) c = still_counts done work work' (λ i. (same i).keys) (λ i. (same i).refused) (λ i. (same i).older) (λ i. (same i).first_refused) c

-- ---- one step without a question

module _ (f : Frame) (apart : TellApart f.locals f.peers) where
  from_level : (key : Key) (done : List DoneKey) (work work' : Exchanging) (level : Level) (stage' : Stage) → IsDown level → GoesAlone work (Descends level) work' stage' → Fate f key done work.waiting (Descends level) → Fate f key done work'.waiting stage'
  from_level key done work work' level stage' down g (inl left) = inl left
  from_level key done work work' level stage' down g (inr (inl had)) = inr (inl had)
  from_level key done work work' level stage' down g (inr (inr (inl rest))) =
      inr (inr (subst (AtStage f key work'.waiting) (sym g.1) (inl (at_rest (any_weaker (IsOver key level.depth) (λ path. IsTrue (is_under path key)) (λ path over. over.1) level.rest rest)))))
  from_level key done work work' level stage' down g (inr (inr (inr below))) = absurd (below.1 down)

  from_walk : (key : Key) (done : List DoneKey) (work work' : Exchanging) (walk : Walking) (stage' : Stage) → IsQuiet (Walks walk) → FromWalk work walk work' stage' → Fate f key done work.waiting (Walks walk) → Fate f key done work'.waiting stage'
  from_walk key done work work' walk stage' quiet g (inl left) = inl left
  from_walk key done work work' walk stage' quiet g (inr (inl had)) = inr (inl had)
  from_walk key done work work' walk stage' quiet (goes_on walk' found goes settled) (inr (inr (inl walks))) =
      elim (walk_goes f apart key walk walk' found quiet goes walks) [
        | inl had ↦ inr (inl had)
        | inr (inl still) ↦ settles f key done walk' found work work' stage' settled (inl still)
        | inr (inr one) ↦ settles f key done walk' found work work' stage' settled (inr (inl one))
      ]
  from_walk key done work work' walk stage' quiet (goes_on walk' found goes settled) (inr (inr (inr wait))) = settles f key done walk' found work work' stage' settled (inr (inr wait))
  from_walk key done work work' walk stage' quiet (last entries walked list one same is) (inr (inr (inl walks))) = absurd (walk_ends f apart key walk walked walks)
  from_walk key done work work' walk stage' quiet (last entries walked list one same is) (inr (inr (inr wait))) =
      inr (inr (subst (AtStage f key work'.waiting) (sym is) (taken_out f key walk work.most work.waiting entries work'.waiting list (λ i. (same i).waiting) wait)))
  from_walk key done work work' walk stage' quiet (ends walked none same is) (inr (inr (inl walks))) = absurd (walk_ends f apart key walk walked walks)
  from_walk key done work work' walk stage' quiet (ends walked none same is) (inr (inr (inr wait))) = absurd (subst (AnyOf (Fits f key)) none wait)

  -- the turn of the local side is over
  from_local : (key : Key) (done : List DoneKey) (work work' : Exchanging) (walk : Walking) (turn : Turn) (count : ℕ) (stage' : Stage) → length turn.pairs.items ≤ length turn.told.items → turn.side ≡ AtLocal → work' ≡ work
      → TurnBegins walk AtPeer (noted AtLocal turn.meetings.items turn.told.items) stage' → Fate f key done work.waiting (Carries walk turn count) → Fate f key done work'.waiting stage'
  from_local key done work work' walk turn count stage' all side same begins (inl left) = inl left
  from_local key done work work' walk turn count stage' all side same begins (inr (inl had)) = inr (inl had)
  from_local key done work work' walk turn count stage' all side same begins (inr (inr (inl walks))) =
      inr (inr (subst (AtStage f key work'.waiting) (sym begins.is) (inl (subst (λ (w : Exchanging). AtWalk f key w.waiting walk) (sym same) walks))))
  from_local key done work work' walk turn count stage' all side same begins (inr (inr (inr amid))) =
      let pairs : turn.pairs.items ≡ filter_map (pushed_pair AtLocal) amid.meetings = amid.takes ∙ ap (λ s. filter_map (pushed_pair s) amid.meetings) side in
      let took : Took f.a' (filter_map (pushed_pair AtLocal) amid.meetings) turn.told.items = subst (λ ps. Took f.a' ps turn.told.items) pairs (subst (λ s. Took (last_of f s) turn.pairs.items turn.told.items) side amid.took) in
      let planned : AnyOf (IsPlanned AtLocal f key) amid.meetings = subst (λ s. AnyOf (IsPlanned s f key) amid.meetings) side amid.some in
      let next = noted_local f key amid.meetings turn.told.items took (subst (λ ps. length ps ≤ length turn.told.items) pairs all) planned in
      let keys : turn.meetings.items ≡ map (taken_from AtLocal) amid.meetings = amid.keys ∙ ap (λ s. map (taken_from s) amid.meetings) side in
      inr (inr (subst (AtStage f key work'.waiting) (sym begins.is) (inr (turn_begins f key AtPeer (noted AtLocal turn.meetings.items turn.told.items) begins.turn begins.begun (subst (λ ms. AnyOf (IsPlanned AtPeer f key) (noted AtLocal ms turn.told.items)) (sym keys) next)))))

  -- and that of the peer
  from_peer : (key : Key) (done : List DoneKey) (work work' : Exchanging) (walk : Walking) (turn : Turn) (count : ℕ) (stage' : Stage) → length turn.pairs.items ≤ length turn.told.items → turn.side ≡ AtPeer
      → CountsDone (map done_of (noted AtPeer turn.meetings.items turn.told.items)) work work' → stage' ≡ Walks walk → Fate f key done work.waiting (Carries walk turn count) → Fate f key (done ++ map done_of (noted AtPeer turn.meetings.items turn.told.items)) work'.waiting stage'
  from_peer key done work work' walk turn count stage' all side adds is (inl left) = inl (left_more done (map done_of (noted AtPeer turn.meetings.items turn.told.items)) key left)
  from_peer key done work work' walk turn count stage' all side adds is (inr (inl had)) = inr (inl had)
  from_peer key done work work' walk turn count stage' all side adds is (inr (inr (inl walks))) =
      inr (inr (subst (AtStage f key work'.waiting) (sym is) (subst (λ w. AtWalk f key w walk) (sym adds.waiting) walks)))
  from_peer key done work work' walk turn count stage' all side adds is (inr (inr (inr amid))) =
      let pairs : turn.pairs.items ≡ filter_map (pushed_pair AtPeer) amid.meetings = amid.takes ∙ ap (λ s. filter_map (pushed_pair s) amid.meetings) side in
      let took : Took f.b' (filter_map (pushed_pair AtPeer) amid.meetings) turn.told.items = subst (λ ps. Took f.b' ps turn.told.items) pairs (subst (λ s. Took (last_of f s) turn.pairs.items turn.told.items) side amid.took) in
      let planned : AnyOf (IsPlanned AtPeer f key) amid.meetings = subst (λ s. AnyOf (IsPlanned s f key) amid.meetings) side amid.some in
      let ended = noted_peer f key amid.meetings turn.told.items took (subst (λ ps. length ps ≤ length turn.told.items) pairs all) planned in
      let keys : turn.meetings.items ≡ map (taken_from AtPeer) amid.meetings = amid.keys ∙ ap (λ s. map (taken_from s) amid.meetings) side in
      let now : List Meeting = noted AtPeer turn.meetings.items turn.told.items in
      elim (ends_any f key now (subst (λ ms. AnyOf (Ends f key) (noted AtPeer ms turn.told.items)) (sym keys) ended)) [
        | inl left ↦ inl (left_now done (map done_of now) key left)
        | inr had ↦ inr (inl had)
      ]

module _ (f : Frame) (most : Two ℕ ℕ) where
  pub alone_good : (work : Exchanging) (stage : Stage) (work' : Exchanging) (stage' : Stage) → GoesAlone work stage work' stage' → IsGood f most stage → IsGood f most stage'
  alone_good work stage work' stage' g good = record {
    given = given_alone f.locals f.peers work stage work' stage' g good.given;
    caused = caused_alone most f.locals f.peers work stage work' stage' g good.given good.caused;
  }

  -- ONE STEP WITHOUT A QUESTION
  pub alone_holds : (done : List DoneKey) (work : Exchanging) (stage : Stage) (work' : Exchanging) (stage' : Stage) → IsQuiet stage → GoesAlone work stage work' stage' → IsGood f most stage → Holds f most done work stage → (now : List DoneKey) × Holds f most now work' stage'
  alone_holds done work (Descends level) work' stage' quiet g good h =
      (done, record { counted = same_counts done work work' g.0 h.counted; causes = h.causes; each = λ apart key. from_level f apart key done work work' level stage' quiet g (h.each apart key) })
  alone_holds done work (Walks walk) work' stage' quiet g good h =
      (done, record { counted = walk_counts done work work' walk stage' g h.counted; causes = h.causes; each = λ apart key. from_walk f apart key done work work' walk stage' quiet g (h.each apart key) })
  alone_holds done work (Carries walk turn count) work' stage' quiet (turns side same begins) good h =
      (done, record { counted = same_counts done work work' same h.counted; causes = h.causes; each = λ apart key. from_local f apart key done work work' walk turn count stage' quiet side same begins (h.each apart key) })
  alone_holds done work (Carries walk turn count) work' stage' quiet (counts side adds is) good h = (
    done ++ map done_of (noted AtPeer turn.meetings.items turn.told.items),
    record {
      counted = counts_on done (map done_of (noted AtPeer turn.meetings.items turn.told.items)) work work' h.counted adds;
      causes = left_on most f.locals f.peers done turn side good.caused good.given h.causes;
      each = λ apart key. from_peer f apart key done work work' walk turn count stage' quiet side adds is (h.each apart key);
    },
  )
  alone_holds done work (Meets walk entries) work' stage' quiet never good h = absurd never
  alone_holds done work Done work' stage' quiet never good h = absurd never
  alone_holds done work (Failed fault) work' stage' quiet never good h = absurd never

  -- SO MANY STEPS WITHOUT A QUESTION
  pub went_good : (work : Exchanging) (stage : Stage) (work' : Exchanging) (stage' : Stage) → StageWent work stage work' stage' → IsGood f most stage → IsGood f most stage'
  went_good work stage work' stage' (here w s same is) good = subst (IsGood f most) (sym is) good
  went_good work stage work' stage' (on mid w stage1 s went quiet goes) good = alone_good mid stage1 w s goes (went_good work stage mid stage1 went good)

  pub went_holds : (done : List DoneKey) (work : Exchanging) (stage : Stage) (work' : Exchanging) (stage' : Stage) → StageWent work stage work' stage' → IsGood f most stage → Holds f most done work stage → (now : List DoneKey) × Holds f most now work' stage'
  went_holds done work stage work' stage' (here w s same is) good h = (done, subst (Holds f most done w) (sym is) (subst (λ (w : Exchanging). Holds f most done w stage) (sym same) h))
  went_holds done work stage work' stage' (on mid w stage1 s went quiet goes) good h =
      let before = went_holds done work stage mid stage1 went good h in
      alone_holds before.0 mid stage1 w s quiet goes (went_good work stage mid stage1 went good) before.1
