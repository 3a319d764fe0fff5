-- Which questions of a session are asked for the first time, and which again, since a window of gets was cut.
use Rattle.std.proofs.Common.{◌≡◌, ◌⊎◌, inl, inr, ℕ, zero, suc, ◌+◌, ◌*◌, ◌≤◌, true, false, cond, List, [], ◌∷◌, ◌++◌, length, take, drop, sym, ap, subst, ◌∙◌, arith, Option, length-append, length-drop}
use Rattle.std.specs.Prelude.{IfSome, Ok, max, min}
use Rattle.std.proofs.lemmas.List.{length-take, length-take-le, take-append-drop}
use Rattle.mvd_keys.specs.State.{State}
use Rattle.mvd_keys.specs.Writes.{Key}
use Rattle.mvd_peer.specs.PushedStates.{Each}
use Rattle.mvd_peer.specs.Sides.{Two, two}
use Rattle.mvd_sync.specs.Answers.{ListingValue}
use Rattle.mvd_sync.specs.Exchanges.{Exchanging, IsHeldByEither}
use Rattle.mvd_sync.specs.Level.{next_nodes}
use Rattle.mvd_sync.specs.Machines.{CarriedOn, GoesAlone, HearsAt, SettlesFound, StageWent, TakesShares, both, counts, cut as cut_at, ends, equal, fills, goes, goes_on, here, is_same, last, met as met_first, no_room as no_place, none_found, of_local, of_other, of_peer, of_side, on, other_of, share_of, told_by_side, turns, waits, wanted_at, wanted_count, whole as uncut}
use Rattle.mvd_sync.specs.Meetings.{held_keys}
use Rattle.mvd_sync.specs.OneTurn.{untold}
use Rattle.mvd_sync.specs.Questions.{TakesBudget}
use Rattle.mvd_sync.specs.Steps.{cut_wanted}
use Rattle.mvd_sync.specs.Walking.{GoesTo, IsTold, Walking, closes, ends as no_later, fills as fills_page, moves, opens, pages_of, tells, waits as waits_page}
use Rattle.mvd_peer.specs.Asking.{PageQuestion}
use Rattle.mvd_sync.specs.Weights.{next_most, weight}
use Rattle.mvd_sync.specs.declared.asking.Questions.{Questions}
use Rattle.mvd_sync.specs.declared.cursor.Entry.{Entry}
use Rattle.mvd_sync.specs.declared.report.Side.{Side}
use Rattle.mvd_sync.specs.declared.report.Side.TheVariants.{Local as AtLocal, Peer as AtPeer}
use Rattle.mvd_sync.specs.declared.stage.Stage.{Stage}
use Rattle.mvd_sync.specs.declared.stage.Stage.TheVariants.{Descends, Walks, Meets, Carries, Done, Failed}
use Rattle.mvd_sync.specs.declared.telling.Answers.{Answers}
use Rattle.mvd_sync.specs.declared.telling.Share.{Share}
use Rattle.mvd_sync.specs.declared.telling.Shares.{Shares}
use Rattle.mvd_peer.specs.declared.window.Told.{Told}
use Rattle.mvd_sync.specs.declared.turn.Turn.{Turn}
use Rattle.mvd_sync.proofs.CutWindows.{held_split, next_grows, next_limited}
use Rattle.mvd_sync.proofs.Descents.{Each-right, Each-take}
use Rattle.mvd_sync.proofs.Lacking.{front_lacks}
use Rattle.mvd_sync.proofs.Nodes.{Each-append}
use Rattle.mvd_sync.proofs.Stages.{held_by_one}
use Rattle.mvd_sync.proofs.WalkedOn.{found_held}
use Rattle.mvd_live.specs.Few.{HasLacked, questions_in}
use Rattle.mvd_live.proofs.FewStages.{held_short}
use Rattle.mvd_live.proofs.Spent.{cut_long}

-- ---- each key that waits is held by a side, and a window has no more of them than are exchanged at once

abbrev pub IsHeld : Option Entry → Type 0
IsHeld found = IfSome found IsHeldByEither

abbrev pub KeptAt : Exchanging → Stage → Type 0
KeptAt work (Descends level) = Unit {0}
KeptAt work (Walks walk) = IsHeld walk.entry
KeptAt work (Meets walk entries) = IsHeld walk.entry × Each IsHeldByEither entries.items × (1 ≤ length entries.items) × (length entries.items ≤ work.most)
KeptAt work (Carries walk turn count) = IsHeld walk.entry
KeptAt work Done = Unit {0}
KeptAt work (Failed fault) = Unit {0}

pub record Kept (work : Exchanging) (stage : Stage) : Type 0 where
  pub waiting : Each IsHeldByEither work.waiting
  pub at : KeptAt work stage

-- as many are exchanged at once as before
abbrev pub KeepsOn : Exchanging → Exchanging → Stage → Type 0
KeepsOn work work' stage' = (work'.most ≡ work.most) × Kept work' stage'

same_kept : (work work' : Exchanging) (stage : Stage) → work' ≡ work → Each IsHeldByEither work.waiting → KeptAt work' stage → KeepsOn work work' stage
same_kept work work' stage same w at = (ap (λ (w : Exchanging). w.most) same, record { waiting = subst (λ (w : Exchanging). Each IsHeldByEither w.waiting) (sym same) w; at = at })

-- the first are taken out of those that wait
taken_kept : (most : ℕ) (all entries later : List Entry) → entries ≡ take most all → later ≡ drop most all → Each IsHeldByEither all → Each IsHeldByEither entries × Each IsHeldByEither later × (length entries ≤ most)
taken_kept most all entries later is rest each =
    let n = ap length is in
    let m = length-take most all in (
      subst (Each IsHeldByEither) (sym is) (Each-take IsHeldByEither most all each),
      subst (Each IsHeldByEither) (sym rest) (Each-right IsHeldByEither (take most all) (drop most all) (subst (Each IsHeldByEither) (sym (take-append-drop most all)) each)),
      omega (arith, n, m),
    )

kept_settles : (walk : Walking) (found : Option Entry) (old new : Exchanging) (stage : Stage) → SettlesFound walk found old new stage → Each IsHeldByEither old.waiting → IsHeld found → IsHeld walk.entry → KeepsOn old new stage
kept_settles walk found old new stage (none_found none same is) w f held = same_kept old new stage same w (subst (KeptAt new) (sym is) held)
kept_settles walk found old new stage (equal e some differs same is) w f held = same_kept old new stage same w (subst (KeptAt new) (sym is) held)
kept_settles walk found old new stage (waits e some differs same low is) w f held = (
  λ i. (same i).most,
  record {
    waiting = subst (Each IsHeldByEither) (λ i. (sym same i).waiting) (Each-append IsHeldByEither old.waiting (e ∷ []) w (subst IsHeld some f, tt));
    at = subst (KeptAt new) (sym is) held;
  },
)
kept_settles walk found old new stage (fills e entries some differs full list one same is) w f held =
    let each = Each-append IsHeldByEither old.waiting (e ∷ []) w (subst IsHeld some f, tt) in
    let t = taken_kept old.most (old.waiting ++ e ∷ []) entries.items new.waiting list (λ i. (same i).waiting) each in
    let n : new.most ≡ old.most = λ i. (same i).most in
    let few = t.2 in
    (n, record { waiting = t.1; at = subst (KeptAt new) (sym is) (held, t.0, one, omega (arith, n, few)) })

goes_held : (walk : Walking) (found : Option Entry) (walk' : Walking) → GoesTo walk found walk' → IsHeld walk.entry → IsHeld found × IsHeld walk'.entry
goes_held walk found walk' (tells b b' e some takes full told is) held = (
  subst IsHeld (sym told) (found_held b b' e takes),
  subst IsHeld (sym (ap (λ (w : Walking). w.entry) is)) held,
)
goes_held walk found walk' (waits_page b b' e some takes wants told is) held = (
  subst IsHeld (sym told) tt,
  subst IsHeld (sym (ap (λ (w : Walking). w.entry) is)) (found_held b b' e takes),
)
goes_held walk found walk' (closes b some none none' told (moves c later more is)) held = (
  subst IsHeld (sym told) tt,
  subst IsHeld (sym (ap (λ (w : Walking). w.entry) is)) tt,
)
goes_held walk found walk' (closes b some none none' told (no_later no_more is)) held = (
  subst IsHeld (sym told) tt,
  subst IsHeld (sym (ap (λ (w : Walking). w.entry) is)) tt,
)

told_held : (walk : Walking) (mine theirs : List ListingValue) (found : Option Entry) (walk' : Walking) → IsTold walk mine theirs found walk' → IsHeld walk.entry → IsHeld found × IsHeld walk'.entry
told_held walk mine theirs found walk' (opens b later none all told is) held = (
  subst IsHeld (sym told) tt,
  subst IsHeld (sym (ap (λ (w : Walking). w.entry) is)) tt,
)
told_held walk mine theirs found walk' (fills_page b e some waited after after' told is) held = (
  subst IsHeld (sym told) (subst IsHeld waited held),
  subst IsHeld (sym (ap (λ (w : Walking). w.entry) is)) tt,
)

kept_alone : (work : Exchanging) (stage : Stage) (work' : Exchanging) (stage' : Stage) → GoesAlone work stage work' stage' → Kept work stage → KeepsOn work work' stage'
kept_alone work (Descends level) work' stage' g k = same_kept work work' stage' g.0 k.waiting (subst (KeptAt work') (sym g.1) tt)
kept_alone work (Walks walk) work' stage' (goes_on walk' found g settles) k =
    let held = goes_held walk found walk' g k.at in
    kept_settles walk' found work work' stage' settles k.waiting held.0 held.1
kept_alone work (Walks walk) work' stage' (last entries walked list one same is) k =
    let t = taken_kept work.most work.waiting entries.items work'.waiting list (λ i. (same i).waiting) k.waiting in
    let n : work'.most ≡ work.most = λ i. (same i).most in
    let few = t.2 in
    (n, record { waiting = t.1; at = subst (KeptAt work') (sym is) (k.at, t.0, one, omega (arith, n, few)) })
kept_alone work (Walks walk) work' stage' (ends walked none same is) k =
    (λ i. (same i).most, record { waiting = subst (Each IsHeldByEither) (λ i. (sym same i).waiting) tt; at = subst (KeptAt work') (sym is) tt })
kept_alone work (Carries walk turn count) work' stage' (turns side same begins) k = same_kept work work' stage' same k.waiting (subst (KeptAt work') (sym begins.is) k.at)
kept_alone work (Carries walk turn count) work' stage' (counts side adds is) k =
    (adds.most, record { waiting = subst (Each IsHeldByEither) (sym adds.waiting) k.waiting; at = subst (KeptAt work') (sym is) k.at })
kept_alone work (Meets walk entries) work' stage' never k = absurd never
kept_alone work Done work' stage' never k = absurd never
kept_alone work (Failed fault) work' stage' never k = absurd never

pub kept_went : (work : Exchanging) (stage : Stage) (work' : Exchanging) (stage' : Stage) → StageWent work stage work' stage' → Kept work stage → KeepsOn work work' stage'
kept_went work stage work' stage' (here w s same is) k = (ap (λ (w : Exchanging). w.most) same, subst (Kept w) (sym is) (subst (λ (w : Exchanging). Kept w stage) (sym same) k))
kept_went work stage work' stage' (on mid w stage1 s went quiet g) k =
    let before = kept_went work stage mid stage1 went k in
    let now = kept_alone mid stage1 w s g before.1 in
    (now.0 ∙ before.0, now.1)

-- ---- with answers

kept_carried : (work' : Exchanging) (walk : Walking) (turn : Turn) (share : Share) (told other : Option Told) (stage' : Stage) → CarriedOn walk turn share told other (Ok stage') → IsHeld walk.entry → KeptAt work' stage'
kept_carried work' walk turn share told other stage' (goes stage none p is) held = let same : stage' ≡ stage = cc in subst (KeptAt work') (sym (same ∙ p.goes)) held
kept_carried work' walk turn share told other stage' (of_other refusal none is) held = absurd (cc)
kept_carried work' walk turn share told other stage' (of_side refusal why is) held = absurd (cc)

pub kept_hears : (work work' : Exchanging) (stage stage' : Stage) (shares : Shares) (answers : Answers) → HearsAt work stage shares answers work' (Ok stage') → Kept work stage → Kept work' stage'
kept_hears work work' (Descends level) stage' shares answers (same, both mine theirs m s (after, deeper, is)) k = (same_kept work work' stage' same k.waiting (subst (KeptAt work') (sym is) tt)).1
kept_hears work work' (Descends level) stage' shares answers (same, of_local refusal m is) k = absurd (cc)
kept_hears work work' (Descends level) stage' shares answers (same, of_peer mine refusal m s is) k = absurd (cc)
kept_hears work work' (Walks walk) stage' shares answers (both mine theirs m s (after, found, told, settled)) k =
    let held = told_held walk mine.items theirs.items found after told k.at in
    (kept_settles after found work work' stage' settled k.waiting held.0 held.1).1
kept_hears work work' (Walks walk) stage' shares answers (of_local refusal m is) k = absurd (cc)
kept_hears work work' (Walks walk) stage' shares answers (of_peer mine refusal m s is) k = absurd (cc)
kept_hears work work' (Meets walk entries) stage' shares answers (uncut none (both mine theirs m s (meetings, plans, begins, next))) k =
    record { waiting = subst (Each IsHeldByEither) (λ i. (sym next i).waiting) k.waiting; at = subst (KeptAt work') (sym begins.is) k.at.0 }
kept_hears work work' (Meets walk entries) stage' shares answers (uncut none (of_local refusal m is)) k = absurd (cc)
kept_hears work work' (Meets walk entries) stage' shares answers (uncut none (of_peer mine refusal m s is)) k = absurd (cc)
kept_hears work work' (Meets walk entries) stage' shares answers (cut_at count cut (met_first (both mine theirs m s (meetings, plans, begins, next)))) k =
    let later = Each-right IsHeldByEither (take count entries.items) (drop count entries.items) (subst (Each IsHeldByEither) (sym (take-append-drop count entries.items)) k.at.1) in
    record { waiting = subst (Each IsHeldByEither) (λ i. (sym next i).waiting) (Each-append IsHeldByEither (drop count entries.items) work.waiting later k.waiting); at = subst (KeptAt work') (sym begins.is) k.at.0 }
kept_hears work work' (Meets walk entries) stage' shares answers (cut_at count cut (met_first (of_local refusal m is))) k = absurd (cc)
kept_hears work work' (Meets walk entries) stage' shares answers (cut_at count cut (met_first (of_peer mine refusal m s is))) k = absurd (cc)
kept_hears work work' (Meets walk entries) stage' shares answers (cut_at count cut (no_place is)) k = absurd (cc)
kept_hears work work' (Carries walk turn count) stage' shares answers (same, carried) k =
    (same_kept work work' stage' same k.waiting (kept_carried work' walk turn (share_of turn.side shares) (told_by_side turn.side answers) (told_by_side (other_of turn.side) answers) stage' carried k.at)).1
kept_hears work work' Done stage' shares answers never k = absurd never
kept_hears work work' (Failed fault) stage' shares answers never k = absurd never

-- ---- the questions of a window

take_few : {X : Type 0} (n : ℕ) (xs : List X) → (length (take n xs) ≤ length xs) × (length (take n xs) ≤ n)
take_few zero [] = (omega arith, omega arith)
take_few zero (x ∷ xs) = (omega arith, omega arith)
take_few (suc n) [] = (omega arith, omega arith)
take_few (suc n) (x ∷ xs) = let rest = take_few n xs in (omega (arith, rest.0), omega (arith, rest.1))

pub cut_few : (side : Side) (left : ℕ) (stage : Stage) → questions_in (cut_wanted left (wanted_at side stage)) ≤ wanted_count side stage
cut_few side left (Descends level) =
    let n = (take_few left (next_nodes level)).0 in
    let z = (take_few {X = PageQuestion} left []).0 in
    let y = (take_few {X = Key} left []).0 in
    let x = (take_few {X = Key × State} left []).0 in
    omega (arith, n, z, y, x)
cut_few side left (Walks walk) =
    let n = (take_few left (pages_of side walk)).0 in
    let z = (take_few {X = List ℕ} left []).0 in
    let y = (take_few {X = Key} left []).0 in
    let x = (take_few {X = Key × State} left []).0 in
    omega (arith, n, z, y, x)
cut_few side left (Meets walk entries) =
    let n = (take_few left (held_keys side entries.items)).0 in
    let z = (take_few {X = List ℕ} left []).0 in
    let y = (take_few {X = PageQuestion} left []).0 in
    let x = (take_few {X = Key × State} left []).0 in
    omega (arith, n, z, y, x)
cut_few side left (Carries walk turn count) =
    let n = (take_few left (cond (is_same turn.side side) (take count (untold turn)) [])).0 in
    let m : length (cond (is_same turn.side side) (take count (untold turn)) []) ≤ cond (is_same turn.side side) count 0 =
    elim (is_same turn.side side) as (λ b. length (cond b (take count (untold turn)) []) ≤ cond b count 0) [ true ↦ (take_few count (untold turn)).1 | false ↦ omega arith ] in
    let z = (take_few {X = List ℕ} left []).0 in
    let y = (take_few {X = PageQuestion} left []).0 in
    let x = (take_few {X = Key} left []).0 in
    omega (arith, n, m, z, y, x)
cut_few side left Done =
    let w = (take_few {X = List ℕ} left []).0 in
    let z = (take_few {X = PageQuestion} left []).0 in
    let y = (take_few {X = Key} left []).0 in
    let x = (take_few {X = Key × State} left []).0 in
    omega (arith, w, z, y, x)
cut_few side left (Failed fault) =
    let w = (take_few {X = List ℕ} left []).0 in
    let z = (take_few {X = PageQuestion} left []).0 in
    let y = (take_few {X = Key} left []).0 in
    let x = (take_few {X = Key × State} left []).0 in
    omega (arith, w, z, y, x)

-- how many of them count as the first at most: of a window that is cut those for the keys that are met
abbrev pub first_asked : (side : Side) (work work' : Exchanging) (stage stage' : Stage) (shares : Shares) (answers : Answers) → HearsAt work stage shares answers work' (Ok stage') → ℕ
first_asked side work work' (Descends level) stage' shares answers heard = length (next_nodes level)
first_asked side work work' (Walks walk) stage' shares answers heard = length (pages_of side walk)
first_asked side work work' (Meets walk entries) stage' shares answers (uncut none read) = length (held_keys side entries.items)
first_asked side work work' (Meets walk entries) stage' shares answers (cut_at count cut first) = length (held_keys side (take count entries.items))
first_asked side work work' (Carries walk turn count) stage' shares answers heard = cond (is_same turn.side side) count 0
first_asked side work work' Done stage' shares answers heard = 0
first_asked side work work' (Failed fault) stage' shares answers heard = 0

-- THE QUESTIONS OF A WINDOW, as those of the first time and those that will be made again
pub record Splits (asks most : Two ℕ ℕ) (answers : Answers) (work work' : Exchanging) : Type 0 where
  pub first : Two ℕ ℕ
  pub again : Two ℕ ℕ
  pub parts : (asks.local ≡ first.local + again.local) × (asks.peer ≡ first.peer + again.peer)
  pub within : (first.local ≤ most.local) × (first.peer ≤ most.peer)
  pub little : (again.local + work'.most ≤ work.most + 7 * (first.local + first.peer)) × (again.peer + work'.most ≤ work.most + 7 * (first.local + first.peer))
  pub unheld : 1 ≤ again.local + again.peer → HasLacked answers.mine ⊎ HasLacked answers.theirs

none_again : (asks most : Two ℕ ℕ) (answers : Answers) (work work' : Exchanging) → asks.local ≤ most.local → asks.peer ≤ most.peer → work'.most ≤ work.most + 7 * (asks.local + asks.peer) → Splits asks most answers work work'
none_again asks most answers work work' p q low = record {
  first = asks;
  again = two 0 0;
  parts = (omega arith, omega arith);
  within = (p, q);
  little = (omega (arith, low), omega (arith, low));
  unheld = λ some. absurd (omega (arith, some));
}

settles_most : (walk : Walking) (found : Option Entry) (old new : Exchanging) (stage : Stage) → SettlesFound walk found old new stage → new.most ≡ old.most
settles_most walk found old new stage (none_found none same is) = ap (λ (w : Exchanging). w.most) same
settles_most walk found old new stage (equal e some differs same is) = ap (λ (w : Exchanging). w.most) same
settles_most walk found old new stage (waits e some differs same low is) = λ i. (same i).most
settles_most walk found old new stage (fills e entries some differs full list one same is) = λ i. (same i).most

-- of a window whose states were told all are asked
all_asked : (left left' asked n wanted : ℕ) (share : Share) → asked ≡ n → n ≡ min left wanted → TakesBudget left left' wanted share.asked → share.wanted ≡ wanted → share.wanted ≤ share.asked → asked ≡ wanted
all_asked left left' asked n wanted share is cut budget counted whole = let s = budget.spent in omega (arith, is, cut, s, counted, whole)

module _ (left left' : Questions) (answers : Answers) (shares : Shares) (asks : Two ℕ ℕ) where
  -- what a window asks
  abbrev pub AsksAt : Stage → Type 0
  AsksAt stage = (asks.local ≡ questions_in (cut_wanted left.local (wanted_at AtLocal stage))) × (asks.peer ≡ questions_in (cut_wanted left.peer (wanted_at AtPeer stage)))

  within : (stage : Stage) → AsksAt stage → (asks.local ≤ wanted_count AtLocal stage) × (asks.peer ≤ wanted_count AtPeer stage)
  within stage a =
      let n = cut_few AtLocal left.local stage in
      let m = cut_few AtPeer left.peer stage in
      let b = a.0 in
      let c = a.1 in
      (omega (arith, n, b), omega (arith, m, c))

  pub split_hears : (work work' : Exchanging) (stage stage' : Stage) → Kept work stage → TakesShares stage left left' shares → AsksAt stage → (heard : HearsAt work stage shares answers work' (Ok stage'))
      → Splits asks (two (first_asked AtLocal work work' stage stage' shares answers heard) (first_asked AtPeer work work' stage stage' shares answers heard)) answers work work'
  split_hears work work' (Descends level) stage' k t a (same, read) =
      let n = ap (λ (w : Exchanging). w.most) same in
      let w = within (Descends level) a in
      none_again asks (two (length (next_nodes level)) (length (next_nodes level))) answers work work' w.0 w.1 (omega (arith, n))
  split_hears work work' (Walks walk) stage' k t a (both mine theirs m s (after, found, told, settled)) =
      let n = settles_most after found work work' stage' settled in
      let w = within (Walks walk) a in
      none_again asks (two (length (pages_of AtLocal walk)) (length (pages_of AtPeer walk))) answers work work' w.0 w.1 (omega (arith, n))
  split_hears work work' (Walks walk) stage' k t a (of_local refusal m is) = absurd (cc)
  split_hears work work' (Walks walk) stage' k t a (of_peer mine refusal m s is) = absurd (cc)
  split_hears work work' (Meets walk entries) stage' k t a (uncut none (both mine theirs m s (meetings, plans, begins, next))) =
      let w = within (Meets walk entries) a in
      let mine_all = all_asked left.local left'.local asks.local (questions_in (cut_wanted left.local (wanted_at AtLocal (Meets walk entries)))) (length (held_keys AtLocal entries.items)) shares.local a.0 (cut_long AtLocal left.local (Meets walk entries) tt) t.local t.wanted.0 (let e = m.whole in omega (arith, e)) in
      let theirs_all = all_asked left.peer left'.peer asks.peer (questions_in (cut_wanted left.peer (wanted_at AtPeer (Meets walk entries)))) (length (held_keys AtPeer entries.items)) shares.peer a.1 (cut_long AtPeer left.peer (Meets walk entries) tt) t.peer t.wanted.1 (let e = s.whole in omega (arith, e)) in
      let one = held_by_one entries.items k.at.1 in
      let some = k.at.2 in
      let few = k.at.3 in
      let bytes = max (weight mine.items) (weight theirs.items) in
      let n : work'.most ≡ next_most 1000 (length entries.items) bytes = λ i. (next i).most in
      let low : work'.most ≤ 8 * length entries.items = subst (λ most. most ≤ 8 * length entries.items) (sym n) (next_grows 1000 (length entries.items) bytes some) in
      none_again asks (two (length (held_keys AtLocal entries.items)) (length (held_keys AtPeer entries.items))) answers work work' w.0 w.1 (omega (arith, mine_all, theirs_all, one, few, low))
  split_hears work work' (Meets walk entries) stage' k t a (uncut none (of_local refusal m is)) = absurd (cc)
  split_hears work work' (Meets walk entries) stage' k t a (uncut none (of_peer mine refusal m s is)) = absurd (cc)
  split_hears work work' (Meets walk entries) stage' k t a (cut_at count cut (met_first (both mine theirs m s (meetings, plans, begins, next)))) =
      let ones = take count entries.items in
      let others = drop count entries.items in
      let mine_all = all_asked left.local left'.local asks.local (questions_in (cut_wanted left.local (wanted_at AtLocal (Meets walk entries)))) (length (held_keys AtLocal entries.items)) shares.local a.0 (cut_long AtLocal left.local (Meets walk entries) tt) t.local t.wanted.0 (let e = cut.from_local.all in omega (arith, e)) in
      let theirs_all = all_asked left.peer left'.peer asks.peer (questions_in (cut_wanted left.peer (wanted_at AtPeer (Meets walk entries)))) (length (held_keys AtPeer entries.items)) shares.peer a.1 (cut_long AtPeer left.peer (Meets walk entries) tt) t.peer t.wanted.1 (let e = cut.from_peer.all in omega (arith, e)) in
      let p = ap length (held_split AtLocal count entries.items) ∙ length-append (held_keys AtLocal ones) (held_keys AtLocal others) in
      let q = ap length (held_split AtPeer count entries.items) ∙ length-append (held_keys AtPeer ones) (held_keys AtPeer others) in
      let few = k.at.3 in
      let less = cut.less in
      let c = length-take-le count entries.items (omega (arith, less)) in
      let d = length-drop count entries.items in
      let x = held_short AtLocal others in
      let y = held_short AtPeer others in
      let bytes = max (weight mine.items) (weight theirs.items) in
      let n : work'.most ≡ next_most count (length ones) bytes = λ i. (next i).most in
      let low : work'.most ≤ count = subst (λ most. most ≤ count) (sym n) (next_limited count (length ones) bytes cut.some) in
      record {
        first = two (length (held_keys AtLocal ones)) (length (held_keys AtPeer ones));
        again = two (length (held_keys AtLocal others)) (length (held_keys AtPeer others));
        parts = (omega (arith, mine_all, p), omega (arith, theirs_all, q));
        within = (omega arith, omega arith);
        little = (omega (arith, few, less, d, x, low), omega (arith, few, less, d, y, low));
        unheld = λ some. elim (front_lacks entries.items cut.mine cut.theirs (let is = cut.is in omega (arith, is, less))) [
          | inl lacked ↦ inl (cut.mine, cut.from_local.is, lacked)
          | inr lacked ↦ inr (cut.theirs, cut.from_peer.is, lacked)
        ];
      }
  split_hears work work' (Meets walk entries) stage' k t a (cut_at count cut (met_first (of_local refusal m is))) = absurd (cc)
  split_hears work work' (Meets walk entries) stage' k t a (cut_at count cut (met_first (of_peer mine refusal m s is))) = absurd (cc)
  split_hears work work' (Meets walk entries) stage' k t a (cut_at count cut (no_place is)) = absurd (cc)
  split_hears work work' (Carries walk turn count) stage' k t a (same, carried) =
      let n = ap (λ (w : Exchanging). w.most) same in
      let w = within (Carries walk turn count) a in
      none_again asks (two (cond (is_same turn.side AtLocal) count 0) (cond (is_same turn.side AtPeer) count 0)) answers work work' w.0 w.1 (omega (arith, n))
  split_hears work work' Done stage' k t a never = absurd never
  split_hears work work' (Failed fault) stage' k t a never = absurd never
