-- A session between two windows of questions.
use Rattle.std.proofs.Common.{◌≡◌, ◌≢◌, ℕ, zero, suc, ◌+◌, ◌<◌, ◌≤◌, ◌↔◌, Bool, true, false, cond, not, List, [], ◌∷◌, ◌++◌, map, length, drop, take, refl, sym, ap, subst, ◌∙◌, arith, Option, Some, None, inl, inr, length-append, length-drop}
use Rattle.std.specs.Prelude.{IfErr, IfOk, IfSome, Result, Ok, Err, Vec, ◌⊎◌}
use Rattle.std.specs.declared.alloc.Global.{Global}
use Rattle.std.proofs.lemmas.Bool.{cases_lt}
use Rattle.std.proofs.lemmas.List.{append-nil, length-map, length-take-le, take-append-drop}
use Rattle.mvd_dots.specs.declared.refusals.Refusal.{Refusal}
use Rattle.mvd_dots.specs.declared.refusals.Refusal.TheVariants.{Memory}
use Rattle.mvd_peer.specs.PushedStates.{Each}
use Rattle.mvd_peer.specs.Asking.{PageQuestion}
use Rattle.mvd_keys.specs.State.{State}
use Rattle.mvd_sync.specs.Answers.{ListingValue}
use Rattle.mvd_sync.specs.Exchanges.{CountsDone, Done as DoneKey, Exchanging, IsHeldByEither}
use Rattle.mvd_sync.specs.Level.{GoesDown, IsDown, Level, along, down, next_nodes}
use Rattle.mvd_sync.specs.Machines.{StageAsks, AsksForNext, TurnBegins, FromWalk, GoesAlone, HasNext, HasRoomLeft, StageHears, HearsAt, IsFit, IsFitting, IsQuiet, Machining, SettlesFound, StageStands, TakesShares, StageWent, StatesHeard, Met, both, counts, cut as cut_at, wanted_count, ends, equal, fills, goes as took, goes_on, hears, here, in_flight, in_window, is_same, last, met, no_room as no_place, none_found, of_local, of_other, of_peer, of_side, on, quiet, share_of, stage_after, stays, turns, waits, whole as uncut}
use Rattle.mvd_sync.specs.Meetings.{done_of, noted, rest_if, taken_from}
use Rattle.mvd_sync.specs.Walk.{told_all}
use Rattle.mvd_sync.specs.Walking.{GoesTo, IsTold, IsWalked, Walking, closes, ends as no_later, fills as fills_page, moves, opens, pages_next, tells, waits as waits_page}
use Rattle.mvd_sync.specs.declared.asking.Node.{Node}
use Rattle.mvd_sync.specs.declared.asking.Questions.{Questions}
use Rattle.mvd_sync.specs.declared.cursor.Entry.{Entry}
use Rattle.mvd_sync.specs.declared.meetings.Meeting.{Meeting}
use Rattle.mvd_sync.specs.declared.report.Side.{Side}
use Rattle.mvd_sync.specs.declared.report.Side.TheVariants.{Local as AtLocal, Peer as AtPeer}
use Rattle.mvd_sync.specs.declared.asked.Step.{Step}
use Rattle.mvd_sync.specs.declared.report.SyncFault.{SyncFault}
use Rattle.mvd_sync.specs.declared.report.SyncFault.TheVariants.{Local}
use Rattle.mvd_sync.specs.declared.stage.Stage.{Stage}
use Rattle.mvd_sync.specs.declared.stage.Stage.TheVariants.{Descends, Walks, Meets, Carries, Done, Failed}
use Rattle.mvd_sync.specs.declared.telling.Answers.{Answers}
use Rattle.mvd_sync.specs.declared.telling.Shares.{Shares}
use Rattle.mvd_sync.specs.declared.turn.Turn.{Turn}
use Rattle.mvd_sync.specs.declared.walking.Bucket.{Bucket}
use Rattle.mvd_sync.proofs.Descents.{Each-right, Each-take, long_told_all}
use Rattle.mvd_sync.proofs.Exchanging.{all_count}
use Rattle.mvd_sync.proofs.Keys.{Each-weaker}
use Rattle.mvd_sync.proofs.Nodes.{Each-append}
use Rattle.mvd_sync.proofs.Stages.{held_by_one, plan_keys, same_length}
use Rattle.mvd_sync.proofs.Walked.{no_window, quiet_if, size_of}
use Rattle.mvd_sync.proofs.WalkedOn.{found_held, goes_smaller}

-- ---- how much room is left

pub noted_long : (side : Side) (ms : List Meeting) (told : List (Result (Unit {0}) Refusal)) → length (noted side ms told) ≡ length ms
noted_long side [] told = refl
noted_long side (m ∷ ms) told = ap suc (noted_long side ms (rest_if m.asked told))

counts_room : (ds : List DoneKey) (old new : Exchanging) → CountsDone ds old new → new.keys + new.refused ≡ old.keys + old.refused + length ds
counts_room ds old new adds = let n = all_count ds in omega (arith, n, adds.keys, adds.refused)

settles_room : (walk : Walking) (found : Option Entry) (old new : Exchanging) (stage : Stage) → SettlesFound walk found old new stage → new.keys + new.refused + in_flight stage ≡ old.keys + old.refused
settles_room walk found old new stage (none_found none same is) =
    let k = ap (λ (w : Exchanging). w.keys) same in
    let r = ap (λ (w : Exchanging). w.refused) same in
    let f = ap in_flight is in
    omega (arith, k, r, f)
settles_room walk found old new stage (equal e some differs same is) =
    let k = ap (λ (w : Exchanging). w.keys) same in
    let r = ap (λ (w : Exchanging). w.refused) same in
    let f = ap in_flight is in
    omega (arith, k, r, f)
settles_room walk found old new stage (waits e some differs same low is) =
    let k = ap (λ (w : Exchanging). w.keys) same in
    let r = ap (λ (w : Exchanging). w.refused) same in
    let f = ap in_flight is in
    omega (arith, k, r, f)
settles_room walk found old new stage (fills e entries some differs full list one same is) =
    let k = ap (λ (w : Exchanging). w.keys) same in
    let r = ap (λ (w : Exchanging). w.refused) same in
    let f = ap in_flight is in
    omega (arith, k, r, f)

begins_room : (walk : Walking) (side : Side) (ms : List Meeting) (stage : Stage) → TurnBegins walk side ms stage → in_flight stage ≡ length ms
begins_room walk side ms stage b = ap in_flight b.is ∙ ap length b.begun.keys ∙ length-map ms (taken_from side)

pub alone_room : (work : Exchanging) (stage : Stage) (work' : Exchanging) (stage' : Stage) → GoesAlone work stage work' stage' → work'.keys + work'.refused + in_flight stage' ≤ work.keys + work.refused + in_flight stage
alone_room work (Descends level) work' stage' g =
    let k = ap (λ (w : Exchanging). w.keys) g.0 in
    let r = ap (λ (w : Exchanging). w.refused) g.0 in
    let f = ap in_flight g.1 in
    omega (arith, k, r, f)
alone_room work (Walks walk) work' stage' (goes_on walk' found g settles) = let n = settles_room walk' found work work' stage' settles in omega (arith, n)
alone_room work (Walks walk) work' stage' (last entries walked list one same is) =
    let k = ap (λ (w : Exchanging). w.keys) same in
    let r = ap (λ (w : Exchanging). w.refused) same in
    let f = ap in_flight is in
    omega (arith, k, r, f)
alone_room work (Walks walk) work' stage' (ends walked none same is) =
    let k = ap (λ (w : Exchanging). w.keys) same in
    let r = ap (λ (w : Exchanging). w.refused) same in
    let f = ap in_flight is in
    omega (arith, k, r, f)
alone_room work (Carries walk turn count) work' stage' (turns side same begins) =
    let k = ap (λ (w : Exchanging). w.keys) same in
    let r = ap (λ (w : Exchanging). w.refused) same in
    let f = begins_room walk AtPeer (noted AtLocal turn.meetings.items turn.told.items) stage' begins in
    let n = noted_long AtLocal turn.meetings.items turn.told.items in
    omega (arith, k, r, f, n)
alone_room work (Carries walk turn count) work' stage' (counts side adds is) =
    let now = noted AtPeer turn.meetings.items turn.told.items in
    let k = counts_room (map done_of now) work work' adds in
    let m = length-map now done_of in
    let n = noted_long AtPeer turn.meetings.items turn.told.items in
    let f = ap in_flight is in
    omega (arith, k, m, n, f)
alone_room work (Meets walk entries) work' stage' never = absurd never
alone_room work Done work' stage' never = absurd never
alone_room work (Failed fault) work' stage' never = absurd never

-- ---- how far it may go without a question

abbrev size_of_turn : Side → ℕ
size_of_turn AtLocal = 2
size_of_turn AtPeer = 1

abbrev pub size_at : Stage → ℕ
size_at (Descends level) = 2
size_at (Walks walk) = 1 + size_of walk
size_at (Meets walk entries) = 0
size_at (Carries walk turn count) = 1 + size_of walk + size_of_turn turn.side
size_at Done = 0
size_at (Failed fault) = 0

settles_small : (walk : Walking) (found : Option Entry) (old new : Exchanging) (stage : Stage) → SettlesFound walk found old new stage → size_at stage ≤ 1 + size_of walk
settles_small walk found old new stage (none_found none same is) = let n = ap size_at is in omega (arith, n)
settles_small walk found old new stage (equal e some differs same is) = let n = ap size_at is in omega (arith, n)
settles_small walk found old new stage (waits e some differs same low is) = let n = ap size_at is in omega (arith, n)
settles_small walk found old new stage (fills e entries some differs full list one same is) = let n = ap size_at is in omega (arith, n)

pub alone_smaller : (work : Exchanging) (stage : Stage) (work' : Exchanging) (stage' : Stage) → GoesAlone work stage work' stage' → size_at stage' < size_at stage
alone_smaller work (Descends level) work' stage' g = let n = ap size_at g.1 in omega (arith, n)
alone_smaller work (Walks walk) work' stage' (goes_on walk' found g settles) =
    let n = goes_smaller walk found walk' g in
    let m = settles_small walk' found work work' stage' settles in
    omega (arith, n, m)
alone_smaller work (Walks walk) work' stage' (last entries walked list one same is) = let n = ap size_at is in omega (arith, n)
alone_smaller work (Walks walk) work' stage' (ends walked none same is) = let n = ap size_at is in omega (arith, n)
alone_smaller work (Carries walk turn count) work' stage' (turns side same begins) =
    let n = ap size_at begins.is in
    let s = ap size_of_turn side in
    let t = ap size_of_turn begins.begun.of_side in
    omega (arith, n, s, t)
alone_smaller work (Carries walk turn count) work' stage' (counts side adds is) =
    let n = ap size_at is in
    let s = ap size_of_turn side in
    omega (arith, n, s)
alone_smaller work (Meets walk entries) work' stage' never = absurd never
alone_smaller work Done work' stage' never = absurd never
alone_smaller work (Failed fault) work' stage' never = absurd never

-- ---- it stays in form

abbrev pub IsHeld : Option Entry → Type 0
IsHeld found = IfSome found IsHeldByEither

pub goes_held : (walk : Walking) (found : Option Entry) (walk' : Walking) → GoesTo walk found walk' → IsHeld walk.entry → IsHeld found × IsHeld walk'.entry
goes_held walk found walk' (tells b b' e some takes full told is) held = (
  subst IsHeld (sym told) (found_held b b' e takes),
  subst IsHeld (sym (ap (λ (w : Walking). w.entry) is)) held,
)
goes_held walk found walk' (waits_page b b' e some takes wants told is) held = (
  subst IsHeld (sym told) tt,
  subst IsHeld (sym (ap (λ (w : Walking). w.entry) is)) (found_held b b' e takes),
)
goes_held walk found walk' (closes b some none none' told (moves c later more is)) held = (
  subst IsHeld (sym told) tt,
  subst IsHeld (sym (ap (λ (w : Walking). w.entry) is)) tt,
)
goes_held walk found walk' (closes b some none none' told (no_later no_more is)) held = (
  subst IsHeld (sym told) tt,
  subst IsHeld (sym (ap (λ (w : Walking). w.entry) is)) tt,
)

pub told_held : (walk : Walking) (mine theirs : List ListingValue) (found : Option Entry) (walk' : Walking) → IsTold walk mine theirs found walk' → IsHeld walk.entry → IsHeld found × IsHeld walk'.entry
told_held walk mine theirs found walk' (opens b later none all told is) held = (
  subst IsHeld (sym told) tt,
  subst IsHeld (sym (ap (λ (w : Walking). w.entry) is)) tt,
)
told_held walk mine theirs found walk' (fills_page b e some waited after after' told is) held = (
  subst IsHeld (sym told) (subst IsHeld waited held),
  subst IsHeld (sym (ap (λ (w : Walking). w.entry) is)) tt,
)

pub Each-drop : {X : Type 0} (P : X → Type 0) (n : ℕ) (xs : List X) → Each P xs → Each P (drop n xs)
Each-drop P zero xs h = h
Each-drop P (suc n) [] h = tt
Each-drop P (suc n) (x ∷ xs) h = Each-drop P n xs h.1

-- none is taken out only where none waits
pub taken_none : (all entries : List Entry) → (1 ≤ length all → 1 ≤ length entries) → length entries ≡ 0 → all ≡ []
taken_none [] entries some none = refl
taken_none (e ∷ es) entries some none = let m = some (omega arith) in absurd (omega (arith, m, none))

pub drop_none : (n : ℕ) (es : List Entry) → es ≡ [] → drop n es ≡ []
drop_none zero es none = none
drop_none (suc n) [] none = refl
drop_none (suc n) (e ∷ es) none = absurd (cc)

-- the first of some are taken out
cut_lengths : (most : ℕ) (all entries later : List Entry) → entries ≡ take most all → later ≡ drop most all → length entries + length later ≡ length all
cut_lengths most all entries later is rest =
    let n = ap length is in
    let m = ap length rest in
    let both = ap length (take-append-drop most all) in
    let sum = length-append (take most all) (drop most all) in
    omega (arith, n, m, both, sum)

-- with those of a window at most a thousand wait
abbrev Fits : Exchanging → Stage → Type 0
Fits work stage = in_window stage + length work.waiting ≤ 1000

-- fewer than a thousand wait, and each is held
abbrev Waits : Exchanging → Type 0
Waits work = (length work.waiting < 1000) × Each IsHeldByEither work.waiting

same_waits : (old new : Exchanging) → new.waiting ≡ old.waiting → Waits old → Waits new
same_waits old new same w = subst (λ (es : List Entry). (length es < 1000) × Each IsHeldByEither es) (sym same) w

none_waits : (work : Exchanging) → work.waiting ≡ [] → Waits work
none_waits work none = subst (λ (es : List Entry). (length es < 1000) × Each IsHeldByEither es) (sym none) (omega arith, tt)

settles_fit : (walk : Walking) (found : Option Entry) (old new : Exchanging) (stage : Stage) → SettlesFound walk found old new stage → Waits old → IsHeld found → IsHeld walk.entry → Waits new × StageStands stage × Fits new stage
settles_fit walk found old new stage (none_found none same is) w f held =
    let now = same_waits old new (ap (λ (w : Exchanging). w.waiting) same) w in
    let n = ap in_window is in
    let low = now.0 in
    (now, subst StageStands (sym is) held, omega (arith, n, low))
settles_fit walk found old new stage (equal e some differs same is) w f held =
    let now = same_waits old new (ap (λ (w : Exchanging). w.waiting) same) w in
    let n = ap in_window is in
    let low = now.0 in
    (now, subst StageStands (sym is) held, omega (arith, n, low))
settles_fit walk found old new stage (waits e some differs same low is) w f held =
    let n = ap in_window is in
    let short = low.0 in (
      (low.0, subst (Each IsHeldByEither) (sym (ap (λ (w : Exchanging). w.waiting) same)) (Each-append IsHeldByEither old.waiting (e ∷ []) w.1 (subst IsHeld some f, tt))),
      subst StageStands (sym is) held,
      omega (arith, n, short),
    )
settles_fit walk found old new stage (fills e entries some differs full list one same is) w f held =
    let all = old.waiting ++ e ∷ [] in
    let each = Each-append IsHeldByEither old.waiting (e ∷ []) w.1 (subst IsHeld some f, tt) in
    let wait : new.waiting ≡ drop old.most all = ap (λ (w : Exchanging). w.waiting) same in
    let n = cut_lengths old.most all entries.items new.waiting list wait in
    let m = length-append old.waiting (e ∷ []) in
    let k = ap in_window is in
    let l = w.0 in (
      (omega (arith, n, m, l, one), subst (Each IsHeldByEither) (sym wait) (Each-drop IsHeldByEither old.most all each)),
      subst StageStands (sym is) (held, omega (arith, n, m, l), subst (Each IsHeldByEither) (sym list) (Each-take IsHeldByEither old.most all each), one),
      omega (arith, k, n, m, l),
    )

begins_stands : (walk : Walking) (side : Side) (ms : List Meeting) (stage : Stage) → TurnBegins walk side ms stage → IsHeld walk.entry → StageStands stage
begins_stands walk side ms stage b held = subst StageStands (sym b.is) (held, b.window, let n = ap length b.begun.fresh in omega (arith, n))

alone_stands : (work : Exchanging) (stage : Stage) (work' : Exchanging) (stage' : Stage) → GoesAlone work stage work' stage' → Waits work → StageStands stage → Waits work' × StageStands stage' × Fits work' stage'
alone_stands work (Descends level) work' stage' g w s =
    let now = same_waits work work' (ap (λ (w : Exchanging). w.waiting) g.0) w in
    let n = ap in_window g.1 in
    let low = now.0 in
    (now, subst StageStands (sym g.1) tt, omega (arith, n, low))
alone_stands work (Walks walk) work' stage' (goes_on walk' found g settles) w s =
    let held = goes_held walk found walk' g s in
    settles_fit walk' found work work' stage' settles w held.0 held.1
alone_stands work (Walks walk) work' stage' (last entries walked list one same is) w s =
    let wait : work'.waiting ≡ drop work.most work.waiting = ap (λ (w : Exchanging). w.waiting) same in
    let n = cut_lengths work.most work.waiting entries.items work'.waiting list wait in
    let k = ap in_window is in
    let l = w.0 in (
      (omega (arith, n, l), subst (Each IsHeldByEither) (sym wait) (Each-drop IsHeldByEither work.most work.waiting w.1)),
      subst StageStands (sym is) (s, omega (arith, n, l), subst (Each IsHeldByEither) (sym list) (Each-take IsHeldByEither work.most work.waiting w.1), one),
      omega (arith, k, n, l),
    )
alone_stands work (Walks walk) work' stage' (ends walked none same is) w s =
    let now = none_waits work' (ap (λ (w : Exchanging). w.waiting) same) in
    let n = ap in_window is in
    let low = now.0 in
    (now, subst StageStands (sym is) tt, omega (arith, n, low))
alone_stands work (Carries walk turn count) work' stage' (turns side same begins) w s =
    let now = same_waits work work' (ap (λ (w : Exchanging). w.waiting) same) w in
    let n = ap in_window begins.is in
    let low = now.0 in
    (now, begins_stands walk AtPeer (noted AtLocal turn.meetings.items turn.told.items) stage' begins s.0, omega (arith, n, low))
alone_stands work (Carries walk turn count) work' stage' (counts side adds is) w s =
    let now = same_waits work work' adds.waiting w in
    let n = ap in_window is in
    let low = now.0 in
    (now, subst StageStands (sym is) s.0, omega (arith, n, low))
alone_stands work (Meets walk entries) work' stage' never w s = absurd never
alone_stands work Done work' stage' never w s = absurd never
alone_stands work (Failed fault) work' stage' never w s = absurd never

pub fit_of : (left : Questions) (work : Exchanging) (stage : Stage) → IsFitting left work stage → IsFit left work stage
fit_of left work (Descends level) f = f
fit_of left work (Walks walk) f = f
fit_of left work (Meets walk entries) f = f
fit_of left work (Carries walk turn count) f = f
fit_of left work Done f = f
fit_of left work (Failed fault) f = tt

-- a stage that g on without a question has not failed
quiet_fits : (left : Questions) (work : Exchanging) (stage : Stage) → IsQuiet stage → IsFit left work stage → IsFitting left work stage
quiet_fits left work (Descends level) q f = f
quiet_fits left work (Walks walk) q f = f
quiet_fits left work (Meets walk entries) q f = f
quiet_fits left work (Carries walk turn count) q f = f
quiet_fits left work Done q f = f
quiet_fits left work (Failed fault) q f = absurd q

pub quiet_room : (left : Questions) (work : Exchanging) (stage : Stage) → IsQuiet stage → IsFit left work stage → HasRoomLeft work stage
quiet_room left work stage q f = let room = (quiet_fits left work stage q f).room in omega (arith, room)

pub went_fit : (left : Questions) (work : Exchanging) (stage : Stage) {work' : Exchanging} {stage' : Stage} → StageWent work stage work' stage' → IsFit left work stage → IsFit left work' stage'
went_fit left work stage (here work' stage' same is) fit = subst (λ w. IsFit left w stage') (sym same) (subst (λ s. IsFit left work s) (sym is) fit)
went_fit left work stage (on mid work' stage1 stage' went q g) fit =
    let f = quiet_fits left mid stage1 q (went_fit left work stage went fit) in
    let room = f.room in
    let less = alone_room mid stage1 work' stage' g in
    let more = alone_stands mid stage1 work' stage' g (f.short, f.held) f.stands in
    fit_of left work' stage' (record { room = omega (arith, room, less); short = more.0.0; fits = more.2; held = more.0.1; stands = more.1 })

-- ---- with answers

-- a level of which both sides told stays in form
goes_down_fit : (level : Level) (mine theirs : List Node) (after : Level) → GoesDown level mine theirs after → StageStands (Descends level) → StageStands (Descends after)
goes_down_fit level mine theirs after (along more is) s =
    let deep = Each-append (λ path. length path ≡ level.depth + 1) level.below (told_all (next_nodes level) mine theirs) s.1
    (long_told_all level.depth (next_nodes level) mine theirs (Each-take (λ path. length path ≡ level.depth) 64 level.rest s.0)) in
    subst (λ (l : Level). StageStands (Descends l)) (sym is) (Each-drop (λ path. length path ≡ level.depth) 64 level.rest s.0, deep)
goes_down_fit level mine theirs after (down none is) s =
    let deep = Each-append (λ path. length path ≡ level.depth + 1) level.below (told_all (next_nodes level) mine theirs) s.1
    (long_told_all level.depth (next_nodes level) mine theirs (Each-take (λ path. length path ≡ level.depth) 64 level.rest s.0)) in
    subst (λ (l : Level). StageStands (Descends l)) (sym is) (deep, tt)

stays_same : (stage stage' : Stage) (mine theirs : Result (Unit {0}) Refusal) → Ok stage' ≡ stays stage mine theirs → stage' ≡ stage
stays_same stage stage' (Err refusal) theirs is = absurd (cc)
stays_same stage stage' (Ok x) (Err refusal) is = absurd (cc)
stays_same stage stage' (Ok x) (Ok y) is = cc

-- the side in turn is asked for what is next of its pushes
own_count : (side : Side) (count : ℕ) → cond (is_same side side) count 0 ≡ count
own_count AtLocal count = refl
own_count AtPeer count = refl

share_wanted : (side : Side) (stage : Stage) (left left' : Questions) (shares : Shares) → TakesShares stage left left' shares → (share_of side shares).wanted ≡ wanted_count side stage
share_wanted AtLocal stage left left' shares takes = takes.wanted.0
share_wanted AtPeer stage left left' shares takes = takes.wanted.1

share_most : (side : Side) (stage : Stage) (left left' : Questions) (shares : Shares) → TakesShares stage left left' shares → (share_of side shares).asked ≤ (share_of side shares).wanted
share_most AtLocal stage left left' shares takes = let a = takes.local.most in let b = takes.wanted.0 in omega (arith, a, b)
share_most AtPeer stage left left' shares takes = let a = takes.peer.most in let b = takes.wanted.1 in omega (arith, a, b)

pub own_share : (walk : Walking) (turn : Turn) (count : ℕ) (left left' : Questions) (shares : Shares) → TakesShares (Carries walk turn count) left left' shares → ((share_of turn.side shares).wanted ≡ count) × ((share_of turn.side shares).asked ≤ (share_of turn.side shares).wanted)
own_share walk turn count left left' shares takes = (
  share_wanted turn.side (Carries walk turn count) left left' shares takes ∙ own_count turn.side count,
  share_most turn.side (Carries walk turn count) left left' shares takes,
)

-- the states of a window were told
met_fit : (left : Questions) (work : Exchanging) (walk : Walking) (first later : List Entry) (limit : ℕ) (left' : Questions) (work' : Exchanging) (stage' : Stage) (asked_l asked_p : ℕ) (mine theirs : List State) → 1 ≤ length first → (length first + length later + length work.waiting ≤ 1000) → Each IsHeldByEither (first ++ later)
    → Each IsHeldByEither work.waiting → IfSome walk.entry IsHeldByEither → work.keys + work.refused + left.local + left.peer ≤ 20000000 → left.local ≡ left'.local + asked_l → left.peer ≡ left'.peer + asked_p → length first ≤ asked_l + asked_p
    → Met work walk first later limit work' mine theirs (Ok stage') → IsFitting left' work' stage'
met_fit left work walk first later limit left' work' stage' asked_l asked_p mine theirs some low each others walked room a b paid g =
    let k = ap (λ (w : Exchanging). w.keys) g.3 in
    let r = ap (λ (w : Exchanging). w.refused) g.3 in
    let wait : work'.waiting ≡ later ++ work.waiting = ap (λ (w : Exchanging). w.waiting) g.3 in
    let n = ap length wait in
    let m = length-append later work.waiting in
    let f = begins_room walk AtLocal g.0 stage' g.2 in
    let i = ap in_window g.2.is in
    let same = same_length g.0 first (plan_keys work.number first mine theirs g.0 g.1) in
    record {
      room = omega (arith, a, b, k, r, f, same, paid, room);
      short = omega (arith, n, m, low, some);
      fits = omega (arith, i, n, m, low, some);
      held = subst (Each IsHeldByEither) (sym wait) (Each-append IsHeldByEither later work.waiting (Each-right IsHeldByEither first later each) others);
      stands = begins_stands walk AtLocal g.0 stage' g.2 walked;
    }

states_fit : (left : Questions) (work : Exchanging) (walk : Walking) (entries : Vec Entry Global) (answers : Answers) (left' : Questions) (work' : Exchanging) (stage' : Stage) (shares : Shares)
    → IsFitting left work (Meets walk entries) → TakesShares (Meets walk entries) left left' shares → StatesHeard work walk entries.items shares answers work' (Ok stage') → IsFitting left' work' stage'
states_fit left work walk entries answers left' work' stage' shares fit takes (uncut none (of_local refusal why is)) = absurd (cc)
states_fit left work walk entries answers left' work' stage' shares fit takes (uncut none (of_peer mine refusal read why is)) = absurd (cc)
states_fit left work walk entries answers left' work' stage' shares fit takes (cut_at count cut (no_place is)) = absurd (cc)
states_fit left work walk entries answers left' work' stage' shares fit takes (cut_at count cut (met (of_local refusal why is))) = absurd (cc)
states_fit left work walk entries answers left' work' stage' shares fit takes (cut_at count cut (met (of_peer mine refusal read why is))) = absurd (cc)
states_fit left work walk entries answers left' work' stage' shares fit takes (uncut none (both mine theirs read read' g)) =
    let c = read.whole in
    let d = read'.whole in
    let e = takes.wanted in
    let one = held_by_one entries.items fit.stands.2 in
    let room = fit.room in
    let low = fit.fits in
    met_fit left work walk entries.items [] 1000 left' work' stage' shares.local.asked shares.peer.asked mine.items theirs.items fit.stands.3 (omega (arith, low))
    (subst (Each IsHeldByEither) (sym (append-nil entries.items)) fit.stands.2) fit.held fit.stands.0 (omega (arith, room)) takes.local.spent takes.peer.spent (omega (arith, one, c, d, e.0, e.1)) g
states_fit left work walk entries answers left' work' stage' shares fit takes (cut_at count cut (met (both mine theirs read read' g))) =
    let c = cut.from_local.all in
    let d = cut.from_peer.all in
    let e = takes.wanted in
    let less = cut.less in
    let some = cut.some in
    let one = held_by_one entries.items fit.stands.2 in
    let n = length-take-le count entries.items (omega (arith, less)) in
    let m = length-drop count entries.items in
    let room = fit.room in
    let low = fit.fits in
    met_fit left work walk (take count entries.items) (drop count entries.items) count left' work' stage' shares.local.asked shares.peer.asked mine.items theirs.items (omega (arith, n, some)) (omega (arith, n, m, less, low))
    (subst (Each IsHeldByEither) (sym (take-append-drop count entries.items)) fit.stands.2) fit.held fit.stands.0 (omega (arith, room)) takes.local.spent takes.peer.spent (omega (arith, n, one, less, c, d, e.0, e.1)) g

heard_fit : (left : Questions) (work : Exchanging) (stage : Stage) (answers : Answers) (left' : Questions) (work' : Exchanging) (stage' : Stage) (shares : Shares)
    → IsFitting left work stage → TakesShares stage left left' shares → HearsAt work stage shares answers work' (Ok stage') → IsFitting left' work' stage'
heard_fit left work (Descends level) answers left' work' stage' shares fit takes h = elim h.1 [
  | both mine theirs read read' g ↦
      let a = takes.local.spent in
      let b = takes.peer.spent in
      let k = ap (λ (w : Exchanging). w.keys) h.0 in
      let r = ap (λ (w : Exchanging). w.refused) h.0 in
      let f = ap in_flight g.2 in
      let room = fit.room in
      let w = same_waits work work' (ap (λ (w : Exchanging). w.waiting) h.0) (fit.short, fit.held) in
      let n = ap in_window g.2 in
      let low = w.0 in
      record { room = omega (arith, a, b, k, r, f, room); short = w.0; fits = omega (arith, n, low); held = w.1; stands = subst StageStands (sym g.2) (goes_down_fit level mine.items theirs.items g.0 g.1 fit.stands) }
  | of_local refusal why is ↦ absurd (cc)
  | of_peer mine refusal read why is ↦ absurd (cc)
]
heard_fit left work (Walks walk) answers left' work' stage' shares fit takes h = elim h [
  | both mine theirs read read' g ↦
      let a = takes.local.spent in
      let b = takes.peer.spent in
      let n = settles_room g.0 g.1 work work' stage' g.3 in
      let room = fit.room in
      let held = told_held walk mine.items theirs.items g.1 g.0 g.2 fit.stands in
      let more = settles_fit g.0 g.1 work work' stage' g.3 (fit.short, fit.held) held.0 held.1 in
      record { room = omega (arith, a, b, n, room); short = more.0.0; fits = more.2; held = more.0.1; stands = more.1 }
  | of_local refusal why is ↦ absurd (cc)
  | of_peer mine refusal read why is ↦ absurd (cc)
]
heard_fit left work (Meets walk entries) answers left' work' stage' shares fit takes h = states_fit left work walk entries answers left' work' stage' shares fit takes h
heard_fit left work (Carries walk turn count) answers left' work' stage' shares fit takes h = elim h.1 [
  | took stage quiet_other pushed is ↦
      let a = takes.local.spent in
      let b = takes.peer.spent in
      let k = ap (λ (w : Exchanging). w.keys) h.0 in
      let r = ap (λ (w : Exchanging). w.refused) h.0 in
      let same : stage' ≡ Carries walk pushed.after pushed.count = (let p = pushed.goes in cc) in
      let f = ap in_flight same in
      let m = ap (λ (v : Vec Meeting Global). length v.items) pushed.same.keys in
      let own = own_share walk turn count left left' shares takes in
      let n = ap length pushed.more in
      let l = length-append turn.told.items pushed.answers in
      let c = pushed.counted in
      let p = ap (λ (v : Vec (Rattle.mvd_keys.specs.Writes.Key × Rattle.mvd_keys.specs.State.State) Global). length v.items) pushed.same.takes in
      let low = fit.stands.1.within in
      let d = length-drop (length turn.told.items) turn.pairs.items in
      let fits = fit.stands.2 in
      let room = fit.room in
      let w = same_waits work work' (ap (λ (w : Exchanging). w.waiting) h.0) (fit.short, fit.held) in
      let i = ap in_window same in
      let short = w.0 in
      record {
        room = omega (arith, a, b, k, r, f, m, room);
        short = w.0;
        fits = omega (arith, i, short);
        held = w.1;
        stands = subst StageStands (sym same) (fit.stands.0, pushed.window, omega (arith, own.0, own.1, n, l, c, p, low, d, fits));
      }
  | of_other refusal why is ↦ absurd (cc)
  | of_side refusal why is ↦ absurd (cc)
]
heard_fit left work Done answers left' work' stage' shares fit takes h = absurd h
heard_fit left work (Failed fault) answers left' work' stage' shares fit takes h = absurd h

asks_fits : (left : Questions) (work : Exchanging) (stage : Stage) → StageAsks stage → IsFit left work stage → IsFitting left work stage
asks_fits left work (Descends level) q f = f
asks_fits left work (Walks walk) q f = f
asks_fits left work (Meets walk entries) q f = f
asks_fits left work (Carries walk turn count) q f = f
asks_fits left work Done q f = f
asks_fits left work (Failed fault) q f = absurd q

pub asks_stands : (left : Questions) (work : Exchanging) (stage : Stage) → StageAsks stage → IsFit left work stage → StageStands stage
asks_stands left work stage q f = (asks_fits left work stage q f).stands

pub hears_fit : (left : Questions) (work : Exchanging) (stage : Stage) (answers : Answers) (left' : Questions) (work' : Exchanging) (result : Result Stage SyncFault)
    → StageHears left work stage answers left' work' result → IsFit left work stage → IsFit left' work' (stage_after result)
hears_fit left work stage answers left' work' (Err fault) h fit = tt
hears_fit left work stage answers left' work' (Ok stage') (quiet still same same' is) fit =
    subst (λ l. IsFit l work' stage') (sym same) (subst (λ w. IsFit left w stage') (sym same') (subst (λ s. IsFit left work s) (sym (stays_same stage stage' _ _ is)) fit))
hears_fit left work stage answers left' work' (Ok stage') (hears shares asks takes at) fit =
    fit_of left' work' stage' (heard_fit left work stage answers left' work' stage' shares (asks_fits left work stage asks fit) takes at)

-- ---- tests

pub quiet_pages : (b : Bool) (qs : List PageQuestion) → (b ≡ true) ↔ (qs ≢ []) → (not b ≡ true) ↔ (qs ≡ [])
quiet_pages true qs is = (λ never. absurd (cc), λ none. absurd (is.0 refl none))
quiet_pages false qs is = (λ _. quiet_if false qs is refl, λ _. refl)

pub quiet_turn : (b : Bool) (n m : ℕ) → (b ≡ true) ↔ (n < m) → (not b ≡ true) ↔ (m ≤ n)
quiet_turn true n m is = (λ never. absurd (cc), λ low. let h = is.0 refl in absurd (omega (arith, h, low)))
quiet_turn false n m is = (λ _. elim (cases_lt n m) [ inl less ↦ (let h = is.1 less in absurd (cc)) | inr more ↦ more ], λ _. refl)

pub not_so : (b : Bool) (P : Type 0) → (b ≡ true) ↔ P → (not b ≡ true) ↔ (P → ⊥)
not_so true P is = (λ never. absurd (cc), λ no. absurd (no (is.0 refl)))
not_so false P is = (λ _ p. (let h = is.1 p in absurd (cc)), λ _. refl)

-- what does not go on without a question asks one, unless it is done or has failed
pub asks_of : (stage : Stage) → (IsQuiet stage → ⊥) → stage ≢ Done → ((fault : SyncFault) → stage ≢ Failed fault) → StageAsks stage
asks_of (Descends level) loud done failed = loud
asks_of (Walks walk) loud done failed = loud
asks_of (Meets walk entries) loud done failed = tt
asks_of (Carries walk turn count) loud done failed = elim (cases_lt (length turn.told.items) (length turn.pairs.items)) [ inl less ↦ less | inr more ↦ absurd (loud more) ]
asks_of Done loud done failed = absurd (done refl)
asks_of (Failed fault) loud done failed = absurd (failed fault refl)

-- ---- what the parts want

pub asks_high : (level : Level) → (IsDown level → ⊥) → level.depth < 3
asks_high level loud = elim (cases_lt level.depth 3) [ inl less ↦ less | inr more ↦ absurd (loud (inl more)) ]

pub asks_short : (level : Level) → (IsDown level → ⊥) → StageStands (Descends level) → Each (λ path. length path < 3) (next_nodes level)
asks_short level loud s =
    let high = asks_high level loud in
    Each-weaker (λ path. length path ≡ level.depth) (λ path. length path < 3) (λ path e. omega (arith, e, high)) (next_nodes level) (Each-take (λ path. length path ≡ level.depth) 64 level.rest s.0)

amid_of : (b : Option Bucket) (e : Option Entry) (rest : List (List ℕ)) → ((b ≡ None) × (rest ≡ []) → ⊥) → pages_next b e rest ≡ [] → (b ≢ None) × (e ≡ None)
amid_of None e rest more none = absurd (more (refl, no_window rest none))
amid_of (Some b) None rest more none = (λ is. absurd (cc), refl)
amid_of (Some b) (Some e) rest more none = absurd (cc)

-- a walk that is not done and asks nothing is amid a bucket
pub amid_bucket : (walk : Walking) → (IsWalked walk → ⊥) → pages_next walk.bucket walk.entry walk.rest ≡ [] → (walk.bucket ≢ None) × (walk.entry ≡ None)
amid_bucket walk more none = amid_of walk.bucket walk.entry walk.rest more none

pub goes_found : (walk : Walking) (found : Option Entry) (walk' : Walking) → walk.entry ≡ None → GoesTo walk found walk' → IfSome found IsHeldByEither
goes_found walk found walk' none g = (goes_held walk found walk' g (subst IsHeld (sym none) tt)).0

pub told_found : (walk : Walking) (mine theirs : List ListingValue) (found : Option Entry) (walk' : Walking) → IfSome walk.entry IsHeldByEither → IsTold walk mine theirs found walk' → IfSome found IsHeldByEither
told_found walk mine theirs found walk' held told = (told_held walk mine theirs found walk' told held).0

-- what a machine took, as its value tells it
pub took_told : (inside at : Machining) (stage : Stage) (answers : Answers) (left' : Questions) (work' : Exchanging) (result r : Result Stage SyncFault)
    → inside ≡ at → stage ≡ inside.stage → result ≡ r → StageHears inside.left inside.work stage answers left' work' result → StageHears at.left at.work at.stage answers left' work' r
took_told inside at stage answers left' work' result r view same is h =
    subst (λ (m : Machining). StageHears m.left m.work m.stage answers left' work' r) view
    (subst (λ s. StageHears inside.left inside.work s answers left' work' r) same (subst (λ x. StageHears inside.left inside.work stage answers left' work' x) is h))

pub took_fit : (left : Questions) (work : Exchanging) (first stage after : Stage) (answers : Answers) (left' : Questions) (work' : Exchanging) (result : Result Stage SyncFault)
    → stage ≡ first → result ≡ Ok after → IsFit left work first → StageHears left work stage answers left' work' result → IsFit left' work' after
took_fit left work first stage after answers left' work' result same is fit h =
    subst (λ r. IsFit left' work' (stage_after r)) is (hears_fit left work stage answers left' work' result h (subst (λ s. IsFit left work s) (sym same) fit))

-- ---- a machine goes on

settles_never : (walk : Walking) (found : Option Entry) (old new : Exchanging) (stage : Stage) (fault : SyncFault) → SettlesFound walk found old new stage → stage ≡ Failed fault → ⊥
settles_never walk found old new stage fault (none_found none same is) failed = absurd (cc)
settles_never walk found old new stage fault (equal e some differs same is) failed = absurd (cc)
settles_never walk found old new stage fault (waits e some differs same low is) failed = absurd (cc)
settles_never walk found old new stage fault (fills e entries some differs full list one same is) failed = absurd (cc)

begins_never : (walk : Walking) (side : Side) (ms : List Meeting) (stage : Stage) (fault : SyncFault) → TurnBegins walk side ms stage → stage ≡ Failed fault → ⊥
begins_never walk side ms stage fault b failed = let is = b.is in absurd (cc)

alone_never : (work : Exchanging) (stage : Stage) (work' : Exchanging) (stage' : Stage) (fault : SyncFault) → GoesAlone work stage work' stage' → stage' ≡ Failed fault → ⊥
alone_never work (Descends level) work' stage' fault g failed = let is = g.1 in absurd (cc)
alone_never work (Walks walk) work' stage' fault (goes_on walk' found g settles) failed = settles_never walk' found work work' stage' fault settles failed
alone_never work (Walks walk) work' stage' fault (last entries walked list one same is) failed = absurd (cc)
alone_never work (Walks walk) work' stage' fault (ends walked none same is) failed = absurd (cc)
alone_never work (Carries walk turn count) work' stage' fault (turns side same begins) failed = begins_never walk AtPeer (noted AtLocal turn.meetings.items turn.told.items) stage' fault begins failed
alone_never work (Carries walk turn count) work' stage' fault (counts side adds is) failed = absurd (cc)
alone_never work (Meets walk entries) work' stage' fault never failed = absurd never
alone_never work Done work' stage' fault never failed = absurd never
alone_never work (Failed f) work' stage' fault never failed = absurd never

-- a machine has failed only by an answer
failed_before : (work : Exchanging) (stage : Stage) {work' : Exchanging} {stage' : Stage} (fault : SyncFault) → StageWent work stage work' stage' → stage' ≡ Failed fault → stage ≡ Failed fault
failed_before work stage fault (here work' stage' same is) failed = sym is ∙ failed
failed_before work stage fault (on mid work' stage1 stage' went q g) failed = absurd (alone_never mid stage1 work' stage' fault g failed)

pub went_view : (inside at : Machining) (stage : Stage) (work' : Exchanging) (stage' : Stage) → inside ≡ at → stage ≡ inside.stage → StageWent inside.work stage work' stage' → StageWent at.work at.stage work' stage'
went_view inside at stage work' stage' view same went =
    subst (λ (m : Machining). StageWent m.work m.stage work' stage') view (subst (λ s. StageWent inside.work s work' stage') same went)

pub next_of : (old now : Machining) (result : Result (Option Step) SyncFault) → now.left ≡ old.left → StageWent old.work old.stage now.work now.stage → (IsQuiet now.stage → ⊥) → IfOk result (AsksForNext now) → IfOk result (HasNext old now)
next_of old now (Ok step) left went loud asks = record { left = left; went = went; loud = loud; asks = asks }
next_of old now (Err fault) left went loud asks = tt

pub ends_of : (old now : Machining) (result : Result (Option Step) SyncFault) → StageWent old.work old.stage now.work now.stage
    → IfErr result (λ fault. (fault ≡ Local Memory) ⊎ (now.stage ≡ Failed fault)) → IfErr result (λ fault. (fault ≡ Local Memory) ⊎ (old.stage ≡ Failed fault))
ends_of old now (Ok step) went why = tt
ends_of old now (Err fault) went (inl memory) = inl memory
ends_of old now (Err fault) went (inr failed) = inr (failed_before old.work old.stage fault went failed)

-- ---- small facts

pub was_false : (b : Bool) → not b ≡ true → b ≡ false
was_false true is = absurd (cc)
was_false false is = refl

pub was_true : (b : Bool) → not b ≡ false → b ≡ true
was_true true is = refl
was_true false is = absurd (cc)

pub walk_settles : (work : Exchanging) (walk walk' : Walking) (found : Option Entry) (work' : Exchanging) (result : Result Stage Refusal) → GoesTo walk found walk' → IfOk result (SettlesFound walk' found work work') → IfOk result (FromWalk work walk work')
walk_settles work walk walk' found work' (Ok stage) g settles = goes_on walk' found g settles
walk_settles work walk walk' found work' (Err refusal) g settles = tt
