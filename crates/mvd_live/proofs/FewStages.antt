-- How many questions a session may have asked a side, from one stage to the next.
use Rattle.std.proofs.Common.{◌≡◌, ◌⊎◌, inl, inr, ℕ, ◌+◌, ◌*◌, ◌≤◌, Bool, true, false, cond, List, [], ◌∷◌, ◌++◌, map, take, drop, length, refl, sym, ap, subst, ◌∙◌, arith, Some, None, Option, length-append}
use Rattle.std.specs.Prelude.{filter_map}
use Rattle.std.proofs.lemmas.List.{length-map, take-append-drop}
use Rattle.mvd_keys.specs.Writes.{Key}
use Rattle.mvd_peer.specs.PushedStates.{Each}
use Rattle.mvd_peer.specs.Windows.{ForEach}
use Rattle.mvd_sync.specs.Answers.{ListingValue, is_spent}
use Rattle.mvd_sync.proofs.Buckets.{waits_if}
use Rattle.mvd_sync.specs.Exchanges.{Exchanging}
use Rattle.mvd_sync.specs.Level.{IsDown, Level}
use Rattle.mvd_sync.specs.Machines.{FromTurn, FromWalk, GoesAlone, IsQuiet, SettlesFound, StageAsks, StageWent, TurnBegins, counts, ends, equal, fills, goes_on, here, is_same, last, none_found, on, turns, waits, wanted_count}
use Rattle.mvd_sync.specs.Meetings.{held_keys, is_held, noted, pushed_pair, taken_from}
use Rattle.mvd_sync.specs.OneTurn.{untold}
use Rattle.mvd_sync.specs.Session.{AreFew}
use Rattle.mvd_sync.specs.Walking.{GoesTo, IsTold, TakesNext, Walking, WantsPage, closes, ends as no_later, fills as fills_page, filled_both, first_page, is_asked, moves, opened_buckets, opens, pages_next, pages_of, tells, waits as waits_page}
use Rattle.mvd_peer.specs.Asking.{PageQuestion}
use Rattle.mvd_sync.specs.declared.cursor.Entry.{Entry}
use Rattle.mvd_sync.specs.declared.meetings.Meeting.{Meeting}
use Rattle.mvd_sync.specs.declared.report.Side.{Side}
use Rattle.mvd_sync.specs.declared.report.Side.TheVariants.{Local as AtLocal, Peer as AtPeer}
use Rattle.mvd_sync.specs.declared.stage.Stage.{Stage}
use Rattle.mvd_sync.specs.declared.stage.Stage.TheVariants.{Descends, Walks, Meets, Carries, Done, Failed}
use Rattle.mvd_sync.specs.declared.turn.Turn.{Turn}
use Rattle.mvd_sync.specs.declared.walking.Bucket.{Bucket}
use Rattle.mvd_sync.proofs.Machined.{noted_long}
use Rattle.mvd_sync.proofs.Paging.{mine_asked, spent_is, theirs_asked}
use Rattle.mvd_sync.proofs.Stages.{held_one, pairs_short}
use Rattle.mvd_live.specs.Few.{HasAllThatDiffered}
use Rattle.mvd_live.proofs.Buckets.{IsOpen, PageAt}
use Rattle.mvd_live.proofs.FewKeys.{AtTwo, IsFresh, WalkFew, at_bucket, filled_at, opened_fresh, paths_later, taken_at, walk_closes, walk_fills, walk_first, walk_moves, walk_opens, walk_took}
use Rattle.mvd_live.proofs.FewNodes.{LevelFew, level_ends, level_wants}
use Rattle.mvd_live.proofs.FewPages.{IsThousand, PagesFew, differing, differing_one, filled_more, held_count, listing_at, opened_full, pages_closes, pages_first, pages_moves, pages_opens, pages_took, sum_few}
use Rattle.mvd_live.proofs.Moments.{Frame, none_or_some}
use Rattle.mvd_live.proofs.Turns.{last_of}

-- ---- what may be asked so far

abbrev pub waits_of : Option Entry → List Entry
waits_of None = []
waits_of (Some e) = waits_if e

-- OF A WALK: with the buckets that are left, two for each key that waits, and what is owed besides
pub record WalkStands (f : Frame) (differed : List Key) (side : Side) (asked : ℕ) (waiting : List Entry) (owed : ℕ) (w : Walking) (found : Option Entry) : Type 0 where
  pub taken : List Entry
  pub pages : ℕ
  pub walk : WalkFew f differed w taken
  pub page : PagesFew f side w.bucket w.later taken pages
  pub few : asked + length w.rest + 2 * (length waiting + length (waits_of w.entry) + length (waits_of found)) + owed ≤ 1 + 3 * length differed + 2 * differing taken + pages

-- what a side is still to be asked in a turn
abbrev pub turn_owes : Side → Side → Turn → ℕ
turn_owes AtLocal AtLocal turn = length (untold turn)
turn_owes AtLocal AtPeer turn = 0
turn_owes AtPeer AtLocal turn = length turn.meetings.items
turn_owes AtPeer AtPeer turn = length (untold turn)

abbrev pub FewAt : Frame → List Key → Side → ℕ → Exchanging → Stage → Type 0
FewAt f differed side asked work (Descends level) = LevelFew differed asked level × (work.waiting ≡ [])
FewAt f differed side asked work (Walks walk) = WalkStands f differed side asked work.waiting 0 walk None
FewAt f differed side asked work (Meets walk entries) = WalkStands f differed side asked work.waiting (2 * length entries.items) walk None
FewAt f differed side asked work (Carries walk turn count) = WalkStands f differed side asked work.waiting (turn_owes side turn.side turn) walk None × (count ≤ length (untold turn))
FewAt f differed side asked work Done = AreFew asked (last_of f side) differed
FewAt f differed side asked work (Failed fault) = Unit {0}

-- the first keys are taken out of those that wait
taken_long : (most : ℕ) (all entries later : List Entry) → entries ≡ take most all → later ≡ drop most all → length entries + length later ≡ length all
taken_long most all entries later is rest =
    let n = ap length is in
    let m = ap length rest in
    let both = ap length (take-append-drop most all) in
    let sum = length-append (take most all) (drop most all) in
    omega (arith, n, m, both, sum)

-- fewer may be owed, and fewer asked
module _ (f : Frame) (differed : List Key) (side : Side) where
  pub stands_less : (asked asked' : ℕ) (waiting waiting' : List Entry) (owed owed' : ℕ) (w : Walking) → (old : WalkStands f differed side asked waiting owed w None) → asked' + 2 * length waiting' + owed' ≤ asked + 2 * length waiting + owed → WalkStands f differed side asked' waiting' owed' w None
  stands_less asked asked' waiting waiting' owed owed' w old less = record {
    taken = old.taken;
    pages = old.pages;
    walk = old.walk;
    page = old.page;
    few = let few = old.few in omega (arith, few, less);
  }

  -- a key was found, or none
  pub settle_few : (asked : ℕ) (walk : Walking) (found : Option Entry) (old new : Exchanging) (stage : Stage) → SettlesFound walk found old new stage → WalkStands f differed side asked old.waiting 0 walk found → FewAt f differed side asked new stage
  settle_few asked walk found old new stage (none_found none same is) s =
      let n = ap (λ o. length (waits_of o)) none in
      let m = ap (λ (w : Exchanging). length w.waiting) same in
      let few = s.few in
      subst (FewAt f differed side asked new) (sym is) (record { taken = s.taken; pages = s.pages; walk = s.walk; page = s.page; few = omega (arith, n, m, few) })
  settle_few asked walk found old new stage (equal e some differs same is) s =
      let n = ap (λ o. length (waits_of o)) some ∙ ap (λ b. length (cond b (e ∷ []) [])) differs in
      let m = ap (λ (w : Exchanging). length w.waiting) same in
      let few = s.few in
      subst (FewAt f differed side asked new) (sym is) (record { taken = s.taken; pages = s.pages; walk = s.walk; page = s.page; few = omega (arith, n, m, few) })
  settle_few asked walk found old new stage (waits e some differs same low is) s =
      let n = ap (λ o. length (waits_of o)) some ∙ ap (λ b. length (cond b (e ∷ []) [])) differs in
      let m = ap (λ (w : Exchanging). length w.waiting) same ∙ length-append old.waiting (e ∷ []) in
      let few = s.few in
      subst (FewAt f differed side asked new) (sym is) (record { taken = s.taken; pages = s.pages; walk = s.walk; page = s.page; few = omega (arith, n, m, few) })
  settle_few asked walk found old new stage (fills e entries some differs full list one same is) s =
      let n = ap (λ o. length (waits_of o)) some ∙ ap (λ b. length (cond b (e ∷ []) [])) differs in
      let m = taken_long old.most (old.waiting ++ e ∷ []) entries.items new.waiting list (λ i. (same i).waiting) in
      let k = length-append old.waiting (e ∷ []) in
      let few = s.few in
      subst (FewAt f differed side asked new) (sym is) (record { taken = s.taken; pages = s.pages; walk = s.walk; page = s.page; few = omega (arith, n, m, k, few) })

-- ---- without a question

quiet_entry : (w : Walking) (b : Bucket) → w.bucket ≡ Some b → pages_next w.bucket w.entry w.rest ≡ [] → w.entry ≡ None
quiet_entry w b some quiet = elim (none_or_some w.entry) [
  | inl none ↦ none
  | inr waited ↦ absurd (subst is_any ((λ i. pages_next (sym some i) (sym waited.1 i) w.rest) ∙ quiet) tt)
]
  where
    is_any : List PageQuestion → Type 0
    is_any [] = ⊥
    is_any (q ∷ qs) = Unit {0}

is_false : (x : Bool) → (x ≡ true → ⊥) → x ≡ false
is_false true never = absurd (never refl)
is_false false never = refl

open_of : (b : Bucket) → (WantsPage b → ⊥) → IsOpen b
open_of b full = (is_false (is_spent b.mine) (λ yes. full (inl yes)), is_false (is_spent b.theirs) (λ yes. full (inr yes)))

module _ (f : Frame) (differed : List Key) (all : HasAllThatDiffered f.locals f.peers differed) (side : Side) (asked : ℕ) (waiting : List Entry) where
  -- the next key is taken
  took_told : (b b' : Bucket) (e : Entry) (later : List Bucket) (rest : List (List ℕ)) → TakesNext b e b' → (WantsPage b' → ⊥) → WalkStands f differed side asked waiting 0 (at_bucket b None later rest) None
      → WalkStands f differed side asked waiting 0 (at_bucket b' None later rest) (Some e)
  took_told b b' e later rest takes full s =
      let at = s.walk.now.0 in
      let unspent = s.walk.now.1 in
      let n = differing_one e s.taken in
      let few = s.few in
      record {
        taken = e ∷ s.taken;
        pages = s.pages;
        walk = walk_took f differed all b b' e s.walk.upto at unspent takes None later rest s.taken (taken_at f differed all b b' e s.walk.upto at unspent takes, open_of b' full) s.walk refl;
        page = pages_took f side b b' e s.walk.upto later s.taken s.pages at takes s.page;
        few = omega (arith, n, few);
      }

  took_waits : (b b' : Bucket) (e : Entry) (later : List Bucket) (rest : List (List ℕ)) → TakesNext b e b' → WalkStands f differed side asked waiting 0 (at_bucket b None later rest) None
      → WalkStands f differed side asked waiting 0 (at_bucket b' (Some e) later rest) None
  took_waits b b' e later rest takes s =
      let at = s.walk.now.0 in
      let unspent = s.walk.now.1 in
      let n = differing_one e s.taken in
      let few = s.few in
      record {
        taken = e ∷ s.taken;
        pages = s.pages;
        walk = walk_took f differed all b b' e s.walk.upto at unspent takes (Some e) later rest s.taken (taken_at f differed all b b' e s.walk.upto at unspent takes, refl) s.walk refl;
        page = pages_took f side b b' e s.walk.upto later s.taken s.pages at takes s.page;
        few = omega (arith, n, few);
      }

  -- a bucket is closed
  closed_moves : (b c : Bucket) (later : List Bucket) (rest : List (List ℕ)) → WalkStands f differed side asked waiting 0 (at_bucket b None (c ∷ later) rest) None → WalkStands f differed side asked waiting 0 (at_bucket c None later rest) None
  closed_moves b c later rest s = record {
    taken = s.taken;
    pages = s.pages;
    walk = walk_moves f differed b c later rest s.taken s.walk;
    page = pages_moves f side b c later s.taken s.pages s.page;
    few = s.few;
  }

  closed_ends : (b : Bucket) (rest : List (List ℕ)) → WalkStands f differed side asked waiting 0 (at_bucket b None [] rest) None → WalkStands f differed side asked waiting 0 (record { rest = rest; bucket = None; later = []; entry = None }) None
  closed_ends b rest s = record {
    taken = s.taken;
    pages = s.pages;
    walk = walk_closes f differed b rest s.taken s.walk;
    page = pages_closes f side (Some b) [] s.taken s.pages s.page;
    few = s.few;
  }

  pub goes_few : (w w' : Walking) (found : Option Entry) → pages_next w.bucket w.entry w.rest ≡ [] → GoesTo w found w' → WalkStands f differed side asked waiting 0 w None → WalkStands f differed side asked waiting 0 w' found
  goes_few w w' found quiet (tells b b' e some takes full told is) s =
      let none = quiet_entry w b some quiet in
      let old : WalkStands f differed side asked waiting 0 (at_bucket b None w.later w.rest) None = subst (λ (w : Walking). WalkStands f differed side asked waiting 0 w None) (λ i. record { rest = w.rest; bucket = some i; later = w.later; entry = none i }) s in
      let same : at_bucket b' None w.later w.rest ≡ w' = (λ i. record { rest = w.rest; bucket = Some b'; later = w.later; entry = sym none i }) ∙ sym is in
      subst (λ (w : Walking). WalkStands f differed side asked waiting 0 w found) same (subst (WalkStands f differed side asked waiting 0 (at_bucket b' None w.later w.rest)) (sym told) (took_told b b' e w.later w.rest takes full old))
  goes_few w w' found quiet (waits_page b b' e some takes wants told is) s =
      let none = quiet_entry w b some quiet in
      let old : WalkStands f differed side asked waiting 0 (at_bucket b None w.later w.rest) None = subst (λ (w : Walking). WalkStands f differed side asked waiting 0 w None) (λ i. record { rest = w.rest; bucket = some i; later = w.later; entry = none i }) s in
      subst (λ (w : Walking). WalkStands f differed side asked waiting 0 w found) (sym is) (subst (WalkStands f differed side asked waiting 0 (at_bucket b' (Some e) w.later w.rest)) (sym told) (took_waits b b' e w.later w.rest takes old))
  goes_few w w' found quiet (closes b some no_mine no_theirs told (moves c later more is)) s =
      let none = quiet_entry w b some quiet in
      let old : WalkStands f differed side asked waiting 0 (at_bucket b None (c ∷ later) w.rest) None = subst (λ (w : Walking). WalkStands f differed side asked waiting 0 w None) (λ i. record { rest = w.rest; bucket = some i; later = more i; entry = none i }) s in
      subst (λ (w : Walking). WalkStands f differed side asked waiting 0 w found) (sym is) (subst (WalkStands f differed side asked waiting 0 (at_bucket c None later w.rest)) (sym told) (closed_moves b c later w.rest old))
  goes_few w w' found quiet (closes b some no_mine no_theirs told (no_later more is)) s =
      let none = quiet_entry w b some quiet in
      let old : WalkStands f differed side asked waiting 0 (at_bucket b None [] w.rest) None = subst (λ (w : Walking). WalkStands f differed side asked waiting 0 w None) (λ i. record { rest = w.rest; bucket = some i; later = more i; entry = none i }) s in
      subst (λ (w : Walking). WalkStands f differed side asked waiting 0 w found) (sym is) (subst (WalkStands f differed side asked waiting 0 (record { rest = w.rest; bucket = None; later = []; entry = None })) (sym told) (closed_ends b w.rest old))

-- ---- with the pages that were told

module _ (f : Frame) (differed : List Key) (side : Side) (asked asked' : ℕ) (waiting : List Entry) where
  told_opens : (w : Walking) (mine theirs : List ListingValue) (b : Bucket) (later : List Bucket) → ForEach (PageAt f.locals f.a f.a') (map first_page (take 64 w.rest)) mine → ForEach (PageAt f.peers f.b f.b') (map first_page (take 64 w.rest)) theirs
      → w.bucket ≡ None → opened_buckets (map first_page (take 64 w.rest)) mine theirs ≡ b ∷ later → asked' ≤ asked + length (take 64 w.rest) → WalkStands f differed side asked waiting 0 w None → WalkStands f differed side asked' waiting 0 (at_bucket b None later (drop 64 w.rest)) None
  told_opens w mine theirs b later p q none opened spent s =
      let fresh = opened_fresh f (take 64 w.rest) mine theirs p q in
      let full = opened_full f side (take 64 w.rest) mine theirs p q in
      let cut : length (take 64 w.rest) + length (drop 64 w.rest) ≡ length w.rest = sym (length-append (take 64 w.rest) (drop 64 w.rest)) ∙ ap length (take-append-drop 64 w.rest) in
      let few = s.few in
      record {
        taken = s.taken;
        pages = s.pages;
        walk = walk_opens f differed w b later s.taken none (subst (Each (IsFresh f)) opened fresh.0) (ap paths_later (sym opened) ∙ fresh.1) s.walk;
        page = pages_opens f side w.bucket w.later b later s.taken s.pages (subst (Each (IsThousand side)) opened full) s.page;
        few = omega (arith, cut, few, spent);
      }

  -- the next pages of the bucket that is gone over
  filled_side : (side : Side) (b : Bucket) (key : Key) (mine theirs : List ListingValue) (pages held : ℕ) → ForEach (PageAt f.locals f.a f.a') (cond (is_spent b.mine) ((b.path, Some key) ∷ []) []) mine → ForEach (PageAt f.peers f.b f.b') (cond (is_spent b.theirs) ((b.path, Some key) ∷ []) []) theirs
      → 1000 * pages ≤ held → ((listing_at side b).1 ≡ true → 1000 * pages + 1000 ≤ held + length (listing_at side b).0)
      → (1000 * (pages + cond (is_spent (listing_at side b)) 1 0) ≤ held) × ((listing_at side (filled_both b mine theirs)).1 ≡ true → 1000 * (pages + cond (is_spent (listing_at side b)) 1 0) + 1000 ≤ held + length (listing_at side (filled_both b mine theirs)).0)
  filled_side AtLocal b key mine theirs pages held p q many more = filled_more f.locals f.a f.a' (is_spent b.mine) b.path key b.mine mine pages held refl p many more
  filled_side AtPeer b key mine theirs pages held p q many more = filled_more f.peers f.b f.b' (is_spent b.theirs) b.path key b.theirs theirs pages held refl q many more

  told_fills : (b : Bucket) (e : Entry) (later : List Bucket) (rest : List (List ℕ)) (mine theirs : List ListingValue) → ForEach (PageAt f.locals f.a f.a') (cond (is_spent b.mine) ((b.path, Some e.key) ∷ []) []) mine → ForEach (PageAt f.peers f.b f.b') (cond (is_spent b.theirs) ((b.path, Some e.key) ∷ []) []) theirs
      → asked' ≤ asked + cond (is_spent (listing_at side b)) 1 0 → WalkStands f differed side asked waiting 0 (at_bucket b (Some e) later rest) None → WalkStands f differed side asked' waiting 0 (at_bucket (filled_both b mine theirs) None later rest) (Some e)
  told_fills b e later rest mine theirs p q spent s =
      let at : AtTwo f b (Some e.key) = subst (AtTwo f b) s.walk.now.1 s.walk.now.0 in
      let m = filled_at f.locals f.a f.a' f.fa (is_spent b.mine) b.path e.key b.mine mine refl p at.mine in
      let t = filled_at f.peers f.b f.b' f.fb (is_spent b.theirs) b.path e.key b.theirs theirs refl q at.theirs in
      let n = filled_side side b e.key mine theirs s.pages (held_count side s.taken) p q s.page.many s.page.more in
      let few = s.few in
      record {
        taken = s.taken;
        pages = s.pages + cond (is_spent (listing_at side b)) 1 0;
        walk = walk_fills f differed b (filled_both b mine theirs) e later rest s.taken refl (record { mine = m.0; theirs = t.0 }, (m.1, t.1)) s.walk;
        page = record { held = s.page.held; many = n.0; more = n.1; later = s.page.later };
        few = omega (arith, few, spent);
      }

  one_page : (x : Bool) (q : PageQuestion) → length (cond x (q ∷ []) []) ≡ cond x 1 0
  one_page true q = refl
  one_page false q = refl

  pages_wanted : (side : Side) (w : Walking) (b : Bucket) (e : Entry) → w.bucket ≡ Some b → w.entry ≡ Some e → length (pages_of side w) ≡ cond (is_spent (listing_at side b)) 1 0
  pages_wanted AtLocal w b e some waited = ap length (mine_asked w b e some waited) ∙ one_page (is_spent b.mine) (b.path, Some e.key)
  pages_wanted AtPeer w b e some waited = ap length (theirs_asked w b e some waited) ∙ one_page (is_spent b.theirs) (b.path, Some e.key)

  first_wanted : (side : Side) (w : Walking) → w.bucket ≡ None → map first_page (take 64 w.rest) ≡ pages_of side w
  first_wanted AtLocal w none = λ i. cond (is_asked AtLocal (sym none i)) (pages_next (sym none i) w.entry w.rest) []
  first_wanted AtPeer w none = λ i. cond (is_asked AtPeer (sym none i)) (pages_next (sym none i) w.entry w.rest) []

  -- THE PAGES WERE TOLD
  pub told_few : (w w' : Walking) (mine theirs : List ListingValue) (found : Option Entry) → ForEach (PageAt f.locals f.a f.a') (pages_of AtLocal w) mine → ForEach (PageAt f.peers f.b f.b') (pages_of AtPeer w) theirs → IsTold w mine theirs found w'
      → asked' ≤ asked + length (pages_of side w) → WalkStands f differed side asked waiting 0 w None → WalkStands f differed side asked' waiting 0 w' found
  told_few w w' mine theirs found p q (opens b later none opened told is) spent s =
      let n : length (pages_of side w) ≡ length (take 64 w.rest) = ap length (sym (first_wanted side w none)) ∙ length-map (take 64 w.rest) first_page in
      subst (λ (w : Walking). WalkStands f differed side asked' waiting 0 w found) (sym is) (subst (WalkStands f differed side asked' waiting 0 (at_bucket b None later (drop 64 w.rest))) (sym told)
      (told_opens w mine theirs b later (subst (λ qs. ForEach (PageAt f.locals f.a f.a') qs mine) (sym (first_wanted AtLocal w none)) p) (subst (λ qs. ForEach (PageAt f.peers f.b f.b') qs theirs) (sym (first_wanted AtPeer w none)) q) none opened (omega (arith, n, spent)) s))
  told_few w w' mine theirs found p q (fills_page b e some waited after after' told is) spent s =
      let n = pages_wanted side w b e some waited in
      let old : WalkStands f differed side asked waiting 0 (at_bucket b (Some e) w.later w.rest) None = subst (λ (w : Walking). WalkStands f differed side asked waiting 0 w None) (λ i. record { rest = w.rest; bucket = some i; later = w.later; entry = waited i }) s in
      subst (λ (w : Walking). WalkStands f differed side asked' waiting 0 w found) (sym is) (subst (WalkStands f differed side asked' waiting 0 (at_bucket (filled_both b mine theirs) None w.later w.rest)) (sym told)
      (told_fills b e w.later w.rest mine theirs (subst (λ qs. ForEach (PageAt f.locals f.a f.a') qs mine) (mine_asked w b e some waited) p) (subst (λ qs. ForEach (PageAt f.peers f.b f.b') qs theirs) (theirs_asked w b e some waited) q) (omega (arith, n, spent)) old))

-- ---- a turn

module _ (f : Frame) (differed : List Key) (side : Side) where
  fresh_owes : (other : Side) (ms : List Meeting) (turn : Turn) → turn.pairs.items ≡ filter_map (pushed_pair other) ms → turn.told.items ≡ [] → length (untold turn) ≤ length ms
  fresh_owes other ms turn pairs fresh =
      let n : length (untold turn) ≡ length turn.pairs.items = ap (λ ts. length (drop (length ts) turn.pairs.items)) fresh in
      let m = ap length pairs in
      let k = pairs_short other ms in
      omega (arith, n, m, k)

  -- the local side's turn begins
  pub local_begins : (asked : ℕ) (work : Exchanging) (walk : Walking) (ms : List Meeting) (stage : Stage) → TurnBegins walk AtLocal ms stage → WalkStands f differed side asked work.waiting (length ms) walk None → FewAt f differed side asked work stage
  local_begins asked work walk ms stage b s =
      let n = fresh_owes AtLocal ms b.turn b.begun.takes b.begun.fresh in
      let m : length b.turn.meetings.items ≡ length ms = ap length b.begun.keys ∙ length-map ms (taken_from AtLocal) in
      subst (FewAt f differed side asked work) (sym b.is)
      (stands_less f differed side asked asked work.waiting work.waiting (length ms) (turn_owes side b.turn.side b.turn) walk s (subst (λ other. asked + 2 * length work.waiting + turn_owes side other b.turn ≤ asked + 2 * length work.waiting + length ms) (sym b.begun.of_side) (owes side n m)), b.window.within)
    where
      owes : (side : Side) → length (untold b.turn) ≤ length ms → length b.turn.meetings.items ≡ length ms → asked + 2 * length work.waiting + turn_owes side AtLocal b.turn ≤ asked + 2 * length work.waiting + length ms
      owes AtLocal n m = omega (arith, n)
      owes AtPeer n m = omega (arith, m)

  -- and that of the peer
  pub peer_begins : (asked : ℕ) (work : Exchanging) (walk : Walking) (turn : Turn) (ms : List Meeting) (stage : Stage) → turn.side ≡ AtLocal → length ms ≡ length turn.meetings.items → TurnBegins walk AtPeer ms stage → WalkStands f differed side asked work.waiting (turn_owes side turn.side turn) walk None → FewAt f differed side asked work stage
  peer_begins asked work walk turn ms stage at_local long b s =
      let n = fresh_owes AtPeer ms b.turn b.begun.takes b.begun.fresh in
      let old : WalkStands f differed side asked work.waiting (turn_owes side AtLocal turn) walk None = subst (λ other. WalkStands f differed side asked work.waiting (turn_owes side other turn) walk None) at_local s in
      subst (FewAt f differed side asked work) (sym b.is)
      (stands_less f differed side asked asked work.waiting work.waiting (turn_owes side AtLocal turn) (turn_owes side b.turn.side b.turn) walk old (subst (λ other. asked + 2 * length work.waiting + turn_owes side other b.turn ≤ asked + 2 * length work.waiting + turn_owes side AtLocal turn) (sym b.begun.of_side) (owes side n)), b.window.within)
    where
      owes : (side : Side) → length (untold b.turn) ≤ length ms → asked + 2 * length work.waiting + turn_owes side AtPeer b.turn ≤ asked + 2 * length work.waiting + turn_owes side AtLocal turn
      owes AtLocal n = omega arith
      owes AtPeer n = omega (arith, n, long)

-- ---- one step without a question

module _ (f : Frame) (differed : List Key) (all : HasAllThatDiffered f.locals f.peers differed) (side : Side) (asked : ℕ) where
  level_alone : (work work' : Exchanging) (level : Level) (stage' : Stage) → IsDown level → GoesAlone work (Descends level) work' stage' → FewAt f differed side asked work (Descends level) → FewAt f differed side asked work' stage'
  level_alone work work' level stage' down g few =
      let e = level_ends differed asked level few.0 down in
      let n : length work'.waiting ≡ 0 = ap (λ (w : Exchanging). length w.waiting) g.0 ∙ ap length few.1 in
      let m = e.2 in
      subst (FewAt f differed side asked work') (sym g.1) (record {
        taken = [];
        pages = 0;
        walk = walk_first f differed level.rest e.0 e.1;
        page = pages_first f side;
        few = omega (arith, n, m);
      })

  walk_alone : (work work' : Exchanging) (walk : Walking) (stage' : Stage) → IsQuiet (Walks walk) → FromWalk work walk work' stage' → FewAt f differed side asked work (Walks walk) → FewAt f differed side asked work' stage'
  walk_alone work work' walk stage' quiet (goes_on walk' found goes settled) few =
      settle_few f differed side asked walk' found work work' stage' settled (goes_few f differed all side asked work.waiting walk walk' found quiet goes few)
  walk_alone work work' walk stage' quiet (last entries walked list one same is) few =
      let n = taken_long work.most work.waiting entries.items work'.waiting list (λ i. (same i).waiting) in
      subst (FewAt f differed side asked work') (sym is) (stands_less f differed side asked asked work.waiting work'.waiting 0 (2 * length entries.items) walk few (omega (arith, n)))
  walk_alone work work' walk stage' quiet (ends walked none same is) few =
      let n = few.few in
      subst (FewAt f differed side asked work') (sym is) (sum_few f side differed few.taken asked few.pages few.walk.once few.walk.differ few.page.held few.page.many (omega (arith, n)))

  turn_alone : (work work' : Exchanging) (walk : Walking) (turn : Turn) (count : ℕ) (stage' : Stage) → FromTurn work walk turn work' stage' → FewAt f differed side asked work (Carries walk turn count) → FewAt f differed side asked work' stage'
  turn_alone work work' walk turn count stage' (turns at_local same begins) few =
      peer_begins f differed side asked work' walk turn (noted AtLocal turn.meetings.items turn.told.items) stage' at_local (noted_long AtLocal turn.meetings.items turn.told.items) begins
      (subst (λ (w : Exchanging). WalkStands f differed side asked w.waiting (turn_owes side turn.side turn) walk None) (sym same) few.0)
  turn_alone work work' walk turn count stage' (counts at_peer adds is) few =
      let n = ap length adds.waiting in
      subst (FewAt f differed side asked work') (sym is) (stands_less f differed side asked asked work.waiting work'.waiting (turn_owes side turn.side turn) 0 walk few.0 (omega (arith, n)))

  pub alone_few : (work : Exchanging) (stage : Stage) (work' : Exchanging) (stage' : Stage) → IsQuiet stage → GoesAlone work stage work' stage' → FewAt f differed side asked work stage → FewAt f differed side asked work' stage'
  alone_few work (Descends level) work' stage' quiet g few = level_alone work work' level stage' quiet g few
  alone_few work (Walks walk) work' stage' quiet g few = walk_alone work work' walk stage' quiet g few
  alone_few work (Carries walk turn count) work' stage' quiet g few = turn_alone work work' walk turn count stage' g few
  alone_few work (Meets walk entries) work' stage' quiet never few = absurd never
  alone_few work Done work' stage' quiet never few = absurd never
  alone_few work (Failed fault) work' stage' quiet never few = absurd never

  pub went_few : (work : Exchanging) (stage : Stage) (work' : Exchanging) (stage' : Stage) → StageWent work stage work' stage' → FewAt f differed side asked work stage → FewAt f differed side asked work' stage'
  went_few work stage work' stage' (here w s same is) few = subst (FewAt f differed side asked w) (sym is) (subst (λ (w : Exchanging). FewAt f differed side asked w stage) (sym same) few)
  went_few work stage work' stage' (on mid w stage1 s went quiet goes) few = alone_few mid stage1 w s quiet goes (went_few work stage mid stage1 went few)

-- ---- what is wanted next

pub held_short : (side : Side) (es : List Entry) → length (held_keys side es) ≤ length es
held_short side [] = omega arith
held_short side (e ∷ es) =
    let rest = held_short side es in
    let n = held_one side e es in
    elim (is_held side e) as (λ b. length (held_keys side (e ∷ es)) ≡ cond b 1 0 + length (held_keys side es) → length (held_keys side (e ∷ es)) ≤ length (e ∷ es)) [ true ↦ λ n. omega (arith, n, rest) | false ↦ λ n. omega (arith, n, rest) ] n

no_pages : (x : Bool) (b : Bucket) (rest : List (List ℕ)) → length (cond x (pages_next (Some b) None rest) []) ≡ 0
no_pages true b rest = refl
no_pages false b rest = refl

none_wanted : (side : Side) (w : Walking) (b : Bucket) → w.bucket ≡ Some b → w.entry ≡ None → length (pages_of side w) ≡ 0
none_wanted AtLocal w b some none = (λ i. length (cond (is_asked AtLocal (some i)) (pages_next (some i) (none i) w.rest) [])) ∙ no_pages (is_spent b.mine) b w.rest
none_wanted AtPeer w b some none = (λ i. length (cond (is_asked AtPeer (some i)) (pages_next (some i) (none i) w.rest) [])) ∙ no_pages (is_spent b.theirs) b w.rest

module _ (f : Frame) (differed : List Key) (side : Side) (asked : ℕ) where
  walk_sum : (waiting : List Entry) (owed wanted : ℕ) (w : Walking) → wanted ≤ length w.rest + owed → WalkStands f differed side asked waiting owed w None → AreFew (asked + wanted) (last_of f side) differed
  walk_sum waiting owed wanted w less s =
      let few = s.few in
      sum_few f side differed s.taken (asked + wanted) s.pages s.walk.once s.walk.differ s.page.held s.page.many (omega (arith, few, less))

  -- a walk wants the first pages of the next buckets
  wants_first : (waiting : List Entry) (w : Walking) → w.bucket ≡ None → WalkStands f differed side asked waiting 0 w None → AreFew (asked + length (pages_of side w)) (last_of f side) differed
  wants_first waiting w none s =
      let n : length (pages_of side w) ≡ length (take 64 w.rest) = ap length (sym (first_wanted f differed side asked asked waiting side w none)) ∙ length-map (take 64 w.rest) first_page in
      let cut : length (take 64 w.rest) + length (drop 64 w.rest) ≡ length w.rest = sym (length-append (take 64 w.rest) (drop 64 w.rest)) ∙ ap length (take-append-drop 64 w.rest) in
      walk_sum waiting 0 (length (pages_of side w)) w (omega (arith, n, cut)) s

  -- or a page after a key
  wants_next : (waiting : List Entry) (w : Walking) (b : Bucket) (e : Entry) → w.bucket ≡ Some b → w.entry ≡ Some e → WalkStands f differed side asked waiting 0 w None → AreFew (asked + length (pages_of side w)) (last_of f side) differed
  wants_next waiting w b e some waited s =
      let few = s.few in
      let page : PagesFew f side (Some b) w.later s.taken s.pages = subst (λ o. PagesFew f side o w.later s.taken s.pages) some s.page in
      elim (is_spent (listing_at side b)) as (λ x. is_spent (listing_at side b) ≡ x → length (pages_of side w) ≡ cond x 1 0 → AreFew (asked + length (pages_of side w)) (last_of f side) differed) [
        | true ↦ λ spent n.
            let is = spent_is (listing_at side b) spent in
            let more = page.more is.1 in
            let z = ap length is.0 in
            sum_few f side differed s.taken (asked + length (pages_of side w)) (s.pages + 1) s.walk.once s.walk.differ s.page.held (omega (arith, more, z)) (omega (arith, few, n))
        | false ↦ λ spent n. walk_sum waiting 0 (length (pages_of side w)) w (omega (arith, n)) s
      ] refl (pages_wanted f differed side asked asked waiting side w b e some waited)

  -- or nothing
  wants_nothing : (waiting : List Entry) (w : Walking) (b : Bucket) → w.bucket ≡ Some b → w.entry ≡ None → WalkStands f differed side asked waiting 0 w None → AreFew (asked + length (pages_of side w)) (last_of f side) differed
  wants_nothing waiting w b some none s = let n = none_wanted side w b some none in walk_sum waiting 0 (length (pages_of side w)) w (omega (arith, n)) s

  walk_wants : (waiting : List Entry) (w : Walking) → WalkStands f differed side asked waiting 0 w None → AreFew (asked + length (pages_of side w)) (last_of f side) differed
  walk_wants waiting w s = elim (none_or_some w.bucket) [
    | inl none ↦ wants_first waiting w none s
    | inr some ↦ elim (none_or_some w.entry) [
      | inl none ↦ wants_nothing waiting w some.0 some.1 none s
      | inr waited ↦ wants_next waiting w some.0 waited.0 some.1 waited.1 s
    ]
  ]

  turn_wants : (other : Side) (turn : Turn) (count : ℕ) → count ≤ length (untold turn) → cond (is_same other side) count 0 ≤ turn_owes side other turn
  turn_wants other turn count within = by side other
    where
      by : (side other : Side) → cond (is_same other side) count 0 ≤ turn_owes side other turn
      by AtLocal AtLocal = within
      by AtLocal AtPeer = omega arith
      by AtPeer AtLocal = omega arith
      by AtPeer AtPeer = within

  -- FEW WERE ASKED, with those that are wanted next
  pub wants_few : (work : Exchanging) (stage : Stage) → StageAsks stage ⊎ (stage ≡ Done) → FewAt f differed side asked work stage → AreFew (asked + wanted_count side stage) (last_of f side) differed
  wants_few work (Descends level) asks few = let n = level_wants differed asked level few.0 in omega (arith, n)
  wants_few work (Walks walk) asks few = walk_wants work.waiting walk few
  wants_few work (Meets walk entries) asks few =
      let n = held_short side entries.items in
      walk_sum work.waiting (2 * length entries.items) (length (held_keys side entries.items)) walk (omega (arith, n)) few
  wants_few work (Carries walk turn count) asks few =
      let n = turn_wants turn.side turn count few.1 in
      walk_sum work.waiting (turn_owes side turn.side turn) (cond (is_same turn.side side) count 0) walk (omega (arith, n)) few.0
  wants_few work Done asks few = let n : AreFew asked (last_of f side) differed = few in omega (arith, n)
  wants_few work (Failed fault) (inl never) few = absurd never
  wants_few work (Failed fault) (inr is) few = absurd (cc)
