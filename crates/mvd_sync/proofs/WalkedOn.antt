-- A walk over buckets, with the pages that both sides tell.
use Rattle.std.proofs.Common.{◌≡◌, ◌≢◌, ℕ, ◌+◌, ◌<◌, ◌≤◌, Bool, true, false, cond, inl, inr, List, [], ◌∷◌, ◌++◌, map, length, drop, take, refl, sym, ap, subst, ◌∙◌, arith, Option, Some, None, append_assoc, true≢false}
use Rattle.std.specs.Prelude.{Ok, Err}
use Rattle.std.proofs.lemmas.List.{length-map, take-append-drop}
use Rattle.mvd_dots.specs.declared.refusals.Refusal.TheVariants.{Memory}
use Rattle.mvd_peer.specs.PushedStates.{Each}
use Rattle.mvd_peer.specs.Sides.{HasAnswered, SideOf, Two, two}
use Rattle.mvd_peer.specs.Asking.{PageQuestion}
use Rattle.mvd_sync.specs.Answers.{ListingValue, PageEntry, TakesLesser, is_spent, of_both, of_first, of_second}
use Rattle.mvd_sync.specs.Exchanges.{IsHeldByEither}
use Rattle.mvd_sync.proofs.Exchanges.{Moment, moment}
use Rattle.mvd_sync.proofs.Readings.{Fills, TellsPages}
use Rattle.mvd_sync.specs.Session.{Asking}
use Rattle.mvd_sync.proofs.Walk.{ReadsEnd, local_of, peer_of}
use Rattle.mvd_sync.specs.Walking.{GoesTo, IsTold, TakesNext, Walking, closes, ends, filled, filled_both, fills, first_page, is_asked, moves, opened_buckets, opens, pages_next, pages_of, tells, waits}
use Rattle.mvd_sync.proofs.Walk.{PagesEnd, PagesTold}
use Rattle.mvd_sync.specs.declared.asking.Questions.{Questions}
use Rattle.mvd_sync.specs.declared.cursor.Entry.{Entry}
use Rattle.mvd_sync.specs.declared.report.Side.TheVariants.{Local as AtLocal, Peer as AtPeer}
use Rattle.mvd_sync.specs.declared.report.SyncFault.{SyncFault}
use Rattle.mvd_sync.specs.declared.report.SyncFault.TheVariants.{Local}
use Rattle.mvd_sync.specs.declared.walking.Bucket.{Bucket}
use Rattle.mvd_sync.proofs.Bucket.{over_begins, over_unfilled}
use Rattle.mvd_sync.proofs.Descents.{Each-left, Each-right, Each-take}
use Rattle.mvd_sync.proofs.Fetching.{IsGoodPage, pages_good, pages_long, pages_read, pages_right}
use Rattle.mvd_sync.proofs.Paging.{fills_of, mine_asked, none_end, spent_is, theirs_asked}
use Rattle.mvd_sync.proofs.Positions.{ReadsEndBy, sides}
use Rattle.mvd_sync.proofs.Pages.{takes_shorter}
use Rattle.mvd_sync.proofs.Through.{through_none, window_ends}
use Rattle.mvd_sync.proofs.Walked.{Before, Found, IsGood, Over, OverOne, Told, Walked, WalksOn, amid, before_ends, between, good_of, later_at, mine_of, opened_is, over_cut, over_on, paths_of, size_of, size_of_all, size_of_first, theirs_of, waiting, walk_stops}

-- ---- what is asked between two windows

mine_first : (at : Walking) → at.bucket ≡ None → pages_of AtLocal at ≡ map first_page (take 64 at.rest)
mine_first at none = λ i. cond (is_asked AtLocal (none i)) (pages_next (none i) at.entry at.rest) []

theirs_first : (at : Walking) → at.bucket ≡ None → pages_of AtPeer at ≡ map first_page (take 64 at.rest)
theirs_first at none = λ i. cond (is_asked AtPeer (none i)) (pages_next (none i) at.entry at.rest) []

-- a window of the buckets that are left
pub window_is : (paths done rest : List (List ℕ)) → paths ≡ done ++ rest → paths ≡ (done ++ take 64 rest) ++ drop 64 rest
window_is paths done rest is = is ∙ ap (λ qs. done ++ qs) (sym (take-append-drop 64 rest)) ∙ sym (append_assoc done (take 64 rest) (drop 64 rest))

-- a side is asked for at most one page of a bucket
asked_one : (spent : Bool) (q : PageQuestion) → length (cond spent (q ∷ []) []) ≤ 1
asked_one true q = omega arith
asked_one false q = omega arith

some_long : {X : Type 0} (xs : List X) → xs ≢ [] → 1 ≤ length xs
some_long [] some = absurd (some refl)
some_long (x ∷ xs) some = omega arith

asked_spent : (spent : Bool) (q : PageQuestion) → 1 ≤ length (cond spent (q ∷ []) []) → spent ≡ true
asked_spent true q some = refl
asked_spent false q some = absurd (omega (arith, some))

-- questions that came to an end, of which there were so few
abbrev few_of : {L P : Type 0} (l : SideOf L) (p : SideOf P) (Few : ℕ → Type 0) (old : Asking L P) (new : Two L P) (fault : SyncFault) (e : ReadsEnd (sides l p) (λ _. Unit {0}) old new fault) → Few (e.asked_local + e.wanted_local) × Few (e.asked_peer + e.wanted_peer) → ReadsEnd (sides l p) Few old new fault
few_of l p Few old new fault e few = record {
  asked_local = e.asked_local;
  asked_peer = e.asked_peer;
  wanted_local = e.wanted_local;
  wanted_peer = e.wanted_peer;
  within = e.within;
  few = few;
  follows = e.follows;
  cause = e.cause;
  kept_local = e.kept_local;
  kept_peer = e.kept_peer;
}

module _ {L P : Type 0} (l : SideOf L) (p : SideOf P)
    (on : (m n : ℕ) (old mid new : L) → l.follows m old mid → l.follows n mid new → l.follows (m + n) old new)
    (on' : (m n : ℕ) (old mid new : P) → p.follows m old mid → p.follows n mid new → p.follows (m + n) old new)
    (stays : (n : ℕ) (old new : L) → l.follows n old new → l.most_keys new ≡ l.most_keys old)
    (stays' : (n : ℕ) (old new : P) → p.follows n old new → p.most_keys new ≡ p.most_keys old)
    (self : (s : L) → l.follows 0 s s) (self' : (s : P) → p.follows 0 s s)
    (paths : List (List ℕ)) (begin now : Moment L P) (at : Walking) where
  -- the first pages of a window were told
  told_opens : (done : List (List ℕ)) (mine theirs : List ListingValue) (asked : Asking L P) (b : Bucket) (later : List Bucket) → paths ≡ done ++ at.rest → at.bucket ≡ None → Over l p done begin now (Ok (tt {0})) → PagesTold (sides l p) at mine theirs now.now asked
      → opened_buckets (map first_page (take 64 at.rest)) mine theirs ≡ b ∷ later → Walked l p paths begin (later_at l p now asked) (record { rest = drop 64 at.rest; bucket = Some b; later = later; entry = None })
  told_opens done mine theirs asked b later is none over told all =
      let window = take 64 at.rest in
      let T = HasAnswered l.follows l.can_answer now.now.at.local asked.at.local in
      let U = HasAnswered p.follows p.can_answer now.now.at.peer asked.at.peer in
      let q = mine_first at none in
      let r = theirs_first at none in
      let m = pages_long l T window (pages_of AtLocal at) mine now.now.left.local asked.left.local now.now.at.local asked.at.local q told.local_side in
      let t = pages_long p U window (pages_of AtPeer at) theirs now.now.left.peer asked.left.peer now.now.at.peer asked.at.peer r told.peer_side in
      let each = opened_is window mine theirs m t in
      let mine_is : mine ≡ mine_of (b ∷ later) = sym each.1 ∙ ap mine_of all in
      let theirs_is : theirs ≡ theirs_of (b ∷ later) = sym each.2 ∙ ap theirs_of all in
      let good : Each IsGood (b ∷ later) = good_of (b ∷ later)
      (subst (Each IsGoodPage) mine_is (pages_good l T window (pages_of AtLocal at) mine now.now.left.local asked.left.local now.now.at.local asked.at.local q told.local_side))
      (subst (Each IsGoodPage) theirs_is (pages_good p U window (pages_of AtPeer at) theirs now.now.left.peer asked.left.peer now.now.at.peer asked.at.peer r told.peer_side)) in
      amid b b (later_at l p now asked) (record {
        done = done;
        window = window;
        gone = [];
        mine = mine;
        theirs = theirs;
        mine_gone = [];
        theirs_gone = [];
        mid = now;
        told = asked;
        is = window_is paths done at.rest is;
        window_is = sym each.0 ∙ ap paths_of all;
        mine_is = mine_is;
        theirs_is = theirs_is;
        long = (refl, refl);
        over = over;
        local_side = pages_read l T window (pages_of AtLocal at) mine now.now.left.local asked.left.local now.now.at.local asked.at.local q told.local_side;
        peer_side = pages_read p U window (pages_of AtPeer at) theirs now.now.left.peer asked.left.peer now.now.at.peer asked.at.peer r told.peer_side;
        local_told = pages_right l T window (pages_of AtLocal at) mine now.now.left.local asked.left.local now.now.at.local asked.at.local q told.local_side;
        peer_told = pages_right p U window (pages_of AtPeer at) theirs now.now.left.peer asked.left.peer now.now.at.peer asked.at.peer r told.peer_side;
        through = through_none l p (Told l p window mine theirs) self self' asked.left asked.at.local asked.at.peer now.work;
        good = good.1;
      }) refl good.0 (over_begins l p b.path b.mine b.theirs self self' asked.left asked.at.local asked.at.peer now.work) refl refl

  -- the page after a key was told
  told_fills : (mine theirs : List ListingValue) (asked : Asking L P) (first b b' : Bucket) (e : Entry) (mid : Moment L P) → Before l p paths at.rest first at.later begin mid → b.path ≡ first.path → IsGood b → OverOne l p first b mid now → TakesNext b e b' → at.bucket ≡ Some b' → at.entry ≡ Some e
      → PagesTold (sides l p) at mine theirs now.now asked → Found l p paths begin (later_at l p now asked) e (record { rest = at.rest; bucket = Some (filled_both b' mine theirs); later = at.later; entry = None })
  told_fills mine theirs asked first b b' e mid before path good over takes some held told =
      let path' : b'.path ≡ first.path = takes.path ∙ path in
      let mine_told = subst (λ qs. TellsPages l qs mine (local_of now.now) (local_of asked)) (mine_asked at b' e some held) told.local_side in
      let theirs_told = subst (λ qs. TellsPages p qs theirs (peer_of now.now) (peer_of asked)) (theirs_asked at b' e some held) told.peer_side in
      let mine_fills = fills_of l b'.path e.key now.now.left.local asked.left.local now.now.at.local asked.at.local (is_spent b'.mine) b'.mine mine refl mine_told in
      let theirs_fills = fills_of p b'.path e.key now.now.left.peer asked.left.peer now.now.at.peer asked.at.peer (is_spent b'.theirs) b'.theirs theirs refl theirs_told in
      let n = takes_shorter b.mine.0 b.theirs.0 b'.mine.0 b'.theirs.0 e takes.takes in
      let low = good.0.1 in
      let low' = good.1.1 in
      record {
        first = first;
        b = b;
        taken = b';
        full = filled_both b' mine theirs;
        mid = mid;
        was = now.now;
        before = before;
        path = path;
        good = good;
        over = over;
        takes = takes;
        fills = record {
          local_side = subst (λ q. Fills l q (Some e.key) b'.mine (filled b'.mine mine) (local_of now.now) (local_of asked)) path' mine_fills;
          peer_side = subst (λ q. Fills p q (Some e.key) b'.theirs (filled b'.theirs theirs) (peer_of now.now) (peer_of asked)) path' theirs_fills;
        };
        full_path = path';
        full_good = ((mine_fills.ended, mine_fills.short (omega (arith, n.0, low))), (theirs_fills.ended, theirs_fills.short (omega (arith, n.1, low'))));
        is = refl;
        unasked = refl;
      }

  -- THE WALK GOES ON with what both told
  pub walk_told : (mine theirs : List ListingValue) (asked : Asking L P) (found : Option Entry) (at' : Walking) → Walked l p paths begin now at → PagesTold (sides l p) at mine theirs now.now asked → IsTold at mine theirs found at' → WalksOn l p paths begin (later_at l p now asked) found at'
  walk_told mine theirs asked found at' (between done is none _ _ over) told (opens b later _ all found_is new_is) =
      subst (λ o. WalksOn l p paths begin (later_at l p now asked) o at') (sym found_is)
      (subst (Walked l p paths begin (later_at l p now asked)) (sym new_is) (told_opens done mine theirs asked b later is none over told all))
  walk_told mine theirs asked found at' (between done is none _ _ over) told (fills b e some held after after' found_is new_is) = absurd (cc)
  walk_told mine theirs asked found at' (amid first b mid before path good over some quiet) told (opens b' later none all found_is new_is) = absurd (cc)
  walk_told mine theirs asked found at' (amid first b mid before path good over some quiet) told (fills b' e some' held after after' found_is new_is) = absurd (cc)
  walk_told mine theirs asked found at' (waiting first b b' e mid before path good over takes wants some held) told (opens c later none all found_is new_is) = absurd (cc)
  walk_told mine theirs asked found at' (waiting first b b' e mid before path good over takes wants some held) told (fills c x some' held' after after' found_is new_is) =
      let same : c ≡ b' = cc in
      let same_key : x ≡ e = cc in
      let state : at' ≡ record { rest = at.rest; bucket = Some (filled_both b' mine theirs); later = at.later; entry = None } = new_is ∙ (λ i. record { rest = at.rest; bucket = Some (filled_both (same i) mine theirs); later = at.later; entry = None }) in
      subst (λ o. WalksOn l p paths begin (later_at l p now asked) o at') (sym (found_is ∙ ap (λ k. Some k) same_key))
      (subst (Found l p paths begin (later_at l p now asked) e) (sym state) (told_fills mine theirs asked first b b' e mid before path good over takes some held told))

  -- or it ends with them
  pub walk_ends : (new : Two L P) (left' : Questions) (fault : SyncFault) → Walked l p paths begin now at → (at.bucket ≢ None → at.entry ≢ None) → PagesEnd (sides l p) at now.now new fault → Over l p {A = Unit {0}} paths begin (moment new.local new.peer left' now.work) (Err fault)
  walk_ends new left' fault (between done is none _ _ over) asks e =
      let window = take 64 at.rest in
      let after = moment new.local new.peer left' now.work in
      let n : length (pages_of AtLocal at) ≡ length window = ap length (mine_first at none) ∙ length-map window first_page in
      let m : length (pages_of AtPeer at) ≡ length window = ap length (theirs_first at none) ∙ length-map window first_page in
      let few : ReadsEndBy l p (λ asked. asked ≤ length window) now.now.left now.now.at.local new.local now.now.at.peer new.peer fault = few_of l p (λ asked. asked ≤ length window) now.now new fault e.ends (let k = e.few in (omega (arith, k.0, n), omega (arith, k.1, m))) in
      let end = window_ends l p on on' stays stays' {A = Unit {0}} window (length window) now.now.left left' now.now.at.local new.local now.now.at.peer new.peer now.work fault few in
      subst (λ qs. Over l p {A = Unit {0}} qs begin after (Err fault)) (sym (window_is paths done at.rest is))
      (over_cut l p on on' stays stays' self self' (done ++ window) (drop 64 at.rest) begin after fault (over_on l p on on' stays stays' self self' done window begin now after (Err fault) over end))
  walk_ends new left' fault (amid first b mid before path good over some quiet) asks e = absurd (asks (λ none. absurd (cc)) quiet)
  walk_ends new left' fault (waiting first b b' x mid before path good over takes wants some held) asks e =
      let after = moment new.local new.peer left' now.work in
      let n = ap length (mine_asked at b' x some held) in
      let m = ap length (theirs_asked at b' x some held) in
      let one = asked_one (is_spent b'.mine) (b'.path, Some x.key) in
      let one' = asked_one (is_spent b'.theirs) (b'.path, Some x.key) in
      let k = e.few in
      before_ends l p on on' stays stays' self self' paths begin at.rest first at.later mid after fault before
      (over_unfilled l p first.path first.mine first.theirs on on' b.mine b.theirs mid.now.left now.now.left mid.now.at.local now.now.at.local mid.now.at.peer now.now.at.peer mid.work now.work over good.0.0 good.1.0 x b'.mine b'.theirs takes.takes takes.more left' new.local new.peer fault
      (record {
        ends = few_of l p (λ asked. asked ≤ 1) now.now new fault e.ends (omega (arith, k.0, n, one), omega (arith, k.1, m, one'));
        needed = (
          λ asked. spent_is b'.mine (asked_spent (is_spent b'.mine) (b'.path, Some x.key) (omega (arith, asked, k.0, n))),
          λ asked. spent_is b'.theirs (asked_spent (is_spent b'.theirs) (b'.path, Some x.key) (omega (arith, asked, k.1, m))),
        );
      }))

  -- or memory was refused for what is next
  pub walk_memory : Walked l p paths begin now at → Over l p {A = Unit {0}} paths begin (moment now.now.at.local now.now.at.peer now.now.left now.work) (Err (Local Memory))
  walk_memory (between done is none no_later unasked over) =
      walk_ends now.now.at now.now.left (Local Memory) (between done is none no_later unasked over) (λ some _. absurd (some none)) (none_end l p at now.now.left now.now.at.local now.now.at.local now.now.at.peer now.now.at.peer (self now.now.at.local) (self' now.now.at.peer))
  walk_memory (waiting first b b' e mid before path good over takes wants some held) =
      walk_ends now.now.at now.now.left (Local Memory) (waiting first b b' e mid before path good over takes wants some held) (λ _ none. absurd (cc)) (none_end l p at now.now.left now.now.at.local now.now.at.local now.now.at.peer now.now.at.peer (self now.now.at.local) (self' now.now.at.peer))
  walk_memory (amid first b mid before path good over some quiet) =
      walk_stops l p on on' stays stays' self self' paths begin now at now.now.left Memory (amid first b mid before path good over some quiet) (λ none. absurd (cc)) quiet refl

-- a side is asked for a page only where a key waits for one, or between two windows
pub asks_between : (b : Option Bucket) (e : Option Entry) (rest : List (List ℕ)) → pages_next b e rest ≢ [] → b ≢ None → e ≢ None
asks_between None e rest asks some none = some refl
asks_between (Some b) e rest asks some none = asks (ap (λ o. pages_next (Some b) o rest) none)

-- ---- the paths of what is asked

first_deep : (paths : List (List ℕ)) → Each (λ path. length path ≡ 3) paths → Each (λ (q : PageQuestion). length q.0 ≡ 3) (map first_page paths)
first_deep [] deep = tt
first_deep (path ∷ paths) deep = (deep.0, first_deep paths deep.1)

one_deep : (spent : Bool) (path : List ℕ) (e : Entry) → length path ≡ 3 → Each (λ (q : PageQuestion). length q.0 ≡ 3) (cond spent ((path, Some e.key) ∷ []) [])
one_deep true path e deep = (deep, tt)
one_deep false path e deep = tt

none_deep : (asked : Bool) → Each (λ (q : PageQuestion). length q.0 ≡ 3) (cond asked [] [])
none_deep true = tt
none_deep false = tt

module _ {L P : Type 0} (l : SideOf L) (p : SideOf P) (paths : List (List ℕ)) (begin now : Moment L P) (at : Walking) (deep : Each (λ path. length path ≡ 3) paths) where
  rest_deep : (done : List (List ℕ)) → paths ≡ done ++ at.rest → Each (λ path. length path ≡ 3) (take 64 at.rest)
  rest_deep done is = Each-take (λ path. length path ≡ 3) 64 at.rest (Each-right (λ path. length path ≡ 3) done at.rest (subst (Each (λ (path : List ℕ). length path ≡ 3)) is deep))

  bucket_deep : (first : Bucket) (mid : Moment L P) → Before l p paths at.rest first at.later begin mid → length first.path ≡ 3
  bucket_deep first mid w =
      let Deep : List ℕ → Type 0 = λ path. length path ≡ 3 in
      let window : Each Deep w.window = Each-right Deep w.done w.window (Each-left Deep (w.done ++ w.window) at.rest (subst (Each Deep) w.is deep)) in
      (Each-right Deep w.gone (paths_of (first ∷ at.later)) (subst (Each Deep) w.window_is window)).0

  pub asks_deep : Walked l p paths begin now at → Each (λ (q : PageQuestion). length q.0 ≡ 3) (pages_of AtLocal at) × Each (λ (q : PageQuestion). length q.0 ≡ 3) (pages_of AtPeer at)
  asks_deep (between done is none _ _ over) =
      let d = first_deep (take 64 at.rest) (rest_deep done is) in
      let Deep : List PageQuestion → Type 0 = λ qs. Each (λ (q : PageQuestion). length q.0 ≡ 3) qs in
      (subst Deep (sym (mine_first at none)) d, subst Deep (sym (theirs_first at none)) d)
  asks_deep (amid first b mid before path good over some quiet) =
      let Deep : List PageQuestion → Type 0 = λ qs. Each (λ (q : PageQuestion). length q.0 ≡ 3) qs in
      let none : pages_next at.bucket at.entry at.rest ≡ [] = λ i. pages_next (some i) (quiet i) at.rest in
      (subst (λ (qs : List PageQuestion). Deep (cond (is_asked AtLocal at.bucket) qs [])) (sym none) (none_deep (is_asked AtLocal at.bucket)), subst (λ (qs : List PageQuestion). Deep (cond (is_asked AtPeer at.bucket) qs [])) (sym none) (none_deep (is_asked AtPeer at.bucket)))
  asks_deep (waiting first b b' e mid before path good over takes wants some held) =
      let Deep : List PageQuestion → Type 0 = λ qs. Each (λ (q : PageQuestion). length q.0 ≡ 3) qs in
      let d = ap length (takes.path ∙ path) ∙ bucket_deep first mid before in
      (subst Deep (sym (mine_asked at b' e some held)) (one_deep (is_spent b'.mine) b'.path e d), subst Deep (sym (theirs_asked at b' e some held)) (one_deep (is_spent b'.theirs) b'.path e d))

  -- one question at least
  pub asks_some : Walked l p paths begin now at → pages_next at.bucket at.entry at.rest ≢ [] → 1 ≤ length (pages_of AtLocal at) + length (pages_of AtPeer at)
  asks_some (between done is none _ _ over) some =
      let n = ap length (mine_first at none) in
      let some' : map first_page (take 64 at.rest) ≢ [] = λ no_page. some (ap (λ o. pages_next o at.entry at.rest) none ∙ no_page) in
      let k = some_long (map first_page (take 64 at.rest)) some' in
      omega (arith, n, k)
  asks_some (amid first b mid before path good over here quiet) some = absurd (some (λ i. pages_next (here i) (quiet i) at.rest))
  asks_some (waiting first b b' e mid before path good over takes wants here held) some =
      let n = ap length (mine_asked at b' e here held) in
      let m = ap length (theirs_asked at b' e here held) in
      let q : PageQuestion = (b'.path, Some e.key) in
      elim wants [
        | inl spent ↦ let k = ap (λ s. length (cond s (q ∷ []) [])) spent in omega (arith, n, k)
        | inr spent ↦ let k = ap (λ s. length (cond s (q ∷ []) [])) spent in omega (arith, m, k)
      ]

-- ---- so a session stays within its room

-- the counts and the questions that are left are together no more than they were, and fewer keys than a window wait
pub record Steady {L P : Type 0} (old new : Moment L P) : Type 0 where
  pub room : new.work.keys + new.work.refused + new.now.left.local + new.now.left.peer ≤ old.work.keys + old.work.refused + old.now.left.local + old.now.left.peer
  pub short : length old.work.waiting < 1000 → length new.work.waiting < 1000

module _ {L P : Type 0} (l : SideOf L) (p : SideOf P) (paths : List (List ℕ)) (begin : Moment L P) where
  before_steady : (rest : List (List ℕ)) (first : Bucket) (later : List Bucket) (mid : Moment L P) → Before l p paths rest first later begin mid → Steady begin mid
  before_steady rest first later mid w =
      let a = w.over.goes.room in
      let b = w.local_side.spent in
      let c = w.peer_side.spent in
      let d = w.through.goes.room in
      record { room = omega (arith, a, b, c, d); short = λ low. w.through.goes.short (w.over.goes.short low) }

  pub walk_steady : (now : Moment L P) (at : Walking) → Walked l p paths begin now at → Steady begin now
  walk_steady now at (between done is none _ _ over) = record { room = over.goes.room; short = over.goes.short }
  walk_steady now at (amid first b mid before path good over some quiet) =
      let s = before_steady at.rest first at.later mid before in
      let a = s.room in
      let b = over.goes.room in
      record { room = omega (arith, a, b); short = λ low. over.goes.short (s.short low) }
  walk_steady now at (waiting first b b' e mid before path good over takes wants some held) =
      let s = before_steady at.rest first at.later mid before in
      let a = s.room in
      let b = over.goes.room in
      record { room = omega (arith, a, b); short = λ low. over.goes.short (s.short low) }

  pub found_steady : (now : Moment L P) (e : Entry) (at : Walking) → Found l p paths begin now e at → Steady begin now
  found_steady now e at f =
      let s = before_steady at.rest f.first at.later f.mid f.before in
      let a = s.room in
      let b = f.over.goes.room in
      let c = f.fills.local_side.spent in
      let d = f.fills.peer_side.spent in
      record { room = omega (arith, a, b, c, d); short = λ low. f.over.goes.short (s.short low) }

-- a key that was found is held by a side
pub found_held : (b b' : Bucket) (e : Entry) → TakesNext b e b' → IsHeldByEither e
found_held b b' e takes = held takes.takes
  where
    held : {xs ys xs' ys' : List PageEntry} → TakesLesser (two xs ys) e (two xs' ys') → IsHeldByEither e
    held (of_first x is same key mine theirs differs after) = λ none. absurd (true≢false (sym mine ∙ none))
    held (of_second y same is key mine theirs differs after) = λ _. theirs
    held (of_both x y is is' key key' mine theirs differs) = λ _. theirs

-- ---- a walk is done at last

takes_one : {xs ys xs' ys' : List PageEntry} {e : Entry} → TakesLesser (two xs ys) e (two xs' ys') → length xs' + length ys' < length xs + length ys
takes_one (of_first x is same _ _ _ _ _) = let n = ap length is in let m = ap length same in omega (arith, n, m)
takes_one (of_second y same is _ _ _ _ _) = let n = ap length is in let m = ap length same in omega (arith, n, m)
takes_one (of_both x y is is' _ _ _ _ _) = let n = ap length is in let m = ap length is' in omega (arith, n, m)

pub goes_smaller : (at : Walking) (found : Option Entry) (at' : Walking) → GoesTo at found at' → size_of at' < size_of at
goes_smaller at found at' (tells b b' e some takes full told new_is) =
    let n = ap size_of new_is in
    let m = ap size_of_first some in
    let k = takes_one takes.takes in
    omega (arith, n, m, k)
goes_smaller at found at' (waits b b' e some takes wants told new_is) =
    let n = ap size_of new_is in
    let m = ap size_of_first some in
    let k = takes_one takes.takes in
    omega (arith, n, m, k)
goes_smaller at found at' (closes b some none none' told (moves c later is new_is)) =
    let n = ap size_of new_is in
    let m = ap size_of_first some in
    let k = ap size_of_all is in
    omega (arith, n, m, k)
goes_smaller at found at' (closes b some none none' told (ends is new_is)) =
    let n = ap size_of new_is in
    let m = ap size_of_first some in
    omega (arith, n, m)
