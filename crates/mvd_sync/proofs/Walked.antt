-- How far a walk over buckets has come, between two sides.
use Rattle.std.proofs.Common.{◌≡◌, ◌≢◌, ℕ, ◌+◌, ◌↔◌, true≢false, Bool, true, false, inl, inr, List, [], ◌∷◌, ◌++◌, map, length, take, refl, sym, ap, subst, ◌∙◌, arith, Option, Some, None, append-nil, append_assoc, length-append}
use Rattle.std.specs.Prelude.{Result, Ok, Err, MatchOption}
use Rattle.mvd_dots.specs.declared.refusals.Refusal.{Refusal}
use Rattle.mvd_dots.specs.declared.refusals.Refusal.TheVariants.{Memory}
use Rattle.mvd_keys.specs.Writes.{Key}
use Rattle.mvd_site.specs.Answer.{digests}
use Rattle.mvd_site.specs.Held.{States}
use Rattle.mvd_tree.specs.HashTree.{KeyDigests}
use Rattle.mvd_peer.specs.PushedStates.{Each}
use Rattle.mvd_peer.specs.Sides.{SideOf}
use Rattle.mvd_peer.specs.Asking.{PageQuestion}
use Rattle.mvd_sync.specs.Answers.{ListingValue, is_spent}
use Rattle.mvd_sync.proofs.Buckets.{ArePages, GoesThrough}
use Rattle.mvd_sync.proofs.Exchanges.{Moment, moment}
use Rattle.mvd_sync.proofs.Readings.{Fills, with_left}
use Rattle.mvd_sync.specs.Session.{Asking}
use Rattle.mvd_sync.proofs.Walk.{ReadsSide, local_of, peer_of}
use Rattle.mvd_sync.specs.Walking.{ClosesBucket, GoesTo, IsWalked, TakesNext, Walking, WantsPage, closes, ends, first_page, moves, opened_buckets, tells, waits}
use Rattle.mvd_sync.specs.declared.asking.Questions.{Questions}
use Rattle.mvd_sync.specs.declared.cursor.Entry.{Entry}
use Rattle.mvd_sync.specs.declared.report.SyncFault.{SyncFault}
use Rattle.mvd_sync.specs.declared.report.SyncFault.TheVariants.{Local}
use Rattle.mvd_sync.specs.declared.walking.Bucket.{Bucket}
use Rattle.mvd_sync.proofs.Bucket.{OverBucket, over_begins, over_ends, over_settles, over_stops, over_unsettled}
use Rattle.mvd_sync.proofs.Fails.{memory_fails}
use Rattle.mvd_sync.proofs.Fetching.{IsGoodPage}
use Rattle.mvd_sync.proofs.Opening.{closes_same}
use Rattle.mvd_sync.proofs.Pages.{takes_shorter}
use Rattle.mvd_sync.proofs.Paging.{unspent_is}
use Rattle.mvd_sync.proofs.Positions.{ExchangesBy, FillsBothBy, SettlesBy, sides}
use Rattle.mvd_sync.proofs.Through.{through_cut, through_exchange, through_none, through_on, window_through}

-- ---- from one moment to another

module _ {L P : Type 0} (l : SideOf L) (p : SideOf P) where
  abbrev pub Through : {A : Type 0} → (States → States → Type 0) → List (List ℕ) → ℕ → (old new : Moment L P) → Result A SyncFault → Type 0
  Through Told paths firsts old new = GoesThrough (sides l p) Told (record { paths = paths; firsts = firsts }) old new

  abbrev pub Over : {A : Type 0} → List (List ℕ) → (old new : Moment L P) → Result A SyncFault → Type 0
  Over paths old new = Through (λ a b. Unit {0}) paths (length paths) old new

  -- the first pages of buckets, as both told them
  abbrev pub Told : List (List ℕ) → (mine theirs : List ListingValue) → States → States → Type 0
  Told paths mine theirs a b = ArePages (digests a) paths mine × ArePages (digests b) paths theirs

  -- a bucket that has come so far, of which this was told first
  abbrev pub OverOne : (first now : Bucket) → (old new : Moment L P) → Type 0
  OverOne first now old new = OverBucket l p first.path first.mine first.theirs now.mine now.theirs old.now.left new.now.left old.now.at.local new.now.at.local old.now.at.peer new.now.at.peer old.work new.work

  abbrev pub later_at : Moment L P → Asking L P → Moment L P
  later_at m now = record { now = now; work = m.work }

abbrev pub paths_of : List Bucket → List (List ℕ)
paths_of bs = map (λ (b : Bucket). b.path) bs

abbrev pub mine_of : List Bucket → List ListingValue
mine_of bs = map (λ (b : Bucket). b.mine) bs

abbrev pub theirs_of : List Bucket → List ListingValue
theirs_of bs = map (λ (b : Bucket). b.theirs) bs

abbrev pub IsGood : Bucket → Type 0
IsGood b = IsGoodPage b.mine × IsGoodPage b.theirs

-- ---- so a walk stands

-- the buckets before this one are gone over: those of the windows before, and the first of this window
pub record Before {L P : Type 0} (l : SideOf L) (p : SideOf P) (paths rest : List (List ℕ)) (first : Bucket) (later : List Bucket) (begin now : Moment L P) : Type 0 where
  pub done : List (List ℕ)
  pub window : List (List ℕ)
  pub gone : List (List ℕ)
  pub mine : List ListingValue
  pub theirs : List ListingValue
  pub mine_gone : List ListingValue
  pub theirs_gone : List ListingValue
  pub mid : Moment L P
  pub told : Asking L P
  pub is : paths ≡ (done ++ window) ++ rest
  pub window_is : window ≡ gone ++ paths_of (first ∷ later)
  pub mine_is : mine ≡ mine_gone ++ mine_of (first ∷ later)
  pub theirs_is : theirs ≡ theirs_gone ++ theirs_of (first ∷ later)
  pub long : (length mine_gone ≡ length gone) × (length theirs_gone ≡ length gone)
  pub over : Over l p done begin mid (Ok (tt {0}))
  pub local_side : ReadsSide l (length window) (local_of mid.now) (local_of told)
  pub peer_side : ReadsSide p (length window) (peer_of mid.now) (peer_of told)
  pub local_told : l.is_faithful mid.now.at.local → ArePages (digests (l.states mid.now.at.local)) window mine
  pub peer_told : p.is_faithful mid.now.at.peer → ArePages (digests (p.states mid.now.at.peer)) window theirs
  pub through : Through l p (Told l p window mine theirs) gone 0 (later_at l p mid told) now (Ok (tt {0}))
  pub good : Each IsGood later

-- a walk has come so far: between two windows; or amid a bucket; or a key of it waits for a page
pub data Walked {L P : Type 0} (l : SideOf L) (p : SideOf P) (paths : List (List ℕ)) (begin now : Moment L P) (at : Walking) : Type 0 where
  between : (done : List (List ℕ)) → paths ≡ done ++ at.rest → at.bucket ≡ None → at.later ≡ [] → at.entry ≡ None → Over l p done begin now (Ok (tt {0})) → Walked l p paths begin now at
  amid : (first b : Bucket) (mid : Moment L P) → Before l p paths at.rest first at.later begin mid → b.path ≡ first.path → IsGood b → OverOne l p first b mid now → at.bucket ≡ Some b → at.entry ≡ None → Walked l p paths begin now at
  waiting : (first b b' : Bucket) (e : Entry) (mid : Moment L P) → Before l p paths at.rest first at.later begin mid → b.path ≡ first.path → IsGood b → OverOne l p first b mid now → TakesNext b e b' → WantsPage b' → at.bucket ≡ Some b' → at.entry ≡ Some e
      → Walked l p paths begin now at

-- or a key of the bucket was found, and is to be settled
pub record Found {L P : Type 0} (l : SideOf L) (p : SideOf P) (paths : List (List ℕ)) (begin now : Moment L P) (e : Entry) (at : Walking) : Type 0 where
  pub first : Bucket
  pub b : Bucket
  pub taken : Bucket
  pub full : Bucket
  pub mid : Moment L P
  pub was : Asking L P
  pub before : Before l p paths at.rest first at.later begin mid
  pub path : b.path ≡ first.path
  pub good : IsGood b
  pub over : OverOne l p first b mid (later_at l p now was)
  pub takes : TakesNext b e taken
  pub fills : FillsBothBy l p first.path (Some e.key) taken.mine full.mine taken.theirs full.theirs was.left now.now.left was.at.local now.now.at.local was.at.peer now.now.at.peer
  pub full_path : full.path ≡ first.path
  pub full_good : IsGood full
  pub is : at.bucket ≡ Some full
  pub unasked : at.entry ≡ None

-- what a walk has come to, with a key that was found or without
abbrev pub WalksOn : {L P : Type 0} (l : SideOf L) (p : SideOf P) (paths : List (List ℕ)) (begin now : Moment L P) → Option Entry → Walking → Type 0
WalksOn l p paths begin now found at = MatchOption found (Walked l p paths begin now at) (λ e. Found l p paths begin now e at)

-- ---- lists

-- buckets that are opened with their pages
pub opened_is : (window : List (List ℕ)) (mine theirs : List ListingValue) → length mine ≡ length window → length theirs ≡ length window
    → (paths_of (opened_buckets (map first_page window) mine theirs) ≡ window) × (mine_of (opened_buckets (map first_page window) mine theirs) ≡ mine) × (theirs_of (opened_buckets (map first_page window) mine theirs) ≡ theirs)
opened_is [] [] [] m t = (refl, refl, refl)
opened_is [] (x ∷ mine) theirs m t = absurd (omega (arith, m))
opened_is [] [] (y ∷ theirs) m t = absurd (omega (arith, t))
opened_is (q ∷ window) [] theirs m t = absurd (omega (arith, m))
opened_is (q ∷ window) (x ∷ mine) [] m t = absurd (omega (arith, t))
opened_is (q ∷ window) (x ∷ mine) (y ∷ theirs) m t =
    let more = opened_is window mine theirs (omega (arith, m)) (omega (arith, t)) in
    (ap (λ qs. q ∷ qs) more.0, ap (λ xs. x ∷ xs) more.1, ap (λ ys. y ∷ ys) more.2)

pub good_of : (bs : List Bucket) → Each IsGoodPage (mine_of bs) → Each IsGoodPage (theirs_of bs) → Each IsGood bs
good_of [] m t = tt
good_of (b ∷ bs) m t = ((m.0, t.0), good_of bs m.1 t.1)

-- the page of one bucket among several
page_of_one : (held : KeyDigests) (gone later : List (List ℕ)) (pages more : List ListingValue) (path : List ℕ) (page : ListingValue) → length pages ≡ length gone → ArePages held (gone ++ path ∷ later) (pages ++ page ∷ more) → ArePages held (path ∷ []) (page ∷ [])
page_of_one held [] later [] more path page long h = (h.0, tt)
page_of_one held [] later (x ∷ pages) more path page long h = absurd (omega (arith, long))
page_of_one held (q ∷ gone) later [] more path page long h = absurd (omega (arith, long))
page_of_one held (q ∷ gone) later (x ∷ pages) more path page long h = page_of_one held gone later pages more path page (omega (arith, long)) h.1

-- ---- how much is left without a question

abbrev pub size_of_bucket : Bucket → ℕ
size_of_bucket b = 1 + length b.mine.0 + length b.theirs.0

abbrev pub size_of_all : List Bucket → ℕ
size_of_all [] = 0
size_of_all (b ∷ bs) = size_of_bucket b + size_of_all bs

abbrev pub size_of_first : Option Bucket → ℕ
size_of_first None = 0
size_of_first (Some b) = size_of_bucket b

abbrev pub size_of : Walking → ℕ
size_of at = size_of_first at.bucket + size_of_all at.later

-- a test that fails
pub quiet_if : (asks : Bool) (asked : List PageQuestion) → (asks ≡ true) ↔ (asked ≢ []) → asks ≡ false → asked ≡ []
quiet_if asks [] is quiet = refl
quiet_if asks (q ∷ asked) is quiet = absurd (true≢false (sym (is.1 (λ none. absurd (cc))) ∙ quiet))

pub no_window : (rest : List (List ℕ)) → map first_page (take 64 rest) ≡ [] → rest ≡ []
no_window [] none = refl
no_window (path ∷ rest) none = absurd (cc)

not_true : (b : Bool) → (b ≡ true → ⊥) → b ≡ false
not_true true no_way = absurd (no_way refl)
not_true false no_way = refl

pub nothing_read : {S : Type 0} (s : SideOf S) (self : (x : S) → s.follows 0 x x) (left : ℕ) (at : S) → ReadsSide s 0 (with_left at left) (with_left at left)
nothing_read s self left at = record { spent = omega arith; follows = self at; kept = λ t. record { still = t; states = refl } }

-- a listing that is not to be filled
fills_nothing : {S : Type 0} (s : SideOf S) (path : List ℕ) (key : Key) (listing : ListingValue) (left : ℕ) (at : S) → s.follows 0 at at → (listing.0 ≡ [] → listing.1 ≡ false) → Fills s path (Some key) listing listing (with_left at left) (with_left at left)
fills_nothing s path key listing left at self more = record {
  asked = 0;
  one = omega arith;
  needed = λ some. absurd (omega (arith, some));
  same = λ _. refl;
  spent = omega arith;
  follows = self;
  short = λ low. low;
  ended = more;
  kept = λ t. record { still = t; states = refl };
  page = λ t some. absurd (omega (arith, some));
}

-- a bucket after its next key was taken
good_taken : (b b' : Bucket) (e : Entry) → TakesNext b e b' → IsGood b → (b'.mine.0 ≡ [] → b'.mine.1 ≡ false) → (b'.theirs.0 ≡ [] → b'.theirs.1 ≡ false) → IsGood b'
good_taken b b' e takes good mine theirs =
    let n = takes_shorter b.mine.0 b.theirs.0 b'.mine.0 b'.theirs.0 e takes.takes in
    let low = good.0.1 in
    let low' = good.1.1 in
    ((mine, omega (arith, n.0, low)), (theirs, omega (arith, n.1, low')))

-- what both told of a window, they told of the bucket
one_of : {L P : Type 0} (l : SideOf L) (p : SideOf P) (paths rest : List (List ℕ)) (first : Bucket) (later : List Bucket) (begin now : Moment L P) (w : Before l p paths rest first later begin now) (a b : States)
    → Told l p w.window w.mine w.theirs a b → Told l p (first.path ∷ []) (first.mine ∷ []) (first.theirs ∷ []) a b
one_of l p paths rest first later begin now w a b told = (
  page_of_one (digests a) w.gone (paths_of later) w.mine_gone (mine_of later) first.path first.mine w.long.0 (subst (λ xs. ArePages (digests a) (w.gone ++ paths_of (first ∷ later)) xs) w.mine_is (subst (λ qs. ArePages (digests a) qs w.mine) w.window_is told.0)),
  page_of_one (digests b) w.gone (paths_of later) w.theirs_gone (theirs_of later) first.path first.theirs w.long.1 (subst (λ xs. ArePages (digests b) (w.gone ++ paths_of (first ∷ later)) xs) w.theirs_is (subst (λ qs. ArePages (digests b) qs w.theirs) w.window_is told.1)),
)

-- ---- a walk of two sides

module _ {L P : Type 0} (l : SideOf L) (p : SideOf P)
    (on : (m n : ℕ) (old mid new : L) → l.follows m old mid → l.follows n mid new → l.follows (m + n) old new)
    (on' : (m n : ℕ) (old mid new : P) → p.follows m old mid → p.follows n mid new → p.follows (m + n) old new)
    (stays : (n : ℕ) (old new : L) → l.follows n old new → l.most_keys new ≡ l.most_keys old)
    (stays' : (n : ℕ) (old new : P) → p.follows n old new → p.most_keys new ≡ p.most_keys old)
    (self : (s : L) → l.follows 0 s s) (self' : (s : P) → p.follows 0 s s) where
  -- what was gone over, and then more
  onward : {A : Type 0} (Was Is : States → States → Type 0) → ((a b : States) → Was a b → Is a b) → (ps qs : List (List ℕ)) (n m : ℕ) (old mid new : Moment L P) (result : Result A SyncFault) → Through l p Was ps n old mid (Ok (tt {0})) → Through l p Is qs m mid new result → Through l p Was (ps ++ qs) (n + m) old new result
  onward Was Is then ps qs n m old mid new result =
      through_on l p on on' stays stays' Was Is then ps qs n m old.now.left mid.now.left new.now.left old.now.at.local mid.now.at.local new.now.at.local old.now.at.peer mid.now.at.peer new.now.at.peer old.work mid.work new.work result

  pub over_on : {A : Type 0} (ps qs : List (List ℕ)) (old mid new : Moment L P) (result : Result A SyncFault) → Over l p ps old mid (Ok (tt {0})) → Over l p qs mid new result → Over l p (ps ++ qs) old new result
  over_on ps qs old mid new result first second =
      subst (λ n. Through l p (λ a b. Unit {0}) (ps ++ qs) n old new result) (sym (length-append ps qs))
      (onward (λ a b. Unit {0}) (λ a b. Unit {0}) (λ a b told. told) ps qs (length ps) (length qs) old mid new result first second)

  pub over_cut : (ps qs : List (List ℕ)) (old new : Moment L P) (fault : SyncFault) → Over l p {A = Unit {0}} ps old new (Err fault) → Over l p {A = Unit {0}} (ps ++ qs) old new (Err fault)
  over_cut ps qs old new fault g =
      subst (λ n. Through l p {A = Unit {0}} (λ a b. Unit {0}) (ps ++ qs) n old new (Err fault)) (sym (length-append ps qs))
      (through_cut l p (λ a b. Unit {0}) ps qs (length ps) (length qs) old.now.left new.now.left old.now.at.local new.now.at.local old.now.at.peer new.now.at.peer old.work new.work fault g)

  -- it begins
  pub walk_begins : (paths : List (List ℕ)) (now : Moment L P) → Walked l p paths now now (record { rest = paths; bucket = None; later = []; entry = None })
  walk_begins paths now = between [] refl refl refl refl (through_none l p (λ a b. Unit {0}) self self' now.now.left now.now.at.local now.now.at.peer now.work)

  module _ (paths : List (List ℕ)) (begin : Moment L P) where
    -- it is done
    pub walk_done : (now : Moment L P) (at : Walking) → Walked l p paths begin now at → IsWalked at → Over l p paths begin now (Ok (tt {0}))
    walk_done now at (between done is none _ _ over) end =
        let all : paths ≡ done = is ∙ ap (λ qs. done ++ qs) end.1 ∙ append-nil done in
        subst (λ qs. Over l p qs begin now (Ok (tt {0}))) (sym all) over
    walk_done now at (amid first b mid before path good over some _) end = let none = end.0 in absurd (cc)
    walk_done now at (waiting first b b' e mid before path good over takes wants some _) end = let none = end.0 in absurd (cc)

    -- keys that waited are exchanged after all buckets
    pub over_exchanged : {A : Type 0} (done : List (List ℕ)) (now new : Moment L P) (result : Result A SyncFault) → Over l p done begin now (Ok (tt {0})) → ExchangesBy l p now.work.waiting now.now.left new.now.left now.now.at.local new.now.at.local now.now.at.peer new.now.at.peer now.work new.work result → Over l p done begin new result
    over_exchanged done now new result over x =
        subst (λ qs. Over l p qs begin new result) (append-nil done)
        (over_on done [] begin now new result over (through_exchange l p now.now.left new.now.left now.now.at.local new.now.at.local now.now.at.peer new.now.at.peer now.work new.work result x))

    pub walk_exchanges : (now new : Moment L P) (at : Walking) → Walked l p paths begin now at → IsWalked at → ExchangesBy l p now.work.waiting now.now.left new.now.left now.now.at.local new.now.at.local now.now.at.peer new.now.at.peer now.work new.work (Ok (tt {0})) → Walked l p paths begin new at
    walk_exchanges now new at (between done is none later unasked over) end x = between done is none later unasked (over_exchanged done now new (Ok (tt {0})) over x)
    walk_exchanges now new at (amid first b mid before path good over some _) end x = let none = end.0 in absurd (cc)
    walk_exchanges now new at (waiting first b b' e mid before path good over takes wants some _) end x = let none = end.0 in absurd (cc)

    -- the buckets of a window are gone over
    window_over : {A : Type 0} (rest : List (List ℕ)) (first : Bucket) (later : List Bucket) (mid new : Moment L P) (w : Before l p paths rest first later begin mid) (result : Result A SyncFault)
        → Through l p (Told l p w.window w.mine w.theirs) w.window 0 (later_at l p w.mid w.told) new result → Over l p (w.done ++ w.window) begin new result
    window_over rest first later mid new w result through =
        over_on w.done w.window begin w.mid new result w.over
        (window_through l p on on' stays stays' w.window w.mine w.theirs (length w.window) w.mid.now.left w.told.left new.now.left w.mid.now.at.local w.told.at.local new.now.at.local w.mid.now.at.peer w.told.at.peer new.now.at.peer w.mid.work new.work result w.local_side w.peer_side w.local_told w.peer_told through)

    -- the bucket is gone over after those before it
    one_more : {A : Type 0} (rest : List (List ℕ)) (first : Bucket) (later : List Bucket) (mid new : Moment L P) (w : Before l p paths rest first later begin mid) (result : Result A SyncFault)
        → Through l p (Told l p (first.path ∷ []) (first.mine ∷ []) (first.theirs ∷ [])) (first.path ∷ []) 0 mid new result → Through l p (Told l p w.window w.mine w.theirs) (w.gone ++ first.path ∷ []) 0 (later_at l p w.mid w.told) new result
    one_more rest first later mid new w result one =
        onward (Told l p w.window w.mine w.theirs) (Told l p (first.path ∷ []) (first.mine ∷ []) (first.theirs ∷ [])) (one_of l p paths rest first later begin mid w) w.gone (first.path ∷ []) 0 0 (later_at l p w.mid w.told) mid new result w.through one

    -- it ends amid the bucket
    pub before_ends : (rest : List (List ℕ)) (first : Bucket) (later : List Bucket) (mid new : Moment L P) (fault : SyncFault) → Before l p paths rest first later begin mid
        → Through l p {A = Unit {0}} (Told l p (first.path ∷ []) (first.mine ∷ []) (first.theirs ∷ [])) (first.path ∷ []) 0 mid new (Err fault) → Over l p {A = Unit {0}} paths begin new (Err fault)
    before_ends rest first later mid new fault w one =
        let begun = later_at l p w.mid w.told in
        let cut = through_cut l p (Told l p w.window w.mine w.theirs) (w.gone ++ first.path ∷ []) (paths_of later) 0 0 begun.now.left new.now.left begun.now.at.local new.now.at.local begun.now.at.peer new.now.at.peer begun.work new.work fault (one_more rest first later mid new w (Err fault) one) in
        let all : (w.gone ++ first.path ∷ []) ++ paths_of later ≡ w.window = append_assoc w.gone (first.path ∷ []) (paths_of later) ∙ sym w.window_is in
        let whole = window_over rest first later mid new w (Err fault) (subst (λ qs. Through l p {A = Unit {0}} (Told l p w.window w.mine w.theirs) qs 0 begun new (Err fault)) all cut) in
        subst (λ qs. Over l p {A = Unit {0}} qs begin new (Err fault)) (sym w.is) (over_cut (w.done ++ w.window) rest begin new fault whole)

    -- no key of the bucket is left
    before_closes : (rest : List (List ℕ)) (first : Bucket) (later : List Bucket) (mid new : Moment L P) (at : Walking) → Before l p paths rest first later begin mid
        → Through l p (Told l p (first.path ∷ []) (first.mine ∷ []) (first.theirs ∷ [])) (first.path ∷ []) 0 mid new (Ok (tt {0})) → ClosesBucket (record { rest = rest; bucket = Some first; later = later; entry = None }) at → Walked l p paths begin new at
    before_closes rest first later mid new at w one (moves b later' is new_is) =
        let paths_is = ap paths_of is in
        let mine_is = ap mine_of is in
        let theirs_is = ap theirs_of is in
        let good = subst (Each IsGood) is w.good in
        subst (Walked l p paths begin new) (sym new_is)
        (amid b b new (record {
          done = w.done;
          window = w.window;
          gone = w.gone ++ first.path ∷ [];
          mine = w.mine;
          theirs = w.theirs;
          mine_gone = w.mine_gone ++ first.mine ∷ [];
          theirs_gone = w.theirs_gone ++ first.theirs ∷ [];
          mid = w.mid;
          told = w.told;
          is = w.is;
          window_is = w.window_is ∙ ap (λ qs. w.gone ++ first.path ∷ qs) paths_is ∙ sym (append_assoc w.gone (first.path ∷ []) (paths_of (b ∷ later')));
          mine_is = w.mine_is ∙ ap (λ xs. w.mine_gone ++ first.mine ∷ xs) mine_is ∙ sym (append_assoc w.mine_gone (first.mine ∷ []) (mine_of (b ∷ later')));
          theirs_is = w.theirs_is ∙ ap (λ xs. w.theirs_gone ++ first.theirs ∷ xs) theirs_is ∙ sym (append_assoc w.theirs_gone (first.theirs ∷ []) (theirs_of (b ∷ later')));
          long = (
            length-append w.mine_gone (first.mine ∷ []) ∙ ap (λ n. n + 1) w.long.0 ∙ sym (length-append w.gone (first.path ∷ [])),
            length-append w.theirs_gone (first.theirs ∷ []) ∙ ap (λ n. n + 1) w.long.1 ∙ sym (length-append w.gone (first.path ∷ [])),
          );
          over = w.over;
          local_side = w.local_side;
          peer_side = w.peer_side;
          local_told = w.local_told;
          peer_told = w.peer_told;
          through = one_more rest first later mid new w (Ok (tt {0})) one;
          good = good.1;
        }) refl good.0 (over_begins l p b.path b.mine b.theirs self self' new.now.left new.now.at.local new.now.at.peer new.work) refl refl)
    before_closes rest first later mid new at w one (ends none new_is) =
        let all : w.gone ++ first.path ∷ [] ≡ w.window = ap (λ bs. w.gone ++ first.path ∷ paths_of bs) (sym none) ∙ sym w.window_is in
        let over = window_over rest first later mid new w (Ok (tt {0})) (subst (λ qs. Through l p (Told l p w.window w.mine w.theirs) qs 0 (later_at l p w.mid w.told) new (Ok (tt {0}))) all (one_more rest first later mid new w (Ok (tt {0})) one)) in
        subst (Walked l p paths begin new) (sym new_is) (between (w.done ++ w.window) w.is refl refl refl over)

    -- THE WALK GOES ON without a question
    pub walk_goes : (now : Moment L P) (at : Walking) (found : Option Entry) (at' : Walking) → Walked l p paths begin now at → at.entry ≡ None → GoesTo at found at' → WalksOn l p paths begin now found at'
    walk_goes now at found at' (between done is none _ _ over) unasked (tells b b' e some takes full told new_is) = absurd (cc)
    walk_goes now at found at' (between done is none _ _ over) unasked (waits b b' e some takes wants told new_is) = absurd (cc)
    walk_goes now at found at' (between done is none _ _ over) unasked (closes b some _ _ told closed) = absurd (cc)
    walk_goes now at found at' (waiting first b b' e mid before path good over takes wants some held) unasked it = absurd (cc)
    walk_goes now at found at' (amid first b mid before path good over some quiet) unasked (tells c c' e is takes full told new_is) =
        let same : c ≡ b = cc in
        let here : TakesNext b e c' = subst (λ x. TakesNext x e c') same takes in
        let mine = not_true (is_spent c'.mine) (λ h. full (inl h)) in
        let theirs = not_true (is_spent c'.theirs) (λ h. full (inr h)) in
        subst (λ o. WalksOn l p paths begin now o at') (sym told)
        (subst (Found l p paths begin now e) (sym new_is) (record {
          first = first;
          b = b;
          taken = c';
          full = c';
          mid = mid;
          was = now.now;
          before = before;
          path = path;
          good = good;
          over = over;
          takes = here;
          fills = record {
            local_side = fills_nothing l first.path e.key c'.mine now.now.left.local now.now.at.local (self now.now.at.local) (unspent_is c'.mine mine);
            peer_side = fills_nothing p first.path e.key c'.theirs now.now.left.peer now.now.at.peer (self' now.now.at.peer) (unspent_is c'.theirs theirs);
          };
          full_path = here.path ∙ path;
          full_good = good_taken b c' e here good (unspent_is c'.mine mine) (unspent_is c'.theirs theirs);
          is = refl;
          unasked = unasked;
        }))
    walk_goes now at found at' (amid first b mid before path good over some quiet) unasked (waits c c' e is takes wants told new_is) =
        let same : c ≡ b = cc in
        subst (λ o. WalksOn l p paths begin now o at') (sym told)
        (subst (Walked l p paths begin now) (sym new_is) (waiting first b c' e mid before path good over (subst (λ x. TakesNext x e c') same takes) wants refl refl))
    walk_goes now at found at' (amid first b mid before path good over some quiet) unasked (closes c is none none' told closed) =
        let same : c ≡ b = cc in
        let one = over_ends l p first.path first.mine first.theirs on on' b.mine b.theirs mid.now.left now.now.left mid.now.at.local now.now.at.local mid.now.at.peer now.now.at.peer mid.work now.work over good.0.0 good.1.0 (ap (λ (x : Bucket). x.mine.0) (sym same) ∙ none) (ap (λ (x : Bucket). x.theirs.0) (sym same) ∙ none') in
        subst (λ o. WalksOn l p paths begin now o at') (sym told)
        (before_closes at.rest first at.later mid now at' before one (closes_same (record { rest = at.rest; bucket = Some first; later = at.later; entry = None }) at at' refl refl closed))

    -- memory was refused for its next question
    pub walk_stops : (now : Moment L P) (at : Walking) (left' : Questions) (refusal : Refusal) → Walked l p paths begin now at → at.bucket ≢ None → at.entry ≡ None → refusal ≡ Memory → Over l p {A = Unit {0}} paths begin (moment now.now.at.local now.now.at.peer left' now.work) (Err (Local refusal))
    walk_stops now at left' refusal (between done is none _ _ over) bucket unasked memory = absurd (bucket none)
    walk_stops now at left' refusal (waiting first b b' e mid before path good over takes wants some held) bucket unasked memory = absurd (cc)
    walk_stops now at left' refusal (amid first b mid before path good over some quiet) bucket unasked memory =
        let new = moment now.now.at.local now.now.at.peer left' now.work in
        before_ends at.rest first at.later mid new (Local refusal) before
        (over_stops l p first.path first.mine first.theirs on on' b.mine b.theirs mid.now.left now.now.left mid.now.at.local now.now.at.local mid.now.at.peer now.now.at.peer mid.work now.work over good.0.0 good.1.0 left' (Local refusal)
        (memory_fails l p 0 0 0 now.now.left.local now.now.left.peer now.now.left now.now.at.local now.now.at.local now.now.at.peer now.now.at.peer (nothing_read l self now.now.left.local now.now.at.local) (nothing_read p self' now.now.left.peer now.now.at.peer) (omega arith) (omega arith) refusal memory))

    -- THE KEY THAT WAS FOUND IS SETTLED
    pub found_settles : (now new : Moment L P) (e : Entry) (at : Walking) → Found l p paths begin now e at → SettlesBy l p e now.now.left new.now.left now.now.at.local new.now.at.local now.now.at.peer new.now.at.peer now.work new.work (Ok (tt {0})) → Walked l p paths begin new at
    found_settles now new e at f s =
        let first = f.first in
        amid first f.full f.mid f.before f.full_path f.full_good
        (over_settles l p first.path first.mine first.theirs on on' f.b.mine f.b.theirs f.mid.now.left f.was.left f.mid.now.at.local f.was.at.local f.mid.now.at.peer f.was.at.peer f.mid.work now.work f.over f.good.0.0 f.good.1.0 e f.taken.mine f.taken.theirs f.takes.takes f.takes.more stays stays' f.full.mine f.full.theirs now.now.left new.now.left now.now.at.local new.now.at.local now.now.at.peer new.now.at.peer new.work f.fills s)
        f.is f.unasked

    pub found_ends : (now new : Moment L P) (e : Entry) (at : Walking) (fault : SyncFault) → Found l p paths begin now e at → SettlesBy {A = Unit {0}} l p e now.now.left new.now.left now.now.at.local new.now.at.local now.now.at.peer new.now.at.peer now.work new.work (Err fault) → Over l p {A = Unit {0}} paths begin new (Err fault)
    found_ends now new e at fault f s =
        let first = f.first in
        before_ends at.rest first at.later f.mid new fault f.before
        (over_unsettled l p first.path first.mine first.theirs on on' f.b.mine f.b.theirs f.mid.now.left f.was.left f.mid.now.at.local f.was.at.local f.mid.now.at.peer f.was.at.peer f.mid.work now.work f.over f.good.0.0 f.good.1.0 e f.taken.mine f.taken.theirs f.takes.takes f.takes.more stays stays' f.full.mine f.full.theirs now.now.left new.now.left now.now.at.local new.now.at.local now.now.at.peer new.now.at.peer new.work f.fills fault s)
