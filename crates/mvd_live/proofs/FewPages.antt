-- A side is asked for one page more for each thousand keys that it holds, and twice about each key that differs.
use Rattle.std.proofs.Common.{◌≡◌, inl, inr, ℕ, ◌+◌, ◌*◌, ◌/◌, ◌<◌, ◌≤◌, Bool, true, false, true≢false, cond, List, [], ◌∷◌, map, length, refl, sym, ap, ◌∙◌, arith, Some, None, Option}
use Rattle.std.specs.Prelude.{is_some, min, nat_lt}
use Rattle.std.specs.FinMap.{entries, get, keys, len, len-entries}
use Rattle.std.specs.List.{filter}
use Rattle.std.proofs.lemmas.Bool.Decides.{nat_tests}
use Rattle.std.proofs.lemmas.List.{length-map, length-take}
use Rattle.mvd_keys.specs.Writes.{Key}
use Rattle.mvd_tree.specs.Page.{bucket_page, is_more_after_page, keys_after}
use Rattle.mvd_site.specs.Answer.{digests}
use Rattle.mvd_site.specs.Held.{States}
use Rattle.mvd_peer.specs.PushedStates.{Each}
use Rattle.mvd_peer.specs.Sides.{two}
use Rattle.mvd_peer.specs.Windows.{ForEach}
use Rattle.mvd_sync.specs.Answers.{ListingValue, PageEntry, TakesLesser, is_spent, of_both, of_first, of_second}
use Rattle.mvd_sync.proofs.Buckets.{waits_if}
use Rattle.mvd_sync.proofs.Exchanges.{keys_next}
use Rattle.mvd_sync.specs.Meetings.{is_held}
use Rattle.mvd_sync.specs.Session.{AreDistinct, AreFew, IsIn, is_member}
use Rattle.mvd_sync.specs.Walking.{TakesNext, filled, first_page, opened_buckets}
use Rattle.mvd_sync.specs.declared.cursor.Entry.{Entry}
use Rattle.mvd_sync.specs.declared.report.Side.{Side}
use Rattle.mvd_sync.specs.declared.report.Side.TheVariants.{Local as AtLocal, Peer as AtPeer}
use Rattle.mvd_sync.specs.declared.walking.Bucket.{Bucket}
use Rattle.mvd_sync.proofs.Paging.{spent_is}
use Rattle.mvd_sync.proofs.Sessions.{few_keys}
use Rattle.mvd_sync.proofs.Taking.{held_member}
use Rattle.mvd_live.proofs.Buckets.{PageAt}
use Rattle.mvd_live.proofs.FewKeys.{AtTwo, listed_held}
use Rattle.mvd_live.proofs.Moments.{Frame, none_or_some, still_held}
use Rattle.mvd_live.proofs.Parts.{IsPart, part_distinct, part_more}
use Rattle.mvd_live.proofs.Turns.{last_of}

-- ---- counts

abbrev pub listing_at : Side → Bucket → ListingValue
listing_at AtLocal b = b.mine
listing_at AtPeer b = b.theirs

-- how many of these keys a side holds, and how many differ
abbrev pub held_count : Side → List Entry → ℕ
held_count side taken = length (filter (is_held side) taken)

abbrev pub differing : List Entry → ℕ
differing taken = length (filter (λ (e : Entry). e.differs) taken)

pub differing_one : (e : Entry) (taken : List Entry) → differing (e ∷ taken) ≡ length (waits_if e) + differing taken
differing_one e taken = elim e.differs as (λ b. length (cond b (e ∷ filter (λ (e : Entry). e.differs) taken) (filter (λ (e : Entry). e.differs) taken)) ≡ length (cond b (e ∷ []) []) + differing taken) [ true ↦ omega arith | false ↦ omega arith ]

held_yes : (side : Side) (e : Entry) (taken : List Entry) → is_held side e ≡ true → held_count side (e ∷ taken) ≡ 1 + held_count side taken
held_yes side e taken is = ap (λ b. length (cond b (e ∷ filter (is_held side) taken) (filter (is_held side) taken))) is ∙ omega arith

held_no : (side : Side) (e : Entry) (taken : List Entry) → is_held side e ≡ false → held_count side (e ∷ taken) ≡ held_count side taken
held_no side e taken is = ap (λ b. length (cond b (e ∷ filter (is_held side) taken) (filter (is_held side) taken))) is

-- ---- what is taken of a side's listing

-- the side's first key was taken, or none of it
pub data Took (side : Side) (b : Bucket) (e : Entry) (b' : Bucket) : Type 0 where
  took_first : (x : PageEntry) → is_held side e ≡ true → (listing_at side b).0 ≡ x ∷ (listing_at side b').0 → e.key ≡ x.0 → Took side b e b'
  took_none : is_held side e ≡ false → (listing_at side b).0 ≡ (listing_at side b').0 → Took side b e b'

pub side_took : (side : Side) (b b' : Bucket) (e : Entry) → TakesNext b e b' → Took side b e b'
side_took side b b' e takes = by side takes.takes
  where
    by : (side : Side) → TakesLesser (two b.mine.0 b.theirs.0) e (two b'.mine.0 b'.theirs.0) → Took side b e b'
    by AtLocal (of_first x is same key mine theirs sure starts) = took_first x mine is key
    by AtLocal (of_second y same is key mine theirs sure starts) = took_none mine same
    by AtLocal (of_both x y is is' key key' mine theirs differ) = took_first x mine is key
    by AtPeer (of_first x is same key mine theirs sure starts) = took_none theirs same
    by AtPeer (of_second y same is key mine theirs sure starts) = took_first y theirs is key
    by AtPeer (of_both x y is is' key key' mine theirs differ) = took_first y theirs is' key'

same_more : (side : Side) (b b' : Bucket) (e : Entry) → TakesNext b e b' → (listing_at side b').1 ≡ (listing_at side b).1
same_more AtLocal b b' e takes = takes.more.0
same_more AtPeer b b' e takes = takes.more.1

-- ---- pages

-- a thousand keys are left of a listing that goes on, with those that were taken for a page
abbrev pub MoreNow : Side → Option Bucket → ℕ → ℕ → Type 0
MoreNow side None pages held = Unit {0}
MoreNow side (Some b) pages held = (listing_at side b).1 ≡ true → 1000 * pages + 1000 ≤ held + length (listing_at side b).0

abbrev pub IsThousand : Side → Bucket → Type 0
IsThousand side b = (listing_at side b).1 ≡ true → 1000 ≤ length (listing_at side b).0

-- SO MANY PAGES AFTER A KEY were asked of a side, which at last holds the keys that it told
pub record PagesFew (f : Frame) (side : Side) (bucket : Option Bucket) (others : List Bucket) (taken : List Entry) (pages : ℕ) : Type 0 where
  pub held : Each (λ e. is_held side e ≡ true → is_member (keys (last_of f side)) e.key ≡ true) taken
  pub many : 1000 * pages ≤ held_count side taken
  pub more : MoreNow side bucket pages (held_count side taken)
  pub later : Each (IsThousand side) others

is_among : (m : States) (key : Key) → (get m key ≡ None → ⊥) → is_member (keys m) key ≡ true
is_among m key held = sym (held_member m key) ∙ elim (none_or_some (get m key)) [ inl none ↦ absurd (held none) | inr some ↦ ap is_some some.1 ]

module _ (f : Frame) (side : Side) where
  -- what its listing begins with it holds at last
  first_held : (b : Bucket) (upto : Option Key) (x : PageEntry) (page : List PageEntry) → AtTwo f b upto → (listing_at side b).0 ≡ x ∷ page → is_member (keys (last_of f side)) x.0 ≡ true
  first_held b upto x page at is = by side is
    where
      by : (side : Side) → (listing_at side b).0 ≡ x ∷ page → is_member (keys (last_of f side)) x.0 ≡ true
      by AtLocal is = is_among f.a' x.0 (still_held at.mine.held f.a' x.0 at.mine.seen.form f.fa' at.mine.seen.until (listed_held at.mine.held b.path upto b.mine x page at.mine.is is))
      by AtPeer is = is_among f.b' x.0 (still_held at.theirs.held f.b' x.0 at.theirs.seen.form f.fb' at.theirs.seen.until (listed_held at.theirs.held b.path upto b.theirs x page at.theirs.is is))

  pub pages_took : (b b' : Bucket) (e : Entry) (upto : Option Key) (later : List Bucket) (taken : List Entry) (pages : ℕ) → AtTwo f b upto → TakesNext b e b' → PagesFew f side (Some b) later taken pages → PagesFew f side (Some b') later (e ∷ taken) pages
  pages_took b b' e upto later taken pages at takes old = by (side_took side b b' e takes)
    where
      by : Took side b e b' → PagesFew f side (Some b') later (e ∷ taken) pages
      by (took_first x is list key) =
          let n = held_yes side e taken is in
          let m = ap length list in
          let many = old.many in
          record {
            held = (λ _. ap (is_member (keys (last_of f side))) key ∙ first_held b upto x (listing_at side b').0 at list, old.held);
            many = omega (arith, n, many);
            more = λ on. let before = old.more (sym (same_more side b b' e takes) ∙ on) in omega (arith, n, m, before);
            later = old.later;
          }
      by (took_none is list) =
          let n = held_no side e taken is in
          let m = ap length list in
          let many = old.many in
          record {
            held = (λ yes. absurd (true≢false (sym yes ∙ is)), old.held);
            many = omega (arith, n, many);
            more = λ on. let before = old.more (sym (same_more side b b' e takes) ∙ on) in omega (arith, n, m, before);
            later = old.later;
          }

  -- the next bucket
  pub pages_moves : (b c : Bucket) (later : List Bucket) (taken : List Entry) (pages : ℕ) → PagesFew f side (Some b) (c ∷ later) taken pages → PagesFew f side (Some c) later taken pages
  pages_moves b c later taken pages old = record {
    held = old.held;
    many = old.many;
    more = λ on. let many = old.many in let long = old.later.0 on in omega (arith, many, long);
    later = old.later.1;
  }

  pub pages_closes : (bucket : Option Bucket) (later : List Bucket) (taken : List Entry) (pages : ℕ) → PagesFew f side bucket later taken pages → PagesFew f side None [] taken pages
  pages_closes bucket later taken pages old = record { held = old.held; many = old.many; more = tt; later = tt }

  pub pages_first : PagesFew f side None [] [] 0
  pages_first = record { held = tt; many = omega arith; more = tt; later = tt }

  pub pages_opens : (bucket : Option Bucket) (before : List Bucket) (b : Bucket) (later : List Bucket) (taken : List Entry) (pages : ℕ) → Each (IsThousand side) (b ∷ later) → PagesFew f side bucket before taken pages → PagesFew f side (Some b) later taken pages
  pages_opens bucket before b later taken pages full old = record {
    held = old.held;
    many = old.many;
    more = λ on. let many = old.many in let long = full.0 on in omega (arith, many, long);
    later = full.1;
  }

-- ---- a page that goes on has a thousand keys

full_page : (held : States) (path : List ℕ) (after : Option Key) (listing : ListingValue) → listing.0 ≡ bucket_page (digests held) path after → listing.1 ≡ is_more_after_page (digests held) path after → listing.1 ≡ true → 1000 ≤ length listing.0
full_page held path after listing page more on =
    let all = entries (keys_after (digests held) path after) in
    let k : length listing.0 ≡ min 1000 (length all) = ap length page ∙ length-take 1000 all in
    let long : nat_lt 1000 (length all) ≡ true = sym more ∙ on in
    let large : 1000 < length all = grind (arith, nat_tests) in
    omega (arith, k, large)

module _ (moments : List States) (first last : States) where
  pub page_full : (path : List ℕ) (after : Option Key) (listing : ListingValue) → PageAt moments first last (path, after) listing → listing.1 ≡ true → 1000 ≤ length listing.0
  page_full path after listing p =
      full_page p.1.0 path after listing (ap (λ (l : ListingValue). l.0) p.2.0 ∙ p.1.2.0) (ap (λ (l : ListingValue). l.1) p.2.0 ∙ p.1.2.1)

  -- a listing behind so many pages, and one more, if it was spent
  pub filled_more : (spent : Bool) (path : List ℕ) (key : Key) (listing : ListingValue) (told : List ListingValue) (pages held : ℕ) → is_spent listing ≡ spent → ForEach (PageAt moments first last) (cond spent ((path, Some key) ∷ []) []) told
      → 1000 * pages ≤ held → (listing.1 ≡ true → 1000 * pages + 1000 ≤ held + length listing.0)
      → (1000 * (pages + cond spent 1 0) ≤ held) × ((filled listing told).1 ≡ true → 1000 * (pages + cond spent 1 0) + 1000 ≤ held + length (filled listing told).0)
  filled_more false path key listing [] pages held is each many more = (omega (arith, many), λ on. let n = more on in omega (arith, n))
  filled_more false path key listing (page ∷ told) pages held is each many more = absurd each
  filled_more true path key listing [] pages held is each many more = absurd each
  filled_more true path key listing (page ∷ told) pages held is each many more =
      let s = spent_is listing is in
      let n = more s.1 in
      let z = ap length s.0 in
      (omega (arith, n, z), λ on. let full = page_full path (Some key) page each.0 on in omega (arith, n, z, full))

module _ (f : Frame) where
  pub opened_full : (side : Side) (paths : List (List ℕ)) (mine theirs : List ListingValue) → ForEach (PageAt f.locals f.a f.a') (map first_page paths) mine → ForEach (PageAt f.peers f.b f.b') (map first_page paths) theirs
      → Each (IsThousand side) (opened_buckets (map first_page paths) mine theirs)
  opened_full side [] mine theirs p q = tt
  opened_full side (path ∷ paths) [] theirs p q = absurd p
  opened_full side (path ∷ paths) (m ∷ mine) [] p q = absurd q
  opened_full AtLocal (path ∷ paths) (m ∷ mine) (t ∷ theirs) p q = (page_full f.locals f.a f.a' path None m p.0, opened_full AtLocal paths mine theirs p.1 q.1)
  opened_full AtPeer (path ∷ paths) (m ∷ mine) (t ∷ theirs) p q = (page_full f.peers f.b f.b' path None t q.0, opened_full AtPeer paths mine theirs p.1 q.1)

-- ---- the sum

part_keys : (test : Entry → Bool) (es : List Entry) → IsPart (keys_next (filter test es)) (keys_next es)
part_keys test [] = tt
part_keys test (e ∷ es) = elim (test e) as (λ b. IsPart (keys_next (cond b (e ∷ filter test es) (filter test es))) (e.key ∷ keys_next es)) [
  | true ↦ inl (refl, part_keys test es)
  | false ↦ part_more e.key (keys_next (filter test es)) (keys_next es) (part_keys test es)
]

each_kept : (P : Key → Type 0) (test : Entry → Bool) (es : List Entry) → Each (λ e. test e ≡ true → P e.key) es → Each P (keys_next (filter test es))
each_kept P test [] each = tt
each_kept P test (e ∷ es) each = elim (test e) as (λ b. test e ≡ b → Each P (keys_next (cond b (e ∷ filter test es) (filter test es)))) [
  | true ↦ λ yes. (each.0 yes, each_kept P test es each.1)
  | false ↦ λ _. each_kept P test es each.1
] refl

-- entries of distinct keys, each of which is in a list, are no more than it has
few_kept : (test : Entry → Bool) (es : List Entry) (ks : List Key) → AreDistinct (keys_next es) → Each (λ e. test e ≡ true → is_member ks e.key ≡ true) es → length (filter test es) ≤ length ks
few_kept test es ks once each =
    let n = few_keys (keys_next (filter test es)) ks (part_distinct (keys_next (filter test es)) (keys_next es) (part_keys test es) once) (each_kept (λ k. is_member ks k ≡ true) test es each) in
    let m = length-map (filter test es) (λ (e : Entry). e.key) in
    omega (arith, n, m)

pub sum_few : (f : Frame) (side : Side) (differed : List Key) (taken : List Entry) (asked pages : ℕ) → AreDistinct (keys_next taken) → Each (λ e. e.differs ≡ true → IsIn differed e.key) taken → Each (λ e. is_held side e ≡ true → is_member (keys (last_of f side)) e.key ≡ true) taken
    → 1000 * pages ≤ held_count side taken → asked ≤ 1 + 3 * length differed + 2 * differing taken + pages → AreFew asked (last_of f side) differed
sum_few f side differed taken asked pages once differ held many few =
    let d = few_kept (λ (e : Entry). e.differs) taken differed once differ in
    let h = few_kept (is_held side) taken (keys (last_of f side)) once held in
    let count : length (keys (last_of f side)) ≡ len (last_of f side) = length-map (entries (last_of f side)) (λ e. e.0) ∙ sym (len-entries (last_of f side)) in
    let p : pages ≤ len (last_of f side) / 1000 = omega (arith, many, h, count) in
    omega (arith, d, p, few)
