-- How far a bucket is gone over.
use Rattle.std.proofs.Common.{◌≡◌, ◌≢◌, ℕ, zero, suc, ◌+◌, ◌*◌, ◌<◌, ◌≤◌, Bool, true, false, cond, ◌&&◌, ◌||◌, List, [], ◌∷◌, ◌++◌, take, length, refl, sym, ap, subst, ◌∙◌, arith, Some, None, Option, length-append, append_assoc, true≢false}
use Rattle.std.specs.Prelude.{IsTrue, option_map, nat_lt, min}
use Rattle.std.specs.Ordering.{nat_cmp, eq_by_cmp, is_lt}
use Rattle.std.specs.Cmp.{Equal-is, tied_itself}
use Rattle.std.specs.Cmp.Lexicographic.{slice_cmp, nat_list_cmp_total}
use Rattle.std.specs.FinMap.{get, entries, get-entries, find, same_map}
use Rattle.std.proofs.lemmas.Bool.Decides.{nat_tests}
use Rattle.std.proofs.lemmas.List.{append-nil, length-take}
use Rattle.mvd_keys.specs.Writes.{Key}
use Rattle.mvd_site.specs.Answer.{digests, spelled}
use Rattle.mvd_site.specs.Held.{States}
use Rattle.mvd_tree.proofs.KeyDigests.{get-digests_of}
use Rattle.mvd_tree.proofs.Under.{keys_same}
use Rattle.mvd_tree.specs.HashTree.{KeyDigests, is_under}
use Rattle.mvd_tree.specs.Page.{is_after, keys_after}
use Rattle.mvd_tree.specs.States.{key_digest}
use Rattle.mvd_peer.specs.Sides.{two}
use Rattle.mvd_sync.proofs.Readings.{IsListing, IsBucketPage}
use Rattle.mvd_sync.specs.Answers.{ListingValue, TakesLesser}
use Rattle.mvd_sync.proofs.Buckets.{IsSpent, waits_if}
use Rattle.mvd_sync.proofs.Exchanges.{AreNext, IsNext, keys_next}
use Rattle.mvd_sync.specs.Exchanges.{Done, keys_done}
use Rattle.mvd_sync.specs.Session.{AreDistinct, IsIn, is_member}
use Rattle.mvd_peer.specs.PushedStates.{Each}
use Rattle.mvd_sync.specs.declared.cursor.Entry.{Entry}
use Rattle.mvd_sync.proofs.Keys.{Each-weaker, distinct-append, is_member-append}
use Rattle.mvd_sync.proofs.Nexts.{keys_next-append}
use Rattle.mvd_sync.proofs.Nodes.{Each-append}
use Rattle.mvd_sync.proofs.Pages.{listing_of_page}
use Rattle.mvd_peer.proofs.Pushes.{tied}
use Rattle.mvd_sync.proofs.Rest.{Heads, after_trans, at_head, gap, get-rest, heads, left_after, lt-true}

-- ---- what is left depends on the keys that are left

pub rest_same : (m n : KeyDigests) (path : List ℕ) (after : Option (List ℕ)) → ((q : List ℕ) → IsTrue (is_under path q) → is_after after q ≡ true → get m q ≡ get n q) → keys_after m path after ≡ keys_after n path after
rest_same m n path after same =
    same_map nat_list_cmp_total keys_same (keys_after m path after) (keys_after n path after) (λ q.
    get-rest m path after q
    ∙ elim (is_under path q) as (λ u. is_under path q ≡ u → cond (u && is_after after q) (get m q) None ≡ cond (u && is_after after q) (get n q) None) [
      | false ↦ λ _. refl
      | true ↦ λ u. elim (is_after after q) as (λ h. is_after after q ≡ h → cond h (get m q) None ≡ cond h (get n q) None) [
        | false ↦ λ _. refl
        | true ↦ λ h. same q u h
      ] refl
    ] refl
    ∙ sym (get-rest n path after q))

pub digests_same : (a a' : States) (q : List ℕ) → get a' q ≡ get a q → get (digests a') q ≡ get (digests a) q
digests_same a a' q e = get-digests_of spelled a' q ∙ ap (option_map (key_digest spelled q)) e ∙ sym (get-digests_of spelled a q)

-- a page of states that are the same there
pub page_same : (a a' : States) (path : List ℕ) (after : Option (List ℕ)) (page : List (Key × List ℕ)) (more : Bool) → ((q : List ℕ) → IsTrue (is_under path q) → is_after after q ≡ true → get a' q ≡ get a q) → IsBucketPage (digests a') path after page more → IsBucketPage (digests a) path after page more
page_same a a' path after page more same h =
    let e : keys_after (digests a') path after ≡ keys_after (digests a) path after = rest_same (digests a') (digests a) path after (λ q u i. digests_same a a' q (same q u i)) in
    record {
      is = h.is ∙ ap (λ m. take 1000 (entries m)) e;
      goes_on = h.goes_on ∙ ap (λ m. nat_lt 1000 (length (entries m))) e;
    }

-- ---- pages and thousands

-- so many keys are held in a bucket
abbrev pub held_at : States → List ℕ → ℕ
held_at a path = length (entries (keys_after (digests a) path None))

-- Behind so many further pages, each for a thousand keys: as many more keys are left after the page, if it goes on
pub record AreCounted (a : States) (path : List ℕ) (after : Option (List ℕ)) (listing : ListingValue) (pages : ℕ) : Type 0 where
  pub listed : IsListing (digests a) path after listing.0 listing.1
  pub many : 1000 * pages ≤ held_at a path
  pub more : listing.1 ≡ true → 1000 * (pages + 1) + length listed.later ≤ held_at a path

pub first_counted : (a : States) (path : List ℕ) (listing : ListingValue) → IsBucketPage (digests a) path None listing.0 listing.1 → AreCounted a path None listing 0
first_counted a path listing h =
    let listed = listing_of_page (digests a) path None listing.0 listing.1 h in
    record {
      listed = listed;
      many = omega arith;
      more = λ on.
          let n = ap length listed.is ∙ length-append listing.0 listed.later in
          let k = ap length h.is ∙ length-take 1000 (entries (keys_after (digests a) path None)) in
          let long : nat_lt 1000 (held_at a path) ≡ true = sym h.goes_on ∙ on in
          let large : 1000 < held_at a path = grind (arith, nat_tests) in
          omega (arith, n, k, large);
    }

-- a further page
pub next_counted : (a : States) (path : List ℕ) (after : Option (List ℕ)) (old new : ListingValue) (pages : ℕ) → AreCounted a path after old pages → IsSpent old → IsBucketPage (digests a) path after new.0 new.1 → AreCounted a path after new (pages + 1)
next_counted a path after old new pages c spent h =
    let listed = listing_of_page (digests a) path after new.0 new.1 h in
    let before = c.more spent.1 in
    record {
      listed = listed;
      many = omega (arith, before);
      more = λ on.
          let all = entries (keys_after (digests a) path after) in
          let n : length all ≡ length new.0 + length listed.later = ap length listed.is ∙ length-append new.0 listed.later in
          let k : length new.0 ≡ min 1000 (length all) = ap length h.is ∙ length-take 1000 all in
          let was : length all ≡ length c.listed.later = ap length c.listed.is ∙ ap (λ xs. length (xs ++ c.listed.later)) spent.0 in
          let long : nat_lt 1000 (length all) ≡ true = sym h.goes_on ∙ on in
          let large : 1000 < length all = grind (arith, nat_tests) in
          omega (arith, n, k, was, large, before);
    }

-- one more page, if it was needed
pub counted_fill : (a : States) (path : List ℕ) (after : Option (List ℕ)) (old new : ListingValue) (pages asked : ℕ) → AreCounted a path after old pages → asked ≤ 1 → (1 ≤ asked → IsSpent old) → (asked ≡ 0 → new ≡ old) → (1 ≤ asked → IsBucketPage (digests a) path after new.0 new.1) → AreCounted a path after new (pages + asked)
counted_fill a path after old new pages zero c one needed same page = subst (λ listing. AreCounted a path after listing (pages + 0)) (sym (same refl)) (subst (AreCounted a path after old) (omega arith) c)
counted_fill a path after old new pages (suc zero) c one needed same page = next_counted a path after old new pages c (needed (omega arith)) (page (omega arith))
counted_fill a path after old new pages (suc (suc n)) c one needed same page = absurd (omega (arith, one))

-- so many pages, and one that could not be had
pub counted_more : (a : States) (path : List ℕ) (after : Option (List ℕ)) (listing : ListingValue) (pages asked : ℕ) → AreCounted a path after listing pages → asked ≤ 1 → (1 ≤ asked → IsSpent listing) → 1000 * (pages + asked) ≤ held_at a path
counted_more a path after listing pages zero c one needed = let many = c.many in omega (arith, many)
counted_more a path after listing pages (suc zero) c one needed = let more = c.more (needed (omega arith)).1 in omega (arith, more)
counted_more a path after listing pages (suc (suc n)) c one needed = absurd (omega (arith, one))

-- ---- up to a key

-- a key that is not among those that are left of a bucket
abbrev pub IsPast : List ℕ → Option (List ℕ) → Key → Type 0
IsPast path upto key = IsTrue (is_under path key) → is_after upto key ≡ true → ⊥

-- Up to this key a bucket is gone over, and these keys were found to differ; behind so many further pages of each side
pub record Gone (a b : States) (done : List Done) (waiting : List Entry) (path : List ℕ) (upto : Option (List ℕ)) (mine theirs : ListingValue) (found : List Entry) (i j : ℕ) : Type 0 where
  pub first : AreCounted a path upto mine i
  pub second : AreCounted b path upto theirs j
  pub below : Each (λ e. IsTrue (is_under path e.key) × (is_after upto e.key ≡ false)) found
  pub next : AreNext a b done (waiting ++ found)
  pub all : (key : Key) → IsTrue (is_under path key) → is_after upto key ≡ false → get (digests a) key ≢ get (digests b) key → IsIn (keys_next found) key

pub gone_begins : (a b : States) (done : List Done) (waiting : List Entry) (path : List ℕ) (mine theirs : ListingValue) → AreNext a b done waiting → IsBucketPage (digests a) path None mine.0 mine.1 → IsBucketPage (digests b) path None theirs.0 theirs.1 → Gone a b done waiting path None mine theirs [] 0 0
gone_begins a b done waiting path mine theirs next p q = record {
  first = first_counted a path mine p;
  second = first_counted b path theirs q;
  below = tt;
  next = subst (AreNext a b done) (sym (append-nil waiting)) next;
  all = λ key u before differ. absurd (true≢false before);
}

-- ---- lists

pub each_keys : (P : Key → Type 0) (es : List Entry) → Each (λ e. P e.key) es → Each P (keys_next es)
each_keys P [] h = tt
each_keys P (e ∷ es) h = (h.0, each_keys P es h.1)

or_false : (b : Bool) → (b || false) ≡ b
or_false true = refl
or_false false = refl

or_true : (a b : Bool) → b ≡ true → (a || b) ≡ true
or_true true b h = refl
or_true false b h = h

pub all_split : (done : List Done) (waiting found : List Entry) → keys_done done ++ keys_next (waiting ++ found) ≡ (keys_done done ++ keys_next waiting) ++ keys_next found
all_split done waiting found = ap (λ ks. keys_done done ++ ks) (keys_next-append waiting found) ∙ sym (append_assoc (keys_done done) (keys_next waiting) (keys_next found))

-- none of the keys so far is among those that are left
pub past_all : (done : List Done) (waiting found : List Entry) (path : List ℕ) (upto : Option (List ℕ)) → Each (λ key. is_under path key ≡ false) (keys_done done ++ keys_next waiting) → Each (λ e. IsTrue (is_under path e.key) × (is_after upto e.key ≡ false)) found → Each (IsPast path upto) (keys_done done ++ keys_next (waiting ++ found))
past_all done waiting found path upto elsewhere below =
    subst (Each (IsPast path upto)) (sym (all_split done waiting found))
    (Each-append (IsPast path upto) (keys_done done ++ keys_next waiting) (keys_next found)
    (Each-weaker (λ key. is_under path key ≡ false) (IsPast path upto) (λ key lacks u h. true≢false (sym u ∙ lacks)) (keys_done done ++ keys_next waiting) elsewhere)
    (each_keys (IsPast path upto) found (Each-weaker (λ e. IsTrue (is_under path e.key) × (is_after upto e.key ≡ false)) (λ e. IsPast path upto e.key) (λ e at u h. true≢false (sym h ∙ at.1)) found below)))

-- ---- the next key

none_held : (key : Key) (o : Option (List ℕ)) (a : States) → get (digests a) key ≡ o → o ≡ None → get a key ≡ None
none_held key o a at none =
    elim (get a key) as (λ x. get a key ≡ x → x ≡ None) [
      | None ↦ λ _. refl
      | Some s ↦ λ e.
          let d : get (digests a) key ≡ Some (key_digest spelled key s) = get-digests_of spelled a key ∙ ap (option_map (key_digest spelled key)) e in
          let n : get (digests a) key ≡ None = at ∙ none in
          absurd (cc)
    ] refl

module _ (a b : States) (done : List Done) (waiting : List Entry) (path : List ℕ) (upto : Option (List ℕ)) (mine theirs : ListingValue) (found : List Entry) (i j : ℕ)
    (gone : Gone a b done waiting path upto mine theirs found i j)
    (mine_more : mine.0 ≡ [] → mine.1 ≡ false) (theirs_more : theirs.0 ≡ [] → theirs.1 ≡ false)
    (elsewhere : Each (λ key. is_under path key ≡ false) (keys_done done ++ keys_next waiting))
    (e : Entry) (mine' theirs' : ListingValue) (takes : TakesLesser (two mine.0 theirs.0) e (two mine'.0 theirs'.0))
    (same_more : mine'.1 ≡ mine.1) (same_more' : theirs'.1 ≡ theirs.1) where
  both_heads : Heads (digests a) (digests b) path upto e.key e.mine e.theirs e.differs (mine'.0 ++ gone.first.listed.later) (theirs'.0 ++ gone.second.listed.later)
  both_heads = heads (digests a) (digests b) path upto e mine.0 theirs.0 mine'.0 theirs'.0 mine.1 theirs.1 gone.first.listed gone.second.listed mine_more theirs_more takes

  at_first : get (digests a) e.key ≡ both_heads.first
  at_first = at_head (digests a) path upto e.key both_heads.first (mine'.0 ++ gone.first.listed.later) both_heads.mine both_heads.below both_heads.next

  at_second : get (digests b) e.key ≡ both_heads.second
  at_second = at_head (digests b) path upto e.key both_heads.second (theirs'.0 ++ gone.second.listed.later) both_heads.theirs both_heads.below both_heads.next

  is_next : IsTrue e.differs → IsNext a b e
  is_next sure = record {
    differ = λ same. both_heads.differ sure (sym at_first ∙ sym (digests_same a b e.key (sym same)) ∙ at_second);
    mine = λ lacks. none_held e.key both_heads.first a at_first (both_heads.no_first lacks);
    theirs = λ lacks. none_held e.key both_heads.second b at_second (both_heads.no_second lacks);
  }

  -- a key that was not left before is not left now
  past_on : (q : Key) → is_after upto q ≡ false → is_after (Some e.key) q ≡ false
  past_on q before =
      elim (is_lt (slice_cmp nat_cmp e.key q)) as (λ x. is_lt (slice_cmp nat_cmp e.key q) ≡ x → x ≡ false) [
        | true ↦ λ h. absurd (true≢false (sym (after_trans upto e.key q both_heads.next (lt-true (slice_cmp nat_cmp e.key q) h)) ∙ before))
        | false ↦ λ _. refl
      ] refl

  past_itself : is_after (Some e.key) e.key ≡ false
  past_itself = ap is_lt (tied_itself nat_list_cmp_total e.key)

  counted_first : AreCounted a path (Some e.key) mine' i
  counted_first = record {
    listed = record {
      later = gone.first.listed.later;
      is = left_after (digests a) path upto e.key both_heads.first (mine'.0 ++ gone.first.listed.later) both_heads.mine both_heads.next (digests a) (λ q l. refl);
      ended = λ h. gone.first.listed.ended (sym same_more ∙ h);
    };
    many = gone.first.many;
    more = λ h. gone.first.more (sym same_more ∙ h);
  }

  counted_second : AreCounted b path (Some e.key) theirs' j
  counted_second = record {
    listed = record {
      later = gone.second.listed.later;
      is = left_after (digests b) path upto e.key both_heads.second (theirs'.0 ++ gone.second.listed.later) both_heads.theirs both_heads.next (digests b) (λ q l. refl);
      ended = λ h. gone.second.listed.ended (sym same_more' ∙ h);
    };
    many = gone.second.many;
    more = λ h. gone.second.more (sym same_more' ∙ h);
  }

  -- the keys up to this one that differ are found
  found_all : (key : Key) → IsTrue (is_under path key) → is_after (Some e.key) key ≡ false → get (digests a) key ≢ get (digests b) key → (found' : List Entry) → (IsTrue e.differs → is_member (keys_next found') e.key ≡ true) → ((k : Key) → IsIn (keys_next found) k → IsIn (keys_next found') k) → IsIn (keys_next found') key
  found_all key u past differ found' one others =
      elim (is_after upto key) as (λ x. is_after upto key ≡ x → IsIn (keys_next found') key) [
        | false ↦ λ h. others key (gone.all key u h differ)
        | true ↦ λ h. elim (eq_by_cmp (slice_cmp nat_cmp) key e.key) as (λ x. eq_by_cmp (slice_cmp nat_cmp) key e.key ≡ x → IsIn (keys_next found') key) [
          | true ↦ λ tie.
              let is : key ≡ e.key = keys_same key e.key ((Equal-is (slice_cmp nat_cmp key e.key)).0 tie) in
              elim e.differs as (λ x. e.differs ≡ x → IsIn (keys_next found') key) [
                | true ↦ λ sure. ap (is_member (keys_next found')) is ∙ one sure
                | false ↦ λ lacks. absurd (differ (ap (get (digests a)) is ∙ at_first ∙ both_heads.same lacks ∙ sym at_second ∙ ap (get (digests b)) (sym is)))
              ] refl
          | false ↦ λ apart. absurd (differ (
              gap (digests a) path upto e.key both_heads.first (mine'.0 ++ gone.first.listed.later) both_heads.mine key u h apart past
              ∙ sym (gap (digests b) path upto e.key both_heads.second (theirs'.0 ++ gone.second.listed.later) both_heads.theirs key u h apart past)))
        ] refl
      ] refl

  below_on : Each (λ x. IsTrue (is_under path x.key) × (is_after (Some e.key) x.key ≡ false)) found
  below_on = Each-weaker (λ x. IsTrue (is_under path x.key) × (is_after upto x.key ≡ false)) (λ x. IsTrue (is_under path x.key) × (is_after (Some e.key) x.key ≡ false)) (λ x at. (at.0, past_on x.key at.1)) found gone.below

  -- it is none of the keys before
  one_more : AreDistinct (keys_done done ++ keys_next (waiting ++ (found ++ e ∷ [])))
  one_more =
      let before = past_all done waiting found path upto elsewhere gone.below in
      let is : (keys_done done ++ keys_next (waiting ++ found)) ++ e.key ∷ [] ≡ keys_done done ++ keys_next (waiting ++ (found ++ e ∷ [])) =
      append_assoc (keys_done done) (keys_next (waiting ++ found)) (e.key ∷ []) ∙ ap (λ ks. keys_done done ++ ks) (sym (keys_next-append (waiting ++ found) (e ∷ [])) ∙ ap keys_next (append_assoc waiting found (e ∷ []))) in
      subst AreDistinct is
      (distinct-append (IsPast path upto) (λ k. k ≡ e.key) (λ k past same. past (ap (is_under path) same ∙ both_heads.below) (ap (is_after upto) same ∙ both_heads.next))
      (keys_done done ++ keys_next (waiting ++ found)) (e.key ∷ []) before (refl, tt) gone.next.distinct (refl, tt))

  gone_with : IsTrue e.differs → Gone a b done waiting path (Some e.key) mine' theirs' (found ++ e ∷ []) i j
  gone_with sure = record {
    first = counted_first;
    second = counted_second;
    below = Each-append (λ x. IsTrue (is_under path x.key) × (is_after (Some e.key) x.key ≡ false)) found (e ∷ []) below_on ((both_heads.below, past_itself), tt);
    next = record {
      distinct = one_more;
      each = subst (Each (IsNext a b)) (append_assoc waiting found (e ∷ [])) (Each-append (IsNext a b) (waiting ++ found) (e ∷ []) gone.next.each (is_next sure, tt));
    };
    all = λ key u past differ. found_all key u past differ (found ++ e ∷ [])
        (λ _. ap (λ ks. is_member ks e.key) (keys_next-append found (e ∷ [])) ∙ is_member-append (keys_next found) (e.key ∷ []) e.key ∙ or_true (is_member (keys_next found) e.key) (is_member (e.key ∷ []) e.key) (ap (λ b. b || false) (tied e.key)))
        (λ k h. ap (λ ks. is_member ks k) (keys_next-append found (e ∷ [])) ∙ is_member-append (keys_next found) (e.key ∷ []) k ∙ ap (λ b. b || is_member (e.key ∷ []) k) h);
  }

  gone_without : e.differs ≡ false → Gone a b done waiting path (Some e.key) mine' theirs' (found ++ []) i j
  gone_without lacks =
      let same : found ++ [] ≡ found = append-nil found in
      subst (λ es. Gone a b done waiting path (Some e.key) mine' theirs' es i j) (sym same) (record {
        first = counted_first;
        second = counted_second;
        below = below_on;
        next = gone.next;
        all = λ key u past differ. found_all key u past differ found (λ sure. absurd (true≢false (sym sure ∙ lacks))) (λ k h. h);
      })

  pub gone_next : Gone a b done waiting path (Some e.key) mine' theirs' (found ++ waits_if e) i j
  gone_next = elim e.differs as (λ x. e.differs ≡ x → Gone a b done waiting path (Some e.key) mine' theirs' (found ++ cond x (e ∷ []) []) i j) [ true ↦ gone_with | false ↦ gone_without ] refl

-- ---- at its end

none_left : (m : KeyDigests) (path : List ℕ) (upto : Option (List ℕ)) → entries (keys_after m path upto) ≡ [] → (key : List ℕ) → IsTrue (is_under path key) → is_after upto key ≡ true → get m key ≡ None
none_left m path upto e key u h = sym (get-rest m path upto key ∙ ap (λ x. cond x (get m key) None) (λ i. u i && h i)) ∙ get-entries (keys_after m path upto) key ∙ ap (find (slice_cmp nat_cmp) key) e

-- all keys of the bucket that differ are found
pub gone_ends : (a b : States) (done : List Done) (waiting : List Entry) (path : List ℕ) (upto : Option (List ℕ)) (mine theirs : ListingValue) (found : List Entry) (i j : ℕ) → Gone a b done waiting path upto mine theirs found i j
    → (mine.0 ≡ [] → mine.1 ≡ false) → (theirs.0 ≡ [] → theirs.1 ≡ false) → mine.0 ≡ [] → theirs.0 ≡ [] → (key : Key) → IsTrue (is_under path key) → get (digests a) key ≢ get (digests b) key → IsIn (keys_next found) key
gone_ends a b done waiting path upto mine theirs found i j gone mine_more theirs_more p q key u differ =
    let first = gone.first.listed in
    let second = gone.second.listed in
    elim (is_after upto key) as (λ x. is_after upto key ≡ x → IsIn (keys_next found) key) [
      | false ↦ λ h. gone.all key u h differ
      | true ↦ λ h. absurd (differ (
          none_left (digests a) path upto (first.is ∙ (λ k. p k ++ first.ended (mine_more p) k)) key u h
          ∙ sym (none_left (digests b) path upto (second.is ∙ (λ k. q k ++ second.ended (theirs_more q) k)) key u h)))
    ] refl
