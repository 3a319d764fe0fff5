-- What a listing of a bucket knows of a key.
use Rattle.std.proofs.Common.{◌≡◌, ◌⊎◌, inl, inr, ℕ, ◌==◌, ◌&&◌, Bool, true, false, true≢false, cond, List, [], ◌∷◌, ◌++◌, length, take, drop, refl, sym, ap, subst, ◌∙◌, arith, Some, None, Option, length-drop}
use Rattle.std.specs.Prelude.{IsTrue, T, nat_lt}
use Rattle.std.specs.Cmp.{Equal-is, tied_itself}
use Rattle.std.specs.Cmp.Lexicographic.{slice_cmp, nat_list_cmp_total}
use Rattle.std.specs.FinMap.{entries, entries_sorted, find, get, get-entries, is_sorted}
use Rattle.std.specs.FinMap.Entries.{below_all}
use Rattle.std.specs.Ordering.{eq_by_cmp, is_lt, nat_cmp}
use Rattle.std.specs.declared.cmp.Ordering.{Ordering}
use Rattle.std.specs.declared.cmp.Ordering.TheVariants.{Equal, Greater, Less}
use Rattle.std.proofs.lemmas.Bool.{cases_lt, lt-ltb}
use Rattle.std.proofs.lemmas.Bool.Decides.{nat_tests}
use Rattle.std.proofs.lemmas.List.{take-append-drop}
use Rattle.mvd_keys.specs.Key.{key_cmp}
use Rattle.mvd_keys.specs.Writes.{Key}
use Rattle.mvd_tree.specs.HashTree.{is_under}
use Rattle.mvd_tree.specs.Page.{bucket_page, is_after, is_more_after_page, keys_after}
use Rattle.mvd_tree.proofs.KeyDigests.{got_each}
use Rattle.mvd_tree.proofs.Under.{keys_same}
use Rattle.mvd_tree.specs.States.{key_digest}
use Rattle.mvd_site.specs.Answer.{digests, spelled}
use Rattle.mvd_site.specs.Held.{AreHeld, States}
use Rattle.mvd_peer.specs.PushedStates.{Each}
use Rattle.mvd_sync.specs.Answers.{ListingValue, PageEntry, PageRises, StartsAfter, is_spent}
use Rattle.mvd_sync.proofs.Descents.{Each-take}
use Rattle.mvd_sync.proofs.Keys.{Each-weaker}
use Rattle.mvd_sync.proofs.Rest.{get-rest, lt-true}
use Rattle.mvd_sync.proofs.ToldPages.{page_from_first, told_page}
use Rattle.mvd_live.proofs.Moments.{AtMoment, Seen, digest_at, none_or_some, still_held}
use Rattle.mvd_live.proofs.Some.{AnyOf, any_cut, any_each, any_right}

-- the entry is the key's
abbrev pub IsEntryOf : Key → PageEntry → Type 0
IsEntryOf key e = e.0 ≡ key

-- it comes before the key
abbrev pub IsBefore : Key → PageEntry → Type 0
IsBefore key e = key_cmp e.0 key ≡ Less

-- a key had been held
abbrev pub WasHeldAt : States → Key → Type 0
WasHeldAt first key = get first key ≡ None → ⊥

-- WHAT A LISTING KNOWS of a key: its keys rise; what it tells of the key is the digest at a moment; and if the key had been
-- held at first it is among them, or comes after them all, and there are more
pub record Lists (moments : List States) (first last : States) (key : Key) (listing : ListingValue) : Type 0 where
  pub rises : PageRises None listing.0
  pub right : Each (λ e. IsEntryOf key e → AtMoment moments first last (λ held. get (digests held) key ≡ Some e.1)) listing.0
  pub whole : WasHeldAt first key → AnyOf (IsEntryOf key) listing.0 ⊎ ((listing.1 ≡ true) × Each (IsBefore key) listing.0)

-- ---- keys in order

not_itself : (key : Key) → key_cmp key key ≡ Less → ⊥
not_itself key less = let e : Equal ≡ Less = sym (tied_itself nat_list_cmp_total key) ∙ less in absurd (cc)

pub not_both : (k q : Key) → key_cmp k q ≡ Less → key_cmp q k ≡ Less → ⊥
not_both k q less more = not_itself k (nat_list_cmp_total.trans k q k less more)

pub rises_any : (after : Option Key) (page : List PageEntry) → PageRises after page → PageRises None page
rises_any after [] h = tt
rises_any after (e ∷ page) h = (refl, h.1)

-- keys that rise from after a key all come after it
pub all_after : (key : Key) (page : List PageEntry) → PageRises None page → StartsAfter key page → Each (λ e. key_cmp key e.0 ≡ Less) page
all_after key [] rises starts = tt
all_after key (e ∷ []) rises starts = (starts, tt)
all_after key (e ∷ (f ∷ page)) rises starts =
    let next : key_cmp key f.0 ≡ Less = nat_list_cmp_total.trans key e.0 f.0 starts (lt-true (key_cmp e.0 f.0) rises.1.0) in
    (starts, all_after key (f ∷ page) (refl, rises.1.1) next)

front : (x y : Bool) → T (x && y) → T x
front true y h = tt
front false y h = absurd h

back : (x y : Bool) → T (x && y) → T y
back true y h = h
back false y h = absurd h

-- among sorted entries those before that of a key come before it
below_any : (q key : Key) (es : List PageEntry) → T (below_all (slice_cmp nat_cmp) q es) → AnyOf (IsEntryOf key) es → key_cmp q key ≡ Less
below_any q key [] below never = absurd never
below_any q key (e ∷ es) below (inl here) = subst (λ k. key_cmp q k ≡ Less) here (less (key_cmp q e.0) (front (is_lt (key_cmp q e.0)) (below_all (slice_cmp nat_cmp) q es) below))
  where
    less : (o : Ordering) → T (is_lt o) → o ≡ Less
    less Less h = refl
    less Equal h = absurd h
    less Greater h = absurd h
below_any q key (e ∷ es) below (inr later) = below_any q key es (back (is_lt (key_cmp q e.0)) (below_all (slice_cmp nat_cmp) q es) below) later

before_any : (key : Key) (xs ys : List PageEntry) → T (is_sorted (slice_cmp nat_cmp) (xs ++ ys)) → AnyOf (IsEntryOf key) ys → Each (IsBefore key) xs
before_any key [] ys sorted some = tt
before_any key (x ∷ xs) ys sorted some = (
  below_any x.0 key (xs ++ ys) (front (below_all (slice_cmp nat_cmp) x.0 (xs ++ ys)) (is_sorted (slice_cmp nat_cmp) (xs ++ ys)) sorted) (any_right (IsEntryOf key) xs ys some),
  before_any key xs ys (back (below_all (slice_cmp nat_cmp) x.0 (xs ++ ys)) (is_sorted (slice_cmp nat_cmp) (xs ++ ys)) sorted) some,
)

-- what is found has an entry
found_any : (key : Key) (digest : List ℕ) (es : List PageEntry) → find (slice_cmp nat_cmp) key es ≡ Some digest → AnyOf (IsEntryOf key) es
found_any key digest [] found = absurd (cc)
found_any key digest (e ∷ es) found = elim (eq_by_cmp (slice_cmp nat_cmp) key e.0) as (λ b. eq_by_cmp (slice_cmp nat_cmp) key e.0 ≡ b → cond b (Some e.1) (find (slice_cmp nat_cmp) key es) ≡ Some digest → AnyOf (IsEntryOf key) (e ∷ es)) [
  | true ↦ λ tie _. inl (sym (keys_same key e.0 ((Equal-is _).0 tie)))
  | false ↦ λ _ rest. inr (found_any key digest es rest)
] refl found

-- what is left of a bucket is of it
pub of_whole : (u h : Bool) (o : Option (List ℕ)) (digest : List ℕ) → cond (u && h) o None ≡ Some digest → o ≡ Some digest
of_whole true true o digest e = e
of_whole true false o digest e = absurd (cc)
of_whole false h o digest e = absurd (cc)

-- ---- a page

no_entries : (xs : List PageEntry) → length xs ≡ 0 → xs ≡ []
no_entries [] h = refl
no_entries (x ∷ xs) h = absurd (omega (arith, h))

some_left : (es : List PageEntry) (key : Key) → AnyOf (IsEntryOf key) (drop 1000 es) → nat_lt 1000 (length es) ≡ true
some_left es key some = elim (cases_lt 1000 (length es)) [
  | inl less ↦ lt-ltb 1000 (length es) less
  | inr low ↦ absurd (subst (AnyOf (IsEntryOf key)) (no_entries (drop 1000 es) (let n = length-drop 1000 es in omega (arith, n, low))) some)
]

module _ (moments : List States) (first last : States) (key : Key) (form : AreHeld first) where
  -- A PAGE that was told at a moment, of a bucket over the key
  pub page_lists : (held : States) → Seen moments first last held → (path : List ℕ) (after : Option Key) (page : List PageEntry) (more : Bool) → page ≡ bucket_page (digests held) path after → more ≡ is_more_after_page (digests held) path after
      → IsTrue (is_under path key) → (WasHeldAt first key → is_after after key ≡ true) → Lists moments first last key (page, more)
  page_lists held seen path after page more p m under later =
      let at = keys_after (digests held) path after in
      let es = entries at in
      let got : Each (λ e. get at e.0 ≡ Some e.1) es = got_each nat_list_cmp_total at in
      let told : Each (λ (e : PageEntry). IsEntryOf key e → AtMoment moments first last (λ held. get (digests held) key ≡ Some e.1)) es =
      Each-weaker (λ e. get at e.0 ≡ Some e.1) (λ e. IsEntryOf key e → AtMoment moments first last (λ held. get (digests held) key ≡ Some e.1))
      (λ e is same. (held, seen, of_whole (is_under path key) (is_after after key) (get (digests held) key) e.1 (sym (get-rest (digests held) path after key) ∙ ap (get at) (sym same) ∙ is))) es got in
      record {
        rises = (page_from_first after page more (told_page (digests held) path after page more p m)).rises;
        right = subst (Each (λ (e : PageEntry). IsEntryOf key e → AtMoment moments first last (λ held. get (digests held) key ≡ Some e.1))) (sym p) (Each-take (λ (e : PageEntry). IsEntryOf key e → AtMoment moments first last (λ held. get (digests held) key ≡ Some e.1)) 1000 es told);
        whole = λ was. elim (none_or_some (get held key)) [
          | inl none ↦ absurd (still_held first held key form seen.form seen.since was none)
          | inr some ↦
              let digest = digest_at held key some.0 some.1 in
              let inside : get at key ≡ Some (key_digest spelled key some.0) = get-rest (digests held) path after key ∙ (λ i. cond (under i && later was i) (get (digests held) key) None) ∙ digest in
              let here : AnyOf (IsEntryOf key) es = found_any key (key_digest spelled key some.0) es (sym (get-entries at key) ∙ inside) in
              elim (any_cut (IsEntryOf key) 1000 es here) [
                | inl now ↦ inl (subst (AnyOf (IsEntryOf key)) (sym p) now)
                | inr rest ↦ inr (
                  m ∙ some_left es key rest,
                  subst (Each (IsBefore key)) (sym p) (before_any key (take 1000 es) (drop 1000 es) (subst (λ xs. T (is_sorted (slice_cmp nat_cmp) xs)) (sym (take-append-drop 1000 es)) (entries_sorted at)) rest),
                )
              ]
        ];
      }

  -- a page is not spent
  pub page_unspent : (held : States) (path : List ℕ) (after : Option Key) (page : List PageEntry) (more : Bool) → page ≡ bucket_page (digests held) path after → more ≡ is_more_after_page (digests held) path after → is_spent (page, more) ≡ false
  page_unspent held path after page more p m = unspent page more (told_page (digests held) path after page more p m).ended
    where
      unspent : (page : List PageEntry) (more : Bool) → (page ≡ [] → more ≡ false) → ((length page == 0) && more) ≡ false
      unspent [] more ended = ended refl
      unspent (e ∷ page) more ended = elim ((length (e ∷ page)) == 0) as (λ b. (length (e ∷ page) == 0) ≡ b → (b && more) ≡ false) [
        | false ↦ λ _. refl
        | true ↦ λ zero. absurd (grind (arith, nat_tests))
      ] refl

  -- ---- one key of it

  -- a listing that has the key first tells its digest at a moment; if not, it is of no key before it
  pub not_listed : (listing : ListingValue) → Lists moments first last key listing → is_spent listing ≡ false → StartsAfter key listing.0 → get first key ≡ None
  not_listed listing lists full starts = elim (none_or_some (get first key)) [
    | inl none ↦ none
    | inr some ↦ elim (lists.whole (λ none. let e = some.1 in absurd (cc))) [
      | inl here ↦ absurd (any_each (IsEntryOf key) (λ e. key_cmp key e.0 ≡ Less) ⊥ (λ e is less. not_itself key (subst (λ k. key_cmp key k ≡ Less) is less)) listing.0 here (all_after key listing.0 lists.rises starts))
      | inr later ↦ absurd (never listing.0 listing.1 full later.0 later.1 starts)
    ]
  ]
    where
      never : (page : List PageEntry) (more : Bool) → ((length page == 0) && more) ≡ false → more ≡ true → Each (IsBefore key) page → StartsAfter key page → ⊥
      never [] more full on before starts = true≢false (sym on ∙ full)
      never (e ∷ page) more full on before starts = not_both key e.0 starts before.0

  -- nothing is left of it, so the key had not been held
  pub none_listed : (listing : ListingValue) → Lists moments first last key listing → is_spent listing ≡ false → listing.0 ≡ [] → get first key ≡ None
  none_listed listing lists full none = not_listed listing lists full (subst (StartsAfter key) (sym none) tt)

  -- the rest of it, behind another key
  pub rest_lists : (listing : ListingValue) (x : PageEntry) (page : List PageEntry) → Lists moments first last key listing → listing.0 ≡ x ∷ page → (x.0 ≡ key → ⊥) → Lists moments first last key (page, listing.1)
  rest_lists listing x page lists is other = record {
    rises = rises_any (Some x.0) page (subst (PageRises None) is lists.rises).1;
    right = (subst (Each (λ (e : PageEntry). IsEntryOf key e → AtMoment moments first last (λ held. get (digests held) key ≡ Some e.1))) is lists.right).1;
    whole = λ was. elim (lists.whole was) [
      | inl here ↦ elim (subst (AnyOf (IsEntryOf key)) is here) [ inl now ↦ absurd (other now) | inr later ↦ inl later ]
      | inr after ↦ inr (after.0, (subst (Each (IsBefore key)) is after.1).1)
    ];
  }

  -- and if that is spent, the key comes after what was taken
  pub rest_after : (listing : ListingValue) (x : PageEntry) (page : List PageEntry) → Lists moments first last key listing → listing.0 ≡ x ∷ page → (x.0 ≡ key → ⊥) → is_spent (page, listing.1) ≡ true → WasHeldAt first key → key_cmp x.0 key ≡ Less
  rest_after listing x page lists is other spent was = elim (lists.whole was) [
    | inl here ↦ elim (subst (AnyOf (IsEntryOf key)) is here) [ inl now ↦ absurd (other now) | inr later ↦ absurd (none page listing.1 spent later) ]
    | inr after ↦ (subst (Each (IsBefore key)) is after.1).0
  ]
    where
      none : (page : List PageEntry) (more : Bool) → ((length page == 0) && more) ≡ true → AnyOf (IsEntryOf key) page → ⊥
      none [] more spent never = never
      none (e ∷ page) more spent some = grind (arith, nat_tests)
