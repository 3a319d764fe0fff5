-- The walk over the buckets: a key of one that was held at first is taken at last.
use Rattle.std.proofs.Common.{◌≡◌, ◌⊎◌, inl, inr, ℕ, Bool, true, false, true≢false, cond, List, [], ◌∷◌, map, take, refl, sym, ap, subst, ◌∙◌, Some, None, Option}
use Rattle.std.specs.Prelude.{IsTrue, Ok}
use Rattle.std.specs.FinMap.{get}
use Rattle.std.specs.Ordering.{is_lt}
use Rattle.std.specs.declared.cmp.Ordering.TheVariants.{Less}
use Rattle.mvd_keys.specs.Key.{key_cmp}
use Rattle.mvd_keys.specs.Writes.{Key}
use Rattle.mvd_tree.specs.HashTree.{is_under}
use Rattle.mvd_tree.specs.Page.{is_after}
use Rattle.mvd_site.specs.Answer.{digests}
use Rattle.mvd_site.specs.Held.{AreHeld, States}
use Rattle.mvd_peer.specs.PushedStates.{Each}
use Rattle.mvd_peer.specs.Sides.{two}
use Rattle.mvd_peer.specs.Windows.{ForEach}
use Rattle.mvd_sync.specs.Answers.{ListingValue, PageEntry, StartsAfter, TakesLesser, is_spent, of_both, of_first, of_second}
use Rattle.mvd_sync.specs.Tellings.{IsListingOf, Page}
use Rattle.mvd_sync.specs.Walking.{GoesTo, IsTold, IsWalked, TakesNext, Walking, WantsPage, closes, ends, fills, first_page, filled, filled_both, is_asked, moves, opened_buckets, opens, pages_next, pages_of, tells, waits}
use Rattle.mvd_peer.specs.Asking.{PageQuestion}
use Rattle.mvd_sync.specs.declared.cursor.Entry.{Entry}
use Rattle.mvd_sync.specs.declared.report.Side.TheVariants.{Local as AtLocal, Peer as AtPeer}
use Rattle.mvd_sync.specs.declared.walking.Bucket.{Bucket}
use Rattle.mvd_sync.proofs.Paging.{mine_asked, theirs_asked}
use Rattle.mvd_live.specs.Told.{PageTold}
use Rattle.mvd_live.specs.Lives.{TellApart}
use Rattle.mvd_live.proofs.Moments.{AtMoment, Frame, Had, digests_had, nothing_had, same_or_not}
use Rattle.mvd_live.proofs.Pages.{IsEntryOf, Lists, WasHeldAt, none_listed, not_listed, page_lists, page_unspent, rest_after, rest_lists}
use Rattle.mvd_live.proofs.Some.{AnyOf, any_cut}

-- A KEY THAT WAS TAKEN: a side whose page did not tell it had not held it at first; where its digests were equal, both have
-- what either had
pub record Fits (f : Frame) (key : Key) (e : Entry) : Type 0 where
  pub is : e.key ≡ key
  pub mine : e.mine ≡ false → get f.a key ≡ None
  pub theirs : e.theirs ≡ false → get f.b key ≡ None
  pub same : e.differs ≡ false → Had f key

abbrev pub Mine : Frame → Key → ListingValue → Type 0
Mine f key listing = Lists f.locals f.a f.a' key listing

abbrev pub Theirs : Frame → Key → ListingValue → Type 0
Theirs f key listing = Lists f.peers f.b f.b' key listing

-- a bucket over the key, whose listings know of it
pub record Knows (f : Frame) (key : Key) (b : Bucket) : Type 0 where
  pub under : IsTrue (is_under b.path key)
  pub mine : Mine f key b.mine
  pub theirs : Theirs f key b.theirs

-- neither of its listings is spent
abbrev pub IsOpen : Bucket → Type 0
IsOpen b = (is_spent b.mine ≡ false) × (is_spent b.theirs ≡ false)

-- after a listing that is spent the key comes after this one, if it had been held
pub record IsAfter (f : Frame) (key : Key) (b : Bucket) (e : Entry) : Type 0 where
  pub mine : is_spent b.mine ≡ true → WasHeldAt f.a key → key_cmp e.key key ≡ Less
  pub theirs : is_spent b.theirs ≡ true → WasHeldAt f.b key → key_cmp e.key key ≡ Less

abbrev pub Stays : Frame → Key → Bucket → Type 0
Stays f key b = Knows f key b × IsOpen b

-- THE KEY IS STILL TO BE TAKEN: its bucket is left, or the first pages of it were told, or it is gone over; or it was taken,
-- and waits for a page
pub data InWalk (f : Frame) (key : Key) (w : Walking) : Type 0 where
  at_rest : AnyOf (λ path. IsTrue (is_under path key)) w.rest → InWalk f key w
  at_later : (b : Bucket) → w.bucket ≡ Some b → AnyOf (Stays f key) w.later → InWalk f key w
  at_bucket : (b : Bucket) → w.bucket ≡ Some b → w.entry ≡ None → Stays f key b → InWalk f key w
  at_page : (b : Bucket) (e : Entry) → w.bucket ≡ Some b → w.entry ≡ Some e → Knows f key b → IsAfter f key b e → InWalk f key w
  at_entry : (b : Bucket) (e : Entry) → w.bucket ≡ Some b → w.entry ≡ Some e → Fits f key e → InWalk f key w

-- it was found
abbrev pub IsFound : Frame → Key → Option Entry → Type 0
IsFound f key found = (e : Entry) × (found ≡ Some e) × Fits f key e

is_false : (x : Bool) → (x ≡ true → ⊥) → x ≡ false
is_false true never = absurd (never refl)
is_false false never = refl

-- the same listing, in its parts
module _ (moments : List States) (first last : States) (key : Key) where
  lists_as : (l l' : ListingValue) → l.0 ≡ l'.0 → l.1 ≡ l'.1 → Lists moments first last key l → Lists moments first last key l'
  lists_as l l' page more lists = subst (Lists moments first last key) (λ i. (page i, more i)) lists

spent_as : (l l' : ListingValue) (b : Bool) → l.0 ≡ l'.0 → l.1 ≡ l'.1 → is_spent l ≡ b → is_spent l' ≡ b
spent_as l l' b page more is = subst (λ (l : ListingValue). is_spent l ≡ b) (λ i. (page i, more i)) is

-- ---- the next key of a bucket

module _ (f : Frame) (apart : TellApart f.locals f.peers) (key : Key) where
  -- a side whose first key was taken
  module _ (moments : List States) (first last : States) (form : AreHeld first) (e : Entry) (l l' : ListingValue) (x : PageEntry) (lists : Lists moments first last key l)
      (is : l.0 ≡ x ∷ l'.0) (more : l'.1 ≡ l.1) (same : e.key ≡ x.0) (other : x.0 ≡ key → ⊥) where
    took_lists : Lists moments first last key l'
    took_lists = lists_as moments first last key (l'.0, l.1) l' refl (sym more) (rest_lists moments first last key form l x l'.0 lists is other)

    took_after : is_spent l' ≡ true → WasHeldAt first key → key_cmp e.key key ≡ Less
    took_after spent was = subst (λ k. key_cmp k key ≡ Less) (sym same) (rest_after moments first last key form l x l'.0 lists is other (spent_as l' (l'.0, l.1) true refl more spent) was)

  -- and one whose was not
  left_after : (first : States) (e : Entry) (l l' : ListingValue) → l.0 ≡ l'.0 → l'.1 ≡ l.1 → is_spent l ≡ false → is_spent l' ≡ true → WasHeldAt first key → key_cmp e.key key ≡ Less
  left_after first e l l' page more unspent spent was = absurd (true≢false (sym spent ∙ spent_as l l' false page (sym more) unspent))

  pub next_key : (b b' : Bucket) (e : Entry) → TakesNext b e b' → Stays f key b → Fits f key e ⊎ (Knows f key b' × IsAfter f key b' e)
  next_key b b' e takes s = by takes.takes
    where
      k : Knows f key b
      k = s.0

      under : IsTrue (is_under b'.path key)
      under = subst (λ path. IsTrue (is_under path key)) (sym takes.path) k.under

      by : TakesLesser (two b.mine.0 b.theirs.0) e (two b'.mine.0 b'.theirs.0) → Fits f key e ⊎ (Knows f key b' × IsAfter f key b' e)
      by (of_first x is same at mine_is theirs_is sure starts) = elim (same_or_not x.0 key) [
        | inl here ↦ inl (record {
          is = at ∙ here;
          mine = λ no. absurd (true≢false (sym mine_is ∙ no));
          theirs = λ _. not_listed f.peers f.b f.b' key f.fb b.theirs k.theirs s.1.1 (subst (λ k. StartsAfter k b.theirs.0) (at ∙ here) starts);
          same = λ no. absurd (true≢false (sym sure ∙ no));
        })
        | inr other ↦ inr (
          record {
            under = under;
            mine = took_lists f.locals f.a f.a' f.fa e b.mine b'.mine x k.mine is takes.more.0 at other;
            theirs = lists_as f.peers f.b f.b' key b.theirs b'.theirs same (sym takes.more.1) k.theirs;
          },
          record {
            mine = took_after f.locals f.a f.a' f.fa e b.mine b'.mine x k.mine is takes.more.0 at other;
            theirs = left_after f.b e b.theirs b'.theirs same takes.more.1 s.1.1;
          },
        )
      ]
      by (of_second y same is at mine_is theirs_is sure starts) = elim (same_or_not y.0 key) [
        | inl here ↦ inl (record {
          is = at ∙ here;
          mine = λ _. not_listed f.locals f.a f.a' key f.fa b.mine k.mine s.1.0 (subst (λ k. StartsAfter k b.mine.0) (at ∙ here) starts);
          theirs = λ no. absurd (true≢false (sym theirs_is ∙ no));
          same = λ no. absurd (true≢false (sym sure ∙ no));
        })
        | inr other ↦ inr (
          record {
            under = under;
            mine = lists_as f.locals f.a f.a' key b.mine b'.mine same (sym takes.more.0) k.mine;
            theirs = took_lists f.peers f.b f.b' f.fb e b.theirs b'.theirs y k.theirs is takes.more.1 at other;
          },
          record {
            mine = left_after f.a e b.mine b'.mine same takes.more.0 s.1.0;
            theirs = took_after f.peers f.b f.b' f.fb e b.theirs b'.theirs y k.theirs is takes.more.1 at other;
          },
        )
      ]
      by (of_both x y is is' at at' mine_is theirs_is differ) = elim (same_or_not x.0 key) [
        | inl here ↦ inl (record {
          is = at ∙ here;
          mine = λ no. absurd (true≢false (sym mine_is ∙ no));
          theirs = λ no. absurd (true≢false (sym theirs_is ∙ no));
          same = λ no.
              let m = (subst (Each (λ (e : PageEntry). IsEntryOf key e → AtMoment f.locals f.a f.a' (λ held. get (digests held) key ≡ Some e.1))) is k.mine.right).0 here in
              let t = (subst (Each (λ (e : PageEntry). IsEntryOf key e → AtMoment f.peers f.b f.b' (λ held. get (digests held) key ≡ Some e.1))) is' k.theirs.right).0 (sym at' ∙ at ∙ here) in
              elim (same_or_not x.1 y.1) [
                | inl equal ↦ digests_had f key apart m.0 t.0 m.1 t.1 (m.2 ∙ ap Some equal ∙ sym t.2)
                | inr unequal ↦ absurd (true≢false (sym (differ.1 unequal) ∙ no))
              ];
        })
        | inr other ↦
            let other' : y.0 ≡ key → ⊥ = λ e. other (sym at ∙ at' ∙ e) in
            inr (
              record {
                under = under;
                mine = took_lists f.locals f.a f.a' f.fa e b.mine b'.mine x k.mine is takes.more.0 at other;
                theirs = took_lists f.peers f.b f.b' f.fb e b.theirs b'.theirs y k.theirs is' takes.more.1 at' other';
              },
              record {
                mine = took_after f.locals f.a f.a' f.fa e b.mine b'.mine x k.mine is takes.more.0 at other;
                theirs = took_after f.peers f.b f.b' f.fb e b.theirs b'.theirs y k.theirs is' takes.more.1 at' other';
              },
            )
      ]

  -- ---- without a question

  not_quiet : (w : Walking) (b : Bucket) (e : Entry) → w.bucket ≡ Some b → w.entry ≡ Some e → pages_next w.bucket w.entry w.rest ≡ [] → ⊥
  not_quiet w b e some waited quiet = subst is_any ((λ i. pages_next (sym some i) (sym waited i) w.rest) ∙ quiet) tt
    where
      is_any : List PageQuestion → Type 0
      is_any [] = ⊥
      is_any (q ∷ qs) = Unit {0}

  open_of : (b : Bucket) → (WantsPage b → ⊥) → IsOpen b
  open_of b full = (is_false (is_spent b.mine) (λ yes. full (inl yes)), is_false (is_spent b.theirs) (λ yes. full (inr yes)))

  -- THE WALK GOES ON without a question: the key is still to be taken, or was found; or neither side had held it
  pub walk_goes : (w w' : Walking) (found : Option Entry) → pages_next w.bucket w.entry w.rest ≡ [] → GoesTo w found w' → InWalk f key w → Had f key ⊎ (InWalk f key w' ⊎ IsFound f key found)
  walk_goes w w' found quiet goes (at_page b e some waited knows after) = absurd (not_quiet w b e some waited quiet)
  walk_goes w w' found quiet goes (at_entry b e some waited fits) = absurd (not_quiet w b e some waited quiet)
  walk_goes w w' found quiet (tells b b' e some takes full told is) (at_rest rest) = inr (inl (subst (InWalk f key) (sym is) (at_rest rest)))
  walk_goes w w' found quiet (waits b b' e some takes wants told is) (at_rest rest) = inr (inl (subst (InWalk f key) (sym is) (at_rest rest)))
  walk_goes w w' found quiet (closes b some none none' told (moves c later more is)) (at_rest rest) = inr (inl (subst (InWalk f key) (sym is) (at_rest rest)))
  walk_goes w w' found quiet (closes b some none none' told (ends no_more is)) (at_rest rest) = inr (inl (subst (InWalk f key) (sym is) (at_rest rest)))
  walk_goes w w' found quiet (tells b b' e some takes full told is) (at_later c one any) = inr (inl (subst (InWalk f key) (sym is) (at_later b' refl any)))
  walk_goes w w' found quiet (waits b b' e some takes wants told is) (at_later c one any) = inr (inl (subst (InWalk f key) (sym is) (at_later b' refl any)))
  walk_goes w w' found quiet (closes b some none none' told (moves c later more is)) (at_later d one any) =
      elim (subst (AnyOf (Stays f key)) more any) [
        | inl here ↦ inr (inl (subst (InWalk f key) (sym is) (at_bucket c refl refl here)))
        | inr rest ↦ inr (inl (subst (InWalk f key) (sym is) (at_later c refl rest)))
      ]
  walk_goes w w' found quiet (closes b some none none' told (ends no_more is)) (at_later d one any) = absurd (subst (AnyOf (Stays f key)) no_more any)
  walk_goes w w' found quiet (tells b b' e some takes full told is) (at_bucket c one unasked stays) =
      let same : c ≡ b = cc in
      elim (next_key b b' e takes (subst (Stays f key) same stays)) [
        | inl fits ↦ inr (inr (e, told, fits))
        | inr on ↦ inr (inl (subst (InWalk f key) (sym is) (at_bucket b' refl unasked (on.0, open_of b' full))))
      ]
  walk_goes w w' found quiet (waits b b' e some takes wants told is) (at_bucket c one unasked stays) =
      let same : c ≡ b = cc in
      elim (next_key b b' e takes (subst (Stays f key) same stays)) [
        | inl fits ↦ inr (inl (subst (InWalk f key) (sym is) (at_entry b' e refl refl fits)))
        | inr on ↦ inr (inl (subst (InWalk f key) (sym is) (at_page b' e refl refl on.0 on.1)))
      ]
  walk_goes w w' found quiet (closes b some none none' told closed) (at_bucket c one unasked stays) =
      let same : c ≡ b = cc in
      let s = subst (Stays f key) same stays in
      inl (nothing_had f key (none_listed f.locals f.a f.a' key f.fa b.mine s.0.mine s.1.0 none) (none_listed f.peers f.b f.b' key f.fb b.theirs s.0.theirs s.1.1 none'))

  -- all buckets are gone over, and the key is in none
  pub walk_ends : (w : Walking) → IsWalked w → InWalk f key w → ⊥
  walk_ends w walked (at_rest rest) = subst (AnyOf (λ path. IsTrue (is_under path key))) walked.1 rest
  walk_ends w walked (at_later b some any) = let e : None ≡ Some b = sym walked.0 ∙ some in absurd (cc)
  walk_ends w walked (at_bucket b some unasked stays) = let e : None ≡ Some b = sym walked.0 ∙ some in absurd (cc)
  walk_ends w walked (at_page b x some waited knows after) = let e : None ≡ Some b = sym walked.0 ∙ some in absurd (cc)
  walk_ends w walked (at_entry b x some waited fits) = let e : None ≡ Some b = sym walked.0 ∙ some in absurd (cc)

-- ---- with what both sides told

-- a page as a side told it at a moment
abbrev pub PageAt : List States → States → States → PageQuestion → ListingValue → Type 0
PageAt moments first last q listing = (page : Page) × AtMoment moments first last (λ held. PageTold held q (Ok page)) × IsListingOf page listing

module _ (moments : List States) (first last : States) (key : Key) (form : AreHeld first) where
  told_lists : (path : List ℕ) (after : Option Key) (listing : ListingValue) → PageAt moments first last (path, after) listing → IsTrue (is_under path key) → (WasHeldAt first key → is_after after key ≡ true)
      → Lists moments first last key listing × (is_spent listing ≡ false)
  told_lists path after listing p under later =
      let page = ap (λ (l : ListingValue). l.0) p.2.0 ∙ p.1.2.0 in
      let more = ap (λ (l : ListingValue). l.1) p.2.0 ∙ p.1.2.1 in (
        page_lists moments first last key form p.1.0 p.1.1 path after listing.0 listing.1 page more under later,
        page_unspent moments first last key form p.1.0 path after listing.0 listing.1 page more,
      )

  -- the next page, if the listing was spent
  filled_lists : (spent : Bool) (path : List ℕ) (last_key : Key) (listing : ListingValue) (pages : List ListingValue) → is_spent listing ≡ spent → ForEach (PageAt moments first last) (cond spent ((path, Some last_key) ∷ []) []) pages
      → IsTrue (is_under path key) → Lists moments first last key listing → (is_spent listing ≡ true → WasHeldAt first key → key_cmp last_key key ≡ Less) → Lists moments first last key (filled listing pages) × (is_spent (filled listing pages) ≡ false)
  filled_lists false path last_key listing [] is told under lists after = (lists, is)
  filled_lists false path last_key listing (page ∷ pages) is told under lists after = absurd told
  filled_lists true path last_key listing [] is told under lists after = absurd told
  filled_lists true path last_key listing (page ∷ pages) is told under lists after = told_lists path (Some last_key) page told.0 under (λ was. ap is_lt (after is was))

module _ (f : Frame) (key : Key) where
  opened_any : (paths : List (List ℕ)) (mine theirs : List ListingValue) → ForEach (PageAt f.locals f.a f.a') (map first_page paths) mine → ForEach (PageAt f.peers f.b f.b') (map first_page paths) theirs → AnyOf (λ path. IsTrue (is_under path key)) paths
      → AnyOf (Stays f key) (opened_buckets (map first_page paths) mine theirs)
  opened_any [] mine theirs p q never = absurd never
  opened_any (path ∷ paths) [] theirs p q some = absurd p
  opened_any (path ∷ paths) (m ∷ mine) [] p q some = absurd q
  opened_any (path ∷ paths) (m ∷ mine) (t ∷ theirs) p q (inl here) =
      let x = told_lists f.locals f.a f.a' key f.fa path None m p.0 here (λ _. refl) in
      let y = told_lists f.peers f.b f.b' key f.fb path None t q.0 here (λ _. refl) in
      inl (record { under = here; mine = x.0; theirs = y.0 }, (x.1, y.1))
  opened_any (path ∷ paths) (m ∷ mine) (t ∷ theirs) p q (inr later) = inr (opened_any paths mine theirs p.1 q.1 later)

  -- THE PAGES WERE TOLD: the key is still to be taken, or was found
  pub walk_told : (w w' : Walking) (mine theirs : List ListingValue) (found : Option Entry) → ForEach (PageAt f.locals f.a f.a') (pages_of AtLocal w) mine → ForEach (PageAt f.peers f.b f.b') (pages_of AtPeer w) theirs → IsTold w mine theirs found w'
      → InWalk f key w → InWalk f key w' ⊎ IsFound f key found
  walk_told w w' mine theirs found p q (opens b later none all told is) (at_rest rest) =
      elim (any_cut (λ path. IsTrue (is_under path key)) 64 w.rest rest) [
        | inl next ↦
            let asked : (map first_page (take 64 w.rest)) ≡ pages_of AtLocal w = λ i. cond (is_asked AtLocal (sym none i)) (pages_next (sym none i) w.entry w.rest) [] in
            let asked' : (map first_page (take 64 w.rest)) ≡ pages_of AtPeer w = λ i. cond (is_asked AtPeer (sym none i)) (pages_next (sym none i) w.entry w.rest) [] in
            let any = opened_any (take 64 w.rest) mine theirs (subst (λ qs. ForEach (PageAt f.locals f.a f.a') qs mine) (sym asked) p) (subst (λ qs. ForEach (PageAt f.peers f.b f.b') qs theirs) (sym asked') q) next in
            elim (subst (AnyOf (Stays f key)) all any) [
              | inl here ↦ inl (subst (InWalk f key) (sym is) (at_bucket b refl refl here))
              | inr more ↦ inl (subst (InWalk f key) (sym is) (at_later b refl more))
            ]
        | inr more ↦ inl (subst (InWalk f key) (sym is) (at_rest more))
      ]
  walk_told w w' mine theirs found p q (opens b later none all told is) (at_later c some any) = let e : None ≡ Some c = sym none ∙ some in absurd (cc)
  walk_told w w' mine theirs found p q (opens b later none all told is) (at_bucket c some unasked stays) = let e : None ≡ Some c = sym none ∙ some in absurd (cc)
  walk_told w w' mine theirs found p q (opens b later none all told is) (at_page c x some waited knows after) = let e : None ≡ Some c = sym none ∙ some in absurd (cc)
  walk_told w w' mine theirs found p q (opens b later none all told is) (at_entry c x some waited fits) = let e : None ≡ Some c = sym none ∙ some in absurd (cc)
  walk_told w w' mine theirs found p q (fills b e some waited after after' told is) (at_rest rest) = inl (subst (InWalk f key) (sym is) (at_rest rest))
  walk_told w w' mine theirs found p q (fills b e some waited after after' told is) (at_later c one any) = inl (subst (InWalk f key) (sym is) (at_later (filled_both b mine theirs) refl any))
  walk_told w w' mine theirs found p q (fills b e some waited after after' told is) (at_bucket c one unasked stays) = let x : None ≡ Some e = sym unasked ∙ waited in absurd (cc)
  walk_told w w' mine theirs found p q (fills b e some waited after after' told is) (at_entry c x one waited' fits) =
      let same : x ≡ e = cc in
      inr (e, told, subst (Fits f key) same fits)
  walk_told w w' mine theirs found p q (fills b e some waited after after' told is) (at_page c x one waited' knows behind) =
      let same : c ≡ b = cc in
      let same' : x ≡ e = cc in
      let k = subst (Knows f key) same knows in
      let h = subst (λ (y : Entry). IsAfter f key b y) same' (subst (λ (c : Bucket). IsAfter f key c x) same behind) in
      let m = filled_lists f.locals f.a f.a' key f.fa (is_spent b.mine) b.path e.key b.mine mine refl (subst (λ qs. ForEach (PageAt f.locals f.a f.a') qs mine) (mine_asked w b e some waited) p) k.under k.mine h.mine in
      let t = filled_lists f.peers f.b f.b' key f.fb (is_spent b.theirs) b.path e.key b.theirs theirs refl (subst (λ qs. ForEach (PageAt f.peers f.b f.b') qs theirs) (theirs_asked w b e some waited) q) k.under k.theirs h.theirs in
      inl (subst (InWalk f key) (sym is) (at_bucket (filled_both b mine theirs) refl refl (record { under = k.under; mine = m.0; theirs = t.0 }, (m.1, t.1))))
