-- The walk over the buckets takes no key twice, and each that differs counts.
use Rattle.std.proofs.Common.{◌≡◌, ℕ, Bool, true, false, true≢false, cond, ◌||◌, List, [], ◌∷◌, ◌++◌, map, take, drop, length, refl, sym, ap, subst, ◌∙◌, Some, None, Option, option_map}
use Rattle.std.specs.Prelude.{IsTrue}
use Rattle.std.specs.Cmp.{tied_itself}
use Rattle.std.specs.Cmp.Lexicographic.{slice_cmp, nat_list_cmp_total}
use Rattle.std.specs.FinMap.{entries, get}
use Rattle.std.specs.Ordering.{eq_by_cmp, is_lt, nat_cmp}
use Rattle.std.proofs.lemmas.List.{take-append-drop}
use Rattle.std.proofs.lemmas.List.Folds.{list_any-append}
use Rattle.mvd_keys.specs.Writes.{Key}
use Rattle.mvd_tree.specs.HashTree.{is_under, path_of_key}
use Rattle.mvd_tree.specs.Page.{is_after, keys_after}
use Rattle.mvd_tree.specs.States.{key_digest}
use Rattle.mvd_tree.proofs.KeyDigests.{get-digests_of, got_each}
use Rattle.mvd_site.specs.Answer.{digests, spelled}
use Rattle.mvd_site.specs.Held.{AreHeld, States}
use Rattle.mvd_peer.specs.PushedStates.{Each}
use Rattle.mvd_peer.specs.Windows.{ForEach}
use Rattle.mvd_sync.proofs.Readings.{IsListing}
use Rattle.mvd_sync.specs.Answers.{ListingValue, PageEntry, is_spent}
use Rattle.mvd_sync.proofs.Exchanges.{keys_next}
use Rattle.mvd_sync.proofs.Walk.{has_below}
use Rattle.mvd_sync.specs.Session.{AreDistinct, IsIn, is_member}
use Rattle.mvd_sync.specs.Walking.{TakesNext, Walking, first_page, filled, opened_buckets}
use Rattle.mvd_sync.specs.declared.cursor.Entry.{Entry}
use Rattle.mvd_sync.specs.declared.walking.Bucket.{Bucket}
use Rattle.mvd_sync.proofs.Descents.{Each-right}
use Rattle.mvd_sync.proofs.Gone.{IsPast}
use Rattle.mvd_sync.proofs.Keys.{Each-weaker, no_member, or_left, or_right}
use Rattle.mvd_sync.proofs.Nodes.{AreLong, begins-one}
use Rattle.mvd_sync.proofs.Pages.{fresh_listing}
use Rattle.mvd_sync.proofs.Paging.{unspent_is}
use Rattle.mvd_sync.proofs.Rest.{Heads, after_trans, at_head, get-rest, heads, left_after, lt-true}
use Rattle.mvd_peer.proofs.Pushes.{tied}
use Rattle.mvd_live.specs.Few.{HasAllThatDiffered}
use Rattle.mvd_live.proofs.Buckets.{IsOpen, PageAt}
use Rattle.mvd_live.proofs.Moments.{Frame, Seen, digests_same}
use Rattle.mvd_live.proofs.Pages.{of_whole, page_unspent}
use Rattle.mvd_live.proofs.Parts.{distinct_last}

-- ---- listings

-- A listing of a bucket is what a side held of it at a moment, after a key
pub record ListedAt (moments : List States) (first last : States) (path : List ℕ) (upto : Option Key) (listing : ListingValue) : Type 0 where
  pub held : States
  pub seen : Seen moments first last held
  pub is : IsListing (digests held) path upto listing.0 listing.1

-- both listings of a bucket
pub record AtTwo (f : Frame) (b : Bucket) (upto : Option Key) : Type 0 where
  pub mine : ListedAt f.locals f.a f.a' b.path upto b.mine
  pub theirs : ListedAt f.peers f.b f.b' b.path upto b.theirs

-- a bucket of which the first pages were told
abbrev pub IsFresh : Frame → Bucket → Type 0
IsFresh f b = AtTwo f b None × IsOpen b

-- what is so of the bucket that is gone over: up to a key it was, and where one waits for a page, up to that
abbrev pub StandsNow : Frame → Option Bucket → Option Entry → Option Key → Type 0
StandsNow f None entry upto = Unit {0}
StandsNow f (Some b) None upto = AtTwo f b upto × IsOpen b
StandsNow f (Some b) (Some e) upto = AtTwo f b upto × (upto ≡ Some e.key)

-- ---- paths

abbrev pub paths_now : Option Bucket → List (List ℕ)
paths_now None = []
paths_now (Some b) = b.path ∷ []

abbrev pub paths_later : List Bucket → List (List ℕ)
paths_later bs = map (λ (b : Bucket). b.path) bs

-- the buckets after the one that is gone over
abbrev pub paths_left : Walking → List (List ℕ)
paths_left w = paths_later w.later ++ w.rest

abbrev pub IsPastNow : Option Bucket → Option Key → Key → Type 0
IsPastNow None upto key = Unit {0}
IsPastNow (Some b) upto key = IsPast b.path upto key

abbrev pub IsElsewhere : List (List ℕ) → Key → Type 0
IsElsewhere paths key = has_below paths key ≡ false

-- HOW FAR THE WALK IS: these keys were taken, none of them twice, and none is left; each that differs counts
pub record WalkFew (f : Frame) (differed : List Key) (w : Walking) (taken : List Entry) : Type 0 where
  pub upto : Option Key
  pub paths : AreDistinct (paths_now w.bucket ++ paths_left w)
  pub long : AreLong 3 (paths_now w.bucket ++ paths_left w)
  pub now : StandsNow f w.bucket w.entry upto
  pub later : Each (IsFresh f) w.later
  pub elsewhere : Each (IsElsewhere (paths_left w)) (keys_next taken)
  pub past : Each (IsPastNow w.bucket upto) (keys_next taken)
  pub once : AreDistinct (keys_next taken)
  pub differ : Each (λ e. e.differs ≡ true → IsIn differed e.key) taken

-- a walk that goes over a bucket
abbrev pub at_bucket : Bucket → Option Entry → List Bucket → List (List ℕ) → Walking
at_bucket b entry later rest = record { rest = rest; bucket = Some b; later = later; entry = entry }

-- a key under one of these paths is under no other
pub apart_below : (p : List ℕ) (ps : List (List ℕ)) (key : Key) → length p ≡ 3 → AreLong 3 ps → is_member ps p ≡ false → is_under p key ≡ true → has_below ps key ≡ false
apart_below p [] key long longs apart under = refl
apart_below p (q ∷ ps) key long longs apart under =
    let rest = apart_below p ps key long longs.1 (or_right (eq_by_cmp (slice_cmp nat_cmp) p q) (is_member ps p) apart) under in
    elim (is_under q key) as (λ b. is_under q key ≡ b → (b || has_below ps key) ≡ false) [
      | true ↦ λ here.
          let same : p ≡ q = begins-one p q (path_of_key key) (long ∙ sym longs.0) under here in
          absurd (true≢false (sym (tied p) ∙ ap (eq_by_cmp (slice_cmp nat_cmp) p) same ∙ or_left (eq_by_cmp (slice_cmp nat_cmp) p q) (is_member ps p) apart))
      | false ↦ λ _. rest
    ] refl

-- what a listing begins with is held
pub listed_held : (held : States) (path : List ℕ) (after : Option Key) (listing : ListingValue) (x : PageEntry) (page : List PageEntry) → IsListing (digests held) path after listing.0 listing.1 → listing.0 ≡ x ∷ page → get held x.0 ≡ None → ⊥
listed_held held path after listing x page l is none =
    let at = keys_after (digests held) path after in
    let all : entries at ≡ x ∷ (page ++ l.later) = l.is ∙ ap (λ ys. ys ++ l.later) is in
    let first : get at x.0 ≡ Some x.1 = (subst (Each (λ (e : PageEntry). get at e.0 ≡ Some e.1)) all (got_each nat_list_cmp_total at)).0 in
    let whole : get (digests held) x.0 ≡ Some x.1 = of_whole (is_under path x.0) (is_after after x.0) (get (digests held) x.0) x.1 (sym (get-rest (digests held) path after x.0) ∙ first) in
    let gone : get (digests held) x.0 ≡ None = get-digests_of spelled held x.0 ∙ ap (option_map (key_digest spelled x.0)) none in
    let e : Some x.1 ≡ None = sym whole ∙ gone in
    absurd (cc)

-- ---- the next key of a bucket

module _ (f : Frame) (differed : List Key) (all : HasAllThatDiffered f.locals f.peers differed) (b b' : Bucket) (e : Entry) (upto : Option Key) (at : AtTwo f b upto) (unspent : IsOpen b) (takes : TakesNext b e b') where
  both_heads : Heads (digests at.mine.held) (digests at.theirs.held) b.path upto e.key e.mine e.theirs e.differs (b'.mine.0 ++ at.mine.is.later) (b'.theirs.0 ++ at.theirs.is.later)
  both_heads = heads (digests at.mine.held) (digests at.theirs.held) b.path upto e b.mine.0 b.theirs.0 b'.mine.0 b'.theirs.0 b.mine.1 b.theirs.1 at.mine.is at.theirs.is (unspent_is b.mine unspent.0) (unspent_is b.theirs unspent.1) takes.takes

  at_first : get (digests at.mine.held) e.key ≡ both_heads.first
  at_first = at_head (digests at.mine.held) b.path upto e.key both_heads.first (b'.mine.0 ++ at.mine.is.later) both_heads.mine both_heads.below both_heads.next

  at_second : get (digests at.theirs.held) e.key ≡ both_heads.second
  at_second = at_head (digests at.theirs.held) b.path upto e.key both_heads.second (b'.theirs.0 ++ at.theirs.is.later) both_heads.theirs both_heads.below both_heads.next

  pub taken_at : AtTwo f b' (Some e.key)
  taken_at = record {
    mine = record {
      held = at.mine.held;
      seen = at.mine.seen;
      is = subst (λ path. IsListing (digests at.mine.held) path (Some e.key) b'.mine.0 b'.mine.1) (sym takes.path) (record {
        later = at.mine.is.later;
        is = left_after (digests at.mine.held) b.path upto e.key both_heads.first (b'.mine.0 ++ at.mine.is.later) both_heads.mine both_heads.next (digests at.mine.held) (λ q l. refl);
        ended = λ h. at.mine.is.ended (sym takes.more.0 ∙ h);
      });
    };
    theirs = record {
      held = at.theirs.held;
      seen = at.theirs.seen;
      is = subst (λ path. IsListing (digests at.theirs.held) path (Some e.key) b'.theirs.0 b'.theirs.1) (sym takes.path) (record {
        later = at.theirs.is.later;
        is = left_after (digests at.theirs.held) b.path upto e.key both_heads.second (b'.theirs.0 ++ at.theirs.is.later) both_heads.theirs both_heads.next (digests at.theirs.held) (λ q l. refl);
        ended = λ h. at.theirs.is.ended (sym takes.more.1 ∙ h);
      });
    };
  }

  taken_differs : e.differs ≡ true → IsIn differed e.key
  taken_differs sure =
      all at.mine.held at.theirs.held at.mine.seen.among at.theirs.seen.among e.key
      (λ same. both_heads.differ sure (sym at_first ∙ digests_same at.mine.held at.theirs.held e.key same ∙ at_second))

  -- what was gone over before still is, and so is this key
  past_on : (key : Key) → IsPast b.path upto key → IsPast b'.path (Some e.key) key
  past_on key past under later =
      past (subst (λ path. IsTrue (is_under path key)) takes.path under) (after_trans upto e.key key both_heads.next (lt-true (slice_cmp nat_cmp e.key key) later))

  past_itself : IsPast b'.path (Some e.key) e.key
  past_itself under later = true≢false (sym later ∙ ap is_lt (tied_itself nat_list_cmp_total e.key))

  -- THE KEY IS TAKEN
  pub walk_took : (entry : Option Entry) (later : List Bucket) (rest : List (List ℕ)) (taken : List Entry) → StandsNow f (Some b') entry (Some e.key) → (old : WalkFew f differed (at_bucket b None later rest) taken) → old.upto ≡ upto
      → WalkFew f differed (at_bucket b' entry later rest) (e ∷ taken)
  walk_took entry later rest taken now old same =
      let before : Each (IsPast b.path upto) (keys_next taken) = subst (λ u. Each (IsPast b.path u) (keys_next taken)) same old.past in
      record {
        upto = Some e.key;
        paths = subst (λ path. AreDistinct (path ∷ (paths_later later ++ rest))) (sym takes.path) old.paths;
        long = subst (λ path. AreLong 3 (path ∷ (paths_later later ++ rest))) (sym takes.path) old.long;
        now = now;
        later = old.later;
        elsewhere = (apart_below b.path (paths_later later ++ rest) e.key old.long.0 old.long.1 old.paths.0 both_heads.below, old.elsewhere);
        past = (past_itself, Each-weaker (IsPast b.path upto) (IsPast b'.path (Some e.key)) past_on (keys_next taken) before);
        once = (no_member (IsPast b.path upto) (keys_next taken) before e.key (λ past. past both_heads.below both_heads.next), old.once);
        differ = (taken_differs, old.differ);
      }

-- ---- the next bucket

module _ (f : Frame) (differed : List Key) where
  pub walk_moves : (b c : Bucket) (later : List Bucket) (rest : List (List ℕ)) (taken : List Entry) → WalkFew f differed (at_bucket b None (c ∷ later) rest) taken → WalkFew f differed (at_bucket c None later rest) taken
  walk_moves b c later rest taken old = record {
    upto = None;
    paths = old.paths.1;
    long = old.long.1;
    now = old.later.0;
    later = old.later.1;
    elsewhere = Each-weaker (IsElsewhere (c.path ∷ (paths_later later ++ rest))) (IsElsewhere (paths_later later ++ rest)) (λ key none. or_right (is_under c.path key) (has_below (paths_later later ++ rest) key) none) (keys_next taken) old.elsewhere;
    past = Each-weaker (IsElsewhere (c.path ∷ (paths_later later ++ rest))) (IsPast c.path None) (λ key none under after. true≢false (sym under ∙ or_left (is_under c.path key) (has_below (paths_later later ++ rest) key) none)) (keys_next taken) old.elsewhere;
    once = old.once;
    differ = old.differ;
  }

  pub walk_closes : (b : Bucket) (rest : List (List ℕ)) (taken : List Entry) → WalkFew f differed (at_bucket b None [] rest) taken → WalkFew f differed (record { rest = rest; bucket = None; later = []; entry = None }) taken
  walk_closes b rest taken old = record {
    upto = None;
    paths = old.paths.1;
    long = old.long.1;
    now = tt;
    later = tt;
    elsewhere = old.elsewhere;
    past = Each-weaker (IsElsewhere rest) (λ key. Unit {0}) (λ key none. tt) (keys_next taken) old.elsewhere;
    once = old.once;
    differ = old.differ;
  }

  -- its buckets are those that the descent found
  pub walk_first : (paths : List (List ℕ)) → AreDistinct paths → AreLong 3 paths → WalkFew f differed (record { rest = paths; bucket = None; later = []; entry = None }) []
  walk_first paths distinct long = record { upto = None; paths = distinct; long = long; now = tt; later = tt; elsewhere = tt; past = tt; once = tt; differ = tt }

-- ---- pages that were told

module _ (moments : List States) (first last : States) (form : AreHeld first) where
  pub page_at : (path : List ℕ) (after : Option Key) (listing : ListingValue) → PageAt moments first last (path, after) listing → ListedAt moments first last path after listing × (is_spent listing ≡ false)
  page_at path after listing p =
      let page = ap (λ (l : ListingValue). l.0) p.2.0 ∙ p.1.2.0 in
      let more = ap (λ (l : ListingValue). l.1) p.2.0 ∙ p.1.2.1 in (
        record { held = p.1.0; seen = p.1.1; is = fresh_listing (digests p.1.0) path after listing.0 listing.1 page more },
        page_unspent moments first last path form p.1.0 path after listing.0 listing.1 page more,
      )

  -- the next page, if the listing was spent
  pub filled_at : (spent : Bool) (path : List ℕ) (key : Key) (listing : ListingValue) (pages : List ListingValue) → is_spent listing ≡ spent → ForEach (PageAt moments first last) (cond spent ((path, Some key) ∷ []) []) pages → ListedAt moments first last path (Some key) listing
      → ListedAt moments first last path (Some key) (filled listing pages) × (is_spent (filled listing pages) ≡ false)
  filled_at false path key listing [] is told at = (at, is)
  filled_at false path key listing (page ∷ pages) is told at = absurd told
  filled_at true path key listing [] is told at = absurd told
  filled_at true path key listing (page ∷ pages) is told at = page_at path (Some key) page told.0

module _ (f : Frame) where
  pub opened_fresh : (paths : List (List ℕ)) (mine theirs : List ListingValue) → ForEach (PageAt f.locals f.a f.a') (map first_page paths) mine → ForEach (PageAt f.peers f.b f.b') (map first_page paths) theirs
      → Each (IsFresh f) (opened_buckets (map first_page paths) mine theirs) × (paths_later (opened_buckets (map first_page paths) mine theirs) ≡ paths)
  opened_fresh [] mine theirs p q = (tt, refl)
  opened_fresh (path ∷ paths) [] theirs p q = absurd p
  opened_fresh (path ∷ paths) (m ∷ mine) [] p q = absurd q
  opened_fresh (path ∷ paths) (m ∷ mine) (t ∷ theirs) p q =
      let x = page_at f.locals f.a f.a' f.fa path None m p.0 in
      let y = page_at f.peers f.b f.b' f.fb path None t q.0 in
      let rest = opened_fresh paths mine theirs p.1 q.1 in
      (((record { mine = x.0; theirs = y.0 }, (x.1, y.1)), rest.0), ap (λ ps. path ∷ ps) rest.1)

  pub walk_opens : (differed : List Key) (w : Walking) (b : Bucket) (later : List Bucket) (taken : List Entry) → w.bucket ≡ None → Each (IsFresh f) (b ∷ later) → paths_later (b ∷ later) ≡ take 64 w.rest → WalkFew f differed w taken → WalkFew f differed (at_bucket b None later (drop 64 w.rest)) taken
  walk_opens differed w b later taken none fresh opened old =
      let same : b.path ∷ (paths_later later ++ drop 64 w.rest) ≡ w.rest = ap (λ ps. ps ++ drop 64 w.rest) opened ∙ take-append-drop 64 w.rest in
      let paths : AreDistinct (paths_later w.later ++ w.rest) = subst (λ (o : Option Bucket). AreDistinct (paths_now o ++ (paths_later w.later ++ w.rest))) none old.paths in
      let long : AreLong 3 (paths_later w.later ++ w.rest) = subst (λ (o : Option Bucket). AreLong 3 (paths_now o ++ (paths_later w.later ++ w.rest))) none old.long in
      let elsewhere : Each (IsElsewhere (b.path ∷ (paths_later later ++ drop 64 w.rest))) (keys_next taken) =
      Each-weaker (IsElsewhere (paths_later w.later ++ w.rest)) (IsElsewhere (b.path ∷ (paths_later later ++ drop 64 w.rest)))
      (λ key lacks. ap (λ ps. has_below ps key) same ∙ or_right (has_below (paths_later w.later) key) (has_below w.rest key) (sym (list_any-append (λ path. is_under path key) (paths_later w.later) w.rest) ∙ lacks))
      (keys_next taken) old.elsewhere in
      record {
        upto = None;
        paths = subst AreDistinct (sym same) (distinct_last (paths_later w.later) w.rest paths);
        long = subst (AreLong 3) (sym same) (Each-right (λ path. length path ≡ 3) (paths_later w.later) w.rest long);
        now = fresh.0;
        later = fresh.1;
        elsewhere = Each-weaker (IsElsewhere (b.path ∷ (paths_later later ++ drop 64 w.rest))) (IsElsewhere (paths_later later ++ drop 64 w.rest)) (λ key lacks. or_right (is_under b.path key) (has_below (paths_later later ++ drop 64 w.rest) key) lacks) (keys_next taken) elsewhere;
        past = Each-weaker (IsElsewhere (b.path ∷ (paths_later later ++ drop 64 w.rest))) (IsPast b.path None) (λ key lacks under after. true≢false (sym under ∙ or_left (is_under b.path key) (has_below (paths_later later ++ drop 64 w.rest) key) lacks)) (keys_next taken) elsewhere;
        once = old.once;
        differ = old.differ;
      }

  -- the pages after a key were told
  pub walk_fills : (differed : List Key) (b b' : Bucket) (e : Entry) (later : List Bucket) (rest : List (List ℕ)) (taken : List Entry) → b'.path ≡ b.path → AtTwo f b' (Some e.key) × IsOpen b' → WalkFew f differed (at_bucket b (Some e) later rest) taken
      → WalkFew f differed (at_bucket b' None later rest) taken
  walk_fills differed b b' e later rest taken path now old = record {
    upto = Some e.key;
    paths = subst (λ p. AreDistinct (p ∷ (paths_later later ++ rest))) (sym path) old.paths;
    long = subst (λ p. AreLong 3 (p ∷ (paths_later later ++ rest))) (sym path) old.long;
    now = now;
    later = old.later;
    elsewhere = old.elsewhere;
    past = subst (λ p. Each (IsPast p (Some e.key)) (keys_next taken)) (sym path) (subst (λ u. Each (IsPast b.path u) (keys_next taken)) old.now.1 old.past);
    once = old.once;
    differ = old.differ;
  }
