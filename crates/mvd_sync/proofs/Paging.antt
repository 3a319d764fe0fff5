-- Pages that both sides are asked for.
use Rattle.std.proofs.Common.{◌≡◌, ℕ, ◌==◌, ◌&&◌, Bool, true, false, cond, List, [], ◌∷◌, length, refl, sym, ap, subst, ◌∙◌, arith, Some}
use Rattle.std.specs.Ordering.{is_lt}
use Rattle.std.specs.declared.cmp.Ordering.{Ordering}
use Rattle.std.specs.declared.cmp.Ordering.TheVariants.{Less, Equal, Greater}
use Rattle.std.proofs.lemmas.Bool.Decides.{nat_tests}
use Rattle.mvd_dots.specs.declared.refusals.Refusal.{Refusal}
use Rattle.mvd_dots.specs.declared.refusals.Refusal.TheVariants.{Memory}
use Rattle.mvd_keys.specs.Key.{key_cmp}
use Rattle.mvd_keys.specs.Writes.{Key}
use Rattle.mvd_site.specs.Answer.{digests}
use Rattle.mvd_tree.specs.HashTree.{KeyDigests}
use Rattle.mvd_peer.specs.Sides.{SideOf, two}
use Rattle.mvd_peer.specs.Windows.{ForEach}
use Rattle.mvd_peer.specs.Asking.{PageQuestion}
use Rattle.mvd_sync.proofs.Readings.{IsBucketPage}
use Rattle.mvd_sync.specs.Answers.{ListingValue, PageEntry, PageRises, StartsAfter, is_spent}
use Rattle.mvd_sync.proofs.Buckets.{IsSpent}
use Rattle.mvd_sync.specs.Faults.{IsFaultOf, of_answer, of_memory}
use Rattle.mvd_sync.proofs.Readings.{ComesToEnd, Fills, Keeps, TellsPages, with_left}
use Rattle.mvd_sync.proofs.Walk.{asking}
use Rattle.mvd_sync.specs.Walking.{ComeAfter, EndsTelling, Walking, filled, is_asked, pages_next, pages_of, of_mine, of_theirs, of_memory as of_no_memory}
use Rattle.mvd_sync.proofs.Walk.{PagesEnd}
use Rattle.mvd_sync.specs.declared.asking.Questions.{Questions}
use Rattle.mvd_sync.specs.declared.report.Side.TheVariants.{Local as AtLocal, Peer as AtPeer}
use Rattle.mvd_sync.specs.declared.report.SyncFault.{SyncFault}
use Rattle.mvd_sync.specs.declared.report.SyncFault.TheVariants.{Local, Peer}
use Rattle.mvd_sync.specs.declared.cursor.Entry.{Entry}
use Rattle.mvd_sync.specs.declared.walking.Bucket.{Bucket}
use Rattle.mvd_sync.proofs.Compose.{Moves}
use Rattle.mvd_sync.proofs.Positions.{BlamesBy}
use Rattle.mvd_sync.proofs.ToldPages.{told_page}

-- ---- listings that are spent

pub spent_is : (listing : ListingValue) → is_spent listing ≡ true → IsSpent listing
spent_is listing h = spent listing.0 listing.1 h
  where
    spent : (page : List PageEntry) (more : Bool) → ((length page == 0) && more) ≡ true → (page ≡ []) × (more ≡ true)
    spent [] more h = (refl, h)
    spent (e ∷ page) more h = absurd (grind (arith, nat_tests))

pub unspent_is : (listing : ListingValue) → is_spent listing ≡ false → listing.0 ≡ [] → listing.1 ≡ false
unspent_is listing h none = sym (ap (λ page. (length page == 0) && listing.1) none) ∙ h

-- ---- the page after a key

is_less : (o : Ordering) → is_lt o ≡ true → o ≡ Less
is_less Less h = refl
is_less Equal h = absurd (cc)
is_less Greater h = absurd (cc)

starts : (key : Key) (page : List PageEntry) → PageRises (Some key) page → StartsAfter key page
starts key [] h = tt
starts key (e ∷ page) h = is_less (key_cmp key e.0) h.0

-- a faithful side tells a page that comes after the key
pub told_after : (held : KeyDigests) (asked : Bool) (path : List ℕ) (key : Key) (pages : List ListingValue) → ForEach {Q = PageQuestion} (λ q page. IsBucketPage held q.0 q.1 page.0 page.1) (cond asked ((path, Some key) ∷ []) []) pages → ComeAfter key pages
told_after held false path key [] h = tt
told_after held false path key (x ∷ pages) h = absurd h
told_after held true path key [] h = absurd h
told_after held true path key (x ∷ pages) h = starts key x.0 (told_page held path (Some key) x.0 x.1 h.0.is h.0.goes_on).rises

-- a listing that was filled, if it was spent
module _ {S : Type 0} (s : SideOf S) (path : List ℕ) (key : Key) (left left' : ℕ) (old new : S) where
  pub fills_of : (spent : Bool) (listing : ListingValue) (pages : List ListingValue) → is_spent listing ≡ spent → TellsPages s (cond spent ((path, Some key) ∷ []) []) pages (with_left old left) (with_left new left')
      → Fills s path (Some key) listing (filled listing pages) (with_left old left) (with_left new left')
  fills_of false listing [] is told = record {
    asked = 0;
    one = omega arith;
    needed = λ some. absurd (omega (arith, some));
    same = λ _. refl;
    spent = told.spent;
    follows = told.follows;
    short = λ low. low;
    ended = unspent_is listing is;
    kept = λ t. (told.right t).kept;
    page = λ t some. absurd (omega (arith, some));
  }
  fills_of false listing (x ∷ pages) is told = absurd told.may
  fills_of true listing [] is told = absurd told.may
  fills_of true listing (x ∷ pages) is told = record {
    asked = 1;
    one = omega arith;
    needed = λ _. spent_is listing is;
    same = λ none. absurd (omega (arith, none));
    spent = told.spent;
    follows = told.follows;
    short = λ _. told.may.0.1;
    ended = told.may.0.0.ended;
    kept = λ t. (told.right t).kept;
    page = λ t _. (told.right t).right.0;
  }

-- ---- what is asked for, where a key waits

pub mine_asked : (at : Walking) (b : Bucket) (e : Entry) → at.bucket ≡ Some b → at.entry ≡ Some e → pages_of AtLocal at ≡ cond (is_spent b.mine) ((b.path, Some e.key) ∷ []) []
mine_asked at b e is waits = λ i. cond (is_asked AtLocal (is i)) (pages_next (is i) (waits i) at.rest) []

pub theirs_asked : (at : Walking) (b : Bucket) (e : Entry) → at.bucket ≡ Some b → at.entry ≡ Some e → pages_of AtPeer at ≡ cond (is_spent b.theirs) ((b.path, Some e.key) ∷ []) []
theirs_asked at b e is waits = λ i. cond (is_asked AtPeer (is i)) (pages_next (is i) (waits i) at.rest) []

-- ---- one side came to an end

module _ {L P : Type 0} (l : SideOf L) (p : SideOf P) (at : Walking) (left : Questions) (local local' : L) (peer peer' : P) where
  pub mine_end : (refusal : Refusal) → ComesToEnd l (Keeps l local local') (length (pages_of AtLocal at)) (with_left local left.local) local' refusal → Moves p (length (pages_of AtPeer at)) left.peer peer peer' → PagesEnd (record { local = l; peer = p }) at (asking local peer left) (two local' peer') (Local refusal)
  mine_end refusal e also = record {
    ends = record {
      asked_local = e.asked;
      asked_peer = also.asked;
      wanted_local = e.wanted;
      wanted_peer = 0;
      within = (e.within, also.within);
      few = (tt, tt);
      follows = (e.follows, also.follows);
      cause = e.cause;
      kept_local = e.right;
      kept_peer = also.kept;
    };
    few = (e.few, let few = also.few in omega (arith, few));
  }

  -- memory was refused before either was asked
  pub none_end : l.follows 0 local local → p.follows 0 peer peer → PagesEnd (record { local = l; peer = p }) at (asking local peer left) (two local peer) (Local Memory)
  none_end self self' = record {
    ends = record {
      asked_local = 0;
      asked_peer = 0;
      wanted_local = 0;
      wanted_peer = 0;
      within = (omega arith, omega arith);
      few = (tt, tt);
      follows = (self, self');
      cause = of_memory refl;
      kept_local = λ t. record { still = t; states = refl };
      kept_peer = λ t. record { still = t; states = refl };
    };
    few = (omega arith, omega arith);
  }

  pub theirs_end : (mine : List ListingValue) (left' : ℕ) (refusal : Refusal) → TellsPages l (pages_of AtLocal at) mine (with_left local left.local) (with_left local' left')
      → ComesToEnd p (Keeps p peer peer') (length (pages_of AtPeer at)) (with_left peer left.peer) peer' refusal → PagesEnd (record { local = l; peer = p }) at (asking local peer left) (two local' peer') (Peer refusal)
  theirs_end mine left' refusal told e = record {
    ends = record {
      asked_local = length (pages_of AtLocal at);
      asked_peer = e.asked;
      wanted_local = 0;
      wanted_peer = e.wanted;
      within = (let spent = told.spent in omega (arith, spent), e.within);
      few = (tt, tt);
      follows = (told.follows, e.follows);
      cause = e.cause;
      kept_local = λ t. (told.right t).kept;
      kept_peer = e.right;
    };
    few = (omega arith, e.few);
  }

  telling_blames : (mine theirs : List ListingValue) (left_l left_p : ℕ) (fault : SyncFault) → TellsPages l (pages_of AtLocal at) mine (with_left local left.local) (with_left local' left_l) → TellsPages p (pages_of AtPeer at) theirs (with_left peer left.peer) (with_left peer' left_p)
      → EndsTelling at mine theirs fault → IsFaultOf (BlamesBy l left.local (length (pages_of AtLocal at)) 0 local local') (BlamesBy p left.peer (length (pages_of AtPeer at)) 0 peer peer') fault
  telling_blames mine theirs left_l left_p fault told told' (of_mine b e is waits before bad) =
      subst (IsFaultOf (BlamesBy l left.local (length (pages_of AtLocal at)) 0 local local') (BlamesBy p left.peer (length (pages_of AtPeer at)) 0 peer peer')) (sym bad)
      (of_answer refl (λ t. before (told_after (digests (l.states local)) (is_spent b.mine) b.path e.key mine (subst (λ qs. ForEach {Q = PageQuestion} (λ q page. IsBucketPage (digests (l.states local)) q.0 q.1 page.0 page.1) qs mine) (mine_asked at b e is waits) (told.right t).right))))
  telling_blames mine theirs left_l left_p fault told told' (of_theirs b e is waits before bad) =
      subst (IsFaultOf (BlamesBy l left.local (length (pages_of AtLocal at)) 0 local local') (BlamesBy p left.peer (length (pages_of AtPeer at)) 0 peer peer')) (sym bad)
      (of_answer refl (λ t. before (told_after (digests (p.states peer)) (is_spent b.theirs) b.path e.key theirs (subst (λ qs. ForEach {Q = PageQuestion} (λ q page. IsBucketPage (digests (p.states peer)) q.0 q.1 page.0 page.1) qs theirs) (theirs_asked at b e is waits) (told'.right t).right))))
  telling_blames mine theirs left_l left_p fault told told' (of_no_memory is) =
      subst (IsFaultOf (BlamesBy l left.local (length (pages_of AtLocal at)) 0 local local') (BlamesBy p left.peer (length (pages_of AtPeer at)) 0 peer peer')) (sym is) (of_memory refl)

  -- both were told, but nothing was made of them
  pub telling_ends : (mine theirs : List ListingValue) (left_l left_p : ℕ) (fault : SyncFault) → TellsPages l (pages_of AtLocal at) mine (with_left local left.local) (with_left local' left_l) → TellsPages p (pages_of AtPeer at) theirs (with_left peer left.peer) (with_left peer' left_p)
      → EndsTelling at mine theirs fault → PagesEnd (record { local = l; peer = p }) at (asking local peer left) (two local' peer') fault
  telling_ends mine theirs left_l left_p fault told told' why = record {
    ends = record {
      asked_local = length (pages_of AtLocal at);
      asked_peer = length (pages_of AtPeer at);
      wanted_local = 0;
      wanted_peer = 0;
      within = (let spent = told.spent in omega (arith, spent), let spent = told'.spent in omega (arith, spent));
      few = (tt, tt);
      follows = (told.follows, told'.follows);
      cause = telling_blames mine theirs left_l left_p fault told told' why;
      kept_local = λ t. (told.right t).kept;
      kept_peer = λ t. (told'.right t).kept;
    };
    few = (omega arith, omega arith);
  }
