-- A walk over the buckets that differ, between two windows of questions.
use Rattle.std.specs.Prelude.{◌≡◌, ◌⊎◌, ℕ, Bool, true, cond, List, [], ◌∷◌, map, take, drop}
use Rattle.std.specs.Prelude.{Option, Some, None}
use Rattle.mvd_dots.specs.declared.refusals.Refusal.TheVariants.{BadBody, Memory}
use Rattle.mvd_keys.specs.Writes.{Key}
use Rattle.mvd_peer.specs.Sides.{two}
use Rattle.mvd_peer.specs.Asking.{PageQuestion}
use Rattle.mvd_sync.specs.Answers.{ListingValue, StartsAfter, TakesLesser, is_spent}
use Rattle.mvd_sync.specs.declared.cursor.Entry.{Entry}
use Rattle.mvd_sync.specs.declared.report.Side.{Side}
use Rattle.mvd_sync.specs.declared.report.Side.TheVariants.{Local as AtLocal, Peer as AtPeer}
use Rattle.mvd_sync.specs.declared.report.SyncFault.{SyncFault}
use Rattle.mvd_sync.specs.declared.report.SyncFault.TheVariants.{Local, Peer}
use Rattle.mvd_sync.specs.declared.walking.Bucket.{Bucket}

-- a walk: the buckets of which nothing was told, the one that is gone over, those after it of which the first pages
-- were told, and the key that was taken last of the one, where a page after it is wanted
pub record Walking : Type 0 where
  pub rest : List (List ℕ)
  pub bucket : Option Bucket
  pub later : List Bucket
  pub entry : Option Entry

-- ---- what is asked next

abbrev pub first_page : List ℕ → PageQuestion
first_page path = (path, None)

-- the first pages of the next buckets, or the next page of the one that is gone over
abbrev pub pages_next : Option Bucket → Option Entry → List (List ℕ) → List PageQuestion
pages_next None entry rest = map first_page (take 64 rest)
pages_next (Some b) None rest = []
pages_next (Some b) (Some e) rest = (b.path, Some e.key) ∷ []

-- whether a side is asked: about first pages both are, about a next page each whose page has come to its end
abbrev pub is_asked : Side → Option Bucket → Bool
is_asked side None = true
is_asked AtLocal (Some b) = is_spent b.mine
is_asked AtPeer (Some b) = is_spent b.theirs

abbrev pub pages_of : Side → Walking → List PageQuestion
pages_of side w = cond (is_asked side w.bucket) (pages_next w.bucket w.entry w.rest) []

-- all buckets are gone over
abbrev pub IsWalked : Walking → Type 0
IsWalked w = (w.bucket ≡ None) × (w.rest ≡ [])

-- ---- without a question

-- a next page is wanted
abbrev pub WantsPage : Bucket → Type 0
WantsPage b = (is_spent b.mine ≡ true) ⊎ (is_spent b.theirs ≡ true)

-- the next key of both pages was taken
pub record TakesNext (old : Bucket) (e : Entry) (new : Bucket) : Type 0 where
  pub path : new.path ≡ old.path
  pub takes : TakesLesser (two old.mine.0 old.theirs.0) e (two new.mine.0 new.theirs.0)
  pub more : (new.mine.1 ≡ old.mine.1) × (new.theirs.1 ≡ old.theirs.1)

-- the next bucket is gone over, or none is there
pub data ClosesBucket (old new : Walking) : Type 0 where
  moves : (b : Bucket) (later : List Bucket) → old.later ≡ b ∷ later
      → new ≡ record { rest = old.rest; bucket = Some b; later = later; entry = None } → ClosesBucket old new
  ends : old.later ≡ [] → new ≡ record { rest = old.rest; bucket = None; later = []; entry = None }
      → ClosesBucket old new

-- THE WALK GOES ON: the next key of the bucket is told, or waits for a page after it; or none is left
pub data GoesTo (old : Walking) (found : Option Entry) (new : Walking) : Type 0 where
  tells : (b b' : Bucket) (e : Entry) → old.bucket ≡ Some b → TakesNext b e b' → (WantsPage b' → ⊥) → found ≡ Some e
      → new ≡ record old { bucket = Some b' } → GoesTo old found new
  waits : (b b' : Bucket) (e : Entry) → old.bucket ≡ Some b → TakesNext b e b' → WantsPage b' → found ≡ None
      → new ≡ record old { bucket = Some b'; entry = Some e } → GoesTo old found new
  closes : (b : Bucket) → old.bucket ≡ Some b → b.mine.0 ≡ [] → b.theirs.0 ≡ [] → found ≡ None → ClosesBucket old new
      → GoesTo old found new

-- ---- with what both sides told

-- the buckets whose first pages these are
abbrev pub opened_buckets : List PageQuestion → (mine theirs : List ListingValue) → List Bucket
opened_buckets (q ∷ asked) (m ∷ mine) (t ∷ theirs) =
    record { path = q.0; mine = m; theirs = t } ∷ opened_buckets asked mine theirs
opened_buckets asked mine theirs = []

-- a listing after the page that was told, if it was asked for
abbrev pub filled : ListingValue → List ListingValue → ListingValue
filled listing [] = listing
filled listing (page ∷ pages) = page

abbrev pub filled_both : Bucket → (mine theirs : List ListingValue) → Bucket
filled_both b mine theirs = record { path = b.path; mine = filled b.mine mine; theirs = filled b.theirs theirs }

-- the page, if it was asked for, comes after a key
abbrev pub ComeAfter : Key → List ListingValue → Type 0
ComeAfter key [] = Unit {0}
ComeAfter key (page ∷ pages) = StartsAfter key page.0

-- THE PAGES THAT WERE ASKED FOR WERE TOLD: the first of the buckets is gone over; or the key that waited is told
pub data IsTold (old : Walking) (mine theirs : List ListingValue) (found : Option Entry) (new : Walking) : Type 0 where
  opens : (b : Bucket) (later : List Bucket) → old.bucket ≡ None
      → opened_buckets (map first_page (take 64 old.rest)) mine theirs ≡ b ∷ later → found ≡ None
      → new ≡ record { rest = drop 64 old.rest; bucket = Some b; later = later; entry = None }
      → IsTold old mine theirs found new
  fills : (b : Bucket) (e : Entry) → old.bucket ≡ Some b → old.entry ≡ Some e → ComeAfter e.key mine
      → ComeAfter e.key theirs → found ≡ Some e
      → new ≡ record old { bucket = Some (filled_both b mine theirs); entry = None } → IsTold old mine theirs found new

-- or a page begins before the key that waits; or memory was refused
pub data EndsTelling (old : Walking) (mine theirs : List ListingValue) (fault : SyncFault) : Type 0 where
  of_mine : (b : Bucket) (e : Entry) → old.bucket ≡ Some b → old.entry ≡ Some e → (ComeAfter e.key mine → ⊥)
      → fault ≡ Local BadBody → EndsTelling old mine theirs fault
  of_theirs : (b : Bucket) (e : Entry) → old.bucket ≡ Some b → old.entry ≡ Some e → (ComeAfter e.key theirs → ⊥)
      → fault ≡ Peer BadBody → EndsTelling old mine theirs fault
  of_memory : fault ≡ Local Memory → EndsTelling old mine theirs fault
