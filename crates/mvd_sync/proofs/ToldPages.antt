-- A page that a faithful side tells rises.
use Rattle.std.proofs.Common.{◌≡◌, ℕ, zero, suc, Bool, true, false, cond, ◌&&◌, List, [], ◌∷◌, take, length, refl, sym, ap, ◌∙◌, Some, None, Option}
use Rattle.std.specs.Prelude.{T, nat_lt}
use Rattle.std.specs.Ordering.{nat_cmp, is_eq}
use Rattle.std.specs.Cmp.{tied_itself}
use Rattle.std.specs.Cmp.Lexicographic.{slice_cmp, nat_list_cmp_total}
use Rattle.std.specs.FinMap.{get, entries, entries_sorted, get-entries, find, is_sorted}
use Rattle.mvd_tree.specs.HashTree.{KeyDigests, is_under}
use Rattle.mvd_tree.specs.Page.{is_after, is_more_after_page, bucket_page, keys_after}
use Rattle.std.specs.declared.vec.Vec.{Vec}
use Rattle.std.specs.declared.alloc.Global.{Global}
use Rattle.mvd_sync.specs.Answers.{IsPage, ListingValue, PageEntry, PageRises}
use Rattle.mvd_sync.proofs.Readings.{IsBucketPage}
use Rattle.mvd_sync.specs.Tellings.{IsListingOf}
use Rattle.mvd_sync.proofs.Rest.{get-rest}

front : (a b : Bool) → T (a && b) → T a
front true b h = tt
front false b h = absurd h

back : (a b : Bool) → T (a && b) → T b
back true b h = h
back false b h = absurd h

sure : (b : Bool) → T b → b ≡ true
sure true h = refl
sure false h = absurd h

sorted_rises : (e : PageEntry) (es : List PageEntry) → T (is_sorted (slice_cmp nat_cmp) (e ∷ es)) → PageRises (Some e.0) es
sorted_rises e [] h = tt
sorted_rises e (f ∷ es) h = (sure _ (front _ _ (front _ _ h)), sorted_rises f es (back _ _ h))

rises-take : (after : Option (List ℕ)) (n : ℕ) (es : List PageEntry) → PageRises after es → PageRises after (take n es)
rises-take after zero [] h = tt
rises-take after (suc n) [] h = tt
rises-take after zero (e ∷ es) h = tt
rises-take after (suc n) (e ∷ es) h = (h.0, rises-take (Some e.0) n es h.1)

-- what is found in the rest comes after the key
found_after : (held : KeyDigests) (path : List ℕ) (after : Option (List ℕ)) (k : List ℕ) (digest : List ℕ) → get (keys_after held path after) k ≡ Some digest → is_after after k ≡ true
found_after held path after k digest found =
    elim (is_under path k) as (λ u. cond (u && is_after after k) (get held k) None ≡ Some digest → is_after after k ≡ true) [
      | false ↦ λ e. absurd (cc)
      | true ↦ elim (is_after after k) as (λ b. cond b (get held k) None ≡ Some digest → b ≡ true) [ true ↦ λ _. refl | false ↦ λ e. absurd (cc) ]
    ] (sym (get-rest held path after k) ∙ found)

rises_of : (held : KeyDigests) (path : List ℕ) (after : Option (List ℕ)) (es : List PageEntry) → entries (keys_after held path after) ≡ es → T (is_sorted (slice_cmp nat_cmp) es) → PageRises after es
rises_of held path after [] is h = tt
rises_of held path after (e ∷ es) is h = (
  found_after held path after e.0 e.1 (get-entries (keys_after held path after) e.0 ∙ ap (find (slice_cmp nat_cmp) e.0) is ∙ ap (λ o. cond (is_eq o) (Some e.1) (find (slice_cmp nat_cmp) e.0 es)) (tied_itself nat_list_cmp_total e.0)),
  sorted_rises e es h,
)

no_more : (es : List PageEntry) → take 1000 es ≡ [] → nat_lt 1000 (length es) ≡ false
no_more [] e = refl
no_more (x ∷ es) e = absurd (cc)

-- such a page may be told
pub told_page : (held : KeyDigests) (path : List ℕ) (after : Option (List ℕ)) (page : List PageEntry) (more : Bool) → page ≡ bucket_page held path after → more ≡ is_more_after_page held path after → IsPage after page more
told_page held path after page more p m =
    let es = entries (keys_after held path after) in
    let whole = rises_of held path after es refl (entries_sorted (keys_after held path after)) in
    record {
      rises = rw (p) (rises-take after 1000 es whole);
      ended = λ none. m ∙ no_more es (sym p ∙ none);
    }

-- also as one that comes after no key
pub page_from_first : (after : Option (List ℕ)) (page : List PageEntry) (more : Bool) → IsPage after page more → IsPage None page more
page_from_first after [] more h = record { rises = tt; ended = h.ended }
page_from_first after (e ∷ es) more h = record { rises = (refl, h.rises.1); ended = h.ended }

-- ---- pages that were asked for

abbrev pub Told : Type 0
Told = Vec (List ℕ × List ℕ) Global × Bool

abbrev pub Asking : Type 0
Asking = List ℕ × Option (List ℕ)

-- what a faithful side tells of a bucket after a key
abbrev pub TellsPage : KeyDigests → Asking → Told → Type 0
TellsPage held q page = (page.0.items ≡ bucket_page held q.0 q.1) × (page.1 ≡ is_more_after_page held q.0 q.1)

-- it tells no page that is none
pub not_bad : (held : KeyDigests) (q : Asking) (page : Told) → TellsPage held q page → (IsPage None page.0.items page.1 → ⊥) → ⊥
not_bad held q page told bad = bad (page_from_first q.1 page.0.items page.1 (told_page held q.0 q.1 page.0.items page.1 told.0 told.1))

-- and what is made of its page is this page
pub listing_right : (held : KeyDigests) (q : Asking) (page : Told) (listing : ListingValue) → TellsPage held q page → IsListingOf page listing → IsBucketPage held q.0 q.1 listing.0 listing.1
listing_right held q page listing told is = record { is = ap (λ l. l.0) is.0 ∙ told.0; goes_on = ap (λ l. l.1) is.0 ∙ told.1 }
