-- What a session has of a side's pages.
use Rattle.std.specs.declared.cmp.Ordering.{Ordering}
use Rattle.std.specs.declared.cmp.Ordering.TheVariants.{Less, Greater}
use Rattle.std.specs.Prelude.{IsTrue, ◌↔◌, ◌≢◌, ◌≡◌, ◌==◌, ◌&&◌, ℕ, Bool, true, false, List, [], ◌∷◌, length}
use Rattle.std.specs.Prelude.{Option, Some, None}
use Rattle.mvd_keys.specs.Key.{key_cmp}
use Rattle.mvd_keys.specs.Writes.{Key}
use Rattle.mvd_tree.specs.Page.{is_after}
use Rattle.mvd_peer.specs.Sides.{Two}
use Rattle.mvd_sync.specs.declared.cursor.Entry.{Entry}

-- an entry of a page: a key and its digest
abbrev pub PageEntry : Type 0
PageEntry = Key × List ℕ

-- what is left of a page, and whether the bucket goes on after it
abbrev pub ListingValue : Type 0
ListingValue = List PageEntry × Bool

-- whether no entry is left, and the bucket goes on
abbrev pub is_spent : ListingValue → Bool
is_spent listing = (length listing.0 == 0) && listing.1

-- the keys of a page strictly rise, from after a key on
abbrev pub PageRises : Option (List ℕ) → List PageEntry → Type 0
PageRises after [] = Unit {0}
PageRises after (e ∷ es) = IsTrue (is_after after e.0) × PageRises (Some e.0) es

-- a page that a faithful side may tell: its keys rise, and there are more only after a key
pub record IsPage (after : Option (List ℕ)) (page : List PageEntry) (more : Bool) : Type 0 where
  pub rises : PageRises after page
  pub ended : page ≡ [] → more ≡ false

-- the first entry of a list comes after a key
abbrev pub StartsAfter : List ℕ → List PageEntry → Type 0
StartsAfter key [] = Unit {0}
StartsAfter key (e ∷ es) = key_cmp key e.0 ≡ Less

-- of two lists the lesser first key was taken, and from both where both begin with it: which have it, and whether it
-- differs
pub data TakesLesser (old : Two (List PageEntry) (List PageEntry)) (e : Entry)
    (new : Two (List PageEntry) (List PageEntry)) : Type 0 where
  of_first : (x : PageEntry) → old.local ≡ x ∷ new.local → old.peer ≡ new.peer → e.key ≡ x.0
      → e.mine ≡ true → e.theirs ≡ false → e.differs ≡ true → StartsAfter e.key old.peer → TakesLesser old e new
  of_second : (y : PageEntry) → old.local ≡ new.local → old.peer ≡ y ∷ new.peer → e.key ≡ y.0
      → e.mine ≡ false → e.theirs ≡ true → e.differs ≡ true → StartsAfter e.key old.local → TakesLesser old e new
  of_both : (x y : PageEntry) → old.local ≡ x ∷ new.local → old.peer ≡ y ∷ new.peer → e.key ≡ x.0 → e.key ≡ y.0
      → e.mine ≡ true → e.theirs ≡ true → (IsTrue e.differs ↔ (x.1 ≢ y.1)) → TakesLesser old e new

-- the order of the first keys of two lists, where one has a key
abbrev pub order_of_first : List PageEntry → List PageEntry → Option Ordering
order_of_first [] [] = None
order_of_first (e ∷ es) [] = Some Less
order_of_first [] (f ∷ fs) = Some Greater
order_of_first (e ∷ es) (f ∷ fs) = Some (key_cmp e.0 f.0)
