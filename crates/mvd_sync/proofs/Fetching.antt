-- Pages that are asked for.
use Rattle.std.proofs.Common.{◌≡◌, ℕ, ◌<◌, ◌^◌, false, List, [], ◌∷◌, map, length, Option, None, ap, subst, ◌∙◌, arith}
use Rattle.std.proofs.lemmas.List.{length-map}
use Rattle.mvd_site.specs.Answer.{digests}
use Rattle.mvd_tree.specs.HashTree.{KeyDigests}
use Rattle.mvd_sync.specs.Answers.{IsPage, ListingValue}
use Rattle.mvd_sync.proofs.Readings.{IsBucketPage}
use Rattle.mvd_sync.proofs.Buckets.{ArePages}
use Rattle.mvd_sync.proofs.Readings.{AllAnswered, AnswersEach, with_left}
use Rattle.mvd_peer.specs.Windows.{ForEach}
use Rattle.mvd_peer.specs.PushedStates.{Each}
use Rattle.mvd_peer.specs.Sides.{SideOf}
use Rattle.mvd_sync.proofs.Walk.{ReadsSide}
use Rattle.mvd_sync.proofs.Descents.{answers_long}

-- ---- the first pages

-- what a page has, whoever told it
abbrev pub IsGoodPage : ListingValue → Type 0
IsGoodPage page = (page.0 ≡ [] → page.1 ≡ false) × (length page.0 < 2 ^ 64)

module _ {S : Type 0} (s : SideOf S) (held : KeyDigests) (T : Type 0) where
  good_pages : (paths : List (List ℕ)) (pages : List ListingValue) → ForEach {Q = List ℕ × Option (List ℕ)} (λ q page. IsPage None page.0 page.1 × (length page.0 < 2 ^ 64) × T) (map (λ path. (path, None)) paths) pages → Each IsGoodPage pages
  good_pages [] [] h = tt
  good_pages [] (x ∷ pages) h = absurd h
  good_pages (q ∷ paths) [] h = absurd h
  good_pages (q ∷ paths) (x ∷ pages) h = ((h.0.0.ended, h.0.1), good_pages paths pages h.1)

  first_told : (paths : List (List ℕ)) (pages : List ListingValue) → ForEach {Q = List ℕ × Option (List ℕ)} (λ q page. IsBucketPage held q.0 q.1 page.0 page.1) (map (λ path. (path, None)) paths) pages → ArePages held paths pages
  first_told [] [] h = tt
  first_told [] (x ∷ pages) h = absurd h
  first_told (q ∷ paths) [] h = absurd h
  first_told (q ∷ paths) (x ∷ pages) h = (h.0, first_told paths pages h.1)

module _ {S : Type 0} (s : SideOf S) (T : Type 0) (paths : List (List ℕ)) (asked : List (List ℕ × Option (List ℕ))) (pages : List ListingValue) (left left' : ℕ) (old new : S) (is : asked ≡ map (λ path. (path, None)) paths)
    (h : AllAnswered s (λ q page. IsPage None page.0 page.1 × (length page.0 < 2 ^ 64) × T) (AnswersEach s (λ q page. IsBucketPage (digests (s.states old)) q.0 q.1 page.0 page.1) asked pages old new) asked pages (with_left old left) (with_left new left')) where
  as_long : length asked ≡ length paths
  as_long = ap length is ∙ length-map paths (λ path. (path, None))

  pub pages_read : ReadsSide s (length paths) (with_left old left) (with_left new left')
  pages_read = record {
    spent = let a = h.spent in let n = as_long in omega (arith, a, n);
    follows = subst (λ n. s.follows n old new) as_long h.follows;
    kept = λ t. (h.right t).kept;
  }

  pub pages_right : s.is_faithful old → ArePages (digests (s.states old)) paths pages
  pages_right t = first_told s (digests (s.states old)) T paths pages (subst (λ qs. ForEach (λ q page. IsBucketPage (digests (s.states old)) q.0 q.1 page.0 page.1) qs pages) is (h.right t).right)

  pub pages_good : Each IsGoodPage pages
  pages_good = good_pages s (digests (s.states old)) T paths pages (subst (λ qs. ForEach (λ q page. IsPage None page.0 page.1 × (length page.0 < 2 ^ 64) × T) qs pages) is h.may)

  pub pages_long : length pages ≡ length paths
  pages_long = answers_long (λ q page. IsPage None page.0 page.1 × (length page.0 < 2 ^ 64) × T) asked pages h.may ∙ as_long
