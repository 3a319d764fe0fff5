-- A walk over buckets, between two windows of questions.
use Rattle.std.proofs.Common.{◌≡◌, ◌≢◌, ℕ, zero, suc, ◌+◌, ◌≤◌, List, [], ◌∷◌, ◌++◌, map, length, take, drop, refl, sym, ap, subst, ◌∙◌, arith, Option, Some, None, length-drop}
use Rattle.std.specs.Prelude.{IfSome, option_to_list}
use Rattle.std.proofs.lemmas.List.{drop-drop, length-map, length-take}
use Rattle.mvd_dots.specs.declared.refusals.Refusal.TheVariants.{BadBody}
use Rattle.mvd_peer.specs.Sides.{two}
use Rattle.mvd_peer.specs.Asking.{PageQuestion}
use Rattle.mvd_sync.specs.Answers.{ListingValue, TakesLesser}
use Rattle.mvd_sync.specs.Walking.{ClosesBucket, ComeAfter, EndsTelling, GoesTo, IsTold, TakesNext, Walking, WantsPage, closes, ends, filled_both, first_page, fills, moves, of_mine, of_theirs, opened_buckets, opens, pages_next, tells, waits}
use Rattle.mvd_sync.specs.declared.cursor.Entry.{Entry}
use Rattle.mvd_sync.specs.declared.report.SyncFault.TheVariants.{Local, Peer}
use Rattle.mvd_sync.specs.declared.walking.Bucket.{Bucket}

-- ---- the next key of a bucket

pub takes_next : (b : Bucket) (mine theirs : ListingValue) (result : Option Entry) → IfSome result (λ e. TakesLesser (two b.mine.0 b.theirs.0) e (two mine.0 theirs.0)) → (mine.1 ≡ b.mine.1) × (theirs.1 ≡ b.theirs.1)
    → IfSome result (λ e. TakesNext b e (record { path = b.path; mine = mine; theirs = theirs }))
takes_next b mine theirs None takes more = tt
takes_next b mine theirs (Some e) takes more = record { path = refl; takes = takes; more = more }

-- ---- the next bucket

module _ (at : Walking) (rest : List (List ℕ)) (bucket : Option Bucket) (later : List Bucket) (entry : Option Entry) (view : record { rest = rest; bucket = bucket; later = later; entry = entry } ≡ at) (unasked : at.entry ≡ None) where
  no_entry : entry ≡ None
  no_entry = ap (λ (w : Walking). w.entry) view ∙ unasked

  pub closes_to : (b : Bucket) (more : List Bucket) (found : Option Bucket) → later ≡ b ∷ more → found ≡ Some b → ClosesBucket at (record { rest = rest; bucket = found; later = more; entry = entry })
  closes_to b more found is same = moves b more (sym (ap (λ (w : Walking). w.later) view) ∙ is) (λ i. record { rest = ap (λ (w : Walking). w.rest) view i; bucket = same i; later = more; entry = no_entry i })

-- ---- the buckets of a window

-- a window of a list, and what comes after it
pub drop_window : {X : Type 0} (k n : ℕ) (xs : List X) → drop (k + length (take n (drop k xs))) xs ≡ drop n (drop k xs)
drop_window k n xs = sym (drop-drop (length (take n (drop k xs))) k xs) ∙ after_window n (drop k xs)
  where
    after_window : {X : Type 0} (n : ℕ) (xs : List X) → drop (length (take n xs)) xs ≡ drop n xs
    after_window zero [] = refl
    after_window zero (x ∷ xs) = refl
    after_window (suc n) [] = refl
    after_window (suc n) (x ∷ xs) = after_window n xs

pub some_opened : (asked : List PageQuestion) (mine theirs : List ListingValue) → asked ≢ [] → length mine ≡ length asked → length theirs ≡ length asked → opened_buckets asked mine theirs ≢ []
some_opened [] mine theirs some m t none = some refl
some_opened (q ∷ asked) [] theirs some m t none = absurd (omega (arith, m))
some_opened (q ∷ asked) (x ∷ mine) [] some m t none = absurd (omega (arith, t))
some_opened (q ∷ asked) (x ∷ mine) (y ∷ theirs) some m t none = absurd (cc)

some_asked : (rest : List (List ℕ)) → rest ≢ [] → map first_page (take 64 rest) ≢ []
some_asked [] some none = some refl
some_asked (path ∷ rest) some none = absurd (cc)

pub some_window : (at : Walking) (asked : List PageQuestion) (mine theirs : List ListingValue) → asked ≡ map first_page (take 64 at.rest) → at.rest ≢ [] → length mine ≡ length (take 64 at.rest) → length theirs ≡ length (take 64 at.rest) → opened_buckets asked mine theirs ≢ []
some_window at asked mine theirs is some m t =
    let n = ap length is ∙ length-map (take 64 at.rest) first_page in
    some_opened asked mine theirs (λ none. some_asked at.rest some (sym is ∙ none)) (m ∙ sym n) (t ∙ sym n)

-- ---- the walk goes on

pub closes_same : (at mid new : Walking) → mid.later ≡ at.later → mid.rest ≡ at.rest → ClosesBucket mid new → ClosesBucket at new
closes_same at mid new later rest (moves b more is new_is) = moves b more (sym later ∙ is) (new_is ∙ (λ i. record { rest = rest i; bucket = Some b; later = more; entry = None }))
closes_same at mid new later rest (ends none new_is) = ends (sym later ∙ none) (new_is ∙ (λ i. record { rest = rest i; bucket = None; later = []; entry = None }))

module _ (at : Walking) (rest : List (List ℕ)) (bucket : Option Bucket) (later : List Bucket) (entry : Option Entry) (view : record { rest = rest; bucket = bucket; later = later; entry = entry } ≡ at) (b : Bucket) (is : bucket ≡ Some b) where
  here : at.bucket ≡ Some b
  here = sym (ap (λ (w : Walking). w.bucket) view) ∙ is

  pub goes_tells : (b' : Bucket) (e : Entry) → TakesNext b e b' → (WantsPage b' → ⊥) → GoesTo at (Some e) (record { rest = rest; bucket = Some b'; later = later; entry = entry })
  goes_tells b' e takes full = tells b b' e here takes full refl (ap (λ (w : Walking). record w { bucket = Some b' }) view)

  pub goes_waits : (b' : Bucket) (e : Entry) → TakesNext b e b' → WantsPage b' → GoesTo at None (record { rest = rest; bucket = Some b'; later = later; entry = Some e })
  goes_waits b' e takes spent = waits b b' e here takes spent refl (ap (λ (w : Walking). record w { bucket = Some b'; entry = Some e }) view)

  pub goes_closes : (b' : Bucket) (new : Walking) → (b.mine.0 ≡ []) × (b.theirs.0 ≡ []) → ClosesBucket (record { rest = rest; bucket = Some b'; later = later; entry = entry }) new → GoesTo at None new
  goes_closes b' new none closed = closes b here none.0 none.1 refl (closes_same at (record { rest = rest; bucket = Some b'; later = later; entry = entry }) new (ap (λ (w : Walking). w.later) view) (ap (λ (w : Walking). w.rest) view) closed)

-- ---- with what was told

module _ (at : Walking) (begun : ℕ) (paths : List (List ℕ)) (later : List Bucket) (entry : Option Entry) (asked : List PageQuestion) (mine theirs : List ListingValue)
    (view : record { rest = drop begun paths; bucket = None; later = later; entry = entry } ≡ at) (none : entry ≡ None) (is : asked ≡ map first_page (take 64 (drop begun paths)))
    (found : Option Bucket) (more : List Bucket) (all : opened_buckets asked mine theirs ≡ option_to_list found ++ more) (last : found ≡ None → opened_buckets asked mine theirs ≡ []) (some : opened_buckets asked mine theirs ≢ []) where
  counted : length asked ≡ length (take 64 (drop begun paths))
  counted = ap length is ∙ length-map (take 64 (drop begun paths)) first_page

  still : drop (begun + length asked) paths ≡ drop 64 (drop begun paths)
  still = ap (λ n. drop (begun + n) paths) counted ∙ drop_window begun 64 paths

  pub opens_within : begun ≤ length paths → begun + length asked ≤ length paths
  opens_within low =
      let a = counted in
      let b = length-take 64 (drop begun paths) in
      let c = length-drop begun paths in
      omega (arith, a, b, c, low)

  opens_found : (o : Option Bucket) → found ≡ o → (b : Bucket) × (found ≡ Some b)
  opens_found None is = absurd (some (last is))
  opens_found (Some b) is = (b, is)

  first : (b : Bucket) × (found ≡ Some b)
  first = opens_found found refl

  -- nothing is asked after it
  pub opens_quiet : (rest : List (List ℕ)) → [] ≡ pages_next found entry rest
  opens_quiet rest = λ i. pages_next (sym first.1 i) (sym none i) rest

  pub opens_sure : found ≡ None → (more ≡ []) × (entry ≡ None)
  opens_sure is_none = absurd (some (last is_none))

  pub opens_to : IsTold at mine theirs None (record { rest = drop (begun + length asked) paths; bucket = found; later = more; entry = entry })
  opens_to =
      let b = first.0 in
      let rest : drop begun paths ≡ at.rest = ap (λ (w : Walking). w.rest) view in
      let window : asked ≡ map first_page (take 64 at.rest) = is ∙ ap (λ r. map first_page (take 64 r)) rest in
      opens b more (sym (ap (λ (w : Walking). w.bucket) view))
      (ap (λ qs. opened_buckets qs mine theirs) (sym window) ∙ all ∙ ap (λ (o : Option Bucket). option_to_list o ++ more) first.1)
      refl (λ i. record { rest = (still ∙ ap (drop 64) rest) i; bucket = first.1 i; later = more; entry = none i })

module _ (at : Walking) (mine theirs : List ListingValue) (e : Entry) (waits : at.entry ≡ Some e) where
  pub ends_mine : (o : Option Bucket) → at.bucket ≡ o → o ≢ None → (ComeAfter e.key mine → ⊥) → EndsTelling at mine theirs (Local BadBody)
  ends_mine None is some before = absurd (some refl)
  ends_mine (Some b) is some before = of_mine b e is waits before refl

  pub ends_theirs : (o : Option Bucket) → at.bucket ≡ o → o ≢ None → (ComeAfter e.key theirs → ⊥) → EndsTelling at mine theirs (Peer BadBody)
  ends_theirs None is some before = absurd (some refl)
  ends_theirs (Some b) is some before = of_theirs b e is waits before refl

  pub fills_to : (o : Option Bucket) → at.bucket ≡ o → o ≢ None → (found : Option Entry) (new : Walking) → ComeAfter e.key mine → ComeAfter e.key theirs → found ≡ at.entry
      → IfSome at.bucket (λ b. new ≡ record at { bucket = Some (filled_both b mine theirs); entry = None }) → IsTold at mine theirs found new
  fills_to None is some found new after after' told same = absurd (some refl)
  fills_to (Some b) is some found new after after' told same =
      fills b e is waits after after' (told ∙ waits) (subst (λ (o : Option Bucket). IfSome o (λ b. new ≡ record at { bucket = Some (filled_both b mine theirs); entry = None })) is same)
