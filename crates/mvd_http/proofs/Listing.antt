-- The entries of a page that are told, and how far it goes.
use Rattle.std.proofs.Common.{◌≡◌, ◌≢◌, ◌∙◌, ◌==◌, ℕ, zero, suc, ◌+◌, ◌-◌, ◌<◌, ◌≤◌, Bool, true, false, T, ◌&&◌, cond, List, [], ◌∷◌, ◌++◌, length, get_or, take, drop, filter, Option, None, Some, refl, sym, ap, append_assoc, append-nil, arith, codes}
use Rattle.std.specs.Prelude.{◌||◌, nat_lt}
use Rattle.std.specs.FinMap.{entries, get, get-entries}
use Rattle.std.specs.FinMap.{is_sorted}
use Rattle.std.specs.FinMap.Entries.{below_all, find}
use Rattle.std.specs.List.{AllWithin}
use Rattle.std.specs.List.Sorted.{IsNonDecreasingBy}
use Rattle.std.specs.declared.cmp.Ordering.{Ordering}
use Rattle.std.specs.declared.cmp.Ordering.TheVariants.{Less, Equal, Greater}
use Rattle.std.specs.Ordering.{eq_by_cmp, is_eq, is_lt, ordering_index, ordering_reverse}
use Rattle.sha2.specs.Sha256.{sha256}
use Rattle.std.proofs.lemmas.List.Elements.{filter_more}
use Rattle.std.proofs.lemmas.List.Sorted.{searchable_from_sorted}
use Rattle.std.proofs.lemmas.List.{at_drop_all, drop_more, length_push, length-take-le, take_all, take_more}
use Rattle.std.proofs.lemmas.Bool.Decides.{nat_tests}
use Rattle.mvd_dots.specs.Dot.{DotValue, dot_cmp}
use Rattle.mvd_dots.proofs.Sets.{dot_total, same_dot, tied_dot}
use Rattle.mvd_keys.specs.State.{State, Text, pairs_of}
use Rattle.mvd_keys.specs.Writes.{Key}
use Rattle.mvd_keys.specs.declared.siblings.Sibling.{Sibling}
use Rattle.mvd_http.specs.Json.{comma_if, commaed, digest_json, document_json, led_if, next_text, next_text_of}
use Rattle.mvd_keys.specs.declared.places.Place.{Place}
use Rattle.mvd_http.specs.Listed.{Serves, digest_told, document_at, document_if, front, place_in, place_told, spelling as spelled, state_digest}
use Rattle.mvd_http.specs.declared.question.Spelling.{Spelling}
use Rattle.mvd_http.proofs.Counting.{commaed_more}
use Rattle.mvd_http.proofs.Steps.{steps2, steps5}

-- ---- how far it goes

module _ {X : Type 0} (bytes : X → ℕ) where
  first : (room : ℕ) (x : X) (rest : List X) → room ≢ 0 → front bytes room (x ∷ rest) ≡ x ∷ front bytes (room - bytes x) rest
  unfolding front
  first room x rest some =
      let left : room == 0 ≡ false = grind (arith, nat_tests) in ap (λ b. cond b [] (x ∷ front bytes (room - bytes x) rest)) left

  none : (xs : List X) → front bytes 0 xs ≡ []
  unfolding front
  none [] = refl
  none (x ∷ xs) = refl

  -- one entry more
  pub front_on : (xs whole : List X) (i room left : ℕ) (x : X) → i < length xs → x ≡ get_or xs i x → room ≢ 0 → left ≡ room - bytes x
      → whole ≡ take i xs ++ front bytes room (drop i xs) → whole ≡ take (i + 1) xs ++ front bytes left (drop (i + 1) xs)
  front_on xs whole i room left x within is some now so_far =
      let rest = front bytes left (drop (i + 1) xs) in
      so_far
      ∙ ap (λ ys. take i xs ++ front bytes room ys) (drop_more xs i x within ∙ ap (λ (y : X). y ∷ drop (i + 1) xs) (sym is))
      ∙ ap (λ ys. take i xs ++ ys) (first room x (drop (i + 1) xs) some ∙ ap (λ n. x ∷ front bytes n (drop (i + 1) xs)) (sym now))
      ∙ sym (append_assoc (take i xs) (x ∷ []) rest)
      ∙ ap (λ ys. ys ++ rest) (ap (λ (y : X). take i xs ++ y ∷ []) is ∙ sym (take_more xs i x within))

  -- no room is left
  pub front_stop : (xs whole : List X) (i room : ℕ) → room ≡ 0 → whole ≡ take i xs ++ front bytes room (drop i xs) → take i xs ≡ whole
  front_stop xs whole i room full so_far =
      sym (so_far ∙ ap (λ n. take i xs ++ front bytes n (drop i xs)) full ∙ ap (λ ys. take i xs ++ ys) (none (drop i xs)) ∙ append-nil (take i xs))

  -- no entry is left
  pub front_end : (xs whole : List X) (i room : ℕ) → length xs ≤ i → whole ≡ take i xs ++ front bytes room (drop i xs) → take (length xs) xs ≡ whole
  unfolding front
  front_end xs whole i room ended so_far =
      take_all (length xs) xs (omega arith)
      ∙ sym (so_far ∙ ap (λ ys. take i xs ++ front bytes room ys) (at_drop_all (λ ys. ys) xs i ended) ∙ append-nil (take i xs) ∙ take_all i xs ended)

-- what is left out takes no room
pub unweighed : (room : ℕ) (b : Bool) (weight : ℕ) → b ≡ false → room ≡ room - cond b weight 0
unweighed room b weight out = let none : room ≡ room - 0 = omega arith in none ∙ ap (λ (c : Bool). room - cond c weight 0) (sym out)

-- ---- what is told

pub digest_put : (old s1 s2 bytes digest : List ℕ) (key : Key) (state : State) (wanted : Bool) → wanted ≡ true → bytes ≡ spelled key state → digest ≡ sha256 bytes → s1 ≡ old ++ codes ",\"digest\":" → s2 ≡ s1 ++ digest_json digest
    → s2 ≡ old ++ digest_told wanted key state
unfolding state_digest
digest_put old s1 s2 bytes digest key state wanted sure spelled hashed e1 e2 =
    steps2 old s1 s2 (codes ",\"digest\":") (digest_json digest) e1 e2
    ∙ ap (λ d. old ++ (codes ",\"digest\":" ++ digest_json d)) (hashed ∙ ap sha256 spelled)
    ∙ ap (λ b. old ++ digest_told b key state) (sym sure)

module _ {X : Type 0} (p : X → Bool) (f : X → List ℕ) (xs : List X) (i : ℕ) (x : X) where
  more : i < length xs → x ≡ get_or xs i x → filter p (take (i + 1) xs) ≡ filter p (take i xs) ++ cond (p x) (x ∷ []) []
  more within is = filter_more p xs i x within ∙ ap (λ (y : X). filter p (take i xs) ++ cond (p y) (y ∷ []) []) (sym is)

  -- the same text, where the entry is left out
  pub same_told : i < length xs → x ≡ get_or xs i x → p x ≡ false → filter p (take (i + 1) xs) ≡ filter p (take i xs)
  same_told within is out =
      more within is ∙ ap (λ b. filter p (take i xs) ++ cond b (x ∷ []) []) out ∙ append-nil (filter p (take i xs))

  -- the text so far, with the entry
  pub told_more : (old s0 s1 : List ℕ) (b : Bool) → i < length xs → x ≡ get_or xs i x → p x ≡ true
      → s0 ≡ old ++ commaed f (filter p (take i xs)) → b ≡ (length (filter p (take i xs)) == 0) → s1 ≡ s0 ++ led_if b f x
      → (s1 ≡ old ++ commaed f (filter p (take (i + 1) xs))) × (false ≡ (length (filter p (take (i + 1) xs)) == 0))
  told_more old s0 s1 b within is sure was at_first now =
      let all = more within is ∙ ap (λ b. filter p (take i xs) ++ cond b (x ∷ []) []) sure in
      let so_far = filter p (take i xs) in
      let size : length (so_far ++ x ∷ []) ≡ length so_far + 1 = length_push so_far x in (
        now ∙ ap (λ t. t ++ led_if b f x) was ∙ append_assoc old (commaed f so_far) (led_if b f x)
            ∙ ap (λ c. old ++ (commaed f so_far ++ led_if c f x)) at_first
            ∙ ap (λ t. old ++ t) (sym (commaed_more f so_far x) ∙ ap (commaed f) (sym all)),
        let some : length (so_far ++ x ∷ []) == 0 ≡ false = grind (arith, nat_tests) in sym (ap (λ ys. length ys == 0) all ∙ some),
      )

-- ---- entries that are all told

led_is : {X : Type 0} (b : Bool) (f : X → List ℕ) (x : X) → comma_if b ++ f x ≡ led_if b f x
led_is true f x = refl
led_is false f x = refl

-- the text so far, with one entry more
pub entry_on : {X : Type 0} (f : X → List ℕ) (xs : List X) (i : ℕ) (x : X) (old s0 s1 s2 : List ℕ) (b : Bool) → i < length xs → x ≡ get_or xs i x → s0 ≡ old ++ commaed f (take i xs) → b ≡ (i == 0)
    → s1 ≡ s0 ++ comma_if b → s2 ≡ s1 ++ f x → s2 ≡ old ++ commaed f (take (i + 1) xs)
entry_on f xs i x old s0 s1 s2 b within is so_far at_first e1 e2 =
    let count : length (take i xs) ≡ i = length-take-le i xs (omega arith) in
    e2
    ∙ ap (λ t. t ++ f x) (e1 ∙ ap (λ t. t ++ comma_if b) so_far)
    ∙ append_assoc (old ++ commaed f (take i xs)) (comma_if b) (f x)
    ∙ append_assoc old (commaed f (take i xs)) (comma_if b ++ f x)
    ∙ ap (λ t. old ++ (commaed f (take i xs) ++ t)) (led_is b f x ∙ ap (λ c. led_if c f x) (at_first ∙ ap (λ n. n == 0) (sym count)))
    ∙ ap (λ t. old ++ t) (sym (commaed_more f (take i xs) x) ∙ ap (commaed f) (ap (λ y. take i xs ++ y ∷ []) is ∙ sym (take_more xs i x within)))

-- ---- the document of a dot

both_true : (a b : Bool) → T (a && b) → T a × T b
both_true true b h = (tt, h)
both_true false b h = absurd h

less : (o : Ordering) → T (is_lt o) → o ≡ Less
less Less h = refl
less Equal h = absurd h
less Greater h = absurd h

equal : (o : Ordering) → o ≡ Equal → is_eq o ≡ true
equal o e = ap is_eq e

less_after : (dot : DotValue) (ss : List Sibling) → T (below_all dot_cmp dot (pairs_of ss)) → (k : ℕ) (d : Sibling) → k < length ss → dot_cmp dot (get_or ss k d).dot ≡ Less
less_after dot [] h k d l = absurd (omega arith)
less_after dot (s ∷ ss) h zero d l = less _ (both_true _ _ h).0
less_after dot (s ∷ ss) h (suc k) d l = less_after dot ss (both_true _ _ h).1 k d (omega arith)

less_far : (ss : List Sibling) → T (is_sorted dot_cmp (pairs_of ss)) → (i j : ℕ) (d : Sibling) → i < j → j < length ss → dot_cmp (get_or ss i d).dot (get_or ss j d).dot ≡ Less
less_far [] rises i j d l h = absurd (omega arith)
less_far (s ∷ ss) rises i zero d l h = absurd (omega arith)
less_far (s ∷ ss) rises zero (suc j) d l h = less_after s.dot ss (both_true _ _ rises).0 j d (omega arith)
less_far (s ∷ ss) rises (suc i) (suc j) d l h = less_far ss (both_true _ _ rises).1 i j d (omega arith) (omega arith)

-- the dots rise, as a search by halving asks
pub searchable : (ss : List Sibling) → T (is_sorted dot_cmp (pairs_of ss)) → (dot : DotValue) → IsNonDecreasingBy (λ (s : Sibling). ordering_index (dot_cmp s.dot dot)) ss
searchable ss rises dot =
    searchable_from_sorted dot_total (λ (s : Sibling). s.dot) ss dot (λ k d l h.
    ap is_lt (dot_total.antisymm (get_or ss (k + 1) d).dot (get_or ss k d).dot ∙ ap ordering_reverse (less_far ss rises k (k + 1) d (omega arith) h)))

module _ (dot : DotValue) where
  abbrev pub found : List Sibling → Option Text
  found ss = find dot_cmp dot (pairs_of ss)

  -- the first sibling has another dot
  pass : (s : Sibling) (ss : List Sibling) (o : Ordering) → dot_cmp s.dot dot ≡ o → is_eq (ordering_reverse o) ≡ false → found ss ≡ found (s ∷ ss)
  pass s ss o e other =
      sym (ap (λ b. cond b (Some s.document) (found ss)) (ap is_eq (dot_total.antisymm dot s.dot ∙ ap ordering_reverse e) ∙ other))

  -- it is there
  pub found_at : (ss : List Sibling) (k : ℕ) (d : Sibling) → T (is_sorted dot_cmp (pairs_of ss)) → k < length ss → dot_cmp (get_or ss k d).dot dot ≡ Equal → Some (get_or ss k d).document ≡ found ss
  found_at [] k d rises l e = absurd (omega arith)
  found_at (s ∷ ss) zero d rises l e =
      sym (ap (λ b. cond b (Some s.document) (found ss)) (ap (λ x. eq_by_cmp dot_cmp x s.dot) (sym (same_dot s.dot dot (equal _ e))) ∙ tied_dot s.dot))
  found_at (s ∷ ss) (suc k) d rises l e =
      let parts = both_true _ _ rises in
      let above : dot_cmp s.dot dot ≡ Less = ap (dot_cmp s.dot) (sym (same_dot (get_or ss k d).dot dot (equal _ e))) ∙ less_after s.dot ss parts.0 k d (omega arith) in
      found_at ss k d parts.1 (omega arith) e ∙ pass s ss Less above refl

  -- it is not there
  pub found_none : (ss : List Sibling) (k : ℕ) → AllWithin (λ (s : Sibling). dot_cmp s.dot dot ≡ Less) ss 0 k → AllWithin (λ (s : Sibling). dot_cmp s.dot dot ≡ Greater) ss k (length ss) → None ≡ found ss
  found_none [] k below above = refl
  found_none (s ∷ ss) zero below above =
      found_none ss zero (λ i d l h. absurd (omega arith)) (λ i d l h. above (suc i) d (omega arith) (omega arith))
      ∙ pass s ss Greater (above 0 s (omega arith) (omega arith)) refl
  found_none (s ∷ ss) (suc k) below above =
      found_none ss k (λ i d l h. below (suc i) d (omega arith) (omega arith)) (λ i d l h. above (suc i) d (omega arith) (omega arith))
      ∙ pass s ss Less (below 0 s (omega arith) (omega arith)) refl

module _ (spelling : Spelling) (dot : DotValue) (state : State) (pairs : List (DotValue × Text)) (same : pairs ≡ entries state.siblings) where
  found_in : (o : Option Text) → o ≡ find dot_cmp dot pairs → o ≡ get state.siblings dot
  found_in o is = is ∙ ap (find dot_cmp dot) same ∙ sym (get-entries state.siblings dot)

  -- there is none
  pub document_none : (old : List ℕ) → None ≡ find dot_cmp dot pairs → old ≡ old ++ document_at spelling dot state
  document_none old none = sym (append-nil old) ∙ ap (λ o. old ++ document_if spelling o) (found_in None none)

  -- it is told
  pub document_put : (old s1 s2 : List ℕ) (text : Text) → Some text ≡ find dot_cmp dot pairs → s1 ≡ old ++ codes "," → s2 ≡ s1 ++ document_json spelling text → s2 ≡ old ++ document_at spelling dot state
  document_put old s1 s2 text some e1 e2 =
      steps2 old s1 s2 (codes ",") (document_json spelling text) e1 e2 ∙ ap (λ o. old ++ document_if spelling o) (found_in (Some text) some)

-- a state that serves tells the place
pub served : (documents : Option Spelling) (states : Key → State) (state : State) (place : Place) → Serves documents states state place.key → place_in documents state place ≡ place_told documents states place
served None states state place is = refl
served (Some spelling) states state place is = ap (λ (s : State). place_in (Some spelling) s place) is

-- ---- a page

pub page_put : {X : Type 0} (f mark : X → List ℕ) (name : List ℕ) (first whole fr : List X) (count : ℕ) (more goes_on : Bool) (old s1 s2 s3 s4 s5 : List ℕ) → count ≤ length first → take count first ≡ fr → goes_on ≡ (more || nat_lt count (length whole))
    → s1 ≡ old ++ name → s2 ≡ s1 ++ commaed f (take count first) → s3 ≡ s2 ++ codes "]" → s4 ≡ s3 ++ next_text (next_text_of mark goes_on (take count first)) → s5 ≡ s4 ++ codes "}"
    → s5 ≡ old ++ (name ++ (commaed f fr ++ (codes "]" ++ (next_text (next_text_of mark (more || nat_lt (length fr) (length whole)) fr) ++ codes "}"))))
page_put {X} f mark name first whole fr count more goes_on old s1 s2 s3 s4 s5 within is on e1 e2 e3 e4 e5 =
    let size : count ≡ length fr = sym (length-take-le count first within) ∙ ap length is in
    steps5 old s1 s2 s3 s4 s5 _ _ _ _ _ e1 e2 e3 e4 e5
    ∙ ap (λ (ys : List X). old ++ (name ++ (commaed f ys ++ (codes "]" ++ (next_text (next_text_of mark goes_on ys) ++ codes "}"))))) is
    ∙ ap (λ (b : Bool). old ++ (name ++ (commaed f fr ++ (codes "]" ++ (next_text (next_text_of mark b fr) ++ codes "}"))))) (on ∙ ap (λ n. more || nat_lt n (length whole)) size)
