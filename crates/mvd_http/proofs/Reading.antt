-- Siblings of a line, read one after the other.
use Rattle.std.proofs.Common.{◌≡◌, ◌∙◌, ℕ, ◌+◌, ◌<◌, ◌≤◌, Bool, true, false, cond, T, List, [], ◌∷◌, ◌++◌, drop, get_or, length, Option, None, Some, option_map, Result, Ok, Err, refl, sym, ap, subst, append_assoc, arith, codes, zero, suc, map, take, Bor, is_some}
use Rattle.std.specs.Prelude.{◌&&◌, ◌==◌, nat_le, option_and_then}
use Rattle.std.specs.List.{list_all}
use Rattle.std.specs.FinSet.{contains}
use Rattle.std.specs.FinMap.{is_sorted}
use Rattle.std.specs.FinMap.Entries.{below_all}
use Rattle.std.specs.Ordering.{is_lt}
use Rattle.std.proofs.lemmas.Bool.Decides.{nat_tests}
use Rattle.std.proofs.lemmas.List.{append-nil, at_drop_all, drop_more, map_push, take_more}
use Rattle.serde_json.specs.Data.{Data, Items, no_items, item, null, boolean, number, string, array, object, depth, items_depth}
use Rattle.serde_json.specs.Find.{as_array, as_object, as_str, get}
use Rattle.serde_json.specs.Read.{max_depth}
use Rattle.serde_json.specs.View.{items_view, view}
use Rattle.serde_json.specs.declared.value.Value.{Value}
use Rattle.mvd_dots.specs.Context.{DotSet}
use Rattle.mvd_dots.specs.Dot.{DotValue, dot_cmp}
use Rattle.mvd_dots.specs.declared.refusals.Refusal.{Refusal}
use Rattle.mvd_dots.specs.declared.refusals.Refusal.TheVariants.{BadBody}
use Rattle.mvd_keys.proofs.Lists.{and_true}
use Rattle.mvd_keys.proofs.Parts.{holds, is_true, parts_of_tests}
use Rattle.mvd_keys.proofs.Rising.{Pair, below_less, both_true, less_of}
use Rattle.mvd_keys.specs.Path.{is_digit, is_path, path_of}
use Rattle.mvd_keys.specs.State.{AreParts, pairs_of}
use Rattle.mvd_keys.specs.declared.siblings.Sibling.{Sibling}
use Rattle.mvd_wire.proofs.Laws.{ok_is, passed_ok}
use Rattle.mvd_wire.specs.Codecs.{comes_after}
use Rattle.mvd_wire.specs.declared.request.Request.{Request}
use Rattle.mvd_http.proofs.Lines.{within}
use Rattle.mvd_http.specs.Asked.{digit_in, node_or_keys, paths_asked}
use Rattle.mvd_http.specs.Dots.{dot_in}
use Rattle.mvd_http.specs.Json.{digit_letter}
use Rattle.mvd_http.specs.Members.{member_count_of, text_if}
use Rattle.mvd_http.specs.Pushed.{SiblingValue, StateValue, are_siblings, document_told, dot_after, sibling_of, sibling_read, sibling_said, sibling_with, siblings_read, state_line_of, state_said, state_with}
use Rattle.mvd_http.specs.Seen.{then_read}
use Rattle.mvd_http.specs.declared.pushed.SiblingLine.{SiblingLine}
use Rattle.mvd_http.specs.declared.pushed.StateLine.{StateLine}

read_ok : {A B : Type 0} (r : Result A Refusal) (f : A → Result B Refusal) (b : B) → then_read r f ≡ Ok b → (a : A) × (r ≡ Ok a) × (f a ≡ Ok b)
read_ok (Ok a) f b is = (a, refl, is)
read_ok (Err e) f b is = absurd cc

-- ---- what was read before, and what is still read

abbrev pub behind : {X : Type 0} → List X → Result (List X) Refusal → Result (List X) Refusal
behind front read = then_read read (λ ps. Ok (front ++ ps))

pub starts : {X : Type 0} (read : Result (List X) Refusal) → behind [] read ≡ read
starts (Ok ps) = refl
starts (Err e) = refl

regroup : {X : Type 0} (front : List X) (p : X) (read : Result (List X) Refusal) → behind front (then_read read (λ ps. Ok (p ∷ ps))) ≡ behind (front ++ p ∷ []) read
regroup {X} front p (Ok ps) = ap (λ (qs : List X). Ok qs) (simp append_assoc)
regroup front p (Err e) = refl

module _ (dots : DotSet) (values : List Value) where
  abbrev pub left_from : Option DotValue → ℕ → Result (List Pair) Refusal
  left_from previous i = siblings_read dots previous (items_view (drop i values))

  next_read : (previous : Option DotValue) (i : ℕ) (v : Value) → i < length values → v ≡ get_or values i v
      → left_from previous i ≡ then_read (sibling_read dots previous (sibling_of (view v))) (λ s. then_read (left_from (Some s.0) (i + 1)) (λ ss. Ok (s ∷ ss)))
  unfolding siblings_read
  next_read previous i v low is =
      ap (λ (vs : List Value). siblings_read dots previous (items_view vs)) (drop_more values i v low ∙ ap (λ (x : Value). x ∷ drop (i + 1) values) (sym is))

  pub goes_on : (previous : Option DotValue) (front : List Pair) (i : ℕ) (v : Value) (p : Pair) (total : Result (List Pair) Refusal) → i < length values → v ≡ get_or values i v
      → sibling_read dots previous (sibling_of (view v)) ≡ Ok p → behind front (left_from previous i) ≡ total → behind (front ++ p ∷ []) (left_from (Some p.0) (i + 1)) ≡ total
  goes_on previous front i v p total low is one so_far =
      sym (regroup front p (left_from (Some p.0) (i + 1)))
      ∙ sym (ap (behind front) (next_read previous i v low is ∙ ap (λ r. then_read r (λ s. then_read (left_from (Some s.0) (i + 1)) (λ ss. Ok (s ∷ ss)))) one))
      ∙ so_far

  pub ends : (previous : Option DotValue) (front : List Pair) (i : ℕ) (v : Value) (e : Refusal) (total : Result (List Pair) Refusal) → i < length values → v ≡ get_or values i v
      → sibling_read dots previous (sibling_of (view v)) ≡ Err e → behind front (left_from previous i) ≡ total → total ≡ Err e
  ends previous front i v e total low is one so_far =
      sym so_far
      ∙ ap (behind front) (next_read previous i v low is ∙ ap (λ r. then_read r (λ s. then_read (left_from (Some s.0) (i + 1)) (λ ss. Ok (s ∷ ss)))) one)

  pub is_done : (previous : Option DotValue) (front : List Pair) (i : ℕ) (total : Result (List Pair) Refusal) → drop i values ≡ []
      → behind front (left_from previous i) ≡ total → total ≡ Ok front
  unfolding siblings_read
  is_done previous front i total none so_far =
      sym so_far ∙ ap (λ (vs : List Value). behind front (siblings_read dots previous (items_view vs))) none ∙ ap (λ (ps : List Pair). Ok ps) (append-nil front)

-- ---- what was read makes a state with the context

sibling_after : (dots : DotSet) (previous : Option DotValue) (o : Option SiblingValue) (p : Pair) → sibling_read dots previous o ≡ Ok p → (comes_after previous p.0 ≡ true) × (contains dots p.0 ≡ true)
sibling_after dots previous None p is = absurd cc
sibling_after dots previous (Some s) p is =
    let (d, one, two) = read_ok (dot_in s.dot) _ p is in
    let (dot, passed, three) = read_ok (dot_after dots previous d) _ p two in
    let (text, told, both) = read_ok (document_told s.document s.text) (λ text. Ok (dot, text)) p three in
    let (test, same) = passed_ok (comes_after previous d && contains dots d) BadBody d dot passed in
    let (after, seen) = and_true (comes_after previous d) (contains dots d) test in
    let first : d ≡ p.0 = same ∙ ap (λ (q : Pair). q.0) (ok_is (dot, text) p both) in
    subst (λ (x : DotValue). (comes_after previous x ≡ true) × (contains dots x ≡ true)) first (after, seen)

abbrev AreAfter : DotSet → Option DotValue → List Pair → Type 0
AreAfter dots previous [] = Unit {0}
AreAfter dots previous (p ∷ ps) = ((comes_after previous p.0 ≡ true) × (contains dots p.0 ≡ true)) × AreAfter dots (Some p.0) ps

are_after : (dots : DotSet) (previous : Option DotValue) (ds : Items) (ps : List Pair) → siblings_read dots previous ds ≡ Ok ps → AreAfter dots previous ps
unfolding siblings_read
are_after dots previous no_items [] is = tt
are_after dots previous no_items (p ∷ ps) is = absurd cc
are_after dots previous (item d ds) qs is =
    let (s, one, rest) = read_ok (sibling_read dots previous (sibling_of d)) _ qs is in
    let (ss, others, both) = read_ok (siblings_read dots (Some s.0) ds) (λ ss. Ok (s ∷ ss)) qs rest in
    subst (AreAfter dots previous) (ok_is (s ∷ ss) qs both) (sibling_after dots previous (sibling_of d) s one, are_after dots (Some s.0) ds ss others)

below : (dots : DotSet) (d : DotValue) (ps : List Pair) → AreAfter dots (Some d) ps → T (below_all dot_cmp d ps)
below dots d [] after = tt
below dots d (p ∷ ps) after =
    let less : T (is_lt (dot_cmp d p.0)) = holds _ after.0.0 in
    both_true _ _ less (below_less d p.0 ps (less_of _ less) (below dots p.0 ps after.1))

sorted : (dots : DotSet) (previous : Option DotValue) (ps : List Pair) → AreAfter dots previous ps → T (is_sorted dot_cmp ps)
sorted dots previous [] after = tt
sorted dots previous (p ∷ ps) after = both_true _ _ (below dots p.0 ps after.1) (sorted dots (Some p.0) ps after.1)

seen : (dots : DotSet) (previous : Option DotValue) (ss : List Sibling) → AreAfter dots previous (pairs_of ss) → list_all (λ s. contains dots s.dot) ss ≡ true
seen dots previous [] after = refl
seen dots previous (s ∷ ss) after = rw (after.0.1) (seen dots (Some s.dot) ss after.1)

pub read_parts : (dots : DotSet) (ds : Items) (ss : List Sibling) → siblings_read dots None ds ≡ Ok (pairs_of ss) → AreParts ss dots
read_parts dots ds ss is =
    let after = are_after dots None ds (pairs_of ss) is in
    parts_of_tests dots ss (is_true _ (sorted dots None (pairs_of ss) after)) (seen dots None ss after)

-- ---- what stands in a line nests no deeper than the line

array_within : (d : Data) (ds : Items) → as_array d ≡ Some ds → items_depth ds ≤ depth d
array_within null ds is = absurd cc
array_within (boolean b) ds is = absurd cc
array_within (number n) ds is = absurd cc
array_within (string s) ds is = absurd cc
array_within (array es) ds is = let same : items_depth es ≡ items_depth ds = ap items_depth (some_is es ds is) in omega arith
  where
    some_is : (es ds : Items) → Some es ≡ Some ds → es ≡ ds
    some_is es ds e = cc
array_within (object ms) ds is = absurd cc

pub item_within : (values : List Value) (i : ℕ) (v : Value) → i < length values → v ≡ get_or values i v → depth (view v) ≤ items_depth (items_view values)
item_within [] i v low is = absurd (omega arith)
item_within (w ∷ values) zero v low is = let same : depth (view v) ≡ depth (view w) = ap (λ (x : Value). depth (view x)) is in omega arith
item_within (w ∷ values) (suc i) v low is = let rest = item_within values i v (omega arith) is in omega arith

state_taken : (count : ℕ) (key context : Option (List ℕ)) (siblings : Option Items) (l : StateValue) → state_with count key context siblings ≡ Some l → siblings ≡ Some l.siblings
state_taken count (Some key) (Some context) (Some siblings) l is = ap Some (of_taken ((count == 3) && are_siblings siblings) (record { key = key; context = context; siblings = siblings }) l is)
  where
    of_taken : (b : Bool) (r l : StateValue) → cond b (Some r) None ≡ Some l → r.siblings ≡ l.siblings
    of_taken true r l e = cc
    of_taken false r l e = absurd cc
state_taken count None context siblings l is = absurd cc
state_taken count (Some key) None siblings l is = absurd cc
state_taken count (Some key) (Some context) None l is = absurd cc

member_array : (k : List ℕ) (d : Data) (ds : Items) → option_and_then as_array (get k d) ≡ Some ds → items_depth ds ≤ depth d
member_array k d ds is = of_member (get k d) refl is
  where
    of_member : (o : Option Data) → get k d ≡ o → option_and_then as_array o ≡ Some ds → items_depth ds ≤ depth d
    of_member None found e = absurd cc
    of_member (Some inner) found e = let first = array_within inner ds e in let second = within k d inner found in omega arith

pub state_nests : (line : StateLine) (d : Data) → Some (state_said line) ≡ state_line_of d → depth d ≤ max_depth → items_depth (items_view line.siblings.now) ≤ max_depth
state_nests line d is few =
    let inner = member_array (codes "siblings") d (items_view line.siblings.now) (state_taken _ _ _ _ (state_said line) (sym is)) in omega arith

sibling_taken : (count : ℕ) (dot : Option (List ℕ)) (document : Option Data) (text : Option (Option (List ℕ))) (s : SiblingValue) → sibling_with count dot document text ≡ Some s → document ≡ s.document
sibling_taken count (Some dot) document (Some text) s is = of_taken _ (record { dot = dot; document = document; text = text }) s is
  where
    of_taken : (b : Bool) (r s : SiblingValue) → cond b (Some r) None ≡ Some s → r.document ≡ s.document
    of_taken true r s e = cc
    of_taken false r s e = absurd cc
sibling_taken count None document text s is = absurd cc
sibling_taken count (Some dot) document None s is = absurd cc

pub sibling_nests : (line : SiblingLine) (d : Data) → Some (sibling_said line) ≡ sibling_of d → depth d ≤ max_depth → (v : Bor Value) → line.document ≡ Some v → depth (view v.now) ≤ max_depth
sibling_nests line d is few v of_line =
    let there : get (codes "document") d ≡ Some (view v.now) = sibling_taken (member_count_of (as_object d)) (option_and_then as_str (get (codes "dot") d)) (get (codes "document") d) (text_if (get (codes "text") d)) (sibling_said line) (sym is) ∙ ap (λ o. option_map (λ (v : Bor Value). view v.now) o) of_line in
    let inner = within (codes "document") d (view v.now) there in omega arith

-- ---- whether each has the form of a sibling

pub form_next : (values : List Value) (i : ℕ) (v : Value) → i < length values → v ≡ get_or values i v → are_siblings (items_view (drop i values)) ≡ (is_some (sibling_of (view v)) && are_siblings (items_view (drop (i + 1) values)))
form_next values i v low is = ap (λ (vs : List Value). are_siblings (items_view vs)) (drop_more values i v low ∙ ap (λ (x : Value). x ∷ drop (i + 1) values) (sym is))

-- ---- paths, one after the other

module _ (parts : List (List ℕ)) where
  abbrev pub paths_left : ℕ → Result (List (Result Request Refusal)) Refusal
  paths_left i = paths_asked (drop i parts)

  next_path : (i : ℕ) (part : List ℕ) → (i < length parts) × (part ≡ get_or parts i part)
      → paths_left i ≡ then_read (path_of (map digit_in part)) (λ path. then_read (paths_left (i + 1)) (λ asks. Ok (Ok (node_or_keys path) ∷ asks)))
  unfolding paths_asked
  next_path i part at = ap paths_asked (drop_more parts i part at.0 ∙ ap (λ (x : List ℕ). x ∷ drop (i + 1) parts) (sym at.1))

  pub path_on : (front : List (Result Request Refusal)) (i : ℕ) (part : List ℕ) (request : Request) (total : Result (List (Result Request Refusal)) Refusal) → (i < length parts) × (part ≡ get_or parts i part)
      → then_read (path_of (map digit_in part)) (λ p. Ok (node_or_keys p)) ≡ Ok request → behind front (paths_left i) ≡ total → behind (front ++ Ok request ∷ []) (paths_left (i + 1)) ≡ total
  path_on front i part request total at one so_far =
      let (path, read, is) = read_ok (path_of (map digit_in part)) (λ p. Ok (node_or_keys p)) request one in
      let step : paths_left i ≡ then_read (paths_left (i + 1)) (λ asks. Ok (Ok request ∷ asks)) =
      next_path i part at ∙ ap (λ r. then_read r (λ p. then_read (paths_left (i + 1)) (λ asks. Ok (Ok (node_or_keys p) ∷ asks)))) read
      ∙ ap (λ (q : Request). then_read (paths_left (i + 1)) (λ asks. Ok (Ok q ∷ asks))) (ok_is (node_or_keys path) request is) in
      sym (regroup front (Ok request) (paths_left (i + 1))) ∙ sym (ap (behind front) step) ∙ so_far

  err_read : (r : Result (List ℕ) Refusal) (e : Refusal) → then_read r (λ p. Ok (node_or_keys p)) ≡ Err e → r ≡ Err e
  err_read (Ok p) e is = absurd cc
  err_read (Err f) e is = let same : f ≡ e = cc in ap (λ (g : Refusal). Err g) same

  pub path_ends : (front : List (Result Request Refusal)) (i : ℕ) (part : List ℕ) (e : Refusal) (total : Result (List (Result Request Refusal)) Refusal) → (i < length parts) × (part ≡ get_or parts i part)
      → then_read (path_of (map digit_in part)) (λ p. Ok (node_or_keys p)) ≡ Err e → behind front (paths_left i) ≡ total → total ≡ Err e
  path_ends front i part e total at one so_far =
      sym so_far ∙ ap (behind front) (next_path i part at ∙ ap (λ r. then_read r (λ p. then_read (paths_left (i + 1)) (λ asks. Ok (Ok (node_or_keys p) ∷ asks)))) (err_read (path_of (map digit_in part)) e one))

  pub paths_done : (front : List (Result Request Refusal)) (i : ℕ) (total : Result (List (Result Request Refusal)) Refusal) → length parts ≤ i → behind front (paths_left i) ≡ total → total ≡ Ok front
  unfolding paths_asked
  paths_done front i total ended so_far =
      sym so_far ∙ ap (behind front) (at_drop_all paths_asked parts i ended) ∙ ap (λ (ps : List (Result Request Refusal)). Ok ps) (append-nil front)

-- ---- the digits of a path

pub digit_small : (ds : List ℕ) (i d : ℕ) → list_all is_digit ds ≡ true → i < length ds → d ≡ get_or ds i d → d < 16
digit_small [] i d all low is = absurd (omega arith)
digit_small (x ∷ xs) zero d all low is = let first : x < 16 = small x (and_true (is_digit x) (list_all is_digit xs) all).0 in let same : d ≡ x = is in omega arith
  where
    small : (x : ℕ) → is_digit x ≡ true → x < 16
    small x test = grind (arith, nat_tests)
digit_small (x ∷ xs) (suc i) d all low is = digit_small xs i d (and_true (is_digit x) (list_all is_digit xs) all).1 (omega arith) is

pub path_digit : (ds : List ℕ) (i d : ℕ) → is_path ds ≡ true → i < length ds → d ≡ get_or ds i d → d < 16
path_digit ds i d path low is = digit_small ds i d (and_true (nat_le (length ds) 3) (list_all is_digit ds) path).1 low is

pub digits_on : (old s0 s1 ds : List ℕ) (i d : ℕ) → i < length ds → d ≡ get_or ds i d → s0 ≡ old ++ map digit_letter (take i ds) → s1 ≡ s0 ++ digit_letter d ∷ [] → s1 ≡ old ++ map digit_letter (take (i + 1) ds)
digits_on old s0 s1 ds i d low is was now =
    now ∙ ap (λ t. t ++ digit_letter d ∷ []) was ∙ append_assoc old (map digit_letter (take i ds)) (digit_letter d ∷ [])
    ∙ ap (λ t. old ++ t) (sym (map_push digit_letter (take i ds) d) ∙ ap (map digit_letter) (sym (take_more ds i d low ∙ ap (λ x. take i ds ++ x ∷ []) (sym is))))
