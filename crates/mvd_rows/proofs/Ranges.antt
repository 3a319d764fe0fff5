-- A whole number of a document fits an i64.
use Rattle.std.proofs.Common.{◌≡◌, ◌<◌, ◌≤◌, ℤ, ℕ, Bool, pos, negsuc, List, [], ◌∷◌, Option, Some, None, IfSome, option_map, option_and_then, refl, sym, true≢false, arith, true, false, ◌≤ℤ◌, ◌&&◌, Ordering, Less, Equal, Greater, nat_lt, nat_le, if◌then◌else◌, ◌^◌}
use Rattle.std.specs.Prelude.{⊤, unwrap_or}
use Rattle.std.proofs.lemmas.Int.{ints}
use Rattle.std.proofs.lemmas.Bool.Decides.{nat_tests}
use Rattle.std.specs.Ordering.{nat_cmp, match_ordering}
use Rattle.std.specs.Cmp.Lexicographic.{slice_cmp}
use Rattle.std.specs.Prelude.{Float, drop, slice_index, ◌==◌}
use Rattle.std.specs.Float.{binary64, float_is_finite}
use Rattle.fast_float.specs.Text.{Parts, scan, digits_of, with_sign, nearest, minus}
use Rattle.json.specs.Lex.{tokens}
use Rattle.json.specs.Json as json
use Rattle.serde_json.specs.Data.{Num, unsigned, negative, float, Data, null, boolean, number, string, array, object, Items, no_items, item, Members, no_members, member, put}
use Rattle.serde_json.specs.Find.{as_i64, as_number, get, get_member}
use Rattle.serde_json.specs.Read.{number_of, number_from, float_of, is_integer, of_json, of_items, of_members, max_depth, read}
use Rattle.mvd_docs.specs.Document.{whole_of, data_of}
use Rattle.mvd_docs.specs.Find.{find}
use Rattle.mvd_docs.specs.Name.{names_of}
use Rattle.mvd_keys.specs.State.{Text}
use Rattle.mvd_rows.specs.Names.{Field}

pub record Fits64 (w : ℤ) : Type 0 where
  pub least : negsuc 9223372036854775807 ≤ℤ w
  pub most : w ≤ℤ pos 9223372036854775807

abbrev NumFits : Num → Type 0
NumFits n = (w : ℤ) → as_i64 n ≡ Some w → Fits64 w

abbrev mutual
  Fit : Data → Type 0
  Fit null = ⊤
  Fit (boolean b) = ⊤
  Fit (number n) = NumFits n
  Fit (string s) = ⊤
  Fit (array ds) = FitItems ds
  Fit (object ms) = FitMembers ms

  FitItems : Items → Type 0
  FitItems no_items = ⊤
  FitItems (item d ds) = Fit d × FitItems ds

  FitMembers : Members → Type 0
  FitMembers no_members = ⊤
  FitMembers (member k d ms) = Fit d × FitMembers ms

if_some_map : {A B : Type 0} (P : A → Type 0) (Q : B → Type 0) (f : A → B) → ((a : A) → P a → Q (f a)) → (o : Option A) → IfSome o P → IfSome (option_map f o) Q
if_some_map P Q f k None x = tt
if_some_map P Q f k (Some a) x = k a x

if_some_and_then : {A B : Type 0} (P : A → Type 0) (Q : B → Type 0) (f : A → Option B) → ((a : A) → P a → IfSome (f a) Q) → (o : Option A) → IfSome o P → IfSome (option_and_then f o) Q
if_some_and_then P Q f k None x = tt
if_some_and_then P Q f k (Some a) x = k a x

anything : {A : Type 0} (o : Option A) → IfSome o (λ _. ⊤)
anything None = tt
anything (Some a) = tt

by_test : (P : Option Num → Type 0) (b : Bool) (x y : Option Num) → (b ≡ true → P x) → P y → P (if b then x else y)
by_test P true x y p q = p refl
by_test P false x y p q = q

last_test : (a b c : Bool) → (a && b && c) ≡ true → c ≡ true
last_test true true c h = h
last_test true false c h = absurd (true≢false (sym h))
last_test false b c h = absurd (true≢false (sym h))

fits-unsigned_by : (n : ℕ) (b : Bool) → nat_lt n (2 ^ 63) ≡ b → (w : ℤ) → (if b then Some (pos n) else None) ≡ Some w → Fits64 w
fits-unsigned_by n true below w e = let one : pos n ≡ w = cc in let h : n < 2 ^ 63 = grind (arith, nat_tests) in record { least = omega (arith, ints); most = omega (arith, ints) }
fits-unsigned_by n false below w e = cc

fits-unsigned : (n : ℕ) → NumFits (unsigned n)
fits-unsigned n w e = fits-unsigned_by n (nat_lt n (2 ^ 63)) refl w e

fits-negative : (n : ℕ) → n ≤ 2 ^ 63 → NumFits (negative (with_sign true n))
fits-negative n h w e = let one : with_sign true n ≡ w = cc in record { least = omega (arith, ints); most = omega (arith, ints) }

never : (x : Float) → NumFits (float x)
never x w e = cc

fits-float : (sign : Bool) (p : Parts) → IfSome (float_of sign p) NumFits
fits-float sign p = by_test (λ o. IfSome o NumFits) (float_is_finite (nearest binary64 sign p)) (Some (float (nearest binary64 sign p))) None (λ _. never (nearest binary64 sign p)) tt

fits-from : (sign : Bool) (p : Parts) → IfSome (number_from sign p) NumFits
fits-from false p = by_test (λ o. IfSome o NumFits) (is_integer p && nat_lt (digits_of p) (2 ^ 64)) (Some (unsigned (digits_of p))) (float_of false p) (λ _. fits-unsigned (digits_of p)) (fits-float false p)
fits-from true p = by_test (λ o. IfSome o NumFits) (is_integer p && nat_lt 0 (digits_of p) && nat_le (digits_of p) (2 ^ 63)) (Some (negative (with_sign true (digits_of p)))) (float_of true p) (λ h. let few = last_test (is_integer p) (nat_lt 0 (digits_of p)) (nat_le (digits_of p) (2 ^ 63)) h in fits-negative (digits_of p) (grind (arith, nat_tests))) (fits-float true p)

fits-number : (s : List ℕ) → IfSome (number_of s) NumFits
unfolding number_of
fits-number s = by_test (λ o. IfSome o NumFits) (slice_index s 0 == minus) (number_from true (scan (drop 1 s))) (number_from false (scan s)) (λ _. fits-from true (scan (drop 1 s))) (fits-from false (scan s))

at_ordering : (P : Members → Type 0) (o : Ordering) (a b c : Members) → P a → P b → P c → P (match_ordering o a b c)
at_ordering P Less a b c p q r = p
at_ordering P Equal a b c p q r = q
at_ordering P Greater a b c p q r = r

fit-put : (k : List ℕ) (d : Data) (ms : Members) → Fit d → FitMembers ms → FitMembers (put k d ms)
fit-put k d no_members p q = (p, tt)
fit-put k d (member l e ms) p q =
    at_ordering FitMembers (slice_cmp nat_cmp k l) (member k d (member l e ms)) (member l d ms) (member l e (put k d ms)) (p, q) (p, q.1) (q.0, fit-put k d ms p q.1)

mutual
  fit-of_json : (j : json.Json) → IfSome (of_json j) Fit
  fit-of_json json.null = tt
  fit-of_json (json.boolean b) = tt
  fit-of_json (json.number s) = if_some_map NumFits Fit number (λ _ h. h) (number_of s) (fits-number s)
  fit-of_json (json.string s) = tt
  fit-of_json (json.array js) = if_some_map FitItems Fit array (λ _ h. h) _ (fit-of_items js)
  fit-of_json (json.object ms) = if_some_map FitMembers Fit object (λ _ h. h) _ (fit-of_members ms no_members tt)

  fit-of_items : (js : json.Items) → IfSome (of_items js) FitItems
  fit-of_items json.no_items = tt
  fit-of_items (json.item j js) =
      if_some_and_then Fit FitItems _ (λ d p. if_some_map FitItems FitItems (item d) (λ ds q. (p, q)) _ (fit-of_items js)) _ (fit-of_json j)

  fit-of_members : (ms : json.Members) (found : Members) → FitMembers found → IfSome (of_members ms found) FitMembers
  fit-of_members json.no_members found h = h
  fit-of_members (json.member k j ms) found h =
      if_some_and_then Fit FitMembers _ (λ d p. fit-of_members ms (put k d found) (fit-put k d found p h)) _ (fit-of_json j)

parsed : List ℕ → Option json.Json
parsed text = option_and_then (λ p. json.if_last p.0 p.1) (json.value max_depth (tokens text))

fit-read : (text : List ℕ) → IfSome (read text) Fit
unfolding parsed
fit-read text = if_some_and_then (λ _. ⊤) Fit of_json (λ j _. fit-of_json j) (parsed text) (anything (parsed text))

fit-data : (text : List ℕ) → Fit (data_of text)
unfolding data_of
fit-data text = elim (read text) as (λ o. IfSome o Fit → Fit (unwrap_or o null)) [ None ↦ λ _. tt | Some d ↦ λ h. h ] (fit-read text)

fit-member : (P : Option Data → Type 0) (o : Ordering) (a b c : Option Data) → P a → P b → P c → P (match_ordering o a b c)
fit-member P Less a b c p q r = p
fit-member P Equal a b c p q r = q
fit-member P Greater a b c p q r = r

fit-get_member : (k : List ℕ) (ms : Members) → FitMembers ms → IfSome (get_member k ms) Fit
fit-get_member k no_members h = tt
fit-get_member k (member l e ms) h = fit-member (λ o. IfSome o Fit) (slice_cmp nat_cmp k l) (get_member k ms) (Some e) (get_member k ms) (fit-get_member k ms h.1) h.0 (fit-get_member k ms h.1)

fit-get : (k : List ℕ) (d : Data) → Fit d → IfSome (get k d) Fit
fit-get k null h = tt
fit-get k (boolean b) h = tt
fit-get k (number n) h = tt
fit-get k (string s) h = tt
fit-get k (array ds) h = tt
fit-get k (object ms) h = fit-get_member k ms h

fit-find : (names : List (List ℕ)) (d : Data) → Fit d → IfSome (find names d) Fit
fit-find [] d h = h
fit-find (name ∷ names) d h = if_some_and_then Fit Fit (find names) (fit-find names) (get name d) (fit-get name d h)

fit-as_number : (d : Data) → Fit d → IfSome (as_number d) NumFits
fit-as_number null h = tt
fit-as_number (boolean b) h = tt
fit-as_number (number n) h = h
fit-as_number (string s) h = tt
fit-as_number (array ds) h = tt
fit-as_number (object ms) h = tt

fits_of : (o : Option Num) (w : ℤ) → IfSome o NumFits → option_and_then as_i64 o ≡ Some w → Fits64 w
fits_of None w h e = cc
fits_of (Some n) w h e = h w e

pub whole_of-fits : (field : Field) (document : Text) (w : ℤ) → whole_of field document ≡ Some w → Fits64 w
unfolding whole_of
whole_of-fits field document w e =
    fits_of _ w (if_some_and_then Fit NumFits as_number fit-as_number (find (names_of field) (data_of document)) (fit-find (names_of field) (data_of document) (fit-data document))) e
