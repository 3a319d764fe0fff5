-- What is read has no whole number outside 64 bits with a sign, and so a field's whole number is within them.
use Rattle.std.proofs.Common.{◌≡◌, ℕ, pos, neg_ℤ, zero, suc, ◌<◌, ◌≤◌, ◌^◌, ◌&&◌, Bool, true, false, nat_lt, nat_le, List, [], ◌∷◌, Option, Some, None, IfSome, option_and_then, unwrap_or, Less, Equal, Greater, refl, sym, arith, ltb-true, leb-true, true≢false}
use Rattle.std.specs.Prelude.{⊤, FitsSigned, if◌then◌else◌, slice_index, drop, ◌==◌}
use Rattle.std.specs.Int.{w64}
use Rattle.std.specs.Float.{binary64, float_is_finite}
use Rattle.std.specs.Float.Numeral.{Parts, numeral_digits, nearest_float, minus, scan_numeral}
use Rattle.std.specs.Ordering.{nat_cmp, match_ordering}
use Rattle.std.specs.Cmp.Lexicographic.{slice_cmp}
use Rattle.json.specs.Json as json
use Rattle.serde_json.specs.Data.{Num, unsigned, negative, float, Data, null, boolean, number, string, array, object, Items, no_items, item, Members, no_members, member, put}
use Rattle.serde_json.specs.Find.{as_i64, as_number, get, get_member}
use Rattle.serde_json.specs.Read.{is_integer, float_of, number_from, number_of, of_json, of_items, of_members, read}
use Rattle.mvd_docs.specs.Document.{data_of, member_of, whole_of}
use Rattle.mvd_docs.specs.Find.{find}
use Rattle.mvd_docs.specs.Name.{names_of}
use Rattle.mvd_docs.proofs.RisingNames.{anything, if_some_map, if_some_and_then, parsed}

-- ---- numbers

abbrev NumberFits : Num → Type 0
NumberFits n = IfSome (as_i64 n) (FitsSigned w64)

unsigned_fits : (n : ℕ) → NumberFits (unsigned n)
unsigned_fits n =
    elim (nat_lt n (2 ^ 63)) as (λ b. nat_lt n (2 ^ 63) ≡ b → IfSome (if b then Some (pos n) else None) (FitsSigned w64)) [
      | true ↦ λ less. record { sfits = ltb-true n (2 ^ 63) less }
      | false ↦ λ _. tt
    ] refl

negative_fits : (n : ℕ) → 0 < n → n ≤ 2 ^ 63 → NumberFits (negative (neg_ℤ (pos n)))
negative_fits zero some high = absurd (omega arith)
negative_fits (suc n) some high = record { sfits = omega arith }

either_fits : (b : Bool) (x y : Option Num) → (b ≡ true → IfSome x NumberFits) → IfSome y NumberFits → IfSome (if b then x else y) NumberFits
either_fits true x y p q = p refl
either_fits false x y p q = q

float_fits : (sign : Bool) (p : Parts) → IfSome (float_of sign p) NumberFits
float_fits sign p = either_fits (float_is_finite (nearest_float binary64 sign p)) (Some (float (nearest_float binary64 sign p))) None (λ _. tt) tt

both : (a b : Bool) → (a && b) ≡ true → (a ≡ true) × (b ≡ true)
both true b h = (refl, h)
both false b h = absurd (true≢false (sym h))

number_from_fits : (sign : Bool) (p : Parts) → IfSome (number_from sign p) NumberFits
number_from_fits false p =
    let n = numeral_digits p in
    either_fits (is_integer p && nat_lt n (2 ^ 64)) (Some (unsigned n)) (float_of false p) (λ _. unsigned_fits n) (float_fits false p)
number_from_fits true p =
    let n = numeral_digits p in
    either_fits (is_integer p && nat_lt 0 n && nat_le n (2 ^ 63)) (Some (negative (neg_ℤ (pos n)))) (float_of true p)
    (λ h. let parts = both (is_integer p && nat_lt 0 n) (nat_le n (2 ^ 63)) h in negative_fits n (ltb-true 0 n (both (is_integer p) (nat_lt 0 n) parts.0).1) (leb-true n (2 ^ 63) parts.1))
    (float_fits true p)

number_fits : (s : List ℕ) → IfSome (number_of s) NumberFits
unfolding number_of
number_fits s =
    either_fits (slice_index s 0 == minus) (number_from true (scan_numeral (drop 1 s))) (number_from false (scan_numeral s)) (λ _. number_from_fits true (scan_numeral (drop 1 s))) (number_from_fits false (scan_numeral s))

-- ---- values

-- every whole number in the value, at any depth, fits
abbrev mutual
  Fit : Data → Type 0
  Fit null = ⊤
  Fit (boolean b) = ⊤
  Fit (number n) = NumberFits n
  Fit (string s) = ⊤
  Fit (array ds) = ItemsFit ds
  Fit (object ms) = MembersFit ms

  ItemsFit : Items → Type 0
  ItemsFit no_items = ⊤
  ItemsFit (item d ds) = Fit d × ItemsFit ds

  MembersFit : Members → Type 0
  MembersFit no_members = ⊤
  MembersFit (member k d ms) = Fit d × MembersFit ms

fit-put : (k : List ℕ) (d : Data) (ms : Members) → Fit d → MembersFit ms → MembersFit (put k d ms)
fit-put k d no_members p q = (p, tt)
fit-put k d (member l e ms) p q =
    elim (slice_cmp nat_cmp k l) as (λ o. MembersFit (match_ordering o (member k d (member l e ms)) (member l d ms) (member l e (put k d ms)))) [
      | Less ↦ (p, q)
      | Equal ↦ (p, q.1)
      | Greater ↦ (q.0, fit-put k d ms p q.1)
    ]

mutual
  fit-of_json : (j : json.Json) → IfSome (of_json j) Fit
  fit-of_json json.null = tt
  fit-of_json (json.boolean b) = tt
  fit-of_json (json.number s) = if_some_map NumberFits Fit number (λ _ h. h) (number_of s) (number_fits s)
  fit-of_json (json.string s) = tt
  fit-of_json (json.array js) = if_some_map ItemsFit Fit array (λ _ h. h) _ (fit-of_items js)
  fit-of_json (json.object ms) = if_some_map MembersFit Fit object (λ _ h. h) _ (fit-of_members ms no_members tt)

  fit-of_items : (js : json.Items) → IfSome (of_items js) ItemsFit
  fit-of_items json.no_items = tt
  fit-of_items (json.item j js) =
      if_some_and_then Fit ItemsFit _ (λ d p. if_some_map ItemsFit ItemsFit (item d) (λ ds q. (p, q)) _ (fit-of_items js)) _ (fit-of_json j)

  fit-of_members : (ms : json.Members) (found : Members) → MembersFit found → IfSome (of_members ms found) MembersFit
  fit-of_members json.no_members found h = h
  fit-of_members (json.member k j ms) found h =
      if_some_and_then Fit MembersFit _ (λ d p. fit-of_members ms (put k d found) (fit-put k d found p h)) _ (fit-of_json j)

fit-read : (text : List ℕ) → IfSome (read text) Fit
unfolding parsed
fit-read text = if_some_and_then (λ _. ⊤) Fit of_json (λ j _. fit-of_json j) (parsed text) (anything (parsed text))

or_null : (o : Option Data) → IfSome o Fit → Fit (unwrap_or o null)
or_null None h = tt
or_null (Some d) h = h

fit-data_of : (text : List ℕ) → Fit (data_of text)
unfolding data_of
fit-data_of text = or_null (read text) (fit-read text)

-- ---- a field's value

fit-get_member : (k : List ℕ) (ms : Members) → MembersFit ms → IfSome (get_member k ms) Fit
fit-get_member k no_members h = tt
fit-get_member k (member l e ms) h =
    elim (slice_cmp nat_cmp k l) as (λ o. IfSome (match_ordering o (get_member k ms) (Some e) (get_member k ms)) Fit) [
      | Less ↦ fit-get_member k ms h.1
      | Equal ↦ h.0
      | Greater ↦ fit-get_member k ms h.1
    ]

fit-get : (k : List ℕ) (d : Data) → Fit d → IfSome (get k d) Fit
fit-get k null h = tt
fit-get k (boolean b) h = tt
fit-get k (number n) h = tt
fit-get k (string s) h = tt
fit-get k (array ds) h = tt
fit-get k (object ms) h = fit-get_member k ms h

fit-find : (names : List (List ℕ)) (d : Data) → Fit d → IfSome (find names d) Fit
fit-find [] d h = h
fit-find (name ∷ names) d h = if_some_and_then Fit Fit (find names) (fit-find names) (get name d) (fit-get name d h)

fit-as_number : (d : Data) → Fit d → IfSome (as_number d) NumberFits
fit-as_number null h = tt
fit-as_number (boolean b) h = tt
fit-as_number (number n) h = h
fit-as_number (string s) h = tt
fit-as_number (array ds) h = tt
fit-as_number (object ms) h = tt

pub whole_fits : (field document : List ℕ) → IfSome (whole_of field document) (FitsSigned w64)
unfolding whole_of
whole_fits field document =
    if_some_and_then NumberFits (FitsSigned w64) as_i64 (λ n h. h) (option_and_then as_number (member_of field document))
    (if_some_and_then Fit NumberFits as_number fit-as_number (member_of field document) (fit-find (names_of field) (data_of document) (fit-data_of document)))
