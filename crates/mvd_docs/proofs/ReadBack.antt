-- A value with rising names and whole numbers reads back from its compact text, and that text is then a document's own.
use Rattle.std.proofs.Common.{◌≡◌, ℕ, ◌<◌, ◌≤◌, ◌^◌, pos, negsuc, List, [], length, Bool, true, false, ◌&&◌, nat_lt, is_some, Option, Some, Ok, option_map, option_and_then, Less, Greater, refl, sym, ap, ◌∙◌, subst, arith, append-nil, lt-ltb}
use Rattle.std.proofs.lemmas.Bool.{le-ltb}
use Rattle.std.specs.Prelude.{⊤}
use Rattle.std.specs.Ordering.{nat_cmp, match_ordering, ordering_reverse}
use Rattle.std.specs.Cmp.Lexicographic.{slice_cmp}
use Rattle.std.proofs.lemmas.Cmp.{nat_list_cmp_total}
use Rattle.json.specs.Token.{Token}
use Rattle.json.specs.Lex.{tokens}
use Rattle.json.specs.Json as json
use Rattle.json.specs.Print.{IsNumber}
use Rattle.json.specs.Tree as tree
use Rattle.json.proofs.Printed.Decimals.{IsNumber-decimal, IsNumber-signed_decimal}
use Rattle.json.proofs.Printed.Tokens.{tokens-print}
use Rattle.json.proofs.Printed.Trees.{ArePrintable-json_tokens, value-json_tokens}
use Rattle.serde_json.proofs.Numbers.{number_of-decimal, number_of-negative}
use Rattle.serde_json.proofs.Texts.{print-outline}
use Rattle.serde_json.specs.Data.{Num, unsigned, negative, float, Data, null, boolean, number, string, array, object, Items, no_items, item, Members, no_members, member, put, depth, items_depth, members_depth}
use Rattle.serde_json.specs.Find.{as_i64}
use Rattle.serde_json.specs.Read.{number_of, of_json, of_items, of_members, max_depth, read}
use Rattle.serde_json.specs.Written.{number_text, outline, items_outline, members_outline, compact_text}
use Rattle.mvd_docs.specs.Document.{document_of, document_of_read}
use Rattle.mvd_docs.specs.Numbers.{has_whole_numbers, items_have_whole_numbers, members_have_whole_numbers}
use Rattle.mvd_docs.specs.Plain.{IsWhole, AreWhole, ItemsAreWhole, MembersAreWhole}
use Rattle.mvd_docs.specs.Rising.{StandsBefore, HasRisingNames, ItemsHaveRisingNames, MembersHaveRisingNames}

-- ---- numbers

number_reads : (n : Num) → IsWhole n → number_of (number_text n) ≡ Some n
number_reads (unsigned n) h = number_of-decimal n (omega arith)
number_reads (negative (pos n)) h = absurd h
number_reads (negative (negsuc n)) h = number_of-negative n h
number_reads (float x) h = absurd h

number_is_number : (n : Num) → IsWhole n → IsNumber (number_text n)
number_is_number (unsigned n) h = IsNumber-decimal n (omega arith)
number_is_number (negative (pos n)) h = absurd h
number_is_number (negative (negsuc n)) h = IsNumber-signed_decimal (negsuc n) h
number_is_number (float x) h = absurd h

number_is_i64 : (n : Num) → IsWhole n → is_some (as_i64 n) ≡ true
number_is_i64 (unsigned n) h = rw (lt-ltb n (2 ^ 63) h)
number_is_i64 (negative z) h = refl
number_is_i64 (float x) h = absurd h

both : (a b : Bool) → a ≡ true → b ≡ true → (a && b) ≡ true
both a b p q = rw (p, q)

mutual
  has_whole : (d : Data) → AreWhole d → has_whole_numbers d ≡ true
  has_whole null h = refl
  has_whole (boolean b) h = refl
  has_whole (number n) h = number_is_i64 n h
  has_whole (string s) h = refl
  has_whole (array ds) h = items_have_whole ds h
  has_whole (object ms) h = members_have_whole ms h

  items_have_whole : (ds : Items) → ItemsAreWhole ds → items_have_whole_numbers ds ≡ true
  items_have_whole no_items h = refl
  items_have_whole (item d ds) h = both _ _ (has_whole d h.0) (items_have_whole ds h.1)

  members_have_whole : (ms : Members) → MembersAreWhole ms → members_have_whole_numbers ms ≡ true
  members_have_whole no_members h = refl
  members_have_whole (member k d ms) h = both _ _ (has_whole d h.0) (members_have_whole ms h.1)

mutual
  has_numbers : (d : Data) → AreWhole d → tree.HasNumbers (outline d)
  has_numbers null h = tt
  has_numbers (boolean b) h = tt
  has_numbers (number n) h = number_is_number n h
  has_numbers (string s) h = tt
  has_numbers (array ds) h = items_have_numbers ds h
  has_numbers (object ms) h = members_have_numbers ms h

  items_have_numbers : (ds : Items) → ItemsAreWhole ds → tree.ItemsHaveNumbers (items_outline ds)
  items_have_numbers no_items h = tt
  items_have_numbers (item d ds) h = (has_numbers d h.0, items_have_numbers ds h.1)

  members_have_numbers : (ms : Members) → MembersAreWhole ms → tree.MembersHaveNumbers (members_outline ms)
  members_have_numbers no_members h = tt
  members_have_numbers (member k d ms) h = (has_numbers d h.0, members_have_numbers ms h.1)

-- ---- nesting

mutual
  outline_depth : (d : Data) (n : ℕ) → depth d ≤ n → tree.depth (outline d) ≤ n
  outline_depth null n h = h
  outline_depth (boolean b) n h = h
  outline_depth (number x) n h = h
  outline_depth (string s) n h = h
  outline_depth (array ds) n h = omega (arith, items_outline_depth ds (items_depth ds) (omega arith))
  outline_depth (object ms) n h = omega (arith, members_outline_depth ms (members_depth ms) (omega arith))

  items_outline_depth : (ds : Items) (n : ℕ) → items_depth ds ≤ n → tree.items_depth (items_outline ds) ≤ n
  items_outline_depth no_items n h = h
  items_outline_depth (item d ds) n h = omega (arith, outline_depth d n (omega arith), items_outline_depth ds n (omega arith))

  members_outline_depth : (ms : Members) (n : ℕ) → members_depth ms ≤ n → tree.members_depth (members_outline ms) ≤ n
  members_outline_depth no_members n h = h
  members_outline_depth (member k d ms) n h = omega (arith, outline_depth d n (omega arith), members_outline_depth ms n (omega arith))

-- ---- members, put one after another

abbrev joined : Members → Members → Members
joined no_members ms = ms
joined (member k d ms) more = member k d (joined ms more)

joined_one : (ms : Members) (k : List ℕ) (d : Data) (more : Members) → joined (joined ms (member k d no_members)) more ≡ joined ms (member k d more)
joined_one no_members k d more = refl
joined_one (member l e ms) k d more = ap (member l e) (joined_one ms k d more)

joined_none : (ms : Members) → joined ms no_members ≡ ms
joined_none no_members = refl
joined_none (member k d ms) = ap (member k d) (joined_none ms)

-- each of these names stands before this one
abbrev AllBefore : Members → List ℕ → Type 0
AllBefore no_members k = ⊤
AllBefore (member l e ms) k = (slice_cmp nat_cmp l k ≡ Less) × AllBefore ms k

put_last : (k : List ℕ) (d : Data) (ms : Members) → AllBefore ms k → put k d ms ≡ joined ms (member k d no_members)
put_last k d no_members h = refl
put_last k d (member l e ms) h =
    let above : slice_cmp nat_cmp k l ≡ Greater = nat_list_cmp_total.antisymm k l ∙ ap ordering_reverse h.0 in
    ap (λ o. match_ordering o (member k d (member l e ms)) (member l d ms) (member l e (put k d ms))) above ∙ ap (member l e) (put_last k d ms h.1)

all_before : (ms : Members) (k l : List ℕ) → AllBefore ms k → slice_cmp nat_cmp k l ≡ Less → AllBefore ms l
all_before no_members k l h e = tt
all_before (member m d ms) k l h e = (nat_list_cmp_total.trans m k l h.0 e, all_before ms k l h.1 e)

all_before_next : (ms : Members) (k l : List ℕ) (d : Data) → AllBefore ms k → slice_cmp nat_cmp k l ≡ Less → AllBefore (joined ms (member k d no_members)) l
all_before_next no_members k l d h e = (e, tt)
all_before_next (member m c ms) k l d h e = (nat_list_cmp_total.trans m k l h.0 e, all_before_next ms k l d h.1 e)

-- the names stand before the first of the others
abbrev StandBefore : Members → Members → Type 0
StandBefore ms no_members = ⊤
StandBefore ms (member k d more) = AllBefore ms k

stand_before_next : (ms more : Members) (k : List ℕ) (d : Data) → AllBefore ms k → StandsBefore k more → StandBefore (joined ms (member k d no_members)) more
stand_before_next ms no_members k d h b = tt
stand_before_next ms (member l e more) k d h b = all_before_next ms k l d h b

mutual
  value_reads : (d : Data) → HasRisingNames d → AreWhole d → of_json (outline d) ≡ Some d
  value_reads null r h = refl
  value_reads (boolean b) r h = refl
  value_reads (number n) r h = ap (option_map number) (number_reads n h)
  value_reads (string s) r h = refl
  value_reads (array ds) r h = ap (option_map array) (items_read ds r h)
  value_reads (object ms) r h = ap (option_map object) (members_read ms no_members (stand_none ms) r h)

  items_read : (ds : Items) → ItemsHaveRisingNames ds → ItemsAreWhole ds → of_items (items_outline ds) ≡ Some ds
  items_read no_items r h = refl
  items_read (item d ds) r h =
      ap (option_and_then (λ x. option_map (item x) (of_items (items_outline ds)))) (value_reads d r.0 h.0) ∙ ap (option_map (item d)) (items_read ds r.1 h.1)

  members_read : (ms found : Members) → StandBefore found ms → MembersHaveRisingNames ms → MembersAreWhole ms → of_members (members_outline ms) found ≡ Some (joined found ms)
  members_read no_members found b r h = ap Some (sym (joined_none found))
  members_read (member k d ms) found b r h =
      ap (option_and_then (λ x. of_members (members_outline ms) (put k x found))) (value_reads d r.1 h.0)
      ∙ ap (of_members (members_outline ms)) (put_last k d found b)
      ∙ members_read ms (joined found (member k d no_members)) (stand_before_next found ms k d b r.0) r.2 h.1
      ∙ ap Some (joined_one found k d ms)

  stand_none : (ms : Members) → StandBefore no_members ms
  stand_none no_members = tt
  stand_none (member k d ms) = tt

-- ---- the whole text

whole : Option (json.Json × List Token) → Option Data
whole o = option_and_then of_json (option_and_then (λ p. json.if_last p.0 p.1) o)

pub reads_back : (d : Data) → HasRisingNames d → AreWhole d → depth d ≤ max_depth → read (compact_text d) ≡ Some d
unfolding whole
reads_back d rising numbers shallow =
    let j = outline d in
    let read_tokens : tokens (compact_text d) ≡ tree.json_tokens j
    = ap tokens (sym (print-outline d)) ∙ tokens-print (tree.json_tokens j) (ArePrintable-json_tokens j (has_numbers d numbers)) in
    ap whole (ap (json.value max_depth) (read_tokens ∙ sym (append-nil (tree.json_tokens j))) ∙ value-json_tokens j max_depth [] (outline_depth d max_depth shallow))
    ∙ value_reads d rising numbers

-- an object that is read back is a document, of its compact text
pub own_object : (text : List ℕ) (ms : Members) → text ≡ compact_text (object ms) → MembersHaveRisingNames ms → MembersAreWhole ms → members_depth ms < max_depth → length text ≤ 65536 → document_of text ≡ Ok text
unfolding document_of
own_object text ms is rising numbers shallow short =
    let d = object ms in
    let read_so = ap read is ∙ reads_back d rising numbers (omega arith) in
    let few : nat_lt 65536 (length (compact_text d)) ≡ false = le-ltb 65536 (length (compact_text d)) (subst (λ t. length t ≤ 65536) is short) in
    ap document_of_read read_so ∙ rw (has_whole d numbers, few) (ap Ok (sym is))
