-- The steps of the walk over a text that is plainly a document's own.
use Rattle.std.proofs.Common.{◌≡◌, ℕ, zero, suc, ◌+◌, ◌<◌, ◌≤◌, ◌^◌, negsuc, List, [], ◌∷◌, ◌++◌, length, get_or, take, drop, Bool, true, false, ◌||◌, eqb, Option, Some, None, IfSome, IfNone, MatchOption, is_some, Ordering, Less, Equal, Greater, refl, sym, ap, ◌∙◌, arith, append_assoc, append-nil, length-append}
use Rattle.std.proofs.lemmas.Bool.{eqb-true}
use Rattle.std.proofs.lemmas.Grind.{flat_map-append}
use Rattle.std.proofs.lemmas.List.{take-append-drop, take_more}
use Rattle.std.proofs.lemmas.Fmt.{decimal-digits_value, decimal_digit}
use Rattle.std.proofs.lemmas.Str.Parse.{IsNumeralModel, numerals_by_value, tells_digits, digits_value_short}
use Rattle.std.specs.Fmt.{decimal}
use Rattle.std.specs.List.{list_any}
use Rattle.std.specs.Ordering.{is_ge}
use Rattle.std.specs.Str.Parse.{AllDigits, digits_value}
use Rattle.json.specs.Print.{escape, escape_byte, quoted}
use Rattle.serde_json.specs.Data.{unsigned, negative, Data, number, string, array, object, no_items, item, no_members, member, depth}
use Rattle.serde_json.specs.Written.{comma_if, compact_text, items_text, members_text}
use Rattle.mvd_docs.specs.Plain.{AreWhole, BeginsWithNumber, BeginsWithValue, BeginsWithMember, BeginsWithItems, BeginsWithMembers}
use Rattle.mvd_docs.specs.Rising.{StandsBefore, HasRisingNames}

pub matched : {A : Type 0} (P : A → Type 0) (N : Type 0) (r : Option A) → MatchOption r N P → IfSome r P
matched P N None h = tt
matched P N (Some x) h = h

pub at_none : {A : Type 0} (P : Type 0) (o : Option A) → false ≡ is_some o → IfNone o P → P
at_none P None e h = h
at_none P (Some x) e h = cc

pub less_from : (o : Ordering) → is_ge o ≡ false → o ≡ Less
less_from Less e = refl
less_from Equal e = cc
less_from Greater e = cc

-- ---- strings

-- a byte more that a string has as it is
pub plain_more : (xs : List ℕ) (i : ℕ) → i < length xs → escape (take i xs) ≡ take i xs → escape_byte (get_or xs i 0) ≡ get_or xs i 0 ∷ [] → escape (take (i + 1) xs) ≡ take (i + 1) xs
plain_more xs i within before plain =
    let x = get_or xs i 0 in
    let more = take_more xs i 0 within in
    let one : escape (x ∷ []) ≡ x ∷ [] = append-nil (escape_byte x) ∙ plain in
    ap escape more ∙ flat_map-append escape_byte (take i xs) (x ∷ []) ∙ ap (λ l. l ++ escape (x ∷ [])) before ∙ ap (λ l. take i xs ++ l) one ∙ sym more

pub quoted_text : (text xs rest : List ℕ) (n : ℕ) → text ≡ 34 ∷ xs → escape (take n xs) ≡ take n xs → drop n xs ≡ 34 ∷ rest → text ≡ quoted (take n xs) ++ rest
quoted_text text xs rest n first plain last =
    let s = take n xs in
    let split : xs ≡ (escape s ++ 34 ∷ []) ++ rest
    = sym (take-append-drop n xs) ∙ ap (λ l. s ++ l) last ∙ sym (append_assoc s (34 ∷ []) rest) ∙ ap (λ l. (l ++ 34 ∷ []) ++ rest) (sym plain) in
    first ∙ ap (λ l. 34 ∷ l) split

-- ---- escapes

-- a byte whose escape is a backslash and this letter
abbrev pub HasLetter : ℕ → Type 0
HasLetter letter = (x : ℕ) × (escape_byte x ≡ 92 ∷ letter ∷ [])

either : {A : Type 0} (p q : Bool) → (p || q) ≡ true → (p ≡ true → A) → (q ≡ true → A) → A
either true q e f g = f refl
either false q e f g = g e

one : (letter l x : ℕ) → escape_byte x ≡ 92 ∷ l ∷ [] → eqb l letter ≡ true → HasLetter letter
one letter l x e same = (x, e ∙ ap (λ n. 92 ∷ n ∷ []) (eqb-true l letter same))

pub has_letter : (letter : ℕ) → list_any (λ l. eqb l letter) (34 ∷ 92 ∷ 98 ∷ 102 ∷ 110 ∷ 114 ∷ 116 ∷ []) ≡ true → HasLetter letter
unfolding escape_byte
has_letter letter e =
    either (eqb 34 letter) _ e (one letter 34 34 refl) (λ e. either (eqb 92 letter) _ e (one letter 92 92 refl) (λ e. either (eqb 98 letter) _ e (one letter 98 8 refl)
    (λ e. either (eqb 102 letter) _ e (one letter 102 12 refl) (λ e. either (eqb 110 letter) _ e (one letter 110 10 refl) (λ e. either (eqb 114 letter) _ e (one letter 114 13 refl)
    (λ e. either (eqb 116 letter) _ e (one letter 116 9 refl) (λ e. absurd (cc))))))))

abbrev pub Escaped : List ℕ → List ℕ → Type 0
Escaped text rest = (x : ℕ) × (text ≡ escape_byte x ++ rest)

pub escaped_by : (text behind rest : List ℕ) (letter : ℕ) → text ≡ 92 ∷ behind → behind ≡ letter ∷ rest → HasLetter letter → Escaped text rest
escaped_by text behind rest letter e f h = (h.0, e ∙ ap (λ l. 92 ∷ l) f ∙ ap (λ l. l ++ rest) (sym h.1))

abbrev pub Bytes : List ℕ → List ℕ → Type 0
Bytes text rest = (s : List ℕ) × (text ≡ escape s ++ rest)

pub plain_bytes : (text : List ℕ) (n : ℕ) → escape (take n text) ≡ take n text → Bytes text (drop n text)
plain_bytes text n plain = (take n text, sym (take-append-drop n text) ∙ ap (λ l. l ++ drop n text) (sym plain))

escape-append : (s t rest : List ℕ) → escape s ++ (escape t ++ rest) ≡ escape (s ++ t) ++ rest
escape-append s t rest = sym (append_assoc (escape s) (escape t) rest) ∙ ap (λ l. l ++ rest) (sym (flat_map-append escape_byte s t))

pub more_bytes : (text rest more left : List ℕ) → Bytes text rest → Escaped rest more → Bytes more left → Bytes text left
more_bytes text rest more left b e m =
    let one_byte : rest ≡ escape (e.0 ∷ []) ++ more = e.1 ∙ ap (λ l. l ++ more) (sym (append-nil (escape_byte e.0))) in
    let s = b.0 ++ e.0 ∷ [] in (
      s ++ m.0,
      b.1 ∙ ap (λ l. escape b.0 ++ l) one_byte ∙ escape-append b.0 (e.0 ∷ []) more ∙ ap (λ l. escape s ++ l) m.1 ∙ escape-append s m.0 left,
    )

abbrev pub Quoted : List ℕ → List ℕ → Type 0
Quoted text rest = (s : List ℕ) × (text ≡ quoted s ++ rest)

pub quoted_bytes : (text inside last rest : List ℕ) → text ≡ 34 ∷ inside → Bytes inside last → last ≡ 34 ∷ rest → Quoted text rest
quoted_bytes text inside last rest first b close =
    (b.0, first ∙ ap (λ l. 34 ∷ l) (b.1 ∙ ap (λ l. escape b.0 ++ l) close ∙ sym (append_assoc (escape b.0) (34 ∷ []) rest)))

-- ---- numbers

own : IsNumeralModel (AllDigits 10) (digits_value 10)
own = numerals_by_value (AllDigits 10) tells_digits

abbrev pub Natural : List ℕ → List ℕ → Type 0
Natural text rest = (n : ℕ) × (n < 10 ^ 18) × (text ≡ decimal n ++ rest)

pub natural_text : (text ds rest : List ℕ) → text ≡ ds ++ rest → AllDigits 10 ds → 0 < length ds → length ds ≤ 18 → (get_or ds 0 0 ≡ 48 → length ds ≡ 1) → Natural text rest
natural_text text ds rest split all some short zeros =
    let below = digits_value_short own ds 18 all short in
    let same = decimal-digits_value own ds all some zeros (omega (arith, below)) in
    (digits_value 10 ds, below, split ∙ ap (λ l. l ++ rest) (sym same))

pub natural_number : (text rest : List ℕ) → Natural text rest → BeginsWithNumber text rest
natural_number text rest n = record { value = unsigned n.0; is_text = n.2; whole = omega (arith, n.1) }

zero_first : (digits rest : List ℕ) → digits ≡ decimal 0 ++ rest → digits ≡ 48 ∷ rest
zero_first digits rest e = e ∙ ap (λ l. l ++ rest) (decimal_digit 0 (omega arith))

negative_at : (text digits rest : List ℕ) (n : ℕ) → n < 10 ^ 18 → text ≡ 45 ∷ digits → digits ≡ decimal n ++ rest → ((r : List ℕ) → digits ≡ 48 ∷ r → ⊥) → BeginsWithNumber text rest
negative_at text digits rest zero below minus e other = absurd (other rest (zero_first digits rest e))
negative_at text digits rest (suc n) below minus e other =
    record { value = negative (negsuc n); is_text = minus ∙ ap (λ l. 45 ∷ l) e; whole = omega arith }

pub negative_number : (text digits rest : List ℕ) → text ≡ 45 ∷ digits → ((r : List ℕ) → digits ≡ 48 ∷ r → ⊥) → Natural digits rest → BeginsWithNumber text rest
negative_number text digits rest minus other n = negative_at text digits rest n.0 n.1 minus n.2 other

-- ---- values

pub string_value : (room : ℕ) (text rest : List ℕ) → Quoted text rest → BeginsWithValue room text rest
string_value room text rest q = record { value = string q.0; is_text = q.1; rising = tt; whole = tt; nests = omega arith }

pub number_value : (room : ℕ) (text rest : List ℕ) → BeginsWithNumber text rest → BeginsWithValue room text rest
number_value room text rest n = record { value = number n.value; is_text = n.is_text; rising = tt; whole = n.whole; nests = omega arith }

pub literal_value : (room : ℕ) (text rest : List ℕ) (d : Data) → text ≡ compact_text d ++ rest → depth d ≡ 0 → HasRisingNames d → AreWhole d → BeginsWithValue room text rest
literal_value room text rest d e flat rising whole = record { value = d; is_text = e; rising = rising; whole = whole; nests = omega arith }

pub array_value : (room inner : ℕ) (text behind rest : List ℕ) → inner < room → text ≡ 91 ∷ behind → BeginsWithItems inner false behind rest → BeginsWithValue room text rest
array_value room inner text behind rest within e i = record {
  value = array i.items;
  is_text = e ∙ ap (λ l. 91 ∷ l) i.is_text;
  rising = i.rising;
  whole = i.whole;
  nests = omega (arith, i.nests);
}

pub object_value : (room inner : ℕ) (text behind rest : List ℕ) → inner < room → text ≡ 123 ∷ behind → BeginsWithMembers inner false behind rest → BeginsWithValue room text rest
object_value room inner text behind rest within e m = record {
  value = object m.members;
  is_text = e ∙ ap (λ l. 123 ∷ l) m.is_text;
  rising = m.rising;
  whole = m.whole;
  nests = omega (arith, m.nests);
}

-- ---- items and members, the last first

pub no_more_items : (room : ℕ) (later : Bool) (text rest : List ℕ) → text ≡ 93 ∷ rest → BeginsWithItems room later text rest
no_more_items room later text rest e = record { items = no_items; is_text = e; rising = tt; whole = tt; nests = omega arith }

pub one_more_item : (room : ℕ) (later : Bool) (text more behind rest : List ℕ) → text ≡ comma_if later ++ more → BeginsWithValue room more behind → BeginsWithItems room true behind rest → BeginsWithItems room later text rest
one_more_item room later text more behind rest e v i =
    let d = compact_text v.value in
    let ds = items_text true i.items in
    record {
      items = item v.value i.items;
      is_text = e ∙ ap (λ l. comma_if later ++ l) (v.is_text ∙ ap (λ l. d ++ l) i.is_text ∙ sym (append_assoc d ds rest)) ∙ sym (append_assoc (comma_if later) (d ++ ds) rest);
      rising = (v.rising, i.rising);
      whole = (v.whole, i.whole);
      nests = omega (arith, v.nests, i.nests);
    }

abbrev pub no_more_members : (room : ℕ) (later : Bool) (text rest : List ℕ) → text ≡ 125 ∷ rest → BeginsWithMembers room later text rest
no_more_members room later text rest e = record { members = no_members; is_text = e; rising = tt; whole = tt; nests = omega arith }

pub member_text : (c q d ms rest : List ℕ) → c ++ (q ++ 58 ∷ (d ++ (ms ++ rest))) ≡ (c ++ (q ++ 58 ∷ (d ++ ms))) ++ rest
member_text c q d ms rest = simp append_assoc

abbrev pub one_more_member : (room : ℕ) (later : Bool) (text more name behind rest : List ℕ) → text ≡ comma_if later ++ more → BeginsWithMember room more name behind → (m : BeginsWithMembers room true behind rest) → StandsBefore name m.members → BeginsWithMembers room later text rest
one_more_member room later text more name behind rest e k m before =
    let v = k.begins in
    record {
      members = member name v.value m.members;
      is_text = e ∙ ap (λ l. comma_if later ++ l) (k.is_text ∙ ap (λ l. quoted name ++ 58 ∷ l) (v.is_text ∙ ap (λ l. compact_text v.value ++ l) m.is_text))
          ∙ member_text (comma_if later) (quoted name) (compact_text v.value) (members_text true m.members) rest;
      rising = (before, v.rising, m.rising);
      whole = (v.whole, m.whole);
      nests = omega (arith, v.nests, m.nests);
    }

-- ---- what is left is shorter

pub value_shortens : (room : ℕ) (text rest : List ℕ) → BeginsWithValue room text rest → length rest ≤ length text
value_shortens room text rest v = omega (arith, ap length v.is_text, length-append (compact_text v.value) rest)

pub member_shortens : (room : ℕ) (text name rest : List ℕ) → BeginsWithMember room text name rest → length rest ≤ length text
member_shortens room text name rest m =
    omega (arith, ap length m.is_text, length-append (quoted name) (58 ∷ m.behind), value_shortens room m.behind rest m.begins)
