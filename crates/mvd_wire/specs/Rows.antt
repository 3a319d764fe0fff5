-- The spelled values of questions about indexes, views and the hash tree: this project's own format (docs/FORMATS.md,
-- Spelled values). Texts are UTF-8 (RFC 3629), and digests have the 32 bytes of a SHA-256 (FIPS 180-4).
use Rattle.std.specs.Prelude.{◌≡◌, ⊤, ℕ, ℤ, FitsSigned, ◌+◌, ◌*◌, ◌/◌, ◌%◌, ◌^◌, Bool, ◌||◌, nat_le, ◌==◌, if◌then◌else◌, List, [], ◌∷◌, length, Option, Some, None, MatchOption, Result, Ok, Err}
use Rattle.std.specs.Int.{w16, w32, w64, w128, cast_unsigned, cast_signed}
use Rattle.std.specs.Str.{is_utf8}
use Rattle.mvd_dots.specs.declared.refusals.Refusal.{Refusal}
use Rattle.mvd_dots.specs.declared.refusals.Refusal.TheVariants.{BadTerm, BadBody}
use Rattle.mvd_dots.specs.Dot.{DotValue}
use Rattle.mvd_docs.specs.declared.term.Term.{Term}
use Rattle.mvd_docs.specs.declared.term.Term.TheVariants.{Null, False, True, Whole, Text}
use Rattle.mvd_docs.specs.Name.{is_field, is_view_name}
use Rattle.mvd_docs.specs.TermText.{term_text_of}
use Rattle.mvd_keys.specs.declared.places.Place.{Place}
use Rattle.mvd_wire.specs.declared.reply.RowValue.{RowValue}
use Rattle.mvd_wire.specs.declared.reply.Digests.{Digests}
use Rattle.mvd_wire.specs.Codec.{Codec, ◌>>=◌, byte, number, raw, followed, checked, accepted, named, named_where, with_count, nothing, optional, variant}
use Rattle.mvd_wire.specs.Codecs.{layout2, dot, key}

-- ---- names

abbrev pub field_of_bytes : List ℕ → Result (List ℕ) Refusal
field_of_bytes bytes = if is_field bytes then Ok bytes else Err BadBody

unfoldable pub field : Codec (List ℕ)
field = named (λ f. (length f, f)) (λ p. p.1) (followed (number w16) (λ n. accepted field_of_bytes (raw n)))

abbrev pub view_name_of_bytes : List ℕ → Result (List ℕ) Refusal
view_name_of_bytes bytes = if is_view_name bytes then Ok bytes else Err BadBody

unfoldable pub view_name : Codec (List ℕ)
view_name = named (λ v. (length v, v)) (λ p. p.1) (followed (number w16) (λ n. accepted view_name_of_bytes (raw n)))

-- ---- terms

-- a signed number of eight bytes, in two's complement
unfoldable pub whole_number : Codec ℤ
whole_number = record {
  spell = λ z. (number w64).spell (cast_unsigned w64 z);
  Fits = λ z. FitsSigned w64 z;
  read = λ bytes. (number w64).read bytes >>= λ n. Ok (cast_signed w64 n.0, n.1);
}

-- the text of a term that some bytes are
abbrev pub text_of_bytes : List ℕ → Result (List ℕ) Refusal
text_of_bytes bytes = if is_utf8 bytes then term_text_of bytes else Err BadTerm

unfoldable pub term_text_codec : Codec (List ℕ)
term_text_codec = named (λ t. (length t, t)) (λ p. p.1) (followed
    (checked BadTerm (λ n. nat_le n 512) (number w16)) (λ n.
    accepted text_of_bytes (raw n)))

abbrev pub spell_term : Term → List ℕ
spell_term Null = 0 ∷ []
spell_term False = 1 ∷ []
spell_term True = 2 ∷ []
spell_term (Whole z) = 3 ∷ whole_number.spell z
spell_term (Text t) = 4 ∷ term_text_codec.spell t

abbrev pub IsTerm : Term → Type 0
IsTerm (Whole z) = whole_number.Fits z
IsTerm (Text t) = term_text_codec.Fits t
IsTerm _ = Unit {0}

-- the term behind a tag
abbrev pub term_behind : ℕ → List ℕ → Result (Term × List ℕ) Refusal
term_behind =
    variant 0 nothing (λ _. Null)
    (variant 1 nothing (λ _. False)
    (variant 2 nothing (λ _. True)
    (variant 3 whole_number Whole
    (variant 4 term_text_codec Text
    (λ _ _. Err BadTerm)))))

unfoldable pub term : Codec Term
term = record {
  spell = spell_term;
  Fits = IsTerm;
  read = λ bytes. byte.read bytes >>= λ tag. term_behind tag.0 tag.1;
}

-- ---- places

unfoldable pub spot_codec : Codec (List ℕ × DotValue)
spot_codec = followed key (λ _. dot layout2)

unfoldable pub place : Codec Place
place = named (λ p. (p.term, (p.key, p.dot))) (λ p. record { term = p.0; key = p.1.0; dot = p.1.1 })
    (followed term (λ _. spot_codec))

-- ---- rows of a view

-- a sum, as the upper and the lower eight bytes of its two's complement
unfoldable pub sum : Codec ℤ
sum = named_where (FitsSigned w128) (λ z. (cast_unsigned w128 z / 2 ^ 64, cast_unsigned w128 z % 2 ^ 64))
    (λ p. cast_signed w128 (p.0 * 2 ^ 64 + p.1)) (followed (number w64) (λ _. number w64))

unfoldable pub ends : Codec (Option (ℤ × ℤ))
ends = optional (followed whole_number (λ _. whole_number))

-- how many, their sum, and the ends
unfoldable pub row_codec : Codec RowValue
row_codec =
    named (λ r. (r.count, (r.sum, r.ends))) (λ p. record { count = p.0; sum = p.1.0; ends = p.1.1 })
    (followed (number w64) (λ _. followed sum (λ _. ends)))

unfoldable pub view_row : Codec (Term × ℕ × ℤ × Option (ℤ × ℤ))
view_row =
    named (λ r. (r.0, record { count = r.1; sum = r.2; ends = r.3 })) (λ p. (p.0, p.1.count, p.1.sum, p.1.ends))
    (followed term (λ _. row_codec))

-- ---- digests

unfoldable pub digest : Codec (List ℕ)
digest = raw 32

unfoldable pub key_entry : Codec (List ℕ × List ℕ)
key_entry = followed key (λ _. digest)

-- a key, and how many siblings it has
unfoldable pub key_count : Codec (List ℕ × ℕ)
key_count = followed key (λ _. number w32)

abbrev pub list_of : Option (List (List ℕ)) → List (List ℕ)
list_of None = []
list_of (Some ds) = ds

abbrev pub children_of : List (List ℕ) → Option (List (List ℕ))
children_of [] = None
children_of (d ∷ ds) = Some (d ∷ ds)

abbrev pub item_of : {X : Type 0} → Codec X → Unit {0} → Codec X
item_of kind _ = kind

-- none for a bucket, else sixteen
unfoldable pub children : Codec (Option (List (List ℕ)))
children = named_where (λ c. MatchOption c ⊤ (λ ds. length ds ≡ 16)) list_of children_of
    (with_count (item_of digest) (λ s _. s) (checked BadBody (λ n. n == 0 || n == 16) byte) tt)

unfoldable pub digests_codec : Codec Digests
digests_codec =
    named (λ d. (d.own, d.children)) (λ p. record { own = p.0; children = p.1 }) (followed digest (λ _. children))

-- ---- lists of a reply: whether more follow, at most 1,000 items, and the items

abbrev pub flag : Codec Bool
flag = named (λ b. if b then 1 else 0) (λ n. n == 1) (checked BadBody (λ n. nat_le n 1) byte)

abbrev pub page_limit : ℕ
page_limit = 1000

abbrev pub item_count : Codec ℕ
item_count = checked BadBody (λ n. nat_le n page_limit) (number w16)

unfoldable pub items : {X : Type 0} → Codec X → Codec (List X)
items kind = with_count (item_of kind) (λ s _. s) item_count tt

-- a list of items, and whether more follow
unfoldable pub page : {X : Type 0} → Codec X → Codec (List X × Bool)
page kind = named (λ p. (p.1, p.0)) (λ p. (p.1, p.0)) (followed flag (λ _. items kind))
