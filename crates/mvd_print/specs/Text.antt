-- The texts that scripts and shells print, this repository's own (docs/FORMATS.md, Script): lines of words, as bytes.
use Rattle.std.specs.Prelude.{ℕ, ℤ, Bool, true, false, List, [], ◌∷◌, ◌++◌, codes, Option, Some, None, Result, Ok, Err}
use Rattle.std.specs.Fmt.{decimal, signed_decimal}
use Rattle.std.specs.List.{join_by, flat_map}
use Rattle.std.specs.FinMap.{entries}
use Rattle.serde_json.specs.Written.{compact_text}
use Rattle.hex.specs.Hex.{encode_lower}
use Rattle.mvd_dots.specs.Context.{DotSet}
use Rattle.mvd_dots.specs.Dot.{DotValue}
use Rattle.mvd_dots.specs.Text.{text_of}
use Rattle.mvd_dots.specs.Refusal.{number_of, name_of}
use Rattle.mvd_dots.specs.declared.refusals.Refusal.{Refusal}
use Rattle.mvd_dots.specs.declared.refusals.Refusal.TheVariants.{BadKind}
use Rattle.mvd_docs.specs.Term.{data_of_term}
use Rattle.mvd_docs.specs.declared.term.Term.{Term}
use Rattle.mvd_keys.specs.State.{State, Text, pair_of}
use Rattle.mvd_keys.specs.declared.places.Place.{Place}
use Rattle.mvd_keys.specs.declared.siblings.Sibling.{Sibling}
use Rattle.mvd_wire.specs.declared.reply.RowValue.{RowValue}
use Rattle.mvd_wire.specs.declared.reply.Reply.{Reply}
use Rattle.mvd_wire.specs.declared.reply.Reply.TheVariants as reply

-- words, parted by one space each, and a line feed
abbrev pub line : List (List ℕ) → List ℕ
line words = join_by (λ word. word) (codes " ") words ++ codes "\n"

-- ---- words

-- the site, a `:` and the counter
abbrev pub dot_text : DotValue → List ℕ
dot_text dot = decimal dot.site ++ (codes ":" ++ decimal dot.counter)

-- compact JSON
abbrev pub term_text : Term → List ℕ
term_text term = compact_text (data_of_term term)

-- the least and the greatest number
abbrev pub ends_words : Option (ℤ × ℤ) → List (List ℕ)
ends_words None = codes "-" ∷ codes "-" ∷ []
ends_words (Some ends) = signed_decimal ends.0 ∷ signed_decimal ends.1 ∷ []

-- the same, each behind a space
abbrev pub two_text : ℤ → ℤ → List ℕ
two_text least greatest = 32 ∷ (signed_decimal least ++ (32 ∷ signed_decimal greatest))

abbrev pub ends_text : Option (ℤ × ℤ) → List ℕ
ends_text ends = flat_map (λ word. codes " " ++ word) (ends_words ends)

-- ---- lines

abbrev pub none_such_text : List ℕ
none_such_text = line (codes "none" ∷ codes "such" ∷ [])

-- the number and the name of a refusal
abbrev pub two_words : Refusal → List ℕ
two_words refusal = decimal (number_of refusal) ++ (32 ∷ name_of refusal)

abbrev pub refused_text : Refusal → List ℕ
refused_text refusal = line (codes "refused" ∷ decimal (number_of refusal) ∷ name_of refusal ∷ [])

-- the same, and where the document is wrong, as a JSON text
abbrev pub refused_at_text : Refusal → List ℕ → List ℕ
refused_at_text refusal place = codes "refused " ++ (two_words refusal ++ (codes " at " ++ (place ++ codes "\n")))

-- the number of a message that was sent
abbrev pub message_text : ℕ → List ℕ
message_text number = line (codes "message" ∷ decimal number ∷ [])

-- how many keys a session exchanged
abbrev pub keys_text : ℕ → List ℕ
keys_text count = line (codes "keys" ∷ decimal count ∷ [])

-- a key that a session left, and how it was refused
abbrev pub left_text : List ℕ → Refusal → List ℕ
left_text key refusal = line (codes "left" ∷ key ∷ decimal (number_of refusal) ∷ name_of refusal ∷ [])

-- how many keys more a session left
abbrev pub more_left_text : ℕ → List ℕ
more_left_text count = line (codes "left" ∷ decimal count ∷ [])

-- a put was taken, and has this dot
abbrev pub written_text : DotValue → List ℕ
written_text dot = line (codes "dot" ∷ dot_text dot ∷ [])

abbrev pub done_text : List ℕ
done_text = line (codes "ok" ∷ [])

abbrev pub context_text : DotSet → List ℕ
context_text context = line (codes "context" ∷ text_of context ∷ [])

abbrev pub sibling_text : DotValue × Text → List ℕ
sibling_text sibling = line (dot_text sibling.0 ∷ sibling.1 ∷ [])

abbrev pub spot_words : Place → List (List ℕ)
spot_words place = place.key ∷ dot_text place.dot ∷ []

-- where a term stands, behind the term itself where there may be several terms
abbrev pub place_text : Bool → Place → List ℕ
place_text false place = line (spot_words place)
place_text true place = line (term_text place.term ∷ spot_words place)

abbrev pub row_words : ℕ → ℤ → Option (ℤ × ℤ) → List (List ℕ)
row_words count sum ends = decimal count ∷ signed_decimal sum ∷ ends_words ends

abbrev pub row_text : RowValue → List ℕ
row_text row = line (row_words row.count row.sum row.ends)

abbrev pub view_row_text : Term × ℕ × ℤ × Option (ℤ × ℤ) → List ℕ
view_row_text row = line (term_text row.0 ∷ row_words row.1 row.2 row.3)

-- a key and how many siblings it has
abbrev pub count_text : Text × ℕ → List ℕ
count_text count = line (count.0 ∷ decimal count.1 ∷ [])

-- 64 hexadecimal digits
abbrev pub digest_text : List ℕ → List ℕ
digest_text digest = line (encode_lower digest ∷ [])

-- the same of the root of the hash tree, behind its word
abbrev pub root_text : List ℕ → List ℕ
root_text digest = line (codes "root" ∷ encode_lower digest ∷ [])

-- ---- several lines

-- the context, and the siblings by rising dot
abbrev pub state_text : State → List ℕ
state_text state = context_text state.context ++ flat_map sibling_text (entries state.siblings)

-- siblings in a list
abbrev pub siblings_text : List Sibling → List ℕ
siblings_text siblings = flat_map (λ s. sibling_text (pair_of s)) siblings

-- the text of each, or `none`
abbrev pub list_text : {X : Type 0} → (X → List ℕ) → List X → List ℕ
list_text text [] = line (codes "none" ∷ [])
list_text text (x ∷ xs) = flat_map text (x ∷ xs)

abbrev pub places_text : Bool → List Place → List ℕ
places_text has_terms places = list_text (place_text has_terms) places

-- ---- replies

-- the text of a reply, where it is one that is printed; a refusal is told in its place
abbrev pub reply_text : Bool → Reply → Result (List ℕ) Refusal
reply_text has_terms (reply.State state) = Ok (state_text state)
reply_text has_terms (reply.Written dot) = Ok (written_text dot)
reply_text has_terms reply.Done = Ok done_text
reply_text has_terms (reply.Places places more) = Ok (places_text has_terms places)
reply_text has_terms (reply.Row row) = Ok (row_text row)
reply_text has_terms (reply.Rows rows more) = Ok (list_text view_row_text rows)
reply_text has_terms (reply.Digests digests) = Ok (digest_text digests.own)
reply_text has_terms (reply.Keys keys more) = Err BadKind
reply_text has_terms (reply.Counts counts more) = Ok (list_text count_text counts)
reply_text has_terms (reply.Refused refusal) = Err refusal

-- the text of a reply that tells no more than that something was done, or its dot
abbrev pub short_text : Reply → Result (List ℕ) Refusal
short_text (reply.Written dot) = Ok (written_text dot)
short_text reply.Done = Ok done_text
short_text (reply.Refused refusal) = Err refusal
short_text _ = Err BadKind
