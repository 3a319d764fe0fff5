-- The requests that the texts of a line are (docs/FORMATS.md, Script), read from left to right: the first refusal
-- decides.
use Rattle.std.specs.Prelude.{ℕ, ◌≡◌, ◌≢◌, ◌-◌, ◌⊎◌, ◌&&◌, nat_le, if◌then◌else◌, true, List, [], ◌∷◌, codes, length, map, Option, Some, None, option_map, Result, Ok, Err}
use Rattle.std.specs.Borrow.{Bor}
use Rattle.std.specs.List.{slice_get}
use Rattle.std.specs.Str.{bytes_eq}
use Rattle.mvd_dots.specs.Answer.{IsAnswer, IsReading}
use Rattle.mvd_dots.specs.Context.{DotSet}
use Rattle.mvd_dots.specs.Dot.{DotValue}
use Rattle.mvd_dots.specs.Text.{IsTextOf}
use Rattle.mvd_dots.specs.declared.refusals.Refusal.{Refusal}
use Rattle.mvd_dots.specs.declared.refusals.Refusal.TheVariants.{BadContext, BadKind, BadPath, Memory}
use Rattle.mvd_docs.specs.Document.{document_of}
use Rattle.mvd_docs.specs.Name.{field_of, view_name_of}
use Rattle.mvd_docs.specs.Term.{pair_of_json, term_of_json}
use Rattle.mvd_docs.specs.declared.term.Term.{Term}
use Rattle.mvd_keys.specs.Key.{key_of_text}
use Rattle.mvd_keys.specs.Path.{path_of}
use Rattle.mvd_keys.specs.Writes.{Key}
use Rattle.mvd_keys.specs.declared.places.Place.{Place}
use Rattle.mvd_wire.specs.Prefix.{prefix_of_text}
use Rattle.mvd_input.specs.declared.command.Ask.{Ask}
use Rattle.mvd_input.specs.declared.command.Ask.TheVariants as ask
use Rattle.mvd_wire.specs.declared.reply.Reply.{Reply}
use Rattle.mvd_wire.specs.declared.reply.Reply.TheVariants as reply
use Rattle.mvd_wire.specs.declared.request.Request.{Request}
use Rattle.mvd_wire.specs.declared.request.Request.TheVariants.{Get, Put, Delete, Find, Row, Rows, Node, Range, Keys, Conflicts}

-- a request, and the reply to it
pub record Exchange : Type 0 where
  pub request : Request
  pub reply : Reply

-- what is made of a value, or the refusal in its place
abbrev pub then_read : {A B : Type 0} → Result A Refusal → (A → Result B Refusal) → Result B Refusal
then_read (Ok value) read = read value
then_read (Err refusal) read = Err refusal

-- ---- questions

-- places of a field's term, or of its terms from one to another, and rows of a view, behind an entry
abbrev pub find_asked : List ℕ → List ℕ → Option (Key × DotValue) → Result Request Refusal
find_asked field term after = then_read (field_of field) (λ f. then_read (term_of_json term) (λ t. Ok (Find f t after)))

abbrev pub range_asked : List ℕ → List ℕ → Option Place → Result Request Refusal
range_asked field terms after =
    then_read (field_of field) (λ f. then_read (pair_of_json terms) (λ t. Ok (Range f t.0 t.1 after)))

abbrev pub row_request : List ℕ → List ℕ → Result Request Refusal
row_request view term = then_read (view_name_of view) (λ v. then_read (term_of_json term) (λ t. Ok (Row v t)))

abbrev pub rows_request : List ℕ → Option Term → Result Request Refusal
rows_request view after = then_read (view_name_of view) (λ v. Ok (Rows v after))

-- keys with how many siblings each has, behind a key: those that begin with a prefix, or all where there is none
abbrev pub prefix_text : Option (Bor (List ℕ)) → List ℕ
prefix_text None = []
prefix_text (Some text) = text.now

abbrev pub keys_request : Option (Bor (List ℕ)) → Option Key → Result Request Refusal
keys_request prefix after = then_read (prefix_of_text (prefix_text prefix)) (λ p. Ok (Keys p after))

-- the value of a lower-case hexadecimal digit, and of no other byte one that a path may have
abbrev pub digit_in : ℕ → ℕ
digit_in byte = if nat_le 48 byte && nat_le byte 57 then byte - 48
    else (if nat_le 97 byte && nat_le byte 102 then byte - 87 else 255)

-- `-` is the whole tree; else there are one to three digits
abbrev pub path_in : List ℕ → Result (List ℕ) Refusal
path_in [] = Err BadPath
path_in (byte ∷ bytes) = if bytes_eq (byte ∷ bytes) (codes "-") then path_of []
    else path_of (map digit_in (byte ∷ bytes))

-- the question that a line asks first, of a list for its first page; a write is none
abbrev pub question : Ask → Result Request Refusal
question (ask.Put key context document) = Err BadKind
question (ask.Delete key context) = Err BadKind
question (ask.Get key) = then_read (key_of_text key.now) (λ k. Ok (Get k))
question (ask.Row view term) = row_request view.now term.now
question (ask.Node path) = then_read (path_in path.now) (λ p. Ok (Node p))
question (ask.Find field term) = find_asked field.now term.now None
question (ask.Range field terms) = range_asked field.now terms.now None
question (ask.Rows view) = rows_request view.now None
question (ask.Keys prefix) = keys_request prefix None
question ask.Conflicts = Ok (Conflicts None)

-- ---- writes

-- the context of the state that is told
abbrev pub shown_context : Reply → Result DotSet Refusal
shown_context (reply.State state) = Ok state.context
shown_context (reply.Refused refusal) = Err refusal
shown_context _ = Err BadKind

-- A context's text is read. For `@` the state of the key is asked for at that moment, and its context taken, unless
-- memory was refused for the question.
abbrev pub Sees : Key → List ℕ → List Exchange → Result DotSet Refusal → Type 0
Sees key text [] seen =
    (seen ≡ Err Memory) ⊎ ((text ≢ codes "@") × IsReading (λ dots. IsTextOf dots text) BadContext seen)
Sees key text (exchange ∷ []) seen =
    (text ≡ codes "@") × (exchange.request ≡ Get key) × IsAnswer seen (shown_context exchange.reply)
Sees key text exchanges seen = ⊥

-- a write is made of its key, the context that its author saw, and what stands behind that
abbrev pub IsMadeWrite : Result Key Refusal → List ℕ → (Key → DotSet → Result Request Refusal) → List Exchange
    → Result Request Refusal → Type 0
IsMadeWrite (Err refusal) context make exchanges request = (exchanges ≡ []) × (request ≡ Err refusal)
IsMadeWrite (Ok key) context make exchanges request =
    (seen : Result DotSet Refusal) × Sees key context exchanges seen × IsAnswer request (then_read seen (make key))

abbrev pub IsWriteOfLine : List ℕ → List ℕ → (Key → DotSet → Result Request Refusal) → List Exchange
    → Result Request Refusal → Type 0
IsWriteOfLine key context make exchanges request =
    (read : Result Key Refusal) × IsAnswer read (key_of_text key) × IsMadeWrite read context make exchanges request

abbrev pub put_request : List ℕ → Key → DotSet → Result Request Refusal
put_request document key seen = then_read (document_of document) (λ d. Ok (Put key seen d))

abbrev pub delete_request : Key → DotSet → Result Request Refusal
delete_request key seen = Ok (Delete key seen)

abbrev pub IsRequestOfLine : Ask → List Exchange → Result Request Refusal → Type 0
IsRequestOfLine ask exchanges request = (exchanges ≡ []) × IsAnswer request (question ask)

-- the request that a line asks for, with what is asked before it
abbrev pub IsRequestOf : Ask → List Exchange → Result Request Refusal → Type 0
IsRequestOf (ask.Put key context document) exchanges request =
    IsWriteOfLine key.now context.now (put_request document.now) exchanges request
IsRequestOf (ask.Delete key context) exchanges request =
    IsWriteOfLine key.now context.now delete_request exchanges request
IsRequestOf (ask.Get key) exchanges request = IsRequestOfLine (ask.Get key) exchanges request
IsRequestOf (ask.Row view term) exchanges request = IsRequestOfLine (ask.Row view term) exchanges request
IsRequestOf (ask.Node path) exchanges request = IsRequestOfLine (ask.Node path) exchanges request
IsRequestOf (ask.Find field term) exchanges request = IsRequestOfLine (ask.Find field term) exchanges request
IsRequestOf (ask.Range field terms) exchanges request = IsRequestOfLine (ask.Range field terms) exchanges request
IsRequestOf (ask.Rows view) exchanges request = IsRequestOfLine (ask.Rows view) exchanges request
IsRequestOf (ask.Keys prefix) exchanges request = IsRequestOfLine (ask.Keys prefix) exchanges request
IsRequestOf ask.Conflicts exchanges request = IsRequestOfLine ask.Conflicts exchanges request

-- ---- pages

abbrev pub last_of : {X : Type 0} → List X → Option X
last_of xs = slice_get xs (length xs - 1)

-- the request for what is behind the last entry of a page
abbrev pub behind : {X : Type 0} → Option X → (X → Result Request Refusal) → Result (Option Request) Refusal
behind None asked = Ok None
behind (Some entry) asked = then_read (asked entry) (λ request. Ok (Some request))

abbrev pub find_behind : List ℕ → List ℕ → Place → Result Request Refusal
find_behind field term place = find_asked field term (Some (place.key, place.dot))

abbrev pub next_places : Ask → Option Place → Result (Option Request) Refusal
next_places (ask.Find field term) last = behind last (find_behind field.now term.now)
next_places (ask.Range field terms) last = behind last (λ place. range_asked field.now terms.now (Some place))
next_places _ last = Ok None

abbrev pub next_rows : Ask → Option Term → Result (Option Request) Refusal
next_rows (ask.Rows view) last = behind last (λ term. rows_request view.now (Some term))
next_rows _ last = Ok None

abbrev pub next_counts : Ask → Option Key → Result (Option Request) Refusal
next_counts (ask.Keys prefix) last = behind last (λ key. keys_request prefix (Some key))
next_counts ask.Conflicts last = behind last (λ key. Ok (Conflicts (Some key)))
next_counts _ last = Ok None

-- the next page of a list, where more is left behind this one
abbrev pub next_asked : Ask → Reply → Result (Option Request) Refusal
next_asked asked (reply.Places places true) = next_places asked (last_of places)
next_asked asked (reply.Rows rows true) = next_rows asked (option_map (λ row. row.0) (last_of rows))
next_asked asked (reply.Counts counts true) = next_counts asked (option_map (λ entry. entry.0) (last_of counts))
next_asked asked told = Ok None
