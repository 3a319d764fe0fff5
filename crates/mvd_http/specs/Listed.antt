-- What is told of a page where it is to have more than the site's own, from the states of its keys, or fewer entries.
use Rattle.std.specs.Prelude.{◌≡◌, ◌⊎◌, ⊤, ℕ, ℤ, ◌+◌, ◌-◌, ◌++◌, ◌||◌, ◌==◌, nat_lt, not, if◌then◌else◌, Bool, true, false, List, [], ◌∷◌, codes, filter, length, take, Option, Some, None, Result, Ok, Err}
use Rattle.std.specs.FinMap.{get}
use Rattle.std.specs.Fmt.{decimal}
use Rattle.sha2.specs.Sha256.{sha256}
use Rattle.mvd_dots.specs.declared.refusals.Refusal.{Refusal}
use Rattle.mvd_dots.specs.declared.refusals.Refusal.TheVariants.{Memory}
use Rattle.mvd_dots.specs.Dot.{DotValue}
use Rattle.mvd_docs.specs.declared.term.Term.{Term}
use Rattle.mvd_keys.specs.State.{State, Text}
use Rattle.mvd_keys.specs.Writes.{Key}
use Rattle.mvd_keys.specs.declared.places.Place.{Place}
use Rattle.mvd_wire.specs.Codecs.{key as spelled_key, spell_state}
use Rattle.mvd_wire.specs.declared.reply.Reply.{Reply}
use Rattle.mvd_wire.specs.declared.reply.Reply.TheVariants as reply
use Rattle.mvd_http.specs.Answers.{refusal_in}
use Rattle.mvd_http.specs.Json.{commaed, count_mark, digest_json, document_json, keys_json, next_text, next_text_of}
use Rattle.mvd_http.specs.Json.{place_front, place_json, place_mark, quoted, rows_text, state_members}
use Rattle.mvd_http.specs.declared.question.Spelling.{Spelling}
use Rattle.mvd_http.specs.declared.question.Wanted.{Wanted}

-- ---- digests

-- a key in its state as the two are spelled, and the digest of that, which the hash tree has too
abbrev pub spelling : Key → State → List ℕ
spelling key state = spelled_key.spell key ++ spell_state state

unfoldable pub state_digest : Key → State → List ℕ
state_digest key state = sha256 (spelling key state)

-- ---- items

abbrev pub digest_told : Bool → Key → State → List ℕ
digest_told false key state = []
digest_told true key state = codes ",\"digest\":" ++ digest_json (state_digest key state)

-- the number of siblings, or what they are
abbrev pub count_json : ℕ → List ℕ
count_json count = codes ",\"siblings\":" ++ decimal count

abbrev pub siblings_told : Option Spelling → ℕ → State → List ℕ
siblings_told None count state = count_json count
siblings_told (Some spelling) count state = state_members spelling state

abbrev pub item_json : Wanted → Key × ℕ → State → List ℕ
item_json wanted entry state =
    codes "{\"key\":"
    ++ (quoted entry.0
    ++ (siblings_told wanted.documents entry.1 state ++ (digest_told wanted.digests entry.0 state ++ codes "}")))

-- keys without a sibling may be left out
abbrev pub is_told : Wanted → Key × ℕ → Bool
is_told wanted entry = not wanted.live || nat_lt 0 entry.1

-- ---- pages

-- the bytes that it takes to tell an item: those that are told, and those that are hashed
abbrev pub hashed_bytes : Bool → Key → State → ℕ
hashed_bytes false key state = 0
hashed_bytes true key state = length (spelling key state)

abbrev pub item_bytes : Wanted → Key × ℕ → State → ℕ
item_bytes wanted entry state =
    if is_told wanted entry then length (item_json wanted entry state) + hashed_bytes wanted.digests entry.0 state else 0

-- the first entries, up to that with which so many bytes are taken
unfoldable pub front : {X : Type 0} → (X → ℕ) → ℕ → List X → List X
front bytes room [] = []
front bytes room (x ∷ xs) = if room == 0 then [] else x ∷ front bytes (room - bytes x) xs

abbrev pub front_of : Wanted → (Key → State) → List (Key × ℕ) → List (Key × ℕ)
front_of wanted states keys = front (λ e. item_bytes wanted e (states e.0)) 1048576 keys

abbrev pub items_json : Wanted → (Key → State) → List (Key × ℕ) → List ℕ
items_json wanted states keys = commaed (λ e. item_json wanted e (states e.0)) (filter (is_told wanted) keys)

abbrev pub page_json : Wanted → (Key → State) → List (Key × ℕ) → Bool → List ℕ
page_json wanted states keys more =
    codes "{\"keys\":["
    ++ (items_json wanted states keys ++ (codes "]" ++ (next_text (next_text_of count_mark more keys) ++ codes "}")))

-- a page ends early where 1,048,576 bytes are taken, or as many entries as are wanted; then it has a next one
abbrev pub page_so_far : {X : Type 0} → (List X → Bool → List ℕ) → List X → List X → Bool → List ℕ
page_so_far page front whole more = page front (more || nat_lt (length front) (length whole))

abbrev pub listed_json : Wanted → (Key → State) → List (Key × ℕ) → Bool → List ℕ
listed_json wanted states keys more =
    page_so_far (page_json wanted states) (front_of wanted states (take wanted.limit keys)) keys more

-- ---- places

-- the document of the sibling with this dot, if there is one
abbrev pub document_if : Spelling → Option Text → List ℕ
document_if spelling None = []
document_if spelling (Some text) = codes "," ++ document_json spelling text

abbrev pub document_at : Spelling → DotValue → State → List ℕ
document_at spelling dot state = document_if spelling (get state.siblings dot)

-- a place, with the document of its dot in the state of its key, where that is wanted
abbrev pub place_in : Option Spelling → State → Place → List ℕ
place_in None state place = place_json place
place_in (Some spelling) state place = place_front place ++ (document_at spelling place.dot state ++ codes "}")

abbrev pub place_told : Option Spelling → (Key → State) → Place → List ℕ
place_told documents states place = place_in documents (states place.key) place

-- where documents are wanted, a state is that of the key
abbrev pub Serves : Option Spelling → (Key → State) → State → Key → Type 0
Serves None states state key = ⊤
Serves (Some _) states state key = state ≡ states key

abbrev pub place_bytes : Option Spelling → (Key → State) → Place → ℕ
place_bytes documents states place = length (place_told documents states place)

abbrev pub place_front_of : Option Spelling → (Key → State) → List Place → List Place
place_front_of documents states places = front (place_bytes documents states) 1048576 places

abbrev pub places_told : Option Spelling → (Key → State) → List Place → List ℕ
places_told documents states places = commaed (place_told documents states) places

abbrev pub places_page : Option Spelling → (Key → State) → List Place → Bool → List ℕ
places_page documents states places more =
    codes "{\"places\":["
    ++ (places_told documents states places
    ++ (codes "]" ++ (next_text (next_text_of place_mark more places) ++ codes "}")))

abbrev pub places_listed : Wanted → (Key → State) → List Place → Bool → List ℕ
places_listed wanted states places more =
    page_so_far (places_page wanted.documents states)
    (place_front_of wanted.documents states (take wanted.limit places)) places more

-- ---- pages of which no more is told

abbrev pub first_rows : Wanted → List (Term × ℕ × ℤ × Option (ℤ × ℤ)) → Bool → List ℕ
first_rows wanted rows more = rows_text (take wanted.limit rows) (more || nat_lt wanted.limit (length rows))

abbrev pub first_keys : Wanted → List (Key × List ℕ) → Bool → List ℕ
first_keys wanted keys more = keys_json (take wanted.limit keys) (more || nat_lt wanted.limit (length keys))

-- ---- replies

-- a reply of another kind is 32
abbrev pub listed_told : Wanted → (Key → State) → Reply → Result (List ℕ) Refusal
listed_told wanted states (reply.Counts keys more) = Ok (listed_json wanted states keys more)
listed_told wanted states (reply.Places places more) = Ok (places_listed wanted states places more)
listed_told wanted states (reply.Rows rows more) = Ok (first_rows wanted rows more)
listed_told wanted states (reply.Keys keys more) = Ok (first_keys wanted keys more)
listed_told wanted states told = Err (refusal_in told)

-- ---- refusals

-- what is not told, where states may be refused so: for want of memory, or for want of a state
abbrev pub IsUntold : Refusal → Refusal → Type 0
IsUntold held refusal = (refusal ≡ Memory) ⊎ (refusal ≡ held)

-- a page, which a reply may refuse, too
abbrev pub IsUnlisted : Result (List ℕ) Refusal → Refusal → Refusal → Type 0
IsUnlisted (Ok text) held refusal = IsUntold held refusal
IsUnlisted (Err told) held refusal = refusal ≡ told
