-- What a request of HTTP asks, this repository's own: of the site, or of the server. It is read from left to right: the
-- first refusal decides.
use Rattle.std.specs.Prelude.{ℕ, ◌-◌, ◌==◌, ◌≡◌, ◌&&◌, ◌||◌, nat_lt, nat_le, not, if◌then◌else◌, Bool, true, false, List, [], ◌∷◌, codes, length, map, Option, Some, None, Result, Ok, Err}
use Rattle.std.specs.FinSet as set
use Rattle.std.specs.List.{slice_split}
use Rattle.std.specs.Str.{bytes_eq}
use Rattle.hex.specs.Hex.{decode_sized}
use Rattle.hex.specs.declared.error.FromHexError.{FromHexError}
use Rattle.percent_encoding.specs.Percent.{percent_decode}
use Rattle.mvd_dots.specs.Answer.{IsAnswer}
use Rattle.mvd_dots.specs.Context.{DotSet}
use Rattle.mvd_dots.specs.Dot.{DotValue}
use Rattle.mvd_dots.specs.declared.refusals.Refusal.{Refusal}
use Rattle.mvd_dots.specs.declared.refusals.Refusal.TheVariants.{BadBody, BadContext, BadDocument, BadKey, BadPath, BadTerm, NoIndex, NoView}
use Rattle.mvd_docs.specs.Document.{document_of}
use Rattle.mvd_docs.specs.Name.{field_of, view_name_of}
use Rattle.mvd_docs.specs.Term.{term_of_json}
use Rattle.mvd_docs.specs.declared.term.Term.{Term}
use Rattle.mvd_keys.specs.Key.{key_of_text}
use Rattle.mvd_keys.specs.Path.{path_of}
use Rattle.mvd_keys.specs.Writes.{Key}
use Rattle.mvd_keys.specs.declared.places.Place.{Place}
use Rattle.mvd_print.specs.Place.{fault_json}
use Rattle.mvd_wire.specs.Prefix.{prefix_of_text}
use Rattle.mvd_wire.specs.declared.request.Request.{Request}
use Rattle.mvd_wire.specs.declared.request.Request.TheVariants.{Get, Put, Delete, Row, Rows, Node, Bucket, Range, Keys, Conflicts}
use Rattle.mvd_http.specs.declared.question.Question.{Question}
use Rattle.mvd_http.specs.declared.question.Question.TheVariants.{Page, Root, Metrics, Health, Stop, Ask, Asks, Texts, Changes, Misread, Nowhere, NotAllowed, TooLong}
use Rattle.mvd_http.specs.declared.posted.Form.{Form}
use Rattle.mvd_http.specs.declared.posted.Form.TheVariants as form
use Rattle.mvd_http.specs.declared.question.Methods.TheVariants.{OfKey, OfKeys, OfList, OfPost}
use Rattle.mvd_http.specs.declared.question.Verb.{Verb}
use Rattle.mvd_http.specs.declared.question.Spelling.{Spelling}
use Rattle.mvd_http.specs.declared.question.Spelling.TheVariants.{Plain, Quoted}
use Rattle.mvd_http.specs.declared.question.Verb.TheVariants as verb
use Rattle.mvd_http.specs.Paths.{text_before, text_behind, given, read_part, read_text, without, without_end}
use Rattle.mvd_http.specs.Dots.{dot_in, number_in}
use Rattle.mvd_http.specs.Options.{documents_in, page_in, spelling_in}
use Rattle.mvd_http.specs.Posted.{IsList}
use Rattle.mvd_http.specs.Seen.{IsWrite, then_read}

-- a refusal in place of another
abbrev pub else_refused : {A : Type 0} → Refusal → Result A Refusal → Result A Refusal
else_refused refusal (Ok value) = Ok value
else_refused refusal (Err other) = Err refusal

-- ---- parts

abbrev pub key_in : List ℕ → Result Key Refusal
key_in text = read_part key_of_text BadKey text

-- the empty prefix is one
abbrev pub prefix_in : List ℕ → Result (List ℕ) Refusal
prefix_in text = read_part prefix_of_text BadKey text

-- a text that names no field has no index, and one that names no view is none
abbrev pub field_named_in : List ℕ → Result (List ℕ) Refusal
field_named_in text = read_part (λ t. else_refused NoIndex (field_of t)) NoIndex text

abbrev pub view_named_in : List ℕ → Result (List ℕ) Refusal
view_named_in text = read_part (λ t. else_refused NoView (view_name_of t)) NoView text

abbrev pub term_in : List ℕ → Result Term Refusal
term_in text = read_part term_of_json BadTerm text

-- the value of a lower-case hexadecimal digit, and of no other byte one that a path may have
abbrev pub digit_in : ℕ → ℕ
digit_in byte = if nat_le 48 byte && nat_le byte 57 then byte - 48
    else (if nat_le 97 byte && nat_le byte 102 then byte - 87 else 255)

abbrev pub path_asked : List ℕ → Result (List ℕ) Refusal
path_asked text = path_of (map digit_in (percent_decode text))

-- nothing where nothing is given
abbrev pub if_given : {A : Type 0} → (List ℕ → Result A Refusal) → List ℕ → Result (Option A) Refusal
if_given read [] = Ok None
if_given read (b ∷ bs) = then_read (read (b ∷ bs)) (λ value. Ok (Some value))

-- ---- the text of a place: `SITE:COUNTER KEY TERM`

abbrev pub place_asked : DotValue → List ℕ → Result Place Refusal
place_asked dot rest =
    then_read (read_text key_of_text BadKey (text_before 32 rest)) (λ key.
    then_read (read_text term_of_json BadTerm (text_behind 32 rest))
    (λ term. Ok (record { term = term; key = key; dot = dot })))

abbrev pub place_of_text : List ℕ → Result Place Refusal
place_of_text text = then_read (dot_in (text_before 32 text)) (λ dot. place_asked dot (text_behind 32 text))

abbrev pub place_in : List ℕ → Result Place Refusal
place_in text = place_of_text (percent_decode text)

-- ---- a root, and how long to wait

abbrev pub root_asked : Result (List ℕ) FromHexError → Result (List ℕ) Refusal
root_asked (Ok bytes) = Ok bytes
root_asked (Err fault) = Err BadBody

-- the 32 bytes of 64 hexadecimal digits
abbrev pub root_in : List ℕ → Result (List ℕ) Refusal
root_in text = root_asked (decode_sized (percent_decode text) 32)

-- at most 60 seconds
abbrev pub wait_of : Option ℕ → Result ℕ Refusal
wait_of None = Err BadBody
wait_of (Some seconds) = if nat_le seconds 60 then Ok seconds else Err BadBody

abbrev pub wait_in : List ℕ → Result ℕ Refusal
wait_in [] = Ok 0
wait_in (b ∷ bs) = wait_of (number_in (percent_decode (b ∷ bs)))

-- ---- lists

-- `is` stands for both bounds
abbrev pub bound_or : List ℕ → List ℕ → List ℕ
bound_or [] bound = bound
bound_or (b ∷ bs) bound = b ∷ bs

abbrev pub bound : List ℕ → List ℕ → List ℕ
bound name query = bound_or (given (codes "is=") query) (given name query)

abbrev pub index_asked : List ℕ → List ℕ → Result Question Refusal
index_asked field query =
    then_read (field_named_in field) (λ f.
    then_read (term_in (bound (codes "from=") query)) (λ low.
    then_read (term_in (bound (codes "to=") query)) (λ high.
    then_read (if_given place_in (given (codes "after=") query)) (λ after. page_in query (Range f low high after)))))

abbrev pub rows_question : List ℕ → List ℕ → Result Question Refusal
rows_question view query =
    then_read (view_named_in view) (λ v.
    then_read (if_given term_in (given (codes "after=") query)) (λ after. page_in query (Rows v after)))

abbrev pub row_question : List ℕ → List ℕ → Result Question Refusal
row_question view query =
    then_read (view_named_in view)
    (λ v. then_read (term_in (given (codes "is=") query)) (λ term. Ok (Ask (Row v term))))

abbrev pub row_or : Option (List ℕ) → List ℕ → Result Question Refusal
row_or None query = Ok Nowhere
row_or (Some view) query = row_question view query

abbrev pub view_or : Option (List ℕ) → List ℕ → List ℕ → Result Question Refusal
view_or None view query = row_or (without_end (codes "/row") view) query
view_or (Some name) view query = rows_question name query

-- `V/rows` or `V/row`
abbrev pub view_asked : List ℕ → List ℕ → Result Question Refusal
view_asked view query = view_or (without_end (codes "/rows") view) view query

-- three digits ask for the keys of a bucket, and fewer for a node
abbrev pub under_path : List ℕ → List ℕ → Result Question Refusal
under_path path query =
    if length path == 3
    then then_read (if_given key_in (given (codes "after=") query)) (λ after. page_in query (Bucket path after))
    else Ok (Ask (Node path))

abbrev pub node_or_keys : List ℕ → Request
node_or_keys path = if length path == 3 then Bucket path None else Node path

-- what is asked of these paths, from the first on
unfoldable pub paths_asked : List (List ℕ) → Result (List (Result Request Refusal)) Refusal
paths_asked [] = Ok []
paths_asked (text ∷ texts) =
    then_read (path_of (map digit_in text)) (λ path.
    then_read (paths_asked texts) (λ asks. Ok (Ok (node_or_keys path) ∷ asks)))

-- at most 64 of them
abbrev pub few_paths : List (List ℕ) → Result Question Refusal
few_paths texts =
    if nat_lt 64 (length texts) then Err BadPath else then_read (paths_asked texts) (λ asks. Ok (Asks asks Plain))

-- parted by `,` (44)
abbrev pub paths_or : List ℕ → List ℕ → Result Question Refusal
paths_or [] query = then_read (path_asked (given (codes "path=") query)) (λ path. under_path path query)
paths_or (b ∷ bs) query = few_paths (slice_split (λ c. c == 44) (percent_decode (b ∷ bs)))

abbrev pub tree_asked : List ℕ → Result Question Refusal
tree_asked query = paths_or (given (codes "paths=") query) query

abbrev pub keys_question : List ℕ → Result Question Refusal
keys_question query =
    then_read (prefix_in (given (codes "prefix=") query)) (λ prefix.
    then_read (if_given key_in (given (codes "after=") query))
    (λ after. page_in query (Keys prefix after)))

abbrev pub conflicts_asked : List ℕ → Result Question Refusal
conflicts_asked query =
    then_read (if_given key_in (given (codes "after=") query)) (λ after. page_in query (Conflicts after))

-- `prefix=` names the keys that are told, `states=1` has each told in its state
abbrev pub changes_question : List ℕ → Result Question Refusal
changes_question query =
    then_read (if_given root_in (given (codes "since=") query)) (λ since.
    then_read (wait_in (given (codes "wait=") query)) (λ wait.
    then_read (prefix_in (given (codes "prefix=") query))
    (λ prefix. Ok (Changes since wait (record { prefix = prefix; states = documents_in (codes "states=") query })))))

abbrev pub named_view : Option (List ℕ) → List ℕ → Result Question Refusal
named_view None query = Ok Nowhere
named_view (Some view) query = view_asked view query

abbrev pub named_list : Option (List ℕ) → List ℕ → List ℕ → Result Question Refusal
named_list None path query = named_view (without (codes "/views/") path) query
named_list (Some field) path query = index_asked field query

-- what changes, and what is told of the keys
abbrev pub told_asked : List ℕ → List ℕ → Result Question Refusal
told_asked path query =
    if bytes_eq path (codes "/conflicts") then conflicts_asked query else (
    if bytes_eq path (codes "/changes") then changes_question query else (
    if bytes_eq path (codes "/tree") then tree_asked query else named_list (without (codes "/index/") path) path query))

abbrev pub list_asked : List ℕ → List ℕ → Result Question Refusal
list_asked path query =
    if bytes_eq path (codes "/") then Ok Page else (
    if bytes_eq path (codes "/root") then Ok Root else (
    if bytes_eq path (codes "/metrics") then Ok Metrics else (
    if bytes_eq path (codes "/health") then Ok Health else told_asked path query)))

-- ---- keys

-- a document that is refused is told with the place of what is wrong
abbrev pub put_or_place : List ℕ → Key → DotSet → Result (List ℕ) Refusal → Result Question Refusal
put_or_place body key seen (Ok document) = Ok (Ask (Put key seen document))
put_or_place body key seen (Err refusal) = Ok (Misread refusal (fault_json refusal body))

abbrev pub put_question : List ℕ → Key → DotSet → Result Question Refusal
put_question body key seen = put_or_place body key seen (read_text document_of BadDocument body)

abbrev pub delete_question : Key → DotSet → Result Question Refusal
delete_question key seen = Ok (Ask (Delete key seen))

-- its state, whose documents may be told as their texts
abbrev pub get_as : Spelling → Key → Question
get_as Plain key = Ask (Get key)
get_as Quoted key = Texts (Get key)

abbrev pub state_question : List ℕ → List ℕ → Result Question Refusal
state_question key query = then_read (key_in key) (λ k. Ok (get_as (spelling_in query) k))

abbrev pub IsQuestionOfKey : Verb → List ℕ → List ℕ → Option (List ℕ) → List ℕ → Result Question Refusal → Type 0
IsQuestionOfKey verb.Read key query context body result = IsAnswer result (state_question key query)
IsQuestionOfKey verb.Put key query context body result =
    IsWrite (Ok set.empty) (key_in key) context (put_question body) result
IsQuestionOfKey verb.Delete key query context body result =
    IsWrite (Err BadContext) (key_in key) context delete_question result
IsQuestionOfKey verb.Post key query context body result = result ≡ Ok (NotAllowed OfKey)
IsQuestionOfKey verb.Other key query context body result = result ≡ Ok (NotAllowed OfKey)

-- all keys: their list, or many writes
abbrev pub IsOfKeys : Verb → List ℕ → List ℕ → Result Question Refusal → Type 0
IsOfKeys verb.Read query body result = IsAnswer result (keys_question query)
IsOfKeys verb.Post query body result = IsList form.Writes body result
IsOfKeys verb.Put query body result = result ≡ Ok (NotAllowed OfKeys)
IsOfKeys verb.Delete query body result = result ≡ Ok (NotAllowed OfKeys)
IsOfKeys verb.Other query body result = result ≡ Ok (NotAllowed OfKeys)

-- ---- lists that are sent

-- to which paths, beside that of all keys
abbrev pub form_at : List ℕ → List ℕ → Option Form
form_at path query =
    if bytes_eq path (codes "/get") then Some (form.Keys (spelling_in query)) else (
    if bytes_eq path (codes "/push") then Some form.States else None)

abbrev pub IsOfList : Form → Verb → List ℕ → Result Question Refusal → Type 0
IsOfList f verb.Post body result = IsList f body result
IsOfList f _ body result = result ≡ Ok (NotAllowed OfPost)

-- to which of them writes or states are
abbrev pub takes_changes : List ℕ → Bool
takes_changes path = bytes_eq path (codes "/keys") || bytes_eq path (codes "/push")

-- these may have 2,097,152 bytes, which no body exceeds; each other body has at most 1,048,576
abbrev pub is_too_long : List ℕ → List ℕ → Bool
is_too_long path body = nat_lt 1048576 (length body) && not (takes_changes path)

-- ---- requests

-- `HEAD` asks what `GET` asks
abbrev pub verb_of : List ℕ → Verb
verb_of method =
    if bytes_eq method (codes "GET") then verb.Read else (
    if bytes_eq method (codes "HEAD") then verb.Read else (
    if bytes_eq method (codes "PUT") then verb.Put else (
    if bytes_eq method (codes "DELETE") then verb.Delete else (
    if bytes_eq method (codes "POST") then verb.Post else verb.Other))))

abbrev pub read_only : Verb → List ℕ → List ℕ → Result Question Refusal
read_only verb.Read path query = list_asked path query
read_only _ path query = Ok (NotAllowed OfList)

-- the server's end
abbrev pub stop_asked : Verb → Question
stop_asked verb.Post = Stop
stop_asked _ = NotAllowed OfPost

abbrev pub other_asked : Verb → List ℕ → List ℕ → Result Question Refusal
other_asked verb path query =
    if bytes_eq path (codes "/stop") then Ok (stop_asked verb) else read_only verb path query

abbrev pub IsOfServer : Bool → Verb → List ℕ → List ℕ → List ℕ → Result Question Refusal → Type 0
IsOfServer true verb path query body result = IsOfKeys verb query body result
IsOfServer false verb path query body result = IsAnswer result (other_asked verb path query)

abbrev pub IsOfPath : Option Form → Verb → List ℕ → List ℕ → List ℕ → Result Question Refusal → Type 0
IsOfPath None verb path query body result =
    IsOfServer (bytes_eq path (codes "/keys")) verb path query body result
IsOfPath (Some f) verb path query body result = IsOfList f verb body result

abbrev pub IsQuestionOf : Option (List ℕ) → Verb → List ℕ → List ℕ → Option (List ℕ) → List ℕ → Result Question Refusal
    → Type 0
IsQuestionOf None verb path query context body result = IsOfPath (form_at path query) verb path query body result
IsQuestionOf (Some key) verb path query context body result = IsQuestionOfKey verb key query context body result

abbrev pub IsQuestionIf : Bool → Verb → List ℕ → List ℕ → Option (List ℕ) → List ℕ → Result Question Refusal → Type 0
IsQuestionIf true verb path query context body result = result ≡ Ok TooLong
IsQuestionIf false verb path query context body result =
    IsQuestionOf (without (codes "/keys/") path) verb path query context body result

-- a request of this method, target, field `Mvd-Context` and body asks this
abbrev pub IsQuestion : List ℕ → List ℕ → Option (List ℕ) → List ℕ → Result Question Refusal → Type 0
IsQuestion method target context body result =
    IsQuestionIf (is_too_long (text_before 63 target) body) (verb_of method) (text_before 63 target)
    (text_behind 63 target) context body result
