-- What a reply of a site is as a response: its status and its body, by what was asked (statuses of RFC 9110).
use Rattle.std.specs.Prelude.{ℕ, ◌==◌, ◌≡◌, ◌++◌, ◌⊎◌, if◌then◌else◌, Bool, true, false, List, [], length, Option, Some, None, Result, Ok, Err, ⊤}
use Rattle.std.specs.FinMap.{entries}
use Rattle.std.specs.FinSet as set
use Rattle.mvd_dots.specs.Context.{DotSet}
use Rattle.mvd_dots.specs.Dot.{DotValue}
use Rattle.mvd_dots.specs.declared.refusals.Refusal.{Refusal}
use Rattle.mvd_dots.specs.declared.refusals.Refusal.TheVariants.{BadKey, BadContext, BadDocument, NotObject, BadNumber, DocumentTooLong, NotCanonical, Exhausted, StateTooLarge, Full, DotClash, NoIndex, NoView, BadPath, BadTerm, Memory, Store, Broken, BadBody, BadKind, NotAdmitted}
use Rattle.mvd_docs.specs.declared.term.Term.{Term}
use Rattle.mvd_keys.specs.State.{State}
use Rattle.mvd_keys.specs.Writes.{Key}
use Rattle.mvd_wire.specs.declared.reply.RowValue.{RowValue}
use Rattle.mvd_wire.specs.declared.reply.Reply.{Reply}
use Rattle.mvd_wire.specs.declared.reply.Reply.TheVariants as reply
use Rattle.mvd_wire.specs.declared.request.Request.{Request}
use Rattle.mvd_wire.specs.declared.request.Request.TheVariants.{Bucket, Get, Node, Put, Row}
use Rattle.mvd_http.specs.declared.question.Spelling.{Spelling}
use Rattle.mvd_http.specs.declared.question.Spelling.TheVariants.{Plain, Quoted}
use Rattle.mvd_http.specs.Json.{bucket_line, counts_text, denied_json, keys_json, later_json, later_line, live_text, node_line, misread_json, node_text, places_json, refused_json, row_json, rows_text, state_json, written_json}

-- a status and a body
pub record Told : Type 0 where
  pub status : ℕ
  pub body : List ℕ

-- what was asked for was found
abbrev pub ok_told : List ℕ → Told
ok_told body = record { status = 200; body = body }

-- ---- refusals

abbrev pub refused_status : Refusal → ℕ
refused_status BadKey = 400
refused_status BadContext = 400
refused_status BadDocument = 400
refused_status NotObject = 400
refused_status BadNumber = 400
refused_status DocumentTooLong = 400
refused_status NotCanonical = 400
refused_status BadPath = 400
refused_status BadTerm = 400
refused_status BadBody = 400
refused_status NotAdmitted = 401
refused_status NoIndex = 404
refused_status NoView = 404
refused_status Exhausted = 409
refused_status StateTooLarge = 409
refused_status Full = 409
refused_status DotClash = 409
refused_status Memory = 503
refused_status Store = 503
refused_status Broken = 503
refused_status _ = 500

abbrev pub refused_told : Refusal → Told
refused_told refusal = record { status = refused_status refusal; body = refused_json refusal }

-- a document's refusal, with the place of what is wrong
abbrev pub misread_told : Refusal → List ℕ → Told
misread_told refusal place = record { status = refused_status refusal; body = misread_json refusal place }

-- ---- replies

abbrev pub key_asked : Request → Option Key
key_asked (Get key) = Some key
key_asked _ = None

abbrev pub term_asked : Request → Option Term
term_asked (Row view term) = Some term
term_asked _ = None

-- a key without a sibling is told alike, as one that is not found
abbrev pub found_status : State → ℕ
found_status state = if length (entries state.siblings) == 0 then 404 else 200

abbrev pub state_told : Spelling → Option Key → State → Result Told Refusal
state_told spelling None state = Err BadKind
state_told spelling (Some key) state = Ok (record { status = found_status state; body = state_json spelling key state })

abbrev pub row_response : Option Term → RowValue → Result Told Refusal
row_response None row = Err BadKind
row_response (Some term) row = Ok (ok_told (row_json term row.count row.sum row.ends))

-- what the author of a write had seen
abbrev pub seen_by : Request → DotSet
seen_by (Put key seen document) = seen
seen_by _ = set.empty

-- what its author has seen then: that, and the write's own dot
abbrev pub seen_then : Request → DotValue → DotSet
seen_then request dot = set.insert (seen_by request) dot

-- The status and the body, or the refusal that is told in their place. A reply of a kind that answers no such request
-- is 32.
abbrev pub reply_told : Request → Reply → Result Told Refusal
reply_told request (reply.State state) = state_told Plain (key_asked request) state
reply_told request (reply.Written dot) = Ok (record { status = 201; body = written_json dot (seen_then request dot) })
reply_told request reply.Done = Ok (record { status = 204; body = [] })
reply_told request (reply.Places places more) = Ok (ok_told (places_json places more))
reply_told request (reply.Row row) = row_response (term_asked request) row
reply_told request (reply.Rows rows more) = Ok (ok_told (rows_text rows more))
reply_told request (reply.Digests digests) = Ok (ok_told (node_text digests.own digests.children))
reply_told request (reply.Keys keys more) = Ok (ok_told (keys_json keys more))
reply_told request (reply.Counts keys more) = Ok (ok_told (counts_text keys more))
reply_told request (reply.Refused refusal) = Err refusal

-- the same, where keys without a sibling are left out
abbrev pub live_told : Request → Reply → Result Told Refusal
live_told request (reply.Counts keys more) = Ok (ok_told (live_text keys more))
live_told request reply = reply_told request reply

-- and where each document is told as its text
abbrev pub texts_told : Request → Reply → Result Told Refusal
texts_told request (reply.State state) = state_told Quoted (key_asked request) state
texts_told request reply = reply_told request reply

-- ---- lines of a list of questions

-- the line of the reply to a question: a node and the keys of a bucket with their path, and a key's state as it is told
-- alone. A reply of another kind is 32
abbrev pub refusal_in : Reply → Refusal
refusal_in (reply.Refused refusal) = refusal
refusal_in _ = BadKind

abbrev pub state_line : Spelling → Key → Reply → Result (List ℕ) Refusal
state_line spelling key (reply.State state) = Ok (state_json spelling key state)
state_line spelling key told = Err (refusal_in told)

abbrev pub digests_line : List ℕ → Reply → Result (List ℕ) Refusal
digests_line path (reply.Digests digests) = Ok (node_line path digests.own digests.children)
digests_line path told = Err (refusal_in told)

abbrev pub keys_line : List ℕ → Reply → Result (List ℕ) Refusal
keys_line path (reply.Keys keys more) = Ok (bucket_line path keys more)
keys_line path told = Err (refusal_in told)

abbrev pub line_told : Spelling → Request → Reply → Result (List ℕ) Refusal
line_told spelling (Get key) told = state_line spelling key told
line_told spelling (Node path) told = digests_line path told
line_told spelling (Bucket path after) told = keys_line path told
line_told spelling _ told = Err (refusal_in told)

-- what is told in its place where much is told, if anything
abbrev pub later_told : Request → Option (List ℕ)
later_told (Get key) = Some (later_json key)
later_told (Bucket path after) = Some (later_line path)
later_told _ = None

-- what is told in its place where it may not be asked
abbrev pub denied_told : Request → List ℕ
denied_told (Get key) = denied_json key
denied_told _ = refused_json NotAdmitted

-- the text came behind another; a refusal is given back, and so is want of memory
abbrev pub AppendsText : Result (List ℕ) Refusal → List ℕ → List ℕ → Result ⊤ Refusal → Type 0
AppendsText (Ok text) old new (Ok _) = new ≡ old ++ text
AppendsText (Ok text) old new (Err refusal) = refusal ≡ Memory
AppendsText (Err refusal) old new result = result ≡ Err refusal

-- the same of a text that there may be, and whether there is one
abbrev pub AppendsIf : Option (List ℕ) → List ℕ → List ℕ → Result Bool Refusal → Type 0
AppendsIf text old new (Err refusal) = refusal ≡ Memory
AppendsIf (Some text) old new (Ok told) = (told ≡ true) × (new ≡ old ++ text)
AppendsIf None old new (Ok told) = (told ≡ false) × (new ≡ old)

-- ---- what is told

pub record IsToldAs (told : Told) (status : ℕ) (body : List ℕ) : Type 0 where
  pub status_is : status ≡ told.status
  pub body_is : body ≡ told.body

-- the reply of a change, which is stored by then
abbrev pub is_stored : Reply → Bool
is_stored (reply.Written dot) = true
is_stored reply.Done = true
is_stored _ = false

-- This is told, or the refusal. Want of memory may be told in its place, but never of a change that is stored.
abbrev pub Responds : Bool → Result Told Refusal → ℕ → List ℕ → Type 0
Responds stored (Ok told) status body =
    IsToldAs told status body ⊎ ((stored ≡ false) × IsToldAs (refused_told Memory) status body)
Responds stored (Err refusal) status body = IsToldAs (refused_told refusal) status body

-- the body came behind a text, and its status is given; a refusal is given back, and so is want of memory
abbrev pub AppendsBody : Result Told Refusal → List ℕ → List ℕ → Result ℕ Refusal → Type 0
AppendsBody (Ok told) old new (Ok status) = (status ≡ told.status) × (new ≡ old ++ told.body)
AppendsBody (Ok told) old new (Err refusal) = refusal ≡ Memory
AppendsBody (Err refusal) old new result = result ≡ Err refusal
