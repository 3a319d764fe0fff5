-- The writes of one request: those that are asked, and those that are refused at once.
use Rattle.std.specs.Prelude.{◌≡◌, ◌⊎◌, ℕ, Bool, true, false, if◌then◌else◌, List, [], ◌∷◌, ◌++◌, Option, Some, None, Result, Ok, Err, string_bytes}
use Rattle.mvd_dots.specs.declared.refusals.Refusal.{Refusal}
use Rattle.mvd_dots.specs.declared.refusals.Refusal.TheVariants.{BadKind, NotAdmitted}
use Rattle.mvd_conn.specs.Rights.{may}
use Rattle.mvd_conn.specs.declared.right.Right.{Right}
use Rattle.mvd_host.specs.AtHand.{AllMayWait, AtHandValue, asked_by_one, asks_of}
use Rattle.mvd_server.specs.declared.batch.Batch.{Batch}
use Rattle.mvd_wire.specs.declared.request.Request.{Request}
use Rattle.mvd_wire.specs.declared.request.Request.TheVariants.{Get, Put, Delete, Find, Row, Rows, Node, Bucket, Push, Range, Keys, Conflicts}

-- what may be asked of the site over HTTP
abbrev pub is_web_request : Request → Bool
is_web_request (Get key) = true
is_web_request (Put key seen document) = true
is_web_request (Delete key seen) = true
is_web_request (Find field term after) = true
is_web_request (Row view term) = true
is_web_request (Rows view after) = true
is_web_request (Node path) = true
is_web_request (Bucket path after) = true
is_web_request (Push key state) = true
is_web_request (Range field from to after) = true
is_web_request (Keys prefix after) = true
is_web_request (Conflicts after) = true
is_web_request _ = false

-- what a write asks of the site by a right, and why it is refused at once, if it is
abbrev pub asked_if : Right → Result Request Refusal → List Request
asked_if right (Ok request) =
    if may right request then (if is_web_request request then request ∷ [] else []) else []
asked_if right (Err refusal) = []

abbrev pub refused_if : Right → Result Request Refusal → Option Refusal
refused_if right (Ok request) =
    if may right request then (if is_web_request request then None else Some BadKind) else Some NotAdmitted
refused_if right (Err refusal) = Some refusal

-- what all writes ask, in order
abbrev pub asked_in : Right → List (Result Request Refusal) → List Request
asked_in right [] = []
asked_in right (write ∷ writes) = asked_if right write ++ asked_in right writes

-- of each write why it is refused at once, if it is
abbrev pub refusals_of : Right → List (Result Request Refusal) → List (Option Refusal)
refusals_of right [] = []
refusals_of right (write ∷ writes) = refused_if right write ∷ refusals_of right writes

-- the batch is of these writes, of which none was asked or told; of those that the right does not allow none will be asked
pub record BeginsBatch (right : Right) (writes : List (Result Request Refusal)) (batch : Batch) : Type 0 where
  pub requests : batch.requests.items ≡ asked_in right writes
  pub refused : batch.refused.items ≡ refusals_of right writes
  pub told : batch.told ≡ 0
  pub lines : string_bytes batch.lines ≡ []

-- all that the writes ask is asked at hand, once; or there is no memory for that, and nothing is
pub record AsksWrites (n : ℕ) (old : Batch) (hand : AtHandValue) (new : Batch) (hand' : AtHandValue) : Type 0 where
  pub may : AllMayWait (asks_of n old.requests.items)
  pub asks : hand' ≡ asked_by_one hand n old.requests.items
  pub gone : new.requests.items ≡ []
  pub same : new ≡ record old { requests = new.requests }

abbrev pub HandsBatch : ℕ → Batch → AtHandValue → Batch → AtHandValue → Type 0
HandsBatch n old hand new hand' = AsksWrites n old hand new hand' ⊎ ((new ≡ old) × (hand' ≡ hand))
