-- What is told of a list of questions: a line for each, of the site's answer to it; and of a list that is none.
use Rattle.std.specs.Prelude.{◌≡◌, ◌⊎◌, nat_le, if◌then◌else◌, ℕ, Bool, true, List, [], ◌∷◌, ◌++◌, length, Option, Some, None, Result, Ok, Err}
use Rattle.mvd_conn.specs.Rights.{may}
use Rattle.mvd_conn.specs.declared.right.Right.{Right}
use Rattle.mvd_dots.specs.declared.refusals.Refusal.{Refusal}
use Rattle.mvd_dots.specs.declared.refusals.Refusal.TheVariants.{BadKind, Memory}
use Rattle.mvd_http.specs.Answers.{denied_told, later_told, line_told}
use Rattle.mvd_http.specs.Json.{bad_line_json, refused_json}
use Rattle.mvd_http.specs.Seen.{then_read}
use Rattle.mvd_http.specs.declared.fields.Content.{Content}
use Rattle.mvd_http.specs.declared.fields.Content.TheVariants as content
use Rattle.mvd_http.specs.declared.question.Question.{Question}
use Rattle.mvd_http.specs.declared.question.Question.TheVariants.{Asks}
use Rattle.mvd_http.specs.declared.question.Spelling.{Spelling}
use Rattle.mvd_server.specs.Plans.{plain_answer}
use Rattle.mvd_server.specs.Responding.{RefusesWeb}
use Rattle.mvd_site.specs.Answer.{answer_from}
use Rattle.mvd_site.specs.Sites.{SiteValue}
use Rattle.mvd_web.specs.Web.{RespondsTo, WebValue}
use Rattle.mvd_web.specs.declared.taken.Asked.{Asked}
use Rattle.mvd_wire.specs.declared.request.Request.{Request}

-- ---- lines

abbrev pub later_or : Bool → Option (List ℕ) → Result (List ℕ) Refusal → Result (List ℕ) Refusal
later_or true (Some later) line = Ok later
later_or _ _ line = line

-- what a question is told where so many bytes are told already: from 1,048,576 on a state, and the keys of a bucket,
-- are to be asked again
abbrev pub answer_line : SiteValue → Spelling → ℕ → Request → Result (List ℕ) Refusal
answer_line site spelling told request =
    later_or (nat_le 1048576 told) (later_told request)
    (line_told spelling request (answer_from site.config site.states request))

-- what its right does not allow is not asked
abbrev pub ask_line : Right → SiteValue → Spelling → ℕ → Result Request Refusal → Result (List ℕ) Refusal
ask_line right site spelling told (Err refusal) = Ok (refused_json refusal)
ask_line right site spelling told (Ok request) =
    if may right request then answer_line site spelling told request else Ok (denied_told request)

-- behind what is told already a line for each, with its line feed (10), or the first refusal of all
unfoldable pub asks_text : Right → SiteValue → Spelling → List ℕ → List (Result Request Refusal)
    → Result (List ℕ) Refusal
asks_text right site spelling told [] = Ok told
asks_text right site spelling told (ask ∷ asks) =
    then_read (ask_line right site spelling (length told) ask)
    (λ line. asks_text right site spelling ((told ++ line) ++ 10 ∷ []) asks)

-- ---- responses

abbrev pub asks_of : Right → SiteValue → Result Question Refusal → Result (List ℕ) Refusal
asks_of right site (Ok (Asks asks spelling)) = asks_text right site spelling [] asks
asks_of right site _ = Err BadKind

-- a text of this kind is told, or a refusal in its place
abbrev pub TellsText : Content → Result (List ℕ) Refusal → WebValue → WebValue → Type 0
TellsText kind told old new =
    ((text : List ℕ) × (told ≡ Ok text) × RespondsTo old.asked old (plain_answer 200 kind) text new)
    ⊎ ((refusal : Refusal) × RefusesWeb refusal old new)

-- the request that waits is told the lines of its questions
abbrev pub TellsAsks : Right → SiteValue → Option Asked → WebValue → WebValue → Type 0
TellsAsks right site None old new = new ≡ old
TellsAsks right site (Some asked) old new = TellsText content.Lines (asks_of right site asked.question) old new

-- which line of a list has another form
abbrev pub TellsBadLine : ℕ → WebValue → WebValue → Type 0
TellsBadLine line old new =
    RespondsTo old.asked old (plain_answer 400 content.Json) (bad_line_json line) new ⊎ RefusesWeb Memory old new
