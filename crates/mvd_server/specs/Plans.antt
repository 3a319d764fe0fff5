-- What is done about what a request of HTTP asks, for whoever may ask.
use Rattle.std.specs.Prelude.{◌≡◌, ℕ, Bool, true, false, List, [], codes, Option, Some, None, Result, Ok, Err}
use Rattle.mvd_conn.specs.declared.right.Right.{Right}
use Rattle.mvd_dots.specs.declared.refusals.Refusal.{Refusal}
use Rattle.mvd_dots.specs.declared.refusals.Refusal.TheVariants.{Memory}
use Rattle.mvd_http.specs.Faults.{answer_of, fault_text}
use Rattle.mvd_http.specs.declared.fields.Answer.{Answer}
use Rattle.mvd_http.specs.declared.fields.Content.{Content}
use Rattle.mvd_http.specs.declared.fields.Content.TheVariants.{Html, Json, Nothing}
use Rattle.mvd_http.specs.declared.http_fault.Fault.{Fault}
use Rattle.mvd_http.specs.declared.http_fault.Fault.TheVariants.{ContentTooLarge, MethodNotAllowed, NotFound}
use Rattle.mvd_http.specs.declared.question.Methods.{Methods}
use Rattle.mvd_http.specs.declared.question.Question.{Question}
use Rattle.mvd_http.specs.declared.question.Question.TheVariants.{Page, Root, Metrics, Health, Stop, Ask, Asks, BadLine, Listed, Live, Changes, Many, Misread, Nowhere, NotAllowed, Texts, TooLong}
use Rattle.mvd_server.specs.Batches.{BeginsBatch, is_web_request}
use Rattle.mvd_server.specs.declared.gate.Plan.{Plan}
use Rattle.mvd_server.specs.declared.gate.Plan.TheVariants as plan
use Rattle.mvd_web.specs.Rights.{may_ask}
use Rattle.mvd_wire.specs.declared.request.Request.{Request}

-- this is asked, or want of memory is told
abbrev pub HandsOn : Request → Plan → Type 0
HandsOn request (plan.Ask asked) = asked ≡ request
HandsOn request (plan.Refused refusal) = is_web_request request ≡ true → refusal ≡ Memory
HandsOn request _ = ⊥

-- these writes are, as far as a right allows them, or want of memory is told
abbrev pub HandsOnAll : Right → List (Result Request Refusal) → Plan → Type 0
HandsOnAll right writes (plan.Writes batch) = BeginsBatch right writes batch
HandsOnAll right writes (plan.Refused refusal) = refusal ≡ Memory
HandsOnAll right writes _ = ⊥

-- a response of no other fields, and with a body of this kind
abbrev pub plain_answer : ℕ → Content → Answer
plain_answer status content =
    record { status = status; content = content; allow = None; asks_token = false; preflight = None }

-- a fault of HTTP's own is told, and by which methods it is asked
abbrev pub TellsFault : Fault → Option Methods → Plan → Type 0
TellsFault fault allow (plan.Told answer body) =
    (answer ≡ record (answer_of fault) { allow = allow }) × (body.now ≡ fault_text fault)
TellsFault fault allow _ = ⊥

-- a page is told
abbrev pub TellsWebPage : Plan → Type 0
TellsWebPage (plan.Told answer body) = answer ≡ plain_answer 200 Html
TellsWebPage _ = ⊥

-- it is told by which methods a page of another origin may ask
abbrev pub TellsPermits : Methods → Plan → Type 0
TellsPermits methods (plan.Told answer body) =
    (answer ≡ record (plain_answer 204 Nothing) { preflight = Some methods }) × (body.now ≡ [])
TellsPermits methods _ = ⊥

abbrev pub TellsMethods : Result Question Refusal → Plan → Type 0
TellsMethods (Ok (NotAllowed methods)) p = TellsPermits methods p
TellsMethods _ p = TellsFault NotFound None p

-- what is done about a question
abbrev pub IsPlanFor : Right → Question → Plan → Type 0
IsPlanFor right (Ask request) p = HandsOn request p
IsPlanFor right (Live request) p = HandsOn request p
IsPlanFor right (Texts request) p = HandsOn request p
IsPlanFor right (Many writes) p = HandsOnAll right writes p
IsPlanFor right (Asks questions spelling) p = p ≡ plan.Asks right
IsPlanFor right (Listed request wanted) p = p ≡ plan.Listed
IsPlanFor right (BadLine line) p = p ≡ plan.BadLine line
IsPlanFor right (Changes since wait followed) p = p ≡ plan.Changes since wait
IsPlanFor right Page p = TellsWebPage p
IsPlanFor right Root p = p ≡ plan.Root
IsPlanFor right Metrics p = p ≡ plan.Metrics
IsPlanFor right Health p = p ≡ plan.Health
IsPlanFor right Stop p = p ≡ plan.Stop
IsPlanFor right TooLong p = TellsFault ContentTooLarge None p
IsPlanFor right (Misread refusal place) p = p ≡ plan.Refused refusal
IsPlanFor right Nowhere p = TellsFault NotFound None p
IsPlanFor right (NotAllowed methods) p = TellsFault MethodNotAllowed (Some methods) p

abbrev pub not_admitted : List ℕ
not_admitted = codes "{\"refused\":38,\"name\":\"NotAdmitted\"}"

-- that its right does not allow it is told: 403, and 38
abbrev pub TellsBeyond : Plan → Type 0
TellsBeyond (plan.Told answer body) = (answer ≡ plain_answer 403 Json) × (body.now ≡ not_admitted)
TellsBeyond _ = ⊥

-- WHAT A RIGHT DOES NOT ALLOW is not done
abbrev pub IsPlanIf : Bool → Right → Question → Plan → Type 0
IsPlanIf true right question p = IsPlanFor right question p
IsPlanIf false right question p = TellsBeyond p

-- WHAT NEEDS NO TOKEN: the page, and whether the server can answer
abbrev pub IsFreePlan : Result Question Refusal → Plan → Type 0
IsFreePlan (Ok Page) p = TellsWebPage p
IsFreePlan (Ok Health) p = p ≡ plan.Health
IsFreePlan (Ok TooLong) p = TellsFault ContentTooLarge None p
IsFreePlan _ p = p ≡ plan.NotAdmitted

-- what is done about a question, or the refusal of what is none
abbrev pub IsPlanOf : Right → Result Question Refusal → Plan → Type 0
IsPlanOf right (Ok question) p = IsPlanIf (may_ask right question) right question p
IsPlanOf right (Err refusal) p = p ≡ plan.Refused refusal
