-- HTTP's own faults (RFC 9110, 15.5 and 15.6): the status of the response, and its body in the form of a refusal, with
-- the number 0.
use Rattle.std.specs.Prelude.{ℕ, List, ◌++◌, codes, false, None}
use Rattle.mvd_http.specs.declared.fields.Answer.{Answer}
use Rattle.mvd_http.specs.declared.fields.Content.TheVariants.{Json}
use Rattle.mvd_http.specs.declared.http_fault.Fault.{Fault}
use Rattle.mvd_http.specs.declared.http_fault.Fault.TheVariants.{BadRequest, HostMissing, ForeignHost, ForeignOrigin, NotFound, MethodNotAllowed, PreconditionFailed, ContentTooLarge, UriTooLong, HeaderTooLarge, NotImplemented, InternalError}

abbrev pub status_of : Fault → ℕ
status_of BadRequest = 400
status_of HostMissing = 400
status_of ForeignHost = 403
status_of ForeignOrigin = 403
status_of NotFound = 404
status_of MethodNotAllowed = 405
status_of PreconditionFailed = 412
status_of ContentTooLarge = 413
status_of UriTooLong = 414
status_of HeaderTooLarge = 431
status_of NotImplemented = 501
status_of InternalError = 500

-- its name, as the body tells it
abbrev pub fault_name : Fault → List ℕ
fault_name BadRequest = codes "BadRequest"
fault_name HostMissing = codes "HostMissing"
fault_name ForeignHost = codes "ForeignHost"
fault_name ForeignOrigin = codes "ForeignOrigin"
fault_name NotFound = codes "NotFound"
fault_name MethodNotAllowed = codes "MethodNotAllowed"
fault_name PreconditionFailed = codes "PreconditionFailed"
fault_name ContentTooLarge = codes "ContentTooLarge"
fault_name UriTooLong = codes "UriTooLong"
fault_name HeaderTooLarge = codes "HeaderTooLarge"
fault_name NotImplemented = codes "NotImplemented"
fault_name InternalError = codes "InternalError"

abbrev pub fault_text : Fault → List ℕ
fault_text fault = codes "{\"refused\":0,\"name\":\"" ++ (fault_name fault ++ codes "\"}")

abbrev pub answer_of : Fault → Answer
answer_of fault =
    record { status = status_of fault; content = Json; allow = None; asks_token = false; preflight = None }
