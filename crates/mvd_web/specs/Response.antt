-- The bytes of a response (RFC 9110 and 9112).
use Rattle.std.specs.Prelude.{ℕ, ◌==◌, ◌++◌, ◌||◌, Bool, true, false, if◌then◌else◌, List, [], ◌∷◌, codes, length, Option, Some, None}
use Rattle.std.specs.Fmt.{decimal}
use Rattle.http1.specs.Fields.{Header}
use Rattle.http1.specs.Head.{response_text}
use Rattle.http1_typed.specs.Parts.{reason_of}
use Rattle.mvd_http.specs.Faults.{answer_of, fault_text}
use Rattle.mvd_http.specs.Fields.{fields_for}
use Rattle.mvd_http.specs.declared.fields.Answer.{Answer}
use Rattle.mvd_http.specs.declared.http_fault.Fault.{Fault}
use Rattle.mvd_web.specs.declared.response.Manner.{Manner}

-- whether another response may follow
abbrev pub persistence : Bool → Header
persistence true = (codes "connection", codes "close")
persistence false = (codes "connection", codes "keep-alive")

-- the fields that frame a body whose length has these digits; a 204 has no body, and says no length
abbrev pub framing_fields : ℕ → List ℕ → Bool → List Header
framing_fields status digits is_last =
    persistence is_last ∷ (if status == 204 then [] else (codes "content-length", digits) ∷ [])

abbrev pub framing_of : ℕ → ℕ → Bool → List Header
framing_of status length is_last = framing_fields status (decimal length) is_last

-- the fields by which a page of another origin may read the response (CORS, of the Fetch standard), which is then one of
-- that origin alone (RFC 9110, 12.5.5). No origin is empty
abbrev pub allowing : List ℕ → Header
allowing origin = (codes "access-control-allow-origin", origin)

abbrev pub varying : Header
varying = (codes "vary", codes "Origin")

abbrev pub shares_with : List ℕ → List Header
shares_with origin = allowing origin ∷ varying ∷ []

abbrev pub shares : List ℕ → List Header
shares [] = []
shares (b ∷ bs) = shares_with (b ∷ bs)

abbrev pub origin_or_none : Option (List ℕ) → List ℕ
origin_or_none None = []
origin_or_none (Some origin) = origin

abbrev pub head_bytes : Answer → ℕ → Bool → List ℕ → List ℕ
head_bytes answer length is_last origin =
    response_text 1 answer.status (reason_of answer.status)
    ((fields_for answer ++ shares origin) ++ framing_of answer.status length is_last)

abbrev pub body_sent : Bool → List ℕ → List ℕ
body_sent true body = []
body_sent false body = body

-- a response to a HEAD is sent without its body, and so is a 204 (RFC 9110, 9.3.2 and 15.3.5)
abbrev pub has_no_body : Answer → Manner → Bool
has_no_body answer manner = manner.is_head || (answer.status == 204)

-- a response with this body, which pages of this other origin may read
abbrev pub response_bytes : Answer → List ℕ → Manner → List ℕ → List ℕ
response_bytes answer body manner origin =
    head_bytes answer (length body) manner.is_last origin ++ body_sent (has_no_body answer manner) body

-- the response to a request that is refused: no other follows
abbrev pub fault_bytes : Fault → List ℕ
fault_bytes fault =
    response_bytes (answer_of fault) (fault_text fault) (record { is_last = true; is_head = false }) []
