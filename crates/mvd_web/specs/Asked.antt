-- What a request of HTTP asks, by its parts (RFC 9110).
use Rattle.std.specs.Prelude.{◌≡◌, ◌⊎◌, ◌&&◌, ◌||◌, ℕ, Bool, true, false, is_some, IsSome, List, [], codes, length, Option, Some, None, option_copied, option_map, Result, Err}
use Rattle.std.specs.Str.{bytes_eq}
use Rattle.http.specs.declared.request.Parts.{Parts}
use Rattle.http.specs.declared.request.Request.{Request}
use Rattle.http.specs.declared.version.TheConstants.Version.{HTTP_10}
use Rattle.http.specs.Request.{head_of, body_of}
use Rattle.http_header.specs.FieldValue.{FieldValue}
use Rattle.http_header.specs.HeaderMap.{Entries, get, get_all}
use Rattle.http_header.specs.Token.{lowercase}
use Rattle.http_uri.specs.Grammar.{or_slash}
use Rattle.http_uri.specs.Uri.{uri_authority, uri_path_and_query}
use Rattle.http_server.specs.Response.{IsResponse}
use Rattle.http_server.specs.declared.response.Response.{Response}
use Rattle.mvd_dots.specs.declared.refusals.Refusal.{Refusal}
use Rattle.mvd_dots.specs.declared.refusals.Refusal.TheVariants.{NotAdmitted}
use Rattle.mvd_conn.specs.Passes.{pass_if}
use Rattle.mvd_conn.specs.declared.passes.Pass.{Pass}
use Rattle.mvd_conn.specs.declared.right.Right.{Right}
use Rattle.mvd_conn.specs.declared.right.TheConstants.Right.{ALL}
use Rattle.mvd_http.specs.Asked.{IsQuestion}
use Rattle.mvd_http.specs.Guard.{Named, name_in, named_by, origin_in, stranger_of}
use Rattle.mvd_http.specs.OpenToAll.{is_open_to_all}
use Rattle.mvd_http.specs.Writing.{is_write}
use Rattle.mvd_http.specs.declared.http_fault.Fault.{Fault}
use Rattle.mvd_http.specs.declared.question.Question.{Question}
use Rattle.mvd_http.specs.Paths.{without}
use Rattle.mvd_web.specs.declared.taken.Asked.{Asked}
use Rattle.mvd_web.specs.declared.taken.Entry.{Entry}
use Rattle.mvd_web.specs.declared.taken.Entry.TheVariants.{Open, Free, Preflight, Conditional, HostMissing, Stranger, NoToken}
use Rattle.mvd_web.specs.declared.desk.Desk.{Desk}

-- the value of the first field of a name
abbrev pub header_in : List ℕ → Entries FieldValue → Option (List ℕ)
header_in name fields = option_map (λ value. value.bytes) (get fields (lowercase name))

-- the target's own host, or that of the field
abbrev pub host_or : Option (List ℕ) → Option (List ℕ) → Option (List ℕ)
host_or (Some authority) field = Some authority
host_or None field = field

abbrev pub host_of : Parts → Option (List ℕ)
host_of parts = host_or (uri_authority parts.uri) (header_in (codes "host") parts.headers)

abbrev pub path_or : Option (List ℕ) → List ℕ
path_or None = []
path_or (Some path) = or_slash path

-- the path and the query
abbrev pub target_of : Parts → List ℕ
target_of parts = path_or (uri_path_and_query parts.uri)

-- ---- a token (RFC 6750, 2.1)

abbrev pub bearer_text : Option (List ℕ) → Option (List ℕ)
bearer_text None = None
bearer_text (Some field) = without (codes "Bearer ") field

-- what stands behind `Bearer ` in the field `Authorization`
abbrev pub shown_by : Parts → Option (List ℕ)
shown_by parts = bearer_text (header_in (codes "authorization") parts.headers)

-- THE RIGHT BY WHICH A REQUEST ASKS: where tokens are asked for, that of the token which it shows, if that is known
abbrev pub right_in : Option (List Pass) → Parts → Option Right
right_in None parts = Some ALL
right_in (Some passes) parts = option_map (λ pass. pass.right) (pass_if passes (shown_by parts))

-- it needs none
abbrev pub is_free : Parts → Bool
is_free parts = is_open_to_all parts.method (target_of parts)

-- ---- hosts

-- it has one field `Host`; in HTTP/1.0 it may have none (RFC 9112, 3.2)
abbrev pub HasHosts : Parts → ℕ → Type 0
HasHosts parts count = length (get_all parts.headers (codes "host")) ≡ count

abbrev pub NamesHost : Parts → Type 0
NamesHost parts = HasHosts parts 1 ⊎ (HasHosts parts 0 × (parts.version ≡ HTTP_10))

-- the name of its host, where that is no address and not `localhost`
abbrev pub name_or : Option (List ℕ) → Option (List ℕ)
name_or None = None
name_or (Some host) = name_in host

abbrev pub name_of : Parts → Option (List ℕ)
name_of parts = name_or (host_of parts)

-- the origin of its page, where that is another than the host's own
abbrev pub origin_of : Parts → Option (List ℕ)
origin_of parts = origin_in (host_of parts) (header_in (codes "origin") parts.headers)

-- it names a host that is not this server, or comes of a page that may not ask it
abbrev pub stranger_in : Named → Parts → Option Fault
stranger_in names parts = stranger_of names (name_of parts) (origin_of parts)

-- the other origin whose page may read the response
abbrev pub shared_if : Option Fault → Option (List ℕ) → Option (List ℕ)
shared_if None origin = origin
shared_if (Some fault) origin = None

abbrev pub shared_with : Named → Parts → Option (List ℕ)
shared_with names parts = shared_if (stranger_in names parts) (origin_of parts)

-- it asks for a page of another origin by which methods that may ask (the CORS preflight of the Fetch standard)
abbrev pub is_preflight : Parts → Bool
is_preflight parts = bytes_eq parts.method (codes "OPTIONS") && is_some (origin_of parts)

-- a condition of HTTP's own (RFC 9110, 13.1)
abbrev pub has_condition : Parts → Bool
has_condition parts =
    is_some (header_in (codes "if-match") parts.headers) || is_some (header_in (codes "if-none-match") parts.headers)

abbrev pub is_conditional : Parts → Bool
is_conditional parts = is_write parts.method (target_of parts) && has_condition parts

-- ---- who comes in

-- by the head alone, and by the first cause that keeps it out
abbrev pub IsKnown : Named → Parts → Type 0
IsKnown names parts = NamesHost parts × (stranger_in names parts ≡ None)

abbrev pub IsEntry : Option (List Pass) → Named → Parts → Entry → Type 0
IsEntry passes names parts HostMissing = ¬ NamesHost parts
IsEntry passes names parts (Stranger fault) = NamesHost parts × (stranger_in names parts ≡ Some fault)
IsEntry passes names parts Preflight = IsKnown names parts × (is_preflight parts ≡ true)
IsEntry passes names parts NoToken =
    IsKnown names parts × (is_preflight parts ≡ false) × (right_in passes parts ≡ None) × (is_free parts ≡ false)
IsEntry passes names parts Free = IsKnown names parts × (right_in passes parts ≡ None) × (is_free parts ≡ true)
IsEntry passes names parts Conditional =
    IsKnown names parts × IsSome (right_in passes parts) × (is_conditional parts ≡ true)
IsEntry passes names parts (Open right) =
    IsKnown names parts × (right_in passes parts ≡ Some right) × (is_conditional parts ≡ false)
    × (is_preflight parts ≡ false)

-- WHAT A REQUEST ASKS that comes in. Of any other nothing is read but its head: whatever its body is, it asks the same.
abbrev pub AsksIf : Entry → Request (List ℕ) → Result Question Refusal → Type 0
AsksIf (Open right) request question =
    IsQuestion (head_of request).method (target_of (head_of request))
    (header_in (codes "mvd-context") (head_of request).headers) (body_of request) question
AsksIf Free request question =
    IsQuestion (head_of request).method (target_of (head_of request))
    (header_in (codes "mvd-context") (head_of request).headers) (body_of request) question
AsksIf Preflight request question =
    IsQuestion (head_of request).method (target_of (head_of request))
    (header_in (codes "mvd-context") (head_of request).headers) (body_of request) question
AsksIf _ request question = question ≡ Err NotAdmitted

-- whether the request comes in, what it asks then, whether its response has no body, and which other origin's page may
-- read that
pub record IsAskedBy (passes : Option (List Pass)) (names : Named) (request : Request (List ℕ)) (asked : Asked) : Type 0 where
  pub entry : IsEntry passes names (head_of request) asked.entry
  pub question : AsksIf asked.entry request asked.question
  pub head : asked.is_head ≡ bytes_eq (head_of request).method (codes "HEAD")
  pub origin : asked.origin ≡ shared_with names (head_of request)

-- The desk kept nothing, and keeps what the request asks. Its own response is plain: the kit's connection is not closed
-- for it.
pub record KeepsAsked (old : Desk) (request : Request (List ℕ)) (response : Response) (new : Desk) : Type 0 where
  pub none : old.asked ≡ None
  pub asked : Asked
  pub kept : new.asked ≡ Some asked
  pub asks : IsAskedBy (option_copied new.passes) (named_by new.names.now) request asked
  pub passes : new.passes ≡ old.passes
  pub names : new.names ≡ old.names
  pub plain : IsResponse 404 [] [] response
