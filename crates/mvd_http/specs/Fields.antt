-- The fields of a response (RFC 9110; RFC 6750, 3; X-Content-Type-Options of the Fetch standard; Content Security
-- Policy Level 3).
use Rattle.std.specs.Prelude.{ℕ, Bool, true, false, List, [], ◌∷◌, ◌++◌, codes, Option, Some, None}
use Rattle.mvd_http.specs.declared.fields.Answer.{Answer}
use Rattle.mvd_http.specs.declared.fields.Content.{Content}
use Rattle.mvd_http.specs.declared.fields.Content.TheVariants.{Nothing, Json, Lines, Html, Plain}
use Rattle.mvd_http.specs.declared.question.Methods.{Methods}
use Rattle.mvd_http.specs.declared.question.Methods.TheVariants.{OfKey, OfKeys, OfList, OfPost}

-- what a page of the server may load and run: its own script and style, by their digests, and requests to the server
abbrev pub policy : List ℕ
policy =
    codes "default-src 'none'; script-src 'sha256-+G2rsmeBtfcNlT+2Yv/tJfS67U9qMTspi6ul3VNdDWI='; style-src 'sha256-GfXVPu/24CyMDZkrHnm/405USX81HQtD5DIfoaMqPsA='; connect-src 'self'; img-src data:; base-uri 'none'; form-action 'none'; frame-ancestors 'none'; require-trusted-types-for 'script'; trusted-types 'none'"

-- those of each response
abbrev pub common : List (List ℕ × List ℕ)
common = (codes "cache-control", codes "no-store") ∷ []

-- those of the page alone
abbrev pub guards : List (List ℕ × List ℕ)
guards = (codes "content-security-policy", policy) ∷ (codes "x-content-type-options", codes "nosniff") ∷ []

abbrev pub typed : List ℕ → List (List ℕ × List ℕ)
typed value = (codes "content-type", value) ∷ []

-- what is said of the body
abbrev pub type_of : Content → List (List ℕ × List ℕ)
type_of Nothing = []
type_of Json = typed (codes "application/json")
type_of Lines = typed (codes "application/x-ndjson")
type_of Html = guards ++ typed (codes "text/html; charset=utf-8")
type_of Plain = typed (codes "text/plain; charset=utf-8")

-- the methods by which it is asked, in the response to another (RFC 9110, 15.5.6)
abbrev pub names : Methods → List ℕ
names OfList = codes "GET, HEAD"
names OfKeys = codes "GET, HEAD, POST"
names OfKey = codes "GET, HEAD, PUT, DELETE"
names OfPost = codes "POST"

abbrev pub allow_of : Option Methods → List (List ℕ × List ℕ)
allow_of None = []
allow_of (Some methods) = (codes "allow", names methods) ∷ []

-- how a token is shown, in the response to a request without it (RFC 6750, 3)
abbrev pub challenge_of : Bool → List (List ℕ × List ℕ)
challenge_of false = []
challenge_of true = (codes "www-authenticate", codes "Bearer") ∷ []

-- what a page of another origin may ask: by which methods, with which fields, and for how many seconds it need not ask
-- that again (the CORS preflight of the Fetch standard)
abbrev pub permits : Methods → List (List ℕ × List ℕ)
permits methods =
    (codes "access-control-allow-methods", names methods)
    ∷ (codes "access-control-allow-headers", codes "authorization, content-type, mvd-context")
    ∷ (codes "access-control-max-age", codes "7200") ∷ []

abbrev pub preflight_of : Option Methods → List (List ℕ × List ℕ)
preflight_of None = []
preflight_of (Some methods) = permits methods

abbrev pub fields_for : Answer → List (List ℕ × List ℕ)
fields_for answer =
    common
    ++ (type_of answer.content
    ++ (allow_of answer.allow ++ (challenge_of answer.asks_token ++ preflight_of answer.preflight)))
