-- The options of lists, this repository's own: how many entries a page has, and what is told of them.
use Rattle.std.specs.Prelude.{ℕ, ◌&&◌, ◌||◌, min, nat_le, nat_lt, if◌then◌else◌, Bool, true, false, List, [], ◌∷◌, codes, Option, Some, None, Result, Ok, Err}
use Rattle.std.specs.Str.{bytes_eq}
use Rattle.percent_encoding.specs.Percent.{percent_decode}
use Rattle.mvd_dots.specs.declared.refusals.Refusal.{Refusal}
use Rattle.mvd_dots.specs.declared.refusals.Refusal.TheVariants.{BadBody}
use Rattle.mvd_wire.specs.declared.request.Request.{Request}
use Rattle.mvd_http.specs.declared.question.Question.{Question}
use Rattle.mvd_http.specs.declared.question.Question.TheVariants.{Ask, Listed, Live}
use Rattle.mvd_http.specs.declared.question.Spelling.{Spelling}
use Rattle.mvd_http.specs.declared.question.Spelling.TheVariants.{Plain, Quoted}
use Rattle.mvd_http.specs.declared.question.Wanted.{Wanted}
use Rattle.mvd_http.specs.Dots.{number_in}
use Rattle.mvd_http.specs.Paths.{given}
use Rattle.mvd_http.specs.Seen.{then_read}

abbrev pub is_set : List ℕ → List ℕ → Bool
is_set name query = bytes_eq (given name query) (codes "1")

-- `text=1` has each document told as its text
abbrev pub spelling_if : Bool → Spelling
spelling_if true = Quoted
spelling_if false = Plain

abbrev pub spelling_in : List ℕ → Spelling
spelling_in query = spelling_if (is_set (codes "text=") query)

-- where an option has documents told, how they are
abbrev pub documents_if : Bool → Spelling → Option Spelling
documents_if true spelling = Some spelling
documents_if false spelling = None

abbrev pub documents_in : List ℕ → List ℕ → Option Spelling
documents_in name query = documents_if (is_set name query) (spelling_in query)

-- ---- pages

-- `limit=` is 1 to 1,000, and without it 1,000
abbrev pub limit_of : Option ℕ → Result ℕ Refusal
limit_of None = Err BadBody
limit_of (Some limit) = if nat_le 1 limit && nat_le limit 1000 then Ok limit else Err BadBody

abbrev pub limit_in : List ℕ → Result ℕ Refusal
limit_in [] = Ok 1000
limit_in (b ∷ bs) = limit_of (number_in (percent_decode (b ∷ bs)))

-- a page with documents has 100 entries at most
abbrev pub most_of : Option Spelling → ℕ → ℕ
most_of None limit = limit
most_of (Some spelling) limit = min limit 100

-- `live=1` leaves out keys without a sibling, `digests=1` tells the digest of each key, `documents=1` the documents
abbrev pub wanted_with : ℕ → List ℕ → Wanted
wanted_with limit query =
    record {
      live = is_set (codes "live=") query;
      digests = is_set (codes "digests=") query;
      documents = documents_in (codes "documents=") query;
      limit = most_of (documents_in (codes "documents=") query) limit;
    }

abbrev pub wanted_in : List ℕ → Result Wanted Refusal
wanted_in query = then_read (limit_in (given (codes "limit=") query)) (λ limit. Ok (wanted_with limit query))

-- the page of a request; where it is to have more, or less, than the site's own, it is made of that
abbrev pub page_of : Wanted → Request → Question
page_of wanted request =
    if wanted.digests || nat_lt wanted.limit 1000
    then Listed request wanted else (if wanted.live then Live request else Ask request)

abbrev pub page_in : List ℕ → Request → Result Question Refusal
page_in query request = then_read (wanted_in query) (λ wanted. Ok (page_of wanted request))
