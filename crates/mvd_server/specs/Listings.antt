-- What is told of a page of which more is told than the site's answer has, or less: it is made of the states that are held
-- then.
use Rattle.std.specs.Prelude.{◌≡◌, ℕ, List, Option, Some, None, Result, Ok, Err}
use Rattle.mvd_dots.specs.declared.refusals.Refusal.{Refusal}
use Rattle.mvd_dots.specs.declared.refusals.Refusal.TheVariants.{BadKind}
use Rattle.mvd_http.specs.Listed.{listed_told}
use Rattle.mvd_http.specs.declared.fields.Content.TheVariants.{Json}
use Rattle.mvd_http.specs.declared.question.Question.{Question}
use Rattle.mvd_http.specs.declared.question.Question.TheVariants.{Listed}
use Rattle.mvd_server.specs.Questions.{TellsText}
use Rattle.mvd_site.specs.Answer.{answer_from, state_at}
use Rattle.mvd_site.specs.Sites.{SiteValue}
use Rattle.mvd_web.specs.Web.{WebValue}
use Rattle.mvd_web.specs.declared.taken.Asked.{Asked}

abbrev pub listed_of : SiteValue → Result Question Refusal → Result (List ℕ) Refusal
listed_of site (Ok (Listed request wanted)) =
    listed_told wanted (state_at site.states) (answer_from site.config site.states request)
listed_of site _ = Err BadKind

-- the request that waits is told its page
abbrev pub TellsListed : SiteValue → Option Asked → WebValue → WebValue → Type 0
TellsListed site None old new = new ≡ old
TellsListed site (Some asked) old new = TellsText Json (listed_of site asked.question) old new
