-- What is told over HTTP at once depends on no key beyond the prefix of who asks.
use Rattle.std.specs.Prelude.{◌≡◌, ℕ, List, Option, Some, Result, Ok}
use Rattle.mvd_conn.specs.Rights.{AgreeWithin, prefix_of}
use Rattle.mvd_conn.specs.declared.right.Right.{Right}
use Rattle.mvd_dots.specs.declared.refusals.Refusal.{Refusal}
use Rattle.mvd_host.specs.Feeds.{FeedValue, root_now}
use Rattle.mvd_host.specs.Within.{is_filled}
use Rattle.mvd_http.specs.declared.question.Followed.{Followed}
use Rattle.mvd_http.specs.declared.question.Question.{Question}
use Rattle.mvd_http.specs.declared.question.Spelling.{Spelling}
use Rattle.mvd_server.specs.Listings.{listed_of}
use Rattle.mvd_server.specs.Questions.{asks_text}
use Rattle.mvd_server.specs.Since.{since_text}
use Rattle.mvd_site.specs.Held.{States}
use Rattle.mvd_site.specs.Sites.{SiteValue}
use Rattle.mvd_wire.specs.declared.request.Request.{Request}

-- two sites are alike to whoever has this prefix: at each key that begins with it, and in whether all places for keys are
-- taken
pub record AreAlike (prefix : List ℕ) (a b : SiteValue) : Type 0 where
  pub config : a.config ≡ b.config
  pub states : AgreeWithin prefix a.states b.states
  pub filled : is_filled a.config a.states ≡ is_filled a.config b.states

-- the lines of a list, behind what is told already
abbrev pub LinesWithin : Right → List (Result Request Refusal) → Type 0
LinesWithin right asks =
    (a b : SiteValue) (spelling : Spelling) (told : List ℕ) → AreAlike (prefix_of right) a b
    → asks_text right a spelling told asks ≡ asks_text right b spelling told asks

-- a page of keys
abbrev pub PageWithin : Right → Question → Type 0
PageWithin right question =
    (a b : SiteValue) → AreAlike (prefix_of right) a b → listed_of a (Ok question) ≡ listed_of b (Ok question)

-- what changed since a root: beside the keys it has a root of the feed
abbrev pub NewsWithin : Right → Followed → Type 0
NewsWithin right followed =
    (feed : FeedValue) (root : List ℕ) (since : Option (List ℕ)) (a b : States) → root_now feed ≡ Some root
    → AgreeWithin (prefix_of right) a b → since_text feed followed a since ≡ since_text feed followed b since
