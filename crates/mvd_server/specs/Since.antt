-- What is told of the changes since a root.
use Rattle.std.specs.Prelude.{◌≡◌, ◌⊎◌, ⊤, ℕ, true, false, List, [], Option, Some, None, Result, Ok, Err}
use Rattle.mvd_conn.specs.Passes.{grants}
use Rattle.mvd_conn.specs.declared.passes.Pass.{Pass}
use Rattle.mvd_dots.specs.declared.refusals.Refusal.{Refusal}
use Rattle.mvd_dots.specs.declared.refusals.Refusal.TheVariants.{BadKind}
use Rattle.mvd_host.specs.Feeds.{ChangedValue, FeedValue, root_now, told_since}
use Rattle.mvd_host.specs.Lists.{root_of}
use Rattle.mvd_http.specs.Followed.{changed_text}
use Rattle.mvd_http.specs.Json.{changes_text, not_waited_text}
use Rattle.mvd_http.specs.declared.question.Followed.{Followed}
use Rattle.mvd_http.specs.declared.question.Question.{Question}
use Rattle.mvd_http.specs.declared.question.Question.TheVariants.{Changes}
use Rattle.mvd_site.specs.Answer.{state_at}
use Rattle.mvd_site.specs.Held.{States}
use Rattle.mvd_web.specs.declared.taken.Asked.{Asked}
use Rattle.mvd_web.specs.declared.taken.Entry.{Entry}
use Rattle.mvd_web.specs.declared.taken.Entry.TheVariants.{Open}

-- the keys that changed, up to the root that is told, or that all is to be read anew, up to this root
abbrev pub news_text : Followed → States → List ℕ → Option ChangedValue → List ℕ
news_text followed states root (Some told) = changed_text (state_at states) followed.states told.root told.keys
news_text followed states root None = changes_text root [] true

-- where no root is named, all is
abbrev pub told_if : FeedValue → List ℕ → Option (List ℕ) → Option ChangedValue
told_if feed prefix None = None
told_if feed prefix (Some since) = told_since feed prefix since

-- where the feed knows nothing, all is, and the root is the site's
abbrev pub text_from : Option (List ℕ) → FeedValue → Followed → States → Option (List ℕ) → List ℕ
text_from (Some root) feed followed states since =
    news_text followed states root (told_if feed followed.prefix since)
text_from None feed followed states since = news_text followed states (root_of states) None

-- what a feed tells of the changes since a root, at a site with these states
abbrev pub since_text : FeedValue → Followed → States → Option (List ℕ) → List ℕ
since_text feed followed states since = text_from (root_now feed) feed followed states since

-- ---- a request for changes

-- which changes it asks for, if it asks for such
abbrev pub followed_of : Result Question Refusal → Option Followed
followed_of (Ok (Changes since wait followed)) = Some followed
followed_of question = None

abbrev pub followed_in : Option Asked → Option Followed
followed_in None = None
followed_in (Some asked) = followed_of asked.question

-- it is told what changed since the root that it names
abbrev pub since_told : FeedValue → States → Option (List ℕ) → Option Followed → Result (List ℕ) Refusal
since_told feed states since None = Err BadKind
since_told feed states since (Some followed) = Ok (since_text feed followed states since)

-- nothing that it asks for changed since, and the root now is this one
abbrev pub IsQuiet : FeedValue → Option (List ℕ) → Option Followed → List ℕ → Type 0
IsQuiet feed since None root = ⊥
IsQuiet feed since (Some followed) root =
    told_if feed followed.prefix since ≡ Some (record { keys = []; root = root })

-- where tokens are asked for, a pass that is known now has the right by which it came in
abbrev pub IsLetBy : List Pass → Entry → Type 0
IsLetBy passes (Open right) = grants passes right ≡ true
IsLetBy passes entry = ⊥

abbrev pub IsLetStill : Option (List Pass) → Option Asked → Type 0
IsLetStill None asked = ⊤
IsLetStill (Some passes) None = ⊥
IsLetStill (Some passes) (Some asked) = IsLetBy passes asked.entry

-- one that waited is told what changed since a root, while it may be let in; or, of a root, that nothing did since, or
-- that it did not wait
abbrev pub IsNews : Type 0 → FeedValue → States → Followed → List ℕ → Type 0
IsNews Let feed states followed text =
    (Let × (since : Option (List ℕ)) × (text ≡ since_text feed followed states since))
    ⊎ ((root : List ℕ) × ((text ≡ changes_text root [] false) ⊎ (text ≡ not_waited_text root)))
