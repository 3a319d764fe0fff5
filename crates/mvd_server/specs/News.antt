-- What those that wait for a change are told, which is put down once for all that ask for the same.
use Rattle.std.specs.Prelude.{◌≡◌, true, List, ℕ, length, Option, None, Some, Result, Ok, OnOk, string_bytes}
use Rattle.mvd_dots.specs.declared.refusals.Refusal.{Refusal}
use Rattle.mvd_host.specs.Feeds.{FeedValue}
use Rattle.mvd_http.specs.declared.question.Followed.{Followed}
use Rattle.mvd_server.specs.Since.{IsLetStill, IsNews, followed_in, since_text}
use Rattle.mvd_server.specs.Talking.{Talking, web_in}
use Rattle.mvd_server.specs.declared.changes.News.{News}
use Rattle.mvd_server.specs.declared.talks.Talks.{Talks}
use Rattle.mvd_site.specs.Held.{States}
use Rattle.mvd_site.specs.Sites.{SiteValue}
use Rattle.mvd_web.specs.Inside.{web_of}
use Rattle.mvd_web.specs.declared.taken.Asked.{Asked}
use Rattle.mvd_web.specs.declared.web_connection.WebConnection.{WebConnection}

-- how many wait for a change
abbrev pub waiting_in : Talks → ℕ
waiting_in talks = length talks.parked.times.entries

-- what was put down for who asks for this is what changed since the root
abbrev pub HasNews : FeedValue → States → News → Type 0
HasNews feed states news =
    (followed : Followed) → news.asked ≡ Some followed → news.told ≡ Ok true →
    string_bytes news.body ≡ since_text feed followed states news.since

-- the request of a client over HTTP that waits
abbrev pub asked_by : Option WebConnection → Option Asked
asked_by None = None
asked_by (Some web) = (web_of web).asked

-- which changes it waits for, if it waits for such
abbrev pub followed_by : Option WebConnection → Option Followed
followed_by web = followed_in (asked_by web)

-- a body that was put down for it, if it was, is what it may be told
abbrev pub IsNewsFor : {A : Type 0} → SiteValue → Talking → ℕ → Result A Refusal → List ℕ → Type 0
IsNewsFor site t n told text =
    (followed : Followed) → followed_by (web_in t n) ≡ Some followed →
    OnOk told (IsNews (IsLetStill t.passes (asked_by (web_in t n))) t.feed site.states followed text)
