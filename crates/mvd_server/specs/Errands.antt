-- What a server does for a client over HTTP, between two rounds.
use Rattle.std.specs.Prelude.{◌≡◌, ◌<◌, ◌≤◌, ◌⊎◌, ℕ, Bool, true, false, codes, is_some, List, [], ◌∷◌, length, Option, Some, None, Result, Ok, OnOk, IfErr, Err, string_bytes}
use Rattle.std.specs.BTreeMap.{is_at}
use Rattle.std.specs.FinMap.{len}
use Rattle.std.specs.List.{slice_get}
use Rattle.std.specs.Map.{lookup, remove_entry, set_value}
use Rattle.std.specs.Ordering.{nat_cmp}
use Rattle.mvd_conn.specs.declared.passes.Pass.{Pass}
use Rattle.mvd_conn.specs.declared.right.Right.{Right}
use Rattle.mvd_dots.specs.declared.refusals.Refusal.{Refusal}
use Rattle.mvd_dots.specs.declared.refusals.Refusal.TheVariants.{Broken, Memory}
use Rattle.mvd_host.specs.AtHand.{AtHandValue, MayWait, TakesFirst, asked_by_one}
use Rattle.mvd_host.specs.Feeds.{FeedValue}
use Rattle.mvd_host.specs.Lists.{root_of}
use Rattle.mvd_http.specs.Guard.{Named}
use Rattle.mvd_http.specs.Faults.{answer_of, fault_text}
use Rattle.mvd_http.specs.Json.{root_json}
use Rattle.mvd_http.specs.declared.fields.Content.TheVariants as content
use Rattle.mvd_http.specs.declared.http_fault.Fault.TheVariants.{NotFound}
use Rattle.mvd_http.specs.declared.question.Followed.{Followed}
use Rattle.mvd_http.specs.declared.question.Question.TheVariants.{Changes, Many}
use Rattle.mvd_rows.specs.Siblings.{conflicts_in}
use Rattle.mvd_server.specs.Admitted.{Decides}
use Rattle.mvd_server.specs.Batches.{BeginsBatch}
use Rattle.mvd_server.specs.Lines.{FailsLine, IsOnlyTold, TellsEachLine}
use Rattle.mvd_server.specs.Plans.{plain_answer}
use Rattle.mvd_server.specs.Listings.{TellsListed}
use Rattle.mvd_server.specs.Questions.{TellsAsks, TellsBadLine, TellsText}
use Rattle.mvd_server.specs.Responding.{AnswersWeb, RefusesWeb, TellsBody, token_answer, not_admitted}
use Rattle.mvd_server.specs.Since.{IsLetStill, IsNews, IsQuiet, followed_in, since_told}
use Rattle.mvd_server.specs.declared.batch.Batch.{Batch}
use Rattle.mvd_site.specs.FromStates.{unless_broken}
use Rattle.mvd_site.specs.Held.{States}
use Rattle.mvd_site.specs.Sites.{SiteValue}
use Rattle.mvd_server.specs.declared.gate.Plan.{Plan}
use Rattle.mvd_server.specs.declared.gate.Plan.TheVariants as plan
use Rattle.mvd_server.specs.declared.gate.Rest.{Rest}
use Rattle.mvd_server.specs.declared.gate.Rest.TheVariants as rest
use Rattle.mvd_web.specs.Web.{EndsInput, RespondsTo, TakesRequest, WebValue, stopped_by}
use Rattle.mvd_web.specs.declared.taken.Asked.{Asked}
use Rattle.mvd_web.specs.declared.taken.Entry.TheVariants.{Open}
use Rattle.mvd_wire.specs.declared.reply.Reply.{Reply}
use Rattle.mvd_wire.specs.declared.request.Request.{Request}

-- ---- a request is taken

-- the site is asked nothing, and nothing is left to do
abbrev pub IsToldRest : AtHandValue → AtHandValue → Rest → Type 0
IsToldRest old new left = (new ≡ old) × (left ≡ rest.Nothing)

-- what changed is told, or the request waits for that, where it is to: then nothing did that it asks for
abbrev pub TellsOrWaits : FeedValue → States → Option (List ℕ) → ℕ → WebValue → WebValue → Rest → Type 0
TellsOrWaits feed states since wait old new left =
    ((left ≡ rest.Nothing) × TellsText content.Json (since_told feed states since (followed_in old.asked)) old new)
    ⊎ ((root : List ℕ) × ((0 < wait) × IsQuiet feed since (followed_in old.asked) root)
    × (left ≡ rest.Waits root wait) × (new ≡ old))

-- the root of the states, the numbers of keys, of which so many have a sibling, and the site's own
abbrev pub root_text : SiteValue → ℕ → List ℕ
root_text site live =
    root_json (root_of site.states) (record {
      keys = len site.states;
      live = live;
      conflicts = unless_broken site.broken 0 (length (conflicts_in site.states));
    }) site.config.site

abbrev pub TellsRoot : SiteValue → WebValue → WebValue → Type 0
TellsRoot site old new = (live : ℕ) × TellsText content.Json (Ok (root_text site live)) old new

-- that the server can answer, where its site can
abbrev pub TellsHealth : SiteValue → WebValue → WebValue → Type 0
TellsHealth site old new =
    ((site.broken ≡ false) × RespondsTo old.asked old (plain_answer 200 content.Json) (codes "{\"ready\":true}") new)
    ⊎ RefusesWeb (unless_broken site.broken Broken Memory) old new

-- the request is asked at hand, once; or it is refused, for want of memory, or since it is none that may wait
abbrev pub AsksAtHand : ℕ → Request → WebValue → AtHandValue → WebValue → AtHandValue → Type 0
AsksAtHand n request old hand new hand' =
    (MayWait (n, request) × (hand' ≡ asked_by_one hand n (request ∷ [])) × (new ≡ old))
    ⊎ ((hand' ≡ hand) × ((refusal : Refusal) × (MayWait (n, request) → refusal ≡ Memory) × RefusesWeb refusal old new))

-- where tokens are asked for, that the server ends is told, and it does; else there is nothing of that name
abbrev pub StopsIf : Bool → WebValue → WebValue → Rest → Type 0
StopsIf true old new left =
    (left ≡ rest.Stops) × RespondsTo old.asked old (plain_answer 202 content.Nothing) [] new
StopsIf false old new left =
    (left ≡ rest.Nothing) × RespondsTo old.asked old (answer_of NotFound) (fault_text NotFound) new

-- it is done, once, where tokens are asked for (`guarded`) or not: the site is asked, or a response is queued, or it is
-- told what is left to do
abbrev pub DoesPlan : SiteValue → FeedValue → Bool → ℕ → Plan → WebValue → AtHandValue → WebValue → AtHandValue → Rest → Type 0
DoesPlan site feed guarded n (plan.Ask request) old hand new hand' left =
    AsksAtHand n request old hand new hand' × (left ≡ rest.Nothing)
DoesPlan site feed guarded n (plan.Writes batch) old hand new hand' left =
    (hand' ≡ hand) × (new ≡ old) × (left ≡ rest.Writes batch)
DoesPlan site feed guarded n (plan.Changes since wait) old hand new hand' left =
    (hand' ≡ hand) × TellsOrWaits feed site.states since wait old new left
DoesPlan site feed guarded n (plan.Asks right) old hand new hand' left =
    IsToldRest hand hand' left × TellsAsks right site old.asked old new
DoesPlan site feed guarded n plan.Listed old hand new hand' left =
    IsToldRest hand hand' left × TellsListed site old.asked old new
DoesPlan site feed guarded n (plan.BadLine line) old hand new hand' left =
    IsToldRest hand hand' left × TellsBadLine line old new
DoesPlan site feed guarded n plan.Root old hand new hand' left = IsToldRest hand hand' left × TellsRoot site old new
DoesPlan site feed guarded n plan.Metrics old hand new hand' left = IsToldRest hand hand' left × TellsBody content.Plain old new
DoesPlan site feed guarded n plan.Stop old hand new hand' left =
    (hand' ≡ hand) × StopsIf guarded old new left
DoesPlan site feed guarded n plan.Health old hand new hand' left = IsToldRest hand hand' left × TellsHealth site old new
DoesPlan site feed guarded n (plan.Told answer body) old hand new hand' left =
    IsToldRest hand hand' left × RespondsTo old.asked old answer body.now new
DoesPlan site feed guarded n plan.NotAdmitted old hand new hand' left =
    IsToldRest hand hand' left × RespondsTo old.asked old token_answer not_admitted new
DoesPlan site feed guarded n (plan.Refused refusal) old hand new hand' left =
    IsToldRest hand hand' left × RefusesWeb refusal old new

-- ONE REQUEST is taken of what came, and that is done about it which may be
pub record AsksOne (site : SiteValue) (feed : FeedValue) (passes : Option (List Pass)) (names : Named) (n : ℕ)
    (old : WebValue) (hand : AtHandValue) (new : WebValue) (hand' : AtHandValue) (left : Rest) : Type 0 where
  pub mid : WebValue
  pub takes : TakesRequest passes names old true mid
  pub asked : Asked
  pub kept : mid.asked ≡ Some asked
  pub plan : Plan
  pub decides : Decides asked.entry asked.question plan
  pub does : DoesPlan site feed (is_some passes) n plan mid hand new hand' left

-- or there is none
abbrev pub AsksNextOf : SiteValue → FeedValue → Option (List Pass) → Named → ℕ → WebValue → AtHandValue
    → WebValue → AtHandValue → Rest → Type 0
AsksNextOf site feed passes names n old hand new hand' left =
    (IsToldRest hand hand' left × TakesRequest passes names old false new)
    ⊎ AsksOne site feed passes names n old hand new hand' left

-- ---- many writes

-- they are those of the request that waits, as far as its right allows them
abbrev pub IsBatchFor : Option Asked → Batch → Type 0
IsBatchFor None batch = ⊥
IsBatchFor (Some asked) batch = (right : Right) × (asked.entry ≡ Open right)
    × ((writes : List (Result Request Refusal)) × (asked.question ≡ Ok (Many writes)) × BeginsBatch right writes batch)

-- replies are taken, and once there is a line for each, these are told. Until then the next line is of a reply to come
abbrev pub TellsAllLines : Result Bool Refusal → WebValue → Batch → WebValue → Type 0
TellsAllLines (Ok true) old batch new = (length batch.refused.items ≤ batch.told)
    × RespondsTo old.asked old (plain_answer 200 content.Lines) (string_bytes batch.lines) new
TellsAllLines (Ok false) old batch new = (slice_get batch.refused.items batch.told ≡ Some None) × (new ≡ old)
TellsAllLines (Err refusal) old batch new = new ≡ stopped_by old refusal

-- the first reply that is left is this one, if there is one, and it is to this client
abbrev pub TakesIf : ℕ → Option Reply → AtHandValue → AtHandValue → Type 0
TakesIf n None old new = new ≡ old
TakesIf n (Some reply) old new = TakesFirst old (Some (n, reply)) new

-- At most one reply is taken; the line of each is of the reply to it, and nothing else of the writes changes. Where a
-- line cannot be put down, all are gone: since a reply was taken, there will not be one of each write
abbrev pub TellsBatch : ℕ → WebValue → Batch → AtHandValue → WebValue → Batch → AtHandValue → Type 0
TellsBatch n old batch hand new batch' hand' =
    IsOnlyTold batch batch' × ((reply : Option Reply) × TakesIf n reply hand hand'
    × ((told : Result Bool Refusal) × OnOk told (TellsEachLine n batch hand batch' hand')
    × IfErr told (λ refusal. (batch'.told ≡ 0) × (string_bytes batch'.lines ≡ []) × FailsLine reply batch refusal)
    × TellsAllLines told old batch' new))

-- ---- responses

-- the first reply that is left is taken away, and told
abbrev pub TellsClient : ℕ → WebValue → AtHandValue → WebValue → AtHandValue → Type 0
TellsClient n old hand new hand' =
    (reply : Reply) × TakesFirst hand (Some (n, reply)) hand' × AnswersWeb old.asked reply old new

-- it is told to one that waited
abbrev pub TellsNews : Option (List Pass) → FeedValue → States → WebValue → WebValue → Type 0
TellsNews passes feed states old new =
    (followed : Followed) × (followed_in old.asked ≡ Some followed)
    × (((text : List ℕ) × IsNews (IsLetStill passes old.asked) feed states followed text
    × RespondsTo old.asked old (plain_answer 200 content.Json) text new)
    ⊎ ((refusal : Refusal) × RefusesWeb refusal old new))

-- the request that waits asks what changed
abbrev pub AwaitsChange : Option Asked → Type 0
AwaitsChange None = ⊥
AwaitsChange (Some asked) =
    (since : Option (List ℕ)) × (wait : ℕ) × (followed : Followed) × (asked.question ≡ Ok (Changes since wait followed))

-- ---- errands

-- what is at hand, the client's connection, and the writes of those of whose request some are not answered
pub record Desk : Type 0 where
  pub hand : AtHandValue
  pub web : WebValue
  pub batches : List (ℕ × Batch)

abbrev pub desk : AtHandValue → WebValue → List (ℕ × Batch) → Desk
desk hand web batches = record { hand = hand; web = web; batches = batches }

abbrev pub batch_in : List (ℕ × Batch) → ℕ → Option Batch
batch_in batches n = lookup (is_at (nat_cmp n)) batches

-- The next request is taken; there is no memory for its many writes; a reply is told, or those of many writes; one that
-- waited is told what changed; the connection is at its end, or stopped
pub data Errand : Type 0 where
  Asks : Rest → Errand
  Forgoes : Batch → Errand
  Tells : Errand
  TellsMany : Batch → Batch → Errand
  TellsChange : Errand
  Stops : Errand

-- The writes of a request are kept while it waits, and no longer
abbrev pub KeepsWrites : ℕ → Batch → Desk → Desk → Type 0
KeepsWrites n batch old new =
    ((new.web.asked ≡ old.web.asked) × (new.batches ≡ set_value (is_at (nat_cmp n)) old.batches batch))
    ⊎ ((new.web.asked ≡ None)
    × (new.batches ≡ remove_entry (is_at (nat_cmp n)) (set_value (is_at (nat_cmp n)) old.batches batch)))

-- at this site, with this feed of what changed
abbrev pub RunsErrand : Errand → SiteValue → FeedValue → Option (List Pass) → Named → ℕ → Desk → Desk → Type 0
RunsErrand (Asks left) site feed passes names n old new =
    AsksNextOf site feed passes names n old.web old.hand new.web new.hand left × (new.batches ≡ old.batches)
RunsErrand (Forgoes batch) site feed passes names n old new =
    (IsBatchFor old.web.asked batch × (batch_in old.batches n ≡ None))
    × RefusesWeb Memory old.web new.web × (new ≡ record old { web = new.web })
RunsErrand Tells site feed passes names n old new =
    TellsClient n old.web old.hand new.web new.hand × (new.batches ≡ old.batches)
RunsErrand (TellsMany batch batch') site feed passes names n old new =
    (batch_in old.batches n ≡ Some batch) × TellsBatch n old.web batch old.hand new.web batch' new.hand
    × KeepsWrites n batch' old new
RunsErrand TellsChange site feed passes names n old new =
    TellsNews passes feed site.states old.web new.web × (new ≡ record old { web = new.web })
RunsErrand Stops site feed passes names n old new =
    (EndsInput old.web new.web ⊎ ((refusal : Refusal) × (new.web ≡ stopped_by old.web refusal)))
    × (new ≡ record old { web = new.web })
