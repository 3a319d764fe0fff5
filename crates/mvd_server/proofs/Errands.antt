-- What an errand for a client over HTTP does at hand, and which writes are those of its request.
use Rattle.std.proofs.Common.{◌≡◌, ◌≤◌, ◌⊎◌, length, Bool, Bor, is_some, option_copied, true, false, ℕ, List, [], ◌∷◌, Option, None, Some, Result, Ok, Err, inl, inr, refl, sym, subst, ap, ◌∙◌}
use Rattle.std.specs.List.{slice_get}
use Rattle.std.specs.Prelude.{string_bytes}
use Rattle.mvd_conn.specs.declared.passes.Pass.{Pass}
use Rattle.mvd_conn.specs.declared.right.Right.{Right}
use Rattle.mvd_http.specs.Guard.{Named}
use Rattle.mvd_dots.specs.declared.refusals.Refusal.{Refusal}
use Rattle.mvd_host.specs.AtHand.{AtHandValue, StepsAtHand}
use Rattle.mvd_host.specs.Feeds.{FeedValue}
use Rattle.mvd_http.specs.declared.fields.Content.TheVariants as content
use Rattle.mvd_http.specs.declared.question.Question.{Question}
use Rattle.mvd_http.specs.declared.question.Question.TheVariants.{Page, Root, Metrics, Health, Stop, Ask, Asks, BadLine, Listed, Live, Changes, Many, Misread, Nowhere, NotAllowed, Texts, TooLong}
use Rattle.mvd_server.specs.Admitted.{Decides}
use Rattle.mvd_server.specs.Batches.{BeginsBatch, HandsBatch}
use Rattle.mvd_server.specs.Errands.{Asks, AsksAtHand, AsksNextOf, Desk, DoesPlan, Errand, Forgoes, IsBatchFor, RunsErrand, Stops, StopsIf, TakesIf, Tells, TellsBatch, TellsChange, TellsMany}
use Rattle.mvd_server.specs.Lines.{FailsLine, IsOnlyTold, TellsEachLine}
use Rattle.mvd_server.specs.Listings.{TellsListed}
use Rattle.mvd_server.specs.Plans.{IsFreePlan, IsPlanFor, IsPlanIf, IsPlanOf, TellsMethods, plain_answer}
use Rattle.mvd_server.specs.Questions.{TellsAsks}
use Rattle.mvd_server.specs.declared.batch.Batch.{Batch}
use Rattle.mvd_server.specs.declared.gate.Plan.{Plan}
use Rattle.mvd_server.specs.declared.gate.Plan.TheVariants as plan
use Rattle.mvd_server.specs.declared.gate.Rest.{Rest}
use Rattle.mvd_server.specs.declared.gate.Rest.TheVariants as rest
use Rattle.mvd_site.specs.Sites.{SiteValue}
use Rattle.mvd_web.specs.Rights.{may_ask}
use Rattle.mvd_web.specs.Web.{RespondsTo, TakesRequest, WebValue, stopped_by}
use Rattle.mvd_web.specs.declared.taken.Asked.{Asked}
use Rattle.mvd_web.specs.declared.taken.Entry.{Entry}
use Rattle.mvd_web.specs.declared.taken.Entry.TheVariants.{Open, Free, Preflight, Conditional, HostMissing, Stranger, NoToken}
use Rattle.mvd_wire.specs.declared.reply.Reply.{Reply}
use Rattle.mvd_wire.specs.declared.request.Request.{Request}

-- ---- one step at hand, or none

abbrev pub MayStep : AtHandValue → AtHandValue → Type 0
MayStep old new = (new ≡ old) ⊎ StepsAtHand old new

steps_taken : (n : ℕ) (o : Option Reply) (old new : AtHandValue) → TakesIf n o old new → MayStep old new
steps_taken n None old new same = inl same
steps_taken n (Some reply) old new takes = inr (inr ((n, reply), takes))

pub steps_batch : (n : ℕ) (batch : Batch) (old : AtHandValue) (batch' : Batch) (new : AtHandValue) → HandsBatch n batch old batch' new → MayStep old new
steps_batch n batch old batch' new (inl asks) = inr (inl (n, batch.requests.items, asks.may, asks.asks))
steps_batch n batch old batch' new (inr (still, same)) = inl same

steps_asked : (n : ℕ) (request : Request) (old : WebValue) (hand : AtHandValue) (new : WebValue) (hand' : AtHandValue) → AsksAtHand n request old hand new hand' → MayStep hand hand'
steps_asked n request old hand new hand' (inl (may, is, same)) = inr (inl (n, request ∷ [], (may, tt), is))
steps_asked n request old hand new hand' (inr (same, refused)) = inl same

steps_plan : (site : SiteValue) (feed : FeedValue) (guarded : Bool) (n : ℕ) (p : Plan) (old : WebValue) (hand : AtHandValue) (new : WebValue) (hand' : AtHandValue) (left : Rest) → DoesPlan site feed guarded n p old hand new hand' left → MayStep hand hand'
steps_plan site feed guarded n (plan.Ask request) old hand new hand' left (asks, none) = steps_asked n request old hand new hand' asks
steps_plan site feed guarded n (plan.Writes batch) old hand new hand' left (is, same, writes) = inl is
steps_plan site feed guarded n (plan.Changes since wait) old hand new hand' left (is, tells) = inl is
steps_plan site feed guarded n (plan.Asks right) old hand new hand' left (told, body) = inl told.0
steps_plan site feed guarded n plan.Listed old hand new hand' left (told, body) = inl told.0
steps_plan site feed guarded n (plan.BadLine line) old hand new hand' left (told, body) = inl told.0
steps_plan site feed guarded n plan.Root old hand new hand' left (told, body) = inl told.0
steps_plan site feed guarded n plan.Metrics old hand new hand' left (told, body) = inl told.0
steps_plan site feed guarded n plan.Health old hand new hand' left (told, body) = inl told.0
steps_plan site feed guarded n plan.Stop old hand new hand' left (is, stops) = inl is
steps_plan site feed guarded n (plan.Told answer body) old hand new hand' left (told, responds) = inl told.0
steps_plan site feed guarded n plan.NotAdmitted old hand new hand' left (told, responds) = inl told.0
steps_plan site feed guarded n (plan.Refused refusal) old hand new hand' left (told, refuses) = inl told.0

pub steps_errand : (errand : Errand) (site : SiteValue) (feed : FeedValue) (passes : Option (List Pass)) (names : Named) (n : ℕ) (old new : Desk) → RunsErrand errand site feed passes names n old new → MayStep old.hand new.hand
steps_errand (Asks left) site feed passes names n old new (inl (told, none), same) = inl told.0
steps_errand (Asks left) site feed passes names n old new (inr one, same) = steps_plan site feed (is_some passes) n one.plan one.mid old.hand new.web new.hand left one.does
steps_errand (Forgoes batch) site feed passes names n old new (writes, refuses, is) = inl (ap (λ (d : Desk). d.hand) is)
steps_errand Tells site feed passes names n old new ((reply, takes, answers), same) = inr (inr ((n, reply), takes))
steps_errand (TellsMany batch batch') site feed passes names n old new (has, (only, (reply, takes, told)), same) = steps_taken n reply old.hand new.hand takes
steps_errand TellsChange site feed passes names n old new (news, is) = inl (ap (λ (d : Desk). d.hand) is)
steps_errand Stops site feed passes names n old new (ends, is) = inl (ap (λ (d : Desk). d.hand) is)

-- ---- many writes are those of the request that waits

batch_for : (right : Right) (q : Question) (batch : Batch) → IsPlanFor right q (plan.Writes batch) → (writes : List (Result Request Refusal)) × (q ≡ Many writes) × BeginsBatch right writes batch
batch_for right (Ask request) batch never = absurd never
batch_for right (Live request) batch never = absurd never
batch_for right (Texts request) batch never = absurd never
batch_for right (Many writes) batch begins = (writes, refl, begins)
batch_for right (Changes since wait followed) batch is = absurd (let no : ⊥ = cc in no)
batch_for right Page batch never = absurd never
batch_for right Root batch is = absurd (let no : ⊥ = cc in no)
batch_for right Metrics batch is = absurd (let no : ⊥ = cc in no)
batch_for right Health batch is = absurd (let no : ⊥ = cc in no)
batch_for right Stop batch is = absurd (let no : ⊥ = cc in no)
batch_for right TooLong batch never = absurd never
batch_for right (Asks questions spelling) batch is = absurd (let no : ⊥ = cc in no)
batch_for right (Listed request wanted) batch is = absurd (let no : ⊥ = cc in no)
batch_for right (BadLine line) batch is = absurd (let no : ⊥ = cc in no)
batch_for right (Misread refusal place) batch is = absurd (let no : ⊥ = cc in no)
batch_for right Nowhere batch never = absurd never
batch_for right (NotAllowed methods) batch never = absurd never

batch_if : (b : Bool) (right : Right) (q : Question) (batch : Batch) → IsPlanIf b right q (plan.Writes batch) → (writes : List (Result Request Refusal)) × (q ≡ Many writes) × BeginsBatch right writes batch
batch_if true right q batch is = batch_for right q batch is
batch_if false right q batch never = absurd never

batch_asked : (right : Right) (q : Result Question Refusal) (batch : Batch) → IsPlanOf right q (plan.Writes batch) → (writes : List (Result Request Refusal)) × (q ≡ Ok (Many writes)) × BeginsBatch right writes batch
batch_asked right (Ok q) batch is = let it = batch_if (may_ask right q) right q batch is in (it.0, ap Ok it.1, it.2)
batch_asked right (Err refusal) batch is = absurd (let no : ⊥ = cc in no)

-- what needs no token asks no write
free_none : (q : Result Question Refusal) (batch : Batch) → IsFreePlan q (plan.Writes batch) → ⊥
free_none (Ok Page) batch never = never
free_none (Ok Health) batch is = absurd cc
free_none (Ok TooLong) batch never = never
free_none (Ok (Ask request)) batch is = absurd cc
free_none (Ok (Live request)) batch is = absurd cc
free_none (Ok (Texts request)) batch is = absurd cc
free_none (Ok (Many writes)) batch is = absurd cc
free_none (Ok (Changes since wait followed)) batch is = absurd cc
free_none (Ok Root) batch is = absurd cc
free_none (Ok Metrics) batch is = absurd cc
free_none (Ok Stop) batch is = absurd cc
free_none (Ok (Asks questions spelling)) batch is = absurd cc
free_none (Ok (Listed request wanted)) batch is = absurd cc
free_none (Ok (BadLine line)) batch is = absurd cc
free_none (Ok (Misread refusal place)) batch is = absurd cc
free_none (Ok Nowhere) batch is = absurd cc
free_none (Ok (NotAllowed methods)) batch is = absurd cc
free_none (Err refusal) batch is = absurd cc

-- what may be asked by which methods asks no write
permits_none : (q : Result Question Refusal) (batch : Batch) → TellsMethods q (plan.Writes batch) → ⊥
permits_none (Ok (Ask request)) batch never = never
permits_none (Ok (Live request)) batch never = never
permits_none (Ok (Texts request)) batch never = never
permits_none (Ok (Many writes)) batch never = never
permits_none (Ok (Changes since wait followed)) batch never = never
permits_none (Ok Page) batch never = never
permits_none (Ok Root) batch never = never
permits_none (Ok Metrics) batch never = never
permits_none (Ok Health) batch never = never
permits_none (Ok Stop) batch never = never
permits_none (Ok (Asks questions spelling)) batch never = never
permits_none (Ok (Listed request wanted)) batch never = never
permits_none (Ok (BadLine line)) batch never = never
permits_none (Ok TooLong) batch never = never
permits_none (Ok (Misread refusal place)) batch never = never
permits_none (Ok Nowhere) batch never = never
permits_none (Ok (NotAllowed methods)) batch never = never
permits_none (Err refusal) batch never = never

-- only a request that comes in has its writes asked
writes_decided : (entry : Entry) (q : Result Question Refusal) (batch : Batch) → Decides entry q (plan.Writes batch) → (right : Right) × (entry ≡ Open right) × IsPlanOf right q (plan.Writes batch)
writes_decided (Open right) q batch plans = (right, refl, plans)
writes_decided Free q batch plans = absurd (free_none q batch plans)
writes_decided HostMissing q batch never = absurd never
writes_decided (Stranger fault) q batch never = absurd never
writes_decided Conditional q batch never = absurd never
writes_decided Preflight q batch never = absurd (permits_none q batch never)
writes_decided NoToken q batch is = absurd (let no : ⊥ = cc in no)

-- a server that is to end has no writes left
stop_none : (guarded : Bool) (old new : WebValue) (batch : Batch) → StopsIf guarded old new (rest.Writes batch) → ⊥
stop_none true old new batch (left, responds) = let no : ⊥ = cc in no
stop_none false old new batch (left, responds) = let no : ⊥ = cc in no

batch_left : (site : SiteValue) (feed : FeedValue) (guarded : Bool) (passes : Option (List Pass)) (n : ℕ) (p : Plan) (asked : Asked) (old : WebValue) (hand : AtHandValue) (new : WebValue) (hand' : AtHandValue) (batch : Batch) → old.asked ≡ Some asked → Decides asked.entry asked.question p
    → DoesPlan site feed guarded n p old hand new hand' (rest.Writes batch) → IsBatchFor new.asked batch
batch_left site feed guarded passes n (plan.Writes batch') asked old hand new hand' batch kept plans (is, same, left) =
    let one : batch ≡ batch' = cc in
    subst (λ o. IsBatchFor o batch) (sym (ap (λ (w : WebValue). w.asked) same ∙ kept)) (subst (λ b. IsBatchFor (Some asked) b) (sym one) (let decided = writes_decided asked.entry asked.question batch' plans in (decided.0, decided.1, batch_asked decided.0 asked.question batch' decided.2)))
batch_left site feed guarded passes n (plan.Ask request) asked old hand new hand' batch kept plans (asks, left) = absurd (let no : ⊥ = cc in no)
batch_left site feed guarded passes n (plan.Changes since wait) asked old hand new hand' batch kept plans (is, inl (left, body)) = absurd (let no : ⊥ = cc in no)
batch_left site feed guarded passes n (plan.Changes since wait) asked old hand new hand' batch kept plans (is, inr (root, quiet, left, same)) = absurd (let no : ⊥ = cc in no)
batch_left site feed guarded passes n (plan.Asks right) asked old hand new hand' batch kept plans (told, body) = let left = told.1 in absurd (let no : ⊥ = cc in no)
batch_left site feed guarded passes n plan.Listed asked old hand new hand' batch kept plans (told, body) = let left = told.1 in absurd (let no : ⊥ = cc in no)
batch_left site feed guarded passes n (plan.BadLine line) asked old hand new hand' batch kept plans (told, body) = let left = told.1 in absurd (let no : ⊥ = cc in no)
batch_left site feed guarded passes n plan.Root asked old hand new hand' batch kept plans (told, body) = let left = told.1 in absurd (let no : ⊥ = cc in no)
batch_left site feed guarded passes n plan.Health asked old hand new hand' batch kept plans (told, body) = let left = told.1 in absurd (let no : ⊥ = cc in no)
batch_left site feed guarded passes n plan.Stop asked old hand new hand' batch kept plans (is, stops) = absurd (stop_none guarded old new batch stops)
batch_left site feed guarded passes n plan.Metrics asked old hand new hand' batch kept plans (told, body) = let left = told.1 in absurd (let no : ⊥ = cc in no)
batch_left site feed guarded passes n (plan.Told answer body) asked old hand new hand' batch kept plans (told, responds) = let left = told.1 in absurd (let no : ⊥ = cc in no)
batch_left site feed guarded passes n plan.NotAdmitted asked old hand new hand' batch kept plans (told, responds) = let left = told.1 in absurd (let no : ⊥ = cc in no)
batch_left site feed guarded passes n (plan.Refused refusal) asked old hand new hand' batch kept plans (told, refuses) = let left = told.1 in absurd (let no : ⊥ = cc in no)

pub batch_of : (site : SiteValue) (feed : FeedValue) (passes : Option (List Pass)) (names : Named) (n : ℕ) (old : WebValue) (hand : AtHandValue) (new : WebValue) (hand' : AtHandValue) (batch : Batch) → AsksNextOf site feed passes names n old hand new hand' (rest.Writes batch) → IsBatchFor new.asked batch
batch_of site feed passes names n old hand new hand' batch (inl (told, none)) = let left = told.1 in absurd (let no : ⊥ = cc in no)
batch_of site feed passes names n old hand new hand' batch (inr one) = batch_left site feed (is_some passes) passes n one.plan one.asked one.mid hand new hand' batch one.kept one.decides one.does

-- ---- a request is taken, or none is

pub asks_none : (site : SiteValue) (feed : FeedValue) (passes : Option (List Pass)) (names : Named) (n : ℕ) (old new : WebValue) (hand : AtHandValue) (took : Bool) → TakesRequest passes names old took new → took ≡ false → AsksNextOf site feed passes names n old hand new hand rest.Nothing
asks_none site feed passes names n old new hand took takes is = inl ((refl, refl), subst (λ b. TakesRequest passes names old b new) is takes)

-- ---- lists are told of a site

pub asks_told : (feed : FeedValue) (guarded : Bool) (n : ℕ) (p : Plan) (right : Right) (site : SiteValue) (old new : WebValue) (hand : AtHandValue) → p ≡ plan.Asks right → TellsAsks right site old.asked old new → DoesPlan site feed guarded n p old hand new hand rest.Nothing
asks_told feed guarded n p right site old new hand is told = subst (λ (q : Plan). DoesPlan site feed guarded n q old hand new hand rest.Nothing) (sym is) ((refl, refl), told)

pub listed_told : (feed : FeedValue) (guarded : Bool) (n : ℕ) (p : Plan) (site : SiteValue) (old new : WebValue) (hand : AtHandValue) → p ≡ plan.Listed → TellsListed site old.asked old new → DoesPlan site feed guarded n p old hand new hand rest.Nothing
listed_told feed guarded n p site old new hand is told = subst (λ (q : Plan). DoesPlan site feed guarded n q old hand new hand rest.Nothing) (sym is) ((refl, refl), told)

-- ---- the server ends, or not

pub stop_told : (site : SiteValue) (feed : FeedValue) (guarded : Bool) (n : ℕ) (p : Plan) (old new : WebValue) (hand : AtHandValue) (left : Rest) → p ≡ plan.Stop → StopsIf guarded old new left → DoesPlan site feed guarded n p old hand new hand left
stop_told site feed guarded n p old new hand left is stops = subst (λ (q : Plan). DoesPlan site feed guarded n q old hand new hand left) (sym is) (refl, stops)

pub copied_some : {A : Type 0} (o : Option (Bor A)) → is_some (option_copied o) ≡ is_some o
copied_some None = refl
copied_some (Some x) = refl

-- ---- many writes are told

module _ (old : WebValue) (batch : Batch) (new : WebValue) (batch' : Batch) (reply : Option Reply) where
  pub tells_all : IsOnlyTold batch batch' → ((n : ℕ) (hand hand' : AtHandValue) → TakesIf n reply hand hand' → TellsEachLine n batch hand batch' hand') → length batch'.refused.items ≤ batch'.told
      → RespondsTo old.asked old (plain_answer 200 content.Lines) (string_bytes batch'.lines) new → (n : ℕ) (hand hand' : AtHandValue) → TakesIf n reply hand hand' → TellsBatch n old batch hand new batch' hand'
  tells_all only each all responds n hand hand' takes = (only, (reply, takes, (Ok true, each n hand hand' takes, tt, (all, responds))))

  pub tells_none : IsOnlyTold batch batch' → ((n : ℕ) (hand hand' : AtHandValue) → TakesIf n reply hand hand' → TellsEachLine n batch hand batch' hand') → slice_get batch'.refused.items batch'.told ≡ Some None → new ≡ old → (n : ℕ) (hand hand' : AtHandValue) → TakesIf n reply hand hand'
      → TellsBatch n old batch hand new batch' hand'
  tells_none only each less same n hand hand' takes = (only, (reply, takes, (Ok false, each n hand hand' takes, tt, (less, same))))

  pub tells_stop : (refusal : Refusal) → IsOnlyTold batch batch' → (batch'.told ≡ 0) × (string_bytes batch'.lines ≡ []) → FailsLine reply batch refusal → new ≡ stopped_by old refusal → (n : ℕ) (hand hand' : AtHandValue) → TakesIf n reply hand hand'
      → TellsBatch n old batch hand new batch' hand'
  tells_stop refusal only gone fails is n hand hand' takes = (only, (reply, takes, (Err refusal, tt, (gone.0, gone.1, fails), is)))
