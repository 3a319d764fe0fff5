-- The many writes of a request begin, and are kept while it waits.
use Rattle.std.proofs.Common.{◌≡◌, ◌≢◌, ◌∙◌, ℕ, Bool, true, false, true≢false, List, Option, Some, None, Result, Ok, Err, is_some, inl, inr, refl, sym, ap, subst}
use Rattle.std.specs.BTreeMap.{is_at}
use Rattle.std.specs.Map.{set_value}
use Rattle.std.specs.Ordering.{nat_cmp}
use Rattle.std.specs.Prelude.{⊤}
use Rattle.mvd_conn.specs.declared.passes.Pass.{Pass}
use Rattle.mvd_conn.specs.declared.right.Right.{Right}
use Rattle.mvd_dots.specs.declared.refusals.Refusal.{Refusal}
use Rattle.mvd_dots.specs.declared.refusals.Refusal.TheVariants.{Memory}
use Rattle.mvd_host.specs.AtHand.{AtHandValue}
use Rattle.mvd_host.specs.Feeds.{FeedValue}
use Rattle.mvd_http.specs.Guard.{Named}
use Rattle.mvd_http.specs.declared.fields.Answer.{Answer}
use Rattle.mvd_http.specs.declared.http_fault.Fault.{Fault}
use Rattle.mvd_http.specs.declared.http_fault.Fault.TheVariants as fault
use Rattle.mvd_http.specs.declared.question.Methods.{Methods}
use Rattle.mvd_http.specs.declared.question.Question.TheVariants.{Many}
use Rattle.mvd_server.proofs.Allowing.{StillAsks, plan_asks}
use Rattle.mvd_server.proofs.AtOnce.{asks_for, ends_asked, some_web}
use Rattle.mvd_server.proofs.Keyed.{found_at, found_new, set_here}
use Rattle.mvd_server.specs.Admitted.{Decides}
use Rattle.mvd_server.specs.Errands.{AsksNextOf, DoesPlan, IsBatchFor, batch_in}
use Rattle.mvd_server.specs.Plans.{HandsOnAll, IsPlanIf, TellsBeyond, TellsFault}
use Rattle.mvd_server.specs.Responding.{RefusesWeb, TellsPushed}
use Rattle.mvd_server.specs.Talking.{AsksMany, HandsWrites, HasItsWrites, IsWriting, KeepsBatch, LacksMemory, MayBeginWrites, Talking, TellsFirst, web_in}
use Rattle.mvd_server.specs.declared.batch.Batch.{Batch}
use Rattle.mvd_server.specs.declared.gate.Plan.{Plan}
use Rattle.mvd_server.specs.declared.gate.Plan.TheVariants as plan
use Rattle.mvd_server.specs.declared.gate.Rest.{Rest}
use Rattle.mvd_server.specs.declared.gate.Rest.TheVariants as rest
use Rattle.mvd_site.specs.Sites.{SiteValue}
use Rattle.mvd_web.specs.Inside.{web_of}
use Rattle.mvd_web.specs.Rights.{may_ask}
use Rattle.mvd_web.specs.Web.{LooksIf, RespondsTo, SaysAll, WebValue, first_cause, is_free, stopped_by}
use Rattle.mvd_web.specs.declared.taken.Asked.{Asked}
use Rattle.mvd_web.specs.declared.taken.Entry.{Entry}
use Rattle.mvd_web.specs.declared.taken.Entry.TheVariants.{Open, Free, Preflight, Conditional, HostMissing, Stranger, NoToken}
use Rattle.mvd_web.specs.declared.web_connection.WebConnection.{WebConnection}
use Rattle.mvd_wire.specs.declared.request.Request.{Request}

same_some : {A : Type 0} (a b : A) → ◌≡◌ {A = Option A} (Some a) (Some b) → a ≡ b
same_some a b is = cc

no_some : {A : Type 0} (a : A) → ◌≡◌ {A = Option A} (Some a) None → ⊥
no_some a is = absurd cc

-- ---- on a connection

stopped_some : (o : Option Refusal) (refusal : Refusal) → first_cause o refusal ≢ None
stopped_some None refusal is = no_some refusal is
stopped_some (Some first) refusal is = no_some first is

stops_many : (old new : WebValue) (refusal : Refusal) → new ≡ stopped_by old refusal → AsksMany new → ⊥
stops_many old new refusal is many = stopped_some old.stopped refusal (sym (ap (λ (w : WebValue). w.stopped) is) ∙ many.0)

many_none : (w : WebValue) → w.asked ≡ None → AsksMany w → ⊥
many_none w ended (none, (asked, writes, is, many)) = no_some asked (sym is ∙ ended)

many_same : (old new : WebValue) → new.asked ≡ old.asked → old.stopped ≡ None → AsksMany new → AsksMany old
many_same old new same free (none, (asked, writes, is, many)) = (free, (asked, writes, sym same ∙ is, many))

responds_many : (o : Option Asked) (old : WebValue) (answer : Answer) (body : List ℕ) (new : WebValue) → RespondsTo o old answer body new → AsksMany new → AsksMany old
responds_many None old answer body new same many = subst AsksMany same many
responds_many (Some asked) old answer body new (inl is) many = absurd (many_none new (ap (λ (w : WebValue). w.asked) is) many)
responds_many (Some asked) old answer body new (inr is) many = absurd (many_none new (ap (λ (w : WebValue). w.asked) is) many)

refuses_many : (refusal : Refusal) (old new : WebValue) → RefusesWeb refusal old new → AsksMany new → AsksMany old
refuses_many refusal old new (inl by) many = responds_many old.asked old _ by.body new by.responds many
refuses_many refusal old new (inr (cause, is)) many = absurd (stops_many old new cause is many)

pub pushed_many : (told : Result ⊤ Refusal) (body : List ℕ) (old new : WebValue) → TellsPushed told body old new → AsksMany new → AsksMany old
pushed_many (Ok done) body old new responds many = responds_many old.asked old _ body new responds many
pushed_many (Err refusal) body old new refuses many = refuses_many refusal old new refuses many

-- none is refused that waited
refused_none : (refusal : Refusal) (old new : WebValue) → old.asked ≢ None → RefusesWeb refusal old new → AsksMany new → ⊥
refused_none refusal old new some (inl by) many = many_none new (ends_asked old.asked old _ by.body new some by.responds) many
refused_none refusal old new some (inr (cause, is)) many = stops_many old new cause is many

free_before : (old : WebValue) (told queued : List ℕ) (new : WebValue) → SaysAll old told queued new → new.stopped ≡ None → old.stopped ≡ None
free_before old told queued new (inl all) none = sym all.0 ∙ none
free_before old told queued new (inr lacks) none = absurd (stopped_some old.stopped Memory (sym lacks.0 ∙ none))

looks_many : (free : Bool) (old new : WebValue) → LooksIf free old new → AsksMany new → AsksMany old
looks_many false old new same many = subst AsksMany same many
looks_many true old new none many = many_same old new none.asked (free_before old none.told none.queued new none.tells many.0) many

-- ---- a request that asks many writes is taken

decides_none : (entry : Entry) (writes : List (Result Request Refusal)) (p : Plan) → ((right : Right) → HandsOnAll right writes p → ⊥) → (TellsBeyond p → ⊥) → ((cause : Fault) (allow : Option Methods) → TellsFault cause allow p → ⊥) → (p ≡ plan.NotAdmitted → ⊥)
    → Decides entry (Ok (Many writes)) p → ⊥
decides_none (Open right) writes p hands beyond faulty asks = on (may_ask right (Many writes))
  where
    on : (b : Bool) → IsPlanIf b right (Many writes) p → ⊥
    on true is = hands right is
    on false is = beyond is
decides_none Free writes p hands beyond faulty asks = λ is. asks is
decides_none HostMissing writes p hands beyond faulty asks = λ is. faulty fault.HostMissing None is
decides_none (Stranger cause) writes p hands beyond faulty asks = λ is. faulty cause None is
decides_none Conditional writes p hands beyond faulty asks = λ is. faulty fault.PreconditionFailed None is
decides_none Preflight writes p hands beyond faulty asks = λ is. faulty fault.NotFound None is
decides_none NoToken writes p hands beyond faulty asks = λ is. asks is

many_done : (site : SiteValue) (feed : FeedValue) (guarded : Bool) (n : ℕ) (p : Plan) (entry : Entry) (writes : List (Result Request Refusal)) (old : WebValue) (hand : AtHandValue) (new : WebValue) (hand' : AtHandValue) (left : Rest) → old.asked ≢ None → Decides entry (Ok (Many writes)) p
    → DoesPlan site feed guarded n p old hand new hand' left → ((batch : Batch) → left ≢ rest.Writes batch) → AsksMany new → ⊥
many_done site feed guarded n (plan.Writes batch) entry writes old hand new hand' left some decides (is, same, writing) other many = other batch writing
many_done site feed guarded n (plan.Told answer body) entry writes old hand new hand' left some decides (told, responds) other many = many_none new (ends_asked old.asked old answer body.now new some responds) many
many_done site feed guarded n plan.NotAdmitted entry writes old hand new hand' left some decides (told, responds) other many = many_none new (ends_asked old.asked old _ _ new some responds) many
many_done site feed guarded n (plan.Refused refusal) entry writes old hand new hand' left some decides (told, refuses) other many = refused_none refusal old new some refuses many
many_done site feed guarded n (plan.Ask request) entry writes old hand new hand' left some decides does other many = decides_none entry writes (plan.Ask request) (λ right no. no) (λ no. no) (λ cause allow no. no) (λ is. let no : ⊥ = cc in no) decides
many_done site feed guarded n (plan.Changes since wait) entry writes old hand new hand' left some decides does other many = decides_none entry writes (plan.Changes since wait) (λ right no. no) (λ no. no) (λ cause allow no. no) (λ is. let no : ⊥ = cc in no) decides
many_done site feed guarded n (plan.Asks right) entry writes old hand new hand' left some decides does other many = decides_none entry writes (plan.Asks right) (λ right no. no) (λ no. no) (λ cause allow no. no) (λ is. let no : ⊥ = cc in no) decides
many_done site feed guarded n plan.Listed entry writes old hand new hand' left some decides does other many = decides_none entry writes plan.Listed (λ right no. no) (λ no. no) (λ cause allow no. no) (λ is. let no : ⊥ = cc in no) decides
many_done site feed guarded n (plan.BadLine line) entry writes old hand new hand' left some decides does other many = decides_none entry writes (plan.BadLine line) (λ right no. no) (λ no. no) (λ cause allow no. no) (λ is. let no : ⊥ = cc in no) decides
many_done site feed guarded n plan.Root entry writes old hand new hand' left some decides does other many = decides_none entry writes plan.Root (λ right no. no) (λ no. no) (λ cause allow no. no) (λ is. let no : ⊥ = cc in no) decides
many_done site feed guarded n plan.Metrics entry writes old hand new hand' left some decides does other many = decides_none entry writes plan.Metrics (λ right no. no) (λ no. no) (λ cause allow no. no) (λ is. let no : ⊥ = cc in no) decides
many_done site feed guarded n plan.Stop entry writes old hand new hand' left some decides does other many = decides_none entry writes plan.Stop (λ right no. no) (λ no. no) (λ cause allow no. no) (λ is. let no : ⊥ = cc in no) decides
many_done site feed guarded n plan.Health entry writes old hand new hand' left some decides does other many = decides_none entry writes plan.Health (λ right no. no) (λ no. no) (λ cause allow no. no) (λ is. let no : ⊥ = cc in no) decides

many_does : (site : SiteValue) (feed : FeedValue) (guarded : Bool) (n : ℕ) (p : Plan) (asked : Asked) (old : WebValue) (hand : AtHandValue) (new : WebValue) (hand' : AtHandValue) (left : Rest) → old.asked ≡ Some asked → Decides asked.entry asked.question p
    → DoesPlan site feed guarded n p old hand new hand' left → ((batch : Batch) → left ≢ rest.Writes batch) → AsksMany new → ⊥
many_does site feed guarded n p asked old hand new hand' left kept decides does other many = on (plan_asks site feed guarded n p old hand new hand' left does) many
  where
    on : StillAsks old new → AsksMany new → ⊥
    on (inr ended) all = many_none new ended all
    on (inl same) (none, (now, writes, is, asks)) =
        let one : asked ≡ now = same_some asked now (sym kept ∙ sym same ∙ is) in
        let question : asked.question ≡ Ok (Many writes) = ap (λ (a : Asked). a.question) one ∙ asks in
        let some : old.asked ≢ None = λ ended. no_some asked (sym kept ∙ ended) in
        many_done site feed guarded n p asked.entry writes old hand new hand' left some (subst (λ q. Decides asked.entry q p) question decides) does other many

pub asks_many : (site : SiteValue) (feed : FeedValue) (passes : Option (List Pass)) (names : Named) (n : ℕ) (old : WebValue) (hand : AtHandValue) (new : WebValue) (hand' : AtHandValue) (left : Rest) → AsksNextOf site feed passes names n old hand new hand' left
    → ((batch : Batch) → left ≢ rest.Writes batch) → AsksMany new → AsksMany old
asks_many site feed passes names n old hand new hand' left (inl (told, none)) other many = looks_many (is_free old) old new none many
asks_many site feed passes names n old hand new hand' left (inr one) other many = absurd (many_does site feed (is_some passes) n one.plan one.asked one.mid hand new hand' left one.kept one.decides one.does other many)

-- ---- a client has the writes that its request asks

pub keeps_asked : (n : ℕ) (web web' : WebConnection) (old : Talking) (hand : AtHandValue) (entries : List (ℕ × WebConnection)) → web_in old n ≡ Some web → entries ≡ set_value (is_at (nat_cmp n)) old.webs web' → (AsksMany (web_of web') → AsksMany (web_of web))
    → HasItsWrites n old → HasItsWrites n (record old { hand = hand; webs = entries })
keeps_asked n web web' old hand entries has is keeps holds = λ now at many.
    let one : now ≡ web' = sym (same_some web' now (sym (ap (λ l. found_at n l) is ∙ set_here n old.webs web' web has) ∙ at)) in
    holds web has (keeps (subst (λ (w : WebConnection). AsksMany (web_of w)) one many))

some_batch : (o : Option Batch) (has : Bool) → has ≡ is_some o → has ≡ true → (batch : Batch) × (o ≡ Some batch)
some_batch None has is some = absurd (true≢false (sym some ∙ is))
some_batch (Some batch) has is some = (batch, refl)

pub keeps_handed : (n : ℕ) (old new : Talking) (has : Bool) → has ≡ is_some (batch_in old.batches n) → has ≡ true → ((batch : Batch) → batch_in old.batches n ≡ Some batch → HandsWrites n batch old new) → HasItsWrites n new
keeps_handed n old new has is some hands = λ web at many none.
    let one = some_batch (batch_in old.batches n) has is some in
    let handed = hands one.0 one.1 in
    let held : batch_in new.batches n ≡ Some handed.0 = ap (λ (t : Talking). batch_in t.batches n) handed.1.2 ∙ set_here n old.batches handed.0 one.0 one.1 in
    no_some handed.0 (sym held ∙ none)

first_kept : (n : ℕ) (web : WebConnection) (batch : Batch) (old new : Talking) → web_in old n ≡ Some web → batch_in old.batches n ≡ Some batch → TellsFirst n web batch old new → HasItsWrites n new
first_kept n web batch old new has own (web', batch', tells, keeps, is) = λ now at many none.
    let one : now ≡ web' = sym (same_some web' now (sym (ap (λ (t : Talking). web_in t n) is ∙ set_here n old.webs web' web has) ∙ at)) in
    elim keeps [
      | inl (asked, kept) ↦ no_some batch' (sym (ap (λ l. batch_in l n) kept ∙ set_here n old.batches batch' batch own) ∙ none)
      | inr (ended, removed) ↦ many_none (web_of web') ended (subst (λ (w : WebConnection). AsksMany (web_of w)) one many)
    ]

pub begins_kept : (n : ℕ) (batch : Batch) (old mid handed new : Talking) → MayBeginWrites n batch old → KeepsBatch n batch old mid → ((b : Batch) → batch_in mid.batches n ≡ Some b → HandsWrites n b mid handed)
    → ((web : WebConnection) (b : Batch) → web_in handed n ≡ Some web → batch_in handed.batches n ≡ Some b → TellsFirst n web b handed new) → HasItsWrites n new
begins_kept n batch old mid handed new may keeps hands tells =
    let some = some_web (web_in old n) batch may.0 in
    let at : batch_in mid.batches n ≡ Some batch = ap (λ (t : Talking). batch_in t.batches n) keeps ∙ found_new n batch old.batches in
    let handing = hands batch at in
    let has : web_in handed n ≡ Some some.0 = ap (λ (t : Talking). web_in t n) handing.1.2 ∙ ap (λ (t : Talking). web_in t n) keeps ∙ some.1 in
    let own : batch_in handed.batches n ≡ Some handing.0 = ap (λ (t : Talking). batch_in t.batches n) handing.1.2 ∙ set_here n mid.batches handing.0 batch at in
    first_kept n some.0 handing.0 handed new has own (tells some.0 handing.0 has own)

pub lacks_kept : (n : ℕ) (batch : Batch) (old new : Talking) → MayBeginWrites n batch old → LacksMemory n old new → HasItsWrites n new
lacks_kept n batch old new may (inl (none, same)) = absurd (subst (λ (o : Option WebConnection). IsWriting o batch) none may.0)
lacks_kept n batch old new may (inr (web, web', has, refuses, is)) = λ now at many none.
    let one : now ≡ web' = sym (same_some web' now (sym (ap (λ (t : Talking). web_in t n) is ∙ set_here n old.webs web' web has) ∙ at)) in
    let mine : IsBatchFor (web_of web).asked batch = subst (λ (o : Option WebConnection). IsWriting o batch) has may.0 in
    refused_none Memory (web_of web) (web_of web') (asks_for (web_of web).asked batch mine) refuses (subst (λ (w : WebConnection). AsksMany (web_of w)) one many)
