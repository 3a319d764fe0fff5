-- The request that waits is answered.
use Rattle.std.proofs.Common.{◌≡◌, ◌∙◌, ap, false, inl, inr, ℕ, List, [], Option, Some, None, Result, Ok, Err, OnOk, subst, sym}
use Rattle.mvd_conn.specs.declared.passes.Pass.{Pass}
use Rattle.mvd_dots.specs.declared.refusals.Refusal.{Refusal}
use Rattle.mvd_host.specs.Feeds.{FeedValue}
use Rattle.mvd_http.specs.Answers.{IsToldAs}
use Rattle.mvd_http.specs.Json.{changes_text, not_waited_text}
use Rattle.mvd_http.specs.declared.fields.Content.TheVariants.{Json}
use Rattle.mvd_http.specs.declared.question.Followed.{Followed}
use Rattle.mvd_http.specs.declared.question.Question.TheVariants.{Changes}
use Rattle.mvd_server.specs.Errands.{AwaitsChange, TellsNews, TellsRoot, root_text}
use Rattle.mvd_server.specs.News.{IsNewsFor, asked_by, followed_by}
use Rattle.mvd_server.specs.Questions.{TellsText}
use Rattle.mvd_server.specs.Responding.{AnswersReply, AnswersWeb, RefusesWeb, TellsPushed, json_answer, refused_for}
use Rattle.mvd_server.specs.Since.{IsLetStill, IsNews, followed_in, followed_of, since_text, since_told}
use Rattle.mvd_server.specs.Talking.{Talking, web_in}
use Rattle.mvd_site.specs.Held.{States}
use Rattle.mvd_site.specs.Sites.{SiteValue}
use Rattle.mvd_web.specs.Web.{RespondsTo, WebValue}
use Rattle.mvd_web.specs.declared.taken.Asked.{Asked}
use Rattle.mvd_wire.specs.declared.reply.Reply.{Reply}

one_asked : (a b : Asked) → Some a ≡ Some b → a ≡ b
one_asked a b e = cc

-- with this body
pub answered : (o : Option Asked) (asked : Asked) (reply : Reply) (old new : WebValue) (status : ℕ) (body : List ℕ) →
    Some asked ≡ o → AnswersReply asked.question reply status body → RespondsTo o old (json_answer status body) body new → AnswersWeb o reply old new
answered None asked reply old new status body is answers responds = cc
answered (Some waits) asked reply old new status body is answers responds =
    inl (record {
      status = status;
      body = body;
      answers = subst (λ (a : Asked). AnswersReply a.question reply status body) (one_asked asked waits is) answers;
      responds = responds;
    })

-- the same of a connection that is as it was
pub answered_so : (reply : Reply) (old mid new : WebValue) → mid ≡ old → AnswersWeb mid.asked reply mid new → AnswersWeb old.asked reply old new
answered_so reply old mid new same answers = subst (λ (w : WebValue). AnswersWeb w.asked reply w new) same answers

-- it is told that it is refused
pub refuses : (refusal : Refusal) (old new : WebValue) (status : ℕ) (body : List ℕ) → IsToldAs (refused_for old.asked refusal) status body → RespondsTo old.asked old (json_answer status body) body new → RefusesWeb refusal old new
refuses refusal old new status body told responds = inl (record { status = status; body = body; told = told; responds = responds })

-- it asks what changed
pub awaits_if : (o : Option Asked) (asked : Asked) (since : Option (List ℕ)) (wait : ℕ) (followed : Followed) → Some asked ≡ o → asked.question ≡ Ok (Changes since wait followed) → AwaitsChange o
awaits_if None asked since wait followed is asks = cc
awaits_if (Some waits) asked since wait followed is asks = subst (λ (a : Asked). AwaitsChange (Some a)) (one_asked asked waits is) (since, wait, followed, asks)

-- then there is what it follows
pub awaits_so : (o : Option Asked) → AwaitsChange o → (followed : Followed) × (followed_in o ≡ Some followed)
awaits_so None never = absurd never
awaits_so (Some asked) (since, wait, followed, is) = (followed, ap followed_of is)

-- what was put down is told to it
pub tells_news : {A : Type 0} (passes : Option (List Pass)) (feed : FeedValue) (states : States) (followed : Followed) (told : Result A Refusal) (body : List ℕ) (old new : WebValue) → followed_in old.asked ≡ Some followed → OnOk told (IsNews (IsLetStill passes old.asked) feed states followed body) → TellsPushed told body old new
    → TellsNews passes feed states old new
tells_news passes feed states followed (Ok done) body old new is news responds = (followed, is, inl (body, news, responds))
tells_news passes feed states followed (Err refusal) body old new is news refuses = (followed, is, inr (refusal, refuses))

-- what changed is told to one that asks for it
pub tells_since : {A : Type 0} (feed : FeedValue) (states : States) (since : Option (List ℕ)) (o : Option Followed) (told : Result A Refusal) (body : List ℕ) (old new : WebValue) → o ≡ followed_in old.asked → OnOk told (since_told feed states since o ≡ Ok body) → TellsPushed told body old new
    → TellsText Json (since_told feed states since (followed_in old.asked)) old new
tells_since feed states since o (Ok done) body old new same is responds = inl (body, subst (λ p. since_told feed states since p ≡ Ok body) same is, responds)
tells_since feed states since o (Err refusal) body old new same is refuses = inr (refusal, refuses)

-- the root is told
pub tells_root : {A : Type 0} (site : SiteValue) (told : Result A Refusal) (body : List ℕ) (old new : WebValue) → OnOk told ((live : ℕ) × (body ≡ root_text site live)) → TellsPushed told body old new → TellsRoot site old new
tells_root site (Ok done) body old new (live, is) responds = (live, inl (body, ap Ok (sym is), responds))
tells_root site (Err refusal) body old new none refuses = (0, inr (refusal, refuses))

-- ---- what one that waits is told

module _ {A : Type 0} (site : SiteValue) (t : Talking) (n : ℕ) where
  -- nothing changed
  pub none_news : (told : Result A Refusal) (root text : List ℕ) → OnOk told (text ≡ changes_text root [] false) → IsNewsFor site t n told text
  none_news (Ok done) root text is = λ followed at. inr (root, inl is)
  none_news (Err refusal) root text is = λ followed at. tt

  -- it did not wait
  pub unwaited_news : (told : Result A Refusal) (root text : List ℕ) → OnOk told (text ≡ not_waited_text root) → IsNewsFor site t n told text
  unwaited_news (Ok done) root text is = λ followed at. inr (root, inr is)
  unwaited_news (Err refusal) root text is = λ followed at. tt

  -- something did
  pub some_news : (done : A) (since : Option (List ℕ)) (asked : Followed) (text : List ℕ) → IsLetStill t.passes (asked_by (web_in t n)) → Some asked ≡ followed_by (web_in t n) → text ≡ since_text t.feed asked site.states since → IsNewsFor site t n (Ok done) text
  some_news done since asked text let_in at is = λ followed found.
      let same : asked ≡ followed = (let e = at ∙ found in cc) in
      inl (let_in, since, is ∙ ap (λ (f : Followed). since_text t.feed f site.states since) same)
