-- What a client over HTTP is told of the reply to its request.
use Rattle.std.specs.Prelude.{◌≡◌, ◌⊎◌, ◌&&◌, if◌then◌else◌, nat_le, ℕ, true, List, [], ◌∷◌, Option, Some, None, Result, Ok, Err}
use Rattle.mvd_dots.specs.declared.refusals.Refusal.{Refusal}
use Rattle.mvd_http.specs.Answers.{Responds, IsToldAs, Told, is_stored, live_told, misread_told, refused_told, reply_told, texts_told}
use Rattle.mvd_http.specs.declared.fields.Answer.{Answer}
use Rattle.mvd_http.specs.declared.fields.Content.{Content}
use Rattle.mvd_http.specs.declared.fields.Content.TheVariants.{Json, Nothing}
use Rattle.mvd_http.specs.declared.question.Question.{Question}
use Rattle.mvd_http.specs.declared.question.Question.TheVariants.{Ask, Live, Misread, Texts}
use Rattle.mvd_server.specs.Plans.{plain_answer}
pub use Rattle.mvd_server.specs.Plans.{not_admitted}
use Rattle.mvd_web.specs.Web.{RespondsTo, WebValue, stopped_by}
use Rattle.mvd_web.specs.declared.taken.Asked.{Asked}
use Rattle.mvd_wire.specs.declared.reply.Reply.{Reply}

-- ---- the head of a response

-- an empty body is none, and each other is JSON
abbrev pub content_of : List ℕ → Content
content_of [] = Nothing
content_of (b ∷ bs) = Json

abbrev pub status_or_500 : ℕ → ℕ
status_or_500 status = if nat_le 100 status && nat_le status 999 then status else 500

abbrev pub json_answer : ℕ → List ℕ → Answer
json_answer status body = plain_answer (status_or_500 status) (content_of body)

-- ---- what is told of a reply

-- the reply is told; keys without a sibling may be left out, and documents told as their texts
abbrev pub AnswersReply : Result Question Refusal → Reply → ℕ → List ℕ → Type 0
AnswersReply (Ok (Ask request)) reply status body = Responds (is_stored reply) (reply_told request reply) status body
AnswersReply (Ok (Live request)) reply status body = Responds (is_stored reply) (live_told request reply) status body
AnswersReply (Ok (Texts request)) reply status body = Responds (is_stored reply) (texts_told request reply) status body
AnswersReply _ reply status body = ⊥

-- a response to the request that waits
pub record AnswersBy (asked : Asked) (reply : Reply) (old new : WebValue) : Type 0 where
  pub status : ℕ
  pub body : List ℕ
  pub answers : AnswersReply asked.question reply status body
  pub responds : RespondsTo (Some asked) old (json_answer status body) body new

-- The request that waits is answered by this reply, or the connection is stopped. Where none waits, nothing is done
abbrev pub AnswersWeb : Option Asked → Reply → WebValue → WebValue → Type 0
AnswersWeb None reply old new = new ≡ old
AnswersWeb (Some asked) reply old new =
    AnswersBy asked reply old new ⊎ ((refusal : Refusal) × (new ≡ stopped_by old refusal))

-- ---- what is told at once

-- a refusal, for a write whose document is refused with the place of what is wrong
abbrev pub refused_of : Result Question Refusal → Refusal → Told
refused_of (Ok (Misread other place)) refusal = misread_told refusal place
refused_of question refusal = refused_told refusal

abbrev pub refused_for : Option Asked → Refusal → Told
refused_for None refusal = refused_told refusal
refused_for (Some asked) refusal = refused_of asked.question refusal

-- a response that tells this refusal
pub record RefusesBy (refusal : Refusal) (old new : WebValue) : Type 0 where
  pub status : ℕ
  pub body : List ℕ
  pub told : IsToldAs (refused_for old.asked refusal) status body
  pub responds : RespondsTo old.asked old (json_answer status body) body new

-- it is told to the request that waits, or the connection is stopped
abbrev pub RefusesWeb : Refusal → WebValue → WebValue → Type 0
RefusesWeb refusal old new = RefusesBy refusal old new ⊎ ((cause : Refusal) × (new ≡ stopped_by old cause))

-- a body of this kind is told, or why there is none
abbrev pub TellsBody : Content → WebValue → WebValue → Type 0
TellsBody content old new =
    ((body : List ℕ) × RespondsTo old.asked old (plain_answer 200 content) body new)
    ⊎ ((refusal : Refusal) × RefusesWeb refusal old new)

-- this body is told, where it was put down; else why not
abbrev pub TellsPushed : {A : Type 0} → Result A Refusal → List ℕ → WebValue → WebValue → Type 0
TellsPushed (Ok done) body old new = RespondsTo old.asked old (plain_answer 200 Json) body new
TellsPushed (Err refusal) body old new = RefusesWeb refusal old new

-- a token is asked for
abbrev pub token_answer : Answer
token_answer = record { status = 401; content = Json; allow = None; asks_token = true; preflight = None }
