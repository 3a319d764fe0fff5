-- The lines of a list of questions, put down one after the other.
use Rattle.std.proofs.Common.{◌≡◌, ◌∙◌, ◌⊎◌, inl, inr, ℕ, ◌+◌, ◌<◌, Bool, true, false, cond, List, [], ◌∷◌, ◌++◌, ap, drop, get_or, length, nat_le, OnOk, Option, Some, None, refl, Result, Ok, Err, subst, sym}
use Rattle.std.proofs.lemmas.List.{drop_more}
use Rattle.mvd_dots.specs.declared.refusals.Refusal.{Refusal}
use Rattle.mvd_conn.specs.Rights.{may}
use Rattle.mvd_conn.specs.declared.right.Right.{Right}
use Rattle.mvd_http.specs.Answers.{AppendsIf, AppendsText, denied_told, later_told, line_told}
use Rattle.mvd_http.specs.Json.{bad_line_json}
use Rattle.mvd_http.specs.Seen.{then_read}
use Rattle.mvd_http.specs.declared.fields.Answer.{Answer}
use Rattle.mvd_http.specs.declared.fields.Content.TheVariants as content
use Rattle.mvd_http.specs.declared.question.Spelling.{Spelling}
use Rattle.mvd_server.specs.Plans.{plain_answer}
use Rattle.mvd_server.specs.Questions.{TellsBadLine, answer_line, ask_line, asks_text, later_or}
use Rattle.mvd_site.specs.Answer.{answer_from}
use Rattle.mvd_site.specs.Sites.{SiteValue}
use Rattle.mvd_web.specs.Web.{RespondsTo, WebValue}
use Rattle.mvd_wire.specs.declared.reply.Reply.{Reply}
use Rattle.mvd_wire.specs.declared.request.Request.{Request}

module _ (right : Right) (site : SiteValue) (spelling : Spelling) (asks : List (Result Request Refusal)) where
  -- one question more
  pub asks_on : (told line : List ℕ) (i : ℕ) (ask : Result Request Refusal) (all : Result (List ℕ) Refusal) → i < length asks → ask ≡ get_or asks i ask → ask_line right site spelling (length told) ask ≡ Ok line
      → asks_text right site spelling told (drop i asks) ≡ all → asks_text right site spelling ((told ++ line) ++ 10 ∷ []) (drop (i + 1) asks) ≡ all
  unfolding asks_text
  asks_on told line i ask all low is one so_far =
      sym (ap (asks_text right site spelling told) (drop_more asks i ask low ∙ ap (λ (a : Result Request Refusal). a ∷ drop (i + 1) asks) (sym is))
      ∙ ap (λ r. then_read r (λ l. asks_text right site spelling ((told ++ l) ++ 10 ∷ []) (drop (i + 1) asks))) one)
      ∙ so_far

  -- and none is left
  pub asks_done : (told : List ℕ) (i : ℕ) (all : Result (List ℕ) Refusal) → drop i asks ≡ [] → asks_text right site spelling told (drop i asks) ≡ all → all ≡ Ok told
  unfolding asks_text
  asks_done told i all none so_far = sym so_far ∙ ap (asks_text right site spelling told) none

-- ---- one line

-- nothing is put down in place of the line
pub never_later : (later : Option (List ℕ)) (old new : List ℕ) (result : Result Bool Refusal) → result ≡ Ok false → AppendsIf later old new result → (later ≡ None) × (new ≡ old)
never_later later old new (Err refusal) kept is = cc
never_later (Some text) old new (Ok told) kept (is, came) = cc
never_later None old new (Ok told) kept (is, same) = (refl, same)

not_later : (much : Bool) (later : Option (List ℕ)) (line : Result (List ℕ) Refusal) → (much ≡ false ⊎ later ≡ None) → later_or much later line ≡ line
not_later false later line is = refl
not_later true None line is = refl
not_later true (Some text) line (inl little) = cc
not_later true (Some text) line (inr none) = cc

line_of : (line : Result (List ℕ) Refusal) (old new : List ℕ) (u : Unit {0}) → AppendsText line old new (Ok u) → (text : List ℕ) × (line ≡ Ok text) × (new ≡ old ++ text)
line_of (Ok text) old new u is = (text, refl, is)
line_of (Err refusal) old new u differs = absurd (let never : ⊥ = cc in never)

-- so the line is that of the answer
pub told_line : (site : SiteValue) (spelling : Spelling) (old mid new : List ℕ) (request : Request) (reply : Reply) (result : Result (Unit {0}) Refusal) → reply ≡ answer_from site.config site.states request
    → (nat_le 1048576 (length old) ≡ false ⊎ later_told request ≡ None) × (mid ≡ old) → AppendsText (line_told spelling request reply) mid new result
    → OnOk result ((line : List ℕ) × (answer_line site spelling (length old) request ≡ Ok line) × (new ≡ old ++ line))
told_line site spelling old mid new request reply (Err refusal) answers (where_to, same) appends = tt
told_line site spelling old mid new request reply (Ok u) answers (where_to, same) appends =
    let (line, told, came) = line_of (line_told spelling request reply) mid new u appends in (
      line,
      not_later (nat_le 1048576 (length old)) (later_told request) (line_told spelling request (answer_from site.config site.states request)) where_to
          ∙ ap (line_told spelling request) (sym answers) ∙ told,
      came ∙ ap (λ (text : List ℕ). text ++ line) same,
    )

-- ---- what a right allows

module _ (right : Right) (site : SiteValue) (spelling : Spelling) (old new : List ℕ) (ask : Result Request Refusal) (request : Request) where
  line_by : (b : Bool) → ask ≡ Ok request → may right request ≡ b → ask_line right site spelling (length old) ask ≡ cond b (answer_line site spelling (length old) request) (Ok (denied_told request))
  line_by b asks is =
      ap (ask_line right site spelling (length old)) asks ∙ ap (λ (c : Bool). cond c (answer_line site spelling (length old) request) (Ok (denied_told request))) is

  pub line_allowed : (result : Result (Unit {0}) Refusal) → ask ≡ Ok request → may right request ≡ true → OnOk result ((line : List ℕ) × (answer_line site spelling (length old) request ≡ Ok line) × (new ≡ old ++ line))
      → OnOk result ((line : List ℕ) × (ask_line right site spelling (length old) ask ≡ Ok line) × (new ≡ old ++ line))
  line_allowed (Err refusal) asks is told = tt
  line_allowed (Ok u) asks is (line, one, came) = (line, line_by true asks is ∙ one, came)

  pub line_denied : (result : Result (Unit {0}) Refusal) → ask ≡ Ok request → may right request ≡ false → OnOk result (new ≡ old ++ denied_told request)
      → OnOk result ((line : List ℕ) × (ask_line right site spelling (length old) ask ≡ Ok line) × (new ≡ old ++ line))
  line_denied (Err refusal) asks is told = tt
  line_denied (Ok u) asks is came = (denied_told request, line_by false asks is, came)

-- ---- a list that is none

pub bad_line_told : (line : ℕ) (old new : WebValue) (answer : Answer) (none body text : List ℕ) → none ≡ [] → body ≡ none ++ bad_line_json line → text ≡ body → answer ≡ plain_answer 400 content.Json
    → RespondsTo old.asked old answer text new → TellsBadLine line old new
bad_line_told line old new answer none body text empty put is plain responds =
    inl (subst (λ (a : Answer). RespondsTo old.asked old a (bad_line_json line) new) plain
    (subst (λ (t : List ℕ). RespondsTo old.asked old answer t new) (is ∙ put ∙ ap (λ (l : List ℕ). l ++ bad_line_json line) empty) responds))
