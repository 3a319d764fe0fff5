-- What is asked for one line, and what is printed of the replies.
use Rattle.std.specs.Prelude.{ℕ, ◌≡◌, ◌⊎◌, ◌==◌, ◌&&◌, nat_le, if◌then◌else◌, Bool, true, false, List, [], ◌∷◌, ◌++◌, Option, Some, None, Result, Ok, Err}
use Rattle.mvd_dots.specs.Answer.{IsAnswer}
use Rattle.mvd_dots.specs.Refusal.{number_of}
use Rattle.mvd_dots.specs.declared.refusals.Refusal.{Refusal}
use Rattle.mvd_dots.specs.declared.refusals.Refusal.TheVariants.{Memory}
use Rattle.mvd_input.specs.declared.command.Ask.{Ask}
use Rattle.mvd_input.specs.declared.command.Ask.TheVariants.{Put}
use Rattle.mvd_print.specs.Added.{Extends}
use Rattle.mvd_print.specs.Place.{fault_json}
use Rattle.mvd_print.specs.Text.{refused_at_text, refused_text}
use Rattle.mvd_wire.specs.declared.reply.Reply.{Reply}
use Rattle.mvd_wire.specs.declared.reply.Reply.TheVariants as reply
use Rattle.mvd_wire.specs.declared.request.Request.{Request}
use Rattle.mvd_shell.specs.Asked.{Exchange, IsRequestOf, next_asked}
use Rattle.mvd_shell.specs.Told.{answer_text, unknown_text}

-- something that is asked answers one request after the other
unfoldable pub AnswersExchanges : {A : Type 0} → (A → A → Request → Reply → Type 0) → List Exchange → A → A → Type 0
AnswersExchanges Answers [] old new = new ≡ old
AnswersExchanges {A} Answers (exchange ∷ exchanges) old new =
    (between : A) × Answers old between exchange.request exchange.reply × AnswersExchanges Answers exchanges between new

-- requests were asked of it, and answered, one after the other
pub record AsksInTurn {A : Type 0} (Answers : A → A → Request → Reply → Type 0) (asked asked' : A) : Type 0 where
  pub exchanges : List Exchange
  pub answered : AnswersExchanges Answers exchanges asked asked'

-- the request that a line asks for, with what is asked before it, seen at what answers
pub record AsksFirst {A : Type 0} (Answers : A → A → Request → Reply → Type 0) (asked asked' : A) (ask : Ask)
    (request : Result Request Refusal) : Type 0 where
  pub exchanges : List Exchange
  pub answered : AnswersExchanges Answers exchanges asked asked'
  pub read : IsRequestOf ask exchanges request

-- the text of a page, and then what follows it; a refusal stands in place of all
abbrev pub text_onto : List ℕ → Result (List ℕ) Refusal → Result (List ℕ) Refusal
text_onto text (Ok more) = Ok (text ++ more)
text_onto text (Err refusal) = Err refusal

-- nothing follows a page that was refused, or printed last
abbrev pub EndsWith : Result (List ℕ) Refusal → Result (Option Request) Refusal → Result (List ℕ) Refusal → Type 0
EndsWith (Err refusal) next told = told ≡ Err refusal
EndsWith (Ok text) (Err refusal) told = told ≡ Err refusal
EndsWith (Ok text) (Ok None) told = told ≡ Ok text
EndsWith (Ok text) (Ok (Some request)) told = ⊥

-- a reply tells that a write was done
abbrev pub is_taken : Reply → Bool
is_taken (reply.Written dot) = true
is_taken reply.Done = true
is_taken told = false

-- what is made of a reply is this, unless memory was refused; of one that tells that a write was done it is just this,
-- for the room to tell it was there before the write was asked for
abbrev pub IsMadeOf : {T : Type 0} → Reply → Result T Refusal → Result T Refusal → Type 0
IsMadeOf reply made whole = IsAnswer made whole × (is_taken reply ≡ true → made ≡ whole)

-- A page is asked for and printed, and then the next one, until no more is left. What is told is the text of all, or
-- the refusal in its place. Where there are no exchanges left, memory was refused.
unfoldable pub TellsAllPages : Ask → Request → List Exchange → Result (List ℕ) Refusal → Type 0
TellsAllPages ask request [] told = told ≡ Err Memory
TellsAllPages ask request (exchange ∷ exchanges) told =
    (exchange.request ≡ request) × (page : Result (List ℕ) Refusal) × (next : Result (Option Request) Refusal)
    × IsMadeOf exchange.reply page (answer_text ask exchange.reply)
    × IsMadeOf exchange.reply next (next_asked ask exchange.reply)
    × (((exchanges ≡ []) × EndsWith page next told)
    ⊎ ((text : List ℕ) × (following : Request) × (more : Result (List ℕ) Refusal) × (page ≡ Ok text)
    × (next ≡ Ok (Some following)) × TellsAllPages ask following exchanges more × (told ≡ text_onto text more)))

-- what is printed of a page and given back
abbrev pub ShowsPage : Result (List ℕ) Refusal → Result (Option Request) Refusal → List ℕ → List ℕ
    → Result (Option Request) Refusal → Type 0
ShowsPage (Ok text) next old new result = (new ≡ old ++ text) × (result ≡ next)
ShowsPage (Err refusal) next old new result = (result ≡ Err refusal) × Extends old new

-- A page is told: its text is printed, and then the next request given; a refusal of either is given back
pub record TellsPage (ask : Ask) (reply : Reply) (old new : List ℕ)
    (result : Result (Option Request) Refusal) : Type 0 where
  pub page : Result (List ℕ) Refusal
  pub told : IsMadeOf reply page (answer_text ask reply)
  pub next : Result (Option Request) Refusal
  pub asked : IsMadeOf reply next (next_asked ask reply)
  pub shows : ShowsPage page next old new result

-- the request that was read is asked, page after page, or its refusal is told
abbrev pub TellsRead : Ask → Result Request Refusal → List Exchange → Result (List ℕ) Refusal → Type 0
TellsRead ask (Err refusal) exchanges told = (exchanges ≡ []) × (told ≡ Err refusal)
TellsRead ask (Ok request) exchanges told = TellsAllPages ask request exchanges told

-- What a line asks, with the replies, and what is told of it
pub record TellsAsk (ask : Ask) (exchanges : List Exchange) (told : Result (List ℕ) Refusal) : Type 0 where
  pub first : List Exchange
  pub rest : List Exchange
  pub all : exchanges ≡ first ++ rest
  pub request : Result Request Refusal
  pub read : IsRequestOf ask first request
  pub pages : TellsRead ask request rest told

-- the text was printed; or the refusal is given back, and the old text still stands first
abbrev pub ShowsText : Result (List ℕ) Refusal → List ℕ → List ℕ → Result (Unit {0}) Refusal → Type 0
ShowsText (Ok text) old new (Ok done) = new ≡ old ++ text
ShowsText (Err refusal) old new (Err other) = (other ≡ refusal) × Extends old new
ShowsText told old new result = ⊥

-- a refusal is printed in place of the text
abbrev pub told_text : Result (List ℕ) Refusal → List ℕ
told_text (Ok text) = text
told_text (Err refusal) = refused_text refusal

-- the refusal of a line; where it is of the document that a put has (3 to 6), with the place of what is wrong
abbrev pub refused_of : Ask → Refusal → List ℕ
refused_of (Put key context document) refusal =
    if nat_le 3 (number_of refusal) && nat_le (number_of refusal) 6
    then refused_at_text refusal (fault_json refusal document.now) else refused_text refusal
refused_of ask refusal = refused_text refusal

-- the same, in place of the text
abbrev pub answered_text : Ask → Result (List ℕ) Refusal → List ℕ
answered_text ask (Ok text) = text
answered_text ask (Err refusal) = refused_of ask refusal

-- a refusal is printed as one of a write that may have been done all the same
abbrev pub lost_text : Result (List ℕ) Refusal → List ℕ
lost_text (Ok text) = text
lost_text (Err refusal) = unknown_text refusal

-- what a line prints, where it is known of each write that was asked whether it was done, and where not
abbrev pub shell_text : Ask → Bool → Result (List ℕ) Refusal → List ℕ
shell_text ask true told = answered_text ask told
shell_text ask false told = lost_text told

-- what was asked and told of a line, seen at what answers and at what is printed
pub record Talks {A : Type 0} (Answers : A → A → Request → Reply → Type 0) (asked asked' : A) (ask : Ask)
    (told : Result (List ℕ) Refusal) : Type 0 where
  pub exchanges : List Exchange
  pub answered : AnswersExchanges Answers exchanges asked asked'
  pub tells : TellsAsk ask exchanges told

-- the same of pages alone, from a request on
pub record TalksPages {A : Type 0} (Answers : A → A → Request → Reply → Type 0) (asked asked' : A) (ask : Ask)
    (request : Request) (told : Result (List ℕ) Refusal) : Type 0 where
  pub exchanges : List Exchange
  pub answered : AnswersExchanges Answers exchanges asked asked'
  pub tells : TellsAllPages ask request exchanges told

-- nothing was asked; or all that a line asks, until something was refused
abbrev pub MayHaveAsked : {A : Type 0} → (A → A → Request → Reply → Type 0) → A → A → Ask → Type 0
MayHaveAsked Answers asked asked' ask =
    (asked' ≡ asked) ⊎ ((told : Result (List ℕ) Refusal) × Talks Answers asked asked' ask told)

-- what was told, and shown of it
pub record Speaks {A : Type 0} (Answers : A → A → Request → Reply → Type 0) (asked asked' : A) (ask : Ask)
    (old new : List ℕ) (result : Result (Unit {0}) Refusal) : Type 0 where
  pub told : Result (List ℕ) Refusal
  pub talks : Talks Answers asked asked' ask told
  pub shows : ShowsText told old new result

pub record SpeaksPages {A : Type 0} (Answers : A → A → Request → Reply → Type 0) (asked asked' : A) (ask : Ask)
    (request : Request) (old new : List ℕ) (result : Result (Unit {0}) Refusal) : Type 0 where
  pub told : Result (List ℕ) Refusal
  pub talks : TalksPages Answers asked asked' ask request told
  pub shows : ShowsText told old new result

-- a page was asked for and told
pub record TurnsPage {A : Type 0} (Answers : A → A → Request → Reply → Type 0) (asked asked' : A) (ask : Ask)
    (request : Request) (old new : List ℕ) (result : Result (Option Request) Refusal) : Type 0 where
  pub reply : Reply
  pub answers : Answers asked asked' request reply
  pub tells : TellsPage ask reply old new result

-- What was printed is what was told of the line. Where more writes are lost behind it than before, it is unknown
-- whether the line's write was done
pub record Prints_line {A : Type 0} (Answers : A → A → Request → Reply → Type 0) (lost : A → ℕ) (asked asked' : A)
    (ask : Ask) (text : List ℕ) : Type 0 where
  pub told : Result (List ℕ) Refusal
  pub talks : Talks Answers asked asked' ask told
  pub is : text ≡ shell_text ask (lost asked == lost asked') told
