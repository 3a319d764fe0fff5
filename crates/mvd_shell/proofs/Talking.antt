-- Pages, asked for and printed one after the other.
use Rattle.std.proofs.Common.{◌≡◌, ◌∙◌, ℕ, List, [], ◌∷◌, ◌++◌, Option, Some, None, Result, Ok, Err, refl, sym, ap, subst, subst₂, append_assoc, inl, inr, codes, Bor, Bool, IfErr, OnOk, ◌==◌, false, true≢false}
use Rattle.std.proofs.lemmas.List.{append-nil}
use Rattle.mvd_dots.specs.Answer.{IsAnswer, IsReading}
use Rattle.mvd_dots.specs.Context.{DotSet}
use Rattle.mvd_dots.specs.Text.{IsTextOf}
use Rattle.mvd_dots.specs.declared.refusals.Refusal.{Refusal}
use Rattle.mvd_dots.specs.declared.refusals.Refusal.TheVariants.{BadContext, Memory}
use Rattle.mvd_input.specs.declared.command.Ask.{Ask}
use Rattle.mvd_input.specs.declared.command.Ask.TheVariants as ask
use Rattle.mvd_keys.specs.Key.{key_of_text}
use Rattle.mvd_keys.specs.Writes.{Key}
use Rattle.mvd_print.specs.Added.{Extends, Prints}
use Rattle.mvd_wire.specs.declared.reply.Reply.{Reply}
use Rattle.mvd_wire.specs.declared.request.Request.{Request}
use Rattle.mvd_wire.specs.declared.request.Request.TheVariants.{Get}
use Rattle.mvd_shell.specs.Asked.{Exchange, IsRequestOf, IsWriteOfLine, Sees, delete_request, next_asked, put_request, question, shown_context}
use Rattle.mvd_shell.specs.Talk.{is_taken, AnswersExchanges, AsksInTurn, AsksFirst, EndsWith, IsMadeOf, MayHaveAsked, Prints_line, ShowsText, ShowsPage, Speaks, SpeaksPages, TellsPage, TellsAllPages, TurnsPage, shell_text, text_onto}
use Rattle.mvd_shell.specs.Told.{answer_text}

no_memory : {T : Type 0} (answer : Result T Refusal) → IsAnswer (Err Memory) answer
no_memory answer = λ not. absurd (not refl)

pub extends_none : (old new : List ℕ) → new ≡ old → Extends old new
extends_none old new same = record { more = []; is = same ∙ sym (append-nil old) }

extends_twice : (old printed mid new : List ℕ) → mid ≡ old ++ printed → Extends mid new → Extends old new
extends_twice old printed mid new first then = record {
  more = printed ++ then.more;
  is = then.is ∙ ap (λ (t : List ℕ). t ++ then.more) first ∙ append_assoc old printed then.more;
}

-- ---- one page

refused_print : (told : Result (List ℕ) Refusal) (old new : List ℕ) (refusal : Refusal) → Prints told old new (Err refusal) → IsAnswer {T = List ℕ} (Err refusal) told × Extends old new
refused_print (Ok text) old new refusal (memory, more) = (λ not. absurd (not memory), more)
refused_print (Err other) old new refusal (same, stays) = let is : other ≡ refusal = cc in (λ not. ap Err is, extends_none old new stays)

printed_all : (told : Result (List ℕ) Refusal) (old new : List ℕ) (done : Unit {0}) → Prints told old new (Ok done) → (text : List ℕ) × (told ≡ Ok text) × (new ≡ old ++ text)
printed_all (Ok text) old new done printed = (text, refl, printed)
printed_all (Err refusal) old new done (same, stays) = absurd cc

-- of a reply that does not tell that a write was done
made : {T : Type 0} (reply : Reply) (told whole : Result T Refusal) → is_taken reply ≡ false → IsAnswer told whole → IsMadeOf reply told whole
made reply told whole not answer = (answer, λ taken. absurd (true≢false (sym taken ∙ not)))

whole_answer : {T : Type 0} (whole : Result T Refusal) → IsAnswer whole whole
whole_answer (Ok x) = refl
whole_answer (Err refusal) = λ _. refl

pub page_refused : (ask : Ask) (reply : Reply) (old new : List ℕ) (refusal : Refusal) → is_taken reply ≡ false → Prints (answer_text ask reply) old new (Err refusal) → TellsPage ask reply old new (Err refusal)
page_refused ask reply old new refusal not prints =
    let (answer, more) = refused_print (answer_text ask reply) old new refusal prints in
    record { page = Err refusal; told = made reply (Err refusal) (answer_text ask reply) not answer; next = Err Memory; asked = made reply (Err Memory) (next_asked ask reply) not (no_memory (next_asked ask reply)); shows = (refl, more) }

pub page_told : (ask : Ask) (reply : Reply) (old new : List ℕ) (done : Unit {0}) (next : Result (Option Request) Refusal) → is_taken reply ≡ false → Prints (answer_text ask reply) old new (Ok done) → IsAnswer next (next_asked ask reply) → TellsPage ask reply old new next
page_told ask reply old new done next not prints asked =
    let (text, is, more) = printed_all (answer_text ask reply) old new done prints in
    record { page = Ok text; told = made reply (Ok text) (answer_text ask reply) not is; next = next; asked = made reply next (next_asked ask reply) not asked; shows = (more, refl) }

-- of a reply that tells that a write was done, just its text
pub page_taken : (ask : Ask) (reply : Reply) (old new text : List ℕ) → answer_text ask reply ≡ Ok text → next_asked ask reply ≡ Ok None → new ≡ old ++ text → TellsPage ask reply old new (Ok None)
page_taken ask reply old new text is last printed = record {
  page = answer_text ask reply;
  told = (whole_answer (answer_text ask reply), λ _. refl);
  next = next_asked ask reply;
  asked = (whole_answer (next_asked ask reply), λ _. refl);
  shows = rw is (printed, sym last);
}

-- ---- pages

onto_none : (more : Result (List ℕ) Refusal) → text_onto [] more ≡ more
onto_none (Ok text) = refl
onto_none (Err refusal) = refl

onto_twice : (first text : List ℕ) (more : Result (List ℕ) Refusal) → text_onto first (text_onto text more) ≡ text_onto (first ++ text) more
onto_twice first text (Ok more) = ap Ok (sym (append_assoc first text more))
onto_twice first text (Err refusal) = refl

module _ {A : Type 0} (Answers : A → A → Request → Reply → Type 0) where
  pub answered_more : (first : List Exchange) (exchange : Exchange) (old mid new : A) → AnswersExchanges Answers first old mid → Answers mid new exchange.request exchange.reply → AnswersExchanges Answers (first ++ exchange ∷ []) old new
  unfolding AnswersExchanges
  answered_more [] exchange old mid new same answers = (new, subst (λ (a : A). Answers a new exchange.request exchange.reply) same answers, refl)
  answered_more (x ∷ first) exchange old mid new (between, one, others) answers = (between, one, answered_more first exchange between mid new others answers)

  pub answered_both : (first rest : List Exchange) (old mid new : A) → AnswersExchanges Answers first old mid → AnswersExchanges Answers rest mid new → AnswersExchanges Answers (first ++ rest) old new
  unfolding AnswersExchanges
  answered_both [] rest old mid new same more = subst (λ (a : A). AnswersExchanges Answers rest a new) same more
  answered_both (x ∷ first) rest old mid new (between, one, others) more = (between, one, answered_both first rest between mid new others more)

  -- the pages that were told, before the one that a request asks for
  pub record SoFar (asked asked' : A) (ask : Ask) (first request : Request) (old new : List ℕ) : Type 0 where
    pub done : List Exchange
    pub printed : List ℕ
    pub answered : AnswersExchanges Answers done asked asked'
    pub shown : new ≡ old ++ printed
    pub goes_on : (rest : List Exchange) (more : Result (List ℕ) Refusal) → TellsAllPages ask request rest more → TellsAllPages ask first (done ++ rest) (text_onto printed more)

  pub begins : (asked : A) (ask : Ask) (request : Request) (old : List ℕ) → SoFar asked asked ask request request old old
  unfolding AnswersExchanges
  begins asked ask request old = record {
    done = [];
    printed = [];
    answered = refl;
    shown = sym (append-nil old);
    goes_on = λ rest more tells. subst (TellsAllPages ask request rest) (sym (onto_none more)) tells;
  }

  -- what is shown stays where only room was made
  pub stays_shown : (asked asked' : A) (ask : Ask) (first request : Request) (old mid new : List ℕ) → new ≡ mid → SoFar asked asked' ask first request old mid → SoFar asked asked' ask first request old new
  stays_shown asked asked' ask first request old mid new same so_far = subst (SoFar asked asked' ask first request old) (sym same) so_far

  -- a page more, behind which more is left
  pub onward : (asked asked' asked'' : A) (ask : Ask) (first request next : Request) (old mid new : List ℕ) → SoFar asked asked' ask first request old mid → TurnsPage Answers asked' asked'' ask request mid new (Ok (Some next)) → SoFar asked asked'' ask first next old new
  unfolding TellsAllPages
  onward asked asked' asked'' ask first request next old mid new so_far turns = on turns.tells.page turns.tells.told turns.tells.shows
    where
      exchange : Exchange
      exchange = record { request = request; reply = turns.reply }

      on : (page : Result (List ℕ) Refusal) → IsMadeOf turns.reply page (answer_text ask turns.reply) → ShowsPage page turns.tells.next mid new (Ok (Some next)) → SoFar asked asked'' ask first next old new
      on (Err refusal) told (is, more) = absurd cc
      on (Ok text) told (is, same) = record {
        done = so_far.done ++ exchange ∷ [];
        printed = so_far.printed ++ text;
        answered = answered_more so_far.done exchange asked asked' asked'' so_far.answered turns.answers;
        shown = is ∙ ap (λ (t : List ℕ). t ++ text) so_far.shown ∙ append_assoc old so_far.printed text;
        goes_on = λ rest more tells. subst₂ (TellsAllPages ask first) (sym (append_assoc so_far.done (exchange ∷ []) rest)) (onto_twice so_far.printed text more)
            (so_far.goes_on (exchange ∷ rest) (text_onto text more) (refl, Ok text, turns.tells.next, told, turns.tells.asked, inr (text, next, more, refl, sym same, tells, refl)));
      }

  -- the last page
  pub ends : (asked asked' asked'' : A) (ask : Ask) (first request : Request) (old mid new : List ℕ) (done : Unit {0}) → SoFar asked asked' ask first request old mid → TurnsPage Answers asked' asked'' ask request mid new (Ok None) → SpeaksPages Answers asked asked'' ask first old new (Ok done)
  unfolding TellsAllPages
  ends asked asked' asked'' ask first request old mid new done so_far turns = on turns.tells.page turns.tells.told turns.tells.shows
    where
      exchange : Exchange
      exchange = record { request = request; reply = turns.reply }

      on : (page : Result (List ℕ) Refusal) → IsMadeOf turns.reply page (answer_text ask turns.reply) → ShowsPage page turns.tells.next mid new (Ok None) → SpeaksPages Answers asked asked'' ask first old new (Ok done)
      on (Err refusal) told (is, more) = absurd cc
      on (Ok text) told (is, same) = record {
        told = Ok (so_far.printed ++ text);
        talks = record {
          exchanges = so_far.done ++ exchange ∷ [];
          answered = answered_more so_far.done exchange asked asked' asked'' so_far.answered turns.answers;
          tells = so_far.goes_on (exchange ∷ []) (Ok text) (refl, Ok text, turns.tells.next, told, turns.tells.asked, inl (refl, subst (λ (n : Result (Option Request) Refusal). EndsWith (Ok text) n (Ok text)) same refl));
        };
        shows = is ∙ ap (λ (t : List ℕ). t ++ text) so_far.shown ∙ append_assoc old so_far.printed text;
      }

  -- a page that is refused
  pub refused : (asked asked' asked'' : A) (ask : Ask) (first request : Request) (old mid new : List ℕ) (refusal : Refusal) → SoFar asked asked' ask first request old mid → TurnsPage Answers asked' asked'' ask request mid new (Err refusal) → SpeaksPages Answers asked asked'' ask first old new (Err refusal)
  unfolding TellsAllPages
  refused asked asked' asked'' ask first request old mid new refusal so_far turns = on turns.tells.page turns.tells.told turns.tells.shows
    where
      exchange : Exchange
      exchange = record { request = request; reply = turns.reply }

      so : (page : Result (List ℕ) Refusal) → IsMadeOf turns.reply page (answer_text ask turns.reply) → EndsWith page turns.tells.next (Err refusal) → Extends mid new → SpeaksPages Answers asked asked'' ask first old new (Err refusal)
      so page told last more = record {
        told = Err refusal;
        talks = record {
          exchanges = so_far.done ++ exchange ∷ [];
          answered = answered_more so_far.done exchange asked asked' asked'' so_far.answered turns.answers;
          tells = so_far.goes_on (exchange ∷ []) (Err refusal) (refl, page, turns.tells.next, told, turns.tells.asked, inl (refl, last));
        };
        shows = (refl, extends_twice old so_far.printed mid new so_far.shown more);
      }

      on : (page : Result (List ℕ) Refusal) → IsMadeOf turns.reply page (answer_text ask turns.reply) → ShowsPage page turns.tells.next mid new (Err refusal) → SpeaksPages Answers asked asked'' ask first old new (Err refusal)
      on (Err other) told (is, more) = let same : refusal ≡ other = cc in so (Err other) told (ap Err same) more
      on (Ok text) told (is, same) = so (Ok text) told (subst (λ (n : Result (Option Request) Refusal). EndsWith (Ok text) n (Err refusal)) same refl) (record { more = text; is = is })

  -- no room for a further page
  pub stops : (asked asked' : A) (ask : Ask) (first request : Request) (old new : List ℕ) → SoFar asked asked' ask first request old new → SpeaksPages Answers asked asked' ask first old new (Err Memory)
  unfolding TellsAllPages
  stops asked asked' ask first request old new so_far = record {
    told = Err Memory;
    talks = record {
      exchanges = so_far.done ++ [];
      answered = subst (λ (x : List Exchange). AnswersExchanges Answers x asked asked') (sym (append-nil so_far.done)) so_far.answered;
      tells = so_far.goes_on [] (Err Memory) refl;
    };
    shows = (refl, record { more = so_far.printed; is = so_far.shown });
  }

  -- what was asked first, and then the pages
  pub reads_on : (asked asked' asked'' : A) (ask : Ask) (request : Request) (old mid new : List ℕ) (result : Result (Unit {0}) Refusal) → mid ≡ old → AsksFirst Answers asked asked' ask (Ok request) → SpeaksPages Answers asked' asked'' ask request mid new result → Speaks Answers asked asked'' ask old new result
  reads_on asked asked' asked'' ask request old mid new result same first then = record {
    told = then.told;
    talks = record {
      exchanges = first.exchanges ++ then.talks.exchanges;
      answered = answered_both first.exchanges then.talks.exchanges asked asked' asked'' first.answered then.talks.answered;
      tells = record { first = first.exchanges; rest = then.talks.exchanges; all = refl; request = Ok request; read = first.read; pages = then.talks.tells };
    };
    shows = subst (λ (t : List ℕ). ShowsText then.told t new result) same then.shows;
  }

  pub reads_none : (asked asked' : A) (ask : Ask) (refusal : Refusal) (old new : List ℕ) → new ≡ old → AsksFirst Answers asked asked' ask (Err refusal) → Speaks Answers asked asked' ask old new (Err refusal)
  reads_none asked asked' ask refusal old new same first = record {
    told = Err refusal;
    talks = record {
      exchanges = first.exchanges;
      answered = first.answered;
      tells = record { first = first.exchanges; rest = []; all = sym (append-nil first.exchanges); request = Err refusal; read = first.read; pages = (refl, refl) };
    };
    shows = (refl, extends_none old new same);
  }

-- ---- what is asked first

module _ {A : Type 0} (Answers : A → A → Request → Reply → Type 0) where
  pub answered_none : (a : A) → AnswersExchanges Answers [] a a
  unfolding AnswersExchanges
  answered_none a = refl

  pub asks_none : (a : A) → AsksInTurn Answers a a
  unfolding AnswersExchanges
  asks_none a = record { exchanges = []; answered = refl }

  pub speaks_asks : (old new : A) (ask : Ask) (text text' : List ℕ) (result : Result (Unit {0}) Refusal) → Speaks Answers old new ask text text' result → AsksInTurn Answers old new
  speaks_asks old new ask text text' result speaks = record { exchanges = speaks.talks.exchanges; answered = speaks.talks.answered }

  pub none_left : (a : A) (ask : Ask) (result : Result (Unit {0}) Refusal) → IfErr result (λ _. MayHaveAsked Answers a a ask)
  none_left a ask (Ok done) = tt
  none_left a ask (Err refusal) = inl refl

  pub speaks_left : (old new : A) (ask : Ask) (text text' : List ℕ) (said result : Result (Unit {0}) Refusal) → Speaks Answers old new ask text text' said → IfErr result (λ _. MayHaveAsked Answers old new ask)
  speaks_left old new ask text text' said (Ok done) speaks = tt
  speaks_left old new ask text text' said (Err refusal) speaks = inr (speaks.told, speaks.talks)

  pub prints_so : (lost : A → ℕ) (old new : A) (ask : Ask) (text text' shown : List ℕ) (said result : Result (Unit {0}) Refusal) (is_known : Bool) → text ≡ [] → is_known ≡ (lost old == lost new) → Speaks Answers old new ask text text' said
      → ((told : Result (List ℕ) Refusal) → ShowsText told [] text' said → OnOk result (shown ≡ shell_text ask is_known told)) → OnOk result (Prints_line Answers lost old new ask shown)
  prints_so lost old new ask text text' shown said (Err refusal) is_known none known speaks shows = tt
  prints_so lost old new ask text text' shown said (Ok done) is_known none known speaks shows = record {
    told = speaks.told;
    talks = speaks.talks;
    is = shows speaks.told (subst (λ (t : List ℕ). ShowsText speaks.told t text' said) none speaks.shows) ∙ ap (λ (b : Bool). shell_text ask b speaks.told) known;
  }

  pub sees_shown : (old new : A) (key other : Key) (reply : Reply) (seen : Result DotSet Refusal) → IsAnswer (Ok other) (Ok key) → Answers old new (Get other) reply → IsAnswer seen (shown_context reply)
      → (exchanges : List Exchange) × AnswersExchanges Answers exchanges old new × Sees key (codes "@") exchanges seen
  unfolding AnswersExchanges
  sees_shown old new key other reply seen same answers is = (record { request = Get other; reply = reply } ∷ [], (new, answers, refl), (refl, ap Get (let e : other ≡ key = cc in e), is))

  pub sees_none : (old : A) (key : Key) → (exchanges : List Exchange) × AnswersExchanges Answers exchanges old old × Sees key (codes "@") exchanges (Err Memory)
  sees_none old key = ([], answered_none old, inl refl)

  pub sees_text : (old : A) (key : Key) (text : List ℕ) (seen : Result DotSet Refusal) → (text ≡ codes "@" → ⊥) → IsReading (λ dots. IsTextOf dots text) BadContext seen → (exchanges : List Exchange) × AnswersExchanges Answers exchanges old old × Sees key text exchanges seen
  sees_text old key text seen other read = ([], answered_none old, inr (other, read))

  pub unread : (old : A) (key context : List ℕ) (make : Key → DotSet → Result Request Refusal) (refusal : Refusal) → IsAnswer {T = Key} (Err refusal) (key_of_text key) → (exchanges : List Exchange) × AnswersExchanges Answers exchanges old old × IsWriteOfLine key context make exchanges (Err refusal)
  unread old key context make refusal read = ([], answered_none old, (Err refusal, read, (refl, refl)))

  pub unseen : (old new : A) (key context : List ℕ) (make : Key → DotSet → Result Request Refusal) (k : Key) (refusal : Refusal) → IsAnswer (Ok k) (key_of_text key)
      → (exchanges : List Exchange) × AnswersExchanges Answers exchanges old new × Sees k context exchanges (Err refusal) → (exchanges : List Exchange) × AnswersExchanges Answers exchanges old new × IsWriteOfLine key context make exchanges (Err refusal)
  unseen old new key context make k refusal read (exchanges, answered, sees) = (exchanges, answered, (Ok k, read, (Err refusal, sees, λ not. refl)))

  pub seen_so : (old new : A) (key context : List ℕ) (make : Key → DotSet → Result Request Refusal) (k : Key) (seen : DotSet) (request : Result Request Refusal) → IsAnswer (Ok k) (key_of_text key) → IsAnswer request (make k seen)
      → (exchanges : List Exchange) × AnswersExchanges Answers exchanges old new × Sees k context exchanges (Ok seen) → (exchanges : List Exchange) × AnswersExchanges Answers exchanges old new × IsWriteOfLine key context make exchanges request
  seen_so old new key context make k seen request read is (exchanges, answered, sees) = (exchanges, answered, (Ok k, read, (Ok seen, sees, is)))

  is_question : (a : Ask) (request : Result Request Refusal) → IsAnswer request (question a) → ((key context document : Bor (List ℕ)) → a ≡ ask.Put key context document → ⊥) → ((key context : Bor (List ℕ)) → a ≡ ask.Delete key context → ⊥) → IsRequestOf a [] request
  is_question (ask.Put key context document) request is not_put not_delete = absurd (not_put key context document refl)
  is_question (ask.Delete key context) request is not_put not_delete = absurd (not_delete key context refl)
  is_question (ask.Get key) request is not_put not_delete = (refl, is)
  is_question (ask.Row view term) request is not_put not_delete = (refl, is)
  is_question (ask.Node path) request is not_put not_delete = (refl, is)
  is_question (ask.Find field term) request is not_put not_delete = (refl, is)
  is_question (ask.Range field terms) request is not_put not_delete = (refl, is)
  is_question (ask.Rows view) request is not_put not_delete = (refl, is)
  is_question (ask.Keys prefix) request is not_put not_delete = (refl, is)
  is_question ask.Conflicts request is not_put not_delete = (refl, is)

  pub asks_question : (old : A) (a : Ask) (request : Result Request Refusal) → IsAnswer request (question a) → ((key context document : Bor (List ℕ)) → a ≡ ask.Put key context document → ⊥) → ((key context : Bor (List ℕ)) → a ≡ ask.Delete key context → ⊥) → AsksFirst Answers old old a request
  asks_question old a request is not_put not_delete = record { exchanges = []; answered = answered_none old; read = is_question a request is not_put not_delete }

  pub asks_put : (old new : A) (a : Ask) (key context document : Bor (List ℕ)) (request : Result Request Refusal) → a ≡ ask.Put key context document
      → (exchanges : List Exchange) × AnswersExchanges Answers exchanges old new × IsWriteOfLine key.now context.now (put_request document.now) exchanges request → AsksFirst Answers old new a request
  asks_put old new a key context document request is (exchanges, answered, write) = record { exchanges = exchanges; answered = answered; read = subst (λ (x : Ask). IsRequestOf x exchanges request) (sym is) write }

  pub asks_delete : (old new : A) (a : Ask) (key context : Bor (List ℕ)) (request : Result Request Refusal) → a ≡ ask.Delete key context
      → (exchanges : List Exchange) × AnswersExchanges Answers exchanges old new × IsWriteOfLine key.now context.now delete_request exchanges request → AsksFirst Answers old new a request
  asks_delete old new a key context request is (exchanges, answered, write) = record { exchanges = exchanges; answered = answered; read = subst (λ (x : Ask). IsRequestOf x exchanges request) (sym is) write }
