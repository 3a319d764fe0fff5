-- What the lines of a shell ask is one list of requests, of which none pushes a state.
use Rattle.std.proofs.Common.{◌≡◌, ◌∙◌, ◌+◌, ◌≤◌, ℕ, List, [], ◌∷◌, ◌++◌, Option, Some, None, Result, Ok, Err, ap, append_assoc, inl, inr, length, refl, subst, sym, true}
use Rattle.std.proofs.lemmas.List.{append-nil}
use Rattle.std.specs.Prelude.{IfOk, IfSome, option_map}
use Rattle.std.specs.List.{AllByRecursion}
use Rattle.std.specs.Borrow.{Bor}
use Rattle.mvd_app.specs.Noted.{Noted, Noting, lost_noted, with_noted}
use Rattle.mvd_app.specs.Tasks.{turns_asked}
use Rattle.mvd_docs.specs.Document.{document_of}
use Rattle.mvd_docs.specs.Name.{field_of, view_name_of}
use Rattle.mvd_docs.specs.Term.{pair_of_json, term_of_json}
use Rattle.mvd_docs.specs.declared.term.Term.{Term}
use Rattle.mvd_dots.specs.Answer.{IsAnswer}
use Rattle.mvd_dots.specs.Context.{DotSet}
use Rattle.mvd_dots.specs.Dot.{DotValue}
use Rattle.mvd_dots.specs.declared.refusals.Refusal.{Refusal}
use Rattle.mvd_dots.specs.declared.refusals.Refusal.TheVariants.{FrameTooLong, Memory, ReadFailed, WriteFailed}
use Rattle.mvd_input.specs.declared.command.Ask.{Ask}
use Rattle.mvd_input.specs.declared.command.Ask.TheVariants as ask
use Rattle.mvd_input.specs.declared.command.Typed.{Typed}
use Rattle.mvd_input.specs.declared.command.Typed.TheVariants as typed
use Rattle.mvd_input.specs.declared.fault.Fault.{Fault}
use Rattle.mvd_input.specs.declared.fault.Fault.TheVariants as of_fault
use Rattle.mvd_input.specs.Hexadecimal.{lines_of}
use Rattle.mvd_keys.specs.Key.{key_of_text}
use Rattle.mvd_keys.specs.Writes.{Key}
use Rattle.mvd_keys.specs.declared.places.Place.{Place}
use Rattle.mvd_runs.specs.Files.{IsValidTurn}
use Rattle.mvd_shell.proofs.Talking.{answered_both}
use Rattle.mvd_shell.specs.Asked.{Exchange, IsMadeWrite, IsRequestOf, IsRequestOfLine, Sees, behind, delete_request, find_asked, find_behind, keys_request, next_asked, next_counts, next_places, next_rows, path_in, prefix_text, put_request, question, range_asked, row_request, rows_request, then_read, last_of}
use Rattle.mvd_shell.specs.Shell.{At, IsUntold, MayTellLine, Shells, TellAllLines, TellsLine, TellsLines, TellsTyped, at}
use Rattle.mvd_shell.specs.Talk.{AnswersExchanges, TellsAllPages, TellsAsk, TellsRead}
use Rattle.mvd_site.specs.Known.{IsValidRequest}
use Rattle.mvd_wire.specs.Prefix.{prefix_of_text}
use Rattle.mvd_wire.specs.declared.reply.Reply.{Reply}
use Rattle.mvd_wire.specs.declared.reply.Reply.TheVariants as reply
use Rattle.mvd_wire.specs.declared.request.Request.{Request}
use Rattle.mvd_wire.specs.declared.request.Request.TheVariants.{Get, Put, Find, Row, Rows, Node, Range, Keys, Conflicts}

-- ---- a request

abbrev IsFine : Result Request Refusal → Type 0
IsFine request = IfOk request IsValidRequest

abbrev IsNextFine : Result (Option Request) Refusal → Type 0
IsNextFine next = IfOk next (λ o. IfSome o IsValidRequest)

abbrev AreFine : List Exchange → Type 0
AreFine exchanges = AllByRecursion IsValidTurn (turns_asked exchanges)

the_request : (request other : Request) → ◌≡◌ {A = Result Request Refusal} (Ok request) (Ok other) → other ≡ request
the_request request other e = cc

fine_turn : (exchange : Exchange) → IsValidRequest exchange.request → IsValidTurn (record { asked = Ok exchange.request; reply = exchange.reply })
fine_turn exchange valid = λ other is. subst IsValidRequest (sym (the_request exchange.request other is)) valid

fine_none : (exchanges : List Exchange) → exchanges ≡ [] → AreFine exchanges
fine_none exchanges none = subst AreFine (sym none) tt

fine_both : (first rest : List Exchange) → AreFine first → AreFine rest → AreFine (first ++ rest)
fine_both [] rest fine others = others
fine_both (exchange ∷ first) rest (one, fine) others = (one, fine_both first rest fine others)

read_fine : {X : Type 0} (r : Result X Refusal) (f : X → Result Request Refusal) → ((x : X) → IsFine (f x)) → IsFine (then_read r f)
read_fine (Ok x) f fine = fine x
read_fine (Err e) f fine = tt

answer_fine : (r answer : Result Request Refusal) → IsAnswer r answer → IsFine answer → IsFine r
answer_fine (Ok x) answer is fine = subst IsFine is fine
answer_fine (Err e) answer is fine = tt

find_fine : (field term : List ℕ) (after : Option (Key × DotValue)) → IsFine (find_asked field term after)
find_fine field term after = read_fine (field_of field) (λ f. then_read (term_of_json term) (λ t. Ok (Find f t after))) (λ f. read_fine (term_of_json term) (λ t. Ok (Find f t after)) (λ t. tt))

range_fine : (field terms : List ℕ) (after : Option Place) → IsFine (range_asked field terms after)
range_fine field terms after =
    read_fine (field_of field) (λ f. then_read (pair_of_json terms) (λ t. Ok (Range f t.0 t.1 after))) (λ f. read_fine (pair_of_json terms) (λ t. Ok (Range f t.0 t.1 after)) (λ t. tt))

row_fine : (view term : List ℕ) → IsFine (row_request view term)
row_fine view term = read_fine (view_name_of view) (λ v. then_read (term_of_json term) (λ t. Ok (Row v t))) (λ v. read_fine (term_of_json term) (λ t. Ok (Row v t)) (λ t. tt))

rows_fine : (view : List ℕ) (after : Option Term) → IsFine (rows_request view after)
rows_fine view after = read_fine (view_name_of view) (λ v. Ok (Rows v after)) (λ v. tt)

keys_fine : (prefix : Option (Bor (List ℕ))) (after : Option Key) → IsFine (keys_request prefix after)
keys_fine prefix after = read_fine (prefix_of_text (prefix_text prefix)) (λ p. Ok (Keys p after)) (λ p. tt)

question_fine : (a : Ask) → IsFine (question a)
question_fine (ask.Put key context document) = tt
question_fine (ask.Delete key context) = tt
question_fine (ask.Get key) = read_fine (key_of_text key.now) (λ k. Ok (Get k)) (λ k. tt)
question_fine (ask.Row view term) = row_fine view.now term.now
question_fine (ask.Node path) = read_fine (path_in path.now) (λ p. Ok (Node p)) (λ p. tt)
question_fine (ask.Find field term) = find_fine field.now term.now None
question_fine (ask.Range field terms) = range_fine field.now terms.now None
question_fine (ask.Rows view) = rows_fine view.now None
question_fine (ask.Keys prefix) = keys_fine prefix None
question_fine ask.Conflicts = tt

-- ---- pages

some_fine : (r : Result Request Refusal) → IsFine r → IsNextFine (then_read r (λ request. Ok (Some request)))
some_fine (Ok x) fine = fine
some_fine (Err e) fine = tt

behind_fine : {X : Type 0} (last : Option X) (asked : X → Result Request Refusal) → ((x : X) → IsFine (asked x)) → IsNextFine (behind last asked)
behind_fine None asked fine = tt
behind_fine (Some entry) asked fine = some_fine (asked entry) (fine entry)

places_fine : (a : Ask) (last : Option Place) → IsNextFine (next_places a last)
places_fine (ask.Find field term) last = behind_fine last (find_behind field.now term.now) (λ place. find_fine field.now term.now (Some (place.key, place.dot)))
places_fine (ask.Range field terms) last = behind_fine last (λ place. range_asked field.now terms.now (Some place)) (λ place. range_fine field.now terms.now (Some place))
places_fine a last = tt

next_rows_fine : (a : Ask) (last : Option Term) → IsNextFine (next_rows a last)
next_rows_fine (ask.Rows view) last = behind_fine last (λ term. rows_request view.now (Some term)) (λ term. rows_fine view.now (Some term))
next_rows_fine a last = tt

counts_fine : (a : Ask) (last : Option Key) → IsNextFine (next_counts a last)
counts_fine (ask.Keys prefix) last = behind_fine last (λ key. keys_request prefix (Some key)) (λ key. keys_fine prefix (Some key))
counts_fine ask.Conflicts last = behind_fine last (λ key. Ok (Conflicts (Some key))) (λ key. tt)
counts_fine a last = tt

next_fine : (a : Ask) (told : Reply) → IsNextFine (next_asked a told)
next_fine a (reply.Places places true) = places_fine a (last_of places)
next_fine a (reply.Rows rows true) = next_rows_fine a (option_map (λ row. row.0) (last_of rows))
next_fine a (reply.Counts counts true) = counts_fine a (option_map (λ entry. entry.0) (last_of counts))
next_fine a told = tt

following_fine : (next answer : Result (Option Request) Refusal) (following : Request) → next ≡ Ok (Some following) → IsAnswer next answer → IsNextFine answer → IsValidRequest following
following_fine (Ok o) answer following is told fine = subst IsNextFine (told ∙ is) fine
following_fine (Err e) answer following is told fine = absurd cc

pages_fine : (a : Ask) (request : Request) (exchanges : List Exchange) (told : Result (List ℕ) Refusal) → IsValidRequest request → TellsAllPages a request exchanges told → AreFine exchanges
unfolding TellsAllPages
pages_fine a request [] told valid tells = tt
pages_fine a request (exchange ∷ exchanges) told valid (is, page, next, answer, asked, inl (none, end)) = (fine_turn exchange (subst IsValidRequest (sym is) valid), fine_none exchanges none)
pages_fine a request (exchange ∷ exchanges) told valid (is, page, next, answer, asked, inr (text, following, more, shown, goes_on, tells, all)) = (
  fine_turn exchange (subst IsValidRequest (sym is) valid),
  pages_fine a following exchanges more (following_fine next (next_asked a exchange.reply) following goes_on asked.0 (next_fine a exchange.reply)) tells,
)

-- ---- what a line asks

sees_fine : (key : Key) (text : List ℕ) (exchanges : List Exchange) (seen : Result DotSet Refusal) → Sees key text exchanges seen → AreFine exchanges
sees_fine key text [] seen sees = tt
sees_fine key text (exchange ∷ []) seen (at_sign, is, told) = (fine_turn exchange (subst IsValidRequest (sym is) tt), tt)
sees_fine key text (exchange ∷ other ∷ exchanges) seen sees = absurd sees

made_fine : (read : Result Key Refusal) (context : List ℕ) (make : Key → DotSet → Result Request Refusal) (exchanges : List Exchange) (request : Result Request Refusal) →
    ((key : Key) (seen : DotSet) → IsFine (make key seen)) → IsMadeWrite read context make exchanges request → AreFine exchanges × IsFine request
made_fine (Err refusal) context make exchanges request fine (none, is) = (fine_none exchanges none, subst IsFine (sym is) tt)
made_fine (Ok key) context make exchanges request fine (seen, sees, told) =
    (sees_fine key context exchanges seen sees, answer_fine request (then_read seen (make key)) told (read_fine seen (make key) (fine key)))

line_fine : (a : Ask) (exchanges : List Exchange) (request : Result Request Refusal) → IsRequestOfLine a exchanges request → AreFine exchanges × IsFine request
line_fine a exchanges request (none, told) = (fine_none exchanges none, answer_fine request (question a) told (question_fine a))

first_fine : (a : Ask) (exchanges : List Exchange) (request : Result Request Refusal) → IsRequestOf a exchanges request → AreFine exchanges × IsFine request
first_fine (ask.Put key context document) exchanges request (read, told, made) = made_fine read context.now (put_request document.now) exchanges request
    (λ k seen. read_fine (document_of document.now) (λ d. Ok (Put k seen d)) (λ d. tt)) made
first_fine (ask.Delete key context) exchanges request (read, told, made) = made_fine read context.now delete_request exchanges request (λ k seen. tt) made
first_fine (ask.Get key) exchanges request is = line_fine (ask.Get key) exchanges request is
first_fine (ask.Row view term) exchanges request is = line_fine (ask.Row view term) exchanges request is
first_fine (ask.Node path) exchanges request is = line_fine (ask.Node path) exchanges request is
first_fine (ask.Find field term) exchanges request is = line_fine (ask.Find field term) exchanges request is
first_fine (ask.Range field terms) exchanges request is = line_fine (ask.Range field terms) exchanges request is
first_fine (ask.Rows view) exchanges request is = line_fine (ask.Rows view) exchanges request is
first_fine (ask.Keys prefix) exchanges request is = line_fine (ask.Keys prefix) exchanges request is
first_fine ask.Conflicts exchanges request is = line_fine ask.Conflicts exchanges request is

rest_fine : (a : Ask) (request : Result Request Refusal) (rest : List Exchange) (told : Result (List ℕ) Refusal) → IsFine request → TellsRead a request rest told → AreFine rest
rest_fine a (Err refusal) rest told fine (none, is) = fine_none rest none
rest_fine a (Ok request) rest told fine tells = pages_fine a request rest told fine tells

ask_fine : (a : Ask) (exchanges : List Exchange) (told : Result (List ℕ) Refusal) → TellsAsk a exchanges told → AreFine exchanges
ask_fine a exchanges told it =
    let (first, request) = first_fine a it.first it.request it.read in
    subst AreFine (sym it.all) (fine_both it.first it.rest first (rest_fine a it.request it.rest told request it.pages))

-- ---- what was asked, noted

module _ {A : Type 0} (Answers : A → A → Request → Reply → Type 0) where
  -- the same requests, each noted behind those before
  answers_noted : (exchanges : List Exchange) (old new : A) (log : List Exchange) → AnswersExchanges Answers exchanges old new →
      AnswersExchanges (Noting Answers) exchanges (with_noted old log) (with_noted new (log ++ exchanges))
  unfolding AnswersExchanges
  answers_noted [] old new log same = rw (append-nil log) (ap (λ (a : A). with_noted a log) same)
  answers_noted (exchange ∷ exchanges) old new log (between, one, others) =
      let log' = log ++ exchange ∷ [] in (
        with_noted between log',
        record { answers = one; notes = refl },
        subst (λ (l : List Exchange). AnswersExchanges (Noting Answers) exchanges (with_noted between log') (with_noted new l))
            (append_assoc log (exchange ∷ []) exchanges) (answers_noted exchanges between new log' others),
      )

  -- all that was asked, and that what is true of it is true with that noted behind whatever was noted before
  pub record Asks (P : Noted A → Noted A → Type 0) (old new : A) : Type 0 where
    pub exchanges : List Exchange
    pub answered : AnswersExchanges Answers exchanges old new
    pub fine : AreFine exchanges
    pub noting : (log : List Exchange) → P (with_noted old log) (with_noted new (log ++ exchanges))

  -- nothing was asked
  asks_none : (P : Noted A → Noted A → Type 0) (old new : A) → new ≡ old → ((log : List Exchange) → with_noted new log ≡ with_noted old log → P (with_noted old log) (with_noted new log)) → Asks P old new
  unfolding AnswersExchanges
  asks_none P old new same then = record {
    exchanges = [];
    answered = same;
    fine = tt;
    noting = λ log. subst (λ (l : List Exchange). P (with_noted old log) (with_noted new l)) (sym (append-nil log)) (then log (ap (λ (a : A). with_noted a log) same));
  }

  -- one thing, and then another
  asks_both : (P Q R : Noted A → Noted A → Type 0) (old mid new : A) → ((a b c : Noted A) → P a b → Q b c → R a c) → Asks P old mid → Asks Q mid new → Asks R old new
  asks_both P Q R old mid new both one other = record {
    exchanges = one.exchanges ++ other.exchanges;
    answered = answered_both Answers one.exchanges other.exchanges old mid new one.answered other.answered;
    fine = fine_both one.exchanges other.exchanges one.fine other.fine;
    noting = λ log. subst (λ (l : List Exchange). R (with_noted old log) (with_noted new l)) (append_assoc log one.exchanges other.exchanges)
        (both (with_noted old log) (with_noted mid (log ++ one.exchanges)) (with_noted new (log ++ one.exchanges ++ other.exchanges)) (one.noting log) (other.noting (log ++ one.exchanges)));
  }

  asks_as : (P Q : Noted A → Noted A → Type 0) (old new : A) → ((a b : Noted A) → P a b → Q a b) → Asks P old new → Asks Q old new
  asks_as P Q old new wider it = record { exchanges = it.exchanges; answered = it.answered; fine = it.fine; noting = λ log. wider (with_noted old log) (with_noted new (log ++ it.exchanges)) (it.noting log) }

-- ---- lines

module _ {A : Type 0} (Answers : A → A → Request → Reply → Type 0) (lost : A → ℕ) where
  typed_asks : (typed : Typed) (old new : A) (text : List ℕ) → TellsTyped Answers lost typed old new text →
      Asks Answers (λ a b. TellsTyped (Noting Answers) (lost_noted lost) typed a b text) old new
  typed_asks typed.Help old new text (same, is) = asks_none Answers (λ a b. TellsTyped (Noting Answers) (lost_noted lost) typed.Help a b text) old new same (λ log alike. (alike, is))
  typed_asks (typed.Ask a) old new text it = record {
    exchanges = it.talks.exchanges;
    answered = it.talks.answered;
    fine = ask_fine a it.talks.exchanges it.told it.talks.tells;
    noting = λ log. record {
      told = it.told;
      talks = record { exchanges = it.talks.exchanges; answered = answers_noted Answers it.talks.exchanges old new log it.talks.answered; tells = it.talks.tells };
      is = it.is;
    };
  }

  abbrev TellsNoted : ℕ → List ℕ → List ℕ → Noted A → Noted A → Type 0
  TellsNoted number line text a b = TellsLine (Noting Answers) (lost_noted lost) number line a b text

  line_asks : (number : ℕ) (line : List ℕ) (old new : A) (text : List ℕ) → TellsLine Answers lost number line old new text → Asks Answers (TellsNoted number line text) old new
  line_asks number line old new text (inl (utf8, inl (nothing, same, none))) =
      asks_none Answers (TellsNoted number line text) old new same (λ log alike. inl (utf8, inl (nothing, alike, none)))
  line_asks number line old new text (inl (utf8, inr (asked, is, tells))) =
      asks_as Answers (λ a b. TellsTyped (Noting Answers) (lost_noted lost) asked a b text) (TellsNoted number line text) old new (λ a b it. inl (utf8, inr (asked, is, it))) (typed_asks asked old new text tells)
  line_asks number line old new text (inr (no_command, same, is)) =
      asks_none Answers (TellsNoted number line text) old new same (λ log alike. inr (no_command, alike, is))

  abbrev AllNoted : ℕ → List (List ℕ) → List (List ℕ) → Noted A → Noted A → Type 0
  AllNoted number lines texts a b = TellAllLines (Noting Answers) (lost_noted lost) number lines a b texts

  first_noted : (number : ℕ) (line : List ℕ) (lines : List (List ℕ)) (text : List ℕ) (texts : List (List ℕ)) → length line ≤ 16777216 → (a b c : Noted A) →
      TellsNoted number line text a b → AllNoted (number + 1) lines texts b c → AllNoted number (line ∷ lines) (text ∷ texts) a c
  unfolding TellAllLines
  first_noted number line lines text texts fits a b c one others = (b, fits, one, others)

  lines_ask : (number : ℕ) (lines : List (List ℕ)) (old new : A) (texts : List (List ℕ)) → TellAllLines Answers lost number lines old new texts → Asks Answers (AllNoted number lines texts) old new
  unfolding TellAllLines
  lines_ask number [] old new texts (same, none) = asks_none Answers (AllNoted number [] texts) old new same (λ log alike. (alike, none))
  lines_ask number (line ∷ lines) old new [] tell = absurd tell
  lines_ask number (line ∷ lines) old new (text ∷ texts) (between, fits, one, others) =
      asks_both Answers (TellsNoted number line text) (AllNoted (number + 1) lines texts) (AllNoted number (line ∷ lines) (text ∷ texts)) old between new
      (first_noted number line lines text texts fits) (line_asks number line old between text one) (lines_ask (number + 1) lines between new texts others)

  abbrev MayNoted : ℕ → List ℕ → Noted A → Noted A → Type 0
  MayNoted number line a b = MayTellLine (Noting Answers) (lost_noted lost) number line a b

  may_ask : (number : ℕ) (line : List ℕ) (old new : A) → MayTellLine Answers lost number line old new → Asks Answers (MayNoted number line) old new
  may_ask number line old new (inl same) = asks_none Answers (MayNoted number line) old new same (λ log alike. inl alike)
  may_ask number line old new (inr (text, tells)) = asks_as Answers (TellsNoted number line text) (MayNoted number line) old new (λ a b it. inr (text, it)) (line_asks number line old new text tells)

  -- with what was to be read and was written before and after it
  abbrev UntoldNoted : Refusal → ℕ → List ℕ → At A → At A → Noted A → Noted A → Type 0
  UntoldNoted refusal number line old new a b = IsUntold (Noting Answers) (lost_noted lost) refusal number line (at a old.input old.out) (at b new.input new.out)

  untold_asks : (refusal : Refusal) (number : ℕ) (line : List ℕ) (old new : At A) → IsUntold Answers lost refusal number line old new →
      Asks Answers (UntoldNoted refusal number line old new) old.asked new.asked
  untold_asks Memory number line old new (may, same) =
      asks_as Answers (MayNoted number line) (UntoldNoted Memory number line old new) old.asked new.asked (λ a b it. (it, same)) (may_ask number line old.asked new.asked may)
  untold_asks ReadFailed number line old new (same, out) = asks_none Answers (UntoldNoted ReadFailed number line old new) old.asked new.asked same (λ log alike. (alike, out))
  untold_asks FrameTooLong number line old new (same, out, long) = asks_none Answers (UntoldNoted FrameTooLong number line old new) old.asked new.asked same (λ log alike. (alike, out, long))
  untold_asks WriteFailed number line old new (text, tells, front) =
      asks_as Answers (TellsNoted number line text) (UntoldNoted WriteFailed number line old new) old.asked new.asked (λ a b it. (text, it, front)) (line_asks number line old.asked new.asked text tells)
  untold_asks refusal number line old new it = absurd it

  abbrev LinesNoted : List (List ℕ) → At A → At A → Result (Unit {0}) Fault → Noted A → Noted A → Type 0
  LinesNoted lines old new result a b = TellsLines (Noting Answers) (lost_noted lost) lines (at a old.input old.out) (at b new.input new.out) result

  all_ask : (lines : List (List ℕ)) (old new : At A) (result : Result (Unit {0}) Fault) → TellsLines Answers lost lines old new result → Asks Answers (LinesNoted lines old new result) old.asked new.asked
  all_ask lines old new (Ok done) it =
      asks_as Answers (AllNoted 1 lines it.texts) (LinesNoted lines old new (Ok done)) old.asked new.asked (λ a b told. record { texts = it.texts; told = told; written = it.written })
      (lines_ask 1 lines old.asked new.asked it.texts it.told)
  all_ask lines old new (Err (of_fault.Line number)) it = absurd it
  all_ask lines old new (Err (of_fault.Stopped refusal)) it =
      asks_both Answers (AllNoted 1 it.before it.told.texts) (UntoldNoted refusal (length it.before + 1) it.line it.between new) (LinesNoted lines old new (Err (of_fault.Stopped refusal)))
      old.asked it.between.asked new.asked (λ a b c told untold. record {
        before = it.before;
        line = it.line;
        after = it.after;
        parts = it.parts;
        last = it.last;
        between = at b it.between.input it.between.out;
        told = record { texts = it.told.texts; told = told; written = it.told.written };
        untold = untold;
      }) (lines_ask 1 it.before old.asked it.between.asked it.told.texts it.told.told) (untold_asks refusal (length it.before + 1) it.line it.between new it.untold)

  pub shells_ask : (old new : At A) (result : Result (Unit {0}) Fault) → Shells Answers lost old new result →
      Asks Answers (λ a b. Shells (Noting Answers) (lost_noted lost) (at a old.input old.out) (at b new.input new.out) result) old.asked new.asked
  shells_ask old new result it =
      asks_as Answers (LinesNoted (lines_of it.text) old new result) (λ a b. Shells (Noting Answers) (lost_noted lost) (at a old.input old.out) (at b new.input new.out) result) old.asked new.asked
      (λ a b lines. record { text = it.text; read = it.read; all = it.all; lines = lines }) (all_ask (lines_of it.text) old new result it.lines)
