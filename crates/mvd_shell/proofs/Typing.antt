-- Lines that were typed, one after the other, and what was told of them.
use Rattle.std.proofs.Common.{◌≡◌, ◌∙◌, ◌==◌, ◌≤◌, ◌+◌, ◌-◌, ◌^◌, ◌⊎◌, ℕ, true, false, List, [], ◌∷◌, ◌++◌, IfErr, IfSome, Option, Some, None, Result, Ok, Err, inl, inr, length, refl, sym, ap, subst, arith, append_assoc}
use Rattle.std.specs.Io.KnownBytes.{Appends, Consumes}
use Rattle.std.specs.List.{concat}
use Rattle.std.specs.Str.{IsUtf8}
use Rattle.std.proofs.lemmas.List.{append-nil, length-append}
use Rattle.std.proofs.lemmas.List.Folds.{concat-append}
use Rattle.mvd_dots.specs.declared.refusals.Refusal.{Refusal}
use Rattle.mvd_dots.specs.declared.refusals.Refusal.TheVariants.{FrameTooLong}
use Rattle.mvd_input.specs.declared.command.Ask.{Ask}
use Rattle.mvd_input.specs.declared.command.Typed.TheVariants.{Ask as Asked, Help}
use Rattle.mvd_input.specs.declared.fault.Fault.{Fault}
use Rattle.mvd_input.specs.declared.fault.Fault.TheVariants.{Line, Stopped}
use Rattle.mvd_input.specs.Hexadecimal.{lines_of}
use Rattle.mvd_input.specs.Lines.{IsTyped, said}
use Rattle.mvd_wire.specs.declared.reply.Reply.{Reply}
use Rattle.mvd_wire.specs.declared.request.Request.{Request}
use Rattle.mvd_shell.specs.ReadLine.{ReadsOneLine}
use Rattle.mvd_shell.specs.Shell.{At, IsUntold, MayTellLine, Shells, ShellTakesLine, TellAllLines, TellsLine, ToldLines, at}
use Rattle.mvd_shell.specs.Talk.{AsksInTurn, MayHaveAsked, shell_text}
use Rattle.mvd_shell.proofs.Pieces.{appends_none, appends_on, consumes_none, consumes_on, lines_fed, lines_one}
use Rattle.mvd_shell.proofs.Talking.{answered_both, asks_none as nothing_asked}

module _ {A : Type 0} (Answers : A → A → Request → Reply → Type 0) where
  -- ---- what was asked

  pub asks_none : (a : A) → AsksInTurn Answers a a
  asks_none a = nothing_asked Answers a

module _ {A : Type 0} (Answers : A → A → Request → Reply → Type 0) (lost : A → ℕ) where
  -- ---- one line

  pub unread : (number : ℕ) (a : A) (input input' out : Option (List ℕ)) (line : List ℕ) (fault : Fault) → ReadsOneLine input input' line (Err fault) → ShellTakesLine Answers lost number (at a input out) (at a input' out) (Err fault)
  unread number a input input' out line fault (read, came, inl is) =
      subst (λ (f : Fault). ShellTakesLine Answers lost number (at a input out) (at a input' out) (Err f)) (sym is) (read, came, (inl refl, refl))
  unread number a input input' out line fault (read, came, inr (inl is)) =
      subst (λ (f : Fault). ShellTakesLine Answers lost number (at a input out) (at a input' out) (Err f)) (sym is) (read, came, (refl, refl))
  unread number a input input' out line fault (read, came, inr (inr (is, long))) =
      subst (λ (f : Fault). ShellTakesLine Answers lost number (at a input out) (at a input' out) (Err f)) (sym is) (read, came, (refl, refl, inl long))

  -- whatever was answered of a line
  pub none_told : (number : ℕ) (line : List ℕ) (a : A) (result : Result (Unit {0}) Fault) → IfErr result (λ _. MayTellLine Answers lost number line a a)
  none_told number line a (Ok done) = tt
  none_told number line a (Err fault) = inl refl

  pub asked_told : (number : ℕ) (line said_of : List ℕ) (ask : Ask) (old new : A) (result : Result (Unit {0}) Fault) → IsUtf8 line → said_of ≡ said line → IsTyped (Asked ask) said_of → MayHaveAsked Answers old new ask
      → IfErr result (λ _. MayTellLine Answers lost number line old new)
  asked_told number line said_of ask old new (Ok done) utf8 same is may = tt
  asked_told number line said_of ask old new (Err fault) utf8 same is (inl none) = inl none
  asked_told number line said_of ask old new (Err fault) utf8 same is (inr (told, talks)) =
      inr (shell_text ask (lost old == lost new) told, inl (utf8, inr (Asked ask, subst (IsTyped (Asked ask)) same is, record { told = told; talks = talks; is = refl })))

  -- ---- lines

  tell_more : (lines : List (List ℕ)) (number : ℕ) (line : List ℕ) (old mid new : A) (texts : List (List ℕ)) (text : List ℕ) → TellAllLines Answers lost number lines old mid texts → length line ≤ 16777216 → TellsLine Answers lost (number + length lines) line mid new text
      → TellAllLines Answers lost number (lines ++ line ∷ []) old new (texts ++ text ∷ [])
  unfolding TellAllLines
  tell_more [] number line old mid new [] text (same, none) short tells =
      (new, short, subst (λ (a : A). TellsLine Answers lost number line a new text) same (subst (λ (n : ℕ). TellsLine Answers lost n line mid new text) (omega arith) tells), (refl, refl))
  tell_more [] number line old mid new (first ∷ texts) text (same, none) short tells = absurd cc
  tell_more (first ∷ lines) number line old mid new [] text told short tells = absurd told
  tell_more (first ∷ lines) number line old mid new (printed ∷ texts) text (between, fits, one, others) short tells =
      let counted : number + length (first ∷ lines) ≡ (number + 1) + length lines = omega arith in
      (between, fits, one, tell_more lines (number + 1) line between mid new texts text others short (subst (λ (n : ℕ). TellsLine Answers lost n line mid new text) counted tells))

  told_more : (lines : List (List ℕ)) (line : List ℕ) (old mid new : At A) (text : List ℕ) → ToldLines Answers lost lines old mid → length line ≤ 16777216 → TellsLine Answers lost (length lines + 1) line mid.asked new.asked text → Appends mid.out new.out text
      → ToldLines Answers lost (lines ++ line ∷ []) old new
  told_more lines line old mid new text told short tells appends = record {
    texts = told.texts ++ text ∷ [];
    told = tell_more lines 1 line old.asked mid.asked new.asked told.texts text told.told short (subst (λ (n : ℕ). TellsLine Answers lost n line mid.asked new.asked text) (omega arith) tells);
    written = subst (Appends old.out new.out) (sym (concat-append told.texts (text ∷ []) ∙ ap (λ (t : List ℕ). concat told.texts ++ t) (append-nil text))) (appends_on old.out mid.out new.out (concat told.texts) text told.written appends);
  }

  -- The lines before the one of a number were told, and all that was read is their text
  pub record Far (old new : At A) (number : ℕ) : Type 0 where
    pub before : List (List ℕ)
    pub counted : number ≡ length before + 1
    pub text : List ℕ
    pub read : Consumes old.input new.input text
    pub lines : (more : List ℕ) → lines_of (text ++ more) ≡ before ++ lines_of more
    pub told : ToldLines Answers lost before old new

  pub begins : (start : At A) → Far start start 1
  unfolding TellAllLines
  begins start = record {
    before = [];
    counted = refl;
    text = [];
    read = consumes_none start.input;
    lines = λ more. refl;
    told = record { texts = []; told = (refl, refl); written = appends_none start.out };
  }

  at_number : (m n : ℕ) (line : List ℕ) (old new : A) (text : List ℕ) → m ≡ n → TellsLine Answers lost m line old new text → TellsLine Answers lost n line old new text
  at_number m n line old new text same tells = subst (λ (k : ℕ). TellsLine Answers lost k line old new text) same tells

  pub goes_on : (old mid new : At A) (number : ℕ) → Far old mid number → ShellTakesLine Answers lost number mid new (Ok true) → Far old new (number + 1)
  goes_on old mid new number far (line, text, (one, short, read), tells, appends) = record {
    before = far.before ++ line ∷ [];
    counted = omega (arith, far.counted, length-append far.before (line ∷ []));
    text = far.text ++ (line ++ 10 ∷ []);
    read = consumes_on old.input mid.input new.input far.text (line ++ 10 ∷ []) far.read read;
    lines = λ more. ap lines_of (append_assoc far.text (line ++ 10 ∷ []) more ∙ ap (λ (t : List ℕ). far.text ++ t) (append_assoc line (10 ∷ []) more)) ∙ far.lines (line ++ 10 ∷ more)
        ∙ ap (λ (ls : List (List ℕ)). far.before ++ ls) (lines_fed line more one) ∙ sym (append_assoc far.before (line ∷ []) (lines_of more));
    told = told_more far.before line old mid new text far.told short (at_number number (length far.before + 1) line mid.asked new.asked text far.counted tells) appends;
  }

  all_of : (input now : Option (List ℕ)) (text line : List ℕ) → Consumes input now text → IfSome now (λ all. all ≡ line) → IfSome input (λ all. all ≡ text ++ line)
  all_of None now text line read is = tt
  all_of (Some x) None text line read is = absurd read
  all_of (Some x) (Some y) text line read is = read ∙ ap (λ (t : List ℕ). text ++ t) is

  pub ends : (old mid new : At A) (number : ℕ) (done : Unit {0}) → Far old mid number → ShellTakesLine Answers lost number mid new (Ok false) → Shells Answers lost old new (Ok done)
  ends old mid new number done far (line, text, (one, short, read, all), tells, appends) = record {
    text = far.text ++ line;
    read = consumes_on old.input mid.input new.input far.text line far.read read;
    all = all_of old.input mid.input far.text line far.read all;
    lines = subst (λ (ls : List (List ℕ)). ToldLines Answers lost ls old new) (sym (far.lines line ∙ ap (λ (ls : List (List ℕ)). far.before ++ ls) (lines_one line one)))
        (told_more far.before line old mid new text far.told short (at_number number (length far.before + 1) line mid.asked new.asked text far.counted tells) appends);
  }

  breaks : (refusal : Refusal) (old mid new : At A) (number : ℕ) (far : Far old mid number) (line more : List ℕ) (after : List (List ℕ)) → (after ≡ []) ⊎ (after ≡ [] ∷ []) → Consumes mid.input new.input more → lines_of more ≡ line ∷ after
      → IsUntold Answers lost refusal number line mid new → Shells Answers lost old new (Err (Stopped refusal))
  breaks refusal old mid new number far line more after last read is untold = record {
    text = far.text ++ more;
    read = consumes_on old.input mid.input new.input far.text more far.read read;
    all = tt;
    lines = record {
      before = far.before;
      line = line;
      after = after;
      last = last;
      parts = far.lines more ∙ ap (λ (ls : List (List ℕ)). far.before ++ ls) is;
      between = mid;
      told = far.told;
      untold = subst (λ (n : ℕ). IsUntold Answers lost refusal n line mid new) far.counted untold;
    };
  }

  none_of : lines_of [] ≡ [] ∷ []
  unfolding lines_of
  none_of = refl

  pub fails : (old mid new : At A) (number : ℕ) (fault : Fault) → Far old mid number → ShellTakesLine Answers lost number mid new (Err fault) → Shells Answers lost old new (Err fault)
  fails old mid new number (Line place) far never = absurd never
  fails old mid new number (Stopped refusal) far (line, (one, inl read), untold) =
      breaks refusal old mid new number far line line [] (inl refl) read (lines_one line one) untold
  fails old mid new number (Stopped refusal) far (line, (one, inr read), untold) =
      breaks refusal old mid new number far line (line ++ 10 ∷ []) (lines_of []) (inr none_of) read (lines_fed line [] one) untold

  -- there are more lines than can be counted
  pub counted_out : (old new : At A) (number : ℕ) → Far old new number → number ≡ 2 ^ 64 - 1 → Shells Answers lost old new (Err (Stopped FrameTooLong))
  unfolding lines_of
  counted_out old new number far last =
      breaks FrameTooLong old new new number far [] [] [] (inl refl) (consumes_none new.input) refl (refl, refl, inr last)

  -- ---- all that was asked

  asks_both : (old mid new : A) → AsksInTurn Answers old mid → AsksInTurn Answers mid new → AsksInTurn Answers old new
  asks_both old mid new first then = record {
    exchanges = first.exchanges ++ then.exchanges;
    answered = answered_both Answers first.exchanges then.exchanges old mid new first.answered then.answered;
  }

  asks_same : (old new : A) → new ≡ old → AsksInTurn Answers old new
  asks_same old new same = subst (λ (a : A). AsksInTurn Answers old a) (sym same) (asks_none Answers old)

  line_asks : (number : ℕ) (line : List ℕ) (old new : A) (text : List ℕ) → TellsLine Answers lost number line old new text → AsksInTurn Answers old new
  line_asks number line old new text (inl (utf8, inl (nothing, same, none))) = asks_same old new same
  line_asks number line old new text (inl (utf8, inr (Help, is, (same, help)))) = asks_same old new same
  line_asks number line old new text (inl (utf8, inr (Asked ask, is, prints))) = record { exchanges = prints.talks.exchanges; answered = prints.talks.answered }
  line_asks number line old new text (inr (none, same, told)) = asks_same old new same

  all_ask : (lines : List (List ℕ)) (number : ℕ) (old new : A) (texts : List (List ℕ)) → TellAllLines Answers lost number lines old new texts → AsksInTurn Answers old new
  unfolding TellAllLines
  all_ask [] number old new texts (same, none) = asks_same old new same
  all_ask (line ∷ lines) number old new [] told = absurd told
  all_ask (line ∷ lines) number old new (text ∷ texts) (between, short, one, others) = asks_both old between new (line_asks number line old between text one) (all_ask lines (number + 1) between new texts others)

  -- whatever became of the next line
  pub far_asks : (old mid : At A) (new : A) (number : ℕ) → Far old mid number → AsksInTurn Answers mid.asked new → AsksInTurn Answers old.asked new
  far_asks old mid new number far asks = asks_both old.asked mid.asked new (all_ask far.before 1 old.asked mid.asked far.told.texts far.told.told) asks
