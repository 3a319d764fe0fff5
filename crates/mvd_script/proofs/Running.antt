-- The lines of a script, run one after the other, and what of their texts was written.
use Rattle.std.proofs.Common.{◌≡◌, ◌<◌, ◌+◌, ◌∙◌, ℕ, List, [], ◌∷◌, ◌++◌, Bor, IfErr, IfSome, OnOk, Option, Some, None, Result, Ok, Err, refl, sym, ap, subst, inl, inr, length, append_assoc}
use Rattle.std.specs.Io.KnownBytes.{Appends}
use Rattle.std.specs.List.{concat}
use Rattle.std.specs.Option.{option_copied}
use Rattle.std.proofs.lemmas.List.{append-nil}
use Rattle.std.proofs.lemmas.List.Folds.{concat-append}
use Rattle.mvd_dots.specs.declared.refusals.Refusal.TheVariants.{WriteFailed}
use Rattle.mvd_input.specs.declared.fault.Fault.{Fault}
use Rattle.mvd_input.specs.declared.fault.Fault.TheVariants as of_fault
use Rattle.mvd_input.specs.Hexadecimal.{lines_after, lines_of}
use Rattle.mvd_input.proofs.Lines.{Taking, takes_all, takes_next, takes_none, takes_on}
use Rattle.mvd_shell.proofs.Pieces.{appends_none, appends_on}
use Rattle.mvd_script.specs.declared.script.Script.{Script}
use Rattle.mvd_script.specs.Script.{Blank, Ran, ReadAll, ReadsLine, RunsScript, Stage}
use Rattle.mvd_script.specs.Staged.{AddsLine, IsStage}

-- ---- lines that are read

read_more : (lines : List (List ℕ)) (line : List ℕ) (old mid new : Stage) (texts : List (List ℕ)) (text : List ℕ) → ReadAll lines old mid texts → ReadsLine line mid new text → ReadAll (lines ++ line ∷ []) old new (texts ++ text ∷ [])
unfolding ReadAll
read_more [] line old mid new [] text (same, none) reads = (new, subst (λ (s : Stage). ReadsLine line s new text) same reads, (refl, refl))
read_more [] line old mid new (first ∷ texts) text (same, none) reads = absurd cc
read_more (first ∷ lines) line old mid new [] text read reads = absurd read
read_more (first ∷ lines) line old mid new (printed ∷ texts) text (between, one, others) reads = (between, one, read_more lines line between mid new texts text others reads)

-- Lines were run so far: what they print was written, or waits to be
pub record Far (script : Script) (start now : Option (List ℕ)) (out : List ℕ) (before : List (List ℕ)) : Type 0 where
  pub stage : Stage
  pub texts : List (List ℕ)
  pub read : ReadAll before Blank stage texts
  pub stands : IsStage script stage
  pub sent : List ℕ
  pub written : Appends start now sent
  pub all : concat texts ≡ sent ++ out

-- of a text, so many lines were run
abbrev pub Running : List ℕ → Option (List ℕ) → ℕ → Script → Option (List ℕ) → Option (List ℕ) → List ℕ → Type 0
Running text rest number script start now out = Taking text rest number (Far script start now out)

pub begins : (text : List ℕ) (script : Script) (start : Option (List ℕ)) → IsStage script Blank → Running text (Some text) 0 script start start []
unfolding ReadAll
begins text script start blank = takes_none text (Far script start start []) (record {
  stage = Blank;
  texts = [];
  read = (refl, refl);
  stands = blank;
  sent = [];
  written = appends_none start;
  all = refl;
})

more_text : (texts : List (List ℕ)) (text sent out out' : List ℕ) → concat texts ≡ sent ++ out → out' ≡ out ++ text → concat (texts ++ text ∷ []) ≡ sent ++ out'
more_text texts text sent out out' all added =
    concat-append texts (text ∷ []) ∙ ap (λ (t : List ℕ). concat texts ++ t) (append-nil text) ∙ ap (λ (t : List ℕ). t ++ text) all ∙ append_assoc sent out text ∙ sym (ap (λ (t : List ℕ). sent ++ t) added)

-- one more line was run
far_more : (number : ℕ) (line : List ℕ) (script script' : Script) (start now : Option (List ℕ)) (out out' : List ℕ) (done : Unit {0}) → AddsLine number line script script' out out' (Ok done)
    → (before : List (List ℕ)) → Far script start now out before → Far script' start now out' (before ++ line ∷ [])
far_more number line script script' start now out out' done (text, ran, added) before far =
    let (next, reads, stands) = ran far.stage far.stands in record {
      stage = next;
      texts = far.texts ++ text ∷ [];
      read = read_more before line Blank far.stage next far.texts text far.read reads;
      stands = stands;
      sent = far.sent;
      written = far.written;
      all = more_text far.texts text far.sent out out' far.all added;
    }

-- a piece was written
abbrev pub SendsPiece : Option (List ℕ) → Option (List ℕ) → List ℕ → List ℕ → Type 0
SendsPiece now now' out out' = (sent : List ℕ) × Appends now now' sent × (out ≡ sent ++ out')

far_sent : (script : Script) (start now now' : Option (List ℕ)) (out out' : List ℕ) → SendsPiece now now' out out' → (before : List (List ℕ)) → Far script start now out before → Far script start now' out' before
far_sent script start now now' out out' (piece, appends, parts) before far = record {
  stage = far.stage;
  texts = far.texts;
  read = far.read;
  stands = far.stands;
  sent = far.sent ++ piece;
  written = appends_on start now now' far.sent piece far.written appends;
  all = far.all ∙ ap (λ (t : List ℕ). far.sent ++ t) parts ∙ sym (append_assoc far.sent piece out');
}

pub goes_on : (text lines line : List ℕ) (after : Option (Bor (List ℕ))) (number : ℕ) (script script' : Script) (start now now' : Option (List ℕ)) (out added out' : List ℕ) (done : Unit {0})
    → Running text (Some lines) number script start now out → lines_of lines ≡ line ∷ lines_after (option_copied after) → IfSome after (λ a. length a.now < length lines)
    → AddsLine (number + 1) line script script' out added (Ok done) → SendsPiece now now' added out' → Running text (option_copied after) (number + 1) script' start now' out'
goes_on text lines line after number script script' start now now' out added out' done so_far cut shorter adds piece =
    takes_on text lines line after number (Far script start now out) (Far script' start now' out') so_far cut shorter
    (λ before far. far_sent script' start now now' added out' piece (before ++ line ∷ []) (far_more (number + 1) line script script' start now out added done adds before far))

-- ---- the end

ran : (script : Script) (start now last : Option (List ℕ)) (out : List ℕ) (before : List (List ℕ)) → (far : Far script start now out before) → Appends now last out → Ran before far.stage start last
ran script start now last out before far appends = record {
  texts = far.texts;
  read = far.read;
  written = subst (Appends start last) (sym far.all) (appends_on start now last far.sent out far.written appends);
}

pub ends : (text : List ℕ) (number : ℕ) (script : Script) (start now last : Option (List ℕ)) (out : List ℕ) (done : Unit {0}) → Running text None number script start now out → Appends now last out → RunsScript (lines_of text) start last (Ok done)
ends text number script start now last out done so_far appends =
    let far = takes_all text number (Far script start now out) so_far in (far.stage, ran script start now last out (lines_of text) far appends)

pub fails : (text lines line : List ℕ) (after : Option (List ℕ)) (number : ℕ) (script script' : Script) (start now last : Option (List ℕ)) (out out' : List ℕ) (fault : Fault)
    → Running text (Some lines) number script start now out → lines_of lines ≡ line ∷ lines_after after → AddsLine (number + 1) line script script' out out' (Err fault) → Appends now last out' → RunsScript (lines_of text) start last (Err fault)
fails text lines line after number script script' start now last out out' (of_fault.Line at) so_far cut (said, (same, at_fault), kept) appends =
    let (before, others, is, counted, far) = takes_next text lines line after number (Far script start now out) so_far cut in
    (before, line, others, far.stage, is, same ∙ counted, ran script start now last out before far (subst (Appends now last) kept appends), at_fault far.stage far.stands)
fails text lines line after number script script' start now last out out' (of_fault.Stopped refusal) so_far cut (said, memory, kept) appends =
    let (before, others, is, counted, far) = takes_next text lines line after number (Far script start now out) so_far cut in
    inl (memory, (before, line ∷ others, far.stage, is, ran script start now last out before far (subst (Appends now last) kept appends)))

-- what waits is written at the end
pub ended : (text : List ℕ) (number : ℕ) (script : Script) (start now last : Option (List ℕ)) (out bytes : List ℕ) (result : Result (Unit {0}) Fault) → bytes ≡ out → Running text None number script start now out → OnOk result (Appends now last bytes)
    → IfErr result (λ fault. fault ≡ of_fault.Stopped WriteFailed) → RunsScript (lines_of text) start last result
ended text number script start now last out bytes (Ok done) same so_far appends failed = ends text number script start now last out done so_far (subst (Appends now last) same appends)
ended text number script start now last out bytes (Err fault) same so_far appends failed = subst (λ (f : Fault). RunsScript (lines_of text) start last (Err f)) (sym failed) (inr refl)
