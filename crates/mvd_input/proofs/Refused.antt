-- Texts that are parted, of which a part spells nothing, spell nothing.
use Rattle.std.proofs.Common.{◌≡◌, ◌≢◌, Option, Some, None, IfNone, ◌∙◌, ◌==◌, true, false, true≢false, ap, get_or, length, ℕ, List, inl, inr, refl, sym, subst, codes}
use Rattle.std.proofs.lemmas.Bool.{eqb-true}
use Rattle.std.proofs.lemmas.List.{nil_from_length}
use Rattle.mvd_input.specs.declared.command.Ask.{Ask}
use Rattle.mvd_input.specs.declared.command.Ask.TheVariants.{Put, Delete, Get, Row, Node, Find, Range, Rows, Keys, Conflicts}
use Rattle.mvd_input.specs.declared.command.Command.{Command}
use Rattle.mvd_input.specs.declared.command.Command.TheVariants as command
use Rattle.mvd_input.specs.declared.command.Line.TheVariants as line
use Rattle.mvd_input.specs.declared.command.Typed.TheVariants as typed
use Rattle.mvd_input.specs.Lines.{IsCommand, IsNoAsk, IsNoAt, IsNoCommand, IsNoLine, IsNoNumber, IsNoTypedAsk, IsNoView, IsNotTyped, IsNumber, IsWord, spaced, with_rest, word_of}
use Rattle.mvd_input.proofs.Numbers.{digits_are_word}
use Rattle.mvd_input.proofs.Parting.{one_parting, one_resting, spaced_is_no_word}

ask_is_word : (ask : Ask) → IsWord (word_of ask)
ask_is_word (Put _ _ _) = refl
ask_is_word (Delete _ _) = refl
ask_is_word (Get _) = refl
ask_is_word (Row _ _) = refl
ask_is_word (Node _) = refl
ask_is_word (Find _ _) = refl
ask_is_word (Range _ _) = refl
ask_is_word (Rows _) = refl
ask_is_word (Keys _) = refl
ask_is_word Conflicts = refl

pub command_is_word : (command : Command) (word : List ℕ) (rest : Option (List ℕ)) → IsCommand command word rest → IsWord word
command_is_word (command.Ask ask) word rest (is, _, _) = subst IsWord (sym is) (ask_is_word ask)
command_is_word (command.Send _) word rest (is, _, _) = subst IsWord (sym is) refl
command_is_word (command.Receive _) word rest (is, _) = subst IsWord (sym is) refl
command_is_word (command.Sync _) word rest (is, _) = subst IsWord (sym is) refl

-- words of different first letters
pub other_word : (letter : ℕ) {a b : List ℕ} → a ≡ b → (get_or a 0 0 == letter) ≡ true → (get_or b 0 0 == letter) ≡ false → ⊥
other_word letter is first second = true≢false (sym first ∙ ap (λ (w : List ℕ). get_or w 0 0 == letter) is ∙ second)

pub if_none : {A X : Type 0} (found : Option A) → X → IfNone found X
if_none None x = x
if_none (Some a) x = tt

-- what is written is the same where it is something
written : {a b : List ℕ} → Some a ≡ Some b → a ≡ b
written is = cc is

-- no question or write of another word is a word alone
pub no_alone : (name : List ℕ) → name ≢ codes "keys" → name ≢ codes "conflicts" → IsNoAsk name None
no_alone name keys conflicts (Put _ _ _) (_, is, _) = absurd (cc is)
no_alone name keys conflicts (Delete _ _) (_, is, _) = absurd (cc is)
no_alone name keys conflicts (Get _) (_, is, _) = absurd (cc is)
no_alone name keys conflicts (Row _ _) (_, is, _) = absurd (cc is)
no_alone name keys conflicts (Node _) (_, is, _) = absurd (cc is)
no_alone name keys conflicts (Find _ _) (_, is, _) = absurd (cc is)
no_alone name keys conflicts (Range _ _) (_, is, _) = absurd (cc is)
no_alone name keys conflicts (Rows _) (_, is, _) = absurd (cc is)
no_alone name keys conflicts (Keys _) (is, _, _) = keys is
no_alone name keys conflicts Conflicts (is, _, _) = conflicts is

-- none of another word has one word behind it
pub no_word_asked : (name word : List ℕ) → IsWord word → name ≢ codes "get" → name ≢ codes "node" → name ≢ codes "rows" → name ≢ codes "keys" → IsNoAsk name (Some word)
no_word_asked name word one get node rows keys (Put key context document) (_, is, _) = spaced_is_no_word key.now (spaced context.now document.now) (subst IsWord (written is) one)
no_word_asked name word one get node rows keys (Delete key context) (_, is, _) = spaced_is_no_word key.now context.now (subst IsWord (written is) one)
no_word_asked name word one get node rows keys (Get _) (is, _, _) = get is
no_word_asked name word one get node rows keys (Row view term) (_, is, _) = spaced_is_no_word view.now term.now (subst IsWord (written is) one)
no_word_asked name word one get node rows keys (Node _) (is, _, _) = node is
no_word_asked name word one get node rows keys (Find field term) (_, is, _) = spaced_is_no_word field.now term.now (subst IsWord (written is) one)
no_word_asked name word one get node rows keys (Range field terms) (_, is, _) = spaced_is_no_word field.now terms.now (subst IsWord (written is) one)
no_word_asked name word one get node rows keys (Rows _) (is, _, _) = rows is
no_word_asked name word one get node rows keys (Keys _) (is, _, _) = keys is
no_word_asked name word one get node rows keys Conflicts (_, is, _) = absurd (cc is)

-- nor more behind it
pub no_parts_asked : (name first behind : List ℕ) → name ≢ codes "put" → name ≢ codes "del" → name ≢ codes "row" → name ≢ codes "find" → name ≢ codes "range" → IsNoAsk name (Some (spaced first behind))
no_parts_asked name first behind put del row find range (Put _ _ _) (is, _, _) = put is
no_parts_asked name first behind put del row find range (Delete _ _) (is, _, _) = del is
no_parts_asked name first behind put del row find range (Get _) (_, is, one) = spaced_is_no_word first behind (subst IsWord (sym (written is)) one)
no_parts_asked name first behind put del row find range (Row _ _) (is, _, _) = row is
no_parts_asked name first behind put del row find range (Node _) (_, is, one) = spaced_is_no_word first behind (subst IsWord (sym (written is)) one)
no_parts_asked name first behind put del row find range (Find _ _) (is, _, _) = find is
no_parts_asked name first behind put del row find range (Range _ _) (is, _, _) = range is
no_parts_asked name first behind put del row find range (Rows _) (_, is, one) = spaced_is_no_word first behind (subst IsWord (sym (written is)) one)
no_parts_asked name first behind put del row find range (Keys None) (_, is, _) = absurd (cc is)
no_parts_asked name first behind put del row find range (Keys (Some _)) (_, is, one) = spaced_is_no_word first behind (subst IsWord (sym (written is)) one.0)
no_parts_asked name first behind put del row find range Conflicts (_, is, _) = absurd (cc is)

-- no prefix is empty
pub no_keys : (prefix : List ℕ) → (length prefix == 0) ≡ true → IsNoAsk (codes "keys") (Some prefix)
no_keys prefix none (Put _ _ _) (is, _, _) = other_word 107 is refl refl
no_keys prefix none (Delete _ _) (is, _, _) = other_word 107 is refl refl
no_keys prefix none (Get _) (is, _, _) = other_word 107 is refl refl
no_keys prefix none (Row _ _) (is, _, _) = other_word 107 is refl refl
no_keys prefix none (Node _) (is, _, _) = other_word 107 is refl refl
no_keys prefix none (Find _ _) (is, _, _) = other_word 107 is refl refl
no_keys prefix none (Range _ _) (is, _, _) = other_word 107 is refl refl
no_keys prefix none (Rows _) (is, _, _) = other_word 107 is refl refl
no_keys prefix none (Keys None) (_, is, _) = absurd (cc is)
no_keys prefix none (Keys (Some _)) (_, is, some) = some.1 (sym (written is) ∙ nil_from_length prefix (eqb-true (length prefix) 0 none))
no_keys prefix none Conflicts (is, _, _) = other_word 107 is refl refl

-- a text with a word at its front
module _ (text word rest : List ℕ) (parts : text ≡ spaced word rest) (plain : IsWord word) where
  pub no_delete : (IsWord rest → ⊥) → IsNoAsk (codes "del") (Some text)
  no_delete none (Delete key context) (is, behind, words) = none (subst IsWord (sym (one_parting text word rest key.now context.now parts plain (written behind) words.0).1) words.1)
  no_delete none (Put _ _ _) (is, _, _) = other_word 100 is refl refl
  no_delete none (Get _) (is, _, _) = other_word 100 is refl refl
  no_delete none (Row _ _) (is, _, _) = other_word 100 is refl refl
  no_delete none (Node _) (is, _, _) = other_word 100 is refl refl
  no_delete none (Find _ _) (is, _, _) = other_word 100 is refl refl
  no_delete none (Range _ _) (is, _, _) = other_word 100 is refl refl
  no_delete none (Rows _) (is, _, _) = other_word 100 is refl refl
  no_delete none (Keys _) (is, _, _) = other_word 100 is refl refl
  no_delete none Conflicts (is, _, _) = other_word 100 is refl refl

  pub no_put : IsWord rest → IsNoAsk (codes "put") (Some text)
  no_put one (Put key context document) (is, behind, words) =
      spaced_is_no_word context.now document.now (subst IsWord (one_parting text word rest key.now (spaced context.now document.now) parts plain (written behind) words.0).1 one)
  no_put one (Delete _ _) (is, _, _) = other_word 112 is refl refl
  no_put one (Get _) (is, _, _) = other_word 112 is refl refl
  no_put one (Row _ _) (is, _, _) = other_word 112 is refl refl
  no_put one (Node _) (is, _, _) = other_word 112 is refl refl
  no_put one (Find _ _) (is, _, _) = other_word 112 is refl refl
  no_put one (Range _ _) (is, _, _) = other_word 112 is refl refl
  no_put one (Rows _) (is, _, _) = other_word 112 is refl refl
  no_put one (Keys _) (is, _, _) = other_word 112 is refl refl
  no_put one Conflicts (is, _, _) = other_word 112 is refl refl

  pub no_view : IsWord rest → IsNoView text
  no_view one view (is, name_is, _) =
      spaced_is_no_word view.group.now view.sum.now (subst IsWord (one_parting text word rest view.name.now (spaced view.group.now view.sum.now) parts plain is name_is).1 one)

  pub no_line : word ≢ codes "sites" → word ≢ codes "max" → word ≢ codes "index" → word ≢ codes "view" → word ≢ codes "root" → IsNoAt word rest → IsNoLine text
  no_line sites max index view root none (line.Sites count) (digits, is, _) = sites (one_parting text word rest (codes "sites") digits parts plain is refl).0
  no_line sites max index view root none (line.Max count) (digits, is, _) = max (one_parting text word rest (codes "max") digits parts plain is refl).0
  no_line sites max index view root none (line.Index field) is = index (one_parting text word rest (codes "index") field.now parts plain is refl).0
  no_line sites max index view root none (line.View v) (behind, is, _) = view (one_parting text word rest (codes "view") behind parts plain is refl).0
  no_line sites max index view root none (line.At site command) (inl (name, behind, is, (digits, others, cut, number, asked))) =
      let one = one_parting text word rest name behind parts plain is (command_is_word command name others asked) in
      none site command (rw (one.0, one.1) (digits, others, cut, number, asked))
  no_line sites max index view root none (line.At site command) (inr (digits, is, _, _)) = root (one_parting text word rest (codes "root") digits parts plain is refl).0

-- a text with a word at its front, behind which more may stand
module _ (text word : List ℕ) (rest : Option (List ℕ)) (parts : text ≡ with_rest word rest) (plain : IsWord word) where
  pub no_number : IsNoNumber word → (name : List ℕ) → IsNoAt name text
  no_number none name site command (digits, behind, is, number, _) =
      none site (subst (IsNumber site) (sym (one_resting word digits rest behind (sym parts ∙ is) plain (digits_are_word site digits number)).0) number)

  pub no_command : (name : List ℕ) → IsNoCommand name rest → IsNoAt name text
  no_command name none site command (digits, behind, is, number, asked) =
      none command (subst (IsCommand command name) (sym (one_resting word digits rest behind (sym parts ∙ is) plain (digits_are_word site digits number)).1) asked)

  no_typed_ask : IsNoAsk word rest → IsNoTypedAsk text
  no_typed_ask none ask (name, behind, is, asked) =
      let one = one_resting word name rest behind (sym parts ∙ is) plain (command_is_word (command.Ask ask) name behind asked) in
      none ask (rw (one.0, one.1) asked)

  pub none_typed : (found : Option Ask) → IfNone found (IsNoAsk word rest) → IfNone found (IsNoTypedAsk text)
  none_typed None none = no_typed_ask none
  none_typed (Some ask) none = tt

-- no command but a question or write is a word alone
pub no_command_alone : (name : List ℕ) → IsNoAsk name None → IsNoCommand name None
no_command_alone name none (command.Ask ask) asked = none ask asked
no_command_alone name none (command.Send _) (_, is, _) = absurd (cc is)
no_command_alone name none (command.Receive _) (_, is) = absurd is
no_command_alone name none (command.Sync _) (_, is) = absurd is

pub not_typed : (text : List ℕ) → text ≢ codes "help" → text ≢ codes "root" → IsNoTypedAsk text → IsNotTyped text
not_typed text help root none typed.Help is = help is
not_typed text help root none (typed.Ask ask) (inl asked) = none ask asked
not_typed text help root none (typed.Ask ask) (inr (is, _)) = root is
