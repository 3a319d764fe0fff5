-- What lines define, one after the other.
use Rattle.std.proofs.Common.{◌≡◌, ◌<◌, ◌+◌, ◌++◌, ◌∙◌, ℕ, Bool, true, false, List, [], ◌∷◌, Option, Some, Ok, Err, Bor, IfSome, inl, inr, length, refl, sym, subst, codes}
use Rattle.std.specs.Option.{option_copied}
use Rattle.std.specs.Prelude.{Result, if◌then◌else◌}
use Rattle.mvd_dots.specs.declared.refusals.Refusal.{Refusal}
use Rattle.mvd_dots.specs.declared.refusals.Refusal.TheVariants.{BadDefs}
use Rattle.mvd_rows.specs.Defs.{Definitions, no_definitions}
use Rattle.mvd_input.specs.declared.command.Line.TheVariants as line
use Rattle.mvd_input.specs.declared.command.View.{View}
use Rattle.mvd_input.specs.Definitions.{DefineAll, Defines, DefinesNothing, FailsFirstAt, view_added}
use Rattle.mvd_input.specs.Hexadecimal.{lines_after, lines_of}
use Rattle.mvd_input.specs.Lines.{IsLine, IsView, said, spaced}
use Rattle.mvd_input.proofs.Lines.{Taking, takes_next, takes_none, takes_on}
use Rattle.mvd_input.proofs.Parting.{one_parting}
use Rattle.mvd_input.proofs.Refused.{other_word}

-- ---- names that are read

abbrev pub read_if : Bool → List ℕ → Result (List ℕ) Refusal
read_if test text = if test then Ok text else Err BadDefs

-- a name that is read passed its test, and is its text
pub read_so : (test : Bool) (text name : List ℕ) → read_if test text ≡ Ok name → (test ≡ true) × (text ≡ name)
read_so true text name is = (refl, cc is)
read_so false text name is = absurd (cc is)

-- one text spells one view
same_view : (view other : View) (text : List ℕ) → IsView view text → IsView other text → (old : Definitions) → view_added old view ≡ view_added old other
same_view view other text first second old =
    let name = one_parting text view.name.now (spaced view.group.now view.sum.now) other.name.now (spaced other.group.now other.sum.now) first.0 first.1 second.0 second.1 in
    let rest = one_parting (spaced view.group.now view.sum.now) view.group.now view.sum.now other.group.now other.sum.now refl first.2 name.1 second.2 in
    rw (name.0, rest.0, rest.1) refl

no_end : (a b : List ℕ) → spaced a b ≡ [] → ⊥
no_end [] b is = absurd cc
no_end (x ∷ a) b is = absurd cc

-- the line of a view that may not be added defines nothing
pub view_nothing : (text : List ℕ) (view : View) (old : Definitions) (refusal : Refusal) → IsLine (line.View view) (said text) → view_added old view ≡ Err refusal → DefinesNothing text old
view_nothing text view old refusal (rest, is, spelled) none new (utf8, inl (empty, _)) = no_end (codes "view") rest (sym is ∙ empty)
view_nothing text view old refusal (rest, is, spelled) none new (utf8, inr (line.View other, (behind, same, spelled_so), ok)) =
    let one = one_parting (said text) (codes "view") rest (codes "view") behind is refl same refl in
    let here : Ok new ≡ Err refusal = sym ok ∙ sym (same_view view other behind (subst (IsView view) one.1 spelled) spelled_so old) ∙ none in absurd cc
view_nothing text view old refusal (rest, is, spelled) none new (utf8, inr (line.Index field, same, ok)) =
    other_word 118 (one_parting (said text) (codes "view") rest (codes "index") field.now is refl same refl).0 refl refl
view_nothing text view old refusal (rest, is, spelled) none new (utf8, inr (line.Sites _, same, ok)) = absurd cc
view_nothing text view old refusal (rest, is, spelled) none new (utf8, inr (line.Max _, same, ok)) = absurd cc
view_nothing text view old refusal (rest, is, spelled) none new (utf8, inr (line.At _ _, same, ok)) = absurd cc

-- of a text, so many lines were taken, which define these
abbrev pub Defining : List ℕ → Option (List ℕ) → ℕ → Definitions → Type 0
Defining text rest number defs = Taking text rest number (λ before. DefineAll before no_definitions defs)

pub begins : (text : List ℕ) → Defining text (Some text) 0 no_definitions
unfolding DefineAll
begins text = takes_none text (λ before. DefineAll before no_definitions no_definitions) refl

define_more : (lines : List (List ℕ)) (line : List ℕ) (old middle new : Definitions) → DefineAll lines old middle → Defines line middle new → DefineAll (lines ++ line ∷ []) old new
unfolding DefineAll
define_more [] line old middle new same defines = (new, subst (λ (d : Definitions). Defines line d new) same defines, refl)
define_more (first ∷ lines) line old middle new (next, one, others) defines = (next, one, define_more lines line next middle new others defines)

pub goes_on : (text lines line : List ℕ) (old new : Definitions) (after : Option (Bor (List ℕ))) (number : ℕ) → Defining text (Some lines) number old → lines_of lines ≡ line ∷ lines_after (option_copied after) → IfSome after (λ a. length a.now < length lines)
    → Defines line old new → Defining text (option_copied after) (number + 1) new
goes_on text lines line old new after number so_far cut shorter defines =
    takes_on text lines line after number (λ before. DefineAll before no_definitions old) (λ before. DefineAll before no_definitions new) so_far cut shorter (λ before defined. define_more before line no_definitions old new defined defines)

pub fails_at : (text lines line : List ℕ) (defs : Definitions) (after : Option (List ℕ)) (number : ℕ) → Defining text (Some lines) number defs → lines_of lines ≡ line ∷ lines_after after → DefinesNothing line defs → FailsFirstAt (lines_of text) (number + 1)
fails_at text lines line defs after number so_far cut nothing =
    let (before, others, is, counted, defined) = takes_next text lines line after number (λ before. DefineAll before no_definitions defs) so_far cut in
    (before, line, others, defs, is, counted, defined, nothing)
