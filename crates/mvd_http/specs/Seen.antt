-- A write of a key, with the context that its author saw. It is read from left to right, key, context, document: the
-- first refusal decides.
use Rattle.std.specs.Prelude.{ℕ, ◌≡◌, Bool, true, false, List, Option, Some, None, Result, Ok, Err}
use Rattle.std.specs.Str.{is_utf8}
use Rattle.mvd_dots.specs.Answer.{IsAnswer, IsReading}
use Rattle.mvd_dots.specs.Context.{DotSet}
use Rattle.mvd_dots.specs.Text.{IsTextOf}
use Rattle.mvd_dots.specs.declared.refusals.Refusal.{Refusal}
use Rattle.mvd_dots.specs.declared.refusals.Refusal.TheVariants.{BadContext}
use Rattle.mvd_keys.specs.Writes.{Key}

-- what is made of a value, or the refusal in its place
abbrev pub then_read : {A B : Type 0} → Result A Refusal → (A → Result B Refusal) → Result B Refusal
then_read (Ok value) read = read value
then_read (Err refusal) read = Err refusal

-- the context that the author of a write saw: that of the text, and where there is none the empty one, or none
abbrev pub IsContext : Bool → List ℕ → Result DotSet Refusal → Type 0
IsContext true text seen = IsReading (λ dots. IsTextOf dots text) BadContext seen
IsContext false text seen = seen ≡ Err BadContext

abbrev pub IsSeen : Result DotSet Refusal → Option (List ℕ) → Result DotSet Refusal → Type 0
IsSeen absent None seen = seen ≡ absent
IsSeen absent (Some text) seen = IsContext (is_utf8 text) text seen

abbrev pub AndThen : {A B : Type 0} → Result A Refusal → (A → Result B Refusal → Type 0) → Result B Refusal → Type 0
AndThen (Ok value) Is result = Is value result
AndThen (Err refusal) Is result = result ≡ Err refusal

abbrev pub IsMadeWithContext : {A : Type 0} → Result DotSet Refusal → Option (List ℕ) → (DotSet → Result A Refusal)
    → Result A Refusal → Type 0
IsMadeWithContext absent context make result =
    (seen : Result DotSet Refusal) × IsSeen absent context seen
    × AndThen seen (λ dots made. IsAnswer made (make dots)) result

abbrev pub IsWrite : {A : Type 0} → Result DotSet Refusal → Result Key Refusal → Option (List ℕ)
    → (Key → DotSet → Result A Refusal) → Result A Refusal → Type 0
IsWrite absent key context make result =
    (read : Result Key Refusal) × IsAnswer read key
    × AndThen read (λ k made. IsMadeWithContext absent context (make k) made) result
