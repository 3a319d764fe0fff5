-- What a session makes of the answers of a side.
use Rattle.std.specs.Prelude.{◌≡◌, ◌⊎◌, List, Contains, Result, Ok, Err}
use Rattle.mvd_dots.specs.declared.refusals.Refusal.{Refusal}
use Rattle.mvd_dots.specs.declared.refusals.Refusal.TheVariants.{BadBody, Memory}

-- what was made of an answer, which is no refusal
abbrev pub PassesFault : {A B : Type 0} → (A → B → Type 0) → Result A Refusal → B → Type 0
PassesFault IsOf (Ok a) b = IsOf a b
PassesFault IsOf (Err refusal) b = ⊥

-- why it was not made of all: memory was refused, or one is a refusal, or nothing is made of one (33)
abbrev pub EndsMaking : {A : Type 0} → (A → Type 0) → List (Result A Refusal) → Refusal → Type 0
EndsMaking {A} IsNone told refusal = (refusal ≡ Memory)
    ⊎ (Contains told (Err refusal) ⊎ ((refusal ≡ BadBody) × (a : A) × Contains told (Ok a) × IsNone a))
