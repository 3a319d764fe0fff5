-- The writes of a request are kept while it waits.
use Rattle.std.proofs.Common.{◌≡◌, ◌⊎◌, Bool, List, ℕ, true, false, Option, Some, None, Result, Ok, Err, ap, inl, inr, is_some, not, sym, ◌∙◌, true≢false}
use Rattle.std.specs.Borrow.{Bor}
use Rattle.std.specs.Option.{option_copied}
use Rattle.mvd_dots.specs.declared.refusals.Refusal.{Refusal}
use Rattle.mvd_http.specs.declared.fields.Answer.{Answer}
use Rattle.mvd_server.specs.Errands.{TellsAllLines}
use Rattle.mvd_server.specs.declared.batch.Batch.{Batch}
use Rattle.mvd_web.specs.Web.{RespondsTo, WebValue}
use Rattle.mvd_web.specs.declared.taken.Asked.{Asked}

-- a response ends the request that waited
pub responded : (o : Option Asked) (old : WebValue) (answer : Answer) (body : List ℕ) (new : WebValue) → RespondsTo o old answer body new → (new.asked ≡ old.asked) ⊎ (new.asked ≡ None)
responded None old answer body new same = inl (ap (λ (w : WebValue). w.asked) same)
responded (Some asked) old answer body new (inl is) = inr (ap (λ (w : WebValue). w.asked) is)
responded (Some asked) old answer body new (inr is) = inr (ap (λ (w : WebValue). w.asked) is)

pub told_ends : (told : Result Bool Refusal) (old : WebValue) (batch : Batch) (new : WebValue) → TellsAllLines told old batch new → (new.asked ≡ old.asked) ⊎ (new.asked ≡ None)
told_ends (Ok true) old batch new (all, responds) = responded old.asked old _ _ new responds
told_ends (Ok false) old batch new (less, same) = inl (ap (λ (w : WebValue). w.asked) same)
told_ends (Err refusal) old batch new stopped = inl (ap (λ (w : WebValue). w.asked) stopped)

pub asked_none : (o : Option (Bor Asked)) (asked : Option Asked) (none : Bool) → option_copied o ≡ asked → is_some o ≡ not none → none ≡ true → asked ≡ None
asked_none None asked none is some told = sym is
asked_none (Some a) asked none is some told = absurd (true≢false (some ∙ ap not told))

pub asked_kept : (o : Option (Bor Asked)) (none : Bool) (told : Result Bool Refusal) (old : WebValue) (batch : Batch) (new : WebValue) → option_copied o ≡ new.asked → is_some o ≡ not none → none ≡ false
    → TellsAllLines told old batch new → new.asked ≡ old.asked
asked_kept None none told old batch new is some told_so tells = absurd (true≢false (sym (some ∙ ap not told_so)))
asked_kept (Some a) none told old batch new is some told_so tells = elim (told_ends told old batch new tells) [
  | inl same ↦ same
  | inr ended ↦ absurd (let bad = is ∙ ended in cc)
]
