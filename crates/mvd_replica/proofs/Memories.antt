-- Refusals that can only be want of memory.
use Rattle.std.proofs.Common.{◌≡◌, ◌≢◌, Result, Ok, Err, sym, ◌∙◌, ⊎_elim}
use Rattle.mvd_dots.specs.declared.refusals.Refusal.{Refusal}
use Rattle.mvd_dots.specs.declared.refusals.Refusal.TheVariants.{Memory}
use Rattle.mvd_kept.proofs.Outcomes.{memory_or_not}

-- where the answer is no refusal, only memory can have been refused
pub must_be_memory : {A : Type 0} (refusal : Refusal) (x : A) (answer : Result A Refusal) → answer ≡ Ok x → (refusal ≢ Memory → answer ≡ Err refusal) → refusal ≡ Memory
must_be_memory {A} refusal x answer ok refused =
    ⊎_elim (λ memory. memory) (λ other. absurd (let bad : ◌≡◌ {A = Result A Refusal} (Ok x) (Err refusal) = sym ok ∙ refused other in cc)) (memory_or_not refusal)
