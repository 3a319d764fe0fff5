-- A refusal in place of what was to be told.
use Rattle.std.proofs.Common.{◌≡◌, ℕ, List, Bool, false, Result, Ok, Err, IfOk, inr, subst}
use Rattle.mvd_dots.specs.declared.refusals.Refusal.{Refusal}
use Rattle.mvd_http.specs.Answers.{IsToldAs, AppendsBody, Responds, Told, refused_told}

pub told_so : {E : Type 0} (stored : Bool) (r : Result Told Refusal) (old new : List ℕ) (refusal : Refusal) (result : Result ℕ E) (body : List ℕ) → AppendsBody r old new (Err refusal) → stored ≡ false
    → IfOk result (λ s. IsToldAs (refused_told refusal) s body) → IfOk result (λ s. Responds stored r s body)
told_so stored r old new refusal (Err e) body pushes not_stored is = tt
told_so stored (Ok told) old new refusal (Ok s) body pushes not_stored is = inr (not_stored, subst (λ e. IsToldAs (refused_told e) s body) pushes is)
told_so stored (Err other) old new refusal (Ok s) body pushes not_stored is =
    let same : refusal ≡ other = cc in subst (λ e. IsToldAs (refused_told e) s body) same is
