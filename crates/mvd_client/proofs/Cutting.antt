-- Why a report has no lines, and what was written of one that is cut short.
use Rattle.std.proofs.Common.{◌≡◌, Bool, ℕ, List, Option, Result, Ok, Err, refl, subst, inl, inr}
use Rattle.std.specs.Result.{IfErr, OnErr}
use Rattle.mvd_client.specs.Reported.{CutReport, HasNoLines}
use Rattle.mvd_dots.specs.declared.refusals.Refusal.{Refusal}
use Rattle.mvd_dots.specs.declared.refusals.Refusal.TheVariants.{WriteFailed}
use Rattle.mvd_input.specs.declared.fault.Fault.{Fault}
use Rattle.mvd_input.specs.declared.fault.Fault.TheVariants.{Stopped}
use Rattle.mvd_wire.specs.Frames.{AppendsFront}

module _ (text : List ℕ) (broken : Bool) (out out' : Option (List ℕ)) where
  pub no_lines : (fault : Fault) (refusal : Refusal) → fault ≡ Stopped refusal → HasNoLines broken refusal → CutReport text broken out out fault
  no_lines fault refusal is why = inl ((refusal, is, why), refl)

  pub not_written : (written : List ℕ) (result : Result (Unit {0}) Fault) → written ≡ text → IfErr result (λ fault. fault ≡ Stopped WriteFailed) → OnErr result (AppendsFront out out' written) → IfErr result (CutReport text broken out out')
  not_written written (Ok done) same failed front = tt
  not_written written (Err fault) same failed front = inr (failed, subst (AppendsFront out out') same front)
