-- What a call's answer says of its value.
use Rattle.std.proofs.Common.{◌≡◌, Result, Ok}
use Rattle.mvd_dots.specs.declared.refusals.Refusal.{Refusal}

-- where the answer is a value, the result is that value
pub answered : {T : Type 0} (result answer : T) → ◌≡◌ {A = Result T Refusal} (Ok answer) (Ok result) → result ≡ answer
answered result answer e = cc
