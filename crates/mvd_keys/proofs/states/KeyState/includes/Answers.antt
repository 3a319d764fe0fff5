use Rattle.std.proofs.Common.{◌≡◌, ◌↔◌, IsTrue, Ok, ap, sym, ◌∙◌, subst}
use Rattle.mvd_keys.specs.State.{AreParts, IsValid, State, join_answer, state_of}
use Rattle.mvd_keys.proofs.states.KeyState.includes.Goals as goal

pub stays-requires-clause-first : goal.stays-requires-clause-first
stays-requires-clause-first c = subst (λ ss. AreParts ss c.self.inside.context) (sym c.deref.ensures.value) c.self.invariant

pub stays-requires-clause-second : goal.stays-requires-clause-second
stays-requires-clause-second c = subst (λ ss. AreParts ss c.other.inside.context) (sym c.deref-2.ensures.value) c.other.invariant

pub returns-clause-known : goal.returns-clause-known
returns-clause-known c =
    let here : state_of c.deref.result.now c.self.inside.context ≡ c.args.self.now = ap (λ ss. state_of ss c.self.inside.context) c.deref.ensures.value ∙ c.self.view_is in
    let there : state_of c.deref-2.result.now c.other.inside.context ≡ c.args.other.now = ap (λ ss. state_of ss c.other.inside.context) c.deref-2.ensures.value ∙ c.other.view_is in
    subst (λ (s : State). IsTrue c.stays.result ↔ (join_answer s c.args.other.now ≡ Ok s)) here
    (subst (λ (t : State). IsTrue c.stays.result ↔ (join_answer (state_of c.deref.result.now c.self.inside.context) t ≡ Ok (state_of c.deref.result.now c.self.inside.context))) there c.stays.ensures)

pub returns-clause-valid : goal.returns-clause-valid
returns-clause-valid c = subst IsValid c.other.view_is c.other.invariant.valid
