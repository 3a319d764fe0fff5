use Rattle.std.proofs.Common.{◌≡◌, ap, false, le-ltb, length, subst}
use Rattle.mvd_wire.specs.Codecs.{spell_state, state_limit, IsInForm}
use Rattle.mvd_kept.specs.Answer.{is_too_large}
use Rattle.mvd_kept.specs.Change.{ChangeValue}
use Rattle.mvd_kept.proofs.prepared.Change.state.Goals as goal

pub returns-clause-spelled : goal.returns-clause-spelled
returns-clause-spelled c = subst IsInForm (ap (λ (v : ChangeValue). v.state) c.self.view_is) c.self.invariant.spelled

pub returns-clause-short : goal.returns-clause-short
returns-clause-short c =
    subst (λ s. is_too_large s ≡ false) (ap (λ (v : ChangeValue). v.state) c.self.view_is)
    (le-ltb state_limit (length (spell_state c.self.inside.state)) c.self.invariant.short)
