-- A remote side over a line that nothing was asked over.
use Rattle.std.proofs.Common.{◌≡◌, [], sym, subst, ◌∙◌}
use Rattle.std.specs.Prelude.{None, Some, Option}
use Rattle.mvd_dots.specs.declared.refusals.Refusal.{Refusal}
use Rattle.mvd_remote.specs.Lines.{Far, IsTrueRemote, line_of, refused_of}
use Rattle.mvd_remote.specs.declared.remote.Remote.{Remote}

abbrev IsThere : Option Refusal → Type 0
IsThere None = ⊥
IsThere (Some refusal) = Unit {0}

pub fresh_is_true : {L : Type 0} (is_true : L → Type 0) (far : L → Far) (remote : Remote L) → is_true (line_of remote) → (far (line_of remote)).due ≡ [] → refused_of remote ≡ None → IsTrueRemote is_true far remote
fresh_is_true is_true far remote t d n = record {
  line = t;
  step = λ _. d;
  own = λ refusal e. absurd (subst IsThere (sym e ∙ n) tt);
}
