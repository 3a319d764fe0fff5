use Rattle.std.proofs.Common.{ap, sym, ◌∙◌}
use Rattle.mvd_dots.specs.Context.{set_of}
use Rattle.mvd_dots.proofs.Members.{entries_unique}
use Rattle.mvd_dots.proofs.contexts.Context.same.Goals as goal

pub returns : goal.returns
returns c = (
  λ h. sym c.self.view_is ∙ ap set_of (sym c.deref.ensures.value ∙ c.same_entries.ensures.0 h ∙ c.deref-2.ensures.value) ∙ c.other.view_is,
  λ e. c.same_entries.ensures.1 (c.deref.ensures.value ∙ entries_unique _ _ c.self.invariant c.other.invariant (c.self.view_is ∙ e ∙ sym c.other.view_is) ∙ sym c.deref-2.ensures.value),
)
