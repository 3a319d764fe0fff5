use Rattle.std.proofs.Common.{ap, ◌∙◌}
use Rattle.mvd_dots.specs.Text.{entries_text}
use Rattle.mvd_dots.proofs.Canonical.{entries_are}
use Rattle.mvd_dots.proofs.contexts.Context.print.Goals as goal

pub returns-clause-text : goal.returns-clause-text
returns-clause-text c =
    c.in_ok-print_entries.ensures
    ∙ ap entries_text (c.deref.ensures.value ∙ entries_are _ c.self.inside.entries.items record { form = c.self.invariant; same = c.self.view_is })
