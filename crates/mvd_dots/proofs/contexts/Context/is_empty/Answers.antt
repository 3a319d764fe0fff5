use Rattle.std.proofs.Common.{◌==◌, ap, ◌∙◌}
use Rattle.std.specs.FinSet as set
use Rattle.mvd_dots.proofs.Laws.{counted_entries, empty_decides}
use Rattle.mvd_dots.proofs.contexts.Context.is_empty.Goals as goal

pub returns-clause-count : goal.returns-clause-count
returns-clause-count c = c.is_empty.ensures ∙ counted_entries c.entries.result.now c.entries.ensures.of_set.form ∙ ap (λ s. set.len s == 0) c.entries.ensures.of_set.same

pub returns-clause-none : goal.returns-clause-none
returns-clause-none c = empty_decides c.args.self.now c.is_empty.result (c.is_empty.ensures ∙ counted_entries c.entries.result.now c.entries.ensures.of_set.form ∙ ap (λ s. set.len s == 0) c.entries.ensures.of_set.same)
