use Rattle.std.proofs.Common.{◌≡◌, length, ap, sym, ◌∙◌, arith}
use Rattle.mvd_rows.specs.Siblings.{conflicts_in}
use Rattle.mvd_kept.specs.FromStates.{unless_broken}
use Rattle.mvd_kept.specs.Sites.{SiteValue}
use Rattle.mvd_kept.proofs.Listed.{few_conflicts}
use Rattle.mvd_kept.proofs.kept.Kept.conflict_count.Goals as goal

pub prove-unreachable-requires : goal.prove-unreachable-requires
prove-unreachable-requires c =
    let count : c.conflict_count-count.result ≡ length (conflicts_in c.self.inside.states) = c.conflict_count-count.ensures c.self.inside.config.defs c.self.inside.states (c.self.invariant.listed c.if-self.false) in
    let few = few_conflicts c.self.inside.states in
    let room = c.self.invariant.room in
    let most = c.max_keys-most.ensures.max_keys in
    let beyond = c.if-prove.true in
    omega (arith, count, few, room, most, beyond)

pub returns-clause-count : goal.returns-clause-count
returns-clause-count c =
    c.conflict_count-count.ensures c.self.inside.config.defs c.self.inside.states (c.self.invariant.listed c.if-self.false)
    ∙ sym (ap (λ b. unless_broken b 0 (length (conflicts_in c.self.inside.states))) c.if-self.false)
    ∙ ap (λ (s : SiteValue). unless_broken s.broken 0 (length (conflicts_in s.states))) c.self.view_is
