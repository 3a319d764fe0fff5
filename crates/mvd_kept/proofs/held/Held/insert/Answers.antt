use Rattle.std.proofs.Common.{ap, sym, ◌∙◌, subst}
use Rattle.std.specs.FinMap.{insert}
use Rattle.mvd_kept.specs.Held.{AreHeld}
use Rattle.mvd_kept.proofs.HeldMaps.{kept_inserted, one_inserted}
use Rattle.mvd_kept.proofs.held.Held.insert.Goals as goal

pub invariant_of-self-2 : goal.invariant_of-self-2
invariant_of-self-2 c =
    subst AreHeld (sym (one_inserted c.self.inside.states.entries c.insert.new.self.entries c.args.key c.args.state c.in_ok-insert.ensures.updates.0))
    (kept_inserted _ c.args.key c.args.state c.self.invariant c.requires.held c.context-seen.ensures.valid c.text-text.ensures.key c.requires.spelled)

pub returns-clause-ok : goal.returns-clause-ok
returns-clause-ok c =
    one_inserted c.self.inside.states.entries c.insert.new.self.entries c.args.key c.args.state c.in_ok-insert.ensures.updates.0
    ∙ ap (λ m. insert m c.args.key c.args.state) c.self.view_is
