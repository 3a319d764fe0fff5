use Rattle.std.proofs.Common.{◌≡◌, sym, ap, subst, ◌∙◌}
use Rattle.std.specs.FinSet as set
use Rattle.mvd_dots.specs.Context.{set_of, AreEntries}
use Rattle.mvd_dots.proofs.contexts.Context.includes.Goals as goal

pub includes_entries-requires : goal.includes_entries-requires
includes_entries-requires c = subst AreEntries (sym c.deref.ensures.value) c.other.invariant

pub returns : goal.returns
returns c =
    let is : set_of c.deref.result.now ≡ c.args.other.now = ap set_of c.deref.ensures.value ∙ c.other.view_is in (
      λ h. subst (λ s. set.union c.args.self.now s ≡ c.args.self.now) is (c.includes_entries.ensures.0 h),
      λ e. c.includes_entries.ensures.1 (subst (λ s. set.union c.args.self.now s ≡ c.args.self.now) (sym is) e),
    )
