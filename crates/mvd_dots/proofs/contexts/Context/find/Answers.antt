use Rattle.std.proofs.Common.{arith, ap, sym, ◌∙◌, subst, ◌≡◌, ◌<◌, ◌≤◌, length}
use Rattle.std.specs.List.{AllWithin}
use Rattle.mvd_dots.specs.Context.{HoldsDot, IsEntryAt, set_of}
use Rattle.mvd_dots.proofs.Canonical.{in_range}
use Rattle.mvd_dots.proofs.EntryLists.{found_entry, missing_read, missing_past}
use Rattle.mvd_dots.proofs.contexts.Context.find.Goals as goal
use Rattle.mvd_dots.proofs.contexts.Context.find.Goals.{then-i-len+else-entry-site, else-i-len}

pub returns-then-entry-site-clause-found : goal.returns-then-entry-site-clause-found
returns-then-entry-site-clause-found c =
    let es = c.self.inside.entries.items in
    let within : c.place-i.result < length es = omega (arith, c.if-i-len.true, c.len.ensures, c.self.inside.entries.ok.0) in
    let at : c.index-entry.result.now.site ≡ c.args.site = sym (ap (λ v. v.site) c.entry.view_is) ∙ c.if-entry-site.true in
    subst (λ s. IsEntryAt s c.args.site c.index-entry.result.now) c.self.view_is
    (found_entry es c.place-i.result c.args.site c.index-entry.result.now c.self.invariant within c.index-entry.ensures at)

pub returns-clause-missing : goal.returns-clause-missing
returns-clause-missing c n holds =
    let es = c.self.inside.entries.items in
    let below : AllWithin (λ v. v.site < c.args.site) es 0 c.place-i.result = subst (λ xs. AllWithin (λ v. v.site < c.args.site) xs 0 c.place-i.result) c.deref.ensures.value c.place-i.ensures.below in
    let above : AllWithin (λ v. c.args.site ≤ v.site) es c.place-i.result (length es) = subst (λ xs. AllWithin (λ v. c.args.site ≤ v.site) xs c.place-i.result (length xs)) c.deref.ensures.value c.place-i.ensures.above in
    let held : HoldsDot (set_of es) c.args.site n = subst (λ s. HoldsDot s c.args.site n) (sym c.self.view_is) holds in
    elim c.if-i-len.branch [
      | then-i-len+else-entry-site w ↦ missing_read es c.place-i.result c.args.site w.index-entry.result.now c.self.invariant below above (omega (arith, w.if-i-len.true, c.len.ensures, c.self.inside.entries.ok.0)) w.index-entry.ensures (λ e. w.if-entry-site.false (ap (λ v. v.site) w.entry.view_is ∙ e)) n held
      | else-i-len w ↦ missing_past es c.place-i.result c.args.site c.self.invariant below above (omega (arith, w.if-i-len.false, c.len.ensures, c.self.inside.entries.ok.0)) n held
    ]

pub returns-then-entry-site-clause-in_range : goal.returns-then-entry-site-clause-in_range
returns-then-entry-site-clause-in_range c = in_range _ c.self.inside.entries.items record { form = c.self.invariant; same = c.self.view_is }

pub returns-clause-in_range : goal.returns-clause-in_range
returns-clause-in_range c = in_range _ c.self.inside.entries.items record { form = c.self.invariant; same = c.self.view_is }
