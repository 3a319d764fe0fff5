use Rattle.std.proofs.Common.{◌≡◌, sym, ap, subst, ◌∙◌, true≢false}
use Rattle.mvd_dots.specs.Context.{HoldsDot, IsEntryAt}
use Rattle.mvd_dots.proofs.Including.{entry_here, entry_gone}
use Rattle.mvd_dots.proofs.contexts.Context.includes_entry.Goals as goal

pub includes-requires-clause-form : goal.includes-requires-clause-form
includes-requires-clause-form c = c.in-Some.ensures.found.form

pub returns-in-Some : goal.returns-in-Some
returns-in-Some c =
    let at : IsEntryAt c.args.self.now c.args.entry.now.site c.in-Some.held.now = subst (λ site. IsEntryAt c.args.self.now site c.in-Some.held.now) (ap (λ v. v.site) c.entry.view_is) c.in-Some.ensures.found in
    let same = entry_here c.args.self.now c.in-Some.held.now c.args.entry.now at in
    (λ h. same.0 (c.includes.ensures.0 h), λ is. c.includes.ensures.1 (same.1 is))

pub returns-in-None : goal.returns-in-None
returns-in-None c = (
  λ h. absurd (true≢false (sym h)),
  λ is. absurd (entry_gone c.args.self.now c.args.entry.now c.requires (λ n h. c.in-None.ensures.missing n (subst (λ site. HoldsDot c.args.self.now site n) (sym (ap (λ v. v.site) c.entry.view_is)) h)) is),
)
