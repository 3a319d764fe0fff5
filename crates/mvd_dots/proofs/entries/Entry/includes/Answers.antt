use Rattle.std.proofs.Common.{ℕ, ◌≡◌, ◌≤◌, List, inl, inr, sym, subst, ap, arith, true≢false, ◌∙◌}
use Rattle.mvd_dots.specs.Entry.{Among, HasCounter, RisesAbove}
use Rattle.mvd_dots.proofs.Including.{base_low, counters_here}
use Rattle.mvd_dots.proofs.Joining.{loose_rises}
use Rattle.mvd_dots.proofs.entries.Entry.includes.Goals as goal

pub includes_all-requires-clause-rises : goal.includes_all-requires-clause-rises
includes_all-requires-clause-rises c = subst (RisesAbove 0) (sym (c.deref.ensures.value ∙ ap (λ v. v.loose) c.other.view_is)) (loose_rises c.args.other.now c.requires.other_form)

pub returns-then-other-self : goal.returns-then-other-self
returns-then-other-self c =
    let here : c.self.inside.base ≡ c.args.self.now.base = ap (λ v. v.base) c.self.view_is in
    let there : c.other.inside.base ≡ c.args.other.now.base = ap (λ v. v.base) c.other.view_is in (
      λ h. absurd (true≢false (sym h)),
      λ all. absurd (omega (arith, c.if-other-self.true, here, there, base_low c.args.self.now c.args.other.now c.requires.form all)),
    )

pub returns : goal.returns
returns c =
    let loose : c.deref.result.now ≡ c.args.other.now.loose = c.deref.ensures.value ∙ ap (λ v. v.loose) c.other.view_is in
    let here : c.self.inside.base ≡ c.args.self.now.base = ap (λ v. v.base) c.self.view_is in
    let there : c.other.inside.base ≡ c.args.other.now.base = ap (λ v. v.base) c.other.view_is in
    let low : c.args.other.now.base ≤ c.args.self.now.base = omega (arith, c.if-other-self.false, here, there) in (
      λ h. counters_here c.args.self.now c.args.other.now.base c.args.other.now.loose low (λ n among. c.includes_all.ensures.0 h n (subst (λ xs. Among xs n) (sym loose) among)),
      λ all. c.includes_all.ensures.1 (λ n among. all n (inr (subst (λ xs. Among xs n) loose among))),
    )
