use Rattle.std.proofs.lemmas.List.{take_all}
use Rattle.std.proofs.Common.{ℕ, refl, sym, subst, ap, true≢false, ◌∙◌}
use Rattle.mvd_dots.specs.Entry.{Among}
use Rattle.mvd_dots.proofs.Including.{more_counters}
use Rattle.mvd_dots.proofs.Rising.{above_low, among_at}
use Rattle.mvd_dots.proofs.entries.includes_all.Goals as goal

pub contains-requires-clause-low : goal.contains-requires-clause-low
contains-requires-clause-low c = above_low 0 c.args.counters.now _ c.requires.rises (among_at c.args.counters.now c.loop-counter.counter-index 0 c.loop-counter-test.true)

pub loop-counter-preserved : goal.loop-counter-preserved
loop-counter-preserved c = more_counters c.args.entry.now c.args.counters.now c.loop-counter.counter-index c.loop-counter-test.true c.loop-counter.invariant (c.contains.ensures.0 c.if-not-contains.false)

pub returns-then-not-contains : goal.returns-then-not-contains
returns-then-not-contains c = (
  λ h. absurd (true≢false (sym h)),
  λ all. absurd (true≢false (sym (c.contains.ensures.1 (all _ (among_at c.args.counters.now c.loop-counter.counter-index 0 c.loop-counter-test.true))) ∙ c.if-not-contains.true)),
)

pub returns : goal.returns
returns c = (
  λ _ n among. c.loop-counter.invariant n (subst (λ xs. Among xs n) (sym (take_all _ _ c.loop-counter-test.false)) among),
  λ _. refl,
)
