use Rattle.std.proofs.Common.{◌≡◌, refl, sym, ap, subst, ◌∙◌, true≢false}
use Rattle.std.proofs.lemmas.List.{take_all}
use Rattle.std.specs.FinSet as set
use Rattle.mvd_dots.specs.Entry.{IsEntry}
use Rattle.mvd_dots.specs.Context.{set_of}
use Rattle.mvd_dots.proofs.Including.{all_here, more_entries, entry_at_here}
use Rattle.mvd_dots.proofs.EntryLists.{form_at}
use Rattle.mvd_dots.proofs.Members.{nil_holds}
use Rattle.mvd_dots.proofs.contexts.Context.includes_entries.Goals as goal

pub loop-entry-init : goal.loop-entry-init
loop-entry-init c = all_here c.args.self.now _ (λ i n h. absurd (nil_holds i n h))

pub includes_entry-requires : goal.includes_entry-requires
includes_entry-requires c = subst IsEntry (sym c.entry-item.is) (form_at 0 c.args.entries.now c.loop-entry.entry-index c.entry-item.result c.requires c.loop-entry-test.true)

pub loop-entry-preserved : goal.loop-entry-preserved
loop-entry-preserved c = more_entries c.args.self.now c.args.entries.now c.loop-entry.entry-index c.entry-item.result c.loop-entry-test.true c.entry-item.is c.loop-entry.invariant (c.includes_entry.ensures.0 c.if-not-includes_entry.false)

pub returns-then-not-includes_entry : goal.returns-then-not-includes_entry
returns-then-not-includes_entry c = (
  λ h. absurd (true≢false (sym h)),
  λ all. absurd (true≢false (sym (c.includes_entry.ensures.1 (entry_at_here c.args.self.now c.args.entries.now c.loop-entry.entry-index c.entry-item.result c.loop-entry-test.true c.entry-item.is all)) ∙ c.if-not-includes_entry.true)),
)

pub returns : goal.returns
returns c = (
  λ _. subst (λ es. set.union c.args.self.now (set_of es) ≡ c.args.self.now) (take_all _ _ c.loop-entry-test.false) c.loop-entry.invariant,
  λ _. refl,
)
