use Rattle.std.proofs.Common.{ap, ◌∙◌, subst}
use Rattle.std.specs.FinSet as set
use Rattle.mvd_dots.specs.Entry.{EntryValue}
use Rattle.mvd_dots.specs.Context.{HoldsDot, set_of, entry_dots}
use Rattle.mvd_dots.proofs.EntryLists.{entries_push, dots_of_push}
use Rattle.mvd_dots.proofs.contexts.Context.add_entry.Goals as goal

pub invariant_of-self-2 : goal.invariant_of-self-2
invariant_of-self-2 c =
    let e : EntryValue = record { site = c.args.site; base = c.args.base; loose = c.args.loose.now } in
    rw (c.in_ok-push.ensures.items, c.reserve_one.ensures, c.in_ok-loose.ensures.items)
    (entries_push 0 c.self.inside.entries.items e c.requires.form.site_low c.self.invariant c.requires.form (λ site n h. c.requires.above site n (subst (λ s. HoldsDot s site n) c.self.view_is h)))

pub returns-clause-ok : goal.returns-clause-ok
returns-clause-ok c =
    let e : EntryValue = record { site = c.args.site; base = c.args.base; loose = c.args.loose.now } in
    ap set_of c.in_ok-push.ensures.items ∙ rw (c.reserve_one.ensures, c.in_ok-loose.ensures.items) (dots_of_push c.self.inside.entries.items e ∙ ap (λ s. set.union s (entry_dots e)) c.self.view_is)
