use Rattle.std.proofs.Common.{◌≡◌, ◌++◌, length, nat_lt, ap, sym, ◌∙◌, subst, arith}
use Rattle.std.specs.FinMap.{entries, len}
use Rattle.std.specs.Option.{option_copied}
use Rattle.std.specs.BTreeMap.Range.{entries_between}
use Rattle.std.specs.declared.ops.Bound.TheVariants.{Unbounded}
use Rattle.mvd_keys.specs.Key.{key_cmp}
use Rattle.mvd_kept.specs.Held.{AreHeld}
use Rattle.mvd_kept.specs.Walk.{first_of, walk_start, while_begins}
use Rattle.mvd_rows.proofs.Grouped.{same_ok}
use Rattle.mvd_rows.proofs.Paging.{page_ends, page_full}
use Rattle.mvd_kept.proofs.Walked.{as_many, keys_page, more_left, one_more, walk_begins, walk_beyond, walk_countable, walk_ends, walk_more, walk_rest}
use Rattle.mvd_kept.proofs.held.Held.keys.Goals as goal
use Rattle.mvd_kept.proofs.held.Held.keys.Goals.{in-Some-next, in-None}

pub loop-taken-init : goal.loop-taken-init
loop-taken-init c =
    let prefix = c.args.prefix.now in
    let after = option_copied c.args.after in
    let rest : c.walk_from-walk.result.rest ≡ entries_between key_cmp (walk_start (first_of prefix after) after) Unbounded (entries c.args.self.now) =
    walk_begins prefix after c.self.inside.states.entries c.walk_from-walk.result.rest c.args.self.now _ c.walk_from-walk.ensures.ordered c.self.view_is
    (c.start.ensures ∙ ap (λ f. walk_start f after) (sym (same_ok _ _ c.in_ok-first.ensures))) c.walk_from-walk.ensures.rest in
    record {
      split = ap (while_begins prefix) (sym rest) ∙ ap (λ l. l ++ while_begins prefix c.walk_from-walk.result.rest) (sym c.new-page.ensures.items);
      countable = walk_countable c.args.self.now _ c.walk_from-walk.result.rest (subst AreHeld c.self.view_is c.self.invariant) rest;
      taken = ap length c.new-page.ensures.items;
      least = c.walk_from-walk.ensures.looked.least;
      most = let most = c.walk_from-walk.ensures.looked.most in omega (arith, most);
    }

pub returns-in_default-clause-page : goal.returns-in_default-clause-page
returns-in_default-clause-page c =
    let taken = c.loop-taken.invariant.taken in
    let few = c.loop-taken-test.true in
    keys_page _ _ c.self.inside.states.entries _ _ _ c.walk_from-walk.ensures.ordered c.self.view_is
    (page_ends _ _ (c.loop-taken.invariant.split ∙ ap (λ l. c.loop-taken.page.items ++ l) (walk_ends c.args.prefix.now _ c.in_default.ensures.item.0)) (omega (arith, taken, few)))

pub returns-then-not-begins-clause-page : goal.returns-then-not-begins-clause-page
returns-then-not-begins-clause-page c =
    let taken = c.loop-taken.invariant.taken in
    let few = c.loop-taken-test.true in
    keys_page _ _ c.self.inside.states.entries _ _ _ c.walk_from-walk.ensures.ordered c.self.view_is
    (page_ends _ _ (c.loop-taken.invariant.split ∙ ap (λ l. c.loop-taken.page.items ++ l)
    (walk_beyond c.args.prefix.now _ _ c.in-Some.key.now c.in-Some.state.now c.in-Some.ensures.item (sym c.begins.ensures ∙ c.if-not-begins.true))) (omega (arith, taken, few)))

pub overflow_cast-siblings : goal.overflow_cast-siblings
overflow_cast-siblings c =
    let few = (walk_rest _ _ c.in-Some.key.now c.in-Some.state.now c.in-Some.ensures.item c.loop-taken.invariant.countable).0 in
    let many = as_many c.siblings.result.now c.in-Some.state.now c.siblings.ensures.entries in
    omega (arith, few, many)

pub loop-taken-preserved : goal.loop-taken-preserved
loop-taken-preserved c =
    let taken = c.loop-taken.invariant.taken in
    let least = c.loop-taken.invariant.least in
    let most = c.loop-taken.invariant.most in
    let rose = c.in-Some.ensures.looked.least in
    let one = c.in-Some.ensures.looked.most in
    let many = as_many c.siblings.result.now c.in-Some.state.now c.siblings.ensures.entries in
    let long = ap length c.in_ok-push.ensures.items in
    record {
      split = one_more _ c.loop-taken.page.items _ _ (c.in-Some.key.now, len c.in-Some.state.now.siblings) _ _ c.loop-taken.invariant.split
          (walk_more c.args.prefix.now _ _ c.in-Some.key.now c.in-Some.state.now c.in-Some.ensures.item (sym c.begins.ensures ∙ c.if-not-begins.false))
          c.in_ok-push.ensures.items (λ i. (same_ok _ _ c.in_ok-copy.ensures i, sym many i));
      countable = (walk_rest _ _ c.in-Some.key.now c.in-Some.state.now c.in-Some.ensures.item c.loop-taken.invariant.countable).1;
      taken = grind arith;
      least = grind arith;
      most = grind arith;
    }

pub returns-clause-page : goal.returns-clause-page
returns-clause-page c =
    let taken = c.loop-taken.invariant.taken in
    let full = c.loop-taken-test.false in
    let end = c.loop-taken.auto._taken-end in
    keys_page _ _ c.self.inside.states.entries _ _ _ c.walk_from-walk.ensures.ordered c.self.view_is
    (page_full _ c.loop-taken.page.items _ c.match-next-2.more c.loop-taken.invariant.split (omega (arith, taken, full, end))
    (elim c.match-next-2.branch [
      | in-Some-next w ↦ w.more-is ∙ more_left c.args.prefix.now _ _ w.in-Some-next.key.now w.in-Some-next.field-0-1.now w.begins-more.result w.in-Some-next.ensures.item (sym w.begins-more.ensures)
      | in-None w ↦ w.more-is ∙ sym (ap (λ xs. nat_lt 0 (length xs)) (walk_ends c.args.prefix.now _ w.in-None.ensures.item.0))
    ]))
