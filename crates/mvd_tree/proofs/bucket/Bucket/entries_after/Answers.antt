use Rattle.std.proofs.lemmas.List.{take_rest}
use Rattle.std.proofs.Common.{◌≡◌, ℕ, List, ◌+◌, ◌-◌, Some, length, take, drop, add-one, ap, sym, ◌∙◌, arith}
use Rattle.mvd_tree.proofs.Entries.{Entry, rest_after, rest_after_none, after_held, after_absent}
use Rattle.mvd_tree.proofs.bucket.Bucket.entries_after.Goals as goal

pub returns-in-None : goal.returns-in-None
returns-in-None c = rw c.in-None.is (c.deref.ensures.value ∙ sym (rest_after_none _ _ c.self.invariant.sorted c.self.view_is))

-- the entries from one on are those that are left after so many
rest_from : (es : List Entry) (first many : ℕ) → first ≡ many → take (length es - first) (drop first es) ≡ drop many es
rest_from es first many same = take_rest es first ∙ ap (λ n. drop n es) same

pub returns-then-held : goal.returns-then-held
returns-then-held c =
    let at = rw c.if-held.true at c.find-below.ensures.splits in
    rest_from c.deref-then-held.result.now _ (c.find-below.result.0 + 1) (omega arith)
    ∙ ap (drop (c.find-below.result.0 + 1)) c.deref-then-held.ensures.value
    ∙ sym (rw c.in-Some.is (rest_after _ _ _ (Some c.in-Some.key.now) c.self.invariant.sorted c.self.view_is (after_held c.in-Some.key.now c.self.inside.entries.items c.find-below.result.0 (rw c.deref-in-Some.ensures.value at at) ∙ ap (λ n. drop n c.self.inside.entries.items) (sym (add-one _)))))

pub returns-else-held : goal.returns-else-held
returns-else-held c =
    let at = rw c.if-held.false at c.find-below.ensures.splits in
    take_rest c.deref-else-held.result.now c.find-below.result.0
    ∙ ap (drop c.find-below.result.0) c.deref-else-held.ensures.value
    ∙ sym (rw c.in-Some.is (rest_after _ _ _ (Some c.in-Some.key.now) c.self.invariant.sorted c.self.view_is (after_absent c.in-Some.key.now c.self.inside.entries.items c.find-below.result.0 (rw c.deref-in-Some.ensures.value at at))))
