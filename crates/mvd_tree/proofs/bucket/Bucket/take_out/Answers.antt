use Rattle.std.proofs.Common.{length, ap, sym, subst₂, ◌∙◌, arith}
use Rattle.mvd_tree.specs.Midstates.{AreRead}
use Rattle.mvd_tree.proofs.Entries.{after_remove, others_held, others_absent}
use Rattle.mvd_tree.proofs.Midstates.{read_remove}
use Rattle.mvd_tree.proofs.bucket.Bucket.take_out.Goals as goal

pub invariant_of-self : goal.invariant_of-self
invariant_of-self c =
    let at = rw c.if-held.true at c.find-below.ensures.splits in
    record {
      read = subst₂ AreRead (sym c.remove.ensures.items) (sym c.truncate.ensures.items) (read_remove c.self.inside.entries.items c.self.inside.midstates.items c.find-below.result.0 c.self.invariant.read (omega (arith, ap length c.deref.ensures.value, c.find-below.ensures.held c.if-held.true)));
      sorted = (after_remove c.self.inside.entries.items c.remove.new.self.items c.args.self.now c.args.key.now c.self.invariant.sorted c.self.view_is
          (others_held c.args.key.now c.self.inside.entries.items c.find-below.result.0 (rw c.deref.ensures.value at at) ∙ sym c.remove.ensures.items)).0;
    }

pub returns-then-held : goal.returns-then-held
returns-then-held c =
    let at = rw c.if-held.true at c.find-below.ensures.splits in
    (after_remove c.self.inside.entries.items c.remove.new.self.items c.args.self.now c.args.key.now c.self.invariant.sorted c.self.view_is
    (others_held c.args.key.now c.self.inside.entries.items c.find-below.result.0 (rw c.deref.ensures.value at at) ∙ sym c.remove.ensures.items)).1

pub returns-else-held : goal.returns-else-held
returns-else-held c =
    let at = rw c.if-held.false at c.find-below.ensures.splits in
    (after_remove c.self.inside.entries.items c.self.inside.entries.items c.args.self.now c.args.key.now c.self.invariant.sorted c.self.view_is
    (others_absent c.args.key.now c.self.inside.entries.items c.find-below.result.0 (rw c.deref.ensures.value at at))).1
