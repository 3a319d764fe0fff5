use Rattle.std.proofs.Common.{length, ap, sym, subst, subst₂, ◌∙◌, arith}
use Rattle.mvd_tree.specs.Midstates.{AreRead}
use Rattle.mvd_tree.proofs.Entries.{after_put, put_held, put_absent}
use Rattle.mvd_tree.proofs.Midstates.{read_insert, read_set}
use Rattle.mvd_tree.proofs.bucket.Bucket.put_owned.Goals as goal

pub invariant_of-self : goal.invariant_of-self
invariant_of-self c =
    let at = rw c.if-held.true at c.find-below.ensures.splits in
    record {
      read = subst (AreRead _) (sym c.truncate.ensures.items) (read_set c.self.inside.entries.items c.self.inside.midstates.items c.find-below.result.0 _ c.self.invariant.read (omega (arith, ap length c.deref.ensures.value, c.find-below.ensures.within)));
      sorted = (after_put c.self.inside.entries.items _ c.args.self.now c.args.key c.args.digest c.self.invariant.sorted c.self.view_is
          (put_held c.args.key c.args.digest c.self.inside.entries.items c.find-below.result.0 c.index_mut-entry.result.now c.index_mut-entry.ensures.value (rw c.deref.ensures.value at at))).0;
    }

pub returns-then-held : goal.returns-then-held
returns-then-held c =
    let at = rw c.if-held.true at c.find-below.ensures.splits in
    (after_put c.self.inside.entries.items _ c.args.self.now c.args.key c.args.digest c.self.invariant.sorted c.self.view_is
    (put_held c.args.key c.args.digest c.self.inside.entries.items c.find-below.result.0 c.index_mut-entry.result.now c.index_mut-entry.ensures.value (rw c.deref.ensures.value at at))).1

pub invariant_of-self-2 : goal.invariant_of-self-2
invariant_of-self-2 c =
    let at = rw c.if-held.false at c.find-below.ensures.splits in
    record {
      read = subst₂ AreRead (sym c.in_ok-insert_at.ensures.ok) (sym c.truncate.ensures.items) (read_insert c.self.inside.entries.items c.self.inside.midstates.items c.find-below.result.0 _ c.self.invariant.read (omega (arith, ap length c.deref.ensures.value, c.find-below.ensures.within)));
      sorted = (after_put c.self.inside.entries.items c.insert_at.new.entries.items c.args.self.now c.args.key c.args.digest c.self.invariant.sorted c.self.view_is
          (put_absent c.args.key c.args.digest c.self.inside.entries.items c.find-below.result.0 (rw c.deref.ensures.value at at) ∙ sym c.in_ok-insert_at.ensures.ok)).0;
    }

pub returns : goal.returns
returns c =
    let at = rw c.if-held.false at c.find-below.ensures.splits in
    (after_put c.self.inside.entries.items c.insert_at.new.entries.items c.args.self.now c.args.key c.args.digest c.self.invariant.sorted c.self.view_is
    (put_absent c.args.key c.args.digest c.self.inside.entries.items c.find-below.result.0 (rw c.deref.ensures.value at at) ∙ sym c.in_ok-insert_at.ensures.ok)).1
