use Rattle.std.proofs.Common.{◌+◌, ◌-◌, ◌/◌, sym, ap₂, ◌∙◌, arith}
use Rattle.std.specs.Str.{bytes_eq}
use Rattle.mvd_keys.proofs.Parts.{holds}
use Rattle.mvd_rows.proofs.Searching.{above_more, among_at, among_none, below_more}
use Rattle.mvd_rows.proofs.among.is_among.Goals as goal

pub loop-low-preserved-in-Less : goal.loop-low-preserved-in-Less
loop-low-preserved-in-Less c =
    let within = c.loop-low.invariant.within in
    let some = c.loop-low-test.true in
    record {
      met = omega arith;
      within = within;
      below = below_more c.args.others.now c.args.sibling.now.dot (c.loop-low.low + (c.loop-low.high - c.loop-low.low) / 2) c.index-others-middle.result (holds _ c.requires) (omega arith) c.index-others-middle.is (sym c.cmp.ensures ∙ c.in-Less.is);
      above = c.loop-low.invariant.above;
    }

pub loop-low-preserved : goal.loop-low-preserved
loop-low-preserved c =
    let within = c.loop-low.invariant.within in
    let some = c.loop-low-test.true in
    record {
      met = omega arith;
      within = omega arith;
      below = c.loop-low.invariant.below;
      above = above_more c.args.others.now c.args.sibling.now.dot (c.loop-low.low + (c.loop-low.high - c.loop-low.low) / 2) c.index-others-middle.result (holds _ c.requires) (omega arith) c.index-others-middle.is (sym c.cmp.ensures ∙ c.in-Greater.is);
    }

pub returns-in-Equal : goal.returns-in-Equal
returns-in-Equal c =
    let within = c.loop-low.invariant.within in
    let some = c.loop-low-test.true in
    c.eq.ensures ∙ ap₂ bytes_eq c.text.ensures.same c.text-in-Equal.ensures.same ∙ sym (among_at c.args.others.now c.args.sibling.now (c.loop-low.low + (c.loop-low.high - c.loop-low.low) / 2) c.index-others-middle.result (holds _ c.requires) (omega arith) c.index-others-middle.is (sym c.cmp.ensures ∙ c.in-Equal.is))

pub returns : goal.returns
returns c =
    let none = c.loop-low-test.false in
    sym (among_none c.args.others.now c.args.sibling.now c.loop-low.low c.loop-low.high (omega arith) c.loop-low.invariant.below c.loop-low.invariant.above)
