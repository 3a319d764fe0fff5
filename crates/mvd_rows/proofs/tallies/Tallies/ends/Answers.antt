use Rattle.std.proofs.Common.{rules, to_z-of_z}
use mir.Val.{SFits}
use mir.Syntax.{w64}
use Rattle.mvd_rows.proofs.Ends.{whole_range, none_between, ends_between, same_copy}
use Rattle.mvd_rows.proofs.tallies.Tallies.ends.Goals as goal

pub first_between-requires : goal.first_between-requires
first_between-requires c = whole_range c.args.group.now c.in_ok-copy.field-0 c.in_ok-copy-2.field-0 (same_copy _ _ c.in_ok-copy.ensures) (same_copy _ _ c.in_ok-copy-2.ensures)

pub last_between-requires : goal.last_between-requires
last_between-requires c = whole_range c.args.group.now c.in_ok-copy.field-0 c.in_ok-copy-2.field-0 (same_copy _ _ c.in_ok-copy.ensures) (same_copy _ _ c.in_ok-copy-2.ensures)

pub returns-in_default-clause-ends : goal.returns-in_default-clause-ends
returns-in_default-clause-ends c = none_between _ c.args.group.now c.in_ok-copy.field-0 c.in_ok-copy-2.field-0 (same_copy _ _ c.in_ok-copy.ensures) (same_copy _ _ c.in_ok-copy-2.ensures) c.in_default.ensures.none

pub returns-clause-ends : goal.returns-clause-ends
returns-clause-ends c =
    let low : SFits w64 c.in-Some.least.now.whole = search rules in
    let high : SFits w64 c.in-Some-last_between.greatest.now.whole = search rules in
    simp to_z-of_z (ends_between c.args.self.now.kept.map c.args.group.now c.in_ok-copy.field-0 c.in_ok-copy-2.field-0 (same_copy _ _ c.in_ok-copy.ensures) (same_copy _ _ c.in_ok-copy-2.ensures)
    c.in-Some.least.now c.in-Some-last_between.greatest.now c.in-Some.ensures.inside c.in-Some-last_between.ensures.inside c.in-Some.ensures.found c.in-Some-last_between.ensures.found
    c.in-Some.ensures.least c.in-Some-last_between.ensures.greatest)
