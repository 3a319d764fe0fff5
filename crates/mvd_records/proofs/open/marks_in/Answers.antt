use Rattle.mvd_records.proofs.Marked.{two_rows, found, two_long}
use Rattle.mvd_records.proofs.open.marks_in.Goals as goal

pub returns-then-rows-ne2 : goal.returns-then-rows-ne2
returns-then-rows-ne2 c v s _ _ are = let two = two_long c.args.rows.now v s are in let no = c.if-rows-ne2.true in no two

pub returns-in-None : goal.returns-in-None
returns-in-None c =
    found c.args.rows.now c.index-rows-0.result c.index-rows-1.result c.pair_in-in-None.result (two_rows c.args.rows.now c.index-rows-0.result c.index-rows-1.result c.if-rows-ne2.false c.index-rows-0.is c.index-rows-1.is) c.in-None.ensures c.pair_in-in-None.ensures
