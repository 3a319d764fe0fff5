use Rattle.mvd_wire.proofs.RowFits.{page_fits, page_put}
use Rattle.mvd_frames.proofs.spelled_lists.write_page.Goals as goal

pub returns-clause-bytes : goal.returns-clause-bytes
returns-clause-bytes g c = page_put g.T.Spelled.kind c.args.items.now c.args.more c.args.out.now.items c.write_page_head.new.out.items c.write_each.new.out.items c.in_ok-write_page_head.ensures c.in_ok-write_each.ensures.bytes

pub returns-clause-fits : goal.returns-clause-fits
returns-clause-fits g c = page_fits g.T.Spelled.kind c.args.items.now c.args.more c.in_ok-write_each.ensures.fit
