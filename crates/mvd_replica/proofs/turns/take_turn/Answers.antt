use Rattle.std.proofs.Common.{◌∙◌}
use Rattle.sqlite.specs.Held.{state}
use Rattle.mvd_replica.proofs.Ending.{at_end, at_refusal, at_bye_ok, at_bye_failed, goes_on_sent, at_writer_sent, came}
use Rattle.mvd_replica.proofs.turns.take_turn.Goals as goal

pub returns-in-Ok-None : goal.returns-in-Ok-None
returns-in-Ok-None g c =
    at_end c.args.replica.now.site (state g.S.Store c.args.replica.now.records.conn) (g.R.Read.remaining c.args.reader.now) (g.R.Read.remaining c.read_frame.new.reader) (g.W.Write.contents c.args.writer.now)
    (came c.in-Ok-None.field-0-is c.in-Ok-None.ensures.read)

pub returns-in-Err : goal.returns-in-Err
returns-in-Err g c =
    at_refusal c.args.replica.now.site (state g.S.Store c.args.replica.now.records.conn) (g.R.Read.remaining c.args.reader.now) (g.R.Read.remaining c.read_frame.new.reader) (g.W.Write.contents c.args.writer.now) (g.W.Write.contents c.stop-stopped.new.writer)
    c.in-Err.refusal c.stop-stopped.result c.in-Err.ensures.read c.in-Err.ensures.err c.stop-stopped.ensures

pub returns-in-Ok : goal.returns-in-Ok
returns-in-Ok g c =
    at_bye_ok c.args.replica.now.site c.reply_to.new.replica.site (state g.S.Store c.args.replica.now.records.conn) (state g.S.Store c.reply_to.new.replica.records.conn)
    (g.R.Read.remaining c.args.reader.now) (g.R.Read.remaining c.read_frame.new.reader) (g.W.Write.contents c.args.writer.now) (g.W.Write.contents c.write_frame.new.writer) c.in-Ok-Some.frame c.is_broken.result c.bytes.result.now
    (came c.in-Ok-Some.field-0-is c.in-Ok-Some.ensures.read) c.in-None.ensures.told.0 c.in-None.ensures.told.1 c.in-None.ensures.follows c.in-None.ensures.leaves c.is_broken.ensures (c.bytes.ensures ∙ c.last-last.ensures) c.in-Ok.ensures.ok

pub returns-in-Err-write_frame : goal.returns-in-Err-write_frame
returns-in-Err-write_frame g c =
    at_bye_failed c.args.replica.now.site c.reply_to.new.replica.site (state g.S.Store c.args.replica.now.records.conn) (state g.S.Store c.reply_to.new.replica.records.conn)
    (g.R.Read.remaining c.args.reader.now) (g.R.Read.remaining c.read_frame.new.reader) (g.W.Write.contents c.args.writer.now) (g.W.Write.contents c.write_frame.new.writer) c.in-Ok-Some.frame c.is_broken.result c.bytes.result.now
    c.in-Err-write_frame.failed (came c.in-Ok-Some.field-0-is c.in-Ok-Some.ensures.read) c.in-None.ensures.told.0 c.in-None.ensures.told.1 c.in-None.ensures.follows c.in-None.ensures.leaves c.is_broken.ensures (c.bytes.ensures ∙ c.last-last.ensures)
    c.in-Err-write_frame.ensures.err c.in-Err-write_frame.ensures.front

pub returns-in-Ok-send : goal.returns-in-Ok-send
returns-in-Ok-send g c =
    goes_on_sent c.args.replica.now.site c.reply_to.new.replica.site (state g.S.Store c.args.replica.now.records.conn) (state g.S.Store c.reply_to.new.replica.records.conn)
    (g.R.Read.remaining c.args.reader.now) (g.R.Read.remaining c.read_frame.new.reader) (g.W.Write.contents c.args.writer.now) (g.W.Write.contents c.send.new.writer) c.in-Ok-Some.frame c.in-Some.reply
    (came c.in-Ok-Some.field-0-is c.in-Ok-Some.ensures.read) c.in-Some.ensures.told c.in-Some.ensures.follows c.in-Some.ensures.leaves c.in-Ok-send.ensures

pub returns-in-Err-send : goal.returns-in-Err-send
returns-in-Err-send g c =
    at_writer_sent c.args.replica.now.site c.reply_to.new.replica.site (state g.S.Store c.args.replica.now.records.conn) (state g.S.Store c.reply_to.new.replica.records.conn)
    (g.R.Read.remaining c.args.reader.now) (g.R.Read.remaining c.read_frame.new.reader) (g.W.Write.contents c.args.writer.now) (g.W.Write.contents c.send.new.writer) c.in-Ok-Some.frame c.in-Some.reply c.in-Err-send.failed
    (came c.in-Ok-Some.field-0-is c.in-Ok-Some.ensures.read) c.in-Some.ensures.told c.in-Some.ensures.follows c.in-Some.ensures.leaves c.in-Err-send.ensures
