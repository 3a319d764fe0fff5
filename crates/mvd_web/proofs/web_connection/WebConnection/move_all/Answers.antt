use Rattle.std.proofs.Common.{sym, ◌∙◌}
use Rattle.mvd_web.specs.Inside.{web_of}
use Rattle.mvd_web.proofs.Calls.{moved_all, moved_some, on_ok}
use Rattle.mvd_web.proofs.web_connection.WebConnection.move_all.Goals as goal

pub returns-then-is_err : goal.returns-then-is_err
returns-then-is_err c = moved_some (web_of c.args.self.now) (web_of c.move_pending.new.self) (web_of c.stop.new.self) c.move_pending.ensures.moved c.stop.ensures

pub returns-else-is_err : goal.returns-else-is_err
returns-else-is_err c =
    moved_all (web_of c.args.self.now) (web_of c.move_pending.new.self) c.move_pending.ensures.moved
    (on_ok c.move_pending.result _ (sym c.is_err.ensures.value ∙ c.if-is_err.false) c.move_pending.ensures.all) c.requires.waits c.requires.open
