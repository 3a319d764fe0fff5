use Rattle.std.proofs.Common.{refl}
use Rattle.mvd_client.proofs.Noting.{refused, replied, unframed}
use Rattle.mvd_client.specs.AskedServer.RepliesNoted.{is_over}
use Rattle.mvd_client.proofs.asked_server.AskedServerEndpoint.ask.Goals as goal

pub returns-in-Some : goal.returns-in-Some
returns-in-Some g c = is_over c.in-Some.refusal c.in-Some.is refl refl

pub returns-in-Err : goal.returns-in-Err
returns-in-Err g c = unframed g.L.Line c.args.self.now c.note.new.self c.args.request c.in-Err.refusal c.may_change-is_write.result c.note.ensures.remote c.may_change-is_write.ensures
    c.in-Err.ensures.none c.note.ensures.down c.note.ensures.lost c.in-None.is c.note.ensures.ended c.note.ensures.shown

pub returns-in-Ok-told : goal.returns-in-Ok-told
returns-in-Ok-told g c = replied g.L.Line c.args.self.now (record { alloc = c.args.self.now.alloc; remote = c.ask-told.new.self; is_down = c.args.self.now.is_down; lost = c.args.self.now.lost; ended = c.ended_by-self.result; shown = c.args.self.now.shown }) c.args.request c.ask-told.result c.in-Ok-told.reply c.passed_on-passed.result
    c.in-Ok-told.is c.passed_on-passed.ensures c.ask-told.ensures.asked c.ask-told.ensures.truth refl refl c.in-None.is c.ended_by-self.ensures refl

pub returns-in-Err-told : goal.returns-in-Err-told
returns-in-Err-told g c = refused g.L.Line c.args.self.now c.note-in-Err-told.new.self c.args.request c.ask-told.result c.ask-told.new.self c.in-Err-told.refusal c.may_change-is_write.result c.note-in-Err-told.ensures.remote
    c.in-Err-told.is c.may_change-is_write.ensures c.in-Ok.ensures.ok c.ask-told.ensures.asked c.ask-told.ensures.truth c.note-in-Err-told.ensures.down c.note-in-Err-told.ensures.lost c.in-None.is c.note-in-Err-told.ensures.ended c.note-in-Err-told.ensures.shown
