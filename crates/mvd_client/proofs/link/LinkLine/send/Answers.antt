use Rattle.std.proofs.Common.{Some}
use Rattle.mvd_shell.proofs.Fronts.{front_all}
use Rattle.mvd_client.specs.Sent.{bytes_in}
use Rattle.mvd_client.proofs.link.LinkLine.send.Goals as goal

pub returns-in-Err-clause-front : goal.returns-in-Err-clause-front
returns-in-Err-clause-front g c = front_all (Some (bytes_in c.args.self.now.sent.items)) (Some (bytes_in c.write_frame.new.writer.sent.items)) (Some (bytes_in c.flush.new.self.sent.items)) c.args.frames.now c.in_ok-write_frame.ensures.ok c.flush.ensures.bytes
