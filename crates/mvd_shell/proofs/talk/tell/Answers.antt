use Rattle.std.specs.Prelude.{string_bytes}
use Rattle.std.proofs.Common.{refl}
use Rattle.mvd_print.specs.Text.{done_text, written_text}
use Rattle.mvd_wire.specs.declared.reply.Reply.TheVariants as reply
use Rattle.mvd_shell.proofs.Talking.{page_taken}
use Rattle.mvd_shell.proofs.talk.tell.Goals as goal

pub returns-in-Written : goal.returns-in-Written
returns-in-Written c = rw c.in-Written.is
    (page_taken c.args.ask (reply.Written c.in-Written.dot) (string_bytes c.args.out.now) (string_bytes c.put_written.new.out) (written_text c.in-Written.dot) refl refl c.put_written.ensures)

pub returns-in-Done : goal.returns-in-Done
returns-in-Done c = rw c.in-Done.is (page_taken c.args.ask reply.Done (string_bytes c.args.out.now) (string_bytes c.put_word.new.out) done_text refl refl c.put_word.ensures.text)
