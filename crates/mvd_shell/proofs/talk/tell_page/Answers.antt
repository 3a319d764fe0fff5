use Rattle.std.specs.Prelude.{string_bytes, Bool, Ok, Err}
use Rattle.std.proofs.Common.{subst}
use Rattle.mvd_print.specs.Added.{Prints}
use Rattle.mvd_print.specs.Text.{reply_text}
use Rattle.mvd_shell.proofs.Talking.{page_refused, page_told}
use Rattle.mvd_shell.proofs.talk.tell_page.Goals as goal

pub returns-in-Ok : goal.returns-in-Ok
returns-in-Ok c =
    let prints = subst (λ (b : Bool). Prints (reply_text b c.args.reply.now) (string_bytes c.args.out.now) (string_bytes c.print_reply.new.out) (Ok c.in-Ok.field-0)) c.has_terms.ensures c.in-Ok.ensures in
    page_told c.args.ask c.args.reply.now (string_bytes c.args.out.now) (string_bytes c.print_reply.new.out) c.in-Ok.field-0 c.next_page.result c.requires prints c.next_page.ensures

pub returns-in-Err : goal.returns-in-Err
returns-in-Err c =
    let prints = subst (λ (b : Bool). Prints (reply_text b c.args.reply.now) (string_bytes c.args.out.now) (string_bytes c.print_reply.new.out) (Err c.in-Err.refusal)) c.has_terms.ensures c.in-Err.ensures in
    page_refused c.args.ask c.args.reply.now (string_bytes c.args.out.now) (string_bytes c.print_reply.new.out) c.in-Err.refusal c.requires prints
