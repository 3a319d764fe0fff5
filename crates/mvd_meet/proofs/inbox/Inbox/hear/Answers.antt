use Rattle.std.proofs.Common.{◌≡◌, ◌∙◌, ◌∷◌, ◌++◌, [], ap, arith, sym}
use Rattle.std.specs.Prelude.{Ok}
use Rattle.mvd_remote.proofs.Holding.{within_replies}
use Rattle.mvd_meet.specs.Inboxes.{out_of}
use Rattle.mvd_meet.proofs.Hearing.{due_still, few_still, sort_more}
use Rattle.mvd_meet.proofs.inbox.Inbox.hear.Goals as goal

pub invariant_of-self-2 : goal.invariant_of-self-2
invariant_of-self-2 c =
    let i = c.self.inside in
    let all : c.push_reserved.new.self.items ≡ i.replies.items ++ c.kept-reply.result ∷ [] = grind arith in
    let within = within_replies i.bytes c.kept-reply.new.bytes i.replies.items c.push_reserved.new.self.items c.kept-reply.result all c.self.invariant.within c.self.invariant.bytes c.kept-reply.ensures.within in
    record {
      of_sort = sort_more i.due c.in-Some.due i.replies.items c.push_reserved.new.self.items (Ok c.args.reply) c.kept-reply.result c.in-Some.is c.self.invariant.of_sort all c.kept-reply.ensures.kept (c.is_told_by.ensures.is c.if-not-is_told_by.false);
      due = due_still i.due i.replies.items c.push_reserved.new.self.items c.kept-reply.result i.later.items all (λ none. c.if-out-eq0.false (c.out.ensures ∙ sym (ap out_of c.self.view_is) ∙ none));
      few = few_still i.due i.replies.items c.push_reserved.new.self.items c.kept-reply.result i.later.items all c.self.invariant.few;
      within = within.0;
      bytes = within.1;
    }
