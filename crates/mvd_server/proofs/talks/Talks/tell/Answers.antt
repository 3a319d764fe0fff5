use Rattle.std.proofs.Common.{ap, inl, inr, subst, sym, ◌∙◌}
use Rattle.std.specs.BTreeMap.{is_at}
use Rattle.std.specs.Map.{remove_entry}
use Rattle.std.specs.Ordering.{nat_cmp}
use Rattle.mvd_server.specs.Talking.{Deeds, talking_of}
use Rattle.mvd_server.proofs.Deeds.{deed_drops, deed_lined, deed_replied}
use Rattle.mvd_server.proofs.Writing.{asked_kept, asked_none}
use Rattle.mvd_server.proofs.talks.Talks.tell.Goals as goal

pub returns-in_default-clause-deeds : goal.returns-in_default-clause-deeds
returns-in_default-clause-deeds c = λ before takes.
    let old = talking_of c.args.self.now in
    deed_drops c.args.number c.args.reply.now before old _ takes (sym c.in_default.ensures.value) (ap (λ m. record old { webs = m.entries }) c.get_mut.follows.holds-at-none)

pub returns-in_default-get_mut-clause-deeds : goal.returns-in_default-get_mut-clause-deeds
returns-in_default-get_mut-clause-deeds c = λ before takes.
    let old = talking_of c.args.self.now in
    let web = c.tell_reply.new.web in
    let entries = (c.get_mut.follows.lender web).entries in
    subst (λ m. Deeds before (record old { webs = entries; batches = m.entries })) (sym c.get_mut-2.follows.holds-at-none)
    (deed_replied c.args.number c.args.reply.now c.in-Some.web.now web before old entries takes (sym c.in-Some.ensures.value) c.tell_reply.ensures (c.get_mut.follows.holds web).0)

pub returns-then-is_none-clause-deeds : goal.returns-then-is_none-clause-deeds
returns-then-is_none-clause-deeds c = λ before takes.
    let n = c.args.number in
    let old = talking_of c.args.self.now in
    let web = c.answer_writes.new.web in
    let batch = c.answer_writes.new.batch in
    deed_lined n c.args.reply.now c.in-Some.web.now web c.in-Some-get_mut.batch.now batch before old c.remove.new.self.entries (c.get_mut.follows.lender web).entries takes (sym c.in-Some.ensures.value) (sym c.in-Some-get_mut.ensures.value) (c.answer_writes.ensures n before.hand old.hand takes.0)
    (inr (asked_none c.asked.result _ c.is_none.result c.asked.ensures c.is_none.ensures c.if-is_none.true, c.remove.ensures.entries ∙ ap (λ l. remove_entry (is_at (nat_cmp n)) l) (c.get_mut-2.follows.holds batch).0)) (c.get_mut.follows.holds web).0

pub returns-else-is_none-clause-deeds : goal.returns-else-is_none-clause-deeds
returns-else-is_none-clause-deeds c = λ before takes.
    let n = c.args.number in
    let old = talking_of c.args.self.now in
    let web = c.answer_writes.new.web in
    let batch = c.answer_writes.new.batch in
    let tells = c.answer_writes.ensures n before.hand old.hand takes.0 in
    deed_lined n c.args.reply.now c.in-Some.web.now web c.in-Some-get_mut.batch.now batch before old (c.get_mut-2.follows.lender batch).entries (c.get_mut.follows.lender web).entries takes (sym c.in-Some.ensures.value) (sym c.in-Some-get_mut.ensures.value) tells
    (inl (asked_kept c.asked.result c.is_none.result tells.1.2.0 _ batch _ c.asked.ensures c.is_none.ensures c.if-is_none.false tells.1.2.3, (c.get_mut-2.follows.holds batch).0)) (c.get_mut.follows.holds web).0
