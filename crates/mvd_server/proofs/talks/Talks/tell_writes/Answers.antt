use Rattle.std.proofs.Common.{◌≡◌, Option, None, Some, ap, ap₂, inl, inr, refl, sym, ◌∙◌}
use Rattle.std.proofs.lemmas.Map.Steps.{set_value_same}
use Rattle.std.specs.BTreeMap.{is_at}
use Rattle.std.specs.Map.{remove_entry}
use Rattle.std.specs.Ordering.{nat_cmp}
use Rattle.mvd_server.specs.Errands.{TellsMany}
use Rattle.mvd_server.specs.Talking.{talking_of}
use Rattle.mvd_server.specs.declared.batch.Batch.{Batch}
use Rattle.mvd_web.specs.declared.web_connection.WebConnection.{WebConnection}
use Rattle.mvd_server.proofs.AtOnce.{tells_first}
use Rattle.mvd_server.proofs.Deeds.{deed_attends, deeds_same}
use Rattle.mvd_server.proofs.Writing.{asked_kept, asked_none}
use Rattle.mvd_server.proofs.talks.Talks.tell_writes.Goals as goal

pub returns-in_default-get_mut-clause-deeds : goal.returns-in_default-get_mut-clause-deeds
returns-in_default-get_mut-clause-deeds c =
    let old = talking_of c.args.self.now in
    let web = c.in-Some.web.now in
    deeds_same old _ (ap₂ (λ webs m. record old { webs = webs; batches = m.entries }) ((c.get_mut.follows.holds web).0 ∙ set_value_same (is_at (nat_cmp c.args.number)) old.webs web (sym c.in-Some.ensures.value)) c.get_mut-2.follows.holds-at-none)

pub returns-then-is_none-clause-deeds : goal.returns-then-is_none-clause-deeds
returns-then-is_none-clause-deeds c =
    let n = c.args.number in
    let old = talking_of c.args.self.now in
    let web = c.answer_writes.new.web in
    let batch = c.answer_writes.new.batch in
    deed_attends n (TellsMany c.in-Some-get_mut.batch.now batch) c.in-Some.web.now web old old.hand c.remove.new.self.entries (c.get_mut.follows.lender web).entries (sym c.in-Some.ensures.value)
    (λ site. (sym c.in-Some-get_mut.ensures.value, c.answer_writes.ensures n old.hand old.hand refl, inr (asked_none c.asked.result _ c.is_none.result c.asked.ensures c.is_none.ensures c.if-is_none.true, c.remove.ensures.entries ∙ ap (λ l. remove_entry (is_at (nat_cmp n)) l) (c.get_mut-2.follows.holds batch).0))) (c.get_mut.follows.holds web).0

pub returns-else-is_none-clause-deeds : goal.returns-else-is_none-clause-deeds
returns-else-is_none-clause-deeds c =
    let n = c.args.number in
    let old = talking_of c.args.self.now in
    let web = c.answer_writes.new.web in
    let batch = c.answer_writes.new.batch in
    let tells = c.answer_writes.ensures n old.hand old.hand refl in
    deed_attends n (TellsMany c.in-Some-get_mut.batch.now batch) c.in-Some.web.now web old old.hand (c.get_mut-2.follows.lender batch).entries (c.get_mut.follows.lender web).entries (sym c.in-Some.ensures.value)
    (λ site. (sym c.in-Some-get_mut.ensures.value, tells, inl (asked_kept c.asked.result c.is_none.result tells.1.2.0 _ batch _ c.asked.ensures c.is_none.ensures c.if-is_none.false tells.1.2.3, (c.get_mut-2.follows.holds batch).0))) (c.get_mut.follows.holds web).0

pub returns-in_default-clause-told : goal.returns-in_default-clause-told
returns-in_default-clause-told c = λ web batch has own. absurd (let no : ◌≡◌ {A = Option WebConnection} None (Some web) = c.in_default.ensures.value ∙ has in cc)

pub returns-in_default-get_mut-clause-told : goal.returns-in_default-get_mut-clause-told
returns-in_default-get_mut-clause-told c = λ web batch has own. absurd (let no : ◌≡◌ {A = Option Batch} None (Some batch) = c.in_default-get_mut.ensures.value ∙ own in cc)

pub returns-then-is_none-clause-told : goal.returns-then-is_none-clause-told
returns-then-is_none-clause-told c =
    let n = c.args.number in
    let old = talking_of c.args.self.now in
    let web = c.answer_writes.new.web in
    let batch = c.answer_writes.new.batch in
    tells_first n c.in-Some.web.now web c.in-Some-get_mut.batch.now batch old c.remove.new.self.entries (c.get_mut.follows.lender web).entries (sym c.in-Some.ensures.value) (sym c.in-Some-get_mut.ensures.value) (c.answer_writes.ensures n old.hand old.hand refl)
    (inr (asked_none c.asked.result _ c.is_none.result c.asked.ensures c.is_none.ensures c.if-is_none.true, c.remove.ensures.entries ∙ ap (λ l. remove_entry (is_at (nat_cmp n)) l) (c.get_mut-2.follows.holds batch).0)) (c.get_mut.follows.holds web).0

pub returns-else-is_none-clause-told : goal.returns-else-is_none-clause-told
returns-else-is_none-clause-told c =
    let n = c.args.number in
    let old = talking_of c.args.self.now in
    let web = c.answer_writes.new.web in
    let batch = c.answer_writes.new.batch in
    let tells = c.answer_writes.ensures n old.hand old.hand refl in
    tells_first n c.in-Some.web.now web c.in-Some-get_mut.batch.now batch old (c.get_mut-2.follows.lender batch).entries (c.get_mut.follows.lender web).entries (sym c.in-Some.ensures.value) (sym c.in-Some-get_mut.ensures.value) tells
    (inl (asked_kept c.asked.result c.is_none.result tells.1.2.0 _ batch _ c.asked.ensures c.is_none.ensures c.if-is_none.false tells.1.2.3, (c.get_mut-2.follows.holds batch).0)) (c.get_mut.follows.holds web).0
