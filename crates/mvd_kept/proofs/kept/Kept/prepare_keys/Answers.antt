use Rattle.std.proofs.Common.{◌+◌, length, refl, ap, sym, ◌∙◌, subst}
use Rattle.std.proofs.lemmas.Result.{err_from_is_err_and}
use Rattle.std.specs.Option.{option_copied}
use Rattle.mvd_count.specs.Counted.{RoseBy}
use Rattle.mvd_rows.specs.Siblings.{keys_answer}
use Rattle.mvd_wire.specs.declared.reply.Reply.TheVariants.{Counts}
use Rattle.mvd_wire.specs.Replies.{CanBeSent}
use Rattle.mvd_wire.proofs.SentPages.{counts_can_be_sent}
use Rattle.mvd_kept.specs.Answer.{counts_reply}
use Rattle.mvd_kept.specs.Costs.{prepared_looks}
use Rattle.mvd_kept.specs.Sites.{SiteValue}
use Rattle.mvd_kept.proofs.Listed.{keys_page}
use Rattle.mvd_kept.proofs.Spent.{refused_keys}
use Rattle.mvd_kept.proofs.kept.Kept.prepare_keys.Goals as goal

pub returns-clause-answer : goal.returns-clause-answer
returns-clause-answer c =
    let after = option_copied c.args.after in
    ap (λ l. Counts l c.in_ok-keys.is_more) c.new.ensures
    ∙ sym (ap (λ (s : SiteValue). counts_reply (keys_answer s.states c.args.prefix.now after)) (sym c.self.view_is) ∙ ap counts_reply c.in_ok-keys.ensures.page)

pub returns-clause-ready : goal.returns-clause-ready
returns-clause-ready c =
    let page = keys_page c.self.inside.states c.args.prefix.now (option_copied c.args.after) c.in_ok-keys.keys.items c.in_ok-keys.is_more c.stands.ensures c.in_ok-keys.ensures.page in
    record { accepts = refl; fits = subst (λ l. CanBeSent (Counts l c.in_ok-keys.is_more)) (sym c.new.ensures) (counts_can_be_sent c.in_ok-keys.keys.items c.in_ok-keys.is_more page.each page.few) }

pub returns-clause-looked : goal.returns-clause-looked
returns-clause-looked c =
    subst (λ n. RoseBy (n + 2) c.args.looks.now c.keys.new.looks) (sym (ap length c.new.ensures)) c.in_ok-keys.ensures.given

pub returns-in_err-keys-clause-looked : goal.returns-in_err-keys-clause-looked
returns-in_err-keys-clause-looked c =
    let p = err_from_is_err_and c.from_residual.result c.from_residual.ensures.1 in
    subst (λ r. RoseBy (prepared_looks r) c.args.looks.now c.keys.new.looks) (sym p.1)
    (refused_keys p.0 c.args.looks.now c.keys.new.looks (p.2 ∙ c.in_err-keys.ensures.only) c.keys.ensures.looked)
