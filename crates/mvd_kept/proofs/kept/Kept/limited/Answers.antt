use Rattle.std.proofs.Common.{◌≡◌, false, refl, sym, ◌∙◌, subst}
use Rattle.mvd_kept.specs.Answer.{is_too_large}
use Rattle.mvd_kept.specs.Change.{change_reply}
use Rattle.mvd_kept.specs.Held.{state_at}
use Rattle.mvd_kept.proofs.Lengths.{is_short}
use Rattle.mvd_kept.proofs.Outcomes.{change_plain}
use Rattle.mvd_kept.specs.Over.{with_states}
use Rattle.mvd_kept.specs.Prepared.{IsPlain}
use Rattle.mvd_kept.proofs.Steps.{within-still}
use Rattle.mvd_kept.proofs.kept.Kept.limited.Goals as goal

pub returns-then-same-clause-limits : goal.returns-then-same-clause-limits
returns-then-same-clause-limits c = λ states found.
    let site = with_states c.args.self.now states in
    let small : is_too_large c.args.after ≡ false = is_short c.args.after c.state_length.result c.state_length.ensures.length c.if-state_length-gt-STATE_LIMIT.false in
    let still : c.args.after ≡ state_at site.states c.args.key.now = sym (c.if-same.ensures.0 refl) ∙ found.state in
    (within-still site.config site.states c.args.key.now c.args.after (change_reply c.args.dot) small still ∙ sym c.reply_of.ensures, c.reply_of.ensures, still)

pub returns-then-same-clause-ready : goal.returns-then-same-clause-ready
returns-then-same-clause-ready c = λ states found. subst IsPlain (sym c.reply_of.ensures) (change_plain c.args.dot)
