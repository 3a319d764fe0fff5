use Rattle.std.proofs.Common.{refl, rules, subst}
use Rattle.mvd_client.specs.LetIn.{ShowsToken}
use Rattle.mvd_client.specs.LetIn.LeadsNowhere.{no_line, not_taken}
use Rattle.mvd_client.proofs.dial.let_in.Goals as goal

pub returns-in-Err-clause-nowhere : goal.returns-in-Err-clause-nowhere
returns-in-Err-clause-nowhere g c = no_line c.in-Err.ensures.none

pub returns-in_default-clause-line : goal.returns-in_default-clause-line
returns-in_default-clause-line g c = (c.in-Ok.line, c.in-Ok.ensures.line.0, c.in-Ok.ensures.line.1, search rules)

pub returns-in-Ok-told-clause-line : goal.returns-in-Ok-told-clause-line
returns-in-Ok-told-clause-line g c = (
  c.in-Ok.line,
  c.in-Ok.ensures.line.0,
  c.in-Ok.ensures.line.1,
  rw c.in-Some.is (c.shown-remote.result.0, subst (ShowsToken g.D.Dialed.Line c.in-Some.token.now c.in-Ok.line c.shown-remote.result.0) c.in-Ok-told.is c.shown-remote.ensures, c.into_line.ensures),
)

pub returns-in-Err-told-clause-nowhere : goal.returns-in-Err-told-clause-nowhere
returns-in-Err-told-clause-nowhere g c =
    not_taken c.in-Some.token.now (rw c.in-Some.is refl) c.in-Ok.line c.in-Ok.ensures.line.0 c.dial.new.gone c.in-Ok.ensures.line.1 c.shown-remote.result.0 c.in-Err-told.refusal
    (subst (ShowsToken g.D.Dialed.Line c.in-Some.token.now c.in-Ok.line c.shown-remote.result.0) c.in-Err-told.is c.shown-remote.ensures) c.lets_go.ensures refl
