use Rattle.std.proofs.Common.{◌≡◌, ◌∙◌, Option, Some, ap, subst, sym}
use Rattle.mvd_conn.specs.Guard.{guard_met}
use Rattle.mvd_conn.specs.History.{History, coming}
use Rattle.mvd_conn.specs.Inside.{history_of}
use Rattle.mvd_conn.specs.declared.guard.Guard.{Guard}
use Rattle.mvd_conn.proofs.KeptLemmas.{kept_met}
use Rattle.mvd_conn.proofs.connection.Connection.meet.Goals as goal

pub invariant_of-self : goal.invariant_of-self
invariant_of-self c =
    let met = λ (h : History) (guard : Option Guard). guard_met c.args.passes.now h.taken (coming h) guard in
    let is : Some c.guard_met.result ≡ met (history_of c.self.inside) c.self.inside.guard =
    subst (λ (h : History). Some c.guard_met.result ≡ met h c.self.inside.guard) (sym c.self.view_is)
    (c.guard_met.ensures ∙ ap (met c.args.self.now) (sym c.in-Some.is)) in
    kept_met c.self.inside c.args.passes.now (Some c.guard_met.result) is c.self.invariant
