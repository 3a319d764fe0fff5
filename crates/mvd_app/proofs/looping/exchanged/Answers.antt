use Rattle.std.proofs.Common.{◌∙◌, List, ℕ, Some, [], subst, sym}
use Rattle.mvd_app.specs.Looped.{ServesAlone}
use Rattle.mvd_app.proofs.Loops.{awaited_all}
use Rattle.mvd_app.proofs.looping.exchanged.Goals as goal

pub returns-clause-served : goal.returns-clause-served
returns-clause-served g c =
    let came = awaited_all c.new.result.rest.now c.in_ok-came.came.items (Some c.read_input.new.reader.rest.now) c.in_ok-came.ensures.all.0 c.in_ok-came.ensures.all.1 in
    subst (λ (b : List ℕ). ServesAlone c.args.config (Some c.args.requests.now) (Some []) (Some b) c.in_ok-replies.ended) (sym (came ∙ c.new.ensures ∙ c.deref.ensures.value)) c.in_ok-replies.ensures.served
