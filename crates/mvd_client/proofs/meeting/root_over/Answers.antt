use Rattle.std.proofs.Common.{◌≡◌, Result, Ok, Err, inr, refl, subst}
use Rattle.mvd_dots.specs.declared.refusals.Refusal.{Refusal}
use Rattle.mvd_remote.specs.Remotes.{AsksOver, node_query}
use Rattle.mvd_client.proofs.meeting.root_over.Goals as goal

same_ok : {A : Type 0} (x y : A) → ◌≡◌ {A = Result A Refusal} (Ok x) (Ok y) → y ≡ x
same_ok x y is = cc

pub returns-clause-asked : goal.returns-clause-asked
returns-clause-asked g c = inr (Err c.in-Err.refusal, subst (λ path. AsksOver g.L.Line (node_query path) c.args.remote.now c.node.new.self (Err c.in-Err.refusal)) (same_ok _ _ c.in_ok-path.ensures) c.in-Err.ensures.asked, refl)
