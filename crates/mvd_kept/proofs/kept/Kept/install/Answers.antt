use Rattle.std.proofs.Common.{◌≡◌, ℕ, List, [], ◌∷◌, false, Option, Some, ap, sym, ◌∙◌, subst, subst₂}
use Rattle.std.specs.FinMap.{insert}
use Rattle.mvd_rows.specs.Stands.{IsRowsOf}
use Rattle.mvd_keys.specs.Writes.{Key}
use Rattle.mvd_tree.specs.Change.{changed, changed_all}
use Rattle.mvd_tree.specs.States.{key_digest}
use Rattle.mvd_kept.specs.Answer.{spelled}
use Rattle.mvd_kept.specs.Costs.{ChangeCosts}
use Rattle.mvd_kept.specs.Sites.{SiteValue, has_no_room}
use Rattle.mvd_kept.proofs.Digested.{keeps_inserted}
use Rattle.mvd_kept.proofs.Outcomes.{where_ok}
use Rattle.mvd_kept.proofs.InstallSpent.{one_takes}
use Rattle.mvd_kept.proofs.Spent.{not_put_in_costs, put_in_costs, with_hashed}
use Rattle.mvd_kept.proofs.kept.Kept.install.Goals as goal

pub invariant_of-self-in-Ok : goal.invariant_of-self-in-Ok
invariant_of-self-in-Ok c =
    let key = c.args.change.key in
    let states = c.self.inside.states in
    let room : has_no_room c.self.inside.config states key ≡ false = ap (λ (s : SiteValue). has_no_room s.config s.states key) c.self.view_is ∙ c.requires.room in
    let config = c.self.inside.config in
    let digested : c.change-2.new.self ≡ changed c.self.inside.tree key (Some (key_digest spelled key c.args.change.state)) =
    where_ok c.change-2.result _ c.change-2.ensures.ok (sym c.if-not-digested.ensures.negation)
    ∙ ap (changed_all c.self.inside.tree) (c.from_ref.ensures.value ∙ ap (λ m. m ∷ []) c.new-moved.ensures.change)
    ∙ (λ i. changed c.self.inside.tree (c.into_parts-key.ensures.key i) (Some (c.digest-digest.ensures.digest i))) in
    let k_is : c.into_key.result ≡ key = c.into_key.ensures ∙ ap (λ (m : Key × Option (List ℕ)). m.0) c.new-moved.ensures.change ∙ c.into_parts-key.ensures.key in
    let is : c.replace.new.self ≡ insert states key c.args.change.state =
    c.in-Ok.ensures.ok ∙ (λ i. insert states (k_is i) (c.into_parts-key.ensures.state i)) in
    let listed : IsRowsOf c.self.inside.rows config.defs states → IsRowsOf c.replace.new.rows config.defs (insert states key c.args.change.state) =
    λ rows. subst₂ (λ k s. IsRowsOf c.replace.new.rows config.defs (insert states k s)) k_is c.into_parts-key.ensures.state
    (c.in-Ok.ensures.stand config.defs rows) in
    keeps_inserted config states c.replace.new.self c.self.inside.tree c.change-2.new.self c.self.inside.rows c.replace.new.rows c.self.inside.broken key c.args.change.state c.self.invariant room is digested listed

pub returns-in-Ok-clause-costs : goal.returns-in-Ok-clause-costs
returns-in-Ok-clause-costs c =
    let took = one_takes c.self.inside.tree c.change-2.new.self c.args.change c.into_parts-key.result.0 c.digest-digest.result c.from_ref.result.now c.change-2.result
    c.args.work.now.hashed c.digest-digest.new.hashed c.new-moved.new.hashed c.change-2.new.hashed c.into_parts-key.ensures.key c.digest-digest.ensures.digest
    (c.from_ref.ensures.value ∙ ap (λ m. m ∷ []) c.new-moved.ensures.change) c.digest-digest.ensures.counts c.new-moved.ensures.counts c.change-2.ensures in
    subst (λ site. ChangeCosts 0 site c.args.change.key c.args.change.state c.args.work.now c.replace.new.work) c.self.view_is
    (put_in_costs c.self.inside.config c.self.inside.states c.self.inside.broken c.self.inside.tree c.self.inside.rows c.args.change c.into_key.result c.into_parts-key.result.1
    c.args.work.now c.replace.new.work c.change-2.new.hashed c.self.invariant (c.if-self.false)
    (c.into_key.ensures ∙ ap (λ (m : Key × Option (List ℕ)). m.0) c.new-moved.ensures.change ∙ c.into_parts-key.ensures.key) c.into_parts-key.ensures.state
    took c.replace.ensures.hashed c.replace.ensures.looked c.replace.ensures.rows)

pub returns-in-Err-clause-costs : goal.returns-in-Err-clause-costs
returns-in-Err-clause-costs c =
    let took = one_takes c.self.inside.tree c.change-2.new.self c.args.change c.into_parts-key.result.0 c.digest-digest.result c.from_ref.result.now c.change-2.result
    c.args.work.now.hashed c.digest-digest.new.hashed c.new-moved.new.hashed c.change-2.new.hashed c.into_parts-key.ensures.key c.digest-digest.ensures.digest
    (c.from_ref.ensures.value ∙ ap (λ m. m ∷ []) c.new-moved.ensures.change) c.digest-digest.ensures.counts c.new-moved.ensures.counts c.change-2.ensures in
    subst (λ site. ChangeCosts 0 site c.args.change.key c.args.change.state c.args.work.now c.replace.new.work) c.self.view_is
    (put_in_costs c.self.inside.config c.self.inside.states c.self.inside.broken c.self.inside.tree c.self.inside.rows c.args.change c.into_key.result c.into_parts-key.result.1
    c.args.work.now c.replace.new.work c.change-2.new.hashed c.self.invariant (c.if-self.false)
    (c.into_key.ensures ∙ ap (λ (m : Key × Option (List ℕ)). m.0) c.new-moved.ensures.change ∙ c.into_parts-key.ensures.key) c.into_parts-key.ensures.state
    took c.replace.ensures.hashed c.replace.ensures.looked c.replace.ensures.rows)

pub returns-then-not-digested-clause-costs : goal.returns-then-not-digested-clause-costs
returns-then-not-digested-clause-costs c =
    let took = one_takes c.self.inside.tree c.change-2.new.self c.args.change c.into_parts-key.result.0 c.digest-digest.result c.from_ref.result.now c.change-2.result
    c.args.work.now.hashed c.digest-digest.new.hashed c.new-moved.new.hashed c.change-2.new.hashed c.into_parts-key.ensures.key c.digest-digest.ensures.digest
    (c.from_ref.ensures.value ∙ ap (λ m. m ∷ []) c.new-moved.ensures.change) c.digest-digest.ensures.counts c.new-moved.ensures.counts c.change-2.ensures in
    subst (λ site. ChangeCosts 0 site c.args.change.key c.args.change.state c.args.work.now (with_hashed c.args.work.now c.change-2.new.hashed)) c.self.view_is
    (not_put_in_costs c.self.inside.config c.self.inside.states c.self.inside.broken c.self.inside.tree c.self.inside.rows c.args.change c.args.work.now c.change-2.new.hashed c.self.invariant (c.if-self.false) took)
