use Rattle.std.proofs.Common.{ap, subst, length, ◌∙◌}
use Rattle.mvd_digest.specs.Counted.{Hashes}
use Rattle.mvd_tree.specs.States.{key_digest}
use Rattle.mvd_kept.specs.Answer.{spelled}
use Rattle.mvd_kept.specs.Change.{ChangeValue}
use Rattle.mvd_kept.proofs.Digested.{digest_is}
use Rattle.mvd_kept.proofs.prepared.Change.digest.Goals as goal

pub returns-clause-digest : goal.returns-clause-digest
returns-clause-digest c =
    c.key_digest.ensures.digest ∙ digest_is c.self.inside.key c.self.inside.state c.deref.result.now (c.deref.ensures.value ∙ c.self.invariant.whole)
    ∙ ap (λ (v : ChangeValue). key_digest spelled v.key v.state) c.self.view_is

pub returns-clause-counts : goal.returns-clause-counts
returns-clause-counts c =
    subst (λ n. Hashes 1 n c.args.hashed.now c.key_digest.new.hashed)
    (ap length (c.deref.ensures.value ∙ c.self.invariant.whole ∙ ap (λ (v : ChangeValue). spelled v.key v.state) c.self.view_is)) c.key_digest.ensures.counts
