use Rattle.std.proofs.Common.{◌∙◌}
use Rattle.mvd_kept.proofs.Digested.{digest_is}
use Rattle.mvd_kept.proofs.opening.digest_of.Goals as goal

pub returns-clause-digest : goal.returns-clause-digest
returns-clause-digest c =
    c.key_digest.ensures.digest ∙ digest_is c.args.key.now c.args.state.now c.deref.result.now (c.deref.ensures.value ∙ c.in_ok-bytes.ensures.spells.whole)
