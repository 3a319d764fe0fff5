use Rattle.std.proofs.Common.{◌∙◌, sym, length, take}
use Rattle.mvd_replica.proofs.replica.Replica.share.Goals as goal

pub commit-requires-clause-whole : goal.commit-requires-clause-whole
commit-requires-clause-whole g c = sym c.is_broken.ensures ∙ c.if-is_broken.false

pub commit-requires-clause-together : goal.commit-requires-clause-together
commit-requires-clause-together g c = (take (length c.in_ok-group.group.items) c.args.requests.now, c.in_ok-group.ensures.together (sym c.is_broken.ensures ∙ c.if-is_broken.false))
