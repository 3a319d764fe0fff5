use Rattle.std.proofs.Common.{refl}
use Rattle.mvd_tree.proofs.Wholly.{one_touched}
use Rattle.mvd_tree.proofs.laws.one_change_is_counted.Goals as goal

pub returns-clause-keys : goal.returns-clause-keys
returns-clause-keys c = λ held key digest. one_touched held key digest

pub returns-clause-nodes : goal.returns-clause-nodes
returns-clause-nodes c = λ key digest. refl
