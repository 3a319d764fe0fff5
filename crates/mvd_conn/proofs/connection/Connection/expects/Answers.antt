use Rattle.std.proofs.Common.{arith}
use Rattle.mvd_conn.proofs.KeptLemmas.{kept_expected}
use Rattle.mvd_conn.proofs.connection.Connection.expects.Goals as goal

pub invariant_of-self : goal.invariant_of-self
invariant_of-self c =
    let k = c.self.invariant in
    kept_expected c.self.inside c.max-self-inside.result (rw c.max-self-inside.ensures (omega arith)) (rw (c.max-self-inside.ensures, c.min.ensures) (omega (arith, k.few_brought))) k
