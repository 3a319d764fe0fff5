use Rattle.std.proofs.Common.{inl, inr, ◌∙◌}
use Rattle.mvd_replica.proofs.replica.Replica.row.Goals as goal

pub returns : goal.returns
returns g c = elim c.look_up-reply.ensures.tells [
  | inl is ↦ c.row_in.ensures ∙ is
  | inr memory ↦ absurd (c.look_up-reply.ensures.frugal tt memory.1)
]
