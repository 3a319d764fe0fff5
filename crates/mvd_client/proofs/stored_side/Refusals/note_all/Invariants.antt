use Rattle.std.specs.Prelude.{◌≡◌, ◌++◌, take}
use Rattle.mvd_client.specs.Refusals.{refused_in}
use Rattle.mvd_client.proofs.stored_side.Refusals.note_all.Given as goal

-- the refusals so far
abbrev pub invariant-loop-answer : goal.invariant-loop-answer
invariant-loop-answer g l = l.self.noted.items ≡ l.fn.self.noted.items ++ refused_in (take l.answer-index l.answers)
