use Rattle.std.proofs.Common.{◌≡◌, length, vec_capacity, ◌≤◌}
use Rattle.mvd_world.proofs.Asking.{AsksAll}
use Rattle.mvd_world.proofs.windows.tell.Given as goal

-- the first questions were asked
abbrev pub invariant-loop-question : goal.invariant-loop-question
invariant-loop-question g l = record {
  told : AsksAll g.Q.Question.pushes (λ setting. g.Q.Question.asks setting l.fn.site) l.fn.world l.world l.yielded l.answers.items;
  count : length l.answers.items ≡ length l.yielded;
  room : length l.fn.questions.items ≤ vec_capacity l.answers;
}
