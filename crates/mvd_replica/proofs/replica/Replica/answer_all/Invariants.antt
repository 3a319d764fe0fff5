use Rattle.std.proofs.Common.{◌-◌, ◌≤◌, length, take, vec_capacity}
use Rattle.mvd_replica.specs.Commits.{AnswersInCommits}
use Rattle.mvd_replica.proofs.replica.Replica.answer_all.Given as goal

abbrev pub decreases-groups : goal.decreases-groups
decreases-groups g l = length l.requests - length l.replies.items

-- those so far are answered
abbrev pub invariant-groups : goal.invariant-groups
invariant-groups g l = record {
  answers : AnswersInCommits (take (length l.replies.items) l.requests) l.replies.items l.initial.self l.self;
  within : length l.replies.items ≤ length l.requests;
  room : length l.requests ≤ vec_capacity l.replies;
}
