use Rattle.std.proofs.Common.{rules, ℕ, List, arith}
use Rattle.std.proofs.lemmas.Fn.{always_returns_same}
use Rattle.std.specs.Ordering.{nat_cmp, is_lt}
use Rattle.std.specs.Cmp.Lexicographic.{slice_cmp}
use Rattle.mvd_tree.proofs.Entries.{lower_first}
use Rattle.mvd_tree.proofs.bucket.count_below.Goals as goal

pub returns-clause-below : goal.returns-clause-below
returns-clause-below c =
    λ i d h. (c.partition_point.ensures.partitioned (λ (e : List ℕ × List ℕ). is_lt (slice_cmp nat_cmp e.0 c.args.key.now)) (always_returns_same _ _ _ (λ a r q k. search rules))
    (lower_first c.args.key.now c.args.entries.now c.requires)).0 i d (omega arith) h

pub returns-clause-from : goal.returns-clause-from
returns-clause-from c =
    λ i d h l. (c.partition_point.ensures.partitioned (λ (e : List ℕ × List ℕ). is_lt (slice_cmp nat_cmp e.0 c.args.key.now)) (always_returns_same _ _ _ (λ a r q k. search rules))
    (lower_first c.args.key.now c.args.entries.now c.requires)).1 i d h l
