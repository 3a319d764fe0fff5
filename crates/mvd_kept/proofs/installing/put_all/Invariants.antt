use Rattle.std.proofs.Common.{◌≡◌, ◌⊎◌, ◌≤◌, ◌+◌, false, true, length, drop, vec_capacity}
use Rattle.std.specs.FinMap.{len}
use Rattle.mvd_rows.specs.Stands.{IsRowsOf}
use Rattle.mvd_kept.specs.Installs.{InstallsAll, MayAllBeIn, changes_in, moved_in}
use Rattle.mvd_kept.proofs.InstallSpent.{PartCosts}
use Rattle.mvd_kept.proofs.installing.put_all.Given as goal

-- those so far are put in
abbrev pub invariant-loop-prepared : goal.invariant-loop-prepared
invariant-loop-prepared l = record {
  puts : InstallsAll (record { config = l.config; states = l.initial.states; broken = l.fn.was_broken }) (record { config = l.config; states = l.states; broken = l.broken }) l.yielded l.initial.replies.items l.replies.items;
  fresh : l.broken ≡ false → MayAllBeIn (record { config = l.config; states = l.states; broken = l.broken }) (drop (length l.yielded) l.fn.group.items);
  count : length l.replies.items ≡ length l.initial.replies.items + length l.yielded;
  space : vec_capacity l.replies ≡ vec_capacity l.initial.replies;
  few : len l.states ≤ l.config.max_keys;
  stand : l.broken ≡ false → IsRowsOf l.rows l.config.defs l.states;
  digested : l.broken ≡ false → (l.is_digested ≡ true) ⊎ (changes_in l.yielded ≡ 0);
  costs : PartCosts l.config.defs (changes_in l.yielded) (moved_in l.initial.states l.yielded) l.initial.work l.work;
  idle : l.fn.was_broken ≡ true → l.work ≡ l.initial.work;
}
