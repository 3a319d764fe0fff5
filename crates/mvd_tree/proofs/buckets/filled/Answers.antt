use Rattle.std.proofs.Common.{◌≡◌, ◌++◌, ◌∷◌, sym, ap, subst, ◌∙◌, arith, append_assoc, get_or, length-append, ℕ, List, [], T}
use Rattle.std.specs.FinMap.{empty, insert, is_sorted}
use Rattle.std.specs.Vec.Iter.{into_iter_items}
use Rattle.mvd_keys.specs.Key.{key_cmp}
use Rattle.mvd_tree.specs.Counted.{all_keys}
use Rattle.mvd_tree.proofs.Counts.{bytes_more, hashes_then, keys_set, no_keys, one_key}
use Rattle.mvd_tree.proofs.Opened.{hold_none, hold_more}
use Rattle.mvd_tree.proofs.buckets.filled.Goals as goal

pub loop-key-init : goal.loop-key-init
loop-key-init c =
    let none : all_keys c.in_ok-buckets.buckets.items ≡ 0 = no_keys c.in_ok-buckets.buckets.items c.in_ok-buckets.ensures.1 in (
      tt,
      tt,
      c.into_iter-key-iterator.ensures.into_iter_gives.0,
      hold_none c.in_ok-buckets.buckets.items c.in_ok-buckets.ensures.0 c.in_ok-buckets.ensures.1,
      omega (arith, none),
      record { ends = omega arith; reads = omega arith; least_ends = omega arith; least_reads = omega arith },
    )

pub loop-key-preserved : goal.loop-key-preserved
loop-key-preserved c =
    let entry : List ℕ × List ℕ = (c.in-Some.key, c.in-Some.digest) in
    let rest = into_iter_items c.next.new.self in
    let all : c.loop-key.yielded ++ entry ∷ rest ≡ c.args.entries.items = ap (λ es. c.loop-key.yielded ++ es) (sym c.in-Some.ensures.steps.0) ∙ c.loop-key.invariant.2 in
    let longer = length-append c.loop-key.yielded (entry ∷ []) in (
      tt,
      tt,
      append_assoc c.loop-key.yielded (entry ∷ []) rest ∙ all,
      hold_more c.loop-key.buckets.items c.put_in.new.buckets.items c.loop-key.yielded rest entry c.bucket_number-number.result c.loop-key.invariant.3
          (subst (λ es. T (is_sorted key_cmp es)) (sym all) c.requires) c.bucket_number-number.ensures.number c.in_ok-put_in.ensures,
      omega (
        arith,
        longer,
        ap all_keys (c.in_ok-put_in.ensures),
        c.loop-key.invariant.4,
        keys_set c.loop-key.buckets.items c.bucket_number-number.result (insert (get_or c.loop-key.buckets.items c.bucket_number-number.result empty) c.in-Some.key c.in-Some.digest)
            (one_key (get_or c.loop-key.buckets.items c.bucket_number-number.result empty) c.in-Some.key c.in-Some.digest),
      ),
      hashes_then _ _ _ _ _ _ _ c.loop-key.hashed _ (omega (arith, longer)) (omega (arith, bytes_more c.loop-key.yielded entry)) c.loop-key.invariant.5 c.bucket_number-number.ensures.counts,
    )
