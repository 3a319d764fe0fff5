use Rattle.std.proofs.Common.{◌≡◌, ◌++◌, ◌∷◌, [], true, not, filter, drop, rules, arith, sym, inl, inr}
use Rattle.std.proofs.lemmas.List.{take_rest}
use Rattle.std.specs.Str.{bytes_eq}
use Rattle.std.specs.FinSet.{contains}
use Rattle.mvd_keys.specs.State.{pairs_of}
use Rattle.mvd_keys.proofs.Merging.{IsJoined, first_step, second_step, both_step, differ_here, last_step}
use Rattle.mvd_keys.proofs.Parts.{is_true, joined_siblings, not_clashing, clashing}
use Rattle.mvd_keys.proofs.states.join_siblings.Goals as goal
use Rattle.mvd_keys.proofs.states.join_siblings.Goals.{then-loop-i-test+else-j-second, else-loop-i-test}

pub loop-i-preserved-in-Less : goal.loop-i-preserved-in-Less
loop-i-preserved-in-Less c = record {
  first_in = omega arith;
  second_in = omega arith;
  merging = first_step _ _ _ _ _ _ _ _ _ _ c.loop-i-test.true c.if-j-second.true c.index-first-i.is c.index-second-j.is c.loop-i.invariant.merging (sym c.in-Less.ensures) c.in_ok-push_unseen-in-Less.ensures.ok;
}

pub loop-i-preserved-in-Greater : goal.loop-i-preserved-in-Greater
loop-i-preserved-in-Greater c = record {
  first_in = omega arith;
  second_in = omega arith;
  merging = second_step _ _ _ _ _ _ _ _ _ _ c.loop-i-test.true c.if-j-second.true c.index-first-i.is c.index-second-j.is c.loop-i.invariant.merging (sym c.in-Greater.ensures) c.in_ok-push_unseen-in-Greater.ensures.ok;
}

pub loop-i-preserved : goal.loop-i-preserved
loop-i-preserved c =
    let same : c.index-first-i.result.document ≡ c.index-second-j.result.document = search rules in
    let more : c.push.new.self.items ≡ c.loop-i.out.items ++ c.index-first-i.result ∷ [] = search rules in
    record {
      first_in = omega arith;
      second_in = omega arith;
      merging = both_step _ _ _ _ _ _ _ _ _ _ c.loop-i-test.true c.if-j-second.true c.index-first-i.is c.index-second-j.is c.loop-i.invariant.merging (sym c.in-Equal.ensures) same more;
    }

pub returns-then-ne-clause-clash : goal.returns-then-ne-clause-clash
returns-then-ne-clause-clash c no_memory =
    let other : not (bytes_eq c.index-first-i.result.document c.index-second-j.result.document) ≡ true = search rules in (
      search rules,
      clashing c.args.first.now c.args.second.now c.args.seen.now c.args.also_seen.now c.index-first-i.result.dot
          (differ_here _ _ _ _ c.loop-i.out.items c.loop-i.out.items _ _ _ _ c.loop-i-test.true c.if-j-second.true c.index-first-i.is c.index-second-j.is c.loop-i.invariant.merging (sym c.in-Equal.ensures) other),
    )

pub returns : goal.returns
returns c =
    let once : c.push_all_unseen.new.out.items ≡ c.loop-i.out.items ++ filter (λ s. not (contains c.args.also_seen.now s.dot)) (drop c.loop-i.i c.args.first.now) = search (rules, take_rest) in
    let twice : c.push_all_unseen-2.new.out.items ≡ c.push_all_unseen.new.out.items ++ filter (λ s. not (contains c.args.seen.now s.dot)) (drop c.loop-i.j c.args.second.now) = search (rules, take_rest) in
    let joined : IsJoined c.args.seen.now c.args.also_seen.now (pairs_of c.args.first.now) (pairs_of c.args.second.now) (pairs_of c.push_all_unseen-2.new.out.items)
    = last_step _ _ _ _ _ _ _ _ _ (elim c.loop-i-test.branch [ then-loop-i-test+else-j-second w ↦ inr w.if-j-second.false | else-loop-i-test w ↦ inl w.loop-i-test.false ]) c.loop-i.invariant.merging once twice in
    record {
      rising = is_true _ joined.rises;
      siblings = joined_siblings c.args.first.now c.args.second.now c.args.seen.now c.args.also_seen.now c.push_all_unseen-2.new.out.items joined;
      no_clash = not_clashing c.args.first.now c.args.second.now c.args.seen.now c.args.also_seen.now joined.apart;
      clash = tt;
    }
