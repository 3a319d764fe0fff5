use Rattle.std.proofs.Common.{◌≡◌, ◌⊎◌, ◌≤◌, rules, arith, true, true≢false, not, length, sym, ap₂, inl, inr, drop, ◌∙◌}
use Rattle.std.specs.Str.{bytes_eq}
use Rattle.std.proofs.lemmas.List.{take_rest}
use Rattle.std.specs.List.{list_all}
use Rattle.std.specs.FinSet.{contains}
use Rattle.mvd_keys.proofs.Leaving.{all_unseen, lesser_unseen, one_context, one_document}
use Rattle.mvd_keys.proofs.Including.{unseen_stays, seen_passes, both_stay, stays_whole}
use Rattle.mvd_keys.proofs.states.stays.Goals as goal
use Rattle.mvd_keys.proofs.states.stays.Goals.{then-loop-i-test+else-j-second, else-loop-i-test}

pub loop-i-preserved-in-Less : goal.loop-i-preserved-in-Less
loop-i-preserved-in-Less c = record {
  first_in = omega arith;
  second_in = omega arith;
  merging = unseen_stays _ _ _ _ c.requires.first c.requires.second (c.includes.ensures.0 c.if-not-includes.false) _ _ _ _ c.loop-i-test.true c.if-j-second.true c.index-first-i.is c.index-second-j.is c.loop-i.invariant.merging (sym c.in-Less.ensures) (search rules);
}

pub loop-i-preserved-in-Greater : goal.loop-i-preserved-in-Greater
loop-i-preserved-in-Greater c = record {
  first_in = omega arith;
  second_in = omega arith;
  merging = seen_passes _ _ _ _ c.requires.first c.requires.second (c.includes.ensures.0 c.if-not-includes.false) _ _ _ _ c.loop-i-test.true c.if-j-second.true c.index-first-i.is c.index-second-j.is c.loop-i.invariant.merging (sym c.in-Greater.ensures);
}

pub loop-i-preserved : goal.loop-i-preserved
loop-i-preserved c =
    let same : c.index-first-i.result.document ≡ c.index-second-j.result.document = search rules in
    record {
      first_in = omega arith;
      second_in = omega arith;
      merging = both_stay _ _ _ _ c.requires.first c.requires.second (c.includes.ensures.0 c.if-not-includes.false) _ _ _ _ c.loop-i-test.true c.if-j-second.true c.index-first-i.is c.index-second-j.is c.loop-i.invariant.merging (sym c.in-Equal.ensures) same;
    }

pub returns-then-not-includes : goal.returns-then-not-includes
returns-then-not-includes c = (
  λ h. absurd (true≢false (sym h)),
  λ is. absurd (true≢false (sym (c.includes.ensures.1 (one_context c.args.seen.now c.args.also_seen.now c.args.first.now c.args.second.now is)) ∙ c.if-not-includes.true)),
)

pub returns-then-contains : goal.returns-then-contains
returns-then-contains c = (
  λ h. absurd (true≢false (sym h)),
  λ is. absurd (true≢false (sym c.if-contains.true ∙ c.contains.ensures
      ∙ lesser_unseen _ _ _ _ is _ _ c.loop-i.invariant.merging _ _ c.loop-i-test.true c.if-j-second.true c.index-first-i.is c.index-second-j.is (sym c.in-Less.ensures))),
)

pub returns-then-ne : goal.returns-then-ne
returns-then-ne c = (
  λ h. absurd (true≢false (sym h)),
  λ is. absurd (true≢false (sym c.if-ne.true ∙ c.ne.ensures ∙ ap₂ (λ x y. not (bytes_eq x y)) c.text.ensures.same c.text-in-Equal.ensures.same
      ∙ one_document _ _ _ _ is _ _ c.loop-i.invariant.merging _ _ c.loop-i-test.true c.if-j-second.true c.index-first-i.is c.index-second-j.is (sym c.in-Equal.ensures))),
)

pub returns : goal.returns
returns c =
    let ended : (length c.args.first.now ≤ c.loop-i.i) ⊎ (length c.args.second.now ≤ c.loop-i.j) =
    elim c.loop-i-test.branch [ then-loop-i-test+else-j-second w ↦ inr w.if-j-second.false | else-loop-i-test w ↦ inl w.loop-i-test.false ] in (
      λ h.
          let rest : list_all (λ s. not (contains c.args.also_seen.now s.dot)) (drop c.loop-i.i c.args.first.now) ≡ true = search (rules, take_rest) in
          stays_whole c.args.seen.now c.args.also_seen.now c.args.first.now c.args.second.now c.requires.first c.requires.second (c.includes.ensures.0 c.if-not-includes.false) c.loop-i.i c.loop-i.j
          ended c.loop-i.invariant.merging rest,
      λ is.
          let rest : list_all (λ s. not (contains c.args.also_seen.now s.dot)) (drop c.loop-i.i c.args.first.now) ≡ true =
          all_unseen c.args.seen.now c.args.also_seen.now c.args.first.now c.args.second.now is c.loop-i.i c.loop-i.j c.loop-i.invariant.merging ended in
          search (rules, take_rest, rest),
    )
