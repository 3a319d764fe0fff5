use Rattle.std.proofs.Common.{◌≡◌, ℕ, List, ap, arith, sym, true≢false, ◌++◌, ◌∷◌, [], ◌∙◌}
use Rattle.mvd_sync.proofs.Nodes.{told_first, told_last, told_step}
use Rattle.mvd_sync.proofs.levels.add_children.Goals as goal
use Rattle.mvd_sync.proofs.levels.add_children.Goals.{then-not-is_same+in_ok-child+in_ok-push, else-not-is_same}

pub loop-digit-preserved : goal.loop-digit-preserved
loop-digit-preserved c =
    let mine : List ℕ × List (List ℕ) = (c.args.mine.now.own, c.args.mine.now.children) in
    let theirs : List ℕ × List (List ℕ) = (c.args.theirs.now.own, c.args.theirs.now.children) in
    let step = told_step c.loop-digit.below.items c.args.below.now.items c.args.path.now c.loop-digit.digit mine theirs c.loop-digit-test.true c.loop-digit.invariant in
    elim c.if-not-is_same.branch [
      | then-not-is_same+in_ok-child+in_ok-push w ↦
          ap (λ b. b.items) w.below-is ∙ w.in_ok-push.ensures.items ∙ ap (λ x. c.loop-digit.below.items ++ x ∷ []) w.in_ok-child.ensures.child
          ∙ step.0 (λ e. let t = c.is_same-in-loop-digit.ensures.1 e in let f = w.if-not-is_same.true in absurd (cc))
      | else-not-is_same w ↦ ap (λ b. b.items) w.below-is ∙ step.1 (c.is_same-in-loop-digit.ensures.0 (let f = w.if-not-is_same.false in cc))
    ]

pub returns-clause-added : goal.returns-clause-added
returns-clause-added c =
    let mine : List ℕ × List (List ℕ) = (c.args.mine.now.own, c.args.mine.now.children) in
    let theirs : List ℕ × List (List ℕ) = (c.args.theirs.now.own, c.args.theirs.now.children) in
    let end : c.loop-digit.digit ≡ 16 = omega (arith, c.loop-digit-test.false, c.loop-digit.auto.digit-end) in
    c.loop-digit.invariant
    ∙ ap (λ n. c.args.below.now.items ++ told_first c.args.path.now n mine theirs) end
    ∙ ap (λ xs. c.args.below.now.items ++ xs) (told_last c.args.path.now mine theirs (λ e. true≢false (sym (c.is_same.ensures.1 e) ∙ c.if-is_same.false)))
