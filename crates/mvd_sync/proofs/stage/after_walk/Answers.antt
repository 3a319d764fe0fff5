use Rattle.std.proofs.Common.{◌≤◌, ◌∙◌, ap, arith, inl, inr, length, refl, sym}
use Rattle.std.proofs.lemmas.Bool.{cases_lt, eqb-true, eqb-false}
use Rattle.mvd_sync.specs.Machines.{ends, last}
use Rattle.mvd_sync.proofs.Machined.{drop_none, taken_none, walk_settles}
use Rattle.mvd_sync.proofs.stage.after_walk.Goals as goal

pub returns-then-not-is_done-clause-goes : goal.returns-then-not-is_done-clause-goes
returns-then-not-is_done-clause-goes c = walk_settles c.args.exchange.now c.args.walk c.next.new.self c.in_ok-found.found c.settle.new.exchange c.settle.result c.in_ok-found.ensures.goes c.settle.ensures.settles

pub returns-then-is_empty-clause-goes : goal.returns-then-is_empty-clause-goes
returns-then-is_empty-clause-goes c =
    let entries = c.in_ok-entries.entries in
    let old = c.args.exchange.now in
    let o = entries.ok.0 in
    let empty = eqb-true entries.len 0 (sym c.is_empty.ensures ∙ c.if-is_empty.true) in
    let none = taken_none old.waiting entries.items c.in_ok-entries.ensures.some (omega (arith, o, empty)) in
    ends (c.is_done.ensures.0 c.if-not-is_done.false) none
    (c.in_ok-entries.ensures.rest ∙ ap (λ es. record old { waiting = es }) (drop_none old.most old.waiting none)) refl

pub returns-clause-goes : goal.returns-clause-goes
returns-clause-goes c =
    let entries = c.in_ok-entries.entries in
    let o = entries.ok.0 in
    let some : 1 ≤ length entries.items = elim (cases_lt (length entries.items) 1) [
      | inl none ↦ absurd (eqb-false entries.len 0 (sym c.is_empty.ensures ∙ c.if-is_empty.false) (omega (arith, o, none)))
      | inr one ↦ one
    ] in
    last entries (c.is_done.ensures.0 c.if-not-is_done.false) c.in_ok-entries.ensures.entries some c.in_ok-entries.ensures.rest refl
