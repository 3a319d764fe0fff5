use Rattle.std.proofs.Common.{ℕ, Vec, Global, [], ap, subst, sym}
use Rattle.http_server.specs.declared.log.Log.{Log}
use Rattle.mvd_wire.specs.declared.request.Request.{Request}
use Rattle.mvd_host.specs.AtHand.{AllMayWait, AtHandValue}
use Rattle.mvd_host.specs.Fronts.{Parts, waiting_in}
use Rattle.mvd_host.specs.KeptAtHand.{left_of}
use Rattle.mvd_host.specs.declared.front.Asking.{Asking}
use Rattle.mvd_host.proofs.Beginning.{parts_begin, parts_may, parts_pairs, parts_rest}
use Rattle.mvd_host.proofs.at_hand.AtHand.begin.Goals as goal

-- what waited, in two parts
parts : (c : goal.After-self-1) → Parts c.args.site.now.states c.self.inside.done.items (waiting_in c.self.inside.asking.items) (waiting_in c.take_waiting.result.items) c.take_waiting.new.self
parts c =
    let states = c.args.site.now.states in
    let inside = c.self.inside in
    let none : Parts states inside.done.items [] [] c.new-front.result = subst (λ (l : Log ℕ Request). Parts states l.items [] [] c.new-front.result) c.replace.ensures.value (c.new-front.ensures states) in
    subst (λ (v : Vec Asking Global). Parts states inside.done.items (waiting_in v.items) (waiting_in c.take_waiting.result.items) c.take_waiting.new.self) c.replace-asking.ensures.value
    (c.take_waiting.ensures inside.done.items none)

pub take_waiting-requires : goal.take_waiting-requires
take_waiting-requires c = record { may = subst (λ (v : Vec Asking Global). AllMayWait (waiting_in v.items)) (sym c.replace-asking.ensures.value) c.self.invariant }

pub invariant_of-self : goal.invariant_of-self
invariant_of-self c = (parts c).rest_may

pub returns-clause-begins : goal.returns-clause-begins
returns-clause-begins c =
    let inside = c.self.inside in
    let front = c.take_waiting.new.self in
    parts_begin c.args.site.now.states inside.done.items (waiting_in inside.asking.items) (waiting_in c.take_waiting.result.items) front (parts c) inside.taken.items (left_of inside.answered.items inside.told inside.next) c.args.self.now c.self.view_is
    c.replace-self-inside.result.items (ap (λ (l : Log ℕ Request). l.items) c.replace-self-inside.ensures.value)

pub returns-clause-pairs : goal.returns-clause-pairs
returns-clause-pairs c = parts_pairs c.args.site.now.states c.self.inside.done.items (waiting_in c.self.inside.asking.items) (waiting_in c.take_waiting.result.items) c.take_waiting.new.self (parts c)

pub returns-clause-may : goal.returns-clause-may
returns-clause-may c = parts_may c.args.site.now.states c.self.inside.done.items (waiting_in c.self.inside.asking.items) (waiting_in c.take_waiting.result.items) c.take_waiting.new.self (parts c)

pub returns-clause-waits : goal.returns-clause-waits
returns-clause-waits c = subst (λ (h : AtHandValue). AllMayWait h.waits) c.self.view_is c.self.invariant

pub returns-clause-weighed : goal.returns-clause-weighed
returns-clause-weighed c = (parts c).weighed

pub returns-clause-rest : goal.returns-clause-rest
returns-clause-rest c = parts_rest c.args.site.now.states c.self.inside.done.items (waiting_in c.self.inside.asking.items) (waiting_in c.take_waiting.result.items) c.take_waiting.new.self (parts c)
