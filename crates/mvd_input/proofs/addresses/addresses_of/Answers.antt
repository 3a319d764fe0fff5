use Rattle.std.proofs.Common.{Some, None, Option, Bor, List, ℕ, subst, sym}
use Rattle.std.specs.Option.{option_copied}
use Rattle.mvd_input.proofs.Addressed.{Finding, begins_finding, finds_all, finds_more}
use Rattle.mvd_input.proofs.addresses.addresses_of.Goals as goal

pub loop-rest-init : goal.loop-rest-init
loop-rest-init c = subst (Finding c.args.ip c.args.list.now (Some c.args.list.now)) (sym c.new-found.ensures.items) (begins_finding c.args.ip c.args.list.now c.requires.1)

pub loop-rest-preserved : goal.loop-rest-preserved
loop-rest-preserved c =
    let list = c.args.list.now in
    let so_far : Finding c.args.ip list (Some c.in-Some.left.now) c.loop-rest.found.items = subst (λ (r : Option (Bor (List ℕ))). Finding c.args.ip list (option_copied r) c.loop-rest.found.items) c.in-Some.is c.loop-rest.invariant in
    subst (Finding c.args.ip list (option_copied c.first_item.result.1)) (sym c.in_ok-push.ensures.items) (finds_more c.args.ip list c.in-Some.left.now c.first_item.result.0.now (option_copied c.first_item.result.1) c.loop-rest.found.items c.at.result
    c.first_item.ensures.split (c.in-Some-item_of.item, c.in-Some-item_of.ensures.found, c.at.ensures) so_far)

pub returns : goal.returns
returns c =
    let so_far : Finding c.args.ip c.args.list.now None c.loop-rest.found.items = subst (λ (r : Option (Bor (List ℕ))). Finding c.args.ip c.args.list.now (option_copied r) c.loop-rest.found.items) c.in_default.is c.loop-rest.invariant in
    finds_all c.args.ip c.args.list.now c.loop-rest.found.items so_far
