use Rattle.std.proofs.Common.{◌≡◌, drop}
use Rattle.serde_json.specs.View.{items_view, members_view}
use Rattle.mvd_print.specs.Place.{bad_item, bad_member}
use Rattle.mvd_print.proofs.fault_place.+places.Given as goal

-- the items that are left decide
abbrev pub invariant-bad_item-loop-item : goal.invariant-bad_item-loop-item
invariant-bad_item-loop-item l =
    (l.index ≡ l.item-index)
    × (bad_item 0 (items_view l.item-items) ≡ bad_item l.index (items_view (drop l.item-index l.item-items)))

-- the members that are left decide
abbrev pub invariant-bad_member-loop-name : goal.invariant-bad_member-loop-name
invariant-bad_member-loop-name l = bad_member (members_view l.members.entries) ≡ bad_member (members_view l.name-iterator)
