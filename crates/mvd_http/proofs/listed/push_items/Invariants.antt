use Rattle.std.proofs.Common.{◌≡◌, ◌==◌, ◌++◌, drop, filter, length, string_bytes, take}
use Rattle.mvd_http.specs.Listed.{front, front_of, is_told, item_bytes, items_json}
use Rattle.mvd_http.proofs.listed.push_items.Given as goal

abbrev pub invariant-loop-index : goal.invariant-loop-index
invariant-loop-index g l = record {
  text : string_bytes l.out ≡ string_bytes l.initial.out ++ items_json l.wanted (g.H.Holds.states l.held) (take l.index l.keys);
  first : l.is_first ≡ (length (filter (is_told l.wanted) (take l.index l.keys)) == 0);
  front : front_of l.wanted (g.H.Holds.states l.held) l.keys ≡ take l.index l.keys ++ front (λ e. item_bytes l.wanted e (g.H.Holds.states l.held e.0)) l.room (drop l.index l.keys);
}
