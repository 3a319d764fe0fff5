use Rattle.std.proofs.Common.{◌≡◌, ◌++◌, IfSome, drop, string_bytes, take}
use Rattle.mvd_http.specs.Listed.{Serves, front, place_bytes, place_front_of, places_told}
use Rattle.mvd_http.proofs.places_listed.push_items.Given as goal

abbrev pub invariant-loop-index : goal.invariant-loop-index
invariant-loop-index g l = record {
  near : IfSome l.last (λ key. Serves l.documents (g.H.Holds.states l.held) l.state key.now);
  text : string_bytes l.out ≡ string_bytes l.initial.out ++ places_told l.documents (g.H.Holds.states l.held) (take l.index l.places);
  front : place_front_of l.documents (g.H.Holds.states l.held) l.places ≡ take l.index l.places ++ front (place_bytes l.documents (g.H.Holds.states l.held)) l.room (drop l.index l.places);
}
