use Rattle.std.proofs.Common.{◌≤◌, [], ℕ, List, length}
use Rattle.std.specs.Prelude.{vec_capacity, vec_len}
use Rattle.mvd_wire.specs.declared.request.Request.{Request}
use Rattle.mvd_host.specs.Fronts.{Parts, waiting_in}
use Rattle.mvd_host.proofs.front.Front.take_all.Given as goal

-- of those so far a front was taken, and the rest is kept, for which there is room
abbrev pub invariant-loop-one : goal.invariant-loop-one
invariant-loop-one l = record {
  parts : (done : List (ℕ × Request)) → Parts l.site.states done [] [] l.initial.self → Parts l.site.states done (waiting_in l.yielded) (waiting_in l.rest.items) l.self;
  few : vec_len l.rest ≤ length l.yielded;
  room : length l.fn.asking.items ≤ vec_capacity l.rest;
}
