use Rattle.std.proofs.Common.{◌≡◌, ◌-◌, ℕ, List, Some, cond, length, take, drop, slice_index, sym, subst, ap, ◌∙◌, arith}
use Rattle.std.proofs.lemmas.List.{length-drop, take_all}
use Rattle.mvd_wire.specs.declared.ending.Ending.TheVariants as ending
use Rattle.mvd_conn.specs.declared.scan.Found.TheVariants as found
use Rattle.mvd_conn.specs.History.{History, is_bye, is_held_up, owes}
use Rattle.mvd_conn.specs.Front.{IsFound}
use Rattle.mvd_conn.proofs.KeptLemmas.{kept_taken}
use Rattle.mvd_conn.proofs.connection.Connection.take.Goals as goal

pub invariant_of-self-2 : goal.invariant_of-self-2
invariant_of-self-2 c =
    let is = c.self.view_is in
    let bytes : List ℕ = take c.args.size c.self.inside.input.items in
    let all : take (length bytes - 5) (drop 5 bytes) ≡ drop 5 bytes = take_all (length bytes - 5) (drop 5 bytes) (omega (arith, length-drop 5 bytes)) in
    let last = (rw c.as_slice.ensures at c.last_after-self-inside.ensures) ∙ ap (λ (t : List ℕ). cond (is_bye (record { kind = slice_index bytes 4; payload = t })) (Some ending.Bye) c.self.inside.last) all in
    let counts = (rw c.as_slice.ensures at c.most_of-self-inside.ensures.is) in
    kept_taken c.self.inside c.make_room.new.buffer c.and-self-inside.result c.args.size c.owes-behind.result c.most_of-self-inside.result c.last_after-self-inside.result
    (ap is_held_up is ∙ c.requires.free) (subst (λ (h : History). IsFound h (found.Frame c.args.size)) (sym is) c.requires.found) (ap (λ (h : History). h.hand) is ∙ c.requires.idle)
    c.make_room.ensures.items c.in_ok-make_room.ensures.spare.1 c.and-self-inside.ensures last (c.owes-behind.ensures ∙ ap owes (sym is)) counts c.most_of-self-inside.ensures.least c.most_of-self-inside.ensures.most c.self.invariant
