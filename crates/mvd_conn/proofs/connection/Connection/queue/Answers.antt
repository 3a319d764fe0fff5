use Rattle.std.proofs.Common.{◌<◌, length, sym, subst, arith}
use Rattle.mvd_conn.specs.History.{History}
use Rattle.mvd_conn.specs.Inside.{history_of}
use Rattle.mvd_conn.proofs.KeptLemmas.{kept_replied}
use Rattle.mvd_conn.proofs.connection.Connection.queue.Goals as goal

pub invariant_of-self-2 : goal.invariant_of-self-2
invariant_of-self-2 c =
    let k = c.self.invariant in
    let wide = c.in-Ok.ensures.spare.1 in
    let some : length (history_of c.self.inside).answers < length (history_of c.self.inside).taken = subst (λ (h : History). length h.answers < length h.taken) (sym c.self.view_is) c.requires.due in
    kept_replied c.self.inside c.extend_reserved.new.self c.and-self-inside.result c.if-self.self c.args.frame.now
    some (omega arith) (rw c.make_room.ensures.items at c.extend_reserved.ensures.items) (rw (c.len-at.ensures.value, c.make_room.ensures.items) at c.and-self-inside.ensures)
    (omega (arith, wide, c.extend_reserved.ensures.spare, k.due, some)) (λ e. omega (arith, wide, c.extend_reserved.ensures.spare, k.due, some)) k
