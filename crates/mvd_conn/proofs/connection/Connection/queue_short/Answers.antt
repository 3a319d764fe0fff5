use Rattle.std.proofs.Common.{◌<◌, length, sym, subst, arith}
use Rattle.mvd_conn.specs.History.{History}
use Rattle.mvd_conn.specs.Inside.{history_of}
use Rattle.mvd_conn.proofs.KeptLemmas.{kept_replied}
use Rattle.mvd_conn.proofs.connection.Connection.queue_short.Goals as goal

pub invariant_of-self : goal.invariant_of-self
invariant_of-self c =
    let k = c.self.invariant in
    let some : length (history_of c.self.inside).answers < length (history_of c.self.inside).taken = subst (λ (h : History). length h.answers < length h.taken) (sym c.self.view_is) c.requires.due in
    let few = k.bounded.few_waiting in
    kept_replied c.self.inside c.extend_reserved.new.self c.and-self-inside.result c.self.inside.grown c.args.frame.now
    some (omega (arith, few, k.due, some, c.requires.short)) c.extend_reserved.ensures.items (rw c.len-at.ensures.value at c.and-self-inside.ensures)
    (omega (arith, k.room, c.extend_reserved.ensures.spare, c.requires.short, k.due, some))
    (λ e. let wide = k.last_room e in omega (arith, wide, c.extend_reserved.ensures.spare, c.requires.short, k.due, some)) k
