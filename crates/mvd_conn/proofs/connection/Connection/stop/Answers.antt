use Rattle.std.proofs.Common.{◌≡◌, ◌++◌, false, length, ap, ◌∙◌, arith}
use Rattle.mvd_conn.specs.History.{due, is_held_up, next_of}
use Rattle.mvd_conn.specs.Inside.{history_of}
use Rattle.mvd_conn.proofs.KeptLemmas.{kept_stopped}
use Rattle.mvd_conn.proofs.LengthLemmas.{refused_length}
use Rattle.mvd_conn.proofs.StandLemmas.{free_of}
use Rattle.mvd_conn.proofs.connection.Connection.stop.Goals as goal

pub extend_reserved-requires : goal.extend_reserved-requires
extend_reserved-requires c =
    let free : is_held_up (history_of c.self.inside) ≡ false = ap is_held_up c.self.view_is ∙ c.requires.free in
    let long : length c.bytes.result.now ≡ 6 = ap length (c.bytes.ensures ∙ c.refused.ensures) ∙ refused_length c.args.refusal in
    let wide = c.self.invariant.last_room (free_of (history_of c.self.inside) free).last in
    omega (arith, wide, long)

pub invariant_of-self : goal.invariant_of-self
invariant_of-self c =
    let free : is_held_up (history_of c.self.inside) ≡ false = ap is_held_up c.self.view_is ∙ c.requires.free in
    let bytes = c.bytes.ensures ∙ c.refused.ensures in
    kept_stopped c.self.inside c.extend_reserved.new.self c.args.refusal free (ap next_of c.self.view_is ∙ c.requires.next) (ap due c.self.view_is ∙ c.requires.answered)
    (c.extend_reserved.ensures.items ∙ ap (λ t. c.self.inside.output.items ++ t) bytes) c.self.invariant
