use Rattle.std.proofs.Common.{◌≡◌, ap, ◌∙◌}
use Rattle.mvd_conn.specs.History.{History, next_of, released}
use Rattle.mvd_conn.specs.Inside.{history_of}
use Rattle.mvd_conn.proofs.KeptLemmas.{kept_fed}
use Rattle.mvd_conn.proofs.connection.Connection.feed.Goals as goal

pub invariant_of-self-2 : goal.invariant_of-self-2
invariant_of-self-2 c =
    let is : history_of c.self.inside ≡ released c.args.self.now = c.self.view_is ∙ c.release.ensures in
    let wanted = c.requires.wanted in
    kept_fed c.self.inside c.extend_from_slice.new.self c.and-self-inside.result c.args.bytes.now
    (ap (λ (h : History). h.last) is ∙ wanted.going) (ap next_of is ∙ wanted.next) (ap (λ (h : History). h.hand) is) c.requires.few
    c.in_ok-extend_from_slice.ensures.ok (rw c.len-at.ensures.value at c.and-self-inside.ensures) c.self.invariant
