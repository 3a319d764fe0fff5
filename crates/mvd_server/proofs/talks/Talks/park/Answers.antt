use Rattle.std.proofs.Common.{◌≡◌, ap, subst}
use Rattle.mvd_server.specs.Talking.{DeedsAt, HasItsWrites, Talking, talking_of}
use Rattle.mvd_server.proofs.talks.Talks.park.Goals as goal
use Rattle.mvd_server.proofs.talks.Talks.park.Goals.{else-count-self-via-then-count-self+then-is_ok+else-add, else-count-self-via-then-count-self+else-is_ok, else-count-self-via-else-count-self}

pub returns-clause-deeds : goal.returns-clause-deeds
returns-clause-deeds c = λ site.
    let same : talking_of c.else-count-self.self ≡ talking_of c.args.self.now = elim c.else-count-self.branch [
      | else-count-self-via-then-count-self+then-is_ok+else-add w ↦ ap talking_of w.self-is
      | else-count-self-via-then-count-self+else-is_ok w ↦ ap talking_of w.self-is
      | else-count-self-via-else-count-self w ↦ ap talking_of w.self-is
    ] in
    subst (λ (t : Talking). DeedsAt site t (talking_of c.tell_not_waited.new.self)) same (c.tell_not_waited.ensures.deeds site)

pub returns-clause-writes : goal.returns-clause-writes
returns-clause-writes c =
    let same : talking_of c.else-count-self.self ≡ talking_of c.args.self.now = elim c.else-count-self.branch [
      | else-count-self-via-then-count-self+then-is_ok+else-add w ↦ ap talking_of w.self-is
      | else-count-self-via-then-count-self+else-is_ok w ↦ ap talking_of w.self-is
      | else-count-self-via-else-count-self w ↦ ap talking_of w.self-is
    ] in
    subst (λ (t : Talking). HasItsWrites c.args.number t → HasItsWrites c.args.number (talking_of c.tell_not_waited.new.self)) same c.tell_not_waited.ensures.writes
