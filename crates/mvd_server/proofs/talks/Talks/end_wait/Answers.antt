use Rattle.std.proofs.Common.{subst}
use Rattle.mvd_server.specs.Talking.{Deeds, Talking, talking_of}
use Rattle.mvd_server.proofs.talks.Talks.end_wait.Goals as goal

pub returns-in-Some : goal.returns-in-Some
returns-in-Some c = subst (λ (t : Talking). Deeds t (talking_of c.tell_none.new.self)) c.note_woken.ensures c.tell_none.ensures
