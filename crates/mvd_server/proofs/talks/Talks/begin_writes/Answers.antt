use Rattle.std.proofs.Common.{subst}
use Rattle.mvd_server.specs.Talking.{LacksMemory, talking_of}
use Rattle.mvd_server.proofs.AtOnce.{lacks_at_once, told_at_once}
use Rattle.mvd_server.proofs.Beginning.{begins_kept, lacks_kept}
use Rattle.mvd_server.proofs.Deeds.{deed_begins, deed_lacks, deeds_on}
use Rattle.mvd_server.proofs.talks.Talks.begin_writes.Goals as goal

pub returns-in-Ok-clause-deeds : goal.returns-in-Ok-clause-deeds
returns-in-Ok-clause-deeds c = λ writes.
    let old = talking_of c.args.self.now in
    let mid = talking_of c.keep_writes.new.self in
    let asked = talking_of c.hand_on_writes.new.self in
    let told = talking_of c.tell_writes.new.self in
    deeds_on old mid told (deed_begins c.args.number c.args.batch old mid writes c.in-Ok.ensures.keeps)
    (deeds_on mid asked told c.hand_on_writes.ensures.deeds c.tell_writes.ensures.deeds)

pub returns-in-Ok-clause-told : goal.returns-in-Ok-clause-told
returns-in-Ok-clause-told c = λ writes.
    told_at_once c.args.number c.args.batch (talking_of c.args.self.now) (talking_of c.keep_writes.new.self) (talking_of c.hand_on_writes.new.self) (talking_of c.tell_writes.new.self) writes c.in-Ok.ensures.keeps c.hand_on_writes.ensures.hands c.tell_writes.ensures.told

pub returns-in-Err-clause-deeds : goal.returns-in-Err-clause-deeds
returns-in-Err-clause-deeds c = λ writes.
    let old = talking_of c.args.self.now in
    let new = talking_of c.lack_memory.new.self in
    deed_lacks c.args.number c.args.batch old new writes (subst (λ t. LacksMemory c.args.number t new) c.in-Err.ensures.same c.lack_memory.ensures)

pub returns-in-Err-clause-told : goal.returns-in-Err-clause-told
returns-in-Err-clause-told c = λ writes.
    let new = talking_of c.lack_memory.new.self in
    lacks_at_once c.args.number c.args.batch (talking_of c.args.self.now) new writes (subst (λ t. LacksMemory c.args.number t new) c.in-Err.ensures.same c.lack_memory.ensures)

pub returns-in-Ok-clause-begins : goal.returns-in-Ok-clause-begins
returns-in-Ok-clause-begins c = λ writes.
    begins_kept c.args.number c.args.batch (talking_of c.args.self.now) (talking_of c.keep_writes.new.self) (talking_of c.hand_on_writes.new.self) (talking_of c.tell_writes.new.self) writes c.in-Ok.ensures.keeps c.hand_on_writes.ensures.hands c.tell_writes.ensures.told

pub returns-in-Err-clause-begins : goal.returns-in-Err-clause-begins
returns-in-Err-clause-begins c = λ writes.
    let new = talking_of c.lack_memory.new.self in
    lacks_kept c.args.number c.args.batch (talking_of c.args.self.now) new writes (subst (λ t. LacksMemory c.args.number t new) c.in-Err.ensures.same c.lack_memory.ensures)
