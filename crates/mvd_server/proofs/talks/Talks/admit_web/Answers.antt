use Rattle.std.proofs.Common.{◌+◌, ◌<◌, ap, arith, refl}
use Rattle.mvd_server.specs.Talking.{Talking, first_own, talking_of}
use Rattle.mvd_server.proofs.Deeds.{comes_web, does_web}
use Rattle.mvd_server.proofs.talks.Talks.admit_web.Goals as goal

pub returns-in-Ok-clause-comes : goal.returns-in-Ok-clause-comes
returns-in-Ok-clause-comes c =
    let old = talking_of c.args.self.now in
    let opens = c.in-Ok.ensures.opens in
    let low : old.next < first_own = omega (arith, c.if-number-ge-FIRST_OWN.false) in
    does_web old.next opens.0 old _ refl (c.is_crowded.ensures c.if-is_crowded.false, low) opens.1 (ap (λ (t : Talking). record t { next = old.next + 1 }) opens.2)

pub returns-in-Ok-clause-deeds : goal.returns-in-Ok-clause-deeds
returns-in-Ok-clause-deeds c =
    let old = talking_of c.args.self.now in
    let opens = c.in-Ok.ensures.opens in
    let low : old.next < first_own = omega (arith, c.if-number-ge-FIRST_OWN.false) in
    comes_web old.next opens.0 old _ refl (c.is_crowded.ensures c.if-is_crowded.false, low) opens.1 (ap (λ (t : Talking). record t { next = old.next + 1 }) opens.2)
