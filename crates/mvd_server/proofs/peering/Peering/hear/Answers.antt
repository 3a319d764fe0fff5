use Rattle.std.proofs.Common.{Some, inl, inr, refl}
use Rattle.mvd_server.specs.PeerSays.{said_by}
use Rattle.mvd_server.proofs.Handing.{hears_one}
use Rattle.mvd_server.proofs.PeerTelling.{breaks_so, fails_broken, moves_so}
use Rattle.mvd_server.proofs.peering.Peering.hear.Goals as goal

pub returns-in-Err-clause-says : goal.returns-in-Err-clause-says
returns-in-Err-clause-says c = λ setting.
    let broken = said_by (record c.args.self.now { session = Some c.hear.new.self }) setting c.args.crowd.now in
    fails_broken _ _ broken _ (breaks_so _ broken refl) (c.fail.ensures.says setting)

pub returns-in-Ok-clause-says : goal.returns-in-Ok-clause-says
returns-in-Ok-clause-says c = λ setting.
    let a = c.in-Some.session in
    let b = c.hear.new.self in
    moves_so c.args.self.now (record c.args.self.now { session = Some b }) setting c.args.crowd.now c.args.crowd.now a b c.in-Some.is refl refl c.hear.ensures.session
    (hears_one a.near b.near c.args.reply c.in-Ok.ensures.hears) refl

pub returns-in-Err-clause-hears : goal.returns-in-Err-clause-hears
returns-in-Err-clause-hears c = inl c.fail.ensures.over.1

pub returns-in-Ok-clause-hears : goal.returns-in-Ok-clause-hears
returns-in-Ok-clause-hears c = inr (c.in-Some.session, c.hear.new.self, c.in-Some.is, refl, c.in-Ok.ensures.hears, c.hear.ensures.session)
