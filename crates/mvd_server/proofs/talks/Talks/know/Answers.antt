use Rattle.std.proofs.Common.{Some, refl, sym, ◌∙◌}
use Rattle.mvd_server.specs.Talking.{Rotates, talking_of}
use Rattle.mvd_server.proofs.Deeds.{deeds_one}
use Rattle.mvd_server.proofs.talks.Talks.know.Goals as goal

pub returns-then-is_some : goal.returns-then-is_some
returns-then-is_some c =
    let old = talking_of c.args.self.now in
    deeds_one (Rotates c.args.passes) old (record old { passes = Some c.args.passes }) (λ site. tt) (sym c.is_some.ensures ∙ c.if-is_some.true, refl)
