use Rattle.std.proofs.Common.{◌-◌, refl}
use Rattle.std.specs.Vec.{with_item}
use Rattle.mvd_world.specs.declared.worlds.World.{World}
use Rattle.mvd_site.proofs.AnsweredAtOnce.{adds_some, answers_one, keeps_config}
use Rattle.mvd_world.proofs.Leading.{answers_lead, changes_at}
use Rattle.mvd_world.proofs.worlds.World.answer.Goals as goal

pub returns-clause-leads : goal.returns-clause-leads
returns-clause-leads c =
    let old = c.args.self.now in
    let new : World = record { alloc = old.alloc; sites = with_item old.sites (c.args.site - 1) c.answer.new.self; messages = old.messages } in
    answers_lead old new c.args.site c.index_mut-site.result.now c.answer.new.self c.args.request.now c.answer.result
    (changes_at old new c.args.site c.index_mut-site.result.now c.answer.new.self c.requires.some c.requires.within c.index_mut-site.ensures.value refl refl (keeps_config c.index_mut-site.result.now c.answer.new.self c.args.request.now c.answer.result c.answer.ensures))
    c.requires.own (answers_one c.index_mut-site.result.now c.answer.new.self c.args.request.now c.answer.result c.answer.ensures) (adds_some c.index_mut-site.result.now c.answer.new.self c.args.request.now c.answer.result c.answer.ensures)

pub returns-clause-short : goal.returns-clause-short
returns-clause-short c = λ short. short
