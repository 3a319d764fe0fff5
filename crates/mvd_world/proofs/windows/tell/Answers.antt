use Rattle.std.proofs.Common.{◌≡◌, ◌∙◌, [], ◌∷◌, ◌++◌, refl, sym, ap, subst, length, ◌≤◌, arith, rules, length-append}
use Rattle.std.proofs.lemmas.List.{map-id}
use Rattle.std.proofs.lemmas.Iterator.Adapters.{YieldsList-from_vec}
use Rattle.std.proofs.lemmas.Iterator.Consumers.{YieldsList-end, YieldsList-turn}
use Rattle.mvd_peer.specs.declared.window.Told.TheVariants as telling
use Rattle.mvd_world.specs.Machine.{Setting}
use Rattle.mvd_world.specs.OpenWorlds.{all_asked_of, no_room}
use Rattle.mvd_world.proofs.Asking.{AsksAll, asks_more, asks_none}
use Rattle.mvd_world.proofs.windows.tell.Goals as goal

pub returns-in-Err : goal.returns-in-Err
returns-in-Err g c setting before world sent = (before, (no_room (ap telling.Refused c.in-Err.ensures.memory) refl, world))

pub loop-question-init : goal.loop-question-init
loop-question-init g c =
    let asks = λ (setting : Setting). g.Q.Question.asks setting c.args.site in
    record {
      told = subst (λ answers. AsksAll g.Q.Question.pushes asks c.args.world.now c.args.world.now [] answers) (sym c.in-Ok.ensures.none) (asks_none g.Q.Question.pushes asks c.args.world.now);
      count = ap length c.in-Ok.ensures.none;
      room = omega (arith, c.len.ensures, c.in-Ok.ensures.room);
    }

pub push_reserved-requires : goal.push_reserved-requires
push_reserved-requires g c =
    let road = YieldsList-from_vec {s = c.into_iter-question-iterator.result} c.args.questions.items (search rules) (search rules) in
    let turn = YieldsList-turn road c.loop-question.yielded c.loop-question.question-iterator c.loop-question.yielded_by c.next.result c.next.new.self c.in-Some.question c.in-Some.is c.next.ensures.steps in
    let at = c.loop-question.invariant in
    omega (arith, turn.0, at.count, at.room)

pub loop-question-preserved : goal.loop-question-preserved
loop-question-preserved g c =
    let at = c.loop-question.invariant in
    let asks = λ (setting : Setting). g.Q.Question.asks setting c.args.site in
    record {
      told = subst (λ answers. AsksAll g.Q.Question.pushes asks c.args.world.now c.ask.new.world (c.loop-question.yielded ++ c.in-Some.question ∷ []) answers) (sym c.push_reserved.ensures.items)
          (asks_more g.Q.Question.pushes asks (λ setting. g.met.Q.Question.is_step setting c.args.site) c.loop-question.yielded c.loop-question.answers.items c.in-Some.question c.ask.result c.args.world.now c.loop-question.world c.ask.new.world at.told c.ask.ensures);
      count = grind (arith, length-append, c.push_reserved.ensures.items, at.count);
      room = subst (λ n. length c.args.questions.items ≤ n) (sym c.push_reserved.ensures.capacity) at.room;
    }

pub returns : goal.returns
returns g c setting before world sent =
    let road = YieldsList-from_vec {s = c.into_iter-question-iterator.result} c.args.questions.items (search rules) (search rules) in
    let end = YieldsList-end road c.loop-question.yielded c.loop-question.question-iterator c.loop-question.yielded_by c.next.result c.next.new.self c.in-None.is c.next.ensures.steps in
    let all : c.loop-question.yielded ≡ c.args.questions.items = sym (map-id c.loop-question.yielded) ∙ end.0 in
    let asks = λ (setting : Setting). g.Q.Question.asks setting c.args.site in
    let m = subst (λ qs. AsksAll g.Q.Question.pushes asks c.args.world.now c.loop-question.world qs c.loop-question.answers.items) all c.loop-question.invariant.told setting before world sent in
    (m.0, (all_asked_of c.loop-question.answers c.told.ensures m.1.0, m.1.1))
