use Rattle.std.proofs.Common.{◌≡◌, ◌∙◌, ◌++◌, ◌∷◌, [], ap, map, refl, sym, append-nil, append_assoc, arith, rules, length-append}
use Rattle.std.proofs.lemmas.List.{map-append, map-id}
use Rattle.std.proofs.lemmas.Iterator.Adapters.{YieldsList-from_vec}
use Rattle.std.proofs.lemmas.Iterator.Consumers.{YieldsList-end, YieldsList-turn}
use Rattle.mvd_replica.specs.Groups.{reply_unstored}
use Rattle.mvd_replica.proofs.groups.refuse_all.Goals.{in-Answer, in-Change}
use Rattle.mvd_replica.proofs.groups.refuse_all.Goals as goal

pub loop-prepared-init : goal.loop-prepared-init
loop-prepared-init c = record { told = sym (append-nil _); count = omega arith; room = refl }

pub push_reserved-requires : goal.push_reserved-requires
push_reserved-requires c =
    let road = YieldsList-from_vec {s = c.into_iter-prepared-iterator.result} c.args.group.items (search rules) (search rules) in
    let turn = YieldsList-turn road c.loop-prepared.yielded c.loop-prepared.prepared-iterator c.loop-prepared.yielded_by c.next.result c.next.new.self c.in-Some.prepared c.in-Some.is c.next.ensures.steps in
    omega (arith, turn.0, c.requires, c.loop-prepared.invariant.count, c.loop-prepared.invariant.room, c.loop-prepared.replies.ok.0)

pub loop-prepared-preserved : goal.loop-prepared-preserved
loop-prepared-preserved c =
    let reply : c.match-prepared.reply ≡ reply_unstored c.in-Some.prepared = elim c.match-prepared.branch [
      | in-Answer w ↦ w.reply-is ∙ sym (ap reply_unstored w.in-Answer.is)
      | in-Change w ↦ w.reply-is ∙ sym (ap reply_unstored w.in-Change.is)
    ] in
    record {
      told = c.push_reserved.ensures.items ∙ ap (λ l. l ++ c.match-prepared.reply ∷ []) c.loop-prepared.invariant.told ∙ append_assoc _ (map reply_unstored c.loop-prepared.yielded) (c.match-prepared.reply ∷ [])
          ∙ ap (λ l. c.args.replies.now.items ++ l) (ap (λ x. map reply_unstored c.loop-prepared.yielded ++ x ∷ []) reply ∙ sym (map-append reply_unstored c.loop-prepared.yielded (c.in-Some.prepared ∷ [])));
      count = grind (arith, length-append, c.push_reserved.ensures.items, c.loop-prepared.invariant.count);
      room = c.push_reserved.ensures.capacity ∙ c.loop-prepared.invariant.room;
    }

pub returns : goal.returns
returns c =
    let road = YieldsList-from_vec {s = c.into_iter-prepared-iterator.result} c.args.group.items (search rules) (search rules) in
    let end = YieldsList-end road c.loop-prepared.yielded c.loop-prepared.prepared-iterator c.loop-prepared.yielded_by c.next.result c.next.new.self c.in-None.is c.next.ensures.steps in
    record {
      replies = c.loop-prepared.invariant.told ∙ ap (λ l. c.args.replies.now.items ++ map reply_unstored l) (sym (map-id c.loop-prepared.yielded) ∙ end.0);
      room = c.loop-prepared.invariant.room;
    }
