use Rattle.std.proofs.Common.{◌∙◌, ◌++◌, ◌∷◌, [], ap, map, refl, sym, append-nil, append_assoc, arith, rules, length-append}
use Rattle.std.proofs.lemmas.List.{map-append, map-id}
use Rattle.std.proofs.lemmas.Iterator.Adapters.{YieldsList-from_vec}
use Rattle.std.proofs.lemmas.Iterator.Consumers.{YieldsList-end, YieldsList-turn}
use Rattle.mvd_replica.specs.Pushes.{told_of}
use Rattle.mvd_client.proofs.pushing.add_told.Goals as goal

pub loop-reply-init : goal.loop-reply-init
loop-reply-init c = record { told = sym (append-nil _); count = omega arith; room = refl }

pub push_reserved-requires : goal.push_reserved-requires
push_reserved-requires c =
    let road = YieldsList-from_vec {s = c.into_iter-reply-iterator.result} c.args.replies.items (search rules) (search rules) in
    let turn = YieldsList-turn road c.loop-reply.yielded c.loop-reply.reply-iterator c.loop-reply.yielded_by c.next.result c.next.new.self c.in-Some.reply c.in-Some.is c.next.ensures.steps in
    omega (arith, turn.0, c.requires, c.loop-reply.invariant.count, c.loop-reply.invariant.room, c.loop-reply.told.ok.0)

pub loop-reply-preserved : goal.loop-reply-preserved
loop-reply-preserved c = record {
  told = c.push_reserved.ensures.items ∙ ap (λ l. l ++ c.accepted-answer.result ∷ []) c.loop-reply.invariant.told ∙ append_assoc _ (map told_of c.loop-reply.yielded) (c.accepted-answer.result ∷ [])
      ∙ ap (λ l. c.args.told.now.items ++ l) (ap (λ x. map told_of c.loop-reply.yielded ++ x ∷ []) c.accepted-answer.ensures ∙ sym (map-append told_of c.loop-reply.yielded (c.in-Some.reply ∷ [])));
  count = grind (arith, length-append, c.push_reserved.ensures.items, c.loop-reply.invariant.count);
  room = c.push_reserved.ensures.capacity ∙ c.loop-reply.invariant.room;
}

pub returns : goal.returns
returns c =
    let road = YieldsList-from_vec {s = c.into_iter-reply-iterator.result} c.args.replies.items (search rules) (search rules) in
    let end = YieldsList-end road c.loop-reply.yielded c.loop-reply.reply-iterator c.loop-reply.yielded_by c.next.result c.next.new.self c.in-None.is c.next.ensures.steps in
    record { told = c.loop-reply.invariant.told ∙ ap (λ l. c.args.told.now.items ++ map told_of l) (sym (map-id c.loop-reply.yielded) ∙ end.0) }
