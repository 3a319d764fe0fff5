use Rattle.std.proofs.Common.{◌≡◌, Some, rules, subst}
use Rattle.mvd_meet.specs.Turns.{EndsWith}
use Rattle.mvd_meet.proofs.Taking.{tells_end}
use Rattle.mvd_meet.proofs.post.Post.tell.Goals as goal

pub returns : goal.returns
returns c =
    let p = c.self.inside in
    let is : p.asked ≡ Some c.in_ok-sort.field-0 = search rules in
    let ends = subst (λ l. EndsWith p.refused l c.end_of-refusal.result) c.as_slice.ensures c.end_of-refusal.ensures in
    tells_end p.asked c.in_ok-sort.field-0 p.refused p.leaving.items p.came.items p.taken.items c.new-self-inside.result.items p.replies.items c.replace-replies.new.dest.items is c.new-self-inside.ensures c.args.self.now c.self.view_is
    p.bytes c.take.new.self c.end_of-refusal.result c.take.ensures.after c.self.invariant ends
