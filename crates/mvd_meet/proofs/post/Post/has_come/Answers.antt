use Rattle.std.proofs.Common.{◌≤◌, ◌∙◌, length, ap, arith}
use Rattle.mvd_meet.specs.Kept.{taken_in}
use Rattle.mvd_meet.specs.Posts.{has_come}
use Rattle.mvd_meet.proofs.Taking.{all_come, behind_of, come_is, not_some}
use Rattle.mvd_meet.proofs.post.Post.has_come.Goals as goal

pub returns-then-next-nones : goal.returns-then-next-nones
returns-then-next-nones c =
    let p = c.self.inside in
    let a = c.in-Some.asked in
    let none = not_some p.refused c.is_some.result c.is_some.ensures c.if-is_some.false in
    let few : length a.frames.1 ≤ length p.replies.items = omega (arith, c.if-next-nones.true, c.len-next.ensures, p.replies.ok.0, ap length c.nones-nones.ensures) in
    all_come a.frames.1 (length p.replies.items) p.came.items few ∙ come_is p.asked p.refused a p.replies.items p.bytes (taken_in p.taken.items) p.came.items c.in-Some.is none c.self.invariant ∙ ap has_come c.self.view_is

pub returns : goal.returns
returns c =
    let p = c.self.inside in
    let a = c.in-Some.asked in
    let none = not_some p.refused c.is_some.result c.is_some.ensures c.if-is_some.false in
    let told = rw (behind_of c.nones-nones.result.now c.len-next.result, c.len-next.ensures ∙ p.replies.ok.0, c.nones-nones.ensures, c.as_slice.ensures) at c.has_turns.ensures in
    told ∙ come_is p.asked p.refused a p.replies.items p.bytes (taken_in p.taken.items) p.came.items c.in-Some.is none c.self.invariant ∙ ap has_come c.self.view_is
