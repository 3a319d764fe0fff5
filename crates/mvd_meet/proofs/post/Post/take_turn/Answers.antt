use Rattle.std.proofs.Common.{◌≡◌, ◌∙◌, ◌<◌, ◌∷◌, ◌++◌, [], None, Some, arith, length, take, ap, refl}
use Rattle.mvd_dots.specs.declared.refusals.Refusal.TheVariants.{Memory}
use Rattle.mvd_meet.specs.Kept.{taken_in}
use Rattle.mvd_meet.specs.Posts.{kind_of}
use Rattle.mvd_meet.proofs.Taking.{broke_as, kept_as, kept_at, no_memory, not_some, one_broke, one_kept, one_taken}
use Rattle.mvd_meet.proofs.post.Post.take_turn.Goals as goal

pub invariant_of-self : goal.invariant_of-self
invariant_of-self c =
    let p = c.self.inside in
    let a = c.in-Some.asked in
    let taken = taken_in p.taken.items in
    let kept = kept_at p.asked p.refused a p.replies.items p.bytes taken c.in-Some.is (not_some p.refused c.is_some.result c.is_some.ensures c.if-is_some.false) c.self.invariant in
    broke_as p.asked (Some Memory) a Memory c.push.new.self.items c.kept.new.bytes taken c.in-Some.is refl (no_memory (kind_of a.sort) a.frames.1 p.replies.items p.bytes taken kept)

pub invariant_of-self-in-Told : goal.invariant_of-self-in-Told
invariant_of-self-in-Told c =
    let p = c.self.inside in
    let a = c.in-Some.asked in
    let taken = taken_in p.taken.items in
    let none : p.refused ≡ None = not_some p.refused c.is_some.result c.is_some.ensures c.if-is_some.false in
    let kept = kept_at p.asked p.refused a p.replies.items p.bytes taken c.in-Some.is none c.self.invariant in
    let told = rw (c.kind_of-kind.ensures, c.as_slice.ensures, c.nones-nones.ensures, c.len-next.ensures ∙ p.replies.ok.0) at c.in-Told.ensures in
    let low : length p.replies.items < length a.frames.1 = omega (arith, c.if-next-nones.false, c.len-next.ensures, p.replies.ok.0, ap length c.nones-nones.ensures) in
    let all : c.push.new.self.items ≡ p.replies.items ++ c.kept.result ∷ [] = grind arith in
    let grown = one_taken p.taken.items c.and-self-inside.result.items p.came c.in-Told.size c.and-self-inside.ensures in
    kept_as p.asked p.refused a c.push.new.self.items c.kept.new.bytes (taken_in c.and-self-inside.result.items) c.in-Some.is none
    (one_kept (kind_of a.sort) a.frames.1 p.replies.items p.bytes taken kept c.push.new.self.items c.in-Told.reply c.kept.result c.kept.new.bytes (taken_in c.and-self-inside.result.items) (take c.in-Told.size p.came.items) _ _ low refl all grown c.kept.ensures.kept c.kept.ensures.within told.1 told.2)

pub invariant_of-self-in-Breaks : goal.invariant_of-self-in-Breaks
invariant_of-self-in-Breaks c =
    let p = c.self.inside in
    let a = c.in-Some.asked in
    let taken = taken_in p.taken.items in
    let kept = kept_at p.asked p.refused a p.replies.items p.bytes taken c.in-Some.is (not_some p.refused c.is_some.result c.is_some.ensures c.if-is_some.false) c.self.invariant in
    let broke = rw (c.kind_of-kind.ensures, c.as_slice.ensures) at c.in-Breaks.ensures in
    let grown = one_taken p.taken.items c.and-self-inside-in-Breaks.result.items p.came c.in-Breaks.size c.and-self-inside-in-Breaks.ensures in
    broke_as p.asked (Some c.in-Breaks.refusal) a c.in-Breaks.refusal p.replies.items p.bytes (taken_in c.and-self-inside-in-Breaks.result.items) c.in-Some.is refl
    (one_broke (kind_of a.sort) a.frames.1 p.replies.items p.bytes taken kept (taken_in c.and-self-inside-in-Breaks.result.items) (take c.in-Breaks.size p.came.items) c.in-Breaks.refusal grown broke.1)
