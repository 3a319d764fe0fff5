use Rattle.std.proofs.Common.{◌≡◌, ◌∷◌, ◌+◌, ◌≤◌, ◌<◌, ◌∙◌, add-one, get_or, length, drop, ap, sym, subst, slice_index, arith}
use Rattle.mvd_wire.specs.declared.reply.Reply.{Reply}
use Rattle.mvd_wire.specs.declared.reply.Reply.TheVariants.{Refused}
use Rattle.mvd_host.specs.KeptAtHand.{told_each}
use Rattle.mvd_host.specs.declared.at_hand.Told.{Told}
use Rattle.mvd_host.proofs.Telling.{all_at, each_at, each_past}
use Rattle.mvd_host.proofs.at_hand.Told.take.Goals as goal

pub returns-then-at-len : goal.returns-then-at-len
returns-then-at-len c clients low =
    let past : length c.in-Each.replies.items ≤ c.args.at = omega (arith, c.in-Each.replies.ok.0) in
    ap (λ (t : Told). drop c.args.at (told_each clients t)) c.in-Each.is ∙ each_past clients c.in-Each.replies.items c.args.at past

pub returns-else-at-len : goal.returns-else-at-len
returns-else-at-len c clients low =
    let within : c.args.at < length c.in-Each.replies.items = omega (arith, c.in-Each.replies.ok.0) in
    let there = subst (λ (r : Reply). r ≡ get_or c.in-Each.replies.items c.args.at r) (sym c.replace.ensures.value) c.index_mut.ensures.value in
    rw add-one (ap (λ (t : Told). drop c.args.at (told_each clients t)) c.in-Each.is ∙ each_at clients c.in-Each.replies.items c.args.at c.replace.result c.replace.new.dest low within there)

pub returns-in-All : goal.returns-in-All
returns-in-All c clients low =
    subst (λ (t : Told). drop c.args.at (told_each clients t) ≡ (slice_index clients c.args.at, Refused c.in-All.refusal) ∷ drop (c.args.at + 1) (told_each clients t)) (sym c.in-All.is)
    (rw add-one (all_at clients (Refused c.in-All.refusal) c.args.at low))
