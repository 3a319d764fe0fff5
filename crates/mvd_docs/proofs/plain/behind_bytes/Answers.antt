use Rattle.std.proofs.Common.{subst, sym}
use Rattle.mvd_docs.proofs.PlainTexts.{Bytes, plain_bytes, more_bytes}
use Rattle.mvd_docs.proofs.plain.behind_bytes.Goals as goal

pub loop-more-init : goal.loop-more-init
loop-more-init c = subst (Bytes c.args.text.now) (sym c.split_at.ensures.back) (plain_bytes c.args.text.now c.plain_count.result c.plain_count.ensures.plain)

pub loop-more-preserved : goal.loop-more-preserved
loop-more-preserved c =
    let more = c.in-Some.more.now in
    let plain = subst (Bytes more) (sym c.split_at-in-Some.ensures.back) (plain_bytes more c.plain_count-in-Some.result c.plain_count-in-Some.ensures.plain) in
    more_bytes c.args.text.now c.loop-more.rest.now more c.split_at-in-Some.result.1.now c.loop-more.invariant c.in-Some.ensures.escape plain
