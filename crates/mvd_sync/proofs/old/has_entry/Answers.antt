use Rattle.std.proofs.Common.{true≢false, sym, ap, subst}
use Rattle.mvd_dots.specs.Context.{HoldsDot}
use Rattle.mvd_sync.proofs.Unseen.{not_missing}
use Rattle.mvd_sync.proofs.old.has_entry.Goals as goal

pub returns-in-None : goal.returns-in-None
returns-in-None c =
    let missing = c.in-None.ensures.missing in (
      λ never. absurd (true≢false (sym never)),
      λ all. absurd (not_missing c.args.entry.now c.args.seen.now c.requires
          (λ n h. missing n (subst (λ s. HoldsDot c.args.seen.now s n) (sym (ap (λ v. v.site) c.entry.view_is)) h)) all),
    )
