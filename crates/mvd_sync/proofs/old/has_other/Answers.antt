use Rattle.std.proofs.Common.{true≢false, sym, subst}
use Rattle.std.specs.Prelude.{unwrap_or}
use Rattle.std.specs.Option.{option_copied}
use Rattle.mvd_dots.specs.Context.{HoldsDot, IsEntryAt}
use Rattle.mvd_keys.specs.State.{empty_state}
use Rattle.mvd_sync.proofs.Unseen.{none_unseen, unseen_back, unseen_there}
use Rattle.mvd_sync.proofs.old.has_other.Goals as goal

pub returns-in-None : goal.returns-in-None
returns-in-None c = (
  λ never. absurd (true≢false (sym never)),
  λ unseen. absurd (none_unseen c.args.site (unwrap_or (option_copied c.args.mine) empty_state) c.args.theirs.now
      (λ n h. c.in-None.ensures.missing n (subst (λ s. HoldsDot s c.args.site n) (sym c.context.ensures.same) h)) unseen),
)

pub returns-in-Some : goal.returns-in-Some
returns-in-Some c =
    let mine = unwrap_or (option_copied c.args.mine) empty_state in
    let e = c.in-Some.entry.now in
    let at = subst (λ s. IsEntryAt s c.args.site e) c.context.ensures.same c.in-Some.ensures.found in
    (unseen_there c.args.site mine c.args.theirs.now e at _ c.has_seen.ensures, unseen_back c.args.site mine c.args.theirs.now e at _ c.has_seen.ensures)
