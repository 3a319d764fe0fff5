use Rattle.std.proofs.Common.{ℕ, false, true≢false, sym, subst, ◌↔◌}
use Rattle.std.specs.Prelude.{IsTrue, unwrap_or}
use Rattle.std.specs.Option.{option_copied}
use Rattle.mvd_dots.specs.Context.{HoldsDot}
use Rattle.mvd_dots.specs.Entry.{HasCounter}
use Rattle.mvd_keys.specs.State.{empty_state}
use Rattle.mvd_sync.proofs.Unseen.{not_empty}
use Rattle.mvd_sync.proofs.old.has_seen.Goals as goal

pub returns-in-None : goal.returns-in-None
returns-in-None c =
    let e = c.args.entry.now in
    subst (λ o. IsTrue false ↔ ((n : ℕ) → HasCounter e.base e.loose n → HoldsDot (unwrap_or (option_copied o) empty_state).context e.site n)) (sym c.in-None.is)
    (λ never. absurd (true≢false (sym never)), λ all. absurd (not_empty e c.requires all))

pub returns-in-Some : goal.returns-in-Some
returns-in-Some c =
    let e = c.args.entry.now in
    let r = c.has_entry.result in
    subst (λ o. IsTrue r ↔ ((n : ℕ) → HasCounter e.base e.loose n → HoldsDot (unwrap_or (option_copied o) empty_state).context e.site n)) (sym c.in-Some.is)
    (subst (λ s. IsTrue r ↔ ((n : ℕ) → HasCounter e.base e.loose n → HoldsDot s e.site n)) c.context.ensures.same c.has_entry.ensures)
