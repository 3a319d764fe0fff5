use Rattle.std.proofs.Common.{◌↔◌, false, true≢false, sym, subst}
use Rattle.std.specs.Prelude.{IsTrue, unwrap_or}
use Rattle.std.specs.Option.{option_copied}
use Rattle.mvd_keys.specs.State.{empty_state}
use Rattle.mvd_sync.specs.Olds.{HasUnseen}
use Rattle.mvd_sync.proofs.Unseen.{nothing_unseen}
use Rattle.mvd_sync.proofs.old.has_unseen.Goals as goal

pub returns-in-None : goal.returns-in-None
returns-in-None c =
    let mine = unwrap_or (option_copied c.args.mine) empty_state in
    subst (λ o. IsTrue false ↔ HasUnseen c.args.number mine (unwrap_or (option_copied o) empty_state)) (sym c.in-None.is)
    (λ never. absurd (true≢false (sym never)), λ unseen. absurd (nothing_unseen c.args.number mine unseen))

pub returns-in-Some : goal.returns-in-Some
returns-in-Some c =
    let mine = unwrap_or (option_copied c.args.mine) empty_state in
    subst (λ o. IsTrue c.has_any_other.result ↔ HasUnseen c.args.number mine (unwrap_or (option_copied o) empty_state)) (sym c.in-Some.is) c.has_any_other.ensures
