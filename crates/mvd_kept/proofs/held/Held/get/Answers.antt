use Rattle.std.proofs.Common.{◌≡◌, Some, None, IfSome, ap, sym, ◌∙◌}
use Rattle.std.specs.Option.{option_copied}
use Rattle.std.specs.FinMap.{from_entries, get}
use Rattle.mvd_kept.specs.Held.{IsKept}
use Rattle.mvd_kept.proofs.HeldMaps.{get_key}
use Rattle.mvd_kept.proofs.held.Held.get.Goals as goal

pub returns-clause-found : goal.returns-clause-found
returns-clause-found c =
    c.get.ensures.value ∙ sym (get_key c.self.inside.states.entries c.args.key.now) ∙ ap (λ m. get m c.args.key.now) c.self.view_is

pub returns-clause-kept : goal.returns-clause-kept
returns-clause-kept c =
    let key = c.args.key.now in
    let m = from_entries c.self.inside.states.entries in
    elim c.get.result as (λ o. option_copied o ≡ get m key → IfSome o (λ state. IsKept state.now)) [
      | Some s ↦ λ found. record { short = (c.self.invariant.held key s.now (sym found)).short; valid = c.self.invariant.valid key s.now (sym found) }
      | None ↦ λ _. tt
    ] (c.get.ensures.value ∙ sym (get_key c.self.inside.states.entries key))
