use Rattle.std.proofs.Common.{◌≡◌, ap, sym, ◌∙◌, unwrap_or}
use Rattle.std.proofs.lemmas.Result.{on_ok_weaker}
use Rattle.mvd_keys.specs.State.{empty_state}
use Rattle.mvd_rows.specs.Changes.{state_in}
use Rattle.mvd_kept.proofs.Room.{few_siblings}
use Rattle.mvd_kept.proofs.held.Held.change_rows.Goals as goal

pub change-requires : goal.change-requires
change-requires c =
    let at : state_in c.args.self.now c.args.key.now ≡ c.in-Some.old.now = ap (λ o. unwrap_or o empty_state) (sym c.in-Some.ensures.found) in
    record { room = (c.requires.stand.0, c.args.self.now, (c.requires.stand.1, at, c.requires.few, few_siblings c.args.state.now c.requires.held.short)) }

pub returns-in-Some-clause-stand : goal.returns-in-Some-clause-stand
returns-in-Some-clause-stand c =
    let at : state_in c.args.self.now c.args.key.now ≡ c.in-Some.old.now = ap (λ o. unwrap_or o empty_state) (sym c.in-Some.ensures.found) in
    on_ok_weaker c.change.result (λ stands defs rows. stands defs c.args.self.now rows at) c.change.ensures.stands

pub change-requires-in-None : goal.change-requires-in-None
change-requires-in-None c =
    let at : state_in c.args.self.now c.args.key.now ≡ c.empty-empty.result = ap (λ o. unwrap_or o empty_state) (sym c.in-None.ensures.found) ∙ sym c.empty-empty.ensures in
    record { room = (c.requires.stand.0, c.args.self.now, (c.requires.stand.1, at, c.requires.few, few_siblings c.args.state.now c.requires.held.short)) }

pub returns-clause-stand : goal.returns-clause-stand
returns-clause-stand c =
    let at : state_in c.args.self.now c.args.key.now ≡ c.empty-empty.result = ap (λ o. unwrap_or o empty_state) (sym c.in-None.ensures.found) ∙ sym c.empty-empty.ensures in
    on_ok_weaker c.change-in-None.result (λ stands defs rows. stands defs c.args.self.now rows at) c.change-in-None.ensures.stands
