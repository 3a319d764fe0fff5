use Rattle.std.proofs.Common.{refl}
use Rattle.mvd_client.specs.Pushing.{turns_self}
use Rattle.mvd_client.specs.Refusals.{noted_in}
use Rattle.mvd_client.proofs.Refusing.{stays_noted}
use Rattle.mvd_client.proofs.StoredSays.{stored_says, stored_within}
use Rattle.mvd_client.proofs.stored_side.StoredSidePeer.TheImpl.Goals as goal

pub ask-tells : goal.ask-tells
ask-tells g c =
    let old = c.args.self.now in
    let new = c.new.self.now in
    record {
      says = stored_says (λ side. side.replica.now) (λ side. noted_in side.refused.now) _ old new (c.ensures.same_reference, c.ensures.turns, c.ensures.same_notes, stays_noted _ _ _ c.ensures.notes) (refl, turns_self new.replica.now, refl, λ _ was. was) c.args.window.now c.requires.some c.result c.ensures.told c.ensures.notes;
      within = stored_within old.replica.now new.replica.now c.args.window.now c.result c.ensures.told;
    }
