-- What a push by reference does is a turn.
use Rattle.std.proofs.Common.{◌≡◌, [], ◌∷◌, Result, ap}
use Rattle.mvd_dots.specs.declared.refusals.Refusal.{Refusal}
use Rattle.mvd_keys.specs.State.{IsValid, State}
use Rattle.mvd_keys.specs.Writes.{Key}
use Rattle.mvd_site.specs.FromStates.{push_reply}
use Rattle.mvd_replica.specs.declared.replica.Replica.{Replica}
use Rattle.mvd_replica.specs.Batch.{TakesTurns}
use Rattle.mvd_replica.specs.ReplicaCalls.{PushesState}
use Rattle.mvd_replica.specs.Replicas.{site_of, store_of, stored_of}
use Rattle.sqlite_trees.specs.declared.store.Store.{Ghosts}
use Rattle.mvd_runs.specs.Sessions.{SideTakes, push_turn}
use Rattle.mvd_runs.proofs.Pushing.{asks_push, push_takes, side_one, valid_push}

pub state_pushed : {S : Type 0} {g : Ghosts S} (old new : Replica S g) (key : Key) (pushed : State) (result : Result (Unit {0}) Refusal) → PushesState old key pushed result new →
    TakesTurns (push_turn key pushed (push_reply result) ∷ []) (stored_of old) (stored_of new)
state_pushed old new key pushed result it =
    push_takes (site_of old) (site_of new) (store_of old) (store_of new) key pushed result it.answer (λ was. ((it.stays was).0, ap (λ r. r.site) (it.stays was).1))
    it.unchanged it.valid it.follows it.leaves it.form

pub side_push : {S : Type 0} {g : Ghosts S} (old new : Replica S g) (key : Key) (pushed : State) (result : Result (Unit {0}) Refusal) → IsValid pushed → PushesState old key pushed result new → SideTakes (stored_of old) (stored_of new)
side_push old new key pushed result valid it =
    side_one (push_turn key pushed (push_reply result) ∷ []) (site_of old) (site_of new) (store_of old) (store_of new) (asks_push key pushed (push_reply result))
    (valid_push key pushed (push_reply result) valid) (state_pushed old new key pushed result it)
