-- The records of a stored site follow whatever it is asked.
use Rattle.std.proofs.Common.{◌≡◌, List, [], ◌∷◌, sym, subst}
use Rattle.mvd_replica.proofs.Sides.{follows_wider}
use Rattle.mvd_replica.specs.Replicas.{site_of, store_of, stored_of}
use Rattle.mvd_replica.specs.Sides.{ReplicaFollows, replica_follows_on, replica_follows_self}
use Rattle.mvd_replica.specs.declared.replica.Replica.{Replica}
use Rattle.sqlite_trees.specs.declared.store.Store.{Ghosts}
use Rattle.mvd_shell.specs.Asked.{Exchange}
use Rattle.mvd_replica.specs.ReplicaCalls.{ReplicaAnswers}
use Rattle.mvd_shell.specs.Talk.{AnswersExchanges, AsksInTurn}

module _ {S : Type 0} {g : Ghosts S} where
  abbrev pub FollowsAsked : Replica S g → Replica S g → Type 0
  FollowsAsked old new = ReplicaFollows (λ _. Unit {0}) (stored_of old) (stored_of new)

  all_follow : (exchanges : List Exchange) (old new : Replica S g) → AnswersExchanges ReplicaAnswers exchanges old new → FollowsAsked old new
  unfolding AnswersExchanges
  all_follow [] old new same = subst (λ (r : Replica S g). FollowsAsked old r) (sym same) (replica_follows_self (stored_of old))
  all_follow (exchange ∷ exchanges) old new (between, one, others) =
      replica_follows_on (λ _. Unit {0}) (stored_of old) (stored_of between) (stored_of new)
      (follows_wider (λ asked. asked ≡ exchange.request) (λ _. Unit {0}) (site_of old) (site_of between) (store_of old) (store_of between) (λ _ _. tt) one.follows)
      (all_follow exchanges between new others)

  pub follows : (old new : Replica S g) → AsksInTurn ReplicaAnswers old new → FollowsAsked old new
  follows old new asks = all_follow asks.exchanges old new asks.answered
