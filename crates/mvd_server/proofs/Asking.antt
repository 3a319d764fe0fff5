-- Who asks is answered first.
use Rattle.std.proofs.Common.{◌≡◌}
use Rattle.mvd_replica.specs.declared.replica.Replica.{Replica}
use Rattle.mvd_server.proofs.Rounds.{goes_answers, goes_carries, goes_deeds, goes_in, goes_on, goes_round}
use Rattle.mvd_server.specs.Rounds.{AnswersClients, GoesOnServing, HasRound}
use Rattle.mvd_server.specs.Talking.{TalksDeeds, talking_of}
use Rattle.mvd_server.specs.Wires.{Carries, Wired, wired_of}
use Rattle.mvd_server.specs.declared.sockets.Sockets.{Ghosts as SocketGhosts}
use Rattle.mvd_server.specs.declared.talks.Talks.{Talks}
use Rattle.sqlite_trees.specs.declared.store.Store.{Ghosts}

module _ {S : Type 0} {g : Ghosts S} {K I A T : Type 0} (k : SocketGhosts K I A T) where
  -- those who ask are answered, and told
  pub asked_first : (t asked told : Talks) (s s' : K) (old new : Replica S g) → HasRound (talking_of t) (talking_of asked) old new → Carries k (wired_of asked s) (wired_of told s') → GoesOnServing k (wired_of t s) old (wired_of told s') new
  asked_first t asked told s s' old new round sends =
      goes_on k (wired_of t s) (wired_of asked s) (wired_of told s') old new new (goes_round k (talking_of t) (talking_of asked) s old new round) (goes_carries k (wired_of asked s) (wired_of told s') new sends)

  -- a pass up to its commit: what came is taken in, and who asks is answered
  pub passes_in : (t mid t' a asked : Talks) (s s' s'' : K) (old now : Replica S g) → mid ≡ t → Carries k (wired_of mid s) (wired_of t' s') → TalksDeeds t' a → GoesOnServing k (wired_of a s') old (wired_of asked s'') now
      → GoesOnServing k (wired_of t s) old (wired_of asked s'') now
  passes_in t mid t' a asked s s' s'' old now same takes does asks =
      goes_on k (wired_of t s) (wired_of t' s') (wired_of asked s'') old old now (goes_in k t mid t' s s' old same takes)
      (goes_on k (wired_of t' s') (wired_of a s') (wired_of asked s'') old old now (goes_deeds k (talking_of t') (talking_of a) s' old does) asks)

  -- then all are answered, and what waits is given out
  pub passes_out : (w : Wired K) (asked answered woken last : Talks) (s s' : K) (old now new : Replica S g) → GoesOnServing k w old (wired_of asked s) now → AnswersClients asked now answered new → TalksDeeds answered woken
      → Carries k (wired_of woken s) (wired_of last s') → GoesOnServing k w old (wired_of last s') new
  passes_out w asked answered woken last s s' old now new before answers wakes gives =
      goes_on k w (wired_of asked s) (wired_of last s') old now new before
      (goes_on k (wired_of asked s) (wired_of answered s) (wired_of last s') now new new (goes_answers k asked answered s now new answers)
      (goes_on k (wired_of answered s) (wired_of woken s) (wired_of last s') new new new (goes_deeds k (talking_of answered) (talking_of woken) s new wakes) (goes_carries k (wired_of woken s) (wired_of last s') new gives)))
