-- Turns of a replica, one after the other, and turns that leave it as it is.
use Rattle.std.proofs.Common.{◌≡◌, ◌≢◌, inl, inr, List, [], ◌∷◌, ◌++◌, Result, Err, refl, sym, ap, subst}
use Rattle.std.specs.List.{AllByRecursion}
use Rattle.mvd_dots.specs.declared.refusals.Refusal.{Refusal}
use Rattle.mvd_dots.specs.declared.refusals.Refusal.TheVariants.{Memory}
use Rattle.mvd_wire.specs.declared.request.Request.{Request}
use Rattle.mvd_wire.specs.declared.reply.Reply.{Reply}
use Rattle.mvd_wire.specs.declared.reply.Reply.TheVariants.{Refused}
use Rattle.mvd_site.specs.Sites.{SiteValue}
use Rattle.mvd_site.proofs.Outcomes.{memory_or_not}
use Rattle.mvd_replica.specs.Turns.{Turn}
use Rattle.mvd_replica.specs.Batch.{TakesAllFrom, TakesFrom}
use Rattle.mvd_replica.proofs.Positions.{TakesTurns}
use Rattle.mvd_replica.proofs.Batched.{TurnsFollow-append, still_follows}
use Rattle.mvd_host.specs.Round.{ServesAllFrom}
use Rattle.mvd_host.proofs.Known.{told_known}
use Rattle.mvd_host.proofs.Positions.{Serves, ServesFrom}
use Rattle.sqlite.specs.State.{State}

served_from : (turns : List Turn) (old new : SiteValue) → TakesAllFrom old new turns → ServesAllFrom old new turns
served_from [] old new all = all
served_from (turn ∷ turns) old new all = (all.0, inl all.1, served_from turns all.0 new all.2)

served_on : (first second : List Turn) (old mid new : SiteValue) → ServesAllFrom old mid first → ServesAllFrom mid new second → ServesAllFrom old new (first ++ second)
served_on [] second old mid new one other = subst (λ s. ServesAllFrom s new second) one other
served_on (turn ∷ first) second old mid new one other = (one.0, one.1, served_on first second one.0 mid new one.2 other)

pub serves_turns : (turns : List Turn) (old new : SiteValue) (before after : State) → TakesAllFrom old new turns → TakesTurns turns old new before after → Serves turns old new before after
serves_turns turns old new before after from t = record { states = served_from turns old new from; follows = t.follows }

pub serves_none : (site : SiteValue) (s : State) → Serves [] site site s s
serves_none site s = record { states = refl; follows = still_follows [] site s }

pub serves_on : (first second : List Turn) (old mid new : SiteValue) (before between after : State) → Serves first old mid before between → Serves second mid new between after → Serves (first ++ second) old new before after
serves_on first second old mid new before between after p q = record {
  states = served_on first second old mid new p.states q.states;
  follows = TurnsFollow-append first second old mid new before between after p.follows q.follows (told_known first old mid p.states);
}

-- ---- a turn that leaves all as it is

-- the turn was told its fault, or want of memory
pub record IsStill (turn : Turn) : Type 0 where
  pub refusal : Refusal
  pub reply : turn.reply ≡ Refused refusal
  pub exact : refusal ≢ Memory → turn.asked ≡ Err refusal

still_from : (site : SiteValue) (asked : Result Request Refusal) (refusal : Refusal) → (refusal ≢ Memory → asked ≡ Err refusal) → ServesFrom site site (record { asked = asked; reply = Refused refusal })
still_from site asked refusal exact = elim (memory_or_not refusal) [
  | inl memory ↦ inr (ap Refused memory, refl)
  | inr other ↦ inl (subst (λ a. TakesFrom site site a (Refused refusal)) (sym (exact other)) (inl refl, refl))
]

still_all : (turns : List Turn) (site : SiteValue) → AllByRecursion IsStill turns → ServesAllFrom site site turns
still_all [] site still = refl
still_all (turn ∷ turns) site still =
    let one : IsStill turn = still.0 in
    let is : record { asked = turn.asked; reply = Refused one.refusal } ≡ turn = ap (λ (r : Reply). record { asked = turn.asked; reply = r }) (sym one.reply) in
    (site, subst (ServesFrom site site) is (still_from site turn.asked one.refusal one.exact), still_all turns site still.1)

pub serves_still : (turns : List Turn) (site : SiteValue) (s : State) → AllByRecursion IsStill turns → Serves turns site site s s
serves_still turns site s still = record { states = still_all turns site still; follows = still_follows turns site s }
