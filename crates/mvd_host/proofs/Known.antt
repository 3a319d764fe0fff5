-- What the turns of rounds tell from the writes known, and that they keep the configuration.
use Rattle.std.proofs.Common.{◌≡◌, ◌∙◌, inl, inr, false, List, [], ◌∷◌, refl, sym, ap, subst}
use Rattle.std.specs.List.{AllByRecursion}
use Rattle.mvd_dots.specs.declared.refusals.Refusal.TheVariants.{Broken, Memory}
use Rattle.mvd_keys.specs.Writes.{Write}
use Rattle.mvd_wire.specs.declared.reply.Reply.{Reply}
use Rattle.mvd_wire.specs.declared.reply.Reply.TheVariants.{Refused}
use Rattle.mvd_site.specs.Sites.{SiteValue}
use Rattle.mvd_site.proofs.Pushes.{refusal_is}
use Rattle.mvd_replica.specs.Turns.{AddsAt, IsToldElse, Replies, RepliesOne, StandsOn, Turn}
use Rattle.mvd_replica.proofs.Batched.{RepliesOne-memory}
use Rattle.mvd_replica.proofs.Batching.{HasChoice-turn, choice_turn, config_turn, replies_turn, told_turn, whole_turn}
use Rattle.mvd_replica.proofs.Replying.{AddsAt-Refused-none, HasChoice, HasChoice-append, HasChoice-none, Replies-append, Replies-none, Replies-one, StandsOn-append, StandsOn-none, StandsOn-one}
use Rattle.mvd_host.specs.Round.{ServesAllFrom}
use Rattle.mvd_host.proofs.Positions.{ServesFrom}

-- ---- one turn

module _ (old new : SiteValue) (turn : Turn) where
  replies_one : ServesFrom old new turn → RepliesOne old new turn
  replies_one (inl takes) = replies_turn old new turn.asked turn.reply takes
  replies_one (inr memory) =
      subst (λ s. RepliesOne old s turn) (sym memory.1)
      (subst (λ (r : Reply). RepliesOne old old (record { asked = turn.asked; reply = r })) (sym memory.0) (RepliesOne-memory old turn.asked))

  config_one : ServesFrom old new turn → new.config ≡ old.config
  config_one (inl takes) = config_turn old new turn.asked turn.reply takes
  config_one (inr memory) = ap (λ (s : SiteValue). s.config) memory.1

  adds_one : ServesFrom old new turn → (added : List Write) × AddsAt turn.asked turn.reply added
  adds_one (inl takes) = choice_turn old new turn.asked turn.reply takes
  adds_one (inr memory) = ([], subst (λ r. AddsAt turn.asked r []) (sym memory.0) (AddsAt-Refused-none turn.asked Memory))

  told_one : ServesFrom old new turn → new.broken ≡ false → IsToldElse turn
  told_one (inl takes) whole = told_turn old new turn.asked turn.reply takes whole
  told_one (inr memory) whole = λ request told. (let wrong : Memory ≡ Broken = refusal_is Memory Broken (sym memory.0 ∙ told.1) in absurd cc)

  whole_one : ServesFrom old new turn → new.broken ≡ false → old.broken ≡ false
  whole_one (inl takes) whole = whole_turn old new turn.asked turn.reply takes whole
  whole_one (inr memory) whole = ap (λ (s : SiteValue). s.broken) (sym memory.1) ∙ whole

-- ---- all of them

pub replies_known : (turns : List Turn) (old new : SiteValue) → ServesAllFrom old new turns → Replies old new turns
replies_known [] old new all = subst (λ s. Replies old s []) (sym all) (Replies-none old)
replies_known (turn ∷ turns) old new all =
    Replies-append old all.0 new (turn ∷ []) turns (config_one old all.0 turn all.1) (Replies-one old all.0 turn (replies_one old all.0 turn all.1)) (replies_known turns all.0 new all.2)

pub stands_known : (turns : List Turn) (old new : SiteValue) → ServesAllFrom old new turns → StandsOn old new turns
stands_known [] old new all = subst (λ s. StandsOn old s []) (sym all) (StandsOn-none old)
stands_known (turn ∷ turns) old new all =
    StandsOn-append old all.0 new (turn ∷ []) turns (StandsOn-one old all.0 turn (replies_one old all.0 turn all.1)) (stands_known turns all.0 new all.2)

-- there are writes that they add
pub choice_known : (turns : List Turn) (old new : SiteValue) → ServesAllFrom old new turns → HasChoice turns
choice_known [] old new all = HasChoice-none
choice_known (turn ∷ turns) old new all =
    HasChoice-append (turn ∷ []) turns (HasChoice-turn turn.asked turn.reply (adds_one old all.0 turn all.1)) (choice_known turns all.0 new all.2)

-- of a site that is not broken nothing was told 22
whole_known : (turns : List Turn) (old new : SiteValue) → ServesAllFrom old new turns → new.broken ≡ false → old.broken ≡ false
whole_known [] old new all whole = ap (λ (s : SiteValue). s.broken) (sym all) ∙ whole
whole_known (turn ∷ turns) old new all whole = whole_one old all.0 turn all.1 (whole_known turns all.0 new all.2 whole)

pub told_known : (turns : List Turn) (old new : SiteValue) → ServesAllFrom old new turns → new.broken ≡ false → AllByRecursion IsToldElse turns
told_known [] old new all whole = tt
told_known (turn ∷ turns) old new all whole =
    (told_one old all.0 turn all.1 (whole_known turns all.0 new all.2 whole), told_known turns all.0 new all.2 whole)
