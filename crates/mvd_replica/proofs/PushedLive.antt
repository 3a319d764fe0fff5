-- Pushes that were answered one after the other, as a live side tells them.
use Rattle.std.proofs.Common.{◌≡◌, List, [], ◌∷◌, ◌++◌, map, ap, sym, subst, false}
use Rattle.mvd_keys.specs.State.{IsValid, State}
use Rattle.mvd_keys.specs.Writes.{Key}
use Rattle.mvd_wire.specs.declared.reply.Reply.{Reply}
use Rattle.mvd_wire.specs.declared.request.Request.{Request}
use Rattle.mvd_site.specs.Held.{AreHeld, States}
use Rattle.mvd_site.specs.Sites.{SiteValue}
use Rattle.mvd_peer.specs.PushedStates.{Each}
use Rattle.mvd_peer.specs.Telling.{TellsEach, TellsPush}
use Rattle.mvd_peer.proofs.Telling.{each_joined, grows_same, push_told}
use Rattle.mvd_replica.specs.Batch.{TakesAllFrom}
use Rattle.mvd_replica.specs.Pushes.{push_of, told_of}
use Rattle.mvd_replica.specs.Turns.{Turn}
use Rattle.sqlite.specs.State.{State as Shown}
use Rattle.mvd_replica.proofs.Batching.{whole_all}
use Rattle.mvd_replica.proofs.Positions.{AnswersAll}
use Rattle.mvd_replica.proofs.Pushed.{AskPushes, asks, asks_first, first_takes, held_seen, no_turn, none_asked, one_turn, told_by}

pub all_live : (pairs : List (Key × State)) (turns : List Turn) (old new : SiteValue) → AskPushes pairs turns → TakesAllFrom old new turns → AreHeld old.states → AreHeld new.states → Each (λ p. IsValid p.1) pairs → new.broken ≡ false
    → (moments : List States) × TellsEach (TellsPush old.config.max_keys) pairs (told_by turns) old.states moments new.states
all_live [] [] old new asked all held held' valid whole = ([], subst (λ (s : SiteValue). TellsEach (TellsPush old.config.max_keys) [] [] old.states [] s.states) (sym all) (grows_same old.states held))
all_live [] (turn ∷ turns) old new asked all held held' valid whole = absurd (none_asked turn turns asked)
all_live (p ∷ pairs) [] old new asked all held held' valid whole = absurd (no_turn p pairs asked)
all_live (p ∷ pairs) (turn ∷ turns) old new asked all held held' valid whole =
    let mid = all.0 in
    let asks = asks_first p pairs turn turns asked in
    let takes = first_takes old mid p turn asks.0 all.1 in
    let was : old.broken ≡ false = whole_all (turn ∷ turns) old new all whole in
    let it = one_turn old mid p (held_seen old.states held) valid.0 was turn.reply takes in
    let form : AreHeld mid.states = takes.form held in
    let most = old.config.max_keys in
    let one = push_told most old.states mid.states p.0 p.1 (told_of turn.reply) held form valid.0 it.ok it.apart it.same it.cause in
    let later = all_live pairs turns mid new asks.1 all.2 form held' valid.1 whole in
    let rest = subst (λ n. TellsEach (TellsPush n) pairs (told_by turns) mid.states later.0 new.states) (ap (λ c. c.max_keys) it.config) later.1 in
    (one.0 ++ later.0, each_joined (TellsPush most) (p ∷ []) pairs (told_of turn.reply ∷ []) (told_by turns) old.states mid.states new.states one.0 later.0 held form held' one.1 rest)

pub answered_live : (pairs : List (Key × State)) (requests : List Request) (replies : List Reply) (old new : SiteValue) (before after : Shown) → requests ≡ map push_of pairs → AnswersAll requests replies old new before after → AreHeld old.states → AreHeld new.states → Each (λ p. IsValid p.1) pairs → new.broken ≡ false
    → (moments : List States) × TellsEach (TellsPush old.config.max_keys) pairs (map told_of replies) old.states moments new.states
answered_live pairs requests replies old new before after same it held held' valid whole =
    let told = all_live pairs it.turns old new (asks pairs requests replies old new before after same it held valid) it.states held held' valid whole in
    (told.0, subst (λ rs. TellsEach (TellsPush old.config.max_keys) pairs (map told_of rs) old.states told.0 new.states) it.told told.1)
