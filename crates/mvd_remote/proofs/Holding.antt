-- Replies that are kept, of which the states are dropped behind those that are held at once.
use Rattle.std.proofs.Common.{◌≡◌, inl, inr, ℕ, ◌+◌, ◌-◌, ◌^◌, List, [], ◌∷◌, ◌++◌, Option, Some, None, min, refl, sym, ap, subst, ◌∙◌, arith}
use Rattle.std.specs.Prelude.{Result, Ok, Err, IfOk, map}
use Rattle.std.proofs.lemmas.List.{map-append}
use Rattle.mvd_dots.specs.declared.refusals.Refusal.{Refusal}
use Rattle.mvd_dots.specs.declared.refusals.Refusal.TheVariants.{Memory}
use Rattle.mvd_keys.specs.State.{State}
use Rattle.mvd_keys.specs.Writes.{Key}
use Rattle.mvd_wire.specs.Frames.{FrameValue}
use Rattle.mvd_wire.specs.declared.reply.Reply.{Reply}
use Rattle.mvd_wire.specs.declared.request.Request.{Request}
use Rattle.mvd_wire.specs.declared.request.Request.TheVariants.{Get}
use Rattle.mvd_site.specs.Config.{ConfigValue}
use Rattle.mvd_site.specs.Held.{States}
use Rattle.mvd_peer.specs.Windows.{AreWithin, ForEach, GivesWithin}
use Rattle.mvd_peer.proofs.Dropped.{bytes_of, within_more}
use Rattle.mvd_remote.specs.LinkWindows.{AnswersTurn, IsKeptOf, IsOfKind, IsToldBy, ToldBy, state_in, states_in}
use Rattle.mvd_remote.specs.Lines.{AreGets, DueTurn, IsReplyTaken, TakesDue, as_state, far_of}
use Rattle.mvd_remote.specs.LiveRemotes.{LiveTurn, TakesAwaited, TookTurn}
use Rattle.mvd_remote.specs.declared.line.Line.{Ghosts}
use Rattle.mvd_remote.specs.declared.remote.Remote.{Remote}

-- ---- one reply

-- a reply that was taken is taken so
kept_taken : (reply : Reply) (told kept : Result Reply Refusal) → IsKeptOf told kept → IsReplyTaken reply told → IsReplyTaken reply kept
kept_taken reply told kept (inl same) h = subst (IsReplyTaken reply) (sym same) h
kept_taken reply told kept (inr (memory, r, is)) h = inr memory

pub kept_kind : (kind : ℕ) (told kept : Result Reply Refusal) → IsKeptOf told kept → IsOfKind kind told → IsOfKind kind kept
kept_kind kind told kept (inl same) h = subst (IsOfKind kind) (sym same) h
kept_kind kind told kept (inr (memory, r, is)) h = subst (IsOfKind kind) (sym memory) tt

-- the frame of a state that is dropped tells that there was no memory for it
dropped_by : (kind : ℕ) (told : Result Reply Refusal) (r : Reply) (frame : FrameValue) → told ≡ Ok r → ToldBy kind told frame → ToldBy kind (Err Memory) frame
dropped_by kind told r frame is h = let t = subst (λ t. ToldBy kind t frame) is h in ((t.0, λ other. absurd (other refl)), omega arith)

pub kept_turn : (kind : ℕ) (none : Option Refusal) (told kept : Result Reply Refusal) (old new : Option (List ℕ)) → IsKeptOf told kept → AnswersTurn kind none told old new → AnswersTurn kind none kept old new
kept_turn kind none told kept old new (inl same) h = subst (λ t. AnswersTurn kind none t old new) (sym same) h
kept_turn kind None told kept old new (inr (memory, r, is)) h = subst (λ t. AnswersTurn kind None t old new) (sym memory)
    (λ bytes some. let a = h bytes some in (a.0, a.1, a.2, a.3, dropped_by kind told r a.0 is a.4))
kept_turn kind (Some refusal) told kept old new (inr (memory, r, is)) h = let no : Ok r ≡ Err refusal = sym is ∙ h.0 in absurd (cc)

takes_due : (due left : List Reply) (told kept : Result Reply Refusal) → IsKeptOf told kept → TakesDue due left told → TakesDue due left kept
takes_due [] left told kept k h = tt
takes_due (reply ∷ later) left told kept k h = (kept_taken reply told kept k h.0, h.1)

pub kept_due : (none : Option Refusal) (told kept : Result Reply Refusal) (due left : List Reply) → IsKeptOf told kept → DueTurn none due left told → DueTurn none due left kept
kept_due None told kept due left k h = takes_due due left told kept k h
kept_due (Some refusal) told kept due left (inl same) h = (same ∙ h.0, h.1)
kept_due (Some refusal) told kept due left (inr (memory, r, is)) h = let no : Ok r ≡ Err refusal = sym is ∙ h.0 in absurd (cc)

takes_awaited : (config : ConfigValue) (awaited left : List Request) (old new : States) (told kept : Result Reply Refusal) → IsKeptOf told kept → TakesAwaited config awaited left old new told → TakesAwaited config awaited left old new kept
takes_awaited config [] left old new told kept k h = tt
takes_awaited config (request ∷ later) left old new told kept k (same, held, (reply, taken, at), grows) = (same, held, (reply, kept_taken reply told kept k taken, at), grows)

live_turn : (config : ConfigValue) (none : Option Refusal) (awaited left : List Request) (old new : States) (told kept : Result Reply Refusal) → IsKeptOf told kept → LiveTurn config none awaited left old new told → LiveTurn config none awaited left old new kept
live_turn config None awaited left old new told kept k h = takes_awaited config awaited left old new told kept k h
live_turn config (Some refusal) awaited left old new told kept (inl same) h = (same ∙ h.0, h.1)
live_turn config (Some refusal) awaited left old new told kept (inr (memory, r, is)) h = let no : Ok r ≡ Err refusal = sym is ∙ h.0 in absurd (cc)

pub kept_live : {L : Type 0} (line : Ghosts L) (none : Option Refusal) (told kept : Result Reply Refusal) (old new : Remote L) → IsKeptOf told kept → TookTurn line none old new (Ok told) → TookTurn line none old new (Ok kept)
kept_live line none told kept old new k h = record {
  live = h.live;
  grows = h.grows;
  told = live_turn (far_of line.far old).config none (line.awaits old.line) (line.awaits new.line) (far_of line.far old).states (far_of line.far new).states told kept k h.told;
  unsure = h.unsure;
}

-- ---- all replies

-- one reply more
pub within_replies : (old new : ℕ) (replies us : List (Result Reply Refusal)) (kept : Result Reply Refusal) → us ≡ replies ++ kept ∷ [] → AreWithin 0 (states_in replies) → old ≡ min (0 + bytes_of (states_in replies)) (2 ^ 64 - 1) → GivesWithin old new (state_in kept)
    → AreWithin 0 (states_in us) × (new ≡ min (0 + bytes_of (states_in us)) (2 ^ 64 - 1))
within_replies old new replies us kept is all sum one =
    let longer : states_in us ≡ states_in replies ++ state_in kept ∷ [] = ap states_in is ∙ map-append state_in replies (kept ∷ []) in
    subst (λ ts. AreWithin 0 ts × (new ≡ min (0 + bytes_of ts) (2 ^ 64 - 1))) (sym longer) (within_more 0 old new (states_in replies) (state_in kept) sum all one)

-- what is told of replies
pub with_replies : {V X : Type 0} (P : List (Result Reply Refusal) → List X → Type 0) (items : V → List X) (replies : List (Result Reply Refusal)) (result : Result V Refusal) → AreWithin 0 (states_in replies) → IfOk result (λ v. P replies (items v))
    → IfOk result (λ v. (rs : List (Result Reply Refusal)) × AreWithin 0 (states_in rs) × P rs (items v))
with_replies P items replies (Ok v) all h = (replies, all, h)
with_replies P items replies (Err refusal) all h = tt

-- the states that were told are those of the replies
pub told_within : (replies : List (Result Reply Refusal)) (told : List (Result State Refusal)) (bytes : ℕ) → AreWithin bytes (states_in replies) → ForEach (IsToldBy as_state) replies told → AreWithin bytes told
told_within [] [] bytes all h = tt
told_within [] (t ∷ ts) bytes all h = absurd h
told_within (r ∷ rs) [] bytes all h = absurd h
told_within (r ∷ rs) (Ok state ∷ ts) bytes all h =
    let both = subst (λ r. AreWithin bytes (state_in r ∷ states_in rs)) h.0 all in
    (both.0, told_within rs ts _ both.1 h.1)
told_within (r ∷ rs) (Err refusal ∷ ts) bytes all h = told_within rs ts bytes (elim h.0 [ inl told ↦ subst (λ r. AreWithin bytes (state_in r ∷ states_in rs)) told all | inr told ↦ subst (λ r. AreWithin bytes (state_in r ∷ states_in rs)) told all ]) h.1

-- gets are questions whose replies may be given up
pub are_gets : (keys : List Key) → AreGets (map (λ key. Get key) keys)
are_gets [] = tt
are_gets (key ∷ keys) = (tt, are_gets keys)
