-- The lines of many writes.
use Rattle.std.proofs.Common.{◌≡◌, ◌≢◌, ◌∙◌, ◌+◌, ◌<◌, ◌≤◌, ◌++◌, arith, inl, inr, ℕ, List, length, Option, Some, None, ap, refl, subst, sym}
use Rattle.std.specs.List.{slice_get}
use Rattle.std.specs.Prelude.{string_bytes}
use Rattle.mvd_dots.specs.declared.refusals.Refusal.{Refusal}
use Rattle.mvd_host.proofs.Numbers.{low_or_high}
use Rattle.mvd_host.specs.AtHand.{AtHandValue}
use Rattle.mvd_http.specs.Json.{line_text}
use Rattle.mvd_server.proofs.Paths.{path_none, path_on, path_one}
use Rattle.mvd_server.specs.Errands.{TakesIf}
use Rattle.mvd_server.specs.Lines.{IsAtReply, IsOnlyTold, Lining, PassesRefused, TellsEachLine, TellsNext, TellsWriteLine, TellsSome, lining}
use Rattle.mvd_server.specs.declared.batch.Batch.{Batch}
use Rattle.mvd_wire.specs.declared.reply.Reply.{Reply}
use Rattle.mvd_wire.specs.declared.reply.Reply.TheVariants.{Refused}

pub each_none : (n : ℕ) (batch : Batch) (hand : AtHandValue) → TellsEachLine n batch hand batch hand
each_none n batch hand = path_none (TellsWriteLine batch.refused.items n) (lining hand batch)

pub only_on : (old mid new : Batch) → IsOnlyTold old mid → IsOnlyTold mid new → IsOnlyTold old new
only_on old mid new first second = second ∙ ap (λ (b : Batch). record b { told = new.told; lines = new.lines }) first

-- where a line is not there, the next one is of a reply
pub waits_for_reply : (batch : Batch) → IsAtReply batch → batch.told < length batch.refused.items → slice_get batch.refused.items batch.told ≡ Some None
waits_for_reply batch (inl all) less = absurd (omega (arith, all, less))
waits_for_reply batch (inr next) less = next

-- some lines, and some more
pub each_on : (n : ℕ) (first mid last : Batch) (start hand end : AtHandValue) → IsOnlyTold first mid → TellsEachLine n first start mid hand → TellsEachLine n mid hand last end → TellsEachLine n first start last end
each_on n first mid last start hand end only so more =
    let same : mid.refused.items ≡ first.refused.items = ap (λ (b : Batch). b.refused.items) only in
    path_on (TellsWriteLine first.refused.items n) (lining start first) (lining hand mid) (lining end last) so
    (subst (λ (l : List (Option Refusal)). TellsSome l n (lining hand mid) (lining end last)) same more)

-- ---- the reply to the next write

-- it was refused at once
pub next_refused : (own : Option (Option Refusal)) (refusal : Refusal) (n : ℕ) (hand : AtHandValue) → own ≡ Some (Some refusal) → TellsNext own n hand (Refused refusal) hand
next_refused own refusal n hand is = subst (λ o. TellsNext o n hand (Refused refusal) hand) (sym is) (refl, refl)

-- it was not, and is told the reply that was taken
pub next_taken : (own : Option (Option Refusal)) (reply : Reply) (n : ℕ) (hand hand' : AtHandValue) → own ≡ Some None → TakesIf n (Some reply) hand hand' → TellsNext own n hand reply hand'
next_taken own reply n hand hand' is takes = subst (λ o. TellsNext o n hand reply hand') (sym is) takes

-- one line more
pub each_more : (n : ℕ) (first mid : Batch) (start hand hand' : AtHandValue) (reply : Reply) (told : ℕ) (lines : List ℕ) → IsOnlyTold first mid → mid.told < length first.refused.items → TellsEachLine n first start mid hand
    → TellsNext (slice_get mid.refused.items mid.told) n hand reply hand' → told ≡ mid.told + 1 → lines ≡ string_bytes mid.lines ++ line_text reply
    → TellsSome first.refused.items n (lining start first) (record { hand = hand'; told = told; lines = lines })
each_more n first mid start hand hand' reply told lines only within so next more line =
    let same : mid.refused.items ≡ first.refused.items = ap (λ (b : Batch). b.refused.items) only in
    let new : Lining = record { hand = hand'; told = told; lines = lines } in
    let one : TellsWriteLine first.refused.items n (lining hand mid) new = record {
      within = within;
      reply = reply;
      next = subst (λ (l : List (Option Refusal)). TellsNext (slice_get l mid.told) n hand reply hand') same next;
      told = more;
      lines = line;
    } in
    path_on (TellsWriteLine first.refused.items n) (lining start first) (lining hand mid) new so (path_one (TellsWriteLine first.refused.items n) (lining hand mid) new one)

-- the line of the next write is the first
pub each_one : (n : ℕ) (batch : Batch) (hand hand' : AtHandValue) (reply : Reply) (told : ℕ) (lines : List ℕ) → batch.told < length batch.refused.items
    → TellsNext (slice_get batch.refused.items batch.told) n hand reply hand' → told ≡ batch.told + 1 → lines ≡ string_bytes batch.lines ++ line_text reply
    → TellsSome batch.refused.items n (lining hand batch) (record { hand = hand'; told = told; lines = lines })
each_one n batch hand hand' reply told lines within next more line = each_more n batch batch hand hand hand' reply told lines refl within (each_none n batch hand) next more line

-- ---- those that were refused at once

-- no line is new; one is, of a write that was refused at once
pub passes_none : (batch : Batch) → PassesRefused batch batch
passes_none batch = λ i from before at. absurd (omega (arith, from, before))

pub passes_more : (old : Batch) (told more : ℕ) (refusal : Refusal) → ((i : ℕ) → old.told ≤ i → i < told → slice_get old.refused.items i ≢ Some None) → slice_get old.refused.items told ≡ Some (Some refusal) → more ≡ told + 1
    → (i : ℕ) → old.told ≤ i → i < more → slice_get old.refused.items i ≢ Some None
passes_more old told more refusal passes refused next i from before at = elim (low_or_high i told) [
  | inl less ↦ passes i from less at
  | inr behind ↦ let here : i ≡ told = omega (arith, behind, before, next) in let no : ◌≡◌ {A = Option (Option Refusal)} (Some (Some refusal)) (Some None) = sym refused ∙ ap (λ k. slice_get old.refused.items k) (sym here) ∙ at in absurd cc
]
