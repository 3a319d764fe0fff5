-- What was made of the replies to a window that left.
use Rattle.std.proofs.Common.{◌≡◌, ◌⊎◌, ℕ, List, Option}
use Rattle.std.specs.Prelude.{Result, Ok, Err, IfOk, IfErr, MatchResult, Contains}
use Rattle.mvd_dots.specs.declared.refusals.Refusal.{Refusal}
use Rattle.mvd_dots.specs.declared.refusals.Refusal.TheVariants.{Broken, Memory}
use Rattle.mvd_wire.specs.declared.reply.Reply.{Reply}
use Rattle.mvd_wire.specs.declared.reply.Reply.TheVariants.{Refused}
use Rattle.mvd_peer.specs.Windows.{ForEach}
use Rattle.mvd_remote.specs.LinkWindows.{IsToldBy, CollectsAll, CollectsNone, TakesEach, of_reply}
use Rattle.mvd_remote.specs.Links.{Link}

-- all were answered, and this was made of it
pub all_collected : {V A : Type 0} (as_reply : A → Reply) (items : V → List (Result A Refusal)) (kind : ℕ) (nones : List (Option Refusal)) (replies : List (Result Reply Refusal)) (old new : Link) (made : Result V Refusal) → TakesEach kind nones replies old new
    → IfOk made (λ v. ForEach (IsToldBy as_reply) replies (items v))
    → IfErr made (λ refusal. (refusal ≡ Memory) ⊎ ((refusal ≡ Broken) × (Contains replies (Ok (Refused Broken)) ⊎ Contains replies (Err Broken)))) → MatchResult made (λ v. CollectsAll as_reply kind nones (items v) old new) (CollectsNone kind nones old new)
all_collected as_reply items kind nones replies old new (Ok v) takes told ended = record { replies = replies; takes = takes; tells = told }
all_collected as_reply items kind nones replies old new (Err refusal) takes told ended = of_reply replies takes ended
