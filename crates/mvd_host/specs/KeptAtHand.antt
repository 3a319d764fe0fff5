-- What is kept of requests at hand, and what of it is true.
use Rattle.std.specs.Prelude.{◌≡◌, ◌+◌, ◌∷◌, [], List, ℕ, Option, None, Some, drop, map, slice_index, zip}
use Rattle.mvd_host.specs.AtHand.{AllMayWait, AtHandValue, told_at_hand}
use Rattle.mvd_host.specs.Fronts.{waiting_in}
use Rattle.mvd_host.specs.declared.at_hand.AtHand.TheInside.{Inside}
use Rattle.mvd_host.specs.declared.at_hand.Told.{Told}
use Rattle.mvd_host.specs.declared.at_hand.Told.TheVariants.{Each, All}
use Rattle.mvd_wire.specs.declared.reply.Reply.{Reply}
use Rattle.mvd_wire.specs.declared.reply.Reply.TheVariants.{Refused}

-- each of these clients with what it is told
abbrev pub told_each : List ℕ → Told → List (ℕ × Reply)
told_each clients (Each replies) = zip clients replies.items
told_each clients (All refusal) = map (λ n. (n, Refused refusal)) clients

-- of these clients from a place on, those at hand, each with what it is told
abbrev pub left_of : List ℕ → Told → ℕ → List (ℕ × Reply)
left_of clients told next = told_at_hand (drop next (told_each clients told))

abbrev pub at_hand_of : Inside → AtHandValue
at_hand_of a = record {
  done = a.done.items;
  waits = waiting_in a.asking.items;
  taken = a.taken.items;
  left = left_of a.answered.items a.told a.next;
}

abbrev pub IsKeptAtHand : Inside → Type 0
IsKeptAtHand a = AllMayWait (waiting_in a.asking.items)

-- what the client at this place is told was taken, or it and those behind it are told nothing
abbrev pub TakesAt : List ℕ → ℕ → Told → Option Reply → Told → Type 0
TakesAt clients i old None new = drop i (told_each clients old) ≡ []
TakesAt clients i old (Some reply) new =
    drop i (told_each clients old) ≡ (slice_index clients i, reply) ∷ drop (i + 1) (told_each clients new)

-- the first of these was taken, or there is none
abbrev pub TakesNext : List (ℕ × Reply) → Option (ℕ × Reply) → List (ℕ × Reply) → Type 0
TakesNext old None new = old ≡ []
TakesNext old (Some told) new = old ≡ told ∷ new
