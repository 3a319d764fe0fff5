-- What requests weigh in a round.
use Rattle.std.specs.Prelude.{◌≤◌, ℕ, ◌+◌, ◌&&◌, ◌||◌, nat_le, nat_lt, Bool, List, [], ◌∷◌, length, map, Result, Ok, Err}
use Rattle.mvd_dots.specs.declared.refusals.Refusal.{Refusal}
use Rattle.mvd_replica.specs.Turns.{Turn}
use Rattle.mvd_site.specs.Held.{States, state_at}
use Rattle.mvd_wire.specs.Codecs.{spell_state}
use Rattle.mvd_wire.specs.declared.request.Request.{Request}
use Rattle.mvd_wire.specs.declared.request.Request.TheVariants.{Delete, Push, Put}

-- a change 1,024, the bytes of the state of its key, and of what it puts or pushes there
abbrev pub weight_of : States → Request → ℕ
weight_of states (Put key seen document) = length (spell_state (state_at states key)) + (1024 + length document)
weight_of states (Delete key seen) = length (spell_state (state_at states key)) + 1024
weight_of states (Push key pushed) = length (spell_state (state_at states key)) + (length (spell_state pushed) + 1024)
weight_of states request = 0

abbrev pub weights_in : States → List Request → ℕ
weights_in states [] = 0
weights_in states (request ∷ requests) = weight_of states request + weights_in states requests

-- so much of what they weigh was counted, and no more than they weigh
abbrev pub IsWeighed : States → List Request → ℕ → Type 0
IsWeighed states requests counted = counted ≤ weights_in states requests

-- what weighs so much has to wait for another round, where this one weighs so much: a change that weighs over 4,096 once
-- the round weighs 4,194,304, and any once it weighs twice as much
abbrev pub has_to_wait : ℕ → ℕ → Bool
has_to_wait weighed weighs =
    (nat_le 4194304 weighed && nat_lt 4096 weighs) || (nat_le 8388608 weighed && nat_lt 0 weighs)

-- requests of clients weigh as much as those of a round may before one that weighs more than 4,096 has to wait
abbrev pub AreHeavy : States → List (ℕ × Request) → Type 0
AreHeavy states asks = 4194304 ≤ weights_in states (map (λ ask. ask.1) asks)

-- the same of turns: a frame that is no request weighs nothing
abbrev pub weight_asked : States → Result Request Refusal → ℕ
weight_asked states (Ok request) = weight_of states request
weight_asked states (Err fault) = 0

abbrev pub weights_asked : States → List (ℕ × Turn) → ℕ
weights_asked states [] = 0
weights_asked states (turn ∷ turns) = weight_asked states turn.1.asked + weights_asked states turns

abbrev pub AreHeavyTurns : States → List (ℕ × Turn) → Type 0
AreHeavyTurns states turns = 4194304 ≤ weights_asked states turns
