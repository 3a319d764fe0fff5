-- Requests at hand: clients that are no connections ask them as values, and are told the replies as values.
use Rattle.std.specs.Prelude.{◌≡◌, ◌≤◌, ◌⊎◌, ℕ, nat_le, List, [], ◌∷◌, ◌++◌, map, Option, Some, None}
use Rattle.std.specs.List.{AllByRecursion, filter}
use Rattle.mvd_wire.specs.declared.request.Request.{Request}
use Rattle.mvd_wire.specs.declared.reply.Reply.{Reply}
use Rattle.mvd_host.specs.Course.{own}
use Rattle.mvd_site.specs.Known.{IsValidRequest}

-- the numbers of clients at hand begin here; those of connections are less
abbrev pub first_at_hand : ℕ
first_at_hand = 4611686018427387904

pub record AtHandValue : Type 0 where
  -- what was asked in rounds, each with its client's number, and what waits for one
  pub done : List (ℕ × Request)
  pub waits : List (ℕ × Request)
  -- the replies that were taken away, and those that are left
  pub taken : List (ℕ × Reply)
  pub left : List (ℕ × Reply)

abbrev pub none_at_hand : AtHandValue
none_at_hand = record { done = []; waits = []; taken = []; left = [] }

-- ---- what is asked

-- it is of a client at hand, and pushes no state but one of some writes
abbrev pub MayWait : ℕ × Request → Type 0
MayWait ask = (first_at_hand ≤ ask.0) × IsValidRequest ask.1

abbrev pub AllMayWait : List (ℕ × Request) → Type 0
AllMayWait asks = AllByRecursion MayWait asks

-- a client asks these
abbrev pub asks_of : ℕ → List Request → List (ℕ × Request)
asks_of n requests = map (λ request. (n, request)) requests

abbrev pub asked_by_one : AtHandValue → ℕ → List Request → AtHandValue
asked_by_one hand n requests = record hand { waits = hand.waits ++ asks_of n requests }

-- a round asks these, which of each client are a front of what waits of it, in order; the rest waits still
pub record BeginsWith (asked : List (ℕ × Request)) (old new : AtHandValue) : Type 0 where
  pub done : new.done ≡ old.done ++ asked
  pub front : (n : ℕ) → own n old.waits ≡ own n asked ++ own n new.waits
  pub told : (new.taken ≡ old.taken) × (new.left ≡ old.left)

-- ---- what is told

-- of replies to clients, those to clients at hand
abbrev pub told_at_hand : List (ℕ × Reply) → List (ℕ × Reply)
told_at_hand replies = filter (λ told. nat_le first_at_hand told.0) replies

-- the first reply that is left is taken away, if there is one
abbrev pub TakesFirst : AtHandValue → Option (ℕ × Reply) → AtHandValue → Type 0
TakesFirst old None new = (new ≡ old) × (old.left ≡ [])
TakesFirst old (Some told) new =
    (old.left ≡ told ∷ new.left) × (new ≡ record old { taken = old.taken ++ told ∷ []; left = new.left })

-- ---- between rounds

-- a client asks something, or takes the first reply that is left
abbrev pub StepsAtHand : AtHandValue → AtHandValue → Type 0
StepsAtHand old new =
    ((n : ℕ) × (requests : List Request) × AllMayWait (asks_of n requests) × (new ≡ asked_by_one old n requests))
    ⊎ ((told : ℕ × Reply) × TakesFirst old (Some told) new)
