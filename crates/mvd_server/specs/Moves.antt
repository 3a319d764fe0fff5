-- What one read or one write of a client's socket moves.
use Rattle.std.specs.Prelude.{◌≡◌, ◌≤◌, ◌⊎◌, ℕ, List, [], length, take, ⊤, Result, Ok, Err}
use Rattle.mvd_server.specs.declared.client.Moved.{Moved}
use Rattle.mvd_server.specs.declared.client.Moved.TheVariants.{Bytes, Nothing, End, Failed}

-- how a read or a write went, by what the system said
abbrev pub IsMoved : {E : Type 0} → Result ℕ E → Moved → Type 0
IsMoved (Ok n) (Bytes count) = count ≡ n
IsMoved (Ok n) Nothing = ⊥
IsMoved (Ok n) End = n ≡ 0
IsMoved (Ok n) Failed = ⊥
IsMoved (Err e) (Bytes count) = ⊥
IsMoved (Err e) Nothing = ⊤
IsMoved (Err e) End = ⊥
IsMoved (Err e) Failed = ⊤

module _ {K : Type 0} (moves : K → ℕ → List ℕ → K → Type 0) (n : ℕ) where
  -- a read gave the first bytes of the buffer, or none
  abbrev pub GivesOne : Moved → List ℕ → K → K → Type 0
  GivesOne (Bytes count) buffer old new = moves old n (take count buffer) new
  GivesOne Nothing buffer old new = new ≡ old
  GivesOne End buffer old new = moves old n [] new
  GivesOne Failed buffer old new = new ≡ old

  -- the first of these bytes left, or none
  abbrev pub MovesOne : Moved → List ℕ → K → K → Type 0
  MovesOne (Bytes count) bytes old new = (count ≤ length bytes) × moves old n (take count bytes) new
  MovesOne Nothing bytes old new = new ≡ old
  MovesOne End bytes old new = moves old n [] new
  MovesOne Failed bytes old new = new ≡ old

  -- at most one read was made
  abbrev pub ReadsOnce : K → K → Type 0
  ReadsOnce old new = (new ≡ old) ⊎ ((bytes : List ℕ) × moves old n bytes new)

-- a socket was taken over under a number, or none
abbrev pub TakesOne : {K : Type 0} → (K → ℕ → K → Type 0) → ℕ → K → K → Type 0
TakesOne began n old new = (new ≡ old) ⊎ began old n new
