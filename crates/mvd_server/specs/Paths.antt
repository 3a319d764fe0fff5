-- Steps one after the other.
use Rattle.std.specs.Prelude.{◌≡◌, List, [], ◌∷◌}

-- from the first to the last by steps
abbrev pub IsWay : {W : Type 0} → (W → W → Type 0) → W → List W → W → Type 0
IsWay step old [] new = new ≡ old
IsWay step old (mid ∷ mids) new = step old mid × IsWay step mid mids new

pub record Path {W : Type 0} (step : W → W → Type 0) (old new : W) : Type 0 where
  pub mids : List W
  pub steps : IsWay step old mids new
