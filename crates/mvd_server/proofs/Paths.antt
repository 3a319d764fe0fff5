-- Steps one after the other, and what they come to.
use Rattle.std.proofs.Common.{◌≡◌, List, [], ◌∷◌, ◌++◌, map, ap, refl, sym, subst}
use Rattle.mvd_server.specs.Paths.{IsWay, Path}

module _ {W : Type 0} (step : W → W → Type 0) where
  pub path_none : (w : W) → Path step w w
  path_none w = record { mids = []; steps = refl }

  pub path_same : (old new : W) → new ≡ old → Path step old new
  path_same old new same = record { mids = []; steps = same }

  pub path_one : (old new : W) → step old new → Path step old new
  path_one old new one = record { mids = new ∷ []; steps = (one, refl) }

  is_path_on : (old mid new : W) (xs ys : List W) → IsWay step old xs mid → IsWay step mid ys new → IsWay step old (xs ++ ys) new
  is_path_on old mid new [] ys same more = subst (λ w. IsWay step w ys new) same more
  is_path_on old mid new (x ∷ xs) ys (one, first) more = (one, is_path_on x mid new xs ys first more)

  pub path_on : (old mid new : W) → Path step old mid → Path step mid new → Path step old new
  path_on old mid new p q = record { mids = p.mids ++ q.mids; steps = is_path_on old mid new p.mids q.mids p.steps q.steps }

  pub path_to : (old mid new : W) → new ≡ mid → Path step old mid → Path step old new
  path_to old mid new same p = subst (λ w. Path step old w) (sym same) p

  pub path_from : (old mid new : W) → mid ≡ old → Path step mid new → Path step old new
  path_from old mid new same p = subst (λ w. Path step w new) same p

module _ {V W : Type 0} (step : V → V → Type 0) (step' : W → W → Type 0) (f : V → W) (each : (a b : V) → step a b → step' (f a) (f b)) where
  is_path_map : (old new : V) (xs : List V) → IsWay step old xs new → IsWay step' (f old) (map f xs) (f new)
  is_path_map old new [] same = ap f same
  is_path_map old new (x ∷ xs) (one, more) = (each old x one, is_path_map x new xs more)

  pub path_map : (old new : V) → Path step old new → Path step' (f old) (f new)
  path_map old new p = record { mids = map f p.mids; steps = is_path_map old new p.mids p.steps }

-- what each step keeps
module _ {W : Type 0} (step : W → W → Type 0) (P : W → Type 0) (each : (a b : W) → step a b → P a → P b) where
  is_path_keeps : (old new : W) (xs : List W) → IsWay step old xs new → P old → P new
  is_path_keeps old new [] same p = subst P (sym same) p
  is_path_keeps old new (x ∷ xs) (one, more) p = is_path_keeps x new xs more (each old x one p)

  pub path_keeps : (old new : W) → Path step old new → P old → P new
  path_keeps old new path p = is_path_keeps old new path.mids path.steps p
