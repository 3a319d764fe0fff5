-- The states of a side after states were pushed into it.
use Rattle.std.specs.Prelude.{◌≡◌, ◌==◌, Bool, cond, ◌&&◌, List, [], ◌∷◌}
use Rattle.std.specs.FinMap.{insert, len, remove}
use Rattle.mvd_keys.specs.State.{IsValid, State, join}
use Rattle.mvd_keys.specs.Writes.{Key, is_empty}
use Rattle.mvd_site.specs.Held.{States, state_at}

-- nobody has written the key: no sibling, and an empty context
abbrev pub is_nothing : State → Bool
is_nothing s = (len s.siblings == 0) && is_empty s.context

-- the states with this one at the key; what nobody has written is not held
unfoldable pub put_state : States → Key → State → States
put_state states key state = cond (is_nothing state) (remove states key) (insert states key state)

-- the states after this one was pushed
unfoldable pub pushed : States → Key → State → States
pushed states key state = put_state states key (join (state_at states key) state)

-- after several pushes
abbrev pub pushed_all : States → List (Key × State) → States
pushed_all states [] = states
pushed_all states (p ∷ ps) = pushed_all (pushed states p.0 p.1) ps

-- each member of a list
abbrev pub Each : {X : Type 0} → (X → Type 0) → List X → Type 0
Each P [] = Unit {0}
Each P (x ∷ xs) = P x × Each P xs

-- the new states are the old ones after pushes of states in form that may be given for their keys
pub record ComesByPushes (can_give : Key → State → Type 0) (old new : States) : Type 0 where
  pub pushes : List (Key × State)
  pub given : Each (λ p. can_give p.0 p.1) pushes
  pub valid : Each (λ p. IsValid p.1) pushes
  pub is : new ≡ pushed_all old pushes
