-- A side to which others write meanwhile: what it holds only grows, from moment to moment.
use Rattle.std.specs.Prelude.{Contains, List, [], ◌∷◌}
use Rattle.mvd_keys.specs.Order.{Includes}
use Rattle.mvd_keys.specs.State.{IsValid}
use Rattle.mvd_keys.specs.Writes.{Key}
use Rattle.mvd_site.specs.Held.{States, state_at}

-- the state of each key is valid
abbrev pub AreValid : States → Type 0
AreValid held = (key : Key) → IsValid (state_at held key)

-- at each key the new state includes the old one
abbrev pub Grows : States → States → Type 0
Grows old new = (key : Key) → Includes (state_at new key) (state_at old key)

-- from the first to the last through these moments, each of which is valid and has grown from the one before
abbrev pub Rises : States → List States → States → Type 0
Rises old [] new = Grows old new
Rises old (held ∷ later) new = AreValid held × Grows old held × Rises held later new

-- some of these moments is so
abbrev pub AtSomeMoment : List States → (States → Type 0) → Type 0
AtSomeMoment moments P = (held : States) × Contains moments held × P held

-- both sides have at the key what either had as a session began: `a` and `b` then, `a'` and `b'` as it ends
pub record HaveBoth (a b a' b' : States) (key : Key) : Type 0 where
  pub mine : Includes (state_at a' key) (state_at a key)
  pub mine_of_peer : Includes (state_at a' key) (state_at b key)
  pub theirs : Includes (state_at b' key) (state_at b key)
  pub theirs_of_local : Includes (state_at b' key) (state_at a key)
