-- What is held only grows, in the order of states.
use Rattle.mvd_keys.specs.Order.{Includes}
use Rattle.mvd_keys.specs.Writes.{Key}
use Rattle.mvd_site.specs.Held.{States, state_at}

-- each key's state afterwards includes its state before
abbrev pub Grows : States → States → Type 0
Grows old new = (key : Key) → Includes (state_at new key) (state_at old key)
