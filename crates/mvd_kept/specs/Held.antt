-- What a site may hold at a key.
use Rattle.std.specs.Prelude.{ℕ, map, ◌≡◌, false, true, List, Some}
use Rattle.std.specs.FinMap.{get}
use Rattle.mvd_keys.specs.Key.{is_key}
use Rattle.mvd_keys.specs.State.{IsValid, State}
use Rattle.mvd_keys.specs.Writes.{Key, is_empty}
use Rattle.mvd_tree.specs.States.{key_digest}
use Rattle.mvd_wire.specs.Codecs.{IsInForm}
use Rattle.mvd_kept.specs.Answer.{is_too_large, spelled}
pub use Rattle.mvd_kept.specs.Answer.{States, state_at}

-- a state that has seen a dot, and whose spelling is not too long
pub record IsHeldState (s : State) : Type 0 where
  pub seen : is_empty s.context ≡ false
  pub short : is_too_large s ≡ false

-- a state that is held: besides, each sibling's dot has been seen
pub record IsKept (s : State) : Type 0 where
  pub short : is_too_large s ≡ false
  pub valid : IsValid s

-- each state is one that may be held, and is in form; and each key is one
pub record AreHeld (states : States) : Type 0 where
  pub held : (key : Key) (s : State) → get states key ≡ Some s → IsHeldState s
  pub valid : (key : Key) (s : State) → get states key ≡ Some s → IsValid s
  pub key : (key : Key) (s : State) → get states key ≡ Some s → is_key key ≡ true
  pub spelled : (key : Key) (s : State) → get states key ≡ Some s → IsInForm s

-- keys with the digests that they have in these states
abbrev pub key_digests : List (Key × State) → List (Key × List ℕ)
key_digests states = map (λ e. (e.0, key_digest spelled e.0 e.1)) states
