-- A change of one key.
use Rattle.std.specs.Prelude.{◌≡◌, ◌≤◌, ℕ, Bool, List, drop, length, Option, Some, None, refl}
use Rattle.std.specs.Coded.{Coded, code_by, coded×, coded_ℕ, coded_bool, coded_list, coded_option}
use Rattle.mvd_dots.specs.Dot.{DotValue, dot_code}
use Rattle.mvd_keys.specs.State.{State, state_code}
use Rattle.mvd_keys.specs.Writes.{Key}
use Rattle.mvd_wire.specs.Codecs.{spell_state, state_limit, IsInForm}
use Rattle.mvd_wire.specs.declared.reply.Reply.{Reply}
use Rattle.mvd_wire.specs.declared.reply.Reply.TheVariants.{Written, Done}
use Rattle.mvd_kept.specs.Answer.{spelled}

-- the key, the state that it is to have, the dot of the put that gives it that, if it is one, and whether the key is
-- held before it is put in
pub record ChangeValue : Type 0 where
  pub key : Key
  pub state : State
  pub dot : Option DotValue
  pub was_held : Bool

abbrev pub change_code : Coded ChangeValue
change_code =
    code_by (Key × (State × (Option DotValue × Bool)))
    (coded× (coded_list coded_ℕ) (coded× state_code (coded× (coded_option dot_code) coded_bool)))
    (λ c. (c.key, (c.state, (c.dot, c.was_held))))
    (λ p. record { key = p.0; state = p.1.0; dot = p.1.1.0; was_held = p.1.1.1 }) (λ _. refl)

-- the bytes are the key and then the state, as they are spelled, and the state begins there; it is not too long
pub record SpellsChange (key : Key) (s : State) (start : ℕ) (bytes : List ℕ) : Type 0 where
  pub whole : bytes ≡ spelled key s
  pub state : drop start bytes ≡ spell_state s
  pub within : start ≤ length bytes
  pub spelled : IsInForm s
  pub short : length (spell_state s) ≤ state_limit

-- a put is answered with its dot, and a delete or a push is done
abbrev pub change_reply : Option DotValue → Reply
change_reply None = Done
change_reply (Some dot) = Written dot
