-- What the reply to a request may bring, as things stand before a round.
use Rattle.std.specs.Prelude.{ℕ, ◌+◌, length}
use Rattle.mvd_conn.specs.History.{frame_most}
use Rattle.mvd_site.specs.Held.{States, state_at}
use Rattle.mvd_wire.specs.Codecs.{spell_state}
use Rattle.mvd_wire.specs.declared.request.Request.{Request}
use Rattle.mvd_wire.specs.declared.request.Request.TheVariants.{Get}

-- that to a get a frame of the state that is held, and what changes in front may add; any other as much as a frame has
abbrev pub foreseen : States → ℕ → Request → ℕ
foreseen states given (Get key) = length (spell_state (state_at states key)) + (5 + given)
foreseen states given request = frame_most
