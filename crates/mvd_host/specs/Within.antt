-- What a client with a right is told, and what it changes.
use Rattle.std.specs.Prelude.{◌≡◌, ◌==◌, Bool, IfOk, List, true, Some}
use Rattle.std.specs.List.{AllByRecursion}
use Rattle.std.specs.FinMap.{len}
use Rattle.mvd_conn.specs.Rights.{AgreeWithin, covers, may, prefix_of}
use Rattle.mvd_conn.specs.declared.right.Right.{Right}
use Rattle.mvd_keys.specs.State.{State}
use Rattle.mvd_keys.specs.Writes.{Key}
use Rattle.mvd_replica.specs.Turns.{Turn}
use Rattle.mvd_site.specs.Answer.{answer_from, change_from}
use Rattle.mvd_site.specs.Config.{ConfigValue}
use Rattle.mvd_site.specs.Held.{States}
use Rattle.mvd_wire.specs.declared.reply.Reply.{Reply}
use Rattle.mvd_wire.specs.declared.request.Request.{Request}

-- as many keys are held as may be
abbrev pub is_filled : ConfigValue → States → Bool
is_filled config states = len states == config.max_keys

-- NO REPLY TO WHAT A RIGHT ALLOWS depends on keys beyond its prefix, but for whether all places for keys are taken
abbrev pub RepliesWithin : Right → Request → Type 0
RepliesWithin right request =
    (config : ConfigValue) (a b : States) → AgreeWithin (prefix_of right) a b
    → is_filled config a ≡ is_filled config b
    → answer_from config a request ≡ answer_from config b request

-- and nothing is changed beyond it, nor by whoever may not write
abbrev pub ChangesWithin : Right → Request → Type 0
ChangesWithin right request =
    (states : States) (reply : Reply) (key : Key) (state : State) → change_from states request reply ≡ Some (key, state)
    → (right.writes ≡ true) × (covers (prefix_of right) key ≡ true)

-- WHAT IS ASKED IS WITHIN A RIGHT: that allows it, and bounds what it is told, and what it changes
pub record IsWithin (right : Right) (request : Request) : Type 0 where
  pub allowed : may right request ≡ true
  pub replies : RepliesWithin right request
  pub changes : ChangesWithin right request

abbrev pub AreWithin : Right → List Turn → Type 0
AreWithin right turns = AllByRecursion (λ turn. IfOk turn.asked (IsWithin right)) turns
