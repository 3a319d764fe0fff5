-- A session as turns of the replica that it was held with.
use Rattle.std.specs.Prelude.{◌≡◌, List, Ok}
use Rattle.std.specs.List.{AllByRecursion}
use Rattle.mvd_keys.specs.State.{State}
use Rattle.mvd_keys.specs.Writes.{Key}
use Rattle.mvd_wire.specs.declared.request.Request.{Request}
use Rattle.mvd_wire.specs.declared.request.Request.TheVariants.{Push}
use Rattle.mvd_wire.specs.declared.reply.Reply.{Reply}
use Rattle.mvd_replica.specs.Batch.{TakesTurns}
use Rattle.mvd_replica.specs.Replicas.{StoredSite}
use Rattle.mvd_replica.specs.Sides.{IsPush}
use Rattle.mvd_replica.specs.Turns.{Turn}
use Rattle.mvd_runs.specs.Calls.{CallsFollow, all_turns}
use Rattle.mvd_runs.specs.Files.{IsValidTurn}

-- a push with its reply
abbrev pub push_turn : Key → State → Reply → Turn
push_turn key s reply = record { asked = Ok (Push key s); reply = reply }

-- the turn asked nothing but a push
abbrev pub AsksPush : Turn → Type 0
AsksPush turn = (request : Request) → turn.asked ≡ Ok request → IsPush request

-- What calls of a session did to a replica: the turns of each, which pushed states of some writes
pub record SideTakes (old new : StoredSite) : Type 0 where
  pub calls : List (List Turn)
  pub pushes : AllByRecursion AsksPush (all_turns calls)
  pub valid : AllByRecursion IsValidTurn (all_turns calls)
  pub takes : TakesTurns (all_turns calls) old new
  pub follows : CallsFollow calls old new
