-- Pushes of many states at once, as requests and back.
use Rattle.std.specs.Prelude.{Result, Ok, Err}
use Rattle.mvd_dots.specs.declared.refusals.Refusal.{Refusal}
use Rattle.mvd_keys.specs.State.{State}
use Rattle.mvd_keys.specs.Writes.{Key}
use Rattle.mvd_wire.specs.declared.request.Request.{Request}
use Rattle.mvd_wire.specs.declared.request.Request.TheVariants.{Push}
use Rattle.mvd_wire.specs.declared.reply.Reply.{Reply}
use Rattle.mvd_wire.specs.declared.reply.Reply.TheVariants.{Refused}

-- the request to push a state
abbrev pub push_of : Key × State → Request
push_of pair = Push pair.0 pair.1

-- what a reply tells of a push
abbrev pub told_of : Reply → Result (Unit {0}) Refusal
told_of (Refused refusal) = Err refusal
told_of reply = Ok tt
