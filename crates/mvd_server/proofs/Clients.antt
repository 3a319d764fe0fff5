-- What is known of a client's connection, if there is one.
use Rattle.std.proofs.Common.{Option, Some, None}
use Rattle.mvd_conn.specs.History.{History, WantsInput}
use Rattle.mvd_host.specs.Hosts.{IfClient, IsClient}

-- what is true of the connection of a client that is there, is true of it if it is there
pub wanted_if : (o : Option History) → IsClient o WantsInput → IfClient o WantsInput
wanted_if None never = tt
wanted_if (Some h) wants = wants
