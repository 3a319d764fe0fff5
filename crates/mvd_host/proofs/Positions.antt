-- The relations of turns of a replica, with their parts one after the other, as proofs hand them on.
use Rattle.std.specs.Prelude.{◌≡◌, ◌⊎◌, List}
use Rattle.mvd_dots.specs.declared.refusals.Refusal.TheVariants.{Memory}
use Rattle.mvd_wire.specs.declared.reply.Reply.TheVariants.{Refused}
use Rattle.mvd_site.specs.Sites.{SiteValue}
use Rattle.mvd_replica.specs.Batch.{TakesFrom}
use Rattle.mvd_replica.specs.Turns.{Turn}
use Rattle.mvd_replica.proofs.Positions.{stored_site}
use Rattle.mvd_host.specs.Round as round
use Rattle.sqlite.specs.State.{State}

abbrev pub Serves : List Turn → SiteValue → SiteValue → State → State → Type 0
Serves turns old new before after = round.Serves turns (stored_site old before) (stored_site new after)

-- what one turn does to the site
abbrev pub ServesFrom : SiteValue → SiteValue → Turn → Type 0
ServesFrom old new turn = TakesFrom old new turn.asked turn.reply ⊎ ((turn.reply ≡ Refused Memory) × (new ≡ old))
