use Rattle.mvd_host.proofs.Listing.{told_listed}
use Rattle.mvd_server.proofs.Listing.{lists_all}
use Rattle.mvd_server.proofs.laws.changes_tell_all.Goals as goal
use Rattle.sqlite.specs.Held.{state}

pub returns : goal.returns
returns g c = record { lists = lists_all (state g.S.Store) g.K.Sockets; told = told_listed }
