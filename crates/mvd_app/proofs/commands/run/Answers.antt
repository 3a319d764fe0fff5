use Rattle.std.proofs.Common.{refl, subst}
use Rattle.mvd_input.specs.Orders.{IsInRange}
use Rattle.mvd_app.proofs.commands.run.Goals as goal

pub returns-in-Sim : goal.returns-in-Sim
returns-in-Sim g c = record {
  file = rw c.in-Sim.is c.without_file.ensures.left;
  told = rw c.in-Sim.is (refl, rw c.without_file.ensures.ended c.run_sim.ensures);
}

pub returns-in-Loop : goal.returns-in-Loop
returns-in-Loop g c = record { file = rw c.in-Loop.is c.without_file-in-Loop.ensures.left; told = rw c.in-Loop.is (refl, rw c.without_file-in-Loop.ensures.ended c.run_loop.ensures) }

pub returns-in-RemoteShell : goal.returns-in-RemoteShell
returns-in-RemoteShell g c = record {
  file = rw c.in-RemoteShell.is c.without_file-in-RemoteShell.ensures.left;
  told = rw c.in-RemoteShell.is (rw c.without_file-in-RemoteShell.ensures.ended c.run_remote_shell.ensures);
}

pub returns-in-Serve : goal.returns-in-Serve
returns-in-Serve g c = record { file = rw c.in-Serve.is c.run_stored.ensures.file; told = rw c.in-Serve.is c.run_stored.ensures.told }

pub returns-in-Shell : goal.returns-in-Shell
returns-in-Shell g c = record { file = rw c.in-Shell.is c.run_stored-in-Shell.ensures.file; told = rw c.in-Shell.is c.run_stored-in-Shell.ensures.told }

pub returns-in-Sync : goal.returns-in-Sync
returns-in-Sync g c = record { file = rw c.in-Sync.is c.run_stored-in-Sync.ensures.file; told = rw c.in-Sync.is c.run_stored-in-Sync.ensures.told }

pub returns-in-Meet : goal.returns-in-Meet
returns-in-Meet g c = record { file = rw c.in-Meet.is c.without_file-in-Meet.ensures.left; told = rw c.in-Meet.is (refl, rw c.without_file-in-Meet.ensures.ended c.run_meeting.ensures) }

pub run_stored-requires-clause-set_up : goal.run_stored-requires-clause-set_up
run_stored-requires-clause-set_up g c = (subst IsInRange c.in-Serve.is c.requires).0

pub run_stored-requires-clause-work : goal.run_stored-requires-clause-work
run_stored-requires-clause-work g c = (subst IsInRange c.in-Serve.is c.requires).6
