-- A session of a stored site with a server.
use Rattle.std.specs.Prelude.{Some, Result}
use Rattle.mvd_replica.specs.Replicas.{site_of, stored_of}
use Rattle.mvd_replica.specs.Sides.{IsTrueSite, SideFollows}
use Rattle.mvd_replica.specs.declared.replica.Replica.{Replica}
use Rattle.mvd_runs.specs.Sessions.{SideTakes}
use Rattle.mvd_remote.specs.Lines.{Far, IsTrueRemote, far_of}
use Rattle.mvd_sync.specs.Session.{Meets}
use Rattle.mvd_remote.specs.declared.remote.Remote.{Remote}
use Rattle.mvd_sync.specs.declared.report.Report.{Report}
use Rattle.mvd_sync.specs.declared.report.SyncFault.{SyncFault}
use Rattle.sqlite_trees.specs.declared.store.Store.{Ghosts}

module _ {S : Type 0} {g : Ghosts S} where
  -- whatever a session does, its site changes by pushes alone, and its records follow
  abbrev pub FollowsPushed : Replica S g → Replica S g → Type 0
  FollowsPushed old new = SideFollows (stored_of old) (stored_of new)

  -- it takes turns, each of which pushes the state of some writes and has its reply
  abbrev pub TakesPushes : Replica S g → Replica S g → Type 0
  TakesPushes old new = SideTakes (stored_of old) (stored_of new)

module _ {S : Type 0} {g : Ghosts S} {L : Type 0} (is_true : L → Type 0) (far : L → Far) where
  -- between a true site and what is at the other end of a true line states are joined; with no fault
  -- all that differ, but those refused for a cause
  abbrev pub MeetsFar : Replica S g → Replica S g → Remote L → Remote L → Result Report SyncFault → Type 0
  MeetsFar old new before after result =
      Meets (record {
        held = record { local = (site_of old).states; peer = (far_of far before).states };
        most_local = (site_of old).config.max_keys;
        most_peer = (far_of far before).config.max_keys;
        number = Some (site_of old).config.site;
      }) (record {
        held = record { local = (site_of new).states; peer = (far_of far after).states };
        local_true = IsTrueSite (site_of new);
        peer_true = IsTrueRemote is_true far after;
      }) result
