-- A program on a file: it opens the site that the file holds, works on it, and closes it.
use Rattle.std.specs.Prelude.{◌≡◌, true, false, ℕ, List, [], ◌++◌}
use Rattle.mvd_keys.specs.Writes.{Stands, Write}
use Rattle.mvd_wire.specs.declared.request.Request.{Request}
use Rattle.mvd_records.specs.Foreign.{IsForeign}
use Rattle.mvd_records.specs.Records.{IsOurs, IsSound}
use Rattle.mvd_site.specs.Held.{States}
use Rattle.mvd_site.specs.Sites.{SiteValue}
use Rattle.sqlite_disk.specs.declared.Disk.{Ghosts}
use Rattle.sqlite_disk.specs.declared.Files.{Files}
use Rattle.sqlite.specs.Effect.{Database}
use Rattle.sqlite.specs.Files.{IsEmpty, image_of}
use Rattle.sqlite.specs.Recovery.{Image}
use Rattle.sqlite.specs.WalFiles.{outcomes}
use Rattle.sqlite.specs.WalReads.{AreClean}
use Rattle.mvd_replica.specs.File.{HoldsAlone, HoldsFile, IsFoundAt}
use Rattle.mvd_replica.specs.Holds.{HoldsSite, HoldsStates}
use Rattle.mvd_replica.specs.Replicas.{StoredSite}
use Rattle.mvd_replica.specs.Whole.{after_all}
use Rattle.mvd_replica.specs.Readable.{AreReadable, HasJust}

-- whatever writes the states stood for, they stand for these, and perhaps for more, also where the site is broken
abbrev pub KeepsWrites : SiteValue → SiteValue → Type 0
KeepsWrites old new = (known : List Write) → Stands old.states known
    → (added : List Write) × Stands new.states (known ++ added)

-- the records hold the site's states, with some more requests put in
abbrev pub HoldsAfter : SiteValue → Database → Type 0
HoldsAfter site db =
    (requests : List Request) × HoldsStates site.config.site (after_all site.config site.states requests) db

-- What is done with a stored site between its open and its close: the site keeps its configuration and the writes
-- known. If the store is sound, the records follow the states; and if the site broke by it, they hold its states with
-- some requests put in
pub record WorksOn (old new : StoredSite) : Type 0 where
  pub config : new.site.config ≡ old.site.config
  pub keeps : KeepsWrites old.site new.site
  pub sound : IsSound new.store → IsSound old.store
  pub holds : IsSound new.store → HoldsSite old.site old.store.committed → HoldsSite new.site new.store.committed
  pub stored : IsSound new.store → HoldsSite old.site old.store.committed → old.site.broken ≡ false →
      new.site.broken ≡ true → HoldsAfter new.site new.store.committed

-- the file holds states of the site that stand for these writes, and perhaps for more, as it reads now and after a
-- crash
pub record HoldsMore {D : Type 0} (g : Ghosts D) (site : ℕ) (known : List Write) (files : Files D) : Type 0 where
  pub states : States
  pub added : List Write
  pub stands : Stands states (known ++ added)
  pub seen : HoldsAlone (image_of g files) site states
  pub left : (image : Image) → outcomes g files.log files.db image → HoldsAlone image site states

-- A PROGRAM'S RUN on a file loses no write that the file held. This database was found in the files, the empty one
-- where they held none yet
pub record KeepsFile {D : Type 0} (g : Ghosts D) (image : Image) (site : ℕ) (files : Files D) : Type 0 where
  pub was : Database
  pub found : IsFoundAt image was
  -- it is no other program's; and if it is ours, it is this site's and not damaged
  pub own : ¬ IsForeign was
  pub order : IsOurs was → AreReadable site was
  -- of new files the run makes such as hold states of this site
  pub begins : IsEmpty was.trees → HoldsMore g site [] files
  -- in files of ours, of either version, it leaves states that stand for all that those in it stood for, and perhaps
  -- for more
  pub leaves : IsOurs was → (states : States) (known : List Write) → HasJust was states → Stands states known
      → HoldsMore g site known files
  -- so it does where they held states of this site in version 2
  pub keeps : (states : States) (known : List Write) → HoldsFile image site states → Stands states known
      → HoldsMore g site known files

-- if nobody else has written the files, and their disk has returned what was written
abbrev pub LeavesFile : {D : Type 0} → Ghosts D → Image → ℕ → Files D → Type 0
LeavesFile g image site files = AreClean g files.log files.db → KeepsFile g image site files
