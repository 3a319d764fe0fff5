-- A site in a file: what the file and its log hold, as one image of both, and what opening and closing it comes to.
use Rattle.std.specs.Prelude.{◌≡◌, ℕ, []}
use Rattle.mvd_dots.specs.declared.refusals.Refusal.{Refusal}
use Rattle.mvd_dots.specs.declared.refusals.Refusal.TheVariants.{Damaged, SiteMismatch}
use Rattle.mvd_site.specs.Config.{ConfigValue}
use Rattle.mvd_site.specs.Held.{States}
use Rattle.mvd_site.specs.Sites.{SiteValue}
use Rattle.mvd_records.specs.Foreign.{IsForeign}
use Rattle.mvd_records.specs.Records.{IsOurs}
use Rattle.sqlite_disk.specs.declared.Disk.{Ghosts}
use Rattle.sqlite_disk.specs.declared.Files.{Files}
use Rattle.sqlite.specs.Effect.{Database, IsDatabase}
use Rattle.sqlite.specs.Files.{AreFoundIn, HoldsDatabase, image_of}
use Rattle.sqlite.specs.Recovery.{Image}
use Rattle.sqlite.specs.WalFiles.{outcomes}
use Rattle.mvd_replica.specs.Holds.{HoldsStates}
use Rattle.mvd_replica.specs.Opened.{OpensSite, RefusesSite}

-- the image holds this database: the pages that it recovers to are a sound file, whose trees are the database's, and
-- list its schema
pub record HoldsImage (image : Image) (db : Database) : Type 0 where
  pub trees : ∥ HoldsDatabase image db.trees ∥₁
  pub sound : IsDatabase db

-- the image holds these states of a site, and nothing else
pub record HoldsFile (image : Image) (site : ℕ) (states : States) : Type 0 where
  pub db : Database
  pub held : HoldsImage image db
  pub holds : HoldsStates site states db

-- The database that was found is the one that the image holds, if it holds one. Else the image held none yet, and it is
-- empty. It lists its schema, and obeys it
pub record IsFoundAt (image : Image) (was : Database) : Type 0 where
  pub sound : IsDatabase was
  pub holds : (db : Database) → HoldsImage image db → was ≡ db
  pub reads : AreFoundIn image was.trees

-- the site that a file was opened as, and what the records then hold
pub record OpensFile (image : Image) (config : ConfigValue) (site : SiteValue) (now : Database) : Type 0 where
  pub was : Database
  pub found : IsFoundAt image was
  pub opened : IsOurs was → OpensSite config was site now
  -- it is not another program's
  pub own : ¬ IsForeign was
  -- where the image held some states, the site has just these
  pub just : (number : ℕ) (states : States) → HoldsFile image number states → site.states ≡ states

-- why it was not opened as a site
pub record RefusesFile (image : Image) (config : ConfigValue) (e : Refusal) (now : Database) : Type 0 where
  pub was : Database
  pub found : IsFoundAt image was
  pub refused : IsOurs was → RefusesSite config was e now
  -- another program's database is 17, and stays as it is
  pub foreign : IsForeign was → (e ≡ Damaged) × (now ≡ was)
  -- the records of another site stay as they are
  pub untouched : e ≡ SiteMismatch → now ≡ was

-- the file and its log hold these states, and so does the file alone
pub record HoldsAlone (image : Image) (site : ℕ) (states : States) : Type 0 where
  pub both : HoldsFile image site states
  pub alone : HoldsFile (record image { log = [] }) site states

-- What the database held of a site, the file holds: as it reads now, and as whatever a crash leaves of it reads
pub record ClosesFile {D : Type 0} (g : Ghosts D) (db : Database) (files : Files D) : Type 0 where
  pub seen : (site : ℕ) (states : States) → HoldsStates site states db → HoldsAlone (image_of g files) site states
  pub left : (image : Image) → outcomes g files.log files.db image → (site : ℕ) (states : States)
      → HoldsStates site states db →
      HoldsAlone image site states
