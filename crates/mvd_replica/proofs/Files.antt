-- A file is read as the one database that it holds.
use Rattle.std.proofs.Common.{◌≡◌, ◌⊎◌, ℕ, IsTrue, Option, None, Some, refl, sym, subst, ap₂}
use Rattle.std.proofs.Math.Logic.{∥∥₁_elim}
use Rattle.sqlite_catalog.proofs.ReadLemmas.{lists_once}
use Rattle.sqlite_disk.specs.declared.Disk.{Ghosts}
use Rattle.sqlite_disk.specs.declared.Files.{Files}
use Rattle.sqlite.specs.Closing.{HoldsAlone as Copied, IsCopied}
use Rattle.sqlite.specs.Effect.{Database, IsDatabase}
use Rattle.std.specs.Prelude.{IfSome}
use Rattle.sqlite.specs.Files.{FailsToClose, FailsToOpenFiles, IsCleanLeft, IsClosed, LeavesFiles, file_state, image_of}
use Rattle.sqlite.specs.Opening.{is_open_error}
use Rattle.sqlite.specs.declared.error.Error.{Error}
use Rattle.sqlite.specs.declared.error.Error.TheVariants.{SqliteFailure}
use Rattle.sqlite.specs.declared.error.ErrorCode.TheVariants.{CannotOpen, DatabaseBusy, OutOfMemory}
use Rattle.sqlite.specs.declared.file.Leftover.{Leftover}
use Rattle.mvd_replica.specs.declared.file.FileFault.TheVariants as fault
use Rattle.mvd_replica.specs.Refused.{FailsFile}
use Rattle.sqlite.specs.Held.{Held}
use Rattle.sqlite.specs.Recovery.{Image}
use Rattle.sqlite.specs.Schema.{Schema}
use Rattle.sqlite.specs.Start.{FindsIn}
use Rattle.sqlite.specs.State.{IsLive, State, store_error}
use Rattle.sqlite.specs.Tree.{Trees}
use Rattle.sqlite_catalog.specs.Listing.{IsSound}
use Rattle.sqlite_store.specs.declared.store.FileStore.{FileStore}
use Rattle.sqlite_store.specs.FileStore.{recovers, view}
use Rattle.sqlite_trees.specs.declared.error.StoreError.{StoreError}
use Rattle.sqlite_trees.specs.View.{IsClean}
use Rattle.sqlite_trees.specs.Props.{Trees-set}
use Rattle.mvd_site.specs.Config.{ConfigValue}
use Rattle.mvd_site.specs.Held.{States}
use Rattle.mvd_site.specs.Sites.{SiteValue}
use Rattle.mvd_records.specs.Records.{IsOurs}
use Rattle.mvd_replica.specs.File.{ClosesFile, HoldsAlone, HoldsFile, IsFoundAt}
use Rattle.mvd_replica.specs.Holds.{HoldsStates}
use Rattle.mvd_replica.specs.Opened.{OpensSite}
use Rattle.mvd_replica.specs.Whole.{LeavesStates}
use Rattle.mvd_replica.proofs.Follows.{just_these, ours_held}

-- sound trees list one schema
pub one_schema : (s t : Schema) (db : Trees) → IsSound s db → IsSound t db → s ≡ t
one_schema s t db p q = lists_once _ s t p.lists q.lists

-- databases with the same trees are the same
pub same_database : (a b : Database) → IsDatabase a → IsDatabase b → a.trees ≡ b.trees → a ≡ b
same_database a b p q same =
    ap₂ (λ schema trees. record { schema = schema; trees = trees }) (one_schema a.schema b.schema b.trees (subst (IsSound a.schema) same p) q) same

pub found_in : (image : Image) (s : State) → FindsIn image s → IsDatabase s.committed → IsFoundAt image s.committed
found_in image s found sound = record {
  sound = sound;
  holds = λ db it. same_database s.committed db sound it.sound (∥∥₁_elim it.trees (Trees-set _ _) (λ held. found.holds db.trees held));
  reads = found.reads;
}

-- where the image held some states, the site that was opened has just these
pub just_held : (image : Image) (config : ConfigValue) (was : Database) (site : SiteValue) (now : Database) → IsFoundAt image was → (IsOurs was → OpensSite config was site now) →
    (number : _) (states : _) → HoldsFile image number states → site.states ≡ states
just_held image config was site now found opened number states file =
    let holds = subst (HoldsStates number states) (sym (found.holds file.db file.held)) file.holds in
    just_these config was site now (opened (ours_held number states was holds)) number states holds

holds_alone : {image : Image} {db : Database} {site : ℕ} {states : States} → Copied image db.trees → IsDatabase db → HoldsStates site states db → HoldsAlone image site states
holds_alone copied sound holds = record {
  both = record { db = _; held = record { trees = copied.both; sound = sound }; holds = holds };
  alone = record { db = _; held = record { trees = copied.alone; sound = sound }; holds = holds };
}

-- what was copied into the file at a close is in it
pub closes : {D : Type 0} {g : Ghosts D} (c : Held (FileStore D g)) (files : Files D) → IsCopied {g = g} c files → IsDatabase (file_state {g = g} c).committed →
    ClosesFile g (file_state {g = g} c).committed files
closes {g} c files copied sound = record {
  seen = λ site states holds. holds_alone copied.seen sound holds;
  left = λ image may site states holds. holds_alone (copied.left image may) sound holds;
}

-- why there is no database of a file, with what is left of it or without
module _ {D : Type 0} {g : Ghosts D} (image : Image) (config : ConfigValue) (e : Error) (named : IsTrue (is_open_error e)) where
  pub fails_opening : (left : Option (Leftover D g)) →
      (left ≡ None → (e ≡ SqliteFailure CannotOpen) ⊎ ((e ≡ SqliteFailure OutOfMemory) ⊎ (e ≡ SqliteFailure DatabaseBusy))) →
      IfSome left (λ l. (files : Files D) × (IsCleanLeft {g = g} l → (image_of g files ≡ image) × FailsToOpenFiles {g = g} files l e × LeavesFiles {g = g} files l)) →
      FailsFile {g = g} image config (fault.File e left)
  fails_opening None unopened cause = (named, unopened refl)
  fails_opening (Some left) unopened cause = (named, cause)

-- why the files of a connection were not given back, and what a crash leaves of the store
pub record FailsToGive {D : Type 0} {g : Ghosts D} (c : Held (FileStore D g)) (failed : Error × FileStore D g) : Type 0 where
  pub named : (cause : StoreError) × (failed.0 ≡ store_error cause)
  pub cause : IsClean (view failed.1) → FailsToClose {g = g} c failed.1 failed.0
  pub crash : (trees : Trees) → recovers failed.1 trees → (file_state {g = g} c).may_leave trees
  pub left : IsTrue (file_state {g = g} c).is_open → (site : ℕ) (states : States) → HoldsStates site states (file_state {g = g} c).committed →
      (trees : Trees) → recovers failed.1 trees → LeavesStates site states trees

-- A store that is open leaves just its last commit
pub fails_closing : {D : Type 0} {g : Ghosts D} (c : Held (FileStore D g)) (failed : Error × FileStore D g) →
    ((trees : Trees) → IsTrue (file_state {g = g} c).is_open → (file_state {g = g} c).may_leave trees → trees ≡ (file_state {g = g} c).committed.trees) → IsLive (file_state {g = g} c) →
    ((cause : StoreError) × (failed.0 ≡ store_error cause)) → IsClosed {g = g} c failed.1 → (IsClean (view failed.1) → FailsToClose {g = g} c failed.1 failed.0) →
    FailsToGive {g = g} c failed
fails_closing {g} c failed settled live named closed cause = record {
  named = named;
  cause = cause;
  crash = closed.quiet.outcomes;
  left = λ was site states holds trees may. ((file_state {g = g} c).committed, (live was).1, holds, settled trees was (closed.quiet.outcomes trees may));
}
