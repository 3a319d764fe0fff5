-- What opening a site's records comes to: one relation, over the database that was found, what was returned, and what
-- was left.
use Rattle.std.specs.Prelude.{◌≡◌, ◌⊎◌, false, ℕ, IsTrue, List, Ok, Err}
use Rattle.mvd_dots.specs.declared.refusals.Refusal.{Refusal}
use Rattle.mvd_dots.specs.declared.refusals.Refusal.TheVariants.{Damaged, Full, Memory, SiteMismatch}
use Rattle.mvd_keys.specs.Writes.{Stands, Write}
use Rattle.mvd_records.specs.Foreign.{HoldsForeign}
use Rattle.mvd_records.specs.Records.{IsOpenRefusal, IsOurs, IsSound, KeepsStates, TellsVersion, marks_of}
use Rattle.mvd_site.specs.Config.{ConfigValue}
use Rattle.mvd_site.specs.Sites.{SiteValue}
use Rattle.sqlite.specs.Effect.{Database}
use Rattle.sqlite.specs.State.{HasCleanDisk, State}
use Rattle.mvd_replica.specs.Holds.{HoldsSite}
use Rattle.mvd_replica.specs.Whole.{IsAtRest}
use Rattle.mvd_replica.specs.Readable.{AreDamaged, AreReadable, HasJust, HoldsTooMany, Resumes, SameStates}

-- The marks told the site a version; where that was 2 already, the two maps are as they were
abbrev pub KeepsMoved : ℕ → Database → Database → Type 0
KeepsMoved site was now =
    (version : ℕ) × TellsVersion (marks_of was) site (Ok version) × (version ≡ 2 → KeepsStates was now)

-- What was found is in order. The site holds just the states that the two maps of the database found spell, and so do
-- the records as they are now, with no key of version 1 among them.
pub record OpensSite (config : ConfigValue) (was : Database) (site : SiteValue) (now : Database) : Type 0 where
  pub order : AreReadable config.site was
  pub spelled : HasJust was site.states
  pub holds : HoldsSite site now
  pub states : SameStates was now
  pub kept : KeepsMoved config.site was now

-- Why ours is not opened: 16 where the marks are another site's, 17 where the records are damaged, 10 where they hold
-- too many keys. 20 and 21 need no cause. The states stay; the records are as they were, or they were made the site's
-- and some old keys moved, and the next open finds what this one did.
pub record RefusesSite (config : ConfigValue) (was : Database) (e : Refusal) (now : Database) : Type 0 where
  pub states : SameStates was now
  pub kept : (now ≡ was) ⊎ KeepsMoved config.site was now
  pub mismatch : e ≡ SiteMismatch → TellsVersion (marks_of was) config.site (Err SiteMismatch)
  pub damaged : e ≡ Damaged → AreDamaged config.site was
  pub full : e ≡ Full → HoldsTooMany config.max_keys now × AreReadable config.site was
  pub resumes : (now ≡ was)
      ⊎ ((version : ℕ) × TellsVersion (marks_of was) config.site (Ok version) × Resumes version config.site was now)

-- Of a database that was one of ours, where the store is sound after the call: nobody else has written it, it has
-- returned what was written, and no failure has shut it
abbrev pub OfOurs : State → State → Type 0 → Type 0
OfOurs store after P = IsSound after → IsOurs store.committed → P

-- a refusal of an open: 16, 17, 21, 10 or 20
abbrev pub IsOpeningRefusal : Refusal → Type 0
IsOpeningRefusal e = IsOpenRefusal e ⊎ ((e ≡ Full) ⊎ (e ≡ Memory))

-- the site that was opened, and the store that it leaves
pub record IsOpened (config : ConfigValue) (store : State) (site : SiteValue) (after : State) : Type 0 where
  pub is : (site.config ≡ config) × (site.broken ≡ false)
  -- there is a set of writes that it stands for
  pub stands : (known : List Write) × Stands site.states known
  pub before : IsSound after → IsSound store
  -- no failure has shut it, where the disk has returned what was written
  pub is_open : HasCleanDisk after → IsTrue after.is_open
  pub opened : OfOurs store after (OpensSite config store.committed site after.committed)
  -- a stop then leaves its states
  pub rests : OfOurs store after (IsAtRest (record { site = site; store = after }))
  -- another program's database is never made one of ours
  pub own : ¬ HoldsForeign store

-- the refusal, and the store that it leaves
pub record IsRefused (config : ConfigValue) (store : State) (e : Refusal) (after : State) : Type 0 where
  pub refusal : IsOpeningRefusal e
  pub before : IsSound after → IsSound store
  pub refused : OfOurs store after (RefusesSite config store.committed e after.committed)
  -- another program's database is 17, and stays as it is
  pub foreign : HoldsForeign store → (e ≡ Damaged) × (after.committed ≡ store.committed)
  -- the records of another site stay as they are, whatever else the database holds
  pub untouched : IsSound after → e ≡ SiteMismatch → after.committed ≡ store.committed
