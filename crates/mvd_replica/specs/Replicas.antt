-- A replica as its callers see it: its views, and what a call may keep of them. Clauses speak of a replica by these
-- words alone.
use Rattle.std.specs.Prelude.{◌≡◌, ◌⊎◌, ◌≤◌, ◌+◌, ◌^◌, ◌-◌, ℕ, IsTrue, min}
use Rattle.mvd_records.specs.Records.{IsSound}
use Rattle.mvd_site.specs.Sites.{SiteValue}
use Rattle.sqlite.specs.Effect.{Database}
use Rattle.sqlite.specs.Held.{Held, state}
use Rattle.sqlite.specs.State.{HasCleanDisk, State}
use Rattle.sqlite_trees.specs.declared.store.Store.{Ghosts}
use Rattle.mvd_replica.specs.declared.replica.Replica.{Replica}
use Rattle.mvd_replica.specs.Holds.{HoldsSite}

-- a site, and what the connection of its records shows
pub record StoredSite : Type 1 where
  pub site : SiteValue
  pub store : State

-- the count with one more, up to the greatest number
abbrev pub next_count : ℕ → ℕ
next_count count = min (count + 1) (2 ^ 64 - 1)

-- a site with a connection to its store
abbrev pub stored_by : {S : Type 0} → Ghosts S → SiteValue → Held S → StoredSite
stored_by g site conn = record { site = site; store = state g conn }

module _ {S : Type 0} {g : Ghosts S} where
  -- ---- the views

  -- its site: the configuration, the states of its keys, and whether it is broken
  abbrev pub site_of : Replica S g → SiteValue
  site_of replica = replica.site

  -- the connection of its records
  abbrev pub conn_of : Replica S g → Held S
  conn_of replica = replica.records.conn

  -- what the connection shows of the database: what was committed, what a crash leaves, whether the disk is clean and
  -- the store open
  abbrev pub store_of : Replica S g → State
  store_of replica = state g replica.records.conn

  -- the database as it was committed last
  abbrev pub committed_of : Replica S g → Database
  committed_of replica = (state g replica.records.conn).committed

  -- how many commits of changes it has counted since it was opened
  abbrev pub commits_of : Replica S g → ℕ
  commits_of replica = replica.commits

  -- its site with its store
  abbrev pub stored_of : Replica S g → StoredSite
  stored_of replica = stored_by g (site_of replica) (conn_of replica)

  -- ---- what a call keeps

  -- a store that is sound after the call was sound before
  abbrev pub WasSound : Replica S g → Replica S g → Type 0
  WasSound old new = IsSound (store_of new) → IsSound (store_of old)

  -- a disk that nobody else has written by then was not written before
  abbrev pub WasClean : Replica S g → Replica S g → Type 0
  WasClean old new = HasCleanDisk (store_of new) → HasCleanDisk (store_of old)

  -- a change is taken only with the store open
  abbrev pub TakesIfOpen : Replica S g → Replica S g → Type 0
  TakesIfOpen old new = HasCleanDisk (store_of new) → IsTrue (store_of new).is_open ⊎ (site_of new ≡ site_of old)

  -- it counts at most so many more
  abbrev pub CountsUpTo : ℕ → Replica S g → Replica S g → Type 0
  CountsUpTo most old new = commits_of new ≤ commits_of old + most

  -- the last commit is the same
  abbrev pub KeepsCommit : Replica S g → Replica S g → Type 0
  KeepsCommit old new = IsSound (store_of new) → committed_of new ≡ committed_of old

  -- the records follow the states: where they held the site, they do
  abbrev pub RecordsFollow : Replica S g → Replica S g → Type 0
  RecordsFollow old new = IsSound (store_of new) → HoldsSite (site_of old) (committed_of old)
      → HoldsSite (site_of new) (committed_of new)
