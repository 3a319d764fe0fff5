-- Which keys requests add to a site, and whether there is room for a key once others are in.
use Rattle.std.specs.Prelude.{◌≡◌, ◌⊎◌, Bool, ℕ, ◌+◌, ◌<◌, ◌≤◌, cond, false, true, is_some, length, List, not, Option, None, Some}
use Rattle.std.specs.FinMap.{get, len as map_len}
use Rattle.mvd_keys.specs.Writes.{Key}
use Rattle.mvd_wire.specs.declared.request.Request.{Request}
use Rattle.mvd_wire.specs.declared.request.Request.TheVariants.{Put, Delete, Push}
use Rattle.mvd_kept.specs.declared.prepared.Prepared.{Prepared}
use Rattle.mvd_kept.specs.declared.prepared.Prepared.TheVariants.{Answer, Change}
use Rattle.mvd_site.specs.Config.{ConfigValue}
use Rattle.mvd_site.specs.Held.{States}
use Rattle.mvd_site.specs.Installs.{with_group}
use Rattle.mvd_site.specs.Sites.{SiteValue}

-- the key that a request asks to change
abbrev pub key_to_change : Request → Option Key
key_to_change (Put key seen document) = Some key
key_to_change (Delete key seen) = Some key
key_to_change (Push key pushed) = Some key
key_to_change request = None

-- the key is none of those that are held
abbrev pub is_unheld : States → Key → Bool
is_unheld states key = not (is_some (get states key))

-- there is a key, and it is none of those
abbrev pub is_some_unheld : States → Option Key → Bool
is_some_unheld states None = false
is_some_unheld states (Some key) = is_unheld states key

-- the request may add a key: it asks to change one that is not held
abbrev pub may_add : States → Request → Bool
may_add states request = is_some_unheld states (key_to_change request)

-- how many keys a change of a key adds
abbrev pub adds_one : States → Key → ℕ
adds_one states key = cond (is_some (get states key)) 0 1

-- the same of what was prepared
abbrev pub adds_of : States → Prepared → ℕ
adds_of states (Answer reply) = 0
adds_of states (Change change) = adds_one states change.key

-- ---- room

-- In the states afterwards there is as much room for the request as before: they have as many keys, or there is room
-- for one more, or the request adds none
abbrev pub KeepsRoom : ConfigValue → States → States → Request → Type 0
KeepsRoom config states after request =
    (map_len after ≡ map_len states) ⊎ (map_len after < config.max_keys) ⊎ (may_add states request ≡ false)

-- There may be less room for the request once these are put in: they add keys, then there is room for none more, and
-- the request may add one
abbrev pub LacksRoom : SiteValue → Request → List Prepared → Type 0
LacksRoom site request group =
    (map_len site.states < map_len (with_group site.states group))
    × (site.config.max_keys ≤ map_len (with_group site.states group))
    × (may_add site.states request ≡ true)

-- the same by a number of keys that are added
abbrev pub KeepsRoomFor : SiteValue → Request → ℕ → Type 0
KeepsRoomFor site request added =
    (added ≡ 0) ⊎ (map_len site.states + added < site.config.max_keys) ⊎ (may_add site.states request ≡ false)

abbrev pub LacksRoomFor : SiteValue → Request → ℕ → Type 0
LacksRoomFor site request added =
    (0 < added) × (site.config.max_keys ≤ map_len site.states + added) × (may_add site.states request ≡ true)

-- ---- counts

-- there is no room for 1,024 keys more
abbrev pub IsTight : SiteValue → Type 0
IsTight site = site.config.max_keys < map_len site.states + 1024

-- so many keys are counted where so many are added: at least as many, and just as many where room is tight
pub record CountsAdded (site : SiteValue) (adds count : ℕ) : Type 0 where
  pub most : adds ≤ count
  pub few : count ≤ 1
  pub exact : IsTight site → count ≡ adds

-- the same of all that a group adds
pub record CountsKeys (site : SiteValue) (group : List Prepared) (added : ℕ) : Type 0 where
  pub most : map_len (with_group site.states group) ≤ map_len site.states + added
  pub few : added ≤ length group
  pub exact : IsTight site → map_len (with_group site.states group) ≡ map_len site.states + added
