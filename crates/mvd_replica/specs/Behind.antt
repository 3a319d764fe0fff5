-- A request to change a key behind a change of that key that waits to be put in.
use Rattle.std.specs.Prelude.{◌≡◌, ◌≢◌, ⊤, Bool, ℕ, ◌+◌, ◌<◌, ◌≤◌, false, true, List, [], ◌∷◌, ◌++◌, length, map}
use Rattle.std.specs.Prelude.{Option, None, Some, get_or}
use Rattle.std.specs.List.{AllByRecursion}
use Rattle.std.specs.FinMap.{FinMap, from_entries, get, insert}
use Rattle.std.specs.Borrow.{Bor}
use Rattle.mvd_keys.specs.Key.{key_cmp}
use Rattle.mvd_keys.specs.Writes.{Key}
use Rattle.mvd_wire.specs.declared.request.Request.{Request}
use Rattle.mvd_wire.specs.declared.request.Request.TheVariants.{Get, Put, Delete, Push, Hello, Bye}
use Rattle.mvd_site.specs.Change.{ChangeValue}
use Rattle.mvd_site.specs.Config.{ConfigValue}
use Rattle.mvd_site.specs.Held.{States}
use Rattle.mvd_site.specs.Installs.{with_group}
use Rattle.mvd_site.specs.Over.{AsksToChange}
use Rattle.mvd_site.specs.Sites.{SiteValue}
use Rattle.mvd_kept.specs.declared.prepared.Prepared.{Prepared}
use Rattle.mvd_kept.specs.declared.prepared.Prepared.TheVariants.{Answer, Change}
use Rattle.mvd_replica.specs.Adding.{CountsKeys, key_to_change}
use Rattle.mvd_replica.specs.Groups.{ComesTo, IsSendable, ComesInGroup, SeesAny}

-- ---- where the changes stand

-- keys with places
abbrev pub Places : Type 0
Places = FinMap key_cmp ℕ

-- the same where the entries borrow the keys
abbrev pub places_of : List (Bor Key × ℕ) → Places
places_of entries = from_entries (map (λ entry. (entry.0.now, entry.1)) entries)

-- with the place of a change of that key, if there is one
abbrev pub noted_key : Places → ℕ → Option Key → Places
noted_key places at None = places
noted_key places at (Some key) = insert places key at

-- with the place of what a request came to, by the key that it asks to change, if it is a change
abbrev pub noted_of : Places → ℕ → Request → Prepared → Places
noted_of places at request (Answer reply) = places
noted_of places at request (Change change) = noted_key places at (key_to_change request)

-- with the place of what was prepared, if it is a change
abbrev pub noted_at : Places → ℕ → Prepared → Places
noted_at places at (Answer reply) = places
noted_at places at (Change change) = insert places change.key at

-- what was prepared is no change of this key
abbrev pub LeavesKey : Key → Prepared → Type 0
LeavesKey key (Answer reply) = ⊤
LeavesKey key (Change change) = change.key ≢ key

-- at that place of a group stands this change, and its state is the one that the group leaves its key
pub record StandsLast (group : List Prepared) (at : ℕ) (change : ChangeValue) : Type 0 where
  pub stands : (other : Prepared) → get_or group at other ≡ Change change
  pub leaves : (states : States) → get (with_group states group) change.key ≡ Some change.state

-- none of a group changes the key, or the last change of it stands at that place
abbrev pub IsLastAt : List Prepared → Key → Option ℕ → Type 0
IsLastAt group key None = AllByRecursion (LeavesKey key) group
IsLastAt group key (Some at) =
    (at < length group) × (change : ChangeValue) × (change.key ≡ key) × StandsLast group at change

-- of each key that a group changes this is the place of its last change
abbrev pub AreLast : List Prepared → Places → Type 0
AreLast group places = (key : Key) → IsLastAt group key (get places key)

-- the request asks to change none of these keys
abbrev pub IsFree : Places → Request → Type 0
IsFree places request = (key : Key) → key_to_change request ≡ Some key → get places key ≡ None

-- the last of a group that changes the key which the request asks to change
pub record IsLastBefore (group : List Prepared) (request : Request) (change : ChangeValue) : Type 0 where
  pub asks : AsksToChange change.key request
  pub leaves : (states : States) → get (with_group states group) change.key ≡ Some change.state
  pub sees : SeesAny request group

-- the answer to the request can depend on the state of every key
abbrev pub sees_all_keys : Request → Bool
sees_all_keys (Get own) = false
sees_all_keys (Put own seen document) = false
sees_all_keys (Delete own seen) = false
sees_all_keys (Push own pushed) = false
sees_all_keys (Hello token) = false
sees_all_keys Bye = false
sees_all_keys request = true

-- ---- what comes of it

-- once the key has the state of that change, the request comes to this, whatever the other keys have
abbrev pub ComesBehind : ConfigValue → ChangeValue → Request → Prepared → Type 0
ComesBehind config before request prepared = (states : States) → get states before.key ≡ Some before.state
    → ComesTo config states request prepared × IsSendable request prepared

-- a change is one of the key that the request asks to change
abbrev pub ChangesAsked : Request → Prepared → Type 0
ChangesAsked request (Answer reply) = ⊤
ChangesAsked request (Change change) = key_to_change request ≡ Some change.key

-- it joins a group that adds some keys, and adds so many
pub record JoinsGroup (site : SiteValue) (group : List Prepared) (added : ℕ) (request : Request) (prepared : Prepared)
    (adds : ℕ) : Type 0 where
  pub joins : site.broken ≡ false → ComesInGroup site request group prepared
  pub keys : CountsKeys site (group ++ prepared ∷ []) (added + adds)
  pub few : adds ≤ 1
  pub asked : ChangesAsked request prepared
