-- Keys that are gone over, from the last one to the first or from the first one to the last.
use Rattle.std.specs.Prelude.{◌≡◌, List, ◌∷◌, ◌++◌, map, reverse}
use Rattle.std.specs.BTreeSet.{contains}
use Rattle.std.specs.Borrow.{Bor}
use Rattle.mvd_keys.specs.Key.{key_cmp}
use Rattle.mvd_keys.specs.Writes.{Key}
use Rattle.mvd_host.specs.declared.feed.Gathered.{Gathered}
use Rattle.mvd_host.specs.Feeds.{is_listed, lasts, met_all, met_one}

-- these different keys were met, the last one first
pub record Met (gathered : Gathered) (keys : List Key) : Type 0 where
  pub order : reverse (map (λ key. key.now) gathered.found.items) ≡ keys
  pub members : (q : Bor Key) → contains (λ a b. key_cmp a.now b.now) gathered.seen q ≡ is_listed keys q.now

-- a key was met behind them, and so were keys
abbrev pub MeetsOne : Gathered → Key → Gathered → Type 0
MeetsOne old key new = (met : List Key) → Met old met → Met new (met_one met key)

abbrev pub MeetsAll : Gathered → List Key → Gathered → Type 0
MeetsAll old keys new = (met : List Key) → Met old met → Met new (met_all met keys)

-- these keys were met from the last one on
pub record Gathers (gathered : Gathered) (keys : List Key) : Type 0 where
  pub order : reverse (map (λ key. key.now) gathered.found.items) ≡ lasts keys
  pub members : (q : Bor Key) → contains (λ a b. key_cmp a.now b.now) gathered.seen q ≡ is_listed keys q.now

-- a key was met before them, and so were keys
abbrev pub GathersOne : Gathered → Key → Gathered → Type 0
GathersOne old key new = (later : List Key) → Gathers old later → Gathers new (key ∷ later)

abbrev pub GathersAll : Gathered → List Key → Gathered → Type 0
GathersAll old keys new = (later : List Key) → Gathers old later → Gathers new (keys ++ later)
