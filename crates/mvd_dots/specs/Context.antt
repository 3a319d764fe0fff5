-- What a causal context is: a set of dots. How it is kept and spelled: one entry for each site.
-- Almeida, Shoker, Baquero, "Delta state replicated data types" (2018), on causal contexts and their compression to a
-- version vector and the dots beyond it.
use Rattle.std.specs.Prelude.{◌≡◌, ℕ, zero, suc, ◌+◌, ◌==◌, ◌<◌, ◌≤◌, max, nat_lt, List, [], ◌∷◌, map, filter, IsTrue, if◌then◌else◌}
use Rattle.std.specs.Ordering.{nat_cmp}
use Rattle.std.specs.Coded.{Coded}
use Rattle.std.specs.FinMap.{keys, from_entries}
use Rattle.std.specs.FinSet as set
use Rattle.mvd_dots.specs.Dot.{DotValue, IsDot, dot_cmp, dot_code}
use Rattle.mvd_dots.specs.Entry.{EntryValue, IsEntry, HasCounter}

-- a finite set of dots
abbrev pub DotSet : Type 0
DotSet = set.FinSet dot_cmp

abbrev pub dot_set_code : Coded DotSet
dot_set_code = set.code dot_code

-- the set has the dot of this site and counter
abbrev pub HoldsDot : DotSet → ℕ → ℕ → Type 0
HoldsDot dots site counter = IsTrue (set.contains dots (record { site = site; counter = counter }))

-- all its dots are within the limits
abbrev pub AreInRange : DotSet → Type 0
AreInRange dots = (site counter : ℕ) → HoldsDot dots site counter → IsDot (record { site = site; counter = counter })

-- ---- the greatest counter and the base of a site

-- the greatest counter of the site among these dots, or 0
abbrev pub greatest_of : ℕ → List DotValue → ℕ
greatest_of site [] = 0
greatest_of site (d ∷ ds) = if d.site == site then max d.counter (greatest_of site ds) else greatest_of site ds

-- the greatest counter of the site in the set, or 0
unfoldable pub greatest : ℕ → DotSet → ℕ
greatest site dots = greatest_of site (set.items dots)

-- `base` is the greatest number with all of the counters 1 to `base` of the site in the set
pub record IsBaseOf (dots : DotSet) (site base : ℕ) : Type 0 where
  pub all : (n : ℕ) → 0 < n → n ≤ base → HoldsDot dots site n
  pub greatest : HoldsDot dots site (base + 1) → ⊥

-- ---- entries

-- entries in their one form, by strictly rising site, the first above `low`
abbrev pub AreEntriesAbove : ℕ → List EntryValue → Type 0
AreEntriesAbove low [] = Unit {0}
AreEntriesAbove low (e ∷ es) = (low < e.site) × IsEntry e × AreEntriesAbove e.site es

abbrev pub AreEntries : List EntryValue → Type 0
AreEntries = AreEntriesAbove 0

-- ---- the dots of entries

-- the dots of the site with the counters 1 to `base`
unfoldable pub dots_up_to : ℕ → ℕ → DotSet
dots_up_to site zero = set.empty
dots_up_to site (suc n) = set.insert (dots_up_to site n) (record { site = site; counter = suc n })

-- the dots of the site with these counters
unfoldable pub dots_at : ℕ → List ℕ → DotSet
dots_at site [] = set.empty
dots_at site (n ∷ ns) = set.insert (dots_at site ns) (record { site = site; counter = n })

unfoldable pub entry_dots : EntryValue → DotSet
entry_dots e = set.union (dots_up_to e.site e.base) (dots_at e.site e.loose)

unfoldable pub set_of : List EntryValue → DotSet
set_of [] = set.empty
set_of (e ∷ es) = set.union (entry_dots e) (set_of es)

-- the entries that spell a set
pub record AreEntriesOf (dots : DotSet) (entries : List EntryValue) : Type 0 where
  pub form : AreEntries entries
  pub same : set_of entries ≡ dots

-- the entry of the site: the set has just its counters there
pub record IsEntryAt (dots : DotSet) (site : ℕ) (entry : EntryValue) : Type 0 where
  pub at : entry.site ≡ site
  pub form : IsEntry entry
  pub there : (n : ℕ) → HoldsDot dots site n → HasCounter entry.base entry.loose n
  pub back : (n : ℕ) → HasCounter entry.base entry.loose n → HoldsDot dots site n

-- the entry that has just this dot
pub record IsEntryOfDot (dot : DotValue) (entry : EntryValue) : Type 0 where
  pub form : IsEntry entry
  pub dots : entry_dots entry ≡ set.insert set.empty dot

-- ---- the entries of a set

-- these numbers in order, each once
unfoldable pub rising : List ℕ → List ℕ
rising ns = keys (from_entries {R = nat_cmp} (map (λ n. (n, tt {0})) ns))

-- the counters of a site, rising
unfoldable pub counters_at : DotSet → ℕ → List ℕ
counters_at dots site = rising (map (λ d. d.counter) (filter (λ d. d.site == site) (set.items dots)))

-- how far a rising list counts on from a number without a gap
abbrev pub counted_on : ℕ → List ℕ → ℕ
counted_on n [] = n
counted_on n (m ∷ ms) = if m == n + 1 then counted_on m ms else n

-- the greatest number with all of the counters 1 to it in the set
abbrev pub base_of : DotSet → ℕ → ℕ
base_of dots site = counted_on 0 (counters_at dots site)

-- the counters above it, rising
abbrev pub loose_of : DotSet → ℕ → List ℕ
loose_of dots site = filter (λ n. nat_lt (base_of dots site) n) (counters_at dots site)

abbrev pub entry_of : DotSet → ℕ → EntryValue
entry_of dots site = record { site = site; base = base_of dots site; loose = loose_of dots site }

-- the sites that have a dot, rising
unfoldable pub sites_of : DotSet → List ℕ
sites_of dots = rising (map (λ d. d.site) (set.items dots))

-- one entry for each site that has a dot, by rising site: the one list of entries that spells the set
unfoldable pub entries_of : DotSet → List EntryValue
entries_of dots = map (entry_of dots) (sites_of dots)

-- each site that has a dot, by rising site, with its base
unfoldable pub bases_of : DotSet → List (ℕ × ℕ)
bases_of dots = map (λ site. (site, base_of dots site)) (sites_of dots)
