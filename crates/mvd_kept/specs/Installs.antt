-- What was prepared of requests side by side, put in one after the other: what a site does with it, and what it takes
-- at most.
use Rattle.std.specs.Prelude.{◌≡◌, ◌⊎◌, ⊤, Bool, ℕ, ◌+◌, ◌*◌, false, true, if◌then◌else◌, List, [], ◌∷◌, ◌++◌, length, Some}
use Rattle.std.specs.FinMap.{insert}
use Rattle.std.specs.List.{list_any}
use Rattle.std.specs.Ordering.{eq_by_cmp}
use Rattle.mvd_dots.specs.declared.refusals.Refusal.TheVariants.{Broken}
use Rattle.mvd_keys.specs.Key.{key_cmp}
use Rattle.mvd_keys.specs.Writes.{Key}
use Rattle.mvd_rows.specs.Changes.{differing, looks_each, updates_each}
use Rattle.mvd_digest.specs.Counted.{Hashes}
use Rattle.mvd_digest.specs.declared.digest.Hashed.{Hashed}
use Rattle.mvd_tree.specs.Change.{changed_all}
use Rattle.mvd_tree.specs.HashTree.{KeyDigests}
use Rattle.mvd_tree.specs.States.{key_digest}
use Rattle.mvd_tree.specs.Touched.{Changes, changed_bytes, count_touched, inner_touched, keys_touched}
use Rattle.mvd_wire.specs.declared.reply.Reply.{Reply}
use Rattle.mvd_wire.specs.declared.reply.Reply.TheVariants.{Refused}
use Rattle.mvd_kept.specs.Answer.{digests, spelled}
use Rattle.mvd_kept.specs.Change.{ChangeValue, change_reply}
use Rattle.mvd_kept.specs.Costs.{Costs}
use Rattle.mvd_kept.specs.Held.{IsHeldState, States, state_at}
use Rattle.mvd_kept.specs.Prepared.{IsChangeNow}
use Rattle.mvd_kept.specs.Sites.{SiteValue, has_no_room}
use Rattle.mvd_kept.specs.declared.prepared.Prepared.{Prepared}
use Rattle.mvd_kept.specs.declared.prepared.Prepared.TheVariants.{Answer, Change}
use Rattle.mvd_kept.specs.declared.work.Work.{Work}

-- ---- one

-- the site with a change put in
abbrev pub changed_site : SiteValue → ChangeValue → SiteValue
changed_site site change =
    record { config = site.config; states = insert site.states change.key change.state; broken = false }

-- the site, broken
abbrev pub broken_site : SiteValue → SiteValue
broken_site site = record { config = site.config; states = site.states; broken = true }

-- the states, and the site, with one put in
abbrev pub with_prepared : States → Prepared → States
with_prepared states (Answer reply) = states
with_prepared states (Change change) = insert states change.key change.state

abbrev pub with_one : SiteValue → Prepared → SiteValue
with_one site (Answer reply) = site
with_one site (Change change) = changed_site site change

-- a change may be put in
abbrev pub MayBeIn : SiteValue → Prepared → Type 0
MayBeIn site (Answer reply) = ⊤
MayBeIn site (Change change) =
    (has_no_room site.config site.states change.key ≡ false) × IsHeldState change.state × IsChangeNow site change

-- what putting one in comes to: a site that is not broken replies what was prepared, or it breaks; a broken one says so
abbrev pub PutsOne : SiteValue → SiteValue → Prepared → Reply → Type 0
PutsOne old new (Answer told) reply = (reply ≡ told) × (new ≡ old)
PutsOne old new (Change change) reply =
    ((reply ≡ change_reply change.dot) × (new ≡ changed_site old change))
    ⊎ ((reply ≡ Refused Broken) × (new ≡ broken_site old))

pub record PutsIfWhole (old new : SiteValue) (prepared : Prepared) (reply : Reply) : Type 0 where
  pub whole : old.broken ≡ false → PutsOne old new prepared reply
  pub broken : old.broken ≡ true → (reply ≡ Refused Broken) × (new ≡ old)

-- ---- many

-- the states with all of a group put in
abbrev pub with_group : States → List Prepared → States
with_group states [] = states
with_group states (prepared ∷ group) = with_group (with_prepared states prepared) group

-- each change may be put in, once those before it are
abbrev pub MayAllBeIn : SiteValue → List Prepared → Type 0
MayAllBeIn site [] = ⊤
MayAllBeIn site (prepared ∷ group) = MayBeIn site prepared × MayAllBeIn (with_one site prepared) group

abbrev pub PutsAll : SiteValue → SiteValue → List Prepared → List Reply → Type 0
PutsAll old new [] [] = new ≡ old
PutsAll old new (prepared ∷ group) (reply ∷ replies) =
    (mid : SiteValue) × PutsIfWhole old mid prepared reply × PutsAll mid new group replies
PutsAll old new group replies = ⊥

-- What a call does that puts a group in: the site is as after one after the other, and one reply of each stands behind
-- those before
abbrev pub InstallsAll : SiteValue → SiteValue → List Prepared → List Reply → List Reply → Type 0
InstallsAll old new group before after = (told : List Reply) × (after ≡ before ++ told) × PutsAll old new group told

-- ---- what it takes

-- the number of changes among them
abbrev pub is_change : Prepared → ℕ
is_change (Answer reply) = 0
is_change (Change change) = 1

abbrev pub changes_in : List Prepared → ℕ
changes_in [] = 0
changes_in (prepared ∷ group) = is_change prepared + changes_in group

-- how many bytes spell the keys of the changes with their states
abbrev pub byte_count_of : Prepared → ℕ
byte_count_of (Answer reply) = 0
byte_count_of (Change change) = length (spelled change.key change.state)

abbrev pub byte_count_in : List Prepared → ℕ
byte_count_in [] = 0
byte_count_in (prepared ∷ group) = byte_count_of prepared + byte_count_in group

-- the keys that are changed, each as often as it is
abbrev pub keys_in : List Prepared → List Key
keys_in [] = []
keys_in (Answer reply ∷ group) = keys_in group
keys_in (Change change ∷ group) = change.key ∷ keys_in group

abbrev pub is_changed : List Prepared → Key → Bool
is_changed group key = list_any (λ k. eq_by_cmp key_cmp k key) (keys_in group)

-- the last change of each key, in order
abbrev pub last_changes : List Prepared → List Prepared
last_changes [] = []
last_changes (Answer reply ∷ group) = last_changes group
last_changes (Change change ∷ group) =
    if is_changed group change.key then last_changes group else Change change ∷ last_changes group

-- the changes of digests
abbrev pub digests_in : List Prepared → Changes
digests_in [] = []
digests_in (Answer reply ∷ group) = digests_in group
digests_in (Change change ∷ group) = (change.key, Some (key_digest spelled change.key change.state)) ∷ digests_in group

-- how many siblings stand in one alone of the two states of a key
abbrev pub moved_of : States → Prepared → ℕ
moved_of states (Answer reply) = 0
moved_of states (Change change) = differing (state_at states change.key) change.state

abbrev pub moved_in : States → List Prepared → ℕ
moved_in states [] = 0
moved_in states (prepared ∷ group) = moved_of states prepared + moved_in (with_prepared states prepared) group

-- what it takes to hash what is last of each key: of each change the state with the key, and the key
abbrev pub HashesChanges : List Prepared → Hashed → Hashed → Type 0
HashesChanges changes = Hashes (2 * changes_in changes) (byte_count_in changes + changed_bytes (digests_in changes))

-- what it takes the hash tree: for each change two computations, and one for each bucket and each node above that they
-- touch
abbrev pub TreeCosts : KeyDigests → List Prepared → Hashed → Hashed → Type 0
TreeCosts held group =
    let changes = digests_in group in
    Hashes (2 * changes_in group + count_touched 0 changes + inner_touched changes)
    (byte_count_in group + changed_bytes changes + 32 * keys_touched (changed_all held changes) changes
    + 512 * inner_touched changes)

-- What it takes to put in a group: for each change a look at the key's old state, and an update of the keys in
-- conflict; for each sibling that comes or goes what each index and view cost; for each key, however often it changes,
-- two computations, of the key with its last state and of the key's path; and one computation of each bucket with the
-- path of a changed key, and of each node above one, however many of the keys stand there
abbrev pub InstallCosts : SiteValue → List Prepared → Work → Work → Type 0
InstallCosts site group =
    let moved = moved_in site.states group in
    let lasts = last_changes group in
    let changes = digests_in lasts in
    Costs (changes_in group) (moved * looks_each site.config.defs)
    (moved * updates_each site.config.defs + changes_in group)
    (2 * changes_in lasts + count_touched 0 changes + inner_touched changes)
    (byte_count_in lasts + changed_bytes changes + 32 * keys_touched (digests (with_group site.states group)) changes
    + 512 * inner_touched changes)
