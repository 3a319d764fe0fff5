-- What the records of a site hold: this project's own format (docs/FORMATS.md, "Records").
use Rattle.std.specs.Prelude.{◌≡◌, ◌≢◌, ◌⊎◌, false, ℕ, Some, Result, Ok, Err, option_map}
use Rattle.std.specs.FinMap.{get}
use Rattle.mvd_dots.specs.declared.refusals.Refusal.{Refusal}
use Rattle.mvd_dots.specs.declared.refusals.Refusal.TheVariants.{Broken, Store}
use Rattle.mvd_keys.specs.State.{State}
use Rattle.mvd_keys.specs.Writes.{Key}
use Rattle.mvd_wire.specs.Codecs.{spell_state, IsInForm}
use Rattle.mvd_records.specs.States.{StoredStates as Stored}
use Rattle.mvd_records.specs.Records.{HasNone, HoldsRecords, SavesState, new_states, old_states}
use Rattle.mvd_site.specs.Change.{ChangeValue}
use Rattle.mvd_site.specs.Held.{States}
use Rattle.mvd_site.specs.Installs.{broken_site, changed_site}
use Rattle.mvd_site.specs.Sites.{SiteValue}
use Rattle.sqlite.specs.Effect.{Database}

-- just these states are stored, each as it is spelled
abbrev pub SpellStates : Stored → States → Type 0
SpellStates stored states = (key : Key) → get stored key ≡ option_map spell_state (get states key)

-- each state has a spelling
abbrev pub AreSpelled : States → Type 0
AreSpelled states = (key : Key) (s : State) → get states key ≡ Some s → IsInForm s

-- the database holds the records of a site of this number, which are these states, and none of version 1
pub record HoldsStates (site : ℕ) (states : States) (db : Database) : Type 0 where
  pub records : HoldsRecords 2 site db
  pub alone : HasNone (old_states db)
  pub spelled : SpellStates (new_states db) states
  pub fits : AreSpelled states

-- the records are those of a site of this number, with none of version 1; and unless the site is broken, they are its
-- states
pub record HoldsSite (site : SiteValue) (db : Database) : Type 0 where
  pub records : HoldsRecords 2 site.config.site db
  pub alone : HasNone (old_states db)
  pub spelled : site.broken ≡ false → SpellStates (new_states db) site.states

-- what putting a change in comes to: it is in; or the store refused, and the site is as it was; or the site is broken
abbrev pub PutsIn : {A : Type 0} → SiteValue → SiteValue → ChangeValue → Result A Refusal → Type 0
PutsIn old new change (Ok done) = new ≡ changed_site old change
PutsIn old new change (Err refusal) = ((refusal ≡ Store) × (new ≡ old)) ⊎ ((refusal ≡ Broken) × (new ≡ broken_site old))

-- what is then stored: the change, unless the store refused it
abbrev pub StoresChange : {A : Type 0} → Database → Database → ChangeValue → Result A Refusal → Type 0
StoresChange old new change (Ok done) = SavesState old new change.key (spell_state change.state)
StoresChange old new change (Err refusal) = refusal ≢ Store → SavesState old new change.key (spell_state change.state)
