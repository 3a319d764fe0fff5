-- A site that is stored in memory begins with no key.
use Rattle.std.proofs.Common.{◌≡◌, ◌∙◌, Bool, ap, refl, sym}
use Rattle.std.specs.FinMap.{empty}
use Rattle.mvd_records.specs.Records.{IsSound}
use Rattle.mvd_records.specs.Tables.{no_tables}
use Rattle.mvd_replica.specs.Opened.{IsOpened}
use Rattle.mvd_replica.proofs.EmptyFiles.{just_none, none_ours, none_stored}
use Rattle.mvd_replica.proofs.RestoredOrder.{just_one}
use Rattle.mvd_site.specs.Config.{ConfigValue}
use Rattle.mvd_site.specs.Held.{States}
use Rattle.mvd_site.specs.Sites.{SiteValue}
use Rattle.sqlite.specs.Effect.{Database}
use Rattle.sqlite.specs.Held.{Held, state}
use Rattle.sqlite.specs.State.{HasCleanDisk, State}
use Rattle.sqlite.specs.Steps.{IsEmpty, over_memory}
use Rattle.sqlite_trees.specs.View.{doubt}
use Rattle.sqlite_trees.specs.declared.memory.MemStore.{MemStore}
use Rattle.mvd_app.specs.Stored.{site_without_keys}

abbrev site_made : ConfigValue → States → Bool → SiteValue
site_made config states broken = record { config = config; states = states; broken = broken }

-- the site that is opened on it
pub without_keys : (config : ConfigValue) (store after : State) (site : SiteValue) → IsEmpty store → HasCleanDisk after → IsOpened config store site after →
    site ≡ site_without_keys config
without_keys config store after site is_empty clean opens =
    let none : store.committed.schema ≡ no_tables = ap (λ (db : Database). db.schema) (sym is_empty.0.clean) ∙ is_empty.2 in
    let stored = none_stored store.committed none in
    let sound : IsSound after = record { clean = clean; is_open = opens.is_open clean } in
    let states : site.states ≡ empty = just_one store.committed site.states empty (opens.opened sound (none_ours store.committed none)).spelled (just_none store.committed stored.0 stored.1) in
    ap (λ (c : ConfigValue). site_made c site.states site.broken) opens.is.0 ∙ ap (λ (m : States). site_made config m site.broken) states
    ∙ ap (site_made config empty) opens.is.1

-- the disk of what stands in memory never fails
pub clean_memory : (conn : Held MemStore) → HasCleanDisk (state over_memory conn)
unfolding doubt
clean_memory conn = refl
