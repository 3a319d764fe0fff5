-- From the open of a file to its close: what it held is in what is left of it.
use Rattle.std.proofs.Common.{◌≡◌, ◌∙◌, List, [], ◌++◌, ap, false, subst, sym}
use Rattle.mvd_keys.specs.Writes.{Stands, Write}
use Rattle.mvd_records.specs.Records.{IsOurs, IsSound}
use Rattle.mvd_site.specs.Config.{ConfigValue}
use Rattle.mvd_site.specs.Held.{States}
use Rattle.sqlite_disk.specs.declared.Disk.{Ghosts}
use Rattle.sqlite_disk.specs.declared.Files.{Files}
use Rattle.sqlite_store.specs.declared.store.FileStore.{FileStore}
use Rattle.sqlite_trees.specs.declared.store.Store as store
use Rattle.sqlite.specs.Files.{image_of}
use Rattle.sqlite.specs.Recovery.{Image}
use Rattle.mvd_replica.specs.declared.replica.Replica.{Replica}
use Rattle.mvd_replica.specs.File.{HoldsAlone, OpensFile}
use Rattle.mvd_replica.specs.FileCalls.{IsClosed, file_database, file_of}
use Rattle.mvd_replica.specs.Holds.{HoldsStates}
use Rattle.mvd_replica.specs.Programs.{HoldsMore, KeepsFile, WorksOn}
use Rattle.mvd_replica.specs.Replicas.{site_of}
use Rattle.mvd_replica.specs.Restored.{HasWrites, IsFresh}
use Rattle.mvd_replica.specs.Readable.{HasJust}
use Rattle.mvd_replica.proofs.EmptyFiles.{none_ours, none_tables}
use Rattle.mvd_replica.proofs.Follows.{ours_held}
use Rattle.mvd_replica.proofs.RestoredOrder.{held_just, just_one}

-- ---- a run

module _ {D : Type 0} {g : Ghosts D} {f : store.Ghosts (FileStore D g)} (image : Image) (config : ConfigValue) (old new : Replica (FileStore D g) f) (files : Files D)
    (fresh : IsFresh config (site_of old)) (first : HasWrites (site_of old)) (opens : IsSound (file_of old) → OpensFile image config (site_of old) (file_database old))
    (works : WorksOn (record { site = site_of old; store = file_of old }) (record { site = site_of new; store = file_of new })) (whole : (site_of new).broken ≡ false) (closed : IsClosed new files) where
  opened : OpensFile image config (site_of old) (file_database old)
  opened = opens (works.sound closed.sound)

  -- the writes that the site stood for when it was opened
  holds_more : IsOurs opened.was → (known : List Write) → Stands (site_of old).states known → HoldsMore g config.site known files
  holds_more ours known stands =
      let kept = works.keeps known stands in
      let number = ap (λ (c : ConfigValue). c.site) (works.config ∙ fresh.0) in
      let now = closed.holds whole (works.holds closed.sound (opened.opened ours).holds) in
      record {
        states = (site_of new).states;
        added = kept.0;
        stands = kept.1;
        seen = subst (λ n. HoldsAlone (image_of g files) n (site_of new).states) number (closed.file.seen _ _ now);
        left = λ other may. subst (λ n. HoldsAlone other n (site_of new).states) number (closed.file.left other may _ _ now);
      }

  more_than_none : (known : List Write) → HoldsMore g config.site known files → HoldsMore g config.site [] files
  more_than_none known more = record { states = more.states; added = known ++ more.added; stands = more.stands; seen = more.seen; left = more.left }

  leaves : IsOurs opened.was → (states : States) (known : List Write) → HasJust opened.was states → Stands states known → HoldsMore g config.site known files
  leaves ours states known just stands =
      holds_more ours known (subst (λ m. Stands m known) (just_one opened.was states (site_of old).states just (opened.opened ours).spelled) stands)

  pub leaves_file : KeepsFile g image config.site files
  leaves_file = record {
    was = opened.was;
    found = opened.found;
    own = opened.own;
    order = λ ours. (opened.opened ours).order;
    begins = λ empty. more_than_none first.0 (holds_more (none_ours opened.was (none_tables opened.was opened.found.sound empty)) first.0 first.1);
    leaves = leaves;
    keeps = λ states known holds stands. (
        let was = subst (HoldsStates config.site states) (sym (opened.found.holds holds.db holds.held)) holds.holds in
        leaves (ours_held config.site states opened.was was) states known (held_just config.site opened.was states was) stands);
  }
