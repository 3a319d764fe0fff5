-- What a stop leaves of a stored site after many requests.
use Rattle.std.proofs.Common.{sym, subst, true≢false, ◌∙◌, refl, inl, inr}
use Rattle.std.specs.Prelude.{◌≡◌, ◌⊎◌, Bool, false, true, ℕ, List, [], ◌∷◌, IsTrue}
use Rattle.mvd_wire.specs.declared.request.Request.{Request}
use Rattle.mvd_records.specs.Records.{IsSound}
use Rattle.mvd_site.specs.Config.{ConfigValue}
use Rattle.mvd_site.specs.FromStates.{after_from}
use Rattle.mvd_site.specs.Held.{States}
use Rattle.mvd_site.specs.Sites.{SiteValue}
use Rattle.sqlite.specs.Effect.{Database, IsDatabase}
use Rattle.sqlite.specs.State.{HasCleanDisk}
use Rattle.sqlite.specs.Tree.{Trees}
use Rattle.mvd_replica.specs.Holds.{AreSpelled, HoldsSite, HoldsStates}
use Rattle.mvd_replica.specs.Replicas.{StoredSite}

-- the trees are those of a database that holds these states of a site, and which lists its schema and obeys it
abbrev pub LeavesStates : ℕ → States → Trees → Type 0
LeavesStates site states trees = (db : Database) × IsDatabase db × HoldsStates site states db × (trees ≡ db.trees)

-- the states after these requests, one after the other
abbrev pub after_all : ConfigValue → States → List Request → States
after_all config states [] = states
after_all config states (request ∷ requests) = after_all config (after_from config states request) requests

-- The store is open and holds the states of a site that is not broken, and a stop leaves just these
pub record IsAtRest (stored : StoredSite) : Type 0 where
  pub is_open : IsTrue stored.store.is_open
  pub whole : stored.site.broken ≡ false
  pub fits : AreSpelled stored.site.states
  pub holds : HoldsSite stored.site stored.store.committed
  pub left : (trees : Trees) → stored.store.may_leave trees
      → LeavesStates stored.site.config.site stored.site.states trees

-- The trees are those of a sound database with the states of the site, or with these and what some requests were to
-- change. Of a store that is open and a site that is not broken they are just the states
pub record LeavesDone (AreUndone : List Request → Type 0) (stored : StoredSite) (trees : Trees) : Type 0 where
  pub undone : List Request
  pub are : AreUndone undone
  pub left : LeavesStates stored.site.config.site (after_all stored.site.config stored.site.states undone) trees
  pub none : IsTrue stored.store.is_open → stored.site.broken ≡ false → undone ≡ []

-- What a stop leaves of a stored site after calls. In the middle of one it leaves what it leaves after the same call
-- where the disk fails from there on.
pub record LeavesWhole (AreUndone : List Request → Type 0) (old new : StoredSite) : Type 0 where
  pub fits : AreSpelled old.site.states → AreSpelled new.site.states
  -- of a site that was at rest: its states, with all that was done, and what at most some refused requests were to
  -- change
  pub leaves : HasCleanDisk new.store → IsAtRest old → (trees : Trees) → new.store.may_leave trees
      → LeavesDone AreUndone new trees
  -- of a broken site, and of a store that was shut, nothing new
  pub still : HasCleanDisk new.store → (old.site.broken ≡ true) ⊎ (old.store.is_open ≡ false) → (trees : Trees) →
      new.store.may_leave trees → old.store.may_leave trees

pub leaves_self : (AreUndone : List Request → Type 0) (stored : StoredSite) → AreUndone []
    → LeavesWhole AreUndone stored stored
leaves_self AreUndone stored none = record {
  fits = λ fits. fits;
  leaves = λ _ rest trees may. record { undone = []; are = none; left = rest.left trees may; none = λ _ _. refl };
  still = λ _ _ trees may. may;
}

pub leaves_wider : (A B : List Request → Type 0) (old new : StoredSite)
    → ((requests : List Request) → A requests → B requests) →
    LeavesWhole A old new → LeavesWhole B old new
leaves_wider A B old new widens it = record {
  fits = it.fits;
  leaves = λ clean rest trees may. (
      let left = it.leaves clean rest trees may in
      record { undone = left.undone; are = widens left.undone left.are; left = left.left; none = left.none });
  still = it.still;
}

-- calls after calls, whose records follow the states
module _ (A : List Request → Type 0) (old mid new : StoredSite) (p : LeavesWhole A old mid) (q : LeavesWhole A mid new)
    (p_stays : old.site.broken ≡ true → mid.site ≡ old.site) (q_stays : mid.site.broken ≡ true → new.site ≡ mid.site)
    (p_sound : IsSound mid.store → IsSound old.store) (q_sound : IsSound new.store → IsSound mid.store)
    (q_clean : HasCleanDisk new.store → HasCleanDisk mid.store)
    (p_holds : IsSound mid.store → HoldsSite old.site old.store.committed → HoldsSite mid.site mid.store.committed)
    (q_shut : HasCleanDisk new.store → mid.store.is_open ≡ false → new.site ≡ mid.site) where
  rested : HasCleanDisk mid.store → IsAtRest old → IsTrue mid.store.is_open → mid.site.broken ≡ false → IsAtRest mid
  rested clean rest is_open whole = record {
    is_open = is_open;
    whole = whole;
    fits = p.fits rest.fits;
    holds = p_holds (record { clean = clean; is_open = is_open }) rest.holds;
    left = λ trees may. (
        let it = p.leaves clean rest trees may in
        subst (λ l. LeavesStates mid.site.config.site (after_all mid.site.config mid.site.states l) trees)
        (it.none is_open whole) it.left);
  }

  same_on : (trees : Trees) → new.site ≡ mid.site → (IsTrue new.store.is_open → new.site.broken ≡ false → ⊥)
      → LeavesDone A mid trees →
      LeavesDone A new trees
  same_on trees same never it = record {
    undone = it.undone;
    are = it.are;
    left = subst (λ (s : SiteValue). LeavesStates s.config.site (after_all s.config s.states it.undone) trees)
        (sym same) it.left;
    none = λ is_open whole. absurd (never is_open whole);
  }

  leaves_by : (broken is_open : Bool) → mid.site.broken ≡ broken → mid.store.is_open ≡ is_open → HasCleanDisk new.store
      → IsAtRest old →
      (trees : Trees) → new.store.may_leave trees → LeavesDone A new trees
  leaves_by true is_open broken is clean rest trees may =
      same_on trees (q_stays broken)
      (λ _ whole. true≢false
      (sym broken ∙ sym (subst (λ (s : SiteValue). s.broken ≡ mid.site.broken) (sym (q_stays broken)) refl)
      ∙ whole))
      (p.leaves (q_clean clean) rest trees (q.still clean (inl broken) trees may))
  leaves_by false true whole is clean rest trees may = q.leaves clean (rested (q_clean clean) rest is whole) trees may
  leaves_by false false whole is clean rest trees may =
      same_on trees (q_shut clean is)
      (λ is_open _. true≢false (sym (q_sound (record { clean = clean; is_open = is_open })).is_open ∙ is))
      (p.leaves (q_clean clean) rest trees (q.still clean (inr is) trees may))

  still_by : (is_open : Bool) → mid.store.is_open ≡ is_open → HasCleanDisk new.store
      → (old.site.broken ≡ true) ⊎ (old.store.is_open ≡ false) →
      (trees : Trees) → new.store.may_leave trees → old.store.may_leave trees
  still_by is_open is clean (inl broken) trees may =
      p.still (q_clean clean) (inl broken) trees
      (q.still clean (inl (subst (λ (s : SiteValue). s.broken ≡ true) (sym (p_stays broken)) broken)) trees may)
  still_by true is clean (inr shut) trees may =
      absurd (true≢false (sym (p_sound (record { clean = q_clean clean; is_open = is })).is_open ∙ shut))
  still_by false is clean (inr shut) trees may =
      p.still (q_clean clean) (inr shut) trees (q.still clean (inr is) trees may)

  pub leaves_on : LeavesWhole A old new
  leaves_on = record {
    fits = λ fits. q.fits (p.fits fits);
    leaves = leaves_by mid.site.broken mid.store.is_open refl refl;
    still = still_by mid.store.is_open refl;
  }
