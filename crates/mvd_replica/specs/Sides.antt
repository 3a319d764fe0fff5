-- A stored site as a side of a session: what it does from its states, what of it no call changes, and what it refuses.
use Rattle.std.proofs.Common.{refl, sym, subst, true≢false, ◌∙◌}
use Rattle.std.specs.Prelude.{◌≡◌, ◌≢◌, ◌⊎◌, Bool, false, true, List, ◌∷◌}
use Rattle.std.specs.List.{AllByRecursion}
use Rattle.mvd_dots.specs.declared.refusals.Refusal.{Refusal}
use Rattle.mvd_dots.specs.declared.refusals.Refusal.TheVariants.{Store}
use Rattle.mvd_keys.specs.State.{State as Keyed}
use Rattle.mvd_keys.specs.Writes.{Key}
use Rattle.mvd_wire.specs.declared.request.Request.{Request}
use Rattle.mvd_wire.specs.declared.request.Request.TheVariants.{Push}
use Rattle.mvd_wire.specs.declared.reply.Reply.{Reply}
use Rattle.mvd_wire.specs.declared.reply.Reply.TheVariants.{Refused}
use Rattle.mvd_records.specs.Records.{IsSound}
use Rattle.mvd_site.specs.FromStates.{AnswersFrom, after_from}
use Rattle.mvd_site.specs.Held.{AreHeld}
use Rattle.mvd_site.specs.Sites.{SiteValue}
use Rattle.mvd_peer.specs.PushedStates.{ComesByPushes}
use Rattle.mvd_peer.proofs.Pushes.{more_pushes, no_pushes}
use Rattle.mvd_peer.specs.Sides.{SiteFollows, SiteRefuses, site_follows_on, site_follows_self}
use Rattle.mvd_replica.specs.Holds.{HoldsSite, HoldsStates}
use Rattle.mvd_replica.specs.Replicas.{StoredSite}
use Rattle.mvd_replica.specs.Whole.{LeavesWhole, after_all, leaves_on, leaves_self}
use Rattle.sqlite.specs.Effect.{Database}
use Rattle.sqlite.specs.State.{HasCleanDisk}

-- the request would change the states, the store refused it, and the site is as it was
pub record StoreRefusedFrom (old new : SiteValue) (request : Request) (reply : Reply) : Type 0 where
  pub told : reply ≡ Refused Store
  pub changes : after_from old.config old.states request ≢ old.states
  pub whole : old.broken ≡ false
  pub site : new ≡ old

-- What a stored site that is not broken does with one request, from its states alone: what a site does, or, only where
-- there was something to store, the store refused
abbrev pub AnswersFromStored : SiteValue → SiteValue → Request → Reply → Type 0
AnswersFromStored old new request reply = AnswersFrom old new request reply ⊎ StoreRefusedFrom old new request reply

-- the records hold what a broken site had, with the change of such a request put in
pub record HoldsBroken (asks : Request → Type 0) (site : SiteValue) (db : Database) : Type 0 where
  pub request : Request
  pub asked : asks request
  pub changes : after_from site.config site.states request ≢ site.states
  pub holds : HoldsStates site.config.site (after_from site.config site.states request) db

-- the request pushes a state
abbrev pub IsPush : Request → Type 0
IsPush request = (key : Key) × (pushed : Keyed) × (request ≡ Push key pushed)

-- the requests push states
abbrev pub ArePushes : List Request → Type 0
ArePushes = AllByRecursion IsPush

-- the records hold what a broken site had, with the changes of some pushes put in, of which the first changed a state
pub record HoldsPushed (site : SiteValue) (db : Database) : Type 0 where
  pub request : Request
  pub changes : after_from site.config site.states request ≢ site.states
  pub rest : List Request
  pub are_pushes : ArePushes (request ∷ rest)
  pub holds : HoldsStates site.config.site (after_all site.config site.states (request ∷ rest)) db

-- What calls do to the store. If it is sound now it was, and if it held the site it does; once the site is broken it
-- stays as it is, and if that came by these calls it holds what was to be changed as well. A store that was shut takes
-- no change.
pub record StoreFollows (HoldsMore : SiteValue → Database → Type 0) (old new : StoredSite) : Type 0 where
  pub sound : IsSound new.store → IsSound old.store
  pub holds : IsSound new.store → HoldsSite old.site old.store.committed → HoldsSite new.site new.store.committed
  pub stays : old.site.broken ≡ true → new.store.committed ≡ old.store.committed
  pub stored : IsSound new.store → HoldsSite old.site old.store.committed → old.site.broken ≡ false →
      new.site.broken ≡ true → HoldsMore new.site new.store.committed
  pub clean : HasCleanDisk new.store → HasCleanDisk old.store
  pub shut : HasCleanDisk new.store → old.store.is_open ≡ false → new.site ≡ old.site

-- a replica keeps its configuration, once broken all of its site, and its records follow the states
pub record ReplicaFollows (asks : Request → Type 0) (old new : StoredSite) : Type 0 where
  pub site : SiteFollows old.site new.site
  pub store : StoreFollows (HoldsBroken asks) old new

-- a site is true to its states as long as it is not broken; they are in form
abbrev pub IsTrueSite : SiteValue → Type 0
IsTrueSite site = (site.broken ≡ false) × AreHeld site.states

pub store_follows_self : {HoldsMore : SiteValue → Database → Type 0} (stored : StoredSite) →
    StoreFollows HoldsMore stored stored
store_follows_self stored = record {
  sound = λ sound. sound;
  holds = λ _ holds. holds;
  stays = λ _. refl;
  stored = λ _ _ whole broken. absurd (true≢false (sym broken ∙ whole));
  clean = λ clean. clean;
  shut = λ _ _. refl;
}

pub replica_follows_self : {asks : Request → Type 0} (stored : StoredSite) → ReplicaFollows asks stored stored
replica_follows_self stored = record { site = site_follows_self stored.site; store = store_follows_self stored }

module _ (HoldsMore : SiteValue → Database → Type 0) (old mid new : StoredSite)
    (stays : mid.site.broken ≡ true → new.site ≡ mid.site) (p : StoreFollows HoldsMore old mid)
    (q : StoreFollows HoldsMore mid new) where
  stored_on : (is : Bool) → mid.site.broken ≡ is → IsSound new.store → HoldsSite old.site old.store.committed →
      old.site.broken ≡ false → new.site.broken ≡ true → HoldsMore new.site new.store.committed
  stored_on true is sound holds whole broken =
      subst (λ s. HoldsMore s new.store.committed) (sym (stays is))
      (subst (HoldsMore mid.site) (sym (q.stays is)) (p.stored (q.sound sound) holds whole is))
  stored_on false is sound holds whole broken = q.stored sound (p.holds (q.sound sound) holds) is broken

  shut_on : (is : Bool) → mid.store.is_open ≡ is → HasCleanDisk new.store → old.store.is_open ≡ false →
      new.site ≡ old.site
  shut_on true is clean shut =
      let sound : IsSound mid.store = record { clean = q.clean clean; is_open = is } in
      absurd (true≢false (sym (p.sound sound).is_open ∙ shut))
  shut_on false is clean shut = q.shut clean is ∙ p.shut (q.clean clean) shut

  pub store_follows_on : (old.site.broken ≡ true → mid.site ≡ old.site) → StoreFollows HoldsMore old new
  store_follows_on still = record {
    sound = λ sound. p.sound (q.sound sound);
    holds = λ sound holds. q.holds sound (p.holds (q.sound sound) holds);
    stays = λ broken. q.stays (subst (λ (s : SiteValue). s.broken ≡ true) (sym (still broken)) broken) ∙ p.stays broken;
    stored = stored_on mid.site.broken refl;
    clean = λ clean. p.clean (q.clean clean);
    shut = shut_on mid.store.is_open refl;
  }

pub replica_follows_on : (asks : Request → Type 0) (old mid new : StoredSite) →
    ReplicaFollows asks old mid → ReplicaFollows asks mid new → ReplicaFollows asks old new
replica_follows_on asks old mid new p q = record {
  site = site_follows_on old.site mid.site new.site p.site q.site;
  store = store_follows_on (HoldsBroken asks) old mid new q.site.1 p.store q.store p.site.1;
}

-- What of a replica no call of a session changes; and its states, also once it is broken, are those that it had, after
-- pushes of states in form
pub record SideFollows (old new : StoredSite) : Type 0 where
  pub site : SiteFollows old.site new.site
  pub store : StoreFollows HoldsPushed old new
  pub comes : ComesByPushes (λ _ _. Unit {0}) old.site.states new.site.states
  -- a stop leaves all that was taken, and of the pushes that were refused nothing, or what some of them were to change
  pub leaves : LeavesWhole ArePushes old new

pub side_follows_self : (stored : StoredSite) → SideFollows stored stored
side_follows_self stored = record {
  site = site_follows_self stored.site;
  store = store_follows_self stored;
  comes = no_pushes _ _ _ refl;
  leaves = leaves_self ArePushes stored tt;
}

pub side_follows_on : (old mid new : StoredSite) → SideFollows old mid → SideFollows mid new → SideFollows old new
side_follows_on old mid new p q = record {
  site = site_follows_on old.site mid.site new.site p.site q.site;
  store = store_follows_on HoldsPushed old mid new q.site.1 p.store q.store p.site.1;
  comes = more_pushes _ _ _ _ p.comes q.comes;
  leaves =
      leaves_on ArePushes old mid new p.leaves q.leaves p.site.1 q.site.1 p.store.sound q.store.sound q.store.clean
      p.store.holds q.store.shut;
}

-- a replica, as it is after that, may have refused so: as a site does, or the store did
abbrev pub ReplicaRefuses : SiteValue → Refusal → Type 0
ReplicaRefuses site refusal = SiteRefuses site refusal ⊎ ((refusal ≡ Store) × (site.broken ≡ false))
