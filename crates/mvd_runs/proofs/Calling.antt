-- Calls one after the other: what they left undone, and what their records follow.
use Rattle.std.proofs.Common.{◌≡◌, false, List, [], ◌∷◌, ◌++◌, refl, sym, ap, ◌∙◌, subst, inl, inr, ⊎_elim, append_assoc, append-nil}
use Rattle.std.specs.List.{AllByRecursion}
use Rattle.mvd_wire.specs.declared.request.Request.{Request}
use Rattle.mvd_peer.specs.Sides.{site_follows_on, site_follows_self}
use Rattle.mvd_site.specs.Sites.{SiteValue}
use Rattle.mvd_replica.specs.Batch.{AreAmongTurns, Loses, TurnsFollow, lost_requests}
use Rattle.mvd_replica.specs.Replicas.{StoredSite}
use Rattle.mvd_replica.specs.Sides.{StoreFollows, store_follows_on, store_follows_self}
use Rattle.mvd_replica.specs.Turns.{AreUndoneIn, IsToldElse, Turn}
use Rattle.mvd_replica.specs.Whole.{LeavesWhole, leaves_on, leaves_self, leaves_wider}
use Rattle.sqlite.specs.Effect.{Database}
use Rattle.mvd_runs.specs.Calls.{AreUndoneAtOnce, CallsFollow, HoldsUndone, all_turns}

-- ---- the turns

pub turns_append : (first second : List (List Turn)) → all_turns (first ++ second) ≡ all_turns first ++ all_turns second
turns_append [] second = refl
turns_append (turns ∷ first) second = ap (λ ts. turns ++ ts) (turns_append first second) ∙ sym (append_assoc turns (all_turns first) (all_turns second))

pub turns_one : (turns : List Turn) → all_turns (turns ∷ []) ≡ turns
turns_one turns = append-nil turns

pub both : (P : Turn → Type 0) (first second : List Turn) → AllByRecursion P first → AllByRecursion P second → AllByRecursion P (first ++ second)
both P [] second one other = other
both P (turn ∷ first) second one other = (one.0, both P first second one.1 other)

pub front_of : (P : Turn → Type 0) (first second : List Turn) → AllByRecursion P (first ++ second) → AllByRecursion P first
front_of P [] second all = tt
front_of P (turn ∷ first) second all = (all.0, front_of P first second all.1)

pub back_of : (P : Turn → Type 0) (first second : List Turn) → AllByRecursion P (first ++ second) → AllByRecursion P second
back_of P [] second all = all
back_of P (turn ∷ first) second all = back_of P first second all.1

-- ---- what was lost was undone

undone_later : (front turns : List Turn) (requests : List Request) → AreUndoneIn turns requests → AreUndoneIn (front ++ turns) requests
undone_later [] turns requests h = h
undone_later (turn ∷ front) turns [] h = tt
undone_later (turn ∷ front) turns (request ∷ requests) h = inr (undone_later front turns (request ∷ requests) h)

undone_among : (turns : List Turn) (requests : List Request) → AreAmongTurns requests turns → AreUndoneIn turns requests
undone_among turns [] h = tt
undone_among [] (request ∷ requests) h = absurd h
undone_among (turn ∷ turns) (request ∷ requests) h = ⊎_elim
    (λ here. inl ((here.0.0, inr here.0.1), undone_among turns requests here.1))
    (λ later. inr (undone_among turns (request ∷ requests) later))
    h

lost_undone : (turns : List Turn) (site : SiteValue) (lost : Loses turns site) → AreUndoneIn turns (lost_requests lost)
lost_undone turns site lost = subst (λ ts. AreUndoneIn ts (lost_requests lost)) (sym lost.all)
    (undone_later lost.before (lost.broke ∷ lost.later) (lost_requests lost)
    (inl ((lost.asked.0, inr lost.asked.1), undone_among lost.later lost.rest lost.among)))

-- ---- at once

pub none_at_once : (calls : List (List Turn)) → AreUndoneAtOnce calls []
none_at_once [] = refl
none_at_once (turns ∷ calls) = inl tt

front_at_once : (first second : List (List Turn)) (requests : List Request) → AreUndoneAtOnce first requests → AreUndoneAtOnce (first ++ second) requests
front_at_once [] second requests none = subst (AreUndoneAtOnce second) (sym none) (none_at_once second)
front_at_once (turns ∷ first) second requests h = ⊎_elim (λ here. inl here) (λ later. inr (later.0, front_at_once first second requests later.1)) h

back_at_once : (first second : List (List Turn)) (requests : List Request) → AllByRecursion IsToldElse (all_turns first) → AreUndoneAtOnce second requests → AreUndoneAtOnce (first ++ second) requests
back_at_once [] second requests told h = h
back_at_once (turns ∷ first) second requests told h =
    inr (front_of IsToldElse turns (all_turns first) told, back_at_once first second requests (back_of IsToldElse turns (all_turns first) told) h)

-- ---- where the site was not broken before

store_where : (A B : SiteValue → Database → Type 0) (old new : StoredSite) → (old.site.broken ≡ false → (site : SiteValue) (db : Database) → A site db → B site db) → StoreFollows A old new → StoreFollows B old new
store_where A B old new widens it = record {
  sound = it.sound;
  holds = it.holds;
  stays = it.stays;
  stored = λ sound holds whole broken. widens whole new.site new.store.committed (it.stored sound holds whole broken);
  clean = it.clean;
  shut = it.shut;
}

leaves_where : (A B : List Request → Type 0) (old new : StoredSite) → (old.site.broken ≡ false → (requests : List Request) → A requests → B requests) → LeavesWhole A old new → LeavesWhole B old new
leaves_where A B old new widens it = record {
  fits = it.fits;
  leaves = λ clean rest trees may. (
      let left = it.leaves clean rest trees may in
      record { undone = left.undone; are = widens rest.whole left.undone left.are; left = left.left; none = left.none });
  still = it.still;
}

-- ---- none, one, and one after the other

pub calls_none : (stored : StoredSite) → CallsFollow [] stored stored
calls_none stored = record { site = site_follows_self stored.site; store = store_follows_self stored; leaves = leaves_self (AreUndoneAtOnce []) stored refl }

pub calls_one : (turns : List Turn) (old new : StoredSite) → TurnsFollow turns old new → CallsFollow (turns ∷ []) old new
calls_one turns old new it = record {
  site = (it.config, it.still);
  store = record {
    sound = it.sound;
    holds = it.holds;
    stays = it.stays;
    stored = λ sound holds whole broken. (
        let more = it.stored sound holds whole broken in
        record { some = lost_requests more.lost; undone = inl (lost_undone turns new.site more.lost); holds = more.holds });
    clean = it.clean;
    shut = it.shut;
  };
  leaves = leaves_wider (AreUndoneIn turns) (AreUndoneAtOnce (turns ∷ [])) old new (λ requests h. inl h) it.leaves;
}

module _ (first second : List (List Turn)) (old mid new : StoredSite) (p : CallsFollow first old mid) (q : CallsFollow second mid new) (told : mid.site.broken ≡ false → AllByRecursion IsToldElse (all_turns first)) where
  front_held : (site : SiteValue) (db : Database) → HoldsUndone first site db → HoldsUndone (first ++ second) site db
  front_held site db it = record { some = it.some; undone = front_at_once first second it.some it.undone; holds = it.holds }

  back_held : mid.site.broken ≡ false → (site : SiteValue) (db : Database) → HoldsUndone second site db → HoldsUndone (first ++ second) site db
  back_held whole site db it = record { some = it.some; undone = back_at_once first second it.some (told whole) it.undone; holds = it.holds }

  pub calls_append : CallsFollow (first ++ second) old new
  calls_append = record {
    site = site_follows_on old.site mid.site new.site p.site q.site;
    store = store_follows_on (HoldsUndone (first ++ second)) old mid new q.site.1
        (store_where (HoldsUndone first) (HoldsUndone (first ++ second)) old mid (λ _. front_held) p.store)
        (store_where (HoldsUndone second) (HoldsUndone (first ++ second)) mid new back_held q.store) p.site.1;
    leaves = leaves_on (AreUndoneAtOnce (first ++ second)) old mid new
        (leaves_wider (AreUndoneAtOnce first) (AreUndoneAtOnce (first ++ second)) old mid (front_at_once first second) p.leaves)
        (leaves_where (AreUndoneAtOnce second) (AreUndoneAtOnce (first ++ second)) mid new (λ whole requests. back_at_once first second requests (told whole)) q.leaves)
        p.site.1 q.site.1 p.store.sound q.store.sound q.store.clean p.store.holds q.store.shut;
  }
