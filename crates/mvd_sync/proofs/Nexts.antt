-- Keys that are exchanged after others.
use Rattle.std.proofs.Common.{◌≡◌, ℕ, List, [], ◌∷◌, ◌++◌, refl, sym, ap, subst, ◌∙◌, append_assoc}
use Rattle.std.specs.Prelude.{Option}
use Rattle.std.specs.FinMap.{get}
use Rattle.std.proofs.lemmas.List.{map-append}
use Rattle.mvd_keys.specs.Writes.{Key}
use Rattle.mvd_site.specs.Held.{States}
use Rattle.mvd_sync.proofs.Exchanges.{AreNext, Counts, IsNext, keys_next}
use Rattle.mvd_sync.specs.Exchanges.{Done, Exchanging, keys_done}
use Rattle.mvd_sync.specs.Session.{AreDistinct, is_member}
use Rattle.mvd_peer.specs.PushedStates.{Each}
use Rattle.mvd_peer.specs.Sides.{SideOf}
use Rattle.mvd_sync.specs.declared.cursor.Entry.{Entry}
use Rattle.mvd_sync.proofs.Descents.{Each-left, Each-right}
use Rattle.mvd_sync.proofs.Keys.{is_member-append, no_member, or_left}
use Rattle.mvd_sync.proofs.Nodes.{Each-append}
use Rattle.mvd_sync.proofs.Positions.{GoesOnBy, SoFarBy}

pub keys_done-append : (xs ys : List Done) → keys_done (xs ++ ys) ≡ keys_done xs ++ keys_done ys
keys_done-append xs ys = map-append (λ d. d.key) xs ys

pub keys_next-append : (xs ys : List Entry) → keys_next (xs ++ ys) ≡ keys_next xs ++ keys_next ys
keys_next-append xs ys = map-append (λ e. e.key) xs ys

-- ---- what was to be exchanged is done, or waits

module _ (done now : List Done) (next waiting more : List Entry) (is : keys_next next ≡ keys_done now ++ keys_next waiting) where
  -- more behind it are more behind those that wait
  pub next_is_more : keys_next (next ++ more) ≡ keys_done now ++ keys_next (waiting ++ more)
  next_is_more =
      keys_next-append next more ∙ ap (λ ks. ks ++ keys_next more) is ∙ append_assoc (keys_done now) (keys_next waiting) (keys_next more)
      ∙ ap (λ ks. keys_done now ++ ks) (sym (keys_next-append waiting more))

  -- and all keys are the same
  pub all_keys : keys_done (done ++ now) ++ keys_next (waiting ++ more) ≡ keys_done done ++ keys_next (next ++ more)
  all_keys =
      ap (λ ks. ks ++ keys_next (waiting ++ more)) (keys_done-append done now) ∙ append_assoc (keys_done done) (keys_done now) (keys_next (waiting ++ more))
      ∙ ap (λ ks. keys_done done ++ ks) (sym next_is_more)

  pub still_next : (a b : States) → Each (IsNext a b) waiting → AreNext a b done (next ++ more) → AreNext a b (done ++ now) (waiting ++ more)
  still_next a b waits all = record {
    distinct = subst AreDistinct (sym all_keys) all.distinct;
    each = Each-append (IsNext a b) waiting more waits (Each-right (IsNext a b) next more all.each);
  }

  pub were_next : (a b : States) → Each (IsNext a b) next → AreNext a b (done ++ now) (waiting ++ more) → AreNext a b done (next ++ more)
  were_next a b before all = record {
    distinct = subst AreDistinct all_keys all.distinct;
    each = Each-append (IsNext a b) next more before (Each-right (IsNext a b) waiting more all.each);
  }

-- the first of those that are next
distinct_front : (ks js : List Key) → AreDistinct (ks ++ js) → AreDistinct ks
distinct_front [] js d = tt
distinct_front (k ∷ ks) js d = (or_left (is_member ks k) (is_member js k) (sym (is_member-append ks js k) ∙ d.0), distinct_front ks js d.1)

pub first_next : (a b : States) (done : List Done) (next later : List Entry) → AreNext a b done (next ++ later) → AreNext a b done next
first_next a b done next later all = record {
  distinct = distinct_front (keys_done done ++ keys_next next) (keys_next later)
      (subst AreDistinct (ap (λ ks. keys_done done ++ ks) (keys_next-append next later) ∙ sym (append_assoc (keys_done done) (keys_next next) (keys_next later))) all.distinct);
  each = Each-left (IsNext a b) next later all.each;
}

-- ---- between two faithful sides

module _ {L P : Type 0} (l : SideOf L) (p : SideOf P) (number : Option ℕ) (a b : States) (done : List Done) (most_local most_peer : ℕ) where
  -- at the beginning all of them wait
  pub goes_from : (local : L) (peer : P) (e : Exchanging) → l.is_faithful local → p.is_faithful peer → SoFarBy most_local most_peer number a b (l.states local) (p.states peer) done → Counts done e → AreNext a b done e.waiting → GoesOnBy l p number a b done e.waiting local peer most_local most_peer e
  goes_from local peer e t u so counts next =
      let none : done ++ [] ≡ done = append-none done in
      record {
        now = [];
        is = refl;
        so_far = subst (SoFarBy most_local most_peer number a b (l.states local) (p.states peer)) (sym none) so;
        counts = subst (λ ds. Counts ds e) (sym none) counts;
        waits = subst (λ ds. AreNext a b ds e.waiting) (sym none) next;
        still = (t, u);
      }
    where
      append-none : {X : Type 0} (xs : List X) → xs ++ [] ≡ xs
      append-none [] = refl
      append-none (x ∷ xs) = ap (λ ys. x ∷ ys) (append-none xs)

  -- after more keys
  pub goes_further : (next more : List Entry) (local1 local2 : L) (peer1 peer2 : P) (at after : Exchanging) → (g : GoesOnBy l p number a b done next local1 peer1 most_local most_peer at)
      → GoesOnBy l p number a b (done ++ g.now) (at.waiting ++ more) local2 peer2 most_local most_peer after → GoesOnBy l p number a b done (next ++ more) local2 peer2 most_local most_peer after
  goes_further next more local1 local2 peer1 peer2 at after g h =
      let both : (done ++ g.now) ++ h.now ≡ done ++ (g.now ++ h.now) = append_assoc done g.now h.now in
      record {
        now = g.now ++ h.now;
        is =
            next_is_more done g.now next at.waiting more g.is ∙ ap (λ ks. keys_done g.now ++ ks) h.is
            ∙ sym (append_assoc (keys_done g.now) (keys_done h.now) (keys_next after.waiting)) ∙ ap (λ ks. ks ++ keys_next after.waiting) (sym (keys_done-append g.now h.now));
        so_far = subst (SoFarBy most_local most_peer number a b (l.states local2) (p.states peer2)) both h.so_far;
        counts = subst (λ ds. Counts ds after) both h.counts;
        waits = subst (λ ds. AreNext a b ds after.waiting) both h.waits;
        still = h.still;
      }

  -- after questions that change nothing
  pub goes_still : (next : List Entry) (local1 local2 : L) (peer1 peer2 : P) (at : Exchanging) → l.is_faithful local2 → l.states local2 ≡ l.states local1 → p.is_faithful peer2 → p.states peer2 ≡ p.states peer1
      → GoesOnBy l p number a b done next local1 peer1 most_local most_peer at → GoesOnBy l p number a b done next local2 peer2 most_local most_peer at
  goes_still next local1 local2 peer1 peer2 at t same u same' g = record {
    now = g.now;
    is = g.is;
    so_far = subst (λ m. SoFarBy most_local most_peer number a b m (p.states peer2) (done ++ g.now)) (sym same) (subst (λ n. SoFarBy most_local most_peer number a b (l.states local1) n (done ++ g.now)) (sym same') g.so_far);
    counts = g.counts;
    waits = g.waits;
    still = (t, u);
  }

  -- what is none of these keys is as it was
  pub untouched : (next : List Entry) (local' : L) (peer' : P) (at : Exchanging) (Apart : Key → Type 0) → GoesOnBy l p number a b done next local' peer' most_local most_peer at → Each Apart (keys_done done ++ keys_next next) → (q : Key) → (Apart q → ⊥) → (get (l.states local') q ≡ get a q) × (get (p.states peer') q ≡ get b q)
  untouched next local' peer' at Apart g each q never =
      let these : Each Apart (keys_done done) = Each-left Apart (keys_done done) (keys_next next) each in
      let those : Each Apart (keys_done g.now ++ keys_next at.waiting) = subst (Each Apart) g.is (Each-right Apart (keys_done done) (keys_next next) each) in
      let all : Each Apart (keys_done (done ++ g.now)) = subst (Each Apart) (sym (keys_done-append done g.now)) (Each-append Apart (keys_done done) (keys_done g.now) these (Each-left Apart (keys_done g.now) (keys_next at.waiting) those)) in
      g.so_far.rest q (no_member Apart (keys_done (done ++ g.now)) all q never)
