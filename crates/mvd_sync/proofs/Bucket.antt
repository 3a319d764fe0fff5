-- One key after the other of a bucket, between two sides.
use Rattle.std.proofs.Common.{◌≡◌, ℕ, ◌+◌, ◌*◌, ◌<◌, ◌≤◌, true, false, cond, ◌||◌, List, [], ◌∷◌, ◌++◌, length, refl, sym, ap, subst, ◌∙◌, arith, Some, None, Option, length-append, append_assoc}
use Rattle.std.specs.Prelude.{IsTrue, Result, Ok, Err}
use Rattle.std.specs.FinMap.{get}
use Rattle.std.proofs.lemmas.List.{append-nil}
use Rattle.mvd_keys.specs.Writes.{Key}
use Rattle.mvd_site.specs.Answer.{digests}
use Rattle.mvd_site.specs.Held.{States}
use Rattle.mvd_tree.specs.HashTree.{is_under}
use Rattle.mvd_tree.specs.Page.{is_after}
use Rattle.mvd_sync.proofs.Readings.{with_left}
use Rattle.mvd_sync.proofs.Readings.{IsBucketPage}
use Rattle.mvd_sync.specs.Answers.{ListingValue, TakesLesser}
use Rattle.mvd_sync.proofs.Buckets.{AreElsewhere, ArePages, held_in, waits_if}
use Rattle.mvd_sync.proofs.Exchanges.{AreNext, Counts, keys_next}
use Rattle.mvd_sync.specs.Exchanges.{Done, Exchanging, keys_done}
use Rattle.mvd_sync.proofs.Walk.{has_below}
use Rattle.mvd_peer.specs.PushedStates.{Each}
use Rattle.mvd_peer.specs.Sides.{SideOf, two}
use Rattle.mvd_sync.proofs.Walk.{ReadsSide}
use Rattle.mvd_sync.specs.declared.cursor.Entry.{Entry}
use Rattle.mvd_sync.specs.declared.asking.Questions.{Questions}
use Rattle.mvd_sync.specs.declared.report.SyncFault.{SyncFault}
use Rattle.mvd_sync.proofs.Descents.{Each-left}
use Rattle.mvd_sync.proofs.Going.{goes_nowhere, goes_of_end, goes_of_exchange, goes_of_reads, goes_on}
use Rattle.mvd_sync.proofs.Gone.{Gone, IsPast, counted_fill, counted_more, gone_begins, gone_ends, gone_next, held_at, page_same, past_all}
use Rattle.mvd_sync.proofs.Joined.{joins_some}
use Rattle.mvd_sync.proofs.Keys.{Each-weaker, or_left}
use Rattle.mvd_sync.proofs.Nexts.{goes_from, goes_further, goes_still, still_next, untouched}
use Rattle.mvd_sync.proofs.Positions.{ExchangesBy, FillEndsBy, FillsBothBy, FindsBy, GoesBy, GoesOnBy, GoesThroughBy, ReadsEndBy, SettlesAllBy, SettlesBy, SoFarBy}

-- ---- a key is settled

module _ {L P : Type 0} (l : SideOf L) (p : SideOf P) where
  pub settles_by_exchange : (e : Entry) (left left' : Questions) (local local' : L) (peer peer' : P) (before after : Exchanging) (result : Result (Unit {0}) SyncFault) → e.differs ≡ true → length before.waiting < 1000
      → ExchangesBy l p (before.waiting ++ e ∷ []) left left' local local' peer peer' before after result → SettlesBy l p e left left' local local' peer peer' before after result
  unfolding goes_of_exchange
  settles_by_exchange e left left' local local' peer peer' before after result sure low x =
      let one : e ∷ [] ≡ waits_if e = sym (ap (λ b. cond b (e ∷ []) []) sure) in
      let n = length-append before.waiting (e ∷ []) in
      record {
        goes = goes_of_exchange l p (before.waiting ++ e ∷ []) left left' local local' peer peer' before after result (omega (arith, n)) x;
        meets = λ t u a b done so counts next. subst (λ es. SettlesAllBy l p before.number a b done (before.waiting ++ es) (x.course.asked_local + x.course.wanted_local) (x.course.asked_peer + x.course.wanted_peer) local' peer' (l.most_keys local) (p.most_keys peer) after result) one (record {
          few = x.few;
          fewer = x.fewer;
          ends = x.meets t u a b done so counts (subst (λ es. AreNext a b done (before.waiting ++ es)) (sym one) next);
        });
      }

  pub settles_nothing : (self : (s : L) → l.follows 0 s s) (self' : (s : P) → p.follows 0 s s) (e : Entry) (left : Questions) (local : L) (peer : P) (before : Exchanging) → e.differs ≡ false → SettlesBy l p e left left local local peer peer before before (Ok (tt {0}))
  unfolding goes_nowhere goes_of_reads
  settles_nothing self self' e left local peer before never =
      let none : [] ≡ waits_if e = sym (ap (λ b. cond b (e ∷ []) []) never) in
      let n = length-append before.waiting [] in
      record {
        goes = goes_nowhere l p self self' (tt {0}) left local peer before;
        meets = λ t u a b done so counts next. subst (λ es. SettlesAllBy l p before.number a b done (before.waiting ++ es) (0 + 0) (0 + 0) local peer (l.most_keys local) (p.most_keys peer) before (Ok (tt {0}))) none (record {
          few = (omega arith, omega arith);
          fewer = (omega (arith, n), omega (arith, n));
          ends = subst (λ es. GoesOnBy l p before.number a b done es local peer (l.most_keys local) (p.most_keys peer) before) (sym (append-nil before.waiting))
              (goes_from l p before.number a b done (l.most_keys local) (p.most_keys peer) local peer before t u so counts (subst (AreNext a b done) (ap (λ es. before.waiting ++ es) (sym none) ∙ append-nil before.waiting) next));
        });
      }

-- ---- how far a bucket is gone over

-- between two faithful sides
pub record AtKey {L P : Type 0} (l : SideOf L) (p : SideOf P) (number : Option ℕ) (a b : States) (done : List Done) (path : List ℕ) (mine theirs : ListingValue) (asked_l asked_p : ℕ) (local' : L) (peer' : P) (most_local most_peer : ℕ) (before after : Exchanging) : Type 0 where
  pub upto : Option (List ℕ)
  pub found : List Entry
  pub pages_local : ℕ
  pub pages_peer : ℕ
  pub gone : Gone a b done before.waiting path upto mine theirs found pages_local pages_peer
  pub goes_on : GoesOnBy l p number a b done (before.waiting ++ found) local' peer' most_local most_peer after
  pub fewer : (asked_l + 2 * length after.waiting ≤ pages_local + 2 * length (before.waiting ++ found)) × (asked_p + 2 * length after.waiting ≤ pages_peer + 2 * length (before.waiting ++ found))

-- and of any two sides
pub record OverBucket {L P : Type 0} (l : SideOf L) (p : SideOf P) (path : List ℕ) (first second mine theirs : ListingValue) (left left' : Questions) (local local' : L) (peer peer' : P) (before after : Exchanging) : Type 0 where
  pub goes : GoesBy l p left left' local local' peer peer' before after (Ok (tt {0}))
  pub meets : l.is_faithful local → p.is_faithful peer → (a b : States) (done : List Done) → SoFarBy (l.most_keys local) (p.most_keys peer) before.number a b (l.states local) (p.states peer) done → Counts done before
      → AreNext a b done before.waiting → AreElsewhere (path ∷ []) (keys_done done ++ keys_next before.waiting) → IsBucketPage (digests a) path None first.0 first.1 → IsBucketPage (digests b) path None second.0 second.1
      → AtKey l p before.number a b done path mine theirs goes.course.asked_local goes.course.asked_peer local' peer' (l.most_keys local) (p.most_keys peer) before after

not_under : (path : List ℕ) (keys : List Key) → AreElsewhere (path ∷ []) keys → Each (λ key. is_under path key ≡ false) keys
not_under path keys h = Each-weaker (λ key. has_below (path ∷ []) key ≡ false) (λ key. is_under path key ≡ false) (λ key none. or_left (is_under path key) false none) keys h

pub below_one : (path : List ℕ) (upto : Option (List ℕ)) (found : List Entry) → Each (λ e. IsTrue (is_under path e.key) × (is_after upto e.key ≡ false)) found → Each (λ e. IsTrue (has_below (path ∷ []) e.key)) found
below_one path upto found h = Each-weaker (λ e. IsTrue (is_under path e.key) × (is_after upto e.key ≡ false)) (λ e. IsTrue (has_below (path ∷ []) e.key)) (λ e at. ap (λ b. b || false) at.0) found h

under_one : (path : List ℕ) (key : Key) → IsTrue (has_below (path ∷ []) key) → IsTrue (is_under path key)
under_one path key h = elim (is_under path key) as (λ b. (b || false) ≡ true → b ≡ true) [ true ↦ λ _. refl | false ↦ λ e. e ] h

one_held : (a : States) (path : List ℕ) (n : ℕ) → n ≤ held_at a path → n ≤ held_in a (path ∷ [])
one_held a path n h = omega (arith, h)

-- the filled listings, and what was exchanged before them
pub record Filled {L P : Type 0} (l : SideOf L) (p : SideOf P) (number : Option ℕ) (a b : States) (done : List Done) (path : List ℕ) (mine theirs : ListingValue) (e : Entry) (asked_l asked_p : ℕ) (local' : L) (peer' : P) (most_local most_peer : ℕ) (before at : Exchanging) : Type 0 where
  pub found : List Entry
  pub pages_local : ℕ
  pub pages_peer : ℕ
  pub gone : Gone a b done before.waiting path (Some e.key) mine theirs (found ++ waits_if e) pages_local pages_peer
  pub goes_on : GoesOnBy l p number a b done (before.waiting ++ found) local' peer' most_local most_peer at
  pub fewer : (asked_l + 2 * length at.waiting ≤ pages_local + 2 * length (before.waiting ++ found)) × (asked_p + 2 * length at.waiting ≤ pages_peer + 2 * length (before.waiting ++ found))

module _ {L P : Type 0} (l : SideOf L) (p : SideOf P) (number : Option ℕ) (a b : States) (done : List Done) (path : List ℕ) (mine theirs mine1 theirs1 mine2 theirs2 : ListingValue) (asked_l asked_p : ℕ) (local1 local2 : L) (peer1 peer2 : P) (most_local most_peer : ℕ) (before at : Exchanging)
    (here : AtKey l p number a b done path mine theirs asked_l asked_p local1 peer1 most_local most_peer before at)
    (mine_more : mine.0 ≡ [] → mine.1 ≡ false) (theirs_more : theirs.0 ≡ [] → theirs.1 ≡ false)
    (elsewhere : AreElsewhere (path ∷ []) (keys_done done ++ keys_next before.waiting))
    (e : Entry) (takes : TakesLesser (two mine.0 theirs.0) e (two mine1.0 theirs1.0)) (same_more : (mine1.1 ≡ mine.1) × (theirs1.1 ≡ theirs.1)) where
  taken : Gone a b done before.waiting path (Some e.key) mine1 theirs1 (here.found ++ waits_if e) here.pages_local here.pages_peer
  taken = gone_next a b done before.waiting path here.upto mine theirs here.found here.pages_local here.pages_peer here.gone mine_more theirs_more (not_under path (keys_done done ++ keys_next before.waiting) elsewhere) e mine1 theirs1 takes same_more.0 same_more.1

  -- what is left of the bucket is as it was
  as_before : (q : Key) → IsTrue (is_under path q) → is_after (Some e.key) q ≡ true → (get (l.states local1) q ≡ get a q) × (get (p.states peer1) q ≡ get b q)
  as_before q u h =
      let Past : Entry → Type 0 = λ x. IsTrue (is_under path x.key) × (is_after (Some e.key) x.key ≡ false) in
      untouched l p number a b done most_local most_peer (before.waiting ++ here.found) local1 peer1 at (IsPast path (Some e.key)) here.goes_on
      (past_all done before.waiting here.found path (Some e.key) (not_under path (keys_done done ++ keys_next before.waiting) elsewhere) (Each-left Past here.found (waits_if e) taken.below))
      q (λ past. past u h)

  pub filled : (left left' : Questions) → (f : FillsBothBy l p path (Some e.key) mine1 mine2 theirs1 theirs2 left left' local1 local2 peer1 peer2) → Filled l p number a b done path mine2 theirs2 e (asked_l + f.local_side.asked) (asked_p + f.peer_side.asked) local2 peer2 most_local most_peer before at
  filled left left' f =
      let t = here.goes_on.still in
      let k = f.local_side.kept t.0 in
      let j = f.peer_side.kept t.1 in
      record {
        found = here.found;
        pages_local = here.pages_local + f.local_side.asked;
        pages_peer = here.pages_peer + f.peer_side.asked;
        gone = record {
          first = counted_fill a path (Some e.key) mine1 mine2 here.pages_local f.local_side.asked taken.first f.local_side.one f.local_side.needed f.local_side.same (λ some. page_same a (l.states local1) path (Some e.key) mine2.0 mine2.1 (λ q u h. (as_before q u h).0) (f.local_side.page t.0 some));
          second = counted_fill b path (Some e.key) theirs1 theirs2 here.pages_peer f.peer_side.asked taken.second f.peer_side.one f.peer_side.needed f.peer_side.same (λ some. page_same b (p.states peer1) path (Some e.key) theirs2.0 theirs2.1 (λ q u h. (as_before q u h).1) (f.peer_side.page t.1 some));
          below = taken.below;
          next = taken.next;
          all = taken.all;
        };
        goes_on = goes_still l p number a b done most_local most_peer (before.waiting ++ here.found) local1 local2 peer1 peer2 at k.still k.states j.still j.states here.goes_on;
        fewer = let n = here.fewer in (omega (arith, n.0), omega (arith, n.1));
      }

  -- one of the listings was not filled
  pub unfilled : {A : Type 0} (left : Questions) (fault : SyncFault) → (f : FillEndsBy l p mine1 theirs1 left local1 local2 peer1 peer2 fault)
      → FindsBy {A = A} l p number a b done (path ∷ []) 0 ((asked_l + f.ends.asked_local) + f.ends.wanted_local) ((asked_p + f.ends.asked_peer) + f.ends.wanted_peer) local2 peer2 most_local most_peer before at (Err fault)
  unfilled left fault f =
      let t = here.goes_on.still in
      let k = f.ends.kept_local t.0 in
      let j = f.ends.kept_peer t.1 in
      let g = goes_still l p number a b done most_local most_peer (before.waiting ++ here.found) local1 local2 peer1 peer2 at k.still k.states j.still j.states here.goes_on in
      record {
        found = here.found;
        below = below_one path here.upto here.found here.gone.below;
        all = tt;
        next = here.gone.next;
        pages_local = here.pages_local + (f.ends.asked_local + f.ends.wanted_local);
        pages_peer = here.pages_peer + (f.ends.asked_peer + f.ends.wanted_peer);
        pages = (
          one_held a path (1000 * (here.pages_local + (f.ends.asked_local + f.ends.wanted_local))) (counted_more a path (Some e.key) mine1 here.pages_local (f.ends.asked_local + f.ends.wanted_local) taken.first f.ends.few.0 f.needed.0),
          one_held b path (1000 * (here.pages_peer + (f.ends.asked_peer + f.ends.wanted_peer))) (counted_more b path (Some e.key) theirs1 here.pages_peer (f.ends.asked_peer + f.ends.wanted_peer) taken.second f.ends.few.1 f.needed.1),
        );
        few = let n = here.fewer in (omega (arith, n.0), omega (arith, n.1));
        ends = joins_some most_local most_peer a b (l.states local2) (p.states peer2) number (l.is_faithful local2) (p.is_faithful peer2) (done ++ g.now) g.so_far;
      }

-- ---- the key is settled

module _ {L P : Type 0} (l : SideOf L) (p : SideOf P)
    (stays : (n : ℕ) (old new : L) → l.follows n old new → l.most_keys new ≡ l.most_keys old)
    (stays' : (n : ℕ) (old new : P) → p.follows n old new → p.most_keys new ≡ p.most_keys old)
    (a b : States) (done : List Done) (path : List ℕ) (mine theirs : ListingValue) (e : Entry) (asked_l asked_p : ℕ) (local local2 local3 : L) (peer peer2 peer3 : P) (n m : ℕ) (before at after : Exchanging)
    (follows : l.follows n local local2 × p.follows m peer peer2) (same : at.number ≡ before.number)
    (f : Filled l p before.number a b done path mine theirs e asked_l asked_p local2 peer2 (l.most_keys local) (p.most_keys peer) before at)
    (left left' : Questions) {A : Type 0} (result : Result A SyncFault) (s : SettlesBy l p e left left' local2 local3 peer2 peer3 at after result) where
  same_local : l.most_keys local2 ≡ l.most_keys local
  same_local = stays n local local2 follows.0

  same_peer : p.most_keys peer2 ≡ p.most_keys peer
  same_peer = stays' m peer peer2 follows.1

  pub settled : SettlesAllBy l p before.number a b (done ++ f.goes_on.now) (at.waiting ++ waits_if e) (s.goes.course.asked_local + s.goes.course.wanted_local) (s.goes.course.asked_peer + s.goes.course.wanted_peer) local3 peer3 (l.most_keys local) (p.most_keys peer) after result
  settled =
      let g = f.goes_on in
      let t = g.still in
      let next : AreNext a b done ((before.waiting ++ f.found) ++ waits_if e) = subst (AreNext a b done) (sym (append_assoc before.waiting f.found (waits_if e))) f.gone.next in
      let so : SoFarBy (l.most_keys local2) (p.most_keys peer2) at.number a b (l.states local2) (p.states peer2) (done ++ g.now) =
      subst (λ o. SoFarBy (l.most_keys local2) (p.most_keys peer2) o a b (l.states local2) (p.states peer2) (done ++ g.now)) (sym same)
      (subst (λ i. SoFarBy i (p.most_keys peer2) before.number a b (l.states local2) (p.states peer2) (done ++ g.now)) (sym same_local)
      (subst (λ j. SoFarBy (l.most_keys local) j before.number a b (l.states local2) (p.states peer2) (done ++ g.now)) (sym same_peer) g.so_far)) in
      let all = s.meets t.0 t.1 a b (done ++ g.now) so g.counts (still_next done g.now (before.waiting ++ f.found) at.waiting (waits_if e) g.is a b g.waits.each next) in
      subst (λ o. SettlesAllBy l p o a b (done ++ g.now) (at.waiting ++ waits_if e) (s.goes.course.asked_local + s.goes.course.wanted_local) (s.goes.course.asked_peer + s.goes.course.wanted_peer) local3 peer3 (l.most_keys local) (p.most_keys peer) after result) same
      (subst (λ i. SettlesAllBy l p at.number a b (done ++ g.now) (at.waiting ++ waits_if e) (s.goes.course.asked_local + s.goes.course.wanted_local) (s.goes.course.asked_peer + s.goes.course.wanted_peer) local3 peer3 i (p.most_keys peer) after result) same_local
      (subst (λ j. SettlesAllBy l p at.number a b (done ++ g.now) (at.waiting ++ waits_if e) (s.goes.course.asked_local + s.goes.course.wanted_local) (s.goes.course.asked_peer + s.goes.course.wanted_peer) local3 peer3 (l.most_keys local2) j after result) same_peer all))

  lengths : (length (before.waiting ++ (f.found ++ waits_if e)) ≡ length (before.waiting ++ f.found) + length (waits_if e)) × (length (at.waiting ++ waits_if e) ≡ length at.waiting + length (waits_if e))
  lengths = (
    ap length (sym (append_assoc before.waiting f.found (waits_if e))) ∙ length-append (before.waiting ++ f.found) (waits_if e),
    length-append at.waiting (waits_if e),
  )

  few_settled : ((asked_l + s.goes.course.asked_local) + s.goes.course.wanted_local ≤ f.pages_local + 2 * length (before.waiting ++ (f.found ++ waits_if e))) × ((asked_p + s.goes.course.asked_peer) + s.goes.course.wanted_peer ≤ f.pages_peer + 2 * length (before.waiting ++ (f.found ++ waits_if e)))
  few_settled =
      let k = lengths in
      let x = f.fewer in
      let y = settled.few in
      (omega (arith, k.0, k.1, x.0, y.0), omega (arith, k.0, k.1, x.1, y.1))

module _ {L P : Type 0} (l : SideOf L) (p : SideOf P)
    (stays : (n : ℕ) (old new : L) → l.follows n old new → l.most_keys new ≡ l.most_keys old)
    (stays' : (n : ℕ) (old new : P) → p.follows n old new → p.most_keys new ≡ p.most_keys old)
    (a b : States) (done : List Done) (path : List ℕ) (mine theirs : ListingValue) (e : Entry) (asked_l asked_p : ℕ) (local local2 local3 : L) (peer peer2 peer3 : P) (n m : ℕ) (before at after : Exchanging)
    (follows : l.follows n local local2 × p.follows m peer peer2) (same : at.number ≡ before.number)
    (f : Filled l p before.number a b done path mine theirs e asked_l asked_p local2 peer2 (l.most_keys local) (p.most_keys peer) before at)
    (left left' : Questions) where
  pub settled_on : (s : SettlesBy l p e left left' local2 local3 peer2 peer3 at after (Ok (tt {0}))) → AtKey l p before.number a b done path mine theirs (asked_l + s.goes.course.asked_local) (asked_p + s.goes.course.asked_peer) local3 peer3 (l.most_keys local) (p.most_keys peer) before after
  settled_on s =
      let all = settled l p stays stays' a b done path mine theirs e asked_l asked_p local local2 local3 peer peer2 peer3 n m before at after follows same f left left' (Ok (tt {0})) s in
      let k = lengths l p stays stays' a b done path mine theirs e asked_l asked_p local local2 local3 peer peer2 peer3 n m before at after follows same f left left' (Ok (tt {0})) s in
      record {
        upto = Some e.key;
        found = f.found ++ waits_if e;
        pages_local = f.pages_local;
        pages_peer = f.pages_peer;
        gone = f.gone;
        goes_on = subst (λ es. GoesOnBy l p before.number a b done es local3 peer3 (l.most_keys local) (p.most_keys peer) after) (append_assoc before.waiting f.found (waits_if e))
            (goes_further l p before.number a b done (l.most_keys local) (p.most_keys peer) (before.waiting ++ f.found) (waits_if e) local2 local3 peer2 peer3 at after f.goes_on all.ends);
        fewer = let x = f.fewer in let y = all.fewer in (omega (arith, k.0, k.1, x.0, y.0), omega (arith, k.0, k.1, x.1, y.1));
      }

  pub settled_ends : (fault : SyncFault) → (s : SettlesBy {A = Unit {0}} l p e left left' local2 local3 peer2 peer3 at after (Err fault))
      → FindsBy {A = Unit {0}} l p before.number a b done (path ∷ []) 0 ((asked_l + s.goes.course.asked_local) + s.goes.course.wanted_local) ((asked_p + s.goes.course.asked_peer) + s.goes.course.wanted_peer) local3 peer3 (l.most_keys local) (p.most_keys peer) before after (Err fault)
  settled_ends fault s =
      let all = settled l p stays stays' a b done path mine theirs e asked_l asked_p local local2 local3 peer peer2 peer3 n m before at after follows same f left left' {A = Unit {0}} (Err fault) s in
      let few = few_settled l p stays stays' a b done path mine theirs e asked_l asked_p local local2 local3 peer peer2 peer3 n m before at after follows same f left left' {A = Unit {0}} (Err fault) s in
      record {
        found = f.found ++ waits_if e;
        below = below_one path (Some e.key) (f.found ++ waits_if e) f.gone.below;
        all = tt;
        next = f.gone.next;
        pages_local = f.pages_local;
        pages_peer = f.pages_peer;
        pages = (one_held a path (1000 * f.pages_local) f.gone.first.many, one_held b path (1000 * f.pages_peer) f.gone.second.many);
        few = (omega (arith, few.0), omega (arith, few.1));
        ends = all.ends;
      }

-- ---- the bucket

module _ {L P : Type 0} (l : SideOf L) (p : SideOf P) (path : List ℕ) (first second : ListingValue) where
  pub over_begins : (self : (s : L) → l.follows 0 s s) (self' : (s : P) → p.follows 0 s s) (left : Questions) (local : L) (peer : P) (before : Exchanging) → OverBucket l p path first second first second left left local local peer peer before before
  unfolding goes_nowhere goes_of_reads
  over_begins self self' left local peer before = record {
    goes = goes_nowhere l p self self' (tt {0}) left local peer before;
    meets = λ t u a b done so counts next elsewhere mine theirs. record {
      upto = None;
      found = [];
      pages_local = 0;
      pages_peer = 0;
      gone = gone_begins a b done before.waiting path first second next mine theirs;
      goes_on = subst (λ es. GoesOnBy l p before.number a b done es local peer (l.most_keys local) (p.most_keys peer) before) (sym (append-nil before.waiting)) (goes_from l p before.number a b done (l.most_keys local) (p.most_keys peer) local peer before t u so counts next);
      fewer = let n = length-append before.waiting [] in (omega (arith, n), omega (arith, n));
    };
  }

  module _ (on : (m n : ℕ) (old mid new : L) → l.follows m old mid → l.follows n mid new → l.follows (m + n) old new)
      (on' : (m n : ℕ) (old mid new : P) → p.follows m old mid → p.follows n mid new → p.follows (m + n) old new)
      (mine theirs : ListingValue) (left left1 : Questions) (local local1 : L) (peer peer1 : P) (before at : Exchanging)
      (over : OverBucket l p path first second mine theirs left left1 local local1 peer peer1 before at)
      (mine_more : mine.0 ≡ [] → mine.1 ≡ false) (theirs_more : theirs.0 ≡ [] → theirs.1 ≡ false) where
    -- no key is left
    pub over_ends : mine.0 ≡ [] → theirs.0 ≡ [] → GoesThroughBy l p (λ a b. ArePages (digests a) (path ∷ []) (first ∷ []) × ArePages (digests b) (path ∷ []) (second ∷ [])) (path ∷ []) 0 left left1 local local1 peer peer1 before at (Ok (tt {0}))
    over_ends none none' = record {
      goes = over.goes;
      meets = λ t u distinct long a b done so counts next elsewhere told.
          let here = over.meets t u a b done so counts next elsewhere told.0.0 told.1.0 in
          let calm = over.goes.calm in
          record {
            found = here.found;
            below = below_one path here.upto here.found here.gone.below;
            all = λ key u differ. gone_ends a b done before.waiting path here.upto mine theirs here.found here.pages_local here.pages_peer here.gone mine_more theirs_more none none' key (under_one path key u) differ;
            next = here.gone.next;
            pages_local = here.pages_local;
            pages_peer = here.pages_peer;
            pages = (one_held a path (1000 * here.pages_local) here.gone.first.many, one_held b path (1000 * here.pages_peer) here.gone.second.many);
            few = let n = here.fewer in (omega (arith, n.0, calm.0), omega (arith, n.1, calm.1));
            ends = record {
              goes_on = here.goes_on;
              fewer = let n = here.fewer in (omega (arith, n.0, calm.0), omega (arith, n.1, calm.1));
            };
          };
    }

    -- the walk stops without a question
    pub over_stops : (left2 : Questions) (fault : SyncFault) → ReadsEndBy l p (λ asked. asked ≤ 0) left1 local1 local1 peer1 peer1 fault
        → GoesThroughBy {A = Unit {0}} l p (λ a b. ArePages (digests a) (path ∷ []) (first ∷ []) × ArePages (digests b) (path ∷ []) (second ∷ [])) (path ∷ []) 0 left left2 local local1 peer peer1 before at (Err fault)
    unfolding goes_on goes_of_end
    over_stops left2 fault r = record {
      goes = goes_on l p on on' left left1 left2 local local1 local1 peer peer1 peer1 before at at (tt {0}) (Err fault) over.goes (goes_of_end l p (λ asked. asked ≤ 0) left1 left2 local1 local1 peer1 peer1 at fault r);
      meets = λ t u distinct long a b done so counts next elsewhere told.
          let here = over.meets t u a b done so counts next elsewhere told.0.0 told.1.0 in
          let few = r.few in
          record {
            found = here.found;
            below = below_one path here.upto here.found here.gone.below;
            all = tt;
            next = here.gone.next;
            pages_local = here.pages_local;
            pages_peer = here.pages_peer;
            pages = (one_held a path (1000 * here.pages_local) here.gone.first.many, one_held b path (1000 * here.pages_peer) here.gone.second.many);
            few = let n = here.fewer in (omega (arith, n.0, few.0), omega (arith, n.1, few.1));
            ends = joins_some (l.most_keys local) (p.most_keys peer) a b (l.states local1) (p.states peer1) before.number (l.is_faithful local1) (p.is_faithful peer1) (done ++ here.goes_on.now) here.goes_on.so_far;
          };
    }

    module _ (e : Entry) (mine1 theirs1 : ListingValue) (takes : TakesLesser (two mine.0 theirs.0) e (two mine1.0 theirs1.0)) (same_more : (mine1.1 ≡ mine.1) × (theirs1.1 ≡ theirs.1)) where
      pub over_unfilled : (left2 : Questions) (local2 : L) (peer2 : P) (fault : SyncFault) → FillEndsBy l p mine1 theirs1 left1 local1 local2 peer1 peer2 fault
          → GoesThroughBy {A = Unit {0}} l p (λ a b. ArePages (digests a) (path ∷ []) (first ∷ []) × ArePages (digests b) (path ∷ []) (second ∷ [])) (path ∷ []) 0 left left2 local local2 peer peer2 before at (Err fault)
      unfolding goes_on goes_of_end
      over_unfilled left2 local2 peer2 fault f = record {
        goes = goes_on l p on on' left left1 left2 local local1 local2 peer peer1 peer2 before at at (tt {0}) (Err fault) over.goes (goes_of_end l p (λ asked. asked ≤ 1) left1 left2 local1 local2 peer1 peer2 at fault f.ends);
        meets = λ t u distinct long a b done so counts next elsewhere told.
            let here = over.meets t u a b done so counts next elsewhere told.0.0 told.1.0 in
            unfilled l p before.number a b done path mine theirs mine1 theirs1 mine1 theirs1 over.goes.course.asked_local over.goes.course.asked_peer local1 local2 peer1 peer2 (l.most_keys local) (p.most_keys peer) before at here mine_more theirs_more elsewhere e takes same_more left1 fault f;
      }

      module _ (stays : (n : ℕ) (old new : L) → l.follows n old new → l.most_keys new ≡ l.most_keys old)
          (stays' : (n : ℕ) (old new : P) → p.follows n old new → p.most_keys new ≡ p.most_keys old)
          (mine2 theirs2 : ListingValue) (left2 left3 : Questions) (local2 local3 : L) (peer2 peer3 : P) (after : Exchanging)
          (f : FillsBothBy l p path (Some e.key) mine1 mine2 theirs1 theirs2 left1 left2 local1 local2 peer1 peer2) where
        reads_local : ReadsSide l f.local_side.asked (with_left local1 left1.local) (with_left local2 left2.local)
        reads_local = record { spent = f.local_side.spent; follows = f.local_side.follows; kept = f.local_side.kept }

        reads_peer : ReadsSide p f.peer_side.asked (with_left peer1 left1.peer) (with_left peer2 left2.peer)
        reads_peer = record { spent = f.peer_side.spent; follows = f.peer_side.follows; kept = f.peer_side.kept }

        -- with the questions that filled them
        unfoldable pub goes_filled : GoesBy l p left left2 local local2 peer peer2 before at (Ok (tt {0}))
        unfolding reads_local reads_peer
        goes_filled = goes_on l p on on' left left1 left2 local local1 local2 peer peer1 peer2 before at at (tt {0}) (Ok (tt {0})) over.goes (goes_of_reads l p (tt {0}) f.local_side.asked f.peer_side.asked left1 left2 local1 local2 peer1 peer2 at reads_local reads_peer)

        pub over_settles : SettlesBy l p e left2 left3 local2 local3 peer2 peer3 at after (Ok (tt {0})) → OverBucket l p path first second mine2 theirs2 left left3 local local3 peer peer3 before after
        unfolding goes_on goes_of_reads goes_filled
        over_settles s = record {
          goes = goes_on l p on on' left left2 left3 local local2 local3 peer peer2 peer3 before at after (tt {0}) (Ok (tt {0})) goes_filled s.goes;
          meets = λ t u a b done so counts next elsewhere mine_told theirs_told.
              let here = over.meets t u a b done so counts next elsewhere mine_told theirs_told in
              let g = goes_filled in
              settled_on l p stays stays' a b done path mine2 theirs2 e (over.goes.course.asked_local + f.local_side.asked) (over.goes.course.asked_peer + f.peer_side.asked) local local2 local3 peer peer2 peer3 g.course.asked_local g.course.asked_peer before at after g.course.follows g.same
              (filled l p before.number a b done path mine theirs mine1 theirs1 mine2 theirs2 over.goes.course.asked_local over.goes.course.asked_peer local1 local2 peer1 peer2 (l.most_keys local) (p.most_keys peer) before at here mine_more theirs_more elsewhere e takes same_more left1 left2 f) left2 left3 s;
        }

        pub over_unsettled : (fault : SyncFault) → SettlesBy {A = Unit {0}} l p e left2 left3 local2 local3 peer2 peer3 at after (Err fault)
            → GoesThroughBy {A = Unit {0}} l p (λ a b. ArePages (digests a) (path ∷ []) (first ∷ []) × ArePages (digests b) (path ∷ []) (second ∷ [])) (path ∷ []) 0 left left3 local local3 peer peer3 before after (Err fault)
        unfolding goes_on goes_of_reads goes_filled
        over_unsettled fault s = record {
          goes = goes_on l p on on' left left2 left3 local local2 local3 peer peer2 peer3 before at after (tt {0}) (Err fault) goes_filled s.goes;
          meets = λ t u distinct long a b done so counts next elsewhere told.
              let here = over.meets t u a b done so counts next elsewhere told.0.0 told.1.0 in
              let g = goes_filled in
              settled_ends l p stays stays' a b done path mine2 theirs2 e (over.goes.course.asked_local + f.local_side.asked) (over.goes.course.asked_peer + f.peer_side.asked) local local2 local3 peer peer2 peer3 g.course.asked_local g.course.asked_peer before at after g.course.follows g.same
              (filled l p before.number a b done path mine theirs mine1 theirs1 mine2 theirs2 over.goes.course.asked_local over.goes.course.asked_peer local1 local2 peer1 peer2 (l.most_keys local) (p.most_keys peer) before at here mine_more theirs_more elsewhere e takes same_more left1 left2 f) left2 left3 fault s;
        }
