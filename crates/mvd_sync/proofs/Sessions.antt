-- A session: the walk, then the buckets, then the keys that still wait.
use Rattle.std.proofs.Common.{◌≡◌, ℕ, ◌+◌, ◌*◌, ◌/◌, ◌≤◌, Bool, true, false, cond, ◌||◌, List, [], ◌∷◌, ◌++◌, length, refl, sym, ap, subst, ◌∙◌, arith, Option, true≢false}
use Rattle.std.specs.Prelude.{Result, Ok, Err, MatchResult}
use Rattle.std.proofs.lemmas.List.{length-map, map-append}
use Rattle.std.specs.Ordering.{nat_cmp, eq_by_cmp}
use Rattle.std.specs.Cmp.{Equal-is}
use Rattle.std.specs.Cmp.Lexicographic.{slice_cmp}
use Rattle.std.specs.FinMap.{get, len}
use Rattle.mvd_tree.proofs.Under.{keys_same}
use Rattle.mvd_site.specs.Held.{AreHeld, States}
use Rattle.mvd_sync.proofs.Buckets.{held_in}
use Rattle.mvd_sync.proofs.Exchanges.{AreNext, IsNext, joined_keys, keys_next}
use Rattle.mvd_sync.specs.Exchanges.{Done, Exchanging, given_keys, keys_done}
use Rattle.mvd_sync.specs.Session.{AreDistinct, AreFew, HasAllThatDiffer, is_member}
use Rattle.mvd_peer.specs.PushedStates.{Each}
use Rattle.mvd_peer.specs.Sides.{HasAnswered, SideOf}
use Rattle.mvd_sync.specs.declared.cursor.Entry.{Entry}
use Rattle.mvd_sync.specs.declared.asking.Questions.{Questions}
use Rattle.mvd_sync.specs.declared.report.Report.{Report}
use Rattle.mvd_sync.specs.declared.report.SyncFault.{SyncFault}
use Rattle.mvd_sync.proofs.Compose.{answered_still}
use Rattle.mvd_sync.proofs.Going.{course_done, course_ends, goes_of_end, goes_of_exchange, goes_of_reads, goes_on}
use Rattle.mvd_sync.proofs.Joined.{joins_of, joins_some}
use Rattle.mvd_sync.proofs.Keys.{Each-weaker}
use Rattle.mvd_sync.proofs.Reported.{tells_of}
use Rattle.mvd_sync.proofs.Walks.{digests_differ}
use Rattle.mvd_sync.proofs.Positions.{AreFewForBy, ExchangesBy, GoesOnWithinBy, FindsBucketsBy, FindsBy, GoesBy, GoesOnBy, GoesOverBy, JoinsSomeBy, MeetsBy, ReadsEndBy, SessionBy, SoFarBy}

abbrev tie : List ℕ → List ℕ → Bool
tie k q = eq_by_cmp (slice_cmp nat_cmp) k q

-- ---- as many keys as differ

-- a list without a key
abbrev without : List ℕ → List (List ℕ) → List (List ℕ)
without k [] = []
without k (j ∷ js) = cond (tie k j) js (j ∷ without k js)

by_bool : (b : Bool) (R : Type 0) → (b ≡ true → R) → (b ≡ false → R) → R
by_bool true R f g = f refl
by_bool false R f g = g refl

without_short : (k : List ℕ) (js : List (List ℕ)) → is_member js k ≡ true → length (without k js) + 1 ≡ length js
without_short k [] h = absurd (true≢false (sym h))
without_short k (j ∷ js) h =
    elim (tie k j) as (λ b. (b || is_member js k) ≡ true → length (cond b js (j ∷ without k js)) + 1 ≡ length (j ∷ js)) [
      | true ↦ λ _. omega arith
      | false ↦ λ h. let rest = without_short k js h in omega (arith, rest)
    ] h

without_keeps : (k q : List ℕ) (js : List (List ℕ)) → tie q k ≡ false → is_member js q ≡ true → is_member (without k js) q ≡ true
without_keeps k q [] apart h = h
without_keeps k q (j ∷ js) apart h =
    elim (tie k j) as (λ b. tie k j ≡ b → is_member (cond b js (j ∷ without k js)) q ≡ true) [
      | true ↦ λ e. ap (λ b. b || is_member js q) (sym (ap (tie q) (sym (keys_same k j ((Equal-is _).0 e))) ∙ apart)) ∙ h
      | false ↦ λ e. elim (tie q j) as (λ b. (b || is_member js q) ≡ true → (b || is_member (without k js) q) ≡ true) [ true ↦ λ _. refl | false ↦ λ h. without_keeps k q js apart h ] h
    ] refl

-- distinct keys of a list are no more than it has
pub few_keys : (ks js : List (List ℕ)) → AreDistinct ks → Each (λ k. is_member js k ≡ true) ks → length ks ≤ length js
few_keys [] js d h = omega arith
few_keys (k ∷ ks) js d h =
    let shorter = without_short k js h.0 in
    let rest = few_keys ks (without k js) d.1 (others ks d.0 h.1) in
    omega (arith, shorter, rest)
  where
    others : (qs : List (List ℕ)) → is_member qs k ≡ false → Each (λ q. is_member js q ≡ true) qs → Each (λ q. is_member (without k js) q ≡ true) qs
    others [] none each = tt
    others (q ∷ qs) none each =
        let apart : tie q k ≡ false = by_bool (tie q k) (tie q k ≡ false)
        (λ e. absurd (true≢false (sym (Rattle.mvd_peer.proofs.Pushes.tied k) ∙ ap (tie k) (sym (keys_same q k ((Equal-is _).0 e))) ∙ Rattle.mvd_sync.proofs.Keys.or_left (tie k q) (is_member qs k) none))) (λ e. e) in
        (without_keeps k q js apart each.0, others qs (Rattle.mvd_sync.proofs.Keys.or_right (tie k q) (is_member qs k) none) each.1)

entry_keys : (P : List ℕ → Type 0) (es : List Entry) → Each (λ (e : Entry). P e.key) es → Each P (keys_next es)
entry_keys P [] h = tt
entry_keys P (e ∷ es) h = (h.0, entry_keys P es h.1)

-- those to be exchanged are no more than differ
few_next : (a b : States) (es : List Entry) (differing : List (List ℕ)) → AreNext a b [] es → HasAllThatDiffer a b differing → length es ≤ length differing
few_next a b es differing next all =
    let n = few_keys (keys_next es) differing next.distinct (entry_keys (λ k. is_member differing k ≡ true) es (Each-weaker (IsNext a b) (λ (e : Entry). is_member differing e.key ≡ true) (λ e h. all e.key h.differ) es next.each)) in
    let m = length-map es (λ (e : Entry). e.key) in
    omega (arith, n, m)

-- ---- a session is what it goes

module _ {L P : Type 0} (l : SideOf L) (p : SideOf P) (most : ℕ) (local local' : L) (peer peer' : P) (left' : Questions) (before after : Exchanging) where
  abbrev all_left : Questions
  all_left = record { local = most; peer = most }

  pub session_ends : {A : Type 0} (fault : SyncFault) (g : GoesBy {A = A} l p all_left left' local local' peer peer' before after (Err fault)) → before.most ≡ 16
      → (l.is_faithful local → p.is_faithful peer → JoinsSomeBy (l.is_faithful local') (p.is_faithful peer') (l.states local) (p.states peer) (l.states local') (p.states peer'))
      → (l.is_faithful local → p.is_faithful peer → (differing : List (List ℕ)) → HasAllThatDiffer (l.states local) (p.states peer) differing → AreFew (g.course.first_local + g.course.wanted_local) (l.states local) differing × AreFew (g.course.first_peer + g.course.wanted_peer) (p.states peer) differing)
      → SessionBy l p most local local' peer peer' (Err fault)
  session_ends fault g most_is joins few = record {
    course = course_ends l p all_left local local' peer peer' fault g.course;
    answers = tt;
    meets = λ t u. let j = joins t u in record { joined = j.joined; given = j.given; joins = j.joins; tells = tt };
    few = few;
    again = let a = g.again in (omega (arith, a.0, most_is), omega (arith, a.1, most_is));
  }

  pub session_done : {A : Type 0} (x : A) (report : Report) (g : GoesBy {A = A} l p all_left left' local local' peer peer' before after (Ok x)) → before.most ≡ 16
      → HasAnswered l.follows l.can_answer local local' × HasAnswered p.follows p.can_answer peer peer'
      → (l.is_faithful local → p.is_faithful peer → MeetsBy (l.is_faithful local') (p.is_faithful peer') (l.most_keys local) (p.most_keys peer) (l.number local) (l.states local) (p.states peer) (l.states local') (p.states peer') (Ok report))
      → (l.is_faithful local → p.is_faithful peer → (differing : List (List ℕ)) → HasAllThatDiffer (l.states local) (p.states peer) differing → AreFew (g.course.first_local + g.course.wanted_local) (l.states local) differing × AreFew (g.course.first_peer + g.course.wanted_peer) (p.states peer) differing)
      → SessionBy l p most local local' peer peer' (Ok report)
  session_done x report g most_is answers meets few = record {
    course = course_done l p all_left local local' peer peer' x report g.course;
    answers = answers;
    meets = meets;
    few = few;
    again = let a = g.again in (omega (arith, a.0, most_is), omega (arith, a.1, most_is));
  }

-- nothing was done so far
so_none : (ml mp : ℕ) (number : Option ℕ) (a b x y : States) → x ≡ a → y ≡ b → SoFarBy ml mp number a b x y []
so_none ml mp number a b x y e f = record { distinct = tt; each = tt; rest = λ k _. (ap (λ m. get m k) e, ap (λ m. get m k) f) }

abbrev pub begins_with : Option ℕ → Exchanging
begins_with number = record { number = number; waiting = []; most = 16; keys = 0; refused = 0; older = 0; first_refused = [] }

-- the walk came to an end
module _ {L P : Type 0} (l : SideOf L) (p : SideOf P) (most : ℕ) (local local1 : L) (peer peer1 : P) where
  pub session_walks : (fault : SyncFault) → ReadsEndBy l p (λ asked. AreFewForBy l p local peer (λ m. asked ≤ 1 + 3 * m)) (record { local = most; peer = most }) local local1 peer peer1 fault → SessionBy l p most local local1 peer peer1 (Err fault)
  unfolding goes_of_end
  session_walks fault r =
      let left : Questions = record { local = most; peer = most } in
      let e = begins_with (l.number local) in
      session_ends l p most local local1 peer peer1 left e e {A = Unit {0}} fault (goes_of_end l p (λ asked. AreFewForBy l p local peer (λ m. asked ≤ 1 + 3 * m)) left left local local1 peer peer1 e fault r) refl
      (λ t u. joins_some (l.most_keys local) (p.most_keys peer) (l.states local) (p.states peer) (l.states local1) (p.states peer1) (l.number local) (l.is_faithful local1) (p.is_faithful peer1) []
      (so_none (l.most_keys local) (p.most_keys peer) (l.number local) (l.states local) (p.states peer) (l.states local1) (p.states peer1) (r.kept_local t).states (r.kept_peer u).states))
      (λ t u differing all.
      let i = r.few.0 t u differing all in
      let j = r.few.1 t u differing all in
      (omega (arith, i), omega (arith, j)))

module _ {L P : Type 0} (l : SideOf L) (p : SideOf P)
    (on : (m n : ℕ) (old mid new : L) → l.follows m old mid → l.follows n mid new → l.follows (m + n) old new) (on' : (m n : ℕ) (old mid new : P) → p.follows m old mid → p.follows n mid new → p.follows (m + n) old new)
    (most_l : (n : ℕ) (old new : L) → l.follows n old new → l.most_keys new ≡ l.most_keys old) (most_p : (n : ℕ) (old new : P) → p.follows n old new → p.most_keys new ≡ p.most_keys old)
    (form_l : (s : L) → l.is_faithful s → AreHeld (l.states s)) (form_p : (s : P) → p.is_faithful s → AreHeld (p.states s))
    (held_few : (a : States) (paths : List (List ℕ)) → AreDistinct paths → Each (λ path. length path ≡ 3) paths → held_in a paths ≤ len a)
    (most : ℕ) (mid left2 : Questions) (local local1 local2 : L) (peer peer1 peer2 : P) (paths : List (List ℕ)) (e2 : Exchanging)
    (w : FindsBucketsBy l p (record { local = most; peer = most }) mid local local1 peer peer1 paths) where
  abbrev start : Exchanging
  start = begins_with (l.number local)

  abbrev total : Questions
  total = record { local = most; peer = most }

  walked : GoesBy l p total mid local local1 peer peer1 start start (Ok (tt {0}))
  unfolding goes_of_reads
  walked = goes_of_reads l p (tt {0}) w.asked w.asked total mid local local1 peer peer1 start w.local_side w.peer_side

  module _ {A : Type 0} (r2 : Result A SyncFault) (second : GoesOverBy l p paths (length paths) mid left2 local1 local2 peer1 peer2 start e2 r2) where
    pub gone : GoesBy l p total left2 local local2 peer peer2 start e2 r2
    gone = goes_on l p on on' total mid left2 local local1 local2 peer peer1 peer2 start start e2 (tt {0}) r2 walked second.goes

    abbrev Found : ℕ → ℕ → Type 0
    Found x y = FindsBy l p (l.number local) (l.states local) (p.states peer) [] paths (length paths) (second.goes.course.first_local + second.goes.course.wanted_local) (second.goes.course.first_peer + second.goes.course.wanted_peer) local2 peer2 x y start e2 r2

    pub found_there : l.is_faithful local → p.is_faithful peer → Found (l.most_keys local) (p.most_keys peer)
    found_there t u =
        let k = w.local_side.kept t in
        let j = w.peer_side.kept u in
        let right = w.right t u in
        let f : Found (l.most_keys local1) (p.most_keys peer1) = second.meets k.still j.still right.distinct w.deep (l.states local) (p.states peer) []
        (so_none (l.most_keys local1) (p.most_keys peer1) (l.number local) (l.states local) (p.states peer) (l.states local1) (p.states peer1) k.states j.states)
        (record { keys = refl; refused = refl; first_refused = refl; older = refl }) (record { distinct = tt; each = tt }) tt tt in
        subst (λ x. Found x (p.most_keys peer)) (most_l w.asked local local1 w.local_side.follows) (subst (λ y. Found (l.most_keys local1) y) (most_p w.asked peer peer1 w.peer_side.follows) f)

    abbrev PagesFew : (i j : ℕ) → Type 0
    PagesFew i j = (i ≤ len (l.states local) / 1000) × (j ≤ len (p.states peer) / 1000)

    pages_few : (t : l.is_faithful local) (u : p.is_faithful peer) → PagesFew (found_there t u).pages_local (found_there t u).pages_peer
    pages_few t u =
        let f = found_there t u in
        let right = w.right t u in
        let i = held_few (l.states local) paths right.distinct w.deep in
        let j = held_few (p.states peer) paths right.distinct w.deep in
        let pages = f.pages in
        (omega (arith, i, pages.0), omega (arith, j, pages.1))

  -- the buckets came to an end
  pub session_buckets : {A : Type 0} (fault : SyncFault) → GoesOverBy {A = A} l p paths (length paths) mid left2 local1 local2 peer1 peer2 start e2 (Err fault) → SessionBy l p most local local2 peer peer2 (Err fault)
  unfolding gone walked goes_on goes_of_reads
  session_buckets {A} fault second = session_ends l p most local local2 peer peer2 left2 start e2 fault (gone (Err fault) second) refl
      (λ t u. (found_there (Err fault) second t u).ends)
      (λ t u differing all.
      let f = found_there (Err fault) second t u in
      let pages = pages_few (Err fault) second t u in
      let few = f.few in
      let walk = w.few t u differing all in
      let keys = few_next (l.states local) (p.states peer) f.found differing f.next all in
      (omega (arith, pages.0, few.0, walk, keys), omega (arith, pages.1, few.1, walk, keys)))

  module _ {A B : Type 0} (x2 : A) (second : GoesOverBy l p paths (length paths) mid left2 local1 local2 peer1 peer2 start e2 (Ok x2)) (left3 : Questions) (local3 : L) (peer3 : P) (e3 : Exchanging) (r3 : Result B SyncFault)
      (third : ExchangesBy l p e2.waiting left2 left3 local2 local3 peer2 peer3 e2 e3 r3) where
    all_gone : GoesBy l p total left3 local local3 peer peer3 start e3 r3
    all_gone = goes_on l p on on' total left2 left3 local local2 local3 peer peer2 peer3 start e2 e3 x2 r3 (gone (Ok x2) second) (goes_of_exchange l p e2.waiting left2 left3 local2 local3 peer2 peer3 e2 e3 r3 (omega arith) third)

    most_l2 : l.most_keys local2 ≡ l.most_keys local
    most_l2 = most_l second.goes.course.asked_local local1 local2 second.goes.course.follows.0 ∙ most_l w.asked local local1 w.local_side.follows

    most_p2 : p.most_keys peer2 ≡ p.most_keys peer
    most_p2 = most_p second.goes.course.asked_peer peer1 peer2 second.goes.course.follows.1 ∙ most_p w.asked peer peer1 w.peer_side.follows

    abbrev Ends : List Done → ℕ → ℕ → Option ℕ → Type 0
    Ends done x y o = MatchResult r3 (λ _. GoesOnBy l p o (l.states local) (p.states peer) done e2.waiting local3 peer3 x y e3) (λ _. JoinsSomeBy (l.is_faithful local3) (p.is_faithful peer3) (l.states local) (p.states peer) (l.states local3) (p.states peer3))

    abbrev Steps : List Done → ℕ → ℕ → Option ℕ → Type 0
    Steps done x y o = SoFarBy x y o (l.states local) (p.states peer) (l.states local2) (p.states peer2) done → Ends done x y o

    all_found : (t : l.is_faithful local) (u : p.is_faithful peer) → GoesOnWithinBy l p (l.number local) (l.states local) (p.states peer) [] (found_there (Ok x2) second t u).found (length paths + (found_there (Ok x2) second t u).pages_local) (length paths + (found_there (Ok x2) second t u).pages_peer) (second.goes.course.first_local + second.goes.course.wanted_local) (second.goes.course.first_peer + second.goes.course.wanted_peer) local2 peer2 (l.most_keys local) (p.most_keys peer) e2
    all_found t u = (found_there (Ok x2) second t u).ends

    ended : (t : l.is_faithful local) (u : p.is_faithful peer) → Ends (all_found t u).goes_on.now (l.most_keys local) (p.most_keys peer) (l.number local)
    ended t u =
        let g = (all_found t u).goes_on in
        let step : Steps g.now (l.most_keys local2) (p.most_keys peer2) e2.number = λ so. third.meets g.still.0 g.still.1 (l.states local) (p.states peer) g.now so g.counts g.waits in
        subst (λ x. Steps g.now x (p.most_keys peer) (l.number local)) most_l2 (subst (λ y. Steps g.now (l.most_keys local2) y (l.number local)) most_p2 (subst (λ o. Steps g.now (l.most_keys local2) (p.most_keys peer2) o) second.goes.same step)) g.so_far

    abbrev AllFew : ℕ → ℕ → List (List ℕ) → Type 0
    AllFew i j differing = AreFew i (l.states local) differing × AreFew j (p.states peer) differing

    all_few : l.is_faithful local → p.is_faithful peer → (differing : List (List ℕ)) → HasAllThatDiffer (l.states local) (p.states peer) differing → AllFew ((w.asked + second.goes.course.first_local + third.course.first_local) + third.course.wanted_local) ((w.asked + second.goes.course.first_peer + third.course.first_peer) + third.course.wanted_peer) differing
    all_few t u differing all =
        let f = found_there (Ok x2) second t u in
        let pages = pages_few (Ok x2) second t u in
        let fewer = (all_found t u).fewer in
        let few = third.few in
        let walk = w.few t u differing all in
        let keys = few_next (l.states local) (p.states peer) f.found differing f.next all in
        (omega (arith, pages.0, fewer.0, few.0, walk, keys), omega (arith, pages.1, fewer.1, few.1, walk, keys))

  -- all was done
  pub session_all : {A B : Type 0} (x2 : A) (second : GoesOverBy l p paths (length paths) mid left2 local1 local2 peer1 peer2 start e2 (Ok x2)) (left3 : Questions) (local3 : L) (peer3 : P) (e3 : Exchanging) (x3 : B)
      → ExchangesBy {A = B} l p e2.waiting left2 left3 local2 local3 peer2 peer3 e2 e3 (Ok x3) → e3.waiting ≡ [] → (report : Report) → report.keys ≡ e3.keys → report.refused ≡ e3.refused → report.old ≡ e3.older → report.first_refused ≡ e3.first_refused
      → SessionBy l p most local local3 peer peer3 (Ok report)
  unfolding all_gone gone walked goes_on goes_of_reads goes_of_exchange
  session_all {A} {B} x2 second left3 local3 peer3 e3 x3 third none report keys refused old first =
      let follow_l = on second.goes.course.asked_local third.course.asked_local local1 local2 local3 second.goes.course.follows.0 third.course.follows.0 in
      let follow_p = on' second.goes.course.asked_peer third.course.asked_peer peer1 peer2 peer3 second.goes.course.follows.1 third.course.follows.1 in
      session_done l p most local local3 peer peer3 left3 start e3 x3 report (all_gone x2 second left3 local3 peer3 e3 (Ok x3) third) refl
      (answered_still l on local local1 local3 (second.goes.course.asked_local + third.course.asked_local, follow_l) w.answers.0, answered_still p on' peer peer1 peer3 (second.goes.course.asked_peer + third.course.asked_peer, follow_p) w.answers.1)
      (λ t u.
      let a = l.states local in
      let b = p.states peer in
      let f = all_found x2 second left3 local3 peer3 e3 (Ok x3) third t u in
      let g = f.goes_on in
      let h = ended x2 second left3 local3 peer3 e3 (Ok x3) third t u in
      let done = g.now ++ h.now in
      let done_keys : keys_next (found_there (Ok x2) second t u).found ≡ keys_done done
      = g.is ∙ ap (λ ks. keys_done g.now ++ ks) (h.is ∙ ap (λ es. keys_done h.now ++ keys_next es) none ∙ Rattle.std.proofs.lemmas.List.append-nil (keys_done h.now)) ∙ sym (map-append (λ (d : Done). d.key) g.now h.now) in
      record {
        joined = joined_keys done;
        given = given_keys done;
        joins = joins_of (l.most_keys local) (p.most_keys peer) a b (l.states local3) (p.states peer3) (l.number local) (l.is_faithful local3) (p.is_faithful peer3) done h.so_far;
        tells = tells_of (l.most_keys local) (p.most_keys peer) (l.number local) a b (l.states local3) (p.states peer3) done e3 report h.so_far h.counts keys refused old first
            (λ apart key differ. ap (λ ks. is_member ks key) (sym done_keys) ∙ (found_there (Ok x2) second t u).all key ((w.right t u).whole apart key differ) (digests_differ a b (form_l local t) (form_p peer u) apart key differ));
      })
      (all_few x2 second left3 local3 peer3 e3 (Ok x3) third)
