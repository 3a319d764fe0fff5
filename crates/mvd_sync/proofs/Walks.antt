-- The walk from the root to the buckets, level by level.
use Rattle.std.proofs.Common.{◌≡◌, ◌≢◌, ℕ, zero, suc, ◌+◌, ◌*◌, ◌-◌, ◌<◌, ◌≤◌, true, List, [], length, refl, sym, subst, ◌∙◌, arith}
use Rattle.std.specs.Prelude.{IsTrue}
use Rattle.std.specs.FinMap.{get}
use Rattle.std.specs.List.{filter, flat_map}
use Rattle.mvd_site.proofs.Texts.{one_text}
use Rattle.mvd_site.specs.Answer.{digests, spelled}
use Rattle.mvd_site.specs.Held.{AreHeld, States}
use Rattle.mvd_tree.proofs.Apart.{same_state, same_states_under}
use Rattle.mvd_tree.specs.HashTree.{is_under}
use Rattle.mvd_tree.specs.Hashed.{HashesTellApart}
use Rattle.mvd_sync.proofs.Readings.{with_left}
use Rattle.mvd_sync.specs.Nodes.{child_paths, differing_children, differs_at}
use Rattle.mvd_sync.proofs.Walk.{has_below}
use Rattle.mvd_sync.specs.Session.{AreDistinct, HasAllThatDiffer}
use Rattle.mvd_peer.specs.PushedStates.{Each}
use Rattle.mvd_peer.specs.Sides.{SideOf}
use Rattle.mvd_sync.proofs.Walk.{ReadsSide}
use Rattle.mvd_sync.specs.declared.asking.Questions.{Questions}
use Rattle.mvd_sync.specs.declared.report.SyncFault.{SyncFault}
use Rattle.mvd_sync.proofs.Compose.{answered_later, answered_still}
use Rattle.mvd_sync.proofs.Descents.{end_later, reads_on}
use Rattle.mvd_sync.proofs.Keys.{Each-weaker}
use Rattle.mvd_sync.proofs.Nodes.{AreLong, Each-filter, Each-passes, differing_has_key, differs-from, distinct-below, distinct-filter, few_nodes, whole_below}
use Rattle.mvd_sync.proofs.Positions.{AreFewForBy, DescendsBy, HaveAnsweredBy, ReadsEndBy}

-- ---- what digests tell

-- states that differ have digests that differ
pub digests_differ : (a b : States) → AreHeld a → AreHeld b → HashesTellApart spelled a b → (key : List ℕ) → get a key ≢ get b key → get (digests a) key ≢ get (digests b) key
digests_differ a b p q apart key differ same = differ (same_state spelled a b apart (one_text a b p q) key same)

-- and so have the nodes above them
pub nodes_differ : (a b : States) → AreHeld a → AreHeld b → HashesTellApart spelled a b → (key : List ℕ) → get a key ≢ get b key → (path : List ℕ) → length path ≤ 3 → IsTrue (is_under path key) → differs_at (digests a) (digests b) path ≡ true
nodes_differ a b p q apart key differ path short u =
    differs-from (digests a) (digests b) path (λ same. differ (same_states_under spelled a b apart (one_text a b p q) (3 - length path) path (omega (arith, short)) same key u))

-- ---- the nodes of one level

-- so many digits deep: each once, each differs, but the root, and each key that differs is below one
pub record AreNodes (a b : States) (n : ℕ) (paths : List (List ℕ)) : Type 0 where
  pub distinct : AreDistinct paths
  pub differ : 1 ≤ n → Each (λ path. IsTrue (differs_at (digests a) (digests b) path)) paths
  pub whole : HashesTellApart spelled a b → (key : List ℕ) → get a key ≢ get b key → IsTrue (has_below paths key)

pub level_below : (a b : States) (n : ℕ) (paths : List (List ℕ)) → AreHeld a → AreHeld b → n < 3 → AreLong n paths → AreNodes a b n paths → AreNodes a b (n + 1) (differing_children (digests a) (digests b) paths)
level_below a b n paths p q low long at =
    let D = differs_at (digests a) (digests b) in
    record {
      distinct = distinct-filter D (flat_map child_paths (filter D paths)) (distinct-below n (filter D paths) (Each-filter (λ path. length path ≡ n) D paths long) (distinct-filter D paths at.distinct));
      differ = λ _. Each-passes D (flat_map child_paths (filter D paths));
      whole = λ apart key differ. whole_below (digests a) (digests b) n paths key low long (λ path short u. nodes_differ a b p q apart key differ path short u) (at.whole apart key differ);
    }

-- no more nodes than keys that differ
pub few_at : (a b : States) (n : ℕ) (paths keys : List (List ℕ)) → 1 ≤ n → AreLong n paths → AreNodes a b n paths → HasAllThatDiffer a b keys → length paths ≤ length keys
few_at a b n paths keys some long at all =
    few_nodes n paths keys long at.distinct
    (Each-weaker (λ path. IsTrue (differs_at (digests a) (digests b) path)) _ (λ path h. differing_has_key spelled a b keys all path h) paths (at.differ some))

few_on : (n asked paths below most : ℕ) → n < 3 → asked + paths ≤ 1 + n * most → below ≤ most → (asked + paths) + below ≤ 1 + (n + 1) * most
few_on zero asked paths below most low a b = omega (arith, a, b)
few_on (suc zero) asked paths below most low a b = omega (arith, a, b)
few_on (suc (suc zero)) asked paths below most low a b = omega (arith, a, b)
few_on (suc (suc (suc n))) asked paths below most low a b = absurd (omega (arith, low))

few_end : (n asked paths more most : ℕ) → n ≤ 3 → asked + paths ≤ 1 + n * most → more ≤ paths → asked + more ≤ 1 + 3 * most
few_end zero asked paths more most low a b = omega (arith, a, b)
few_end (suc zero) asked paths more most low a b = omega (arith, a, b)
few_end (suc (suc zero)) asked paths more most low a b = omega (arith, a, b)
few_end (suc (suc (suc zero))) asked paths more most low a b = omega (arith, a, b)
few_end (suc (suc (suc (suc n)))) asked paths more most low a b = absurd (omega (arith, low))

-- ---- the walk so far

-- it has come so many levels down
pub record Walks {L P : Type 0} (l : SideOf L) (p : SideOf P) (n : ℕ) (left left' : Questions) (local local' : L) (peer peer' : P) (paths : List (List ℕ)) : Type 0 where
  pub asked : ℕ
  pub local_side : ReadsSide l asked (with_left local left.local) (with_left local' left'.local)
  pub peer_side : ReadsSide p asked (with_left peer left.peer) (with_left peer' left'.peer)
  pub answers : 1 ≤ n → HaveAnsweredBy l p local local' peer peer'
  pub some : n ≡ 0 → paths ≢ []
  pub long : AreLong n paths
  pub right : l.is_faithful local → p.is_faithful peer → AreNodes (l.states local) (p.states peer) n paths
  pub few : AreFewForBy l p local peer (λ most. asked + length paths ≤ 1 + n * most)

module _ {L P : Type 0} (l : SideOf L) (p : SideOf P) where
  module _ (on : (m n : ℕ) (old mid new : L) → l.follows m old mid → l.follows n mid new → l.follows (m + n) old new)
      (on' : (m n : ℕ) (old mid new : P) → p.follows m old mid → p.follows n mid new → p.follows (m + n) old new)
      (n : ℕ) (low : n < 3) (left mid : Questions) (local local1 : L) (peer peer1 : P) (paths : List (List ℕ)) (w : Walks l p n left mid local local1 peer peer1 paths) where
    answers_on : (left' : Questions) (local2 : L) (peer2 : P) (below : List (List ℕ)) → (k : ℕ) → k ≡ n → DescendsBy l p paths mid left' local1 local2 peer1 peer2 below → HaveAnsweredBy l p local local2 peer peer2
    answers_on left' local2 peer2 below zero e d =
        let new = d.answers (w.some (sym e)) in (
          answered_later l on local local1 local2 (w.asked, w.local_side.follows) new.0,
          answered_later p on' peer peer1 peer2 (w.asked, w.peer_side.follows) new.1,
        )
    answers_on left' local2 peer2 below (suc k) e d =
        let old = w.answers (omega (arith, e)) in (
          answered_still l on local local1 local2 (length paths, d.local_side.follows) old.0,
          answered_still p on' peer peer1 peer2 (length paths, d.peer_side.follows) old.1,
        )

    -- one level more
    pub walks_on : (held : (s : L) → l.is_faithful s → AreHeld (l.states s)) (held' : (s : P) → p.is_faithful s → AreHeld (p.states s)) (left' : Questions) (local2 : L) (peer2 : P) (below : List (List ℕ))
        → DescendsBy l p paths mid left' local1 local2 peer1 peer2 below → Walks l p (n + 1) left left' local local2 peer peer2 below
    walks_on held held' left' local2 peer2 below d =
        let long = d.longer n w.long in
        let right : l.is_faithful local → p.is_faithful peer → AreNodes (l.states local) (p.states peer) (n + 1) below = λ t u.
        let k = w.local_side.kept t in
        let j = w.peer_side.kept u in
        let is = d.is k.still j.still ∙ (λ i. differing_children (digests (k.states i)) (digests (j.states i)) paths) in
        subst (AreNodes (l.states local) (p.states peer) (n + 1)) (sym is) (level_below (l.states local) (p.states peer) n paths (held local t) (held' peer u) low w.long (w.right t u)) in
        record {
          asked = w.asked + length paths;
          local_side = reads_on l on w.asked (length paths) left.local mid.local left'.local local local1 local2 w.local_side d.local_side;
          peer_side = reads_on p on' w.asked (length paths) left.peer mid.peer left'.peer peer peer1 peer2 w.peer_side d.peer_side;
          answers = λ _. answers_on left' local2 peer2 below n refl d;
          some = λ none. absurd (omega (arith, none));
          long = long;
          right = right;
          few = λ t u keys all. few_on n w.asked (length paths) (length below) (length keys) low (w.few t u keys all) (few_at (l.states local) (p.states peer) (n + 1) below keys (omega arith) long (right t u) all);
        }

  -- a side came to an end on the way down
  pub walk_ends : (on : (m n : ℕ) (old mid new : L) → l.follows m old mid → l.follows n mid new → l.follows (m + n) old new)
      (on' : (m n : ℕ) (old mid new : P) → p.follows m old mid → p.follows n mid new → p.follows (m + n) old new)
      (n : ℕ) → n ≤ 3 → (left mid : Questions) (local local1 : L) (peer peer1 : P) (paths : List (List ℕ)) → Walks l p n left mid local local1 peer peer1 paths
      → (local2 : L) (peer2 : P) (fault : SyncFault) → ReadsEndBy l p (λ asked. asked ≤ length paths) mid local1 local2 peer1 peer2 fault
      → ReadsEndBy l p (λ asked. AreFewForBy l p local peer (λ most. asked ≤ 1 + 3 * most)) left local local2 peer peer2 fault
  walk_ends on on' n low left mid local local1 peer peer1 paths w local2 peer2 fault e =
      let more : (i : ℕ) → i ≤ length paths → AreFewForBy l p local peer (λ most. w.asked + i ≤ 1 + 3 * most) = λ i few t u keys all. few_end n w.asked (length paths) i (length keys) low (w.few t u keys all) few in
      end_later l p on on' (λ asked. asked ≤ length paths) (λ asked. AreFewForBy l p local peer (λ most. asked ≤ 1 + 3 * most)) left mid w.asked w.asked local local1 local2 peer peer1 peer2 fault w.local_side w.peer_side more more e
