-- What grows, and what both sides of a session have.
use Rattle.std.proofs.Common.{◌≡◌, List, [], ◌∷◌, ◌⊎◌, inl, inr, true, false, cond, Some, None, refl, sym, ap, subst, ◌∙◌, arith}
use Rattle.std.specs.Prelude.{Contains, unwrap_or}
use Rattle.std.specs.Cmp.{Equal-is}
use Rattle.std.specs.Cmp.Lexicographic.{nat_list_cmp_total, slice_cmp}
use Rattle.std.specs.FinMap.{get, get-insert, get-remove, insert, remove}
use Rattle.std.specs.Ordering.{eq_by_cmp, nat_cmp}
use Rattle.std.proofs.lemmas.List.Elements.{Contains-append_cases, Contains-push_cases}
use Rattle.mvd_keys.specs.Order.{Includes}
use Rattle.mvd_keys.specs.State.{IsValid, State, clashes, empty_state, join}
use Rattle.mvd_keys.specs.Writes.{Key}
use Rattle.mvd_keys.proofs.Growing.{join_above}
use Rattle.mvd_keys.proofs.Joins.{join_back, join_repeats}
use Rattle.mvd_keys.proofs.Lists.{IsValid-join}
use Rattle.mvd_keys.proofs.Ordered.{includes_on}
use Rattle.mvd_site.specs.Held.{States, state_at}
use Rattle.mvd_peer.specs.Live.{AreValid, Grows, HaveBoth, Rises}
use Rattle.mvd_peer.specs.PushedStates.{is_nothing, pushed, put_state}
use Rattle.mvd_peer.proofs.Pushes.{state-pushed}
use Rattle.mvd_tree.proofs.Under.{keys_same}

pub grows_on : (a b c : States) → AreValid a → AreValid b → AreValid c → Grows a b → Grows b c → Grows a c
grows_on a b c p q r up on key = includes_on (state_at a key) (state_at b key) (state_at c key) (p key) (q key) (r key) (up key) (on key)

pub rises_grow : (old : States) (moments : List States) (new : States) → AreValid old → AreValid new → Rises old moments new → Grows old new
rises_grow old [] new p q up = up
rises_grow old (held ∷ later) new p q up = grows_on old held new p up.0 q up.1 (rises_grow held later new up.0 q up.2)

either : (s t : States) (later : List States) → Contains (t ∷ later) s → (t ≡ s) ⊎ Contains later s
either s t later c = elim (Contains-append_cases (t ∷ []) later s c) [
  | inl one ↦ elim (Contains-push_cases [] t s one) [ inl none ↦ absurd (omega arith) | inr is ↦ inl is ]
  | inr rest ↦ inr rest
]

-- each moment has grown from the first, and the last from it
pub rises_each : (old new : States) (moments : List States) → AreValid old → AreValid new → Rises old moments new → (held : States) → Contains moments held → AreValid held × Grows old held × Grows held new
rises_each old new [] p q up held c = absurd (omega arith)
rises_each old new (first ∷ later) p q up held c = elim (either held first later c) [
  | inl is ↦ subst (λ (h : States). AreValid h × Grows old h × Grows h new) is (up.0, up.1, rises_grow first later new up.0 q up.2)
  | inr rest ↦ let there = rises_each first new later up.0 q up.2 held rest in (there.0, grows_on old first held p up.0 there.0 up.1 there.1, there.2)
]

-- ---- a push

pushed_other : (m : States) (key : Key) (s : State) (k : Key) → eq_by_cmp (slice_cmp nat_cmp) k key ≡ false → state_at (pushed m key s) k ≡ state_at m k
unfolding pushed put_state
pushed_other m key s k other = ap (λ o. unwrap_or o empty_state) (elim (is_nothing (join (state_at m key) s)) as (λ b. get (cond b (remove m key) (insert m key (join (state_at m key) s))) k ≡ get m k) [
  | true ↦ get-remove nat_list_cmp_total m key k ∙ ap (λ b. cond b None (get m k)) other
  | false ↦ get-insert nat_list_cmp_total m key (join (state_at m key) s) k ∙ ap (λ b. cond b (Some (join (state_at m key) s)) (get m k)) other
])

-- what is so of the join at the key and of each other state
at_each : (P : Key → State → Type 0) (m : States) (key : Key) (s : State) → P key (join (state_at m key) s) → ((k : Key) → P k (state_at m k)) → (k : Key) → P k (state_at (pushed m key s) k)
at_each P m key s own others k = elim (eq_by_cmp (slice_cmp nat_cmp) k key) as (λ b. eq_by_cmp (slice_cmp nat_cmp) k key ≡ b → P k (state_at (pushed m key s) k)) [
  | true ↦ λ tie. subst (λ k. P k (state_at (pushed m key s) k)) (sym (keys_same k key ((Equal-is _).0 tie))) (subst (P key) (sym (state-pushed m key s)) own)
  | false ↦ λ other. subst (P k) (sym (pushed_other m key s k other)) (others k)
] refl

pub pushed_grows : (m : States) (key : Key) (s : State) → AreValid m → IsValid s → AreValid (pushed m key s) × Grows m (pushed m key s)
pushed_grows m key s valid v = (
  at_each (λ k t. IsValid t) m key s (IsValid-join (state_at m key) s (valid key) v) valid,
  at_each (λ k t. Includes t (state_at m k)) m key s (join_above (state_at m key) s (valid key) v) (λ k. join_repeats (state_at m k) (valid k)),
)

-- ---- what is had

pub has_given : (b t a' : States) (key : Key) → AreValid b → AreValid t → AreValid a' → Grows b t → Includes (state_at a' key) (state_at t key) → Includes (state_at a' key) (state_at b key)
has_given b t a' key vb vt va grown has = includes_on (state_at b key) (state_at t key) (state_at a' key) (vb key) (vt key) (va key) (grown key) has

pub has_met : (a b s t a' b' : States) (key : Key) → AreValid a → AreValid b → AreValid s → AreValid t → AreValid a' → AreValid b' → Grows a s → Grows s a' → Grows b t → Grows t b' → state_at s key ≡ state_at t key → HaveBoth a b a' b' key
has_met a b s t a' b' key va vb vs vt va' vb' up sa bt tb same = record {
  mine = has_given a s a' key va vs va' up (sa key);
  mine_of_peer = has_given b t a' key vb vt va' bt (subst (λ x. Includes (state_at a' key) x) same (sa key));
  theirs = has_given b t b' key vb vt vb' bt (tb key);
  theirs_of_local = has_given a s b' key va vs vb' up (subst (λ x. Includes (state_at b' key) x) (sym same) (tb key));
}

pub has_pushed : (s a' : States) (key : Key) (state : State) → AreValid s → AreValid a' → IsValid state → clashes (state_at s key) state ≡ false → Grows (pushed s key state) a' → Includes (state_at a' key) state
has_pushed s a' key state vs va valid apart grown =
    let old = vs key in
    includes_on state (join (state_at s key) state) (state_at a' key) valid (IsValid-join (state_at s key) state old valid) (va key)
    (join_back (state_at s key) state old valid apart)
    (subst (λ x. Includes (state_at a' key) x) (state-pushed s key state) (grown key))

pub is_spared : (s t b' : States) (key : Key) → AreValid s → AreValid t → AreValid b' → Includes (state_at t key) (state_at s key) → Grows t b' → Includes (state_at b' key) (state_at s key)
is_spared s t b' key vs vt vb is grown = includes_on (state_at s key) (state_at t key) (state_at b' key) (vs key) (vt key) (vb key) is (grown key)
