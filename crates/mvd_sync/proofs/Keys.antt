-- Keys in lists, and keys that are not pushed.
use Rattle.std.proofs.Common.{◌≡◌, ◌⊎◌, inl, inr, ℕ, Bool, true, false, cond, ◌||◌, List, [], ◌∷◌, ◌++◌, refl, sym, ap, subst, ◌∙◌, Some, None}
use Rattle.std.specs.Ordering.{nat_cmp, eq_by_cmp}
use Rattle.std.specs.Cmp.{Equal-is}
use Rattle.std.specs.Cmp.Lexicographic.{slice_cmp, nat_list_cmp_total}
use Rattle.std.specs.FinMap.{get, insert, remove, get-insert, get-remove}
use Rattle.mvd_keys.specs.State.{State, join}
use Rattle.mvd_peer.specs.PushedStates.{is_nothing, put_state, pushed, Each}
use Rattle.mvd_sync.specs.Session.{is_member, AreDistinct}
use Rattle.mvd_site.specs.Held.{States, state_at}
use Rattle.mvd_tree.proofs.Under.{keys_same}

pub or_cases : (a b : Bool) → (a || b) ≡ true → (a ≡ true) ⊎ (b ≡ true)
or_cases true b h = inl refl
or_cases false b h = inr h

pub or_left : (a b : Bool) → (a || b) ≡ false → a ≡ false
or_left true b h = h
or_left false b h = refl

pub or_right : (a b : Bool) → (a || b) ≡ false → b ≡ false
or_right true b h = absurd (cc)
or_right false b h = h

or_assoc : (a b c : Bool) → (a || (b || c)) ≡ ((a || b) || c)
or_assoc true b c = refl
or_assoc false b c = refl

-- ---- keys that are not exchanged

pub get-pushed_other : (m : States) (key : List ℕ) (s : State) (k : List ℕ) → eq_by_cmp (slice_cmp nat_cmp) k key ≡ false → get (pushed m key s) k ≡ get m k
unfolding pushed put_state
get-pushed_other m key s k other =
    elim (is_nothing (join (state_at m key) s)) as (λ b. get (cond b (remove m key) (insert m key (join (state_at m key) s))) k ≡ get m k) [
      | true ↦ get-remove nat_list_cmp_total m key k ∙ ap (λ b. cond b None (get m k)) other
      | false ↦ get-insert nat_list_cmp_total m key (join (state_at m key) s) k ∙ ap (λ b. cond b (Some (join (state_at m key) s)) (get m k)) other
    ]

-- ---- lists of keys

pub is_member-append : (ks js : List (List ℕ)) (k : List ℕ) → is_member (ks ++ js) k ≡ (is_member ks k || is_member js k)
is_member-append [] js k = refl
is_member-append (x ∷ ks) js k = ap (λ b. eq_by_cmp (slice_cmp nat_cmp) k x || b) (is_member-append ks js k) ∙ or_assoc (eq_by_cmp (slice_cmp nat_cmp) k x) (is_member ks k) (is_member js k)

pub member_has : (P : List ℕ → Type 0) (ks : List (List ℕ)) → Each P ks → (k : List ℕ) → is_member ks k ≡ true → P k
member_has P [] e k h = absurd (cc)
member_has P (x ∷ ks) e k h =
    elim (or_cases (eq_by_cmp (slice_cmp nat_cmp) k x) (is_member ks k) h) [
      | inl tie ↦ subst P (sym (keys_same k x ((Equal-is _).0 tie))) e.0
      | inr rest ↦ member_has P ks e.1 k rest
    ]

-- what lacks the property of all members is none
pub no_member : (P : List ℕ → Type 0) (ks : List (List ℕ)) → Each P ks → (k : List ℕ) → (P k → ⊥) → is_member ks k ≡ false
no_member P ks e k never =
    elim (is_member ks k) as (λ b. is_member ks k ≡ b → b ≡ false) [
      | true ↦ λ h. absurd (never (member_has P ks e k h))
      | false ↦ λ _. refl
    ] refl

pub Each-weaker : {X : Type 0} (P Q : X → Type 0) → ((x : X) → P x → Q x) → (xs : List X) → Each P xs → Each Q xs
Each-weaker P Q f [] h = tt
Each-weaker P Q f (x ∷ xs) h = (f x h.0, Each-weaker P Q f xs h.1)

pub distinct-append : (P Q : List ℕ → Type 0) → ((k : List ℕ) → P k → Q k → ⊥) → (ks js : List (List ℕ)) → Each P ks → Each Q js → AreDistinct ks → AreDistinct js → AreDistinct (ks ++ js)
distinct-append P Q apart [] js p q d e = e
distinct-append P Q apart (k ∷ ks) js p q d e = (
  is_member-append ks js k ∙ ap (λ b. b || is_member js k) d.0 ∙ no_member Q js q k (apart k p.0),
  distinct-append P Q apart ks js p.1 q d.1 e,
)
