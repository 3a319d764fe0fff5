-- Pushes into one side.
use Rattle.std.proofs.Common.{◌≡◌, ℕ, true, false, cond, List, [], ◌∷◌, ◌++◌, refl, sym, ap, ◌∙◌, Some, None}
use Rattle.std.specs.Prelude.{unwrap_or}
use Rattle.std.specs.Ordering.{nat_cmp, eq_by_cmp, is_eq}
use Rattle.std.specs.Cmp.{tied_itself}
use Rattle.std.specs.Cmp.Lexicographic.{slice_cmp, nat_list_cmp_total}
use Rattle.std.specs.FinMap.{get, insert, remove, get-insert, get-remove}
use Rattle.mvd_keys.specs.State.{IsValid, State, empty_state, join}
use Rattle.mvd_peer.specs.PushedStates.{is_nothing, put_state, pushed, pushed_all, Each, ComesByPushes}
use Rattle.mvd_site.specs.Held.{States, state_at}
use Rattle.mvd_peer.proofs.JoinLaws.{nothing_is}

pub no_pushes : (can_give : List ℕ → State → Type 0) (a b : States) → b ≡ a → ComesByPushes can_give a b
no_pushes can_give a b e = record { pushes = []; given = tt; valid = tt; is = e }

pub Each-append : {X : Type 0} (P : X → Type 0) (xs ys : List X) → Each P xs → Each P ys → Each P (xs ++ ys)
Each-append P [] ys p q = q
Each-append P (x ∷ xs) ys p q = (p.0, Each-append P xs ys p.1 q)

pub pushed_all-append : (a : States) (ps qs : List (List ℕ × State)) → pushed_all a (ps ++ qs) ≡ pushed_all (pushed_all a ps) qs
pushed_all-append a [] qs = refl
pushed_all-append a (p ∷ ps) qs = pushed_all-append (pushed a p.0 p.1) ps qs

pub more_pushes : (can_give : List ℕ → State → Type 0) (a b c : States) → ComesByPushes can_give a b → ComesByPushes can_give b c → ComesByPushes can_give a c
more_pushes can_give a b c p q = record {
  pushes = p.pushes ++ q.pushes;
  given = Each-append (λ p. can_give p.0 p.1) p.pushes q.pushes p.given q.given;
  valid = Each-append (λ p. IsValid p.1) p.pushes q.pushes p.valid q.valid;
  is = q.is ∙ ap (λ m. pushed_all m q.pushes) p.is ∙ sym (pushed_all-append a p.pushes q.pushes);
}

-- ---- one key

pub tied : (k : List ℕ) → eq_by_cmp (slice_cmp nat_cmp) k k ≡ true
tied k = ap is_eq (tied_itself nat_list_cmp_total k)

-- the pushed key has the join
pub state-pushed : (m : States) (key : List ℕ) (s : State) → state_at (pushed m key s) key ≡ join (state_at m key) s
unfolding pushed put_state
state-pushed m key s =
    let new = join (state_at m key) s in
    elim (is_nothing new) as (λ b. is_nothing new ≡ b → unwrap_or (get (cond b (remove m key) (insert m key new)) key) empty_state ≡ new) [
      | true ↦ λ e. ap (λ o. unwrap_or o empty_state) (get-remove nat_list_cmp_total m key key ∙ ap (λ b. cond b None (get m key)) (tied key)) ∙ sym (nothing_is new e)
      | false ↦ λ _. ap (λ o. unwrap_or o empty_state) (get-insert nat_list_cmp_total m key new key ∙ ap (λ b. cond b (Some new) (get m key)) (tied key))
    ] refl
