-- What a side takes of the keys of a window, one push after the other.
use Rattle.std.proofs.Common.{◌≡◌, ◌≢◌, ◌⊎◌, inl, inr, ℕ, zero, suc, ◌≤◌, Bool, true, false, ◌&&◌, ◌||◌, T, List, [], ◌∷◌, length, map, refl, sym, ap, subst, ◌∙◌, arith, Some, None, Option, true≢false}
use Rattle.std.specs.Prelude.{Result, Ok, Err, unwrap_or, take, is_some}
use Rattle.std.specs.Ordering.{nat_cmp, eq_by_cmp, is_eq, is_lt}
use Rattle.std.specs.declared.cmp.Ordering.TheVariants.{Less, Equal, Greater}
use Rattle.std.specs.Cmp.{Equal-is}
use Rattle.std.specs.Cmp.Lexicographic.{slice_cmp}
use Rattle.std.specs.FinMap.{get, entries, entries_sorted, is_sorted, len, len-entries, keys, contains_key-keys}
use Rattle.std.specs.FinMap.Entries.{below_all}
use Rattle.std.specs.List.{list_any}
use Rattle.std.proofs.lemmas.List.{length-map}
use Rattle.mvd_dots.specs.declared.refusals.Refusal.{Refusal}
use Rattle.mvd_dots.specs.declared.refusals.Refusal.TheVariants.{DotClash, Full, StateTooLarge}
use Rattle.mvd_keys.specs.State.{IsValid, State, clashes, empty_state, join}
use Rattle.mvd_tree.proofs.Under.{keys_same}
use Rattle.mvd_site.specs.Answer.{is_too_large}
use Rattle.mvd_site.specs.Held.{States, state_at}
use Rattle.mvd_sync.specs.Session.{AreDistinct, AreTooMany, is_member}
use Rattle.mvd_peer.specs.PushedStates.{ComesByPushes, Each, pushed, pushed_all}
use Rattle.mvd_peer.specs.Windows.{CannotTake, Pushes}
use Rattle.mvd_sync.proofs.Keys.{Each-weaker, get-pushed_other, or_left, or_right}
use Rattle.mvd_peer.proofs.Pushes.{state-pushed, tied}

-- ---- the pushes that were taken

abbrev pub taken_pairs : List (List ℕ × State) → List (Result (Unit {0}) Refusal) → List (List ℕ × State)
taken_pairs (p ∷ ps) (Ok done ∷ ts) = p ∷ taken_pairs ps ts
taken_pairs (p ∷ ps) (Err refusal ∷ ts) = taken_pairs ps ts
taken_pairs ps ts = []

pub pushes_are : (most : ℕ) (old : States) (ps : List (List ℕ × State)) (ts : List (Result (Unit {0}) Refusal)) (new : States) → Pushes most old ps ts new → new ≡ pushed_all old (taken_pairs ps ts)
pushes_are most old [] [] new h = h
pushes_are most old [] (t ∷ ts) new h = absurd h
pushes_are most old (p ∷ ps) [] new h = absurd h
pushes_are most old (p ∷ ps) (Ok done ∷ ts) new h = pushes_are most (pushed old p.0 p.1) ps ts new h.1
pushes_are most old (p ∷ ps) (Err refusal ∷ ts) new h = pushes_are most old ps ts new h.1

pub each_taken : (P : List ℕ × State → Type 0) (ps : List (List ℕ × State)) (ts : List (Result (Unit {0}) Refusal)) → Each P ps → Each P (taken_pairs ps ts)
each_taken P [] [] h = tt
each_taken P [] (t ∷ ts) h = tt
each_taken P (p ∷ ps) [] h = tt
each_taken P (p ∷ ps) (Ok done ∷ ts) h = (h.0, each_taken P ps ts h.1)
each_taken P (p ∷ ps) (Err refusal ∷ ts) h = each_taken P ps ts h.1

pub each_first : {X : Type 0} (P : X → Type 0) (n : ℕ) (xs : List X) → Each P xs → Each P (take n xs)
each_first P zero xs h = tt
each_first P (suc n) [] h = tt
each_first P (suc n) (x ∷ xs) h = (h.0, each_first P n xs h.1)

pub comes_by : (can_give : List ℕ → State → Type 0) (most : ℕ) (old : States) (ps : List (List ℕ × State)) (ts : List (Result (Unit {0}) Refusal)) (new : States) → Each (λ p. can_give p.0 p.1 × IsValid p.1) ps → Pushes most old ps ts new → ComesByPushes can_give old new
comes_by can_give most old ps ts new good h =
    let each = each_taken (λ p. can_give p.0 p.1 × IsValid p.1) ps ts good in
    record {
      pushes = taken_pairs ps ts;
      given = Each-weaker (λ p. can_give p.0 p.1 × IsValid p.1) (λ p. can_give p.0 p.1) (λ p e. e.0) (taken_pairs ps ts) each;
      valid = Each-weaker (λ p. can_give p.0 p.1 × IsValid p.1) (λ p. IsValid p.1) (λ p e. e.1) (taken_pairs ps ts) each;
      is = pushes_are most old ps ts new h;
    }

-- ---- keys that two maps hold

-- each key that is held was held by one of two
abbrev pub ComesFrom : States → States → States → Type 0
ComesFrom a b m = (key : List ℕ) → get m key ≢ None → (get a key ≢ None) ⊎ (get b key ≢ None)

both_true : (a b : Bool) → T (a && b) → T a × T b
both_true true b h = (tt, h)
both_true false b h = absurd h

less_not_tied : (k q : List ℕ) → T (is_lt (slice_cmp nat_cmp k q)) → eq_by_cmp (slice_cmp nat_cmp) k q ≡ false
less_not_tied k q h =
    elim (slice_cmp nat_cmp k q) as (λ o. T (is_lt o) → is_eq o ≡ false) [ Less ↦ λ _. refl | Equal ↦ λ h. absurd h | Greater ↦ λ h. absurd h ] h

not_below : {X : Type 0} (k : List ℕ) (es : List (List ℕ × X)) → T (below_all (slice_cmp nat_cmp) k es) → is_member (map (λ e. e.0) es) k ≡ false
not_below k [] h = refl
not_below k (e ∷ es) h =
    let parts = both_true (is_lt (slice_cmp nat_cmp k e.0)) (below_all (slice_cmp nat_cmp) k es) h in
    ap (λ b. b || is_member (map (λ e. e.0) es) k) (less_not_tied k e.0 parts.0) ∙ not_below k es parts.1

pub sorted_distinct : {X : Type 0} (es : List (List ℕ × X)) → T (is_sorted (slice_cmp nat_cmp) es) → AreDistinct (map (λ e. e.0) es)
sorted_distinct [] h = tt
sorted_distinct (e ∷ es) h =
    let parts = both_true (below_all (slice_cmp nat_cmp) e.0 es) (is_sorted (slice_cmp nat_cmp) es) h in
    (not_below e.0 es parts.0, sorted_distinct es parts.1)

pub any_member : (k : List ℕ) (ks : List (List ℕ)) → list_any (eq_by_cmp (slice_cmp nat_cmp) k) ks ≡ is_member ks k
any_member k [] = refl
any_member k (q ∷ ks) = ap (λ b. eq_by_cmp (slice_cmp nat_cmp) k q || b) (any_member k ks)

-- a key is held just where it is among the keys
pub held_member : (m : States) (k : List ℕ) → is_some (get m k) ≡ is_member (keys m) k
held_member m k = contains_key-keys m k ∙ any_member k (keys m)

is_held_some : {X : Type 0} (o : Option X) → is_some o ≡ true → o ≢ None
is_held_some o h e = true≢false (sym h ∙ ap is_some e)

pub each_member : (P : List ℕ → Type 0) (ks : List (List ℕ)) → ((k : List ℕ) → is_member ks k ≡ true → P k) → Each P ks
each_member P [] f = tt
each_member P (k ∷ ks) f = (
  f k (ap (λ b. b || is_member ks k) (tied k)),
  each_member P ks (λ q h. f q (elim (eq_by_cmp (slice_cmp nat_cmp) q k) as (λ b. (b || is_member ks q) ≡ true) [ true ↦ refl | false ↦ h ])),
)

pub too_many : (most : ℕ) (a b cur : States) (key : List ℕ) → ComesFrom a b cur → (get a key ≢ None) ⊎ (get b key ≢ None) → get cur key ≡ None → most ≤ len cur → AreTooMany most a b
too_many most a b cur key from here none many =
    let count : length (keys cur) ≡ len cur = length-map (entries cur) (λ e. e.0) ∙ sym (len-entries cur) in
    record {
      held = key ∷ keys cur;
      distinct = (sym (held_member cur key) ∙ ap is_some none, sorted_distinct (entries cur) (entries_sorted cur));
      by_either = (here, each_member (λ k. (get a k ≢ None) ⊎ (get b k ≢ None)) (keys cur) (λ k h. from k (is_held_some (get cur k) (held_member cur k ∙ h))));
      many = omega (arith, count);
    }

-- ---- one side

-- a key, and the state that the side was asked to take, if any
abbrev pub Ask : Type 0
Ask = List ℕ × Option State

abbrev pub with_pair : List ℕ → Option State → List (List ℕ × State) → List (List ℕ × State)
with_pair key None ps = ps
with_pair key (Some s) ps = (key, s) ∷ ps

abbrev pub pairs_of : List Ask → List (List ℕ × State)
pairs_of [] = []
pairs_of (q ∷ qs) = with_pair q.0 q.1 (pairs_of qs)

abbrev pub ask_keys : List Ask → List (List ℕ)
ask_keys qs = map (λ q. q.0) qs

-- why a key was refused, of a side that held `x`
abbrev pub Cannot : Type 0 → States → List ℕ → State → Refusal → Type 0
Cannot many x key s StateTooLarge = (is_too_large s ≡ true) ⊎ (is_too_large (join (state_at x key) s) ≡ true)
Cannot many x key s Full = (get x key ≡ None) × many
Cannot many x key s DotClash = clashes (state_at x key) s ≡ true
Cannot many x key s refusal = Unit {0}

-- what became of a key, of a side that held `x` and now holds `new`
abbrev pub Took : Type 0 → States → States → List ℕ → Option State → Option (Result (Unit {0}) Refusal) → Type 0
Took many x new key None None = get new key ≡ get x key
Took many x new key (Some s) (Some (Ok done)) = (clashes (state_at x key) s ≡ false) × (state_at new key ≡ join (state_at x key) s)
Took many x new key (Some s) (Some (Err refusal)) = (get new key ≡ get x key) × Cannot many x key s refusal
Took many x new key s told = ⊥

abbrev pub EachTook : Type 0 → States → States → List Ask → List (Result (Unit {0}) Refusal) → Type 0
EachTook many x new [] [] = Unit {0}
EachTook many x new ((key, None) ∷ qs) ts = Took many x new key None None × EachTook many x new qs ts
EachTook many x new ((key, Some s) ∷ qs) (t ∷ ts) = Took many x new key (Some s) (Some t) × EachTook many x new qs ts
EachTook many x new qs ts = ⊥

pub same_state : (m n : States) (key : List ℕ) → get m key ≡ get n key → state_at m key ≡ state_at n key
same_state m n key e = ap (λ o. unwrap_or o empty_state) e

-- what a key's state is now does not matter for how it was refused
cannot_at : (most : ℕ) (a b x cur : States) (key : List ℕ) (s : State) (refusal : Refusal) → get cur key ≡ get x key → ComesFrom a b cur → (get a key ≢ None) ⊎ (get b key ≢ None) → CannotTake most cur key s refusal → Cannot (AreTooMany most a b) x key s refusal
cannot_at most a b x cur key s StateTooLarge e from here (inl h) = inl h
cannot_at most a b x cur key s StateTooLarge e from here (inr h) = inr (ap (λ u. is_too_large (join u s)) (sym (same_state cur x key e)) ∙ h)
cannot_at most a b x cur key s Full e from here h = (sym e ∙ h.0, too_many most a b cur key from here h.0 h.1)
cannot_at most a b x cur key s DotClash e from here h = ap (λ u. clashes u s) (sym (same_state cur x key e)) ∙ h
cannot_at most a b x cur key s refusal e from here h = tt

-- a push keeps that each key comes from one of two
from_pushed : (a b cur : States) (key : List ℕ) (s : State) → ComesFrom a b cur → (get a key ≢ None) ⊎ (get b key ≢ None) → ComesFrom a b (pushed cur key s)
from_pushed a b cur key s from here k some =
    elim (eq_by_cmp (slice_cmp nat_cmp) k key) as (λ t. eq_by_cmp (slice_cmp nat_cmp) k key ≡ t → (get a k ≢ None) ⊎ (get b k ≢ None)) [
      | true ↦ λ e. subst (λ q. (get a q ≢ None) ⊎ (get b q ≢ None)) (sym (keys_same k key ((Equal-is _).0 e))) here
      | false ↦ λ e. from k (λ none. some (get-pushed_other cur key s k e ∙ none))
    ] refl

symm_false : (k q : List ℕ) → eq_by_cmp (slice_cmp nat_cmp) k q ≡ false → eq_by_cmp (slice_cmp nat_cmp) q k ≡ false
symm_false k q e =
    elim (eq_by_cmp (slice_cmp nat_cmp) q k) as (λ b. eq_by_cmp (slice_cmp nat_cmp) q k ≡ b → b ≡ false) [
      | true ↦ λ h. absurd (true≢false (sym (tied k) ∙ ap (eq_by_cmp (slice_cmp nat_cmp) k) (sym (keys_same q k ((Equal-is _).0 h))) ∙ e))
      | false ↦ λ _. refl
    ] refl

-- a member is another key than one that is no member
pub apart_of : (ks : List (List ℕ)) (key k : List ℕ) → is_member ks key ≡ false → is_member ks k ≡ true → eq_by_cmp (slice_cmp nat_cmp) k key ≡ false
apart_of ks key k none some =
    elim (eq_by_cmp (slice_cmp nat_cmp) k key) as (λ b. eq_by_cmp (slice_cmp nat_cmp) k key ≡ b → b ≡ false) [
      | true ↦ λ h. absurd (true≢false (sym some ∙ ap (is_member ks) (keys_same k key ((Equal-is _).0 h)) ∙ none))
      | false ↦ λ _. refl
    ] refl

moved : (x cur : States) (key : List ℕ) (s : State) (qs : List Ask) → is_member (ask_keys qs) key ≡ false → Each (λ q. get cur q.0 ≡ get x q.0) qs → Each (λ q. get (pushed cur key s) q.0 ≡ get x q.0) qs
moved x cur key s [] none h = tt
moved x cur key s (q ∷ qs) none h = (
  get-pushed_other cur key s q.0 (symm_false key q.0 (or_left (eq_by_cmp (slice_cmp nat_cmp) key q.0) (is_member (ask_keys qs) key) none)) ∙ h.0,
  moved x cur key s qs (or_right (eq_by_cmp (slice_cmp nat_cmp) key q.0) (is_member (ask_keys qs) key) none) h.1,
)

pub record Phase (most : ℕ) (a b x cur new : States) (qs : List Ask) (ts : List (Result (Unit {0}) Refusal)) : Type 0 where
  pub took : EachTook (AreTooMany most a b) x new qs ts
  pub from : ComesFrom a b new
  pub rest : (key : List ℕ) → is_member (ask_keys qs) key ≡ false → get new key ≡ get cur key

pub phase : (most : ℕ) (a b x : States) (qs : List Ask) (cur : States) (ts : List (Result (Unit {0}) Refusal)) (new : States) → AreDistinct (ask_keys qs) → Each (λ q. get cur q.0 ≡ get x q.0) qs → Each (λ q. (get a q.0 ≢ None) ⊎ (get b q.0 ≢ None)) qs → ComesFrom a b cur → Pushes most cur (pairs_of qs) ts new → Phase most a b x cur new qs ts
phase most a b x [] cur [] new distinct same here from h = record { took = tt; from = subst (ComesFrom a b) (sym h) from; rest = λ key _. ap (λ m. get m key) h }
phase most a b x [] cur (t ∷ ts) new distinct same here from h = absurd h
phase most a b x ((key, None) ∷ qs) cur ts new distinct same here from h =
    let rest = phase most a b x qs cur ts new distinct.1 same.1 here.1 from h in
    record {
      took = (rest.rest key distinct.0 ∙ same.0, rest.took);
      from = rest.from;
      rest = λ k none. rest.rest k (or_right (eq_by_cmp (slice_cmp nat_cmp) k key) (is_member (ask_keys qs) k) none);
    }
phase most a b x ((key, Some s) ∷ qs) cur [] new distinct same here from h = absurd h
phase most a b x ((key, Some s) ∷ qs) cur (Ok done ∷ ts) new distinct same here from h =
    let was : state_at cur key ≡ state_at x key = same_state cur x key same.0 in
    let rest = phase most a b x qs (pushed cur key s) ts new distinct.1 (moved x cur key s qs distinct.0 same.1) here.1 (from_pushed a b cur key s from here.0) h.1 in
    record {
      took = ((ap (λ u. clashes u s) (sym was) ∙ h.0, same_state new (pushed cur key s) key (rest.rest key distinct.0) ∙ state-pushed cur key s ∙ ap (λ u. join u s) was), rest.took);
      from = rest.from;
      rest = λ k none. rest.rest k (or_right (eq_by_cmp (slice_cmp nat_cmp) k key) (is_member (ask_keys qs) k) none) ∙ get-pushed_other cur key s k (or_left (eq_by_cmp (slice_cmp nat_cmp) k key) (is_member (ask_keys qs) k) none);
    }
phase most a b x ((key, Some s) ∷ qs) cur (Err refusal ∷ ts) new distinct same here from h =
    let rest = phase most a b x qs cur ts new distinct.1 same.1 here.1 from h.1 in
    record {
      took = ((rest.rest key distinct.0 ∙ same.0, cannot_at most a b x cur key s refusal same.0 from here.0 h.0), rest.took);
      from = rest.from;
      rest = λ k none. rest.rest k (or_right (eq_by_cmp (slice_cmp nat_cmp) k key) (is_member (ask_keys qs) k) none);
    }
