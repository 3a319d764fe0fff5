-- What a side took of the keys of a window that was cut off.
use Rattle.std.proofs.Common.{◌≡◌, ℕ, zero, suc, Bool, true, false, ◌||◌, List, [], ◌∷◌, ◌++◌, refl, sym, ap, subst, ◌∙◌, Some, None, true≢false}
use Rattle.std.specs.Prelude.{Result, Ok, Err, IfSome, MatchBool, take}
use Rattle.std.specs.Ordering.{nat_cmp, eq_by_cmp}
use Rattle.std.specs.Cmp.{Equal-is}
use Rattle.std.specs.Cmp.Lexicographic.{slice_cmp}
use Rattle.std.specs.FinMap.{get}
use Rattle.mvd_dots.specs.declared.refusals.Refusal.{Refusal}
use Rattle.mvd_keys.specs.State.{State, join}
use Rattle.mvd_tree.proofs.Under.{keys_same}
use Rattle.mvd_site.specs.Held.{States, state_at}
use Rattle.mvd_sync.specs.Session.{AreDistinct, CanMeet, HasJoined, IsIn, is_member}
use Rattle.mvd_peer.specs.PushedStates.{Each}
use Rattle.mvd_sync.proofs.Keys.{is_member-append, or_left, or_right}
use Rattle.mvd_sync.proofs.Taking.{Ask, EachTook, ask_keys, pairs_of, same_state}
use Rattle.mvd_sync.proofs.Positions.{JoinsBy}

abbrev Told : Type 0
Told = Result (Unit {0}) Refusal

-- ---- the first of the asks alone

abbrev pub cut : ℕ → List Ask → List Ask
cut n [] = []
cut n ((key, None) ∷ qs) = (key, None) ∷ cut n qs
cut zero ((key, Some s) ∷ qs) = (key, None) ∷ cut zero qs
cut (suc n) ((key, Some s) ∷ qs) = (key, Some s) ∷ cut n qs

pub cut_pairs : (n : ℕ) (qs : List Ask) → pairs_of (cut n qs) ≡ take n (pairs_of qs)
cut_pairs zero [] = refl
cut_pairs (suc n) [] = refl
cut_pairs zero ((key, None) ∷ qs) = cut_pairs zero qs
cut_pairs (suc n) ((key, None) ∷ qs) = cut_pairs (suc n) qs
cut_pairs zero ((key, Some s) ∷ qs) = cut_pairs zero qs
cut_pairs (suc n) ((key, Some s) ∷ qs) = ap (λ ps. (key, s) ∷ ps) (cut_pairs n qs)

pub cut_keys : (n : ℕ) (qs : List Ask) → ask_keys (cut n qs) ≡ ask_keys qs
cut_keys n [] = refl
cut_keys zero ((key, None) ∷ qs) = ap (λ (ks : List (List ℕ)). key ∷ ks) (cut_keys zero qs)
cut_keys (suc n) ((key, None) ∷ qs) = ap (λ (ks : List (List ℕ)). key ∷ ks) (cut_keys (suc n) qs)
cut_keys zero ((key, Some s) ∷ qs) = ap (λ (ks : List (List ℕ)). key ∷ ks) (cut_keys zero qs)
cut_keys (suc n) ((key, Some s) ∷ qs) = ap (λ (ks : List (List ℕ)). key ∷ ks) (cut_keys n qs)

pub cut_each : (P : List ℕ → Type 0) (n : ℕ) (qs : List Ask) → Each (λ (q : Ask). P q.0) qs → Each (λ (q : Ask). P q.0) (cut n qs)
cut_each P n [] h = tt
cut_each P zero ((key, None) ∷ qs) h = (h.0, cut_each P zero qs h.1)
cut_each P (suc n) ((key, None) ∷ qs) h = (h.0, cut_each P (suc n) qs h.1)
cut_each P zero ((key, Some s) ∷ qs) h = (h.0, cut_each P zero qs h.1)
cut_each P (suc n) ((key, Some s) ∷ qs) h = (h.0, cut_each P n qs h.1)

-- ---- what was taken

abbrev pub took_keys : List Ask → List Told → List (List ℕ)
took_keys [] ts = []
took_keys ((key, None) ∷ qs) ts = took_keys qs ts
took_keys ((key, Some s) ∷ qs) [] = []
took_keys ((key, Some s) ∷ qs) (Ok done ∷ ts) = key ∷ took_keys qs ts
took_keys ((key, Some s) ∷ qs) (Err refusal ∷ ts) = took_keys qs ts

either_no : (a b : Bool) → a ≡ false → b ≡ false → (a || b) ≡ false
either_no true b e f = absurd (true≢false e)
either_no false b e f = f

took_in : (k : List ℕ) (qs : List Ask) (ts : List Told) → is_member (ask_keys qs) k ≡ false → is_member (took_keys qs ts) k ≡ false
took_in k [] ts out = refl
took_in k ((key, None) ∷ qs) ts out = took_in k qs ts (or_right (eq_by_cmp (slice_cmp nat_cmp) k key) (is_member (ask_keys qs) k) out)
took_in k ((key, Some s) ∷ qs) [] out = refl
took_in k ((key, Some s) ∷ qs) (Ok done ∷ ts) out =
    either_no (eq_by_cmp (slice_cmp nat_cmp) k key) (is_member (took_keys qs ts) k) (or_left (eq_by_cmp (slice_cmp nat_cmp) k key) (is_member (ask_keys qs) k) out)
    (took_in k qs ts (or_right (eq_by_cmp (slice_cmp nat_cmp) k key) (is_member (ask_keys qs) k) out))
took_in k ((key, Some s) ∷ qs) (Err refusal ∷ ts) out = took_in k qs ts (or_right (eq_by_cmp (slice_cmp nat_cmp) k key) (is_member (ask_keys qs) k) out)

-- what is not among the keys asked is not among those taken
pub took_asked : (k : List ℕ) (qs : List Ask) (ts : List Told) → is_member (took_keys qs ts) k ≡ true → is_member (ask_keys qs) k ≡ true
took_asked k qs ts h =
    elim (is_member (ask_keys qs) k) as (λ t. is_member (ask_keys qs) k ≡ t → t ≡ true) [
      | true ↦ λ _. refl
      | false ↦ λ out. absurd (true≢false (sym h ∙ took_in k qs ts out))
    ] refl

-- of two sides that held `a` and `b`, one that holds `x` is asked to take what makes the join
abbrev pub MakesJoin : States → States → States → List ℕ → State → Type 0
MakesJoin a b x key s = CanMeet a b key × (join (state_at x key) s ≡ join (state_at a key) (state_at b key))

abbrev pub IsAsk : States → States → States → Ask → Type 0
IsAsk a b x q = IfSome q.1 (MakesJoin a b x q.0)

pub cut_some : (R : List ℕ → State → Type 0) (n : ℕ) (qs : List Ask) → Each (λ (q : Ask). IfSome q.1 (R q.0)) qs → Each (λ (q : Ask). IfSome q.1 (R q.0)) (cut n qs)
cut_some R n [] h = tt
cut_some R zero ((key, None) ∷ qs) h = (tt, cut_some R zero qs h.1)
cut_some R (suc n) ((key, None) ∷ qs) h = (tt, cut_some R (suc n) qs h.1)
cut_some R zero ((key, Some s) ∷ qs) h = (tt, cut_some R zero qs h.1)
cut_some R (suc n) ((key, Some s) ∷ qs) h = (h.0, cut_some R n qs h.1)

-- each key that was taken was asked
pub took_each : (P : List ℕ → Type 0) (qs : List Ask) (ts : List Told) → Each (λ (q : Ask). IfSome q.1 (λ _. P q.0)) qs → Each P (took_keys qs ts)
took_each P [] ts h = tt
took_each P ((key, None) ∷ qs) ts h = took_each P qs ts h.1
took_each P ((key, Some s) ∷ qs) [] h = tt
took_each P ((key, Some s) ∷ qs) (Ok done ∷ ts) h = (h.0, took_each P qs ts h.1)
took_each P ((key, Some s) ∷ qs) (Err refusal ∷ ts) h = took_each P qs ts h.1

-- it has the join of the keys that it took, and keeps its states of the others
abbrev pub IsMet : States → States → States → States → List (List ℕ) → List ℕ → Type 0
IsMet a b x new taken k = MatchBool (is_member taken k) (CanMeet a b k × (state_at new k ≡ join (state_at a k) (state_at b k))) (get new k ≡ get x k)

module _ (many : Type 0) (a b x new : States) where
  abbrev IsMetBy : Bool → List ℕ → Type 0
  IsMetBy t k = MatchBool t (CanMeet a b k × (state_at new k ≡ join (state_at a k) (state_at b k))) (get new k ≡ get x k)

  -- a key of which this is so comes first
  met_first : (key k : List ℕ) (rest : Bool) → eq_by_cmp (slice_cmp nat_cmp) k key ≡ true → CanMeet a b key × (state_at new key ≡ join (state_at a key) (state_at b key)) → IsMetBy (eq_by_cmp (slice_cmp nat_cmp) k key || rest) k
  met_first key k rest e h =
      let same : k ≡ key = keys_same k key ((Equal-is _).0 e) in
      subst (λ t. IsMetBy (t || rest) k) (sym e) (subst (λ q. CanMeet a b q × (state_at new q ≡ join (state_at a q) (state_at b q))) (sym same) h)

  kept_first : (key k : List ℕ) (t : Bool) → eq_by_cmp (slice_cmp nat_cmp) k key ≡ true → t ≡ false → get new key ≡ get x key → IsMetBy t k
  kept_first key k t e out h =
      let same : k ≡ key = keys_same k key ((Equal-is _).0 e) in
      subst (λ t. IsMetBy t k) (sym out) (subst (λ q. get new q ≡ get x q) (sym same) h)

  -- the list with a key, or as it is
  later : (key k : List ℕ) (t : Bool) → eq_by_cmp (slice_cmp nat_cmp) k key ≡ false → IsMetBy t k → IsMetBy (eq_by_cmp (slice_cmp nat_cmp) k key || t) k
  later key k t e h = subst (λ b. IsMetBy (b || t) k) (sym e) h

  by_key : (key k : List ℕ) (R : Type 0) → (eq_by_cmp (slice_cmp nat_cmp) k key ≡ true → R) → (eq_by_cmp (slice_cmp nat_cmp) k key ≡ false → R) → R
  by_key key k R f g = elim (eq_by_cmp (slice_cmp nat_cmp) k key) as (λ t. eq_by_cmp (slice_cmp nat_cmp) k key ≡ t → R) [ true ↦ λ e. f e | false ↦ λ e. g e ] refl

  not_taken : (key k : List ℕ) (qs : List Ask) (ts : List Told) → is_member (ask_keys qs) key ≡ false → eq_by_cmp (slice_cmp nat_cmp) k key ≡ true → is_member (took_keys qs ts) k ≡ false
  not_taken key k qs ts out e = took_in k qs ts (ap (is_member (ask_keys qs)) (keys_same k key ((Equal-is _).0 e)) ∙ out)

  pub took_at : (qs : List Ask) (ts : List Told) → AreDistinct (ask_keys qs) → Each (IsAsk a b x) qs → EachTook many x new qs ts → (k : List ℕ) → (is_member (ask_keys qs) k ≡ false → get new k ≡ get x k) → IsMet a b x new (took_keys qs ts) k
  took_at [] ts distinct asks took k rest = rest refl
  took_at ((key, None) ∷ qs) ts distinct asks took k rest =
      by_key key k (IsMet a b x new (took_keys qs ts) k)
      (λ e. kept_first key k (is_member (took_keys qs ts) k) e (not_taken key k qs ts distinct.0 e) took.0)
      (λ e. took_at qs ts distinct.1 asks.1 took.1 k (λ out. rest (either_no (eq_by_cmp (slice_cmp nat_cmp) k key) (is_member (ask_keys qs) k) e out)))
  took_at ((key, Some s) ∷ qs) [] distinct asks took k rest = absurd took
  took_at ((key, Some s) ∷ qs) (Ok done ∷ ts) distinct asks took k rest =
      by_key key k (IsMet a b x new (key ∷ took_keys qs ts) k)
      (λ e. met_first key k (is_member (took_keys qs ts) k) e (asks.0.0, took.0.1 ∙ asks.0.1))
      (λ e. later key k (is_member (took_keys qs ts) k) e (took_at qs ts distinct.1 asks.1 took.1 k (λ out. rest (either_no (eq_by_cmp (slice_cmp nat_cmp) k key) (is_member (ask_keys qs) k) e out))))
  took_at ((key, Some s) ∷ qs) (Err refusal ∷ ts) distinct asks took k rest =
      by_key key k (IsMet a b x new (took_keys qs ts) k)
      (λ e. kept_first key k (is_member (took_keys qs ts) k) e (not_taken key k qs ts distinct.0 e) took.0.0)
      (λ e. took_at qs ts distinct.1 asks.1 took.1 k (λ out. rest (either_no (eq_by_cmp (slice_cmp nat_cmp) k key) (is_member (ask_keys qs) k) e out)))

-- ---- more keys are joined

by_bool : (b : Bool) (R : Type 0) → (b ≡ true → R) → (b ≡ false → R) → R
by_bool true R f g = f refl
by_bool false R f g = g refl

at_true : (b : Bool) (P N : Type 0) → b ≡ true → MatchBool b P N → P
at_true true P N e h = h
at_true false P N e h = absurd (true≢false (sym e))

at_false : (b : Bool) (P N : Type 0) → b ≡ false → MatchBool b P N → N
at_false true P N e h = absurd (true≢false e)
at_false false P N e h = h

put_true : (b : Bool) (P N : Type 0) → b ≡ true → P → MatchBool b P N
put_true true P N e p = p
put_true false P N e p = absurd (true≢false (sym e))

put_false : (b : Bool) (P N : Type 0) → b ≡ false → N → MatchBool b P N
put_false true P N e n = absurd (true≢false e)
put_false false P N e n = n

or_true : (a b : Bool) → a ≡ true → (a || b) ≡ true
or_true true b e = refl
or_true false b e = absurd (true≢false (sym e))

or_later : (a b : Bool) → b ≡ true → (a || b) ≡ true
or_later true b e = refl
or_later false b e = e

in_either : (ks js : List (List ℕ)) (k : List ℕ) (R : Type 0) → is_member (ks ++ js) k ≡ true → (is_member ks k ≡ true → R) → (is_member js k ≡ true → R) → R
in_either ks js k R h f g =
    by_bool (is_member ks k) R f (λ out. g (ap (λ b. b || is_member js k) (sym out) ∙ sym (is_member-append ks js k) ∙ h))

module _ (a b : States) where
  -- a side had these keys joined, and more are
  joined_on : (old x new : States) (ks js : List (List ℕ)) → HasJoined ks a b old x → ((k : List ℕ) → IsMet a b x new js k) → ((k : List ℕ) → is_member ks k ≡ true → is_member js k ≡ false) → HasJoined (ks ++ js) a b old new
  joined_on old x new ks js was met apart k =
      let J = state_at new k ≡ join (state_at a k) (state_at b k) in
      let N = get new k ≡ get old k in
      let M = CanMeet a b k × J in
      let K = get new k ≡ get x k in
      subst (λ t. MatchBool t J N) (sym (is_member-append ks js k))
      (by_bool (is_member ks k) (MatchBool (is_member ks k || is_member js k) J N)
      (λ yes. put_true (is_member ks k || is_member js k) J N (or_true (is_member ks k) (is_member js k) yes)
      (same_state new x k (at_false (is_member js k) M K (apart k yes) (met k)) ∙ at_true (is_member ks k) (state_at x k ≡ join (state_at a k) (state_at b k)) (get x k ≡ get old k) yes (was k)))
      (λ out. by_bool (is_member js k) (MatchBool (is_member ks k || is_member js k) J N)
      (λ yes. put_true (is_member ks k || is_member js k) J N (or_later (is_member ks k) (is_member js k) yes) (at_true (is_member js k) M K yes (met k)).1)
      (λ out'. put_false (is_member ks k || is_member js k) J N (either_no (is_member ks k) (is_member js k) out out')
      (at_false (is_member js k) M K out' (met k) ∙ at_false (is_member ks k) (state_at x k ≡ join (state_at a k) (state_at b k)) (get x k ≡ get old k) out (was k)))))

  module _ (x y x' y' : States) (joined given more_joined more_given : List (List ℕ)) (was : (T U : Type 0) → JoinsBy T U a b x y joined given)
      (local_met : (k : List ℕ) → IsMet a b x x' more_joined k) (peer_met : (k : List ℕ) → IsMet a b y y' more_given k)
      (part : (k : List ℕ) → is_member more_given k ≡ true → is_member more_joined k ≡ true) (apart : (k : List ℕ) → is_member joined k ≡ true → is_member more_joined k ≡ false) where
    apart_given : (k : List ℕ) → is_member given k ≡ true → is_member more_given k ≡ false
    apart_given k h =
        by_bool (is_member more_given k) (is_member more_given k ≡ false)
        (λ yes. absurd (true≢false (sym (part k yes) ∙ apart k ((was (Unit {0}) (Unit {0})).part k h)))) (λ out. out)

    pub joins_more : (T U : Type 0) → JoinsBy T U a b x' y' (joined ++ more_joined) (given ++ more_given)
    joins_more T U =
        let old = was (Unit {0}) (Unit {0}) in
        record {
          part = λ k h. in_either given more_given k (IsIn (joined ++ more_joined) k) h
              (λ yes. is_member-append joined more_joined k ∙ or_true (is_member joined k) (is_member more_joined k) (old.part k yes))
              (λ yes. is_member-append joined more_joined k ∙ or_later (is_member joined k) (is_member more_joined k) (part k yes));
          met = λ k h. in_either joined more_joined k (CanMeet a b k) h (λ yes. old.met k yes)
              (λ yes. (at_true (is_member more_joined k) (CanMeet a b k × (state_at x' k ≡ join (state_at a k) (state_at b k))) (get x' k ≡ get x k) yes (local_met k)).0);
          local_side = λ _. joined_on a x x' joined more_joined (old.local_side tt) local_met apart;
          peer_side = λ _. joined_on b y y' given more_given (old.peer_side tt) peer_met apart_given;
        }

-- a side that said that it is broken need not be faithful any more
pub joins_if : (T U : Type 0) (a b x y x' y' : States) (joined given : List (List ℕ)) → (T → x' ≡ x) → (U → y' ≡ y) → JoinsBy T U a b x y joined given → JoinsBy T U a b x' y' joined given
joins_if T U a b x y x' y' joined given e f j = record {
  part = j.part;
  met = j.met;
  local_side = λ t. subst (λ m. HasJoined joined a b a m) (sym (e t)) (j.local_side t);
  peer_side = λ u. subst (λ m. HasJoined given a b b m) (sym (f u)) (j.peer_side u);
}
