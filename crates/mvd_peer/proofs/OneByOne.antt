-- Questions one after the other.
use Rattle.std.proofs.Common.{◌≡◌, ◌⊎◌, inl, inr, ℕ, ◌+◌, ◌<◌, ◌≤◌, List, [], ◌∷◌, ◌++◌, length, take, get_or, sym, ap, subst, ◌∙◌, arith, length-append}
use Rattle.std.specs.Prelude.{Result, Ok, Err, IfErr, IfOk, OnErr, OnOk, IsErr}
use Rattle.std.specs.Result.{IsErrAnd}
use Rattle.std.proofs.lemmas.Result.{err_from_is_err_and}
use Rattle.std.proofs.lemmas.List.{length-take-le, take_all, take_more}
use Rattle.mvd_dots.specs.declared.refusals.Refusal.{Refusal}
use Rattle.mvd_dots.specs.declared.refusals.Refusal.TheVariants.{Memory}
use Rattle.mvd_peer.specs.Sides.{HasAnswered, HasRefused, Reaches}
use Rattle.mvd_peer.specs.Windows.{Asked, EachAnswer, EachRefusal, EachTold, Ends, ForEach, manner}

-- what is asked of a side, part by part
abbrev pub AskedBy : {S Q A : Type 0} → (ℕ → S → S → Type 0) → (S → Refusal → Type 0) → (S → Type 0) → (May Right : Q → A → Type 0) → (Q → Refusal → Type 0) → Type 0 → List Q → List (Result A Refusal) → (old new : S) → Type 0
AskedBy follows can_refuse can_answer May Right Refuses was_faithful =
    Asked (manner follows can_refuse can_answer) (record { may = May; was_faithful = was_faithful; right = Right; refuses = Refuses })

pub for_each_more : {Q A : Type 0} (P : Q → A → Type 0) (qs : List Q) (ts : List A) (q : Q) (a : A) → ForEach P qs ts → P q a → ForEach P (qs ++ q ∷ []) (ts ++ a ∷ [])
for_each_more P [] [] q a h i = (i, tt)
for_each_more P [] (t ∷ ts) q a h i = absurd h
for_each_more P (p ∷ qs) [] q a h i = absurd h
for_each_more P (p ∷ qs) (t ∷ ts) q a h i = (h.0, for_each_more P qs ts q a h.1 i)

-- in turn
pub for_each_at : {Q A : Type 0} (P : Q → A → Type 0) (all : List Q) (i : ℕ) (q : Q) (ts us : List A) (a : A) → i < length all → q ≡ get_or all i q → us ≡ ts ++ a ∷ [] → ForEach P (take i all) ts → P q a → ForEach P (take (i + 1) all) us
for_each_at P all i q ts us a low at pushed before is =
    let more : take (i + 1) all ≡ take i all ++ q ∷ [] = take_more all i q low ∙ ap (λ x. take i all ++ x ∷ []) (sym at) in
    subst (λ qs. ForEach P qs us) (sym more) (subst (ForEach P (take i all ++ q ∷ [])) (sym pushed) (for_each_more P (take i all) ts q a before is))

-- to the end
pub for_each_all : {Q A : Type 0} (P : Q → A → Type 0) (all : List Q) (i : ℕ) (ts : List A) → length all ≤ i → ForEach P (take i all) ts → ForEach P all ts
for_each_all P all i ts end = subst (λ qs. ForEach P qs ts) (take_all i all end)

pub each_more : {Q A : Type 0} (P : Q → A → Type 0) (qs : List Q) (ts : List (Result A Refusal)) (q : Q) (a : Result A Refusal) → EachAnswer P qs ts → EachAnswer P (q ∷ []) (a ∷ []) → EachAnswer P (qs ++ q ∷ []) (ts ++ a ∷ [])
each_more P [] [] q a h i = i
each_more P [] (Ok x ∷ ts) q a h i = absurd h
each_more P [] (Err x ∷ ts) q a h i = absurd h
each_more P (p ∷ qs) [] q a h i = absurd h
each_more P (p ∷ qs) (Ok x ∷ ts) q a h i = (h.0, each_more P qs ts q a h.1 i)
each_more P (p ∷ qs) (Err x ∷ ts) q a h i = each_more P qs ts q a h i

pub refusal_more : {Q A : Type 0} (P : Q → Refusal → Type 0) (qs : List Q) (ts : List (Result A Refusal)) (q : Q) (a : Result A Refusal) → EachRefusal P qs ts → EachRefusal P (q ∷ []) (a ∷ []) → EachRefusal P (qs ++ q ∷ []) (ts ++ a ∷ [])
refusal_more P [] [] q a h i = i
refusal_more P [] (Ok x ∷ ts) q a h i = absurd h
refusal_more P [] (Err x ∷ ts) q a h i = absurd h
refusal_more P (p ∷ qs) [] q a h i = absurd h
refusal_more P (p ∷ qs) (Ok x ∷ ts) q a h i = refusal_more P qs ts q a h i
refusal_more P (p ∷ qs) (Err x ∷ ts) q a h i = (h.0, refusal_more P qs ts q a h.1 i)

pub one_refusal : {Q A : Type 0} (P : Q → Refusal → Type 0) (q : Q) (a : Result A Refusal) → IfErr a (P q) → EachRefusal P (q ∷ []) (a ∷ [])
one_refusal P q (Ok x) h = tt
one_refusal P q (Err x) h = (h, tt)

pub told_more : {A : Type 0} (P : Type 0) (R : Refusal → Type 0) (ts : List (Result A Refusal)) (a : Result A Refusal) → EachTold P R ts → EachTold P R (a ∷ []) → EachTold P R (ts ++ a ∷ [])
told_more P R [] a h i = i
told_more P R (Ok x ∷ ts) a h i = (h.0, told_more P R ts a h.1 i)
told_more P R (Err x ∷ ts) a h i = (h.0, told_more P R ts a h.1 i)

pub told_still : {A : Type 0} (P Q : Type 0) (R T : Refusal → Type 0) (ts : List (Result A Refusal)) → (P → Q) → ((r : Refusal) → R r → T r) → EachTold P R ts → EachTold Q T ts
told_still P Q R T [] f g h = tt
told_still P Q R T (Ok x ∷ ts) f g h = (f h.0, told_still P Q R T ts f g h.1)
told_still P Q R T (Err x ∷ ts) f g h = (g x h.0, told_still P Q R T ts f g h.1)

-- what one question tells
pub one_told : {A : Type 0} (P : Type 0) (R : Refusal → Type 0) (a : Result A Refusal) → OnOk a P → IfErr a R → EachTold P R (a ∷ [])
one_told P R (Ok x) h i = (h, tt)
one_told P R (Err x) h i = (i, tt)

pub one_answer : {Q A : Type 0} (P : Q → A → Type 0) (q : Q) (a : Result A Refusal) → IfOk a (P q) → EachAnswer P (q ∷ []) (a ∷ [])
one_answer P q (Ok x) h = (h, tt)
one_answer P q (Err x) h = tt

ok_still : {A P Q : Type 0} (a : Result A Refusal) → OnOk a P → (P → Q) → OnOk a Q
ok_still (Ok x) h f = f h
ok_still (Err x) h f = tt

err_still : {A : Type 0} {P Q : Refusal → Type 0} (a : Result A Refusal) → IfErr a P → ((r : Refusal) → P r → Q r) → IfErr a Q
err_still (Ok x) h f = tt
err_still (Err x) h f = f x h

-- nothing is said of an answer
pub always : {A : Type 0} (a : Result A Refusal) → IfOk a (λ _. Unit {0})
always (Ok x) = tt
always (Err x) = tt

pub both_ok : {A : Type 0} (P Q : A → Type 0) (a : Result A Refusal) → IfOk a P → IfOk a Q → IfOk a (λ x. P x × Q x)
both_ok P Q (Ok x) p q = (p, q)
both_ok P Q (Err x) p q = tt

-- the error that a `?` hands on
pub at_err : {X : Type 0} (Q : Refusal → Type 0) (r : Result X Refusal) (P : Refusal → Type 0) → IsErr r × IsErrAnd r P → ((e : Refusal) → P e → Q e) → IfErr r Q
at_err Q r P h f = let p = err_from_is_err_and r h.1 in subst (λ r. IfErr r Q) (sym p.1) (f p.0 p.2)

pub on_err : {X Q : Type 0} (r : Result X Refusal) (P : Refusal → Type 0) → IsErr r × IsErrAnd r P → Q → OnErr r Q
on_err {X} {Q} r P h q = let p = err_from_is_err_and r h.1 in subst (λ r. OnErr r Q) (sym p.1) q

pub few_more : {X : Type 0} (xs : List X) (i : ℕ) → i < length xs → length (take i xs) + 1 ≤ length xs
few_more xs i h = let n = length-take-le i xs (omega arith) in omega arith

-- a side whose questions are followed by questions
module _ {S : Type 0} (follows : ℕ → S → S → Type 0) (can_refuse : S → Refusal → Type 0) (can_answer : S → Type 0) (self : (s : S) → follows 0 s s) (on : (m n : ℕ) (old mid new : S) → follows m old mid → follows n mid new → follows (m + n) old new) where
  -- what was told on the way is still told
  pub refused_on : (old mid new : S) (refusal : Refusal) → Reaches follows mid new → HasRefused follows can_refuse old mid refusal → HasRefused follows can_refuse old new refusal
  refused_on old mid new refusal r (at, before, is, after) = (at, before, is, (after.0 + r.0, on after.0 r.0 at mid new after.1 r.1))

  pub answered_on : (old mid new : S) → Reaches follows mid new → HasAnswered follows can_answer old mid → HasAnswered follows can_answer old new
  answered_on old mid new r (at, before, is, after) = (at, before, is, (after.0 + r.0, on after.0 r.0 at mid new after.1 r.1))

  pub refused_now : (old mid new : S) (refusal : Refusal) → Reaches follows old mid → Reaches follows mid new → can_refuse new refusal → HasRefused follows can_refuse old new refusal
  refused_now old mid new refusal p q is = (new, (p.0 + q.0, on p.0 q.0 old mid new p.1 q.1), is, (0, self new))

  pub answered_now : (old mid new : S) → Reaches follows old mid → Reaches follows mid new → can_answer new → HasAnswered follows can_answer old new
  answered_now old mid new p q is = (new, (p.0 + q.0, on p.0 q.0 old mid new p.1 q.1), is, (0, self new))

  -- and one was the last
  module _ (most n : ℕ) (old mid new : S) (before : follows n old mid) (step : follows 1 mid new) (few : n + 1 ≤ most) where
    pub last_made : (refusal : Refusal) → can_refuse new refusal ⊎ (refusal ≡ Memory) → Ends follows can_refuse most old new refusal
    last_made refusal why = record {
      count = (n + 1, few, on n 1 old mid new before step);
      cause = elim why [ inl told ↦ inl (refused_now old mid new refusal (n, before) (1, step) told) | inr memory ↦ inr memory ];
    }

  -- one question more
  module _ {Q A : Type 0} (May Right : Q → A → Type 0) {Refuses : Q → Refusal → Type 0} (T : Type 0) (old mid new : S) (qs : List Q) (ts : List (Result A Refusal)) (q : Q) (a : Result A Refusal) where
    pub one_more : AskedBy follows can_refuse can_answer May Right Refuses T qs ts old mid → follows 1 mid new → IfOk a (May q) → (T → IfOk a (Right q)) → IfErr a (can_refuse new) → OnOk a (can_answer new) → (T → IfErr a (Refuses q)) → AskedBy follows can_refuse can_answer May Right Refuses T (qs ++ q ∷ []) (ts ++ a ∷ []) old new
    one_more before step may right refuses answers not_of_question =
        let way : Reaches follows old mid = (length qs, before.count) in
        let last : Reaches follows mid new = (1, step) in
        let longer = length-append qs (q ∷ []) in
        let R = HasRefused follows can_refuse old new in
        let U = HasAnswered follows can_answer old new in
        record {
          count = subst (λ n. follows n old new) (sym longer) (on (length qs) 1 old mid new before.count step);
          may = each_more May qs ts q a before.may (one_answer May q a may);
          right = λ t. each_more Right qs ts q a (before.right t) (one_answer Right q a (right t));
          told = told_more U R ts a
              (told_still (HasAnswered follows can_answer old mid) U (HasRefused follows can_refuse old mid) R ts (answered_on old mid new last) (λ r. refused_on old mid new r last) before.told)
              (one_told U R a (ok_still a answers (answered_now old mid new way last)) (err_still a refuses (λ r. refused_now old mid new r way last)));
          not_of_question = λ t. refusal_more Refuses qs ts q a (before.not_of_question t) (one_refusal Refuses q a (not_of_question t));
        }

  -- in turn
  pub one_more_at : {Q A : Type 0} (May Right : Q → A → Type 0) {Refuses : Q → Refusal → Type 0} (T : Type 0) (old mid new : S) (all : List Q) (i : ℕ) (q : Q) (ts us : List (Result A Refusal)) (a : Result A Refusal) → i < length all → q ≡ get_or all i q → us ≡ ts ++ a ∷ []
      → AskedBy follows can_refuse can_answer May Right Refuses T (take i all) ts old mid → follows 1 mid new → IfOk a (May q) → (T → IfOk a (Right q)) → IfErr a (can_refuse new) → OnOk a (can_answer new) → (T → IfErr a (Refuses q))
      → AskedBy follows can_refuse can_answer May Right Refuses T (take (i + 1) all) us old new
  one_more_at May Right {Refuses} T old mid new all i q ts us a low at pushed before step may right refuses answers not_of_question =
      let more : take (i + 1) all ≡ take i all ++ q ∷ [] = take_more all i q low ∙ ap (λ x. take i all ++ x ∷ []) (sym at) in
      subst (λ qs. AskedBy follows can_refuse can_answer May Right Refuses T qs us old new) (sym more)
      (subst (λ us. AskedBy follows can_refuse can_answer May Right Refuses T (take i all ++ q ∷ []) us old new) (sym pushed)
      (one_more May Right T old mid new (take i all) ts q a before step may right refuses answers not_of_question))
