-- Pushes one after the other.
use Rattle.std.proofs.Common.{◌≡◌, ◌≢◌, ℕ, ◌+◌, ◌<◌, false, true, refl, List, [], ◌∷◌, ◌++◌, length, take, get_or, sym, ap, subst, ◌∙◌}
use Rattle.std.specs.Prelude.{Result, Ok, Err, IfErr, OnOk}
use Rattle.std.proofs.Math.Seq.{take-append-add}
use Rattle.std.proofs.lemmas.List.{take_more}
use Rattle.mvd_dots.specs.declared.refusals.Refusal.{Refusal}
use Rattle.mvd_dots.specs.declared.refusals.Refusal.TheVariants.{BadPath, Broken, DotClash, Full, StateTooLarge}
use Rattle.mvd_keys.specs.State.{State, clashes}
use Rattle.mvd_keys.specs.Writes.{Key}
use Rattle.mvd_site.specs.Held.{States, state_at}
use Rattle.mvd_peer.specs.PushedStates.{pushed}
use Rattle.mvd_peer.specs.Sides.{is_of_key, is_of_question}
use Rattle.mvd_peer.specs.Windows.{CannotTake, EachTold, Pushes, PushesFirst, leaves_open}

abbrev Told : Type 0
Told = Result (Unit {0}) Refusal

-- pushes after pushes
pub pushes-append : (most : ℕ) (old mid new : States) (ps : List (Key × State)) (ts : List Told) (qs : List (Key × State)) (us : List Told) → Pushes most old ps ts mid → Pushes most mid qs us new → Pushes most old (ps ++ qs) (ts ++ us) new
pushes-append most old mid new [] [] qs us h i = subst (λ m. Pushes most m qs us new) h i
pushes-append most old mid new [] (t ∷ ts) qs us h i = absurd h
pushes-append most old mid new (p ∷ ps) [] qs us h i = absurd h
pushes-append most old mid new (p ∷ ps) (Ok done ∷ ts) qs us h i = (h.0, pushes-append most (pushed old p.0 p.1) mid new ps ts qs us h.1 i)
pushes-append most old mid new (p ∷ ps) (Err refusal ∷ ts) qs us h i = (h.0, pushes-append most old mid new ps ts qs us h.1 i)

-- one push
pub one_push : (most : ℕ) (mid new : States) (p : Key × State) (a : Told) → OnOk a (new ≡ pushed mid p.0 p.1) → OnOk a (clashes (state_at mid p.0) p.1 ≡ false) → IfErr a (λ _. new ≡ mid) → IfErr a (CannotTake most mid p.0 p.1) → Pushes most mid (p ∷ []) (a ∷ []) new
one_push most mid new p (Ok done) is apart same why = (apart, is)
one_push most mid new p (Err refusal) is apart same why = (why, same)

-- a side that did not say that it is broken is still faithful
pub still_true : (F E : Type 0) (a : Told) → OnOk a (F × E) → IfErr a (λ refusal. refusal ≢ Broken → F) → (a ≡ Err Broken → ⊥) → F
still_true F E (Ok done) ok err whole = ok.0
still_true F E (Err refusal) ok err whole = err (λ e. whole (ap Err e))

pub second_ok : (F E : Type 0) (a : Told) → OnOk a (F × E) → OnOk a E
second_ok F E (Ok done) ok = ok.1
second_ok F E (Err refusal) ok = tt

-- one push more, in turn
pub pushes_more : (most most' : ℕ) (old mid new : States) (all : List (Key × State)) (i : ℕ) (p : Key × State) (ts us : List Told) (a : Told) → i < length all → p ≡ get_or all i p → us ≡ ts ++ a ∷ [] → most' ≡ most
    → Pushes most old (take i all) ts mid → OnOk a (new ≡ pushed mid p.0 p.1) → OnOk a (clashes (state_at mid p.0) p.1 ≡ false) → IfErr a (λ _. new ≡ mid) → IfErr a (CannotTake most' mid p.0 p.1) → Pushes most old (take (i + 1) all) us new
pushes_more most most' old mid new all i p ts us a low at told same before is apart kept why =
    let more : take (i + 1) all ≡ take i all ++ p ∷ [] = take_more all i p low ∙ ap (λ x. take i all ++ x ∷ []) (sym at) in
    let one : Pushes most mid (p ∷ []) (a ∷ []) new = subst (λ n. Pushes n mid (p ∷ []) (a ∷ []) new) same (one_push most' mid new p a is apart kept why) in
    subst (λ qs. Pushes most old qs us new) (sym more) (subst (λ us. Pushes most old (take i all ++ p ∷ []) us new) (sym told) (pushes-append most old mid new (take i all) ts (p ∷ []) (a ∷ []) before one))

-- the first of several windows
pub first_later : (still : Type 0) (most : ℕ) (old mid new : States) (ps : List (Key × State)) (ts : List Told) (qs : List (Key × State)) → Pushes most old ps ts mid → PushesFirst still most mid qs new → PushesFirst still most old (ps ++ qs) new
first_later still most old mid new ps ts qs h f = (length ps + f.0, ts ++ f.1, f.2, subst (λ (xs : List (Key × State)). Pushes most old xs (ts ++ f.1) f.2) (sym (take-append-add ps qs f.0)) (pushes-append most old mid f.2 ps ts (take f.0 qs) f.1 h f.3), f.4)

-- no push is refused with 14
push_apart : (most : ℕ) (states : States) (key : Key) (s : State) (refusal : Refusal) → CannotTake most states key s refusal → is_of_key refusal ≡ false → is_of_question refusal ≡ false
push_apart most states key s BadPath why e = absurd why
push_apart most states key s refusal why e = e

pub pushes_apart : (most : ℕ) (old new : States) (ps : List (Key × State)) (ts : List Told) → Pushes most old ps ts new → EachTold (Unit {0}) (λ r. is_of_key r ≡ false → is_of_question r ≡ false) ts
pushes_apart most old new [] [] h = tt
pushes_apart most old new [] (t ∷ ts) h = absurd h
pushes_apart most old new (p ∷ ps) [] h = absurd h
pushes_apart most old new (p ∷ ps) (Ok done ∷ ts) h = (tt, pushes_apart most (pushed old p.0 p.1) new ps ts h.1)
pushes_apart most old new (p ∷ ps) (Err refusal ∷ ts) h = (push_apart most old p.0 p.1 refusal h.0, pushes_apart most old new ps ts h.1)

-- ---- refusals that leave open whether a push was taken

pub open_not_of_key : (refusal : Refusal) → leaves_open refusal ≡ true → is_of_question refusal ≡ false
open_not_of_key BadPath e = absurd (cc)
open_not_of_key StateTooLarge e = absurd (cc)
open_not_of_key Full e = absurd (cc)
open_not_of_key DotClash e = absurd (cc)
open_not_of_key refusal e = refl

-- any other is not that the side is broken, and nothing was changed
pub not_broken : {A : Type 0} (a : Result A Refusal) → IfErr a (λ refusal. leaves_open refusal ≡ false) → a ≡ Err Broken → ⊥
not_broken a h e = let never : true ≡ false = subst (λ a. IfErr a (λ refusal. leaves_open refusal ≡ false)) e h in absurd (cc)
