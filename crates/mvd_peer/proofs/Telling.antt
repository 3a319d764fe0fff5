-- What a live side tells, question by question.
use Rattle.std.proofs.Common.{◌≡◌, ℕ, ◌+◌, ◌<◌, List, [], ◌∷◌, ◌++◌, length, take, get_or, sym, ap, subst, ◌∙◌, false}
use Rattle.std.specs.Prelude.{Result, Ok, Err, IfErr, OnOk}
use Rattle.std.proofs.lemmas.List.{take_more}
use Rattle.mvd_dots.specs.declared.refusals.Refusal.{Refusal}
use Rattle.mvd_keys.specs.State.{IsValid, State, clashes}
use Rattle.mvd_keys.specs.Writes.{Key}
use Rattle.mvd_keys.proofs.Joins.{join_repeats}
use Rattle.mvd_site.specs.Held.{AreHeld, States, state_at}
use Rattle.mvd_peer.specs.Live.{Grows}
use Rattle.mvd_peer.specs.PushedStates.{Each, pushed}
use Rattle.mvd_peer.specs.Telling.{TellsEach, TellsLive, TellsPush}
use Rattle.mvd_peer.specs.Windows.{CannotTake, Pushes}
use Rattle.mvd_peer.proofs.Growths.{grows_on, has_pushed, pushed_grows}
use Rattle.mvd_peer.proofs.JoinLaws.{valid_at}

-- ---- what is held only grows

pub grows_over : (a b c : States) → AreHeld a → AreHeld b → AreHeld c → Grows a b → Grows b c → Grows a c
grows_over a b c p q r up on = grows_on a b c (valid_at a p) (valid_at b q) (valid_at c r) up on

pub grows_same : (held : States) → AreHeld held → Grows held held
grows_same held form key = join_repeats (state_at held key) (valid_at held form key)

-- ---- one after the other

-- what is told later is told since before
pub each_since : {Q A : Type 0} (Right : States → Q → A → Type 0) (rs : List Q) (more : List A) (old mid new : States) (later : List States) → AreHeld old → AreHeld mid → AreHeld new → Grows old mid → TellsEach Right rs more mid later new → TellsEach Right rs more old later new
each_since Right [] [] old mid new [] p q r up tells = grows_over old mid new p q r up tells
each_since Right [] [] old mid new (m ∷ later) p q r up tells = absurd tells
each_since Right [] (a ∷ more) old mid new later p q r up tells = absurd tells
each_since Right (x ∷ rs) [] old mid new later p q r up tells = absurd tells
each_since Right (x ∷ rs) (a ∷ more) old mid new [] p q r up tells = absurd tells
each_since Right (x ∷ rs) (a ∷ more) old mid new (m ∷ later) p q r up tells = (tells.0, grows_over old mid m p q tells.0 up tells.1, tells.2, tells.3)

pub each_joined : {Q A : Type 0} (Right : States → Q → A → Type 0) (qs rs : List Q) (answers more : List A) (old mid new : States) (moments later : List States) → AreHeld old → AreHeld mid → AreHeld new
    → TellsEach Right qs answers old moments mid → TellsEach Right rs more mid later new → TellsEach Right (qs ++ rs) (answers ++ more) old (moments ++ later) new
each_joined Right [] rs [] more old mid new [] later p q r first second = each_since Right rs more old mid new later p q r first second
each_joined Right [] rs [] more old mid new (m ∷ moments) later p q r first second = absurd first
each_joined Right [] rs (a ∷ answers) more old mid new moments later p q r first second = absurd first
each_joined Right (x ∷ qs) rs [] more old mid new moments later p q r first second = absurd first
each_joined Right (x ∷ qs) rs (a ∷ answers) more old mid new [] later p q r first second = absurd first
each_joined Right (x ∷ qs) rs (a ∷ answers) more old mid new (m ∷ moments) later p q r first second =
    (first.0, first.1, first.2, each_joined Right qs rs answers more m mid new moments later first.0 q r first.3 second)

-- a type of sides whose live ones hold states in form
module _ {S : Type 0} (is_live : S → Type 0) (states : S → States) (form : (side : S) → is_live side → AreHeld (states side)) where
  -- no question yet
  pub none_live : {Q A : Type 0} (Right : States → Q → Result A Refusal → Type 0) (side : S) (ts : List (Result A Refusal)) → ts ≡ [] → TellsLive is_live states Right [] ts side side
  none_live Right side ts none = subst (λ ts. TellsLive is_live states Right [] ts side side) (sym none) (λ live. (live, [], grows_same (states side) (form side live)))

  -- questions after questions
  pub more_live : {Q A : Type 0} (Right : States → Q → Result A Refusal → Type 0) (qs rs : List Q) (answers more : List (Result A Refusal)) (old mid new : S)
      → TellsLive is_live states Right qs answers old mid → TellsLive is_live states Right rs more mid new → TellsLive is_live states Right (qs ++ rs) (answers ++ more) old new
  more_live Right qs rs answers more old mid new first second = λ live.
      let here = first live in
      let there = second here.0 in (
        there.0,
        here.1 ++ there.1,
        each_joined Right qs rs answers more (states old) (states mid) (states new) here.1 there.1 (form old live) (form mid here.0) (form new there.0) here.2 there.2,
      )

  -- one question more, in turn
  pub one_live : {Q A : Type 0} (Right : States → Q → Result A Refusal → Type 0) (old mid new : S) (all : List Q) (i : ℕ) (q : Q) (ts us : List (Result A Refusal)) (a : Result A Refusal) → i < length all → q ≡ get_or all i q → us ≡ ts ++ a ∷ []
      → TellsLive is_live states Right (take i all) ts old mid → TellsLive is_live states Right (q ∷ []) (a ∷ []) mid new → TellsLive is_live states Right (take (i + 1) all) us old new
  one_live Right old mid new all i q ts us a low at told before one =
      let more : take (i + 1) all ≡ take i all ++ q ∷ [] = take_more all i q low ∙ ap (λ x. take i all ++ x ∷ []) (sym at) in
      subst (λ qs. TellsLive is_live states Right qs us old new) (sym more)
      (subst (λ us. TellsLive is_live states Right (take i all ++ q ∷ []) us old new) (sym told)
      (more_live Right (take i all) (q ∷ []) ts (a ∷ []) old mid new before one))

-- ---- a faithful side is live

-- a state that is pushed, or refused, and what is held then
pub push_told : (most : ℕ) (old new : States) (key : Key) (state : State) (r : Result (Unit {0}) Refusal) → AreHeld old → AreHeld new → IsValid state
    → OnOk r (new ≡ pushed old key state) → OnOk r (clashes (state_at old key) state ≡ false) → IfErr r (λ _. new ≡ old) → IfErr r (CannotTake most old key state)
    → (moments : List States) × TellsEach (TellsPush most) ((key, state) ∷ []) (r ∷ []) old moments new
push_told most old new key state (Ok done) p q valid is apart leaves why =
    let up : Grows old new = subst (Grows old) (sym is) (pushed_grows old key state (valid_at old p) valid).1 in
    let back : Grows (pushed old key state) new = subst (λ m. Grows m new) is (grows_same new q) in
    (new ∷ [], (q, up, has_pushed old new key state (valid_at old p) (valid_at new q) valid apart back, grows_same new q))
push_told most old new key state (Err refusal) p q valid is apart same why = (old ∷ [], (p, grows_same old p, why, subst (Grows old) (sym same) (grows_same old p)))

-- pushes one after the other
pub pushes_told : (most : ℕ) (ps : List (Key × State)) (ts : List (Result (Unit {0}) Refusal)) (old new : States) → AreHeld old → AreHeld new → Each (λ p. IsValid p.1) ps → ((m : States) (p : Key × State) → AreHeld m → IsValid p.1 → AreHeld (pushed m p.0 p.1)) → Pushes most old ps ts new
    → (moments : List States) × TellsEach (TellsPush most) ps ts old moments new
pushes_told most [] [] old new p q valid form told = ([], subst (Grows old) (sym told) (grows_same old p))
pushes_told most [] (t ∷ ts) old new p q valid form told = absurd told
pushes_told most (x ∷ ps) [] old new p q valid form told = absurd told
pushes_told most (x ∷ ps) (Ok done ∷ ts) old new p q valid form told =
    let mid = pushed old x.0 x.1 in
    let r : AreHeld mid = form old x p valid.0 in
    let rest = pushes_told most ps ts mid new r q valid.1 form told.1 in
    (mid ∷ rest.0, (r, (pushed_grows old x.0 x.1 (valid_at old p) valid.0).1, has_pushed old mid x.0 x.1 (valid_at old p) (valid_at mid r) valid.0 told.0 (grows_same mid r), rest.1))
pushes_told most (x ∷ ps) (Err refusal ∷ ts) old new p q valid form told =
    let rest = pushes_told most ps ts old new p q valid.1 form told.1 in
    (old ∷ rest.0, (p, grows_same old p, told.0, rest.1))
