-- How a window ends: at the questions, at the local side's pushes, at the peer's, or with all done.
use Rattle.std.proofs.Common.{◌≡◌, ◌≢◌, ℕ, ◌+◌, ◌≤◌, Bool, true, false, cond, List, [], ◌∷◌, length, map, filter, filter_map, refl, sym, ap, subst, ◌∙◌, arith, Some, None, Option}
use Rattle.std.specs.Prelude.{Result, Ok, Err, take}
use Rattle.std.specs.List.{cons_option}
use Rattle.std.proofs.lemmas.List.{length-map}
use Rattle.mvd_dots.specs.declared.refusals.Refusal.{Refusal}
use Rattle.mvd_dots.specs.declared.refusals.Refusal.TheVariants.{Broken}
use Rattle.mvd_keys.specs.State.{IsValid, State}
use Rattle.mvd_site.specs.Held.{States}
use Rattle.mvd_sync.specs.Exchanges.{IsHeldByEither}
use Rattle.mvd_sync.proofs.Exchanges.{keys_next}
use Rattle.mvd_sync.specs.Meetings.{ArePlans, held_keys, is_held, noted, pushed_pair, rest_if, taken_from}
use Rattle.mvd_peer.specs.Windows.{ForEach}
use Rattle.mvd_sync.proofs.Readings.{TakesInFirst, TakesIn}
use Rattle.mvd_sync.specs.Session.{ChangesSide}
use Rattle.mvd_peer.specs.PushedStates.{ComesByPushes, Each, pushed_all}
use Rattle.mvd_peer.specs.Sides.{HasAnswered, IsSilent, SideOf}
use Rattle.mvd_sync.specs.declared.cursor.Entry.{Entry}
use Rattle.mvd_sync.specs.declared.meetings.Meeting.{Meeting}
use Rattle.mvd_sync.specs.declared.asking.Questions.{Questions}
use Rattle.mvd_sync.specs.declared.report.Side.{Side}
use Rattle.mvd_sync.specs.declared.report.Side.TheVariants.{Local as AtLocal, Peer as AtPeer}
use Rattle.mvd_sync.specs.declared.report.SyncFault.{SyncFault}
use Rattle.mvd_sync.proofs.Handing.{gives_given, gives_good, gives_noted, pulls_given, pulls_good}
use Rattle.mvd_sync.proofs.Taking.{comes_by, each_first}
use Rattle.mvd_sync.proofs.Windowed.{meeting_keys}
use Rattle.mvd_sync.proofs.Positions.{PlannedBy}

-- ---- lists

pub each_may : {Q A : Type 0} (P R : Q → A → Type 0) → ((q : Q) (t : A) → P q t → R q t) → (qs : List Q) (ts : List A) → ForEach P qs ts → ForEach R qs ts
each_may P R f [] [] h = tt
each_may P R f [] (t ∷ ts) h = absurd h
each_may P R f (q ∷ qs) [] h = absurd h
each_may P R f (q ∷ qs) (t ∷ ts) h = (f q t h.0, each_may P R f qs ts h.1)

pub none_of : {X : Type 0} (P : X → Type 0) → ((x : X) → P x → ⊥) → (xs : List X) → Each P xs → xs ≡ []
none_of P never [] h = refl
none_of P never (x ∷ xs) h = absurd (never x h.0)

-- each entry has its plan
pub plan_keys : (number : Option ℕ) (es : List Entry) (mine theirs : List State) (ms : List Meeting) → ArePlans number es mine theirs ms → meeting_keys ms ≡ keys_next es
plan_keys number [] mine theirs [] h = refl
plan_keys number [] mine theirs (m ∷ ms) h = absurd h
plan_keys number (e ∷ es) mine theirs [] h = absurd h
plan_keys number (e ∷ es) mine theirs (m ∷ ms) h =
    let key = h.0.of_key in
    let rest = plan_keys number es (rest_if e.mine mine) (rest_if e.theirs theirs) ms h.2 in
    λ i. key i ∷ rest i

cons_short : {X : Type 0} (o : Option X) (xs : List X) (n : ℕ) → length xs ≤ n → length (cons_option o xs) ≤ n + 1
cons_short None xs n h = omega (arith, h)
cons_short (Some x) xs n h = omega (arith, h)

pub pairs_short : (side : Side) (ms : List Meeting) → length (filter_map (pushed_pair side) ms) ≤ length ms
pairs_short side [] = omega arith
pairs_short side (m ∷ ms) =
    let rest = cons_short (pushed_pair side m) (filter_map (pushed_pair side) ms) (length ms) (pairs_short side ms) in
    omega (arith, rest)

pub same_length : (ms : List Meeting) (es : List Entry) → meeting_keys ms ≡ keys_next es → length ms ≡ length es
same_length ms es h =
    let a = length-map ms (λ (m : Meeting). m.key) in
    let b = length-map es (λ (e : Entry). e.key) in
    sym a ∙ ap length h ∙ b

pub held_one : (side : Side) (e : Entry) (es : List Entry) → length (held_keys side (e ∷ es)) ≡ cond (is_held side e) 1 0 + length (held_keys side es)
held_one side e es =
    elim (is_held side e) as (λ b. length (map (λ (e : Entry). e.key) (cond b (e ∷ filter (is_held side) es) (filter (is_held side) es))) ≡ cond b 1 0 + length (held_keys side es)) [ true ↦ omega arith | false ↦ omega arith ]

one_holds : (m t : Bool) → (m ≡ false → t ≡ true) → 1 ≤ cond m 1 0 + cond t 1 0
one_holds true t h = omega arith
one_holds false t h = subst (λ b. 1 ≤ 0 + cond b 1 0) (sym (h refl)) (omega arith)

-- each entry is asked for at one side at least
pub held_by_one : (es : List Entry) → Each IsHeldByEither es → length es ≤ length (held_keys AtLocal es) + length (held_keys AtPeer es)
held_by_one [] h = omega arith
held_by_one (e ∷ es) h =
    let mine = held_one AtLocal e es in
    let theirs = held_one AtPeer e es in
    let one = one_holds e.mine e.theirs h.0 in
    let rest = held_by_one es h.1 in
    omega (arith, mine, theirs, one, rest)

-- ---- one side

-- a side that takes nothing is as it was
pub pushed_none : (old new : States) → ComesByPushes (λ _ _. ⊥) old new → new ≡ old
pushed_none old new c = c.is ∙ ap (pushed_all old) (none_of (λ (p : List ℕ × State). ⊥) (λ _ h. h) c.pushes c.given)

module _ {S : Type 0} (s : SideOf S) (C : List ℕ → State → Type 0) (pairs : List (List ℕ × State)) (good : Each (λ p. C p.0 p.1 × IsValid p.1) pairs) (old new : S) where
  pub comes_all : (told : List (Result (Unit {0}) Refusal)) → TakesIn s pairs told old new → ComesByPushes C (s.states old) (s.states new)
  comes_all told t = comes_by C (s.most_keys old) (s.states old) pairs told (s.states new) good t.pushes

  pub comes_first : (refusal : Refusal) → TakesInFirst s pairs old new refusal → s.is_faithful new → ComesByPushes C (s.states old) (s.states new)
  comes_first refusal t still =
      let f = t.pushes in
      subst (ComesByPushes C (s.states old)) (sym (f.4 still)) (comes_by C (s.most_keys old) (s.states old) (take f.0 pairs) f.1 f.2 (each_first (λ p. C p.0 p.1 × IsValid p.1) f.0 pairs good) f.3)

pub changes_by : {A : Type 0} (T : Type 0) (broken : SyncFault) (C : List ℕ → State → Type 0) (old new : States) (result : Result A SyncFault) → T → ComesByPushes C old new → ChangesSide T broken C old new result
changes_by T broken C old new (Ok x) t c = record { after_ok = t; after_fault = tt; pushes = λ _. c }
changes_by T broken C old new (Err fault) t c = record { after_ok = tt; after_fault = λ _. t; pushes = λ _. c }

pub changes_first : {A : Type 0} (T : Type 0) (named : Refusal → SyncFault) (C : List ℕ → State → Type 0) (old new : States) (refusal : Refusal) → (refusal ≢ Broken → T) → (T → ComesByPushes C old new) → ChangesSide {A = A} T (named Broken) C old new (Err (named refusal))
changes_first T named C old new refusal still c = record { after_ok = tt; after_fault = λ other. still (λ e. other (ap named e)); pushes = c }

-- ---- what was handed over

module _ {L P : Type 0} (l : SideOf L) (p : SideOf P) (number : Option ℕ) (entries : List Entry) (left left1 : Questions) (local local1 : L) (peer peer1 : P) (ms : List Meeting)
    (plan : PlannedBy l p number entries left left1 local local1 peer peer1 ms) (G : List ℕ → State → Type 0) where
  pub pulls : ((k : List ℕ) (s : State) → p.can_give k s × HasAnswered p.follows p.can_answer peer peer1 → G k s) → Each (λ p. G p.0 p.1 × IsValid p.1) (filter_map (pushed_pair AtLocal) ms)
  pulls f = pulls_good (λ k s. G k s × IsValid s) ms
      (pulls_given G number entries plan.mine plan.theirs ms (each_may (λ k s. p.can_give k s × HasAnswered p.follows p.can_answer peer peer1) G f (held_keys AtPeer entries) plan.theirs plan.from_peer.may) plan.plans)

  pub gives : (told : List (Result (Unit {0}) Refusal)) → ((k : List ℕ) (s : State) → l.can_give k s × HasAnswered l.follows l.can_answer local local1 → G k s)
      → Each (λ p. G p.0 p.1 × IsValid p.1) (filter_map (pushed_pair AtPeer) (noted AtLocal (map (taken_from AtLocal) ms) told))
  gives told f =
      let Good : List ℕ → State → Type 0 = λ k s. G k s × IsValid s in
      gives_good Good (noted AtLocal (map (taken_from AtLocal) ms) told) (gives_noted (λ k o. Rattle.std.specs.Prelude.IfSome o (Good k)) ms told
      (gives_given G number entries plan.mine plan.theirs ms (each_may (λ k s. l.can_give k s × HasAnswered l.follows l.can_answer local local1) G f (held_keys AtLocal entries) plan.mine plan.from_local.may) plan.plans))

-- a silent side has answered nothing
pub silent_gives : {S : Type 0} (follows : ℕ → S → S → Type 0) (can_answer : S → Type 0) (old new : S) (X : Type 0) → IsSilent follows can_answer old → X × HasAnswered follows can_answer old new → ⊥
silent_gives follows can_answer old new X silent h = silent h.1.0 h.1.1 h.1.2
