-- Pushes by windows.
use Rattle.std.proofs.Common.{◌≡◌, ◌≢◌, ◌⊎◌, inl, inr, ℕ, zero, suc, ◌+◌, ◌≤◌, false, List, [], ◌∷◌, ◌++◌, length, take, drop, refl, sym, ap, subst, ◌∙◌, arith, length-append, append_assoc}
use Rattle.std.specs.Prelude.{Result, Err, All, Contains}
use Rattle.std.proofs.Math.Seq.{take-append_seam}
use Rattle.std.proofs.lemmas.List.{append-nil, drop-drop, length-take-le, take-append-drop}
use Rattle.mvd_dots.specs.declared.refusals.Refusal.{Refusal}
use Rattle.mvd_dots.specs.declared.refusals.Refusal.TheVariants.{Broken, Memory, TooManyRequests}
use Rattle.mvd_keys.specs.State.{State}
use Rattle.mvd_keys.specs.Writes.{Key}
use Rattle.mvd_sync.proofs.Readings.{AllAnswered, ComesToEnd, TakesIn, TakesInFirst, with_left}
use Rattle.mvd_sync.specs.Questions.{IsOfKey}
use Rattle.mvd_peer.specs.Windows.{ForEach}
use Rattle.mvd_peer.specs.Sides.{HasAnswered, HasRefused, SideOf, is_of_key, is_of_question}
use Rattle.mvd_sync.specs.Faults.{of_memory, of_questions, of_side}
use Rattle.mvd_peer.specs.Windows.{Ends, Pushes, PushesFirst}
use Rattle.mvd_sync.proofs.Answering.{as_many, told_in}
use Rattle.mvd_sync.proofs.Compose.{refused_later}
use Rattle.mvd_peer.proofs.ManyPushes.{first_later, pushes-append, pushes_apart}
use Rattle.mvd_peer.proofs.OneByOne.{AskedBy}
use Rattle.mvd_sync.proofs.Positions.{BlamesBy}

abbrev Told : Type 0
Told = Result (Unit {0}) Refusal

abbrev Pair : Type 0
Pair = Key × State

-- ---- lists

-- the first of the first are the first
pub take_within : {X : Type 0} (n m : ℕ) (xs : List X) → (k : ℕ) × (take n (take m xs) ≡ take k xs)
take_within zero m xs = (0, refl)
take_within (suc n) zero xs = (0, refl)
take_within (suc n) (suc m) [] = (0, refl)
take_within (suc n) (suc m) (x ∷ xs) = let f = take_within n m xs in (suc f.0, ap (λ ys. x ∷ ys) f.1)

-- what is so of each answer is so of each question's
pub each_of : {Q A : Type 0} (P : A → Type 0) (qs : List Q) (ts : List A) → length ts ≡ length qs → All P ts → ForEach (λ _ t. P t) qs ts
each_of P [] [] e all = tt
each_of P [] (t ∷ ts) e all = absurd (omega arith)
each_of P (q ∷ qs) [] e all = absurd (omega arith)
each_of P (q ∷ qs) (t ∷ ts) e all = (all 0 t (omega arith), each_of P qs ts (omega arith) (λ k d low. all (suc k) d (omega arith)))

-- ---- pushes so far

-- the first pairs were pushed, and the rest were not
pub record FrontPushed {S : Type 0} (s : SideOf S) (pairs rest : List Pair) (told : List Told) (left left' : ℕ) (old new : S) : Type 0 where
  pub done : List Pair
  pub whole : pairs ≡ done ++ rest
  pub spent : left ≡ left' + length done
  pub follows : s.follows (length done) old new
  pub many : length told ≡ length done
  pub took : s.is_faithful old → s.is_faithful new × Pushes (s.most_keys old) (s.states old) done told (s.states new)

-- the rest, as the answers so far tell it
pub front_turned : {S : Type 0} (s : SideOf S) (whole pairs rest : List Pair) (told answers us : List Told) (left left' : ℕ) (old new : S) (taken : ℕ) → rest ≡ drop (length told) pairs → us ≡ told ++ answers → length answers ≡ taken → FrontPushed s whole (drop taken rest) (told ++ answers) left left' old new → FrontPushed s whole (drop (length us) pairs) us left left' old new
front_turned s whole pairs rest told answers us left left' old new taken is all many f =
    let long : length told + taken ≡ length us = ap (λ n. length told + n) (sym many) ∙ sym (length-append told answers) ∙ ap length (sym all) in
    subst (λ (ts : List Told). FrontPushed s whole (drop (length us) pairs) ts left left' old new) (sym all)
    (subst (λ (xs : List Pair). FrontPushed s whole xs (told ++ answers) left left' old new) (ap (drop taken) is ∙ drop-drop taken (length told) pairs ∙ ap (λ k. drop k pairs) long) f)

-- nothing was told yet
pub front_begins : {S : Type 0} (s : SideOf S) (whole pairs : List Pair) (told : List Told) (left : ℕ) (old : S) → s.follows 0 old old → pairs ≡ whole → told ≡ [] → FrontPushed s whole (drop (length told) pairs) told left left old old
front_begins s whole pairs told left old self is none =
    let new : FrontPushed s whole whole [] left left old old = record { done = []; whole = refl; spent = omega arith; follows = self; many = refl; took = λ t. (t, refl) } in
    subst (λ (ts : List Told). FrontPushed s whole (drop (length ts) pairs) ts left left old old) (sym none) (subst (λ (ps : List Pair). FrontPushed s whole ps [] left left old old) (sym is) new)

module _ {S : Type 0} (s : SideOf S) (pairs : List Pair) (left : ℕ) (old : S) where
  -- all were
  pub all_pushed : (told : List Told) (left' : ℕ) (new : S) → FrontPushed s pairs [] told left left' old new → All IsOfKey told → AllAnswered s (λ _ told. IsOfKey told) (TakesIn s pairs told old new) pairs told (with_left old left) (with_left new left')
  all_pushed told left' new f of_key =
      let is : f.done ≡ pairs = sym (f.whole ∙ append-nil f.done) in
      record {
        spent = subst (λ (ps : List Pair). left ≡ left' + length ps) is f.spent;
        follows = subst (λ (ps : List Pair). s.follows (length ps) old new) is f.follows;
        may = each_of IsOfKey pairs told (f.many ∙ ap length is) of_key;
        right = λ t. let k = f.took t in record { still = k.0; pushes = subst (λ (ps : List Pair). Pushes (s.most_keys old) (s.states old) ps told (s.states new)) is k.1 };
      }

  -- and the last answer, or what was made of it, ended them
  pub ended_after : (rest : List Pair) (told : List Told) (left' : ℕ) (new : S) (refusal : Refusal) (f : FrontPushed s pairs rest told left left' old new) → BlamesBy s left (length f.done) 0 old new refusal → (s.is_faithful old → is_of_question refusal ≡ false) → ComesToEnd s (TakesInFirst s pairs old new refusal) (length pairs) (with_left old left) new refusal
  ended_after rest told left' new refusal f why not_of_question =
      let longer : length pairs ≡ length f.done + length rest = ap length f.whole ∙ length-append f.done rest in
      record {
        asked = length f.done;
        wanted = 0;
        few = omega arith;
        within = let spent = f.spent in omega arith;
        follows = f.follows;
        cause = why;
        not_of_question = not_of_question;
        right = λ t.
            let k = f.took t in
            record {
              still = λ _. k.0;
              pushes = (
                length f.done,
                told,
                s.states new,
                subst (λ (ps : List Pair). Pushes (s.most_keys old) (s.states old) ps told (s.states new)) (sym (ap (take (length f.done)) f.whole ∙ take-append_seam f.done rest)) k.1,
                λ _. refl,
              );
            };
      }

  pub ended_for_memory : (rest : List Pair) (told : List Told) (left' : ℕ) (new : S) (refusal : Refusal) → FrontPushed s pairs rest told left left' old new → refusal ≡ Memory → ComesToEnd s (TakesInFirst s pairs old new refusal) (length pairs) (with_left old left) new refusal
  ended_for_memory rest told left' new refusal f is = ended_after rest told left' new refusal f (of_memory is) (λ _. ap is_of_question is)

  -- no question was left
  pub ended_for_want : (rest : List Pair) (told : List Told) (left' : ℕ) (new : S) (refusal : Refusal) → FrontPushed s pairs rest told left left' old new → refusal ≡ TooManyRequests → left' ≡ 0 → 1 ≤ length rest → ComesToEnd s (TakesInFirst s pairs old new refusal) (length pairs) (with_left old left) new refusal
  ended_for_want rest told left' new refusal f is none more =
      let longer : length pairs ≡ length f.done + length rest = ap length f.whole ∙ length-append f.done rest in
      let spent = f.spent in
      let before = ended_for_memory rest told left' new Memory f refl in
      record {
        asked = length f.done;
        wanted = 1;
        few = omega (arith, longer, more);
        within = omega (arith, spent);
        follows = f.follows;
        cause = of_questions is (omega (arith, spent, none)) refl;
        not_of_question = λ _. ap is_of_question is;
        right = λ t. let k = before.right t in record { still = λ _. (f.took t).0; pushes = k.pushes };
      }

-- ---- one window more

module _ {S : Type 0} (s : SideOf S) (on : (m n : ℕ) (old mid new : S) → s.follows m old mid → s.follows n mid new → s.follows (m + n) old new) (stays : (n : ℕ) (old new : S) → s.follows n old new → s.most_keys new ≡ s.most_keys old) where
  module _ (pairs rest : List Pair) (told answers : List Told) (left left' left'' taken : ℕ) (old mid new : S) (before : FrontPushed s pairs rest told left left' old mid) (spent : left' ≡ left'' + taken) (low : taken ≤ length rest) where
    many : length (take taken rest) ≡ taken
    many = length-take-le taken rest low

    longer : length (before.done ++ take taken rest) ≡ length before.done + taken
    longer = length-append before.done (take taken rest) ∙ ap (λ n. length before.done + n) many

    whole : pairs ≡ (before.done ++ take taken rest) ++ drop taken rest
    whole = before.whole ∙ ap (λ xs. before.done ++ xs) (sym (take-append-drop taken rest)) ∙ sym (append_assoc before.done (take taken rest) (drop taken rest))

    most : s.most_keys mid ≡ s.most_keys old
    most = stays (length before.done) old mid before.follows

    -- it was answered
    pub front_on : {May Right : Pair → Unit {0} → Type 0} {Refuses : Pair → Refusal → Type 0} {T : Type 0} → AskedBy s.follows s.can_refuse s.can_answer May Right Refuses T (take taken rest) answers mid new
        → (s.is_faithful mid → s.is_faithful new × Pushes (s.most_keys mid) (s.states mid) (take taken rest) answers (s.states new))
        → FrontPushed s pairs (drop taken rest) (told ++ answers) left left'' old new
    front_on {May} asked pushes = record {
      done = before.done ++ take taken rest;
      whole = whole;
      spent = let e = before.spent in let n = longer in omega arith;
      follows = subst (λ n. s.follows n old new) (sym (length-append before.done (take taken rest))) (on (length before.done) (length (take taken rest)) old mid new before.follows asked.count);
      many = length-append told answers ∙ (let m = before.many in let a = as_many May (take taken rest) answers asked.may in let n = longer in let t = many in omega arith);
      took = λ t.
          let k = before.took t in
          let p = pushes k.0 in (
            p.0,
            pushes-append (s.most_keys old) (s.states old) (s.states mid) (s.states new) before.done told (take taken rest) answers k.1 (subst (λ (m : ℕ). Pushes m (s.states mid) (take taken rest) answers (s.states new)) most p.1),
          );
    }

    -- a refusal of more than its key, that was told on the way
    pub ended_told : {May Right : Pair → Unit {0} → Type 0} {Refuses : Pair → Refusal → Type 0} {T : Type 0} (refusal : Refusal) → AskedBy s.follows s.can_refuse s.can_answer May Right Refuses T (take taken rest) answers mid new
        → (s.is_faithful mid → s.is_faithful new × Pushes (s.most_keys mid) (s.states mid) (take taken rest) answers (s.states new))
        → (refusal ≡ Memory) ⊎ (Contains answers (Err refusal) × (is_of_key refusal ≡ false))
        → ComesToEnd s (TakesInFirst s pairs old new refusal) (length pairs) (with_left old left) new refusal
    ended_told refusal asked pushes why =
        let f = front_on asked pushes in
        elim why [
          | inl memory ↦ ended_for_memory s pairs left old (drop taken rest) (told ++ answers) left'' new refusal f memory
          | inr other ↦
              let apart : s.is_faithful old → is_of_question refusal ≡ false = λ t. told_in (Unit {0}) (λ r. is_of_key r ≡ false → is_of_question r ≡ false) answers refusal (pushes_apart (s.most_keys mid) (s.states mid) (s.states new) (take taken rest) answers (pushes (before.took t).0).1) other.0 other.1 in
              ended_after s pairs left old (drop taken rest) (told ++ answers) left'' new refusal f
              (of_side (refused_later s on old mid new refusal (length before.done, before.follows) (told_in (HasAnswered s.follows s.can_answer mid new) (HasRefused s.follows s.can_refuse mid new) answers refusal asked.told other.0)) apart)
              apart
        ]

    -- the call was refused
    pub ended_call : (refusal : Refusal) → Ends s.follows s.can_refuse (length (take taken rest)) mid new refusal → (s.is_faithful mid → is_of_question refusal ≡ false) → (s.is_faithful mid → refusal ≢ Broken → s.is_faithful new)
        → (s.is_faithful mid → PushesFirst (s.is_faithful new) (s.most_keys mid) (s.states mid) (take taken rest) (s.states new))
        → ComesToEnd s (TakesInFirst s pairs old new refusal) (length pairs) (with_left old left) new refusal
    ended_call refusal ends not_of_question unbroken first =
        let few = ends.count.1 in
        let n = many in
        let spent_before = before.spent in
        let all : length pairs ≡ length before.done + length rest = ap length before.whole ∙ length-append before.done rest in
        record {
          asked = length before.done + ends.count.0;
          wanted = 0;
          few = omega arith;
          within = omega arith;
          follows = on (length before.done) ends.count.0 old mid new before.follows ends.count.2;
          cause = elim ends.cause [ inl told ↦ of_side (refused_later s on old mid new refusal (length before.done, before.follows) told) (λ t. not_of_question (before.took t).0) | inr memory ↦ of_memory memory ];
          not_of_question = λ t. not_of_question (before.took t).0;
          right = λ t.
              let k = before.took t in
              let p = first k.0 in
              let at = take_within p.0 taken rest in
              record {
                still = unbroken k.0;
                pushes = subst (λ (ps : List Pair). PushesFirst (s.is_faithful new) (s.most_keys old) (s.states old) ps (s.states new)) (sym before.whole)
                    (first_later (s.is_faithful new) (s.most_keys old) (s.states old) (s.states mid) (s.states new) before.done told rest k.1
                    (at.0, p.1, p.2, subst (λ (ps : List Pair). Pushes (s.most_keys old) (s.states mid) ps p.1 p.2) at.1 (subst (λ (m : ℕ). Pushes m (s.states mid) (take p.0 (take taken rest)) p.1 p.2) most p.3), p.4));
              };
        }
