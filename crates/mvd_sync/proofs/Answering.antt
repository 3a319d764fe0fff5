-- What is made of the answers to many questions.
use Rattle.std.proofs.Common.{◌≡◌, inl, inr, ℕ, zero, suc, ◌<◌, ◌≤◌, ◌==◌, ◌∙◌, List, [], ◌∷◌, length, take, get_or, refl, sym, subst, arith, ap, false, true≢false}
use Rattle.std.specs.Prelude.{Contains, Result, Ok, Err, IfOk, IfErr}
use Rattle.std.specs.declared.vec.Vec.{Vec}
use Rattle.std.specs.declared.alloc.Global.{Global}
use Rattle.mvd_dots.specs.declared.refusals.Refusal.{Refusal}
use Rattle.mvd_dots.specs.declared.refusals.Refusal.TheVariants.{BadPath, Memory, TooManyRequests}
use Rattle.std.proofs.lemmas.List.{length-take, length-take-le, take_all}
use Rattle.mvd_sync.proofs.Readings.{AllAnswered, AnswersEach, ComesToEnd, Keeps, with_left}
use Rattle.mvd_sync.specs.Questions.{TakesBudget}
use Rattle.mvd_peer.specs.Windows.{ForEach}
use Rattle.mvd_peer.specs.PushedStates.{Each}
use Rattle.mvd_sync.specs.Made.{EndsMaking, PassesFault}
use Rattle.mvd_sync.specs.Tellings.{IsRead, of_answer as not_of_answer, of_number, of_questions as not_of_questions, refused}
use Rattle.mvd_sync.specs.declared.telling.Share.{Share}
use Rattle.mvd_peer.specs.Sides.{HasAnswered, HasRefused, SideOf, is_of_question}
use Rattle.mvd_sync.specs.Faults.{of_answer, of_memory, of_questions, of_side}
use Rattle.mvd_peer.specs.Windows.{Asked, EachAnswer, EachRefusal, EachTold, Ends, Kind, RefusesPage, manner}
use Rattle.mvd_sync.proofs.Compose.{Moves}
use Rattle.mvd_sync.proofs.Positions.{BlamesBy}

-- ---- lists

-- what is so of each answer, to a question of a sort, is so of what was made of it
pub passed : {Q A B : Type 0} (In : Q → Type 0) (M : Q → A → Type 0) (P : Type 0) (T : Refusal → Type 0) (R : A → B → Type 0) (N : Q → B → Type 0) → ((q : Q) (a : A) (b : B) → In q → M q a → P → R a b → N q b)
    → (qs : List Q) (ts : List (Result A Refusal)) (bs : List B) → Each In qs → EachAnswer M qs ts → EachTold P T ts → ForEach (PassesFault R) ts bs → ForEach N qs bs
passed In M P T R N f [] [] [] i m p r = tt
passed In M P T R N f [] [] (b ∷ bs) i m p r = absurd r
passed In M P T R N f [] (Ok a ∷ ts) bs i m p r = absurd m
passed In M P T R N f [] (Err e ∷ ts) bs i m p r = absurd m
passed In M P T R N f (q ∷ qs) [] bs i m p r = absurd m
passed In M P T R N f (q ∷ qs) (Ok a ∷ ts) [] i m p r = absurd r
passed In M P T R N f (q ∷ qs) (Err e ∷ ts) [] i m p r = absurd r
passed In M P T R N f (q ∷ qs) (Ok a ∷ ts) (b ∷ bs) i m p r = (f q a b i.0 m.0 p.0 r.0, passed In M P T R N f qs ts bs i.1 m.1 p.1 r.1)
passed In M P T R N f (q ∷ qs) (Err e ∷ ts) (b ∷ bs) i m p r = absurd r.0

-- what was told at a place
told_at : {A : Type 0} (P : Type 0) (T : Refusal → Type 0) (ts : List (Result A Refusal)) (n : ℕ) (a : Result A Refusal) → EachTold P T ts → n < length ts → a ≡ get_or ts n a → EachTold P T (a ∷ [])
told_at P T [] n a h low e = absurd (omega arith)
told_at P T (Ok x ∷ ts) zero a h low e = subst (λ a. EachTold P T (a ∷ [])) (sym e) (h.0, tt)
told_at P T (Err x ∷ ts) zero a h low e = subst (λ a. EachTold P T (a ∷ [])) (sym e) (h.0, tt)
told_at P T (Ok x ∷ ts) (suc n) a h low e = told_at P T ts n a h.1 (omega arith) e
told_at P T (Err x ∷ ts) (suc n) a h low e = told_at P T ts n a h.1 (omega arith) e

-- a refusal that was told
pub told_in : {A : Type 0} (P : Type 0) (T : Refusal → Type 0) (ts : List (Result A Refusal)) (refusal : Refusal)
    → EachTold P T ts → Contains ts (Err refusal) → T refusal
told_in P T ts refusal h here = (told_at P T ts here.0 (Err refusal) h here.1 (sym here.2)).0

-- an answer at a place, to a question of a sort
answer_at : {Q A : Type 0} (M : Q → A → Type 0) (In : Q → Type 0) (N : A → Type 0) → ((q : Q) (a : A) → In q → M q a → N a)
    → (qs : List Q) (ts : List (Result A Refusal)) (n : ℕ) (a : A) → Each In qs → EachAnswer M qs ts → n < length ts → Ok a ≡ get_or ts n (Ok a) → N a
answer_at M In N f [] [] n a i h low e = absurd (omega arith)
answer_at M In N f [] (Ok x ∷ ts) n a i h low e = absurd h
answer_at M In N f [] (Err x ∷ ts) n a i h low e = absurd h
answer_at M In N f (q ∷ qs) [] n a i h low e = absurd h
answer_at M In N f (q ∷ qs) (Ok x ∷ ts) zero a i h low e = f q a i.0 (subst (M q) (cc) h.0)
answer_at M In N f (q ∷ qs) (Err x ∷ ts) zero a i h low e = absurd (cc)
answer_at M In N f (q ∷ qs) (Ok x ∷ ts) (suc n) a i h low e = answer_at M In N f qs ts n a i.1 h.1 (omega arith) e
answer_at M In N f (q ∷ qs) (Err x ∷ ts) (suc n) a i h low e = answer_at M In N f qs ts n a i.1 h (omega arith) e

pub answer_in : {Q A : Type 0} (M : Q → A → Type 0) (In : Q → Type 0) (N : A → Type 0)
    → ((q : Q) (a : A) → In q → M q a → N a) → (qs : List Q) (ts : List (Result A Refusal)) (a : A)
    → Each In qs → EachAnswer M qs ts → Contains ts (Ok a) → N a
answer_in M In N f qs ts a i h here = answer_at M In N f qs ts here.0 a i h here.1 (sym here.2)

pub each-take : {X : Type 0} (P : X → Type 0) (xs : List X) (n : ℕ) → Each P xs → Each P (take n xs)
each-take P [] zero h = tt
each-take P [] (suc n) h = tt
each-take P (x ∷ xs) zero h = tt
each-take P (x ∷ xs) (suc n) h = (h.0, each-take P xs n h.1)

pub each_all : {X : Type 0} (xs : List X) → Each (λ _. Unit {0}) xs
each_all [] = tt
each_all (x ∷ xs) = (tt, each_all xs)

-- what is so of each refusal, of a question of a sort
refused_so : {Q A : Type 0} (In : Q → Type 0) (R : Q → Refusal → Type 0) (N : Refusal → Type 0) → ((q : Q) (e : Refusal) → In q → R q e → N e)
    → (qs : List Q) (ts : List (Result A Refusal)) → Each In qs → EachRefusal R qs ts → EachTold (Unit {0}) N ts
refused_so In R N f [] [] i h = tt
refused_so In R N f [] (Ok a ∷ ts) i h = absurd h
refused_so In R N f [] (Err e ∷ ts) i h = absurd h
refused_so In R N f (q ∷ qs) [] i h = absurd h
refused_so In R N f (q ∷ qs) (Ok a ∷ ts) i h = (tt, refused_so In R N f qs ts i.1 h)
refused_so In R N f (q ∷ qs) (Err e ∷ ts) i h = (f q e i.0 h.0, refused_so In R N f qs ts i.1 h.1)

-- no refusal of a page whose path has three digits is of one question alone
pub page_apart : (path : List ℕ) (refusal : Refusal) → length path ≡ 3 → RefusesPage path refusal → is_of_question refusal ≡ false
page_apart path BadPath three h = absurd (true≢false (sym (ap (λ n. n == 3) three) ∙ h))
page_apart path refusal three h = h

-- there are as many answers as questions
pub as_many : {Q A : Type 0} (M : Q → A → Type 0) (qs : List Q) (ts : List (Result A Refusal)) → EachAnswer M qs ts → length ts ≡ length qs
as_many M [] [] h = refl
as_many M [] (Ok a ∷ ts) h = absurd h
as_many M [] (Err e ∷ ts) h = absurd h
as_many M (q ∷ qs) [] h = absurd h
as_many M (q ∷ qs) (Ok a ∷ ts) h = ap suc (as_many M qs ts h.1)
as_many M (q ∷ qs) (Err e ∷ ts) h = ap suc (as_many M qs ts h)

-- what a side said of questions of a kind: answers, or a refusal in their place
pub record Said {S Q A : Type 0} (s : SideOf S) (kind : Kind Q A) (qs : List Q) (told : Result (List (Result A Refusal)) Refusal) (old new : S) : Type 0 where
  pub answered : IfOk told (λ ts. Asked (manner s.follows s.can_refuse s.can_answer) kind qs ts old new)
  pub ended : IfErr told (Ends s.follows s.can_refuse (length qs) old new)
  pub not_of_question : s.is_faithful old → IfErr told (λ refusal. is_of_question refusal ≡ false)
  pub kept : s.is_faithful old → Keeps s old new

-- so many questions were made, whatever it said
pub said_moves : {S Q A : Type 0} (s : SideOf S) (kind : Kind Q A) (qs : List Q) (left : ℕ) (told : Result (List (Result A Refusal)) Refusal) (old new : S) → Said s kind (take left qs) told old new → Moves s (length qs) left old new
said_moves s kind qs left (Ok ts) old new said = let n = length-take left qs in record { asked = length (take left qs); few = omega (arith, n); within = omega (arith, n); follows = said.answered.count; kept = said.kept }
said_moves s kind qs left (Err refusal) old new said =
    let n = length-take left qs in
    let few = said.ended.count.1 in
    record { asked = said.ended.count.0; few = omega (arith, n, few); within = omega (arith, n, few); follows = said.ended.count.2; kept = said.kept }

-- ---- the end of some questions, of which as many were asked as were left

-- all of these were answered, or they came to an end
abbrev pub ReadOrEnded : {S Q B : Type 0} → SideOf S → List Q → ℕ → ℕ → S → S → (Q → B → Type 0) → (Q → B → Type 0) → Result (Vec B Global) Refusal → Type 0
ReadOrEnded s qs left left' old new May Right result =
    IfOk result (λ read. AllAnswered s May (AnswersEach s Right qs read.items old new) qs read.items (with_left old left) (with_left new left'))
    × IfErr result (ComesToEnd s (Keeps s old new) (length qs) (with_left old left) new)

module _ {S Q : Type 0} (s : SideOf S) (qs : List Q) (left left' taken : ℕ) (old new : S) (takes : TakesBudget left left' (length qs) taken) where
  asked_is : length (take taken qs) ≡ taken
  asked_is = let most = takes.most in length-take-le taken qs most

  -- so many were asked, and this is why no more are
  pub ended_by : (T : Type 0) (refusal : Refusal) → s.follows (length (take taken qs)) old new → BlamesBy s left taken 0 old new refusal → (s.is_faithful old → is_of_question refusal ≡ false) → (s.is_faithful old → T) → ComesToEnd s T (length qs) (with_left old left) new refusal
  ended_by T refusal follows why not_of_question then = record {
    asked = taken;
    wanted = 0;
    few = let most = takes.most in omega (arith, most);
    within = let spent = takes.spent in omega arith;
    follows = subst (λ n. s.follows n old new) asked_is follows;
    cause = why;
    not_of_question = not_of_question;
    right = then;
  }

  -- the call itself was refused
  pub ended_within : (T : Type 0) (refusal : Refusal) → Ends s.follows s.can_refuse (length (take taken qs)) old new refusal → (s.is_faithful old → is_of_question refusal ≡ false) → (s.is_faithful old → T) → ComesToEnd s T (length qs) (with_left old left) new refusal
  ended_within T refusal ends not_of_question then =
      let spent = takes.spent in
      let most = takes.most in
      let here = asked_is in
      let few = ends.count.1 in
      record {
        asked = ends.count.0;
        wanted = 0;
        few = omega arith;
        within = omega arith;
        follows = ends.count.2;
        cause = elim ends.cause [ inl told ↦ of_side told not_of_question | inr memory ↦ of_memory memory ];
        not_of_question = not_of_question;
        right = then;
      }

  -- no more were left
  pub ended_few : (T : Type 0) (refusal : Refusal) → refusal ≡ TooManyRequests → taken < length qs → s.follows (length (take taken qs)) old new → (s.is_faithful old → T) → ComesToEnd s T (length qs) (with_left old left) new refusal
  ended_few T refusal is few follows then =
      let spent = takes.spent in
      let none = takes.all few in
      record {
        asked = taken;
        wanted = 1;
        few = omega (arith, few);
        within = omega (arith, spent);
        follows = subst (λ n. s.follows n old new) asked_is follows;
        cause = of_questions is (omega (arith, spent, none)) refl;
        not_of_question = λ _. ap is_of_question is;
        right = then;
      }

  -- memory was refused
  pub ended_memory : (T : Type 0) (refusal : Refusal) → refusal ≡ Memory → s.follows (length (take taken qs)) old new → (s.is_faithful old → T) → ComesToEnd s T (length qs) (with_left old left) new refusal
  ended_memory T refusal is follows then = ended_by T refusal follows (of_memory is) (λ _. ap is_of_question is) then

  -- nothing was made of an answer
  pub ended_making : {A : Type 0} (T : Type 0) (IsNone : A → Type 0) (answers : List (Result A Refusal)) (refusal : Refusal)
      → s.follows (length (take taken qs)) old new
      → EachTold (HasAnswered s.follows s.can_answer old new) (HasRefused s.follows s.can_refuse old new) answers
      → (s.is_faithful old → EachTold (Unit {0}) (λ r. is_of_question r ≡ false) answers)
      → (s.is_faithful old → (a : A) → Contains answers (Ok a) → IsNone a → ⊥)
      → (s.is_faithful old → T) → EndsMaking IsNone answers refusal
      → ComesToEnd s T (length qs) (with_left old left) new refusal
  ended_making T IsNone answers refusal count told apart right then (inl memory) =
      ended_memory T refusal memory count then
  ended_making T IsNone answers refusal count told apart right then (inr (inl here)) =
      let U = HasAnswered s.follows s.can_answer old new in
      let R = HasRefused s.follows s.can_refuse old new in
      let none : s.is_faithful old → is_of_question refusal ≡ false =
      λ t. told_in (Unit {0}) (λ r. is_of_question r ≡ false) answers refusal (apart t) here in
      ended_by T refusal count (of_side (told_in U R answers refusal told here) none) none then
  ended_making T IsNone answers refusal count told apart right then (inr (inr (bad, a, here, none))) =
      ended_by T refusal count (of_answer bad (λ t. right t a here none)) (λ _. ap is_of_question bad) then

  -- all were answered
  pub answered_all : {A : Type 0} (May Right : Q → A → Type 0) (answers : List A) → length qs ≤ taken → s.follows (length (take taken qs)) old new → ForEach May (take taken qs) answers → (s.is_faithful old → Keeps s old new × ForEach Right (take taken qs) answers)
      → AllAnswered s May (AnswersEach s Right qs answers old new) qs answers (with_left old left) (with_left new left')
  answered_all May Right answers all follows may right =
      let whole : take taken qs ≡ qs = take_all taken qs all in
      let spent = takes.spent in
      let most = takes.most in
      record {
        spent = omega arith;
        follows = subst (λ qs. s.follows (length qs) old new) whole follows;
        may = subst (λ qs. ForEach May qs answers) whole may;
        right = λ t. record { kept = (right t).0; right = subst (λ qs. ForEach Right qs answers) whole (right t).1 };
      }

  -- all of it: what was read in the answers, or why the questions came to an end
  pub read_told : {A B : Type 0} (kind : Kind Q A) (In : Q → Type 0) (IsOf : A → B → Type 0) (IsNone : A → Type 0) (May Right : Q → B → Type 0)
      → ((q : Q) (a : A) (b : B) → kind.may q a → HasAnswered s.follows s.can_answer old new → IsOf a b → May q b)
      → ((q : Q) (a : A) (b : B) → In q → kind.right q a → IsOf a b → Right q b)
      → ((q : Q) (a : A) → In q → kind.right q a → IsNone a → ⊥)
      → ((q : Q) (refusal : Refusal) → In q → kind.refuses q refusal → is_of_question refusal ≡ false)
      → (s.is_faithful old → kind.was_faithful) → Each In qs
      → (told : Result (List (Result A Refusal)) Refusal) → Said s kind (take taken qs) told old new
      → (share : Share) → share.asked ≡ taken → (result : Result (Vec B Global) Refusal) → share.wanted ≡ length qs → IsRead IsOf IsNone told share result → ReadOrEnded s qs left left' old new May Right result
  read_told kind In IsOf IsNone May Right may right never apart was each (Ok told) said share is (Ok read) wanted it =
      let here = each-take In qs taken each in
      let asked = said.answered in
      let w = it.whole in
      let same : it.answers ≡ told = let e = it.is in cc in
      let made = subst (λ ts. ForEach (PassesFault IsOf) ts read.items) same it.each in (
        answered_all May Right read.items (omega (arith, w, is, wanted)) asked.count (passed In kind.may _ _ IsOf May (λ q a b _ m h i. may q a b m h i) _ _ _ here asked.may asked.told made)
            (λ t. (said.kept t, passed In kind.right _ _ IsOf Right (λ q a b i r _ o. right q a b i r o) _ _ _ here (asked.right (was t)) asked.told made)),
        tt,
      )
  read_told kind In IsOf IsNone May Right may right never apart was each (Ok told) said share is (Err refusal) wanted (refused e) = absurd (cc)
  read_told kind In IsOf IsNone May Right may right never apart was each (Ok told) said share is (Err refusal) wanted (of_number answers e other bad) =
      let same : answers ≡ told = cc in
      absurd (other (ap length same ∙ as_many kind.may (take taken qs) told said.answered.may ∙ asked_is ∙ sym is))
  read_told kind In IsOf IsNone May Right may right never apart was each (Ok told) said share is (Err refusal) wanted (not_of_answer answers e why) =
      let here = each-take In qs taken each in
      let asked = said.answered in
      let same : answers ≡ told = cc in (
        tt,
        ended_making (Keeps s old new) IsNone told refusal asked.count asked.told
            (λ t. refused_so In kind.refuses (λ r. is_of_question r ≡ false) apart (take taken qs) told here (asked.not_of_question (was t)))
            (λ t a. answer_in kind.right In (λ a. IsNone a → ⊥) never (take taken qs) told a here (asked.right (was t))) said.kept (subst (λ ts. EndsMaking IsNone ts refusal) same why),
      )
  read_told kind In IsOf IsNone May Right may right never apart was each (Ok told) said share is (Err refusal) wanted (not_of_questions answers e few bad) =
      (tt, ended_few (Keeps s old new) refusal bad (omega (arith, few, is, wanted)) said.answered.count said.kept)
  read_told kind In IsOf IsNone May Right may right never apart was each (Err told) said share is (Ok read) wanted it = let e = it.is in absurd (cc)
  read_told kind In IsOf IsNone May Right may right never apart was each (Err told) said share is (Err refusal) wanted (refused e) =
      let same : told ≡ refusal = cc in
      (tt, ended_within (Keeps s old new) refusal (subst (Ends s.follows s.can_refuse (length (take taken qs)) old new) same said.ended) (λ t. ap is_of_question (sym same) ∙ said.not_of_question t) said.kept)
  read_told kind In IsOf IsNone May Right may right never apart was each (Err told) said share is (Err refusal) wanted (of_number answers e other bad) = absurd (cc)
  read_told kind In IsOf IsNone May Right may right never apart was each (Err told) said share is (Err refusal) wanted (not_of_answer answers e why) = absurd (cc)
  read_told kind In IsOf IsNone May Right may right never apart was each (Err told) said share is (Err refusal) wanted (not_of_questions answers e few bad) = absurd (cc)
