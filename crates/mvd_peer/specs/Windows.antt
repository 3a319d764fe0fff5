-- Many questions at once: one answer for each, in order, as if they were asked one after the other.
use Rattle.std.specs.Prelude.{◌≡◌, ◌⊎◌, ◌<◌, ◌≤◌, ◌==◌, ℕ, Bool, true, false, List, [], ◌∷◌, length, Option, Some, None}
use Rattle.std.specs.Prelude.{◌+◌, ◌-◌, ◌^◌, Result, Ok, Err, min, take, IfOk}
use Rattle.std.specs.FinMap.{get, len}
use Rattle.std.specs.declared.alloc.Global.{Global}
use Rattle.std.specs.declared.vec.Vec.{Vec}
use Rattle.mvd_dots.specs.declared.refusals.Refusal.{Refusal}
use Rattle.mvd_dots.specs.declared.refusals.Refusal.TheVariants.{BadBody, BadDefs, BadKind, BadPath, Broken, DotClash}
use Rattle.mvd_dots.specs.declared.refusals.Refusal.TheVariants.{FrameTooLong, Full, Memory, NotAdmitted, ReadFailed}
use Rattle.mvd_dots.specs.declared.refusals.Refusal.TheVariants.{StateTooLarge, TooManyRequests, Truncated, WriteFailed}
use Rattle.mvd_keys.specs.State.{State, clashes, join}
use Rattle.mvd_keys.specs.Writes.{Key}
use Rattle.mvd_tree.specs.HashTree.{KeyDigests, node_digest}
use Rattle.mvd_tree.specs.Page.{children_digests, is_more_after_page, bucket_page}
use Rattle.mvd_wire.specs.Codecs.{spell_state}
use Rattle.mvd_wire.specs.declared.reply.Digests.{Digests}
use Rattle.mvd_site.specs.Answer.{digests, is_too_large}
use Rattle.mvd_site.specs.Held.{States, state_at}
use Rattle.mvd_peer.specs.PushedStates.{pushed}
use Rattle.mvd_peer.specs.Sides.{HasAnswered, HasRefused, WithinQuestions, is_of_key, is_of_question}

-- each question with its answer
abbrev pub ForEach : {Q A : Type 0} → (Q → A → Type 0) → List Q → List A → Type 0
ForEach P [] [] = Unit {0}
ForEach P (q ∷ qs) (a ∷ ts) = P q a × ForEach P qs ts
ForEach P qs ts = ⊥

-- P of each question with its answer; refusals are passed over, and the lists are equally long
abbrev pub EachAnswer : {Q A : Type 0} → (Q → A → Type 0) → List Q → List (Result A Refusal) → Type 0
EachAnswer P [] [] = Unit {0}
EachAnswer P (q ∷ qs) (Ok a ∷ ts) = P q a × EachAnswer P qs ts
EachAnswer P (q ∷ qs) (Err refusal ∷ ts) = EachAnswer P qs ts
EachAnswer P qs ts = ⊥

-- P where there is an answer, and R of each refusal
abbrev pub EachTold : {A : Type 0} → Type 0 → (Refusal → Type 0) → List (Result A Refusal) → Type 0
EachTold P R [] = Unit {0}
EachTold P R (Ok a ∷ ts) = P × EachTold P R ts
EachTold P R (Err refusal ∷ ts) = R refusal × EachTold P R ts

-- P of each question with its refusal; answers are passed over, and the lists are equally long
abbrev pub EachRefusal : {Q A : Type 0} → (Q → Refusal → Type 0) → List Q → List (Result A Refusal) → Type 0
EachRefusal P [] [] = Unit {0}
EachRefusal P (q ∷ qs) (Ok a ∷ ts) = EachRefusal P qs ts
EachRefusal P (q ∷ qs) (Err refusal ∷ ts) = P q refusal × EachRefusal P qs ts
EachRefusal P qs ts = ⊥

-- what a faithful side may refuse a page with: 14 only where the path has not three digits, and never 9, 10 or 11
abbrev pub RefusesPage : List ℕ → Refusal → Type 0
RefusesPage path BadPath = (length path == 3) ≡ false
RefusesPage path refusal = is_of_key refusal ≡ false

-- a node's digest and, above the buckets, those of its children
abbrev pub IsNode : KeyDigests → List ℕ → Digests → Type 0
IsNode held path d =
    (d.own ≡ node_digest held path) × (length path < 3 → d.children ≡ Some (children_digests held path))
    × (3 ≤ length path → d.children ≡ None)

-- ---- states that are held at once

-- a state is held where those before it are fewer bytes than 1,048,576; else its get is refused with 20. So many bytes
-- are held before it, and after it, as a number of 64 bits
pub data HoldsState (old new : ℕ) (answer result : Result State Refusal) : Type 0 where
  held : (state : State) → answer ≡ Ok state → result ≡ Ok state → old < 1048576
      → new ≡ min (old + length (spell_state state)) (2 ^ 64 - 1) → HoldsState old new answer result
  dropped : (state : State) → answer ≡ Ok state → 1048576 ≤ old → result ≡ Err Memory → new ≡ old
      → HoldsState old new answer result
  refused : (refusal : Refusal) → answer ≡ Err refusal → result ≡ Err refusal → new ≡ old
      → HoldsState old new answer result

abbrev pub GivesWithin : (old new : ℕ) → Result State Refusal → Type 0
GivesWithin old new (Ok state) = (old < 1048576) × (new ≡ min (old + length (spell_state state)) (2 ^ 64 - 1))
GivesWithin old new (Err refusal) = new ≡ old

-- THE STATES THAT ARE GIVEN AT ONCE are so few that those before the last are fewer bytes than 1,048,576
abbrev pub AreWithin : ℕ → List (Result State Refusal) → Type 0
AreWithin bytes [] = Unit {0}
AreWithin bytes (Ok state ∷ answers) = (bytes < 1048576) × AreWithin (bytes + length (spell_state state)) answers
AreWithin bytes (Err refusal ∷ answers) = AreWithin bytes answers

-- how a side behaves: what it may be after so many questions, and what is so of it after it refused one, or answered
-- one
pub record Manner (S : Type 0) : Type 1 where
  pub follows : ℕ → S → S → Type 0
  pub can_refuse : S → Refusal → Type 0
  pub can_answer : S → Type 0

abbrev pub manner : {S : Type 0} → (ℕ → S → S → Type 0) → (S → Refusal → Type 0) → (S → Type 0) → Manner S
manner follows can_refuse can_answer = record { follows = follows; can_refuse = can_refuse; can_answer = can_answer }

-- what is to be said of the answers: those that any side may give; and of a side that was faithful, those that are
-- right, and how it may refuse
pub record Kind (Q A : Type 0) : Type 1 where
  pub may : Q → A → Type 0
  pub was_faithful : Type 0
  pub right : Q → A → Type 0
  pub refuses : Q → Refusal → Type 0

-- a page as a side gives it: keys with their digests, and whether more are left
abbrev pub PageValue : Type 0
PageValue = Vec (Key × List ℕ) Global × Bool

-- the digests of nodes are asked for
abbrev pub for_nodes : Type 0 → States → Kind (List ℕ) Digests
for_nodes was_faithful states = record {
  may = λ _ _. Unit {0};
  was_faithful = was_faithful;
  right = IsNode (digests states);
  refuses = λ _ refusal. is_of_question refusal ≡ false;
}

-- pages of buckets, each after a key
abbrev pub for_pages : Type 0 → States → Kind (List ℕ × Option (List ℕ)) PageValue
for_pages was_faithful states = record {
  may = λ _ _. Unit {0};
  was_faithful = was_faithful;
  right = λ q page. (page.0.items ≡ bucket_page (digests states) q.0 q.1)
      × (page.1 ≡ is_more_after_page (digests states) q.0 q.1);
  refuses = λ q. RefusesPage q.0;
}

-- the keys of a page of a bucket after a key, as these states give them
abbrev pub HasKeys : States → List ℕ → Option (List ℕ) → PageValue → Type 0
HasKeys states path after page = page.0.items ≡ bucket_page (digests states) path after

-- and whether more are left
abbrev pub TellsMore : States → List ℕ → Option (List ℕ) → PageValue → Type 0
TellsMore states path after page = page.1 ≡ is_more_after_page (digests states) path after

-- the states of keys
abbrev pub for_states : (Key → State → Type 0) → Type 0 → States → Kind Key State
for_states can_give was_faithful states = record {
  may = can_give;
  was_faithful = was_faithful;
  right = λ key state. state ≡ state_at states key;
  refuses = λ _ refusal. is_of_question refusal ≡ false;
}

-- states are pushed; what becomes of them is said by `Pushes`, so nothing is said here of a side that was faithful
abbrev pub for_pushes : Kind (Key × State) (Unit {0})
for_pushes = record { may = λ _ _. Unit {0}; was_faithful = ⊥; right = λ _ _. Unit {0}; refuses = λ _ _. Unit {0} }

-- Questions that were asked one after the other and answered so: as many as there are, each answer one that the side
-- may give, and right if it was faithful; each refusal one that it gave on the way, and of a faithful side one that its
-- question may have
pub record Asked {S Q A : Type 0} (m : Manner S) (kind : Kind Q A) (questions : List Q)
    (answers : List (Result A Refusal)) (old new : S) : Type 0 where
  pub count : m.follows (length questions) old new
  pub may : EachAnswer kind.may questions answers
  pub right : kind.was_faithful → EachAnswer kind.right questions answers
  pub told : EachTold (HasAnswered m.follows m.can_answer old new) (HasRefused m.follows m.can_refuse old new) answers
  pub not_of_question : kind.was_faithful → EachRefusal kind.refuses questions answers

-- what is asked of a side, as it is before: nodes, pages, states
abbrev pub nodes_of : {S : Type 0} → (S → Type 0) → (S → States) → S → Kind (List ℕ) Digests
nodes_of is_faithful states side = for_nodes (is_faithful side) (states side)

abbrev pub pages_kind : {S : Type 0} → (S → Type 0) → (S → States) → S → Kind (List ℕ × Option (List ℕ)) PageValue
pages_kind is_faithful states side = for_pages (is_faithful side) (states side)

abbrev pub gets_of : {S : Type 0} → (Key → State → Type 0) → (S → Type 0) → (S → States) → S → Kind Key State
gets_of can_give is_faithful states side = for_states can_give (is_faithful side) (states side)

-- Questions that came to an end: at most so many were made, and the side refused so, or memory was refused
pub record Ends {S : Type 0} (follows : ℕ → S → S → Type 0) (can_refuse : S → Refusal → Type 0) (most : ℕ) (old new : S)
    (refusal : Refusal) : Type 0 where
  pub count : WithinQuestions follows most old new
  pub cause : HasRefused follows can_refuse old new refusal ⊎ (refusal ≡ Memory)

-- Why a side that takes at most so many keys, and holds these states, refuses a push: 9, 10 and 11 for these causes;
-- never 14; any other refusal needs none
abbrev pub CannotTake : ℕ → States → Key → State → Refusal → Type 0
CannotTake most states key state StateTooLarge =
    (is_too_large state ≡ true) ⊎ (is_too_large (join (state_at states key) state) ≡ true)
CannotTake most states key state Full = (get states key ≡ None) × (most ≤ len states)
CannotTake most states key state DotClash = clashes (state_at states key) state ≡ true
CannotTake most states key state BadPath = ⊥
CannotTake most states key state refusal = Unit {0}

-- States pushed one after the other, each taken, or refused for its cause
abbrev pub Pushes : ℕ → States → List (Key × State) → List (Result (Unit {0}) Refusal) → States → Type 0
Pushes most old [] [] new = new ≡ old
Pushes most old (p ∷ ps) (Ok done ∷ ts) new =
    (clashes (state_at old p.0) p.1 ≡ false) × Pushes most (pushed old p.0 p.1) ps ts new
Pushes most old (p ∷ ps) (Err refusal ∷ ts) new = CannotTake most old p.0 p.1 refusal × Pushes most old ps ts new
Pushes most old ps ts new = ⊥

-- some first ones of the pushes, as `Pushes` says; and if the side is still faithful, it holds just that
abbrev pub PushesFirst : Type 0 → ℕ → States → List (Key × State) → States → Type 0
PushesFirst still most old ps new =
    (n : ℕ) × (ts : List (Result (Unit {0}) Refusal)) × (mid : States) × Pushes most old (take n ps) ts mid
    × (still → new ≡ mid)

-- when a side is faithful, and what it holds then: its states, and how many keys at most
pub record Holding (S : Type 0) : Type 1 where
  pub is_faithful : S → Type 0
  pub states : S → States
  pub most_keys : S → ℕ

abbrev pub holding : {S : Type 0} → (S → Type 0) → (S → States) → (S → ℕ) → Holding S
holding is_faithful states most_keys = record { is_faithful = is_faithful; states = states; most_keys = most_keys }

-- a faithful side's pushes: after Ok each was taken or refused for its cause, and it is faithful
abbrev pub PushedAll : {S : Type 0} → Holding S → List (Key × State) → (old new : S)
    → Result (Vec (Result (Unit {0}) Refusal) Global) Refusal → Type 0
PushedAll s pairs old new result = s.is_faithful old →
    IfOk result (λ told. s.is_faithful new × Pushes (s.most_keys old) (s.states old) pairs told.items (s.states new))

-- a state was taken
abbrev pub TakesState : States → Key → State → States → Type 0
TakesState old key state new = (clashes (state_at old key) state ≡ false) × (new ≡ pushed old key state)

-- a refusal that may leave open whether a push was taken: 20, 22, or one from 30 on
abbrev pub leaves_open : Refusal → Bool
leaves_open Memory = true
leaves_open Broken = true
leaves_open Truncated = true
leaves_open FrameTooLong = true
leaves_open BadKind = true
leaves_open BadBody = true
leaves_open ReadFailed = true
leaves_open WriteFailed = true
leaves_open TooManyRequests = true
leaves_open BadDefs = true
leaves_open NotAdmitted = true
leaves_open refusal = false

abbrev pub IsLeftOpen : Refusal → Type 0
IsLeftOpen refusal = leaves_open refusal ≡ true

-- what a push that was refused leaves: the states that were, unless the refusal leaves open whether it was taken
abbrev pub LeavesOfPush : States → Key → State → States → Refusal → Type 0
LeavesOfPush old key state new refusal = (new ≡ old) ⊎ ((leaves_open refusal ≡ true) × TakesState old key state new)
