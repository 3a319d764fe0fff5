-- What is noted of what questions were told, and what a remote side may refuse with by that.
use Rattle.std.proofs.Common.{◌≡◌, ◌⊎◌, inl, inr, List, [], ◌∷◌, ◌++◌, None, length, refl, sym, ap, subst, ◌∙◌, ℕ, ◌≤◌, append-nil, append_assoc, arith}
use Rattle.std.specs.Prelude.{Contains, Result, Ok, Err, IfErr, IfOk, Vec}
use Rattle.std.specs.declared.alloc.Global.{Global}
use Rattle.std.proofs.lemmas.List.{length-map, map-append}
use Rattle.std.proofs.lemmas.List.Elements.{Contains-append_cases, Contains-append_left, Contains-append_right, Contains-push, Contains-push_cases}
use Rattle.mvd_dots.specs.declared.refusals.Refusal.{Refusal}
use Rattle.mvd_dots.specs.declared.refusals.Refusal.TheVariants.{Broken, Memory}
use Rattle.mvd_wire.specs.declared.reply.Reply.{Reply}
use Rattle.mvd_wire.specs.declared.reply.Reply.TheVariants.{Refused}
use Rattle.mvd_peer.specs.Windows.{EachTold, ForEach}
use Rattle.mvd_remote.specs.LinkWindows.{IsToldBy}
use Rattle.mvd_remote.specs.Lines.{NotesUpTo, RemoteRefuses, WasTold, noted, told_of}
use Rattle.mvd_remote.specs.Remotes.{NotesAll, NotesOne}
use Rattle.mvd_remote.specs.declared.remote.Remote.{Remote}

-- ---- lists

-- one more is noted
pub noted_more : (before mid after : List (Result Reply Refusal × Unit {0})) (replies us : List (Result Reply Refusal)) (told : Result Reply Refusal) → us ≡ replies ++ told ∷ [] → mid ≡ before ++ noted replies → after ≡ mid ++ (told, tt) ∷ [] → after ≡ before ++ noted us
noted_more before mid after replies us told is was now =
    let one : noted replies ++ (told, tt) ∷ [] ≡ noted us = sym (map-append (λ t. (t, tt)) replies (told ∷ [])) ∙ ap noted (sym is) in
    now ∙ ap (λ m. m ++ (told, tt) ∷ []) was ∙ append_assoc before (noted replies) ((told, tt) ∷ []) ∙ ap (λ more. before ++ more) one

contains_first : {X : Type 0} (x : X) (xs : List X) → Contains (x ∷ xs) x
contains_first x xs = Contains-append_left (x ∷ []) xs x (Contains-push [] x)

contains_none : {X P : Type 0} (x : X) → Contains [] x → P
contains_none x h = let low = h.1 in absurd (omega arith)

contains_one : {X : Type 0} (y x : X) → Contains (y ∷ []) x ⊎ Contains [] x → y ≡ x
contains_one y x (inr none) = contains_none x none
contains_one y x (inl one) = elim (Contains-push_cases [] y x one) as (λ _. y ≡ x) [
  | inl none ↦ contains_none x none
  | inr same ↦ same
]

contains_noted : (replies : List (Result Reply Refusal)) (told : Result Reply Refusal) → Contains replies told → Contains (noted replies) (told, tt)
contains_noted [] told h = contains_none told h
contains_noted (r ∷ rs) told h = elim (Contains-append_cases (r ∷ []) rs told h) as (λ _. Contains (noted (r ∷ rs)) (told, tt)) [
  | inl first ↦ subst (λ (t : Result Reply Refusal). Contains (noted (r ∷ rs)) (t, tt)) (contains_one r told (inl first)) (contains_first (r, tt) (noted rs))
  | inr later ↦ Contains-append_right ((r, tt) ∷ []) (noted rs) (told, tt) (contains_noted rs told later)
]

-- ---- how much was noted

-- no more than this
pub up_to : {L : Type 0} (old new : Remote L) (told : List (Result Reply Refusal)) (most : ℕ) → length told ≤ most → told_of new ≡ told_of old ++ noted told → NotesUpTo most old new
up_to old new told most few now = (length told, few, (noted told, length-map told (λ t. (t, tt)), now))

-- nothing
pub up_to_none : {L : Type 0} (old new : Remote L) (most : ℕ) → told_of new ≡ told_of old → NotesUpTo most old new
up_to_none old new most same = up_to old new [] most (omega arith) (same ∙ sym (append-nil (told_of old)))

-- ---- one question

pub told_itself : (told : Result Reply Refusal) → IsToldBy (λ reply. reply) told told
told_itself (Ok reply) = refl
told_itself (Err refusal) = inr refl

-- what an answer is made of was told
answer_by : {A : Type 0} (as_reply : A → Reply) (reply : Reply) (answer : Result A Refusal) (told : Result Reply Refusal) → told ≡ Ok reply → IfOk answer (λ a. reply ≡ as_reply a) → IfErr answer (λ refusal. reply ≡ Refused refusal) → IsToldBy as_reply told answer
answer_by as_reply reply (Ok a) told by is refused = by ∙ ap Ok is
answer_by as_reply reply (Err refusal) told by is refused = inl (by ∙ ap Ok refused)

pub notes_answer : {L A : Type 0} (as_reply : A → Reply) (old new : Remote L) (reply : Reply) (answer : Result A Refusal) → IfOk answer (λ a. reply ≡ as_reply a) → IfErr answer (λ refusal. reply ≡ Refused refusal) → NotesOne (λ (r : Reply). r) old new (Ok reply) → NotesOne as_reply old new answer
notes_answer as_reply old new reply answer is refused (inl (refusal, never, some, same)) = let bad : ◌≡◌ {A = Result Reply Refusal} (Ok reply) (Err refusal) = never in absurd (cc)
notes_answer as_reply old new reply answer is refused (inr (told, by, now)) = inr (told, answer_by as_reply reply answer told by is refused, now)

same_err : (one other : Refusal) → ◌≡◌ {A = Result Reply Refusal} (Err one) (Err other) → one ≡ other
same_err one other is = cc

pub notes_err : {L A : Type 0} (as_reply : A → Reply) (old new : Remote L) (refusal : Refusal) → NotesOne (λ (r : Reply). r) old new (Err refusal) → NotesOne as_reply old new (Err refusal)
notes_err as_reply old new refusal (inl (other, is, some, same)) = inl (other, ap Err (same_err refusal other is), some, same)
notes_err as_reply old new refusal (inr (told, by, now)) = inr (told, by, now)

-- ---- a refusal

-- it was told by this
was_by : {L : Type 0} (new : Remote L) (told : Result Reply Refusal) (refusal : Refusal) → (told ≡ Ok (Refused refusal)) ⊎ (told ≡ Err refusal) → Contains (told_of new) (told, tt) → WasTold new refusal
was_by new told refusal (inl is) h = inl (subst (λ (t : Result Reply Refusal). Contains (told_of new) (t, tt)) is h)
was_by new told refusal (inr is) h = inr (subst (λ (t : Result Reply Refusal). Contains (told_of new) (t, tt)) is h)

-- ---- a window

held_of : {L : Type 0} (old new : Remote L) (replies : List (Result Reply Refusal)) → told_of new ≡ told_of old ++ noted replies → (told : Result Reply Refusal) → Contains replies told → Contains (told_of new) (told, tt)
held_of old new replies now told c = subst (λ (xs : List (Result Reply Refusal × Unit {0})). Contains xs (told, tt)) (sym now) (Contains-append_right (told_of old) (noted replies) (told, tt) (contains_noted replies told c))

-- each refusal of a window is one that the side then may refuse with
module _ {L A : Type 0} (as_reply : A → Reply) (new : Remote L) (none : new.refused ≡ None) {Answers : Type 0} {Refuses : Refusal → Type 0} (answers : Answers) (refuses : (refusal : Refusal) → RemoteRefuses new refusal → Refuses refusal) where
  each_noted : (replies : List (Result Reply Refusal)) (ts : List (Result A Refusal)) → ForEach (IsToldBy as_reply) replies ts → ((told : Result Reply Refusal) → Contains replies told → Contains (told_of new) (told, tt)) → EachTold Answers Refuses ts
  each_noted [] [] h held = tt
  each_noted [] (t ∷ ts) h held = absurd h
  each_noted (r ∷ rs) [] h held = absurd h
  each_noted (r ∷ rs) (Ok a ∷ ts) h held = (answers, each_noted rs ts h.1 (λ told c. held told (Contains-append_right (r ∷ []) rs told c)))
  each_noted (r ∷ rs) (Err refusal ∷ ts) h held = (refuses refusal (inr (none, inl (was_by new r refusal h.0 (held r (contains_first r rs))))), each_noted rs ts h.1 (λ told c. held told (Contains-append_right (r ∷ []) rs told c)))

  pub noted_why : (old : Remote L) (replies : List (Result Reply Refusal)) (ts : List (Result A Refusal)) → ForEach (IsToldBy as_reply) replies ts → told_of new ≡ told_of old ++ noted replies → EachTold Answers Refuses ts
  noted_why old replies ts by now = each_noted replies ts by (held_of old new replies now)

-- what was made of the replies of a window
pub notes_made : {L A : Type 0} (as_reply : A → Reply) (old new : Remote L) (replies : List (Result Reply Refusal)) (most : ℕ) (made : Result (Vec (Result A Refusal) Global) Refusal) → length replies ≤ most → new.refused ≡ None → told_of new ≡ told_of old ++ noted replies → IfOk made (λ v. ForEach (IsToldBy as_reply) replies v.items)
    → IfErr made (λ refusal. (refusal ≡ Memory) ⊎ ((refusal ≡ Broken) × (Contains replies (Ok (Refused Broken)) ⊎ Contains replies (Err Broken)))) → NotesAll as_reply most old new made
notes_made as_reply old new replies most (Ok v) few none now by why = (replies, by, now)
notes_made as_reply old new replies most (Err refusal) few none now by (inl memory) = (inr (none, inr memory), up_to old new replies most few now)
notes_made as_reply old new replies most (Err refusal) few none now by (inr (broken, inl said)) = (subst (RemoteRefuses new) (sym broken) (inr (none, inl (inl (held_of old new replies now (Ok (Refused Broken)) said)))), up_to old new replies most few now)
notes_made as_reply old new replies most (Err refusal) few none now by (inr (broken, inr said)) = (subst (RemoteRefuses new) (sym broken) (inr (none, inl (inr (held_of old new replies now (Err Broken) said)))), up_to old new replies most few now)
