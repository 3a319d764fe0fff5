-- What a live side tells: while others write to it, it answers each question rightly of what it holds at some moment.
use Rattle.std.specs.Prelude.{◌≡◌, ℕ, List, [], ◌∷◌, Option, Result, Ok, Err, Vec, IfOk}
use Rattle.std.specs.declared.alloc.Global.{Global}
use Rattle.mvd_dots.specs.declared.refusals.Refusal.{Refusal}
use Rattle.mvd_keys.specs.Order.{Includes}
use Rattle.mvd_keys.specs.State.{State}
use Rattle.mvd_keys.specs.Writes.{Key}
use Rattle.mvd_wire.specs.declared.reply.Digests.{Digests}
use Rattle.mvd_site.specs.Answer.{digests}
use Rattle.mvd_site.specs.Held.{AreHeld, States, state_at}
use Rattle.mvd_peer.specs.Live.{Grows}
use Rattle.mvd_peer.specs.Windows.{CannotTake, HasKeys, IsNode, PageValue, TellsMore}

-- ---- an answer, and what the side held at the moment of it

abbrev pub TellsNode : States → List ℕ → Result Digests Refusal → Type 0
TellsNode held path (Ok node) = IsNode (digests held) path node
TellsNode held path (Err refusal) = Unit {0}

abbrev pub PageTold : States → List ℕ × Option (List ℕ) → Result PageValue Refusal → Type 0
PageTold held q (Ok page) = HasKeys held q.0 q.1 page × TellsMore held q.0 q.1 page
PageTold held q (Err refusal) = Unit {0}

abbrev pub StateTold : States → Key → Result State Refusal → Type 0
StateTold held key (Ok state) = state ≡ state_at held key
StateTold held key (Err refusal) = Unit {0}

-- a state that was taken is in the state of its key from that moment on; a refusal has its cause then, at a side that
-- takes so many keys
abbrev pub TellsPush : ℕ → States → Key × State → Result (Unit {0}) Refusal → Type 0
TellsPush most held pair (Ok done) = Includes (state_at held pair.0) pair.1
TellsPush most held pair (Err refusal) = CannotTake most held pair.0 pair.1 refusal

-- ---- questions one after the other

-- EACH QUESTION IS ANSWERED AT A MOMENT OF ITS OWN, one after the other, rightly of what is held then. Whoever writes,
-- what is held only grows, from moment to moment
abbrev pub TellsEach : {Q A : Type 0} → (States → Q → A → Type 0) → List Q → List A → States → List States → States
    → Type 0
TellsEach Right [] [] old [] new = Grows old new
TellsEach Right (q ∷ qs) (a ∷ answers) old (held ∷ later) new =
    AreHeld held × Grows old held × Right held q a × TellsEach Right qs answers held later new
TellsEach Right qs answers old moments new = ⊥

-- A LIVE SIDE ANSWERS these questions so, and is live still
abbrev pub TellsLive : {S Q A : Type 0} → (S → Type 0) → (S → States) → (States → Q → Result A Refusal → Type 0)
    → List Q → List (Result A Refusal) → (old new : S) → Type 0
TellsLive is_live states Right questions answers old new = is_live old
    → is_live new × (moments : List States) × TellsEach Right questions answers (states old) moments (states new)

-- all questions of a call, where it tells of them
abbrev pub TellsAll : {S Q A : Type 0} → (S → Type 0) → (S → States) → (States → Q → Result A Refusal → Type 0)
    → List Q → (old new : S) → Result (Vec (Result A Refusal) Global) Refusal → Type 0
TellsAll is_live states Right questions old new result =
    IfOk result (λ told. TellsLive is_live states Right questions told.items old new)
