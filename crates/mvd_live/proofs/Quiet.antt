-- A side to which nobody else writes is live, and windows follow each other.
use Rattle.std.proofs.Common.{◌≡◌, inl, inr, ℕ, List, [], ◌∷◌, map, sym, subst, arith, Option, Some, None}
use Rattle.std.specs.Prelude.{Contains, Ok, Err, Result}
use Rattle.std.proofs.lemmas.List.Elements.{Contains-append_cases, Contains-push_cases}
use Rattle.mvd_dots.specs.declared.refusals.Refusal.{Refusal}
use Rattle.mvd_keys.specs.State.{IsValid, State}
use Rattle.mvd_keys.specs.Writes.{Key}
use Rattle.mvd_site.specs.Held.{AreHeld, States, state_at}
use Rattle.mvd_peer.specs.Live.{Grows, Rises}
use Rattle.mvd_peer.specs.PushedStates.{pushed}
use Rattle.mvd_peer.specs.Windows.{CannotTake, EachAnswer, TakesState}
use Rattle.mvd_peer.proofs.Growths.{has_pushed, pushed_grows}
use Rattle.mvd_peer.proofs.JoinLaws.{valid_at}
use Rattle.mvd_peer.specs.Asking.{Wanted}
use Rattle.mvd_peer.specs.declared.window.Told.{Told}
use Rattle.mvd_peer.specs.declared.window.Told.TheVariants as told
use Rattle.mvd_live.specs.Told.{LiveTells, TellsEach, TellsNode, TellsNothing, PageTold, TellsPush, StateTold}
use Rattle.mvd_live.proofs.Whole.{grows_self}

-- the same moment for each question
abbrev pub alike : {Q : Type 0} → States → List Q → List States
alike held qs = map (λ _. held) qs

all_alike : {Q : Type 0} (held : States) (qs : List Q) (m : States) → Contains (alike held qs) m → m ≡ held
all_alike held [] m c = absurd (omega arith)
all_alike held (q ∷ qs) m c = elim (Contains-append_cases (held ∷ []) (alike held qs) m c) [
  | inl one ↦ elim (Contains-push_cases [] held m one) [ inl none ↦ absurd (omega arith) | inr is ↦ sym is ]
  | inr later ↦ all_alike held qs m later
]

pub quiet_each : {Q A : Type 0} (Right : States → Q → Result A Refusal → Type 0) (P : Q → A → Type 0) (held : States) → AreHeld held → ((q : Q) (a : A) → P q a → Right held q (Ok a)) → ((q : Q) (refusal : Refusal) → Right held q (Err refusal))
    → (qs : List Q) (answers : List (Result A Refusal)) → EachAnswer P qs answers → TellsEach Right qs answers held (alike held qs) held
quiet_each Right P held form right refuses [] [] each = grows_self held form
quiet_each Right P held form right refuses [] (t ∷ answers) each = absurd each
quiet_each Right P held form right refuses (q ∷ qs) [] each = absurd each
quiet_each Right P held form right refuses (q ∷ qs) (Ok a ∷ answers) each = (form, grows_self held form, right q a each.0, quiet_each Right P held form right refuses qs answers each.1)
quiet_each Right P held form right refuses (q ∷ qs) (Err refusal ∷ answers) each = (form, grows_self held form, refuses q refusal, quiet_each Right P held form right refuses qs answers each)

pub quiet_told : {Q A : Type 0} (Right : States → Q → Result A Refusal → Type 0) (P : Q → A → Type 0) (held : States) → AreHeld held → ((q : Q) (a : A) → P q a → Right held q (Ok a)) → ((q : Q) (refusal : Refusal) → Right held q (Err refusal))
    → (qs : List Q) (answers : List (Result A Refusal)) → EachAnswer P qs answers → (moments : List States) × TellsEach Right qs answers held moments held × ((m : States) → Contains moments m → m ≡ held)
quiet_told Right P held form right refuses qs answers each = (alike held qs, quiet_each Right P held form right refuses qs answers each, all_alike held qs)

-- a push that was taken, and one that was refused
pub push_taken : (most : ℕ) (old new : States) (key : Key) (state : State) → AreHeld old → AreHeld new → IsValid state → TakesState old key state new → TellsEach (TellsPush most) ((key, state) ∷ []) (Ok tt ∷ []) old (new ∷ []) new
push_taken most old new key state p q valid takes =
    let v = valid_at old p in
    let grown = pushed_grows old key state v valid in (
      q,
      subst (Grows old) (sym takes.1) grown.1,
      has_pushed old new key state v (valid_at new q) valid takes.0 (subst (Grows (pushed old key state)) (sym takes.1) (λ k. Rattle.mvd_keys.proofs.Joins.join_repeats (state_at (pushed old key state) k) (grown.0 k))),
      grows_self new q,
    )

pub push_refused : (most : ℕ) (old : States) (key : Key) (state : State) (refusal : Refusal) → AreHeld old → CannotTake most old key state refusal → TellsEach (TellsPush most) ((key, state) ∷ []) (Err refusal ∷ []) old (old ∷ []) old
push_refused most old key state refusal p why = (p, grows_self old p, why, grows_self old p)

-- ---- one after the other

pub each_rises : {Q A : Type 0} (Right : States → Q → A → Type 0) (qs : List Q) (answers : List A) (old new : States) (moments : List States) → TellsEach Right qs answers old moments new → Rises old moments new
each_rises Right [] [] old new [] tells = tells
each_rises Right [] [] old new (m ∷ moments) tells = absurd tells
each_rises Right [] (a ∷ answers) old new moments tells = absurd tells
each_rises Right (x ∷ qs) [] old new moments tells = absurd tells
each_rises Right (x ∷ qs) (a ∷ answers) old new [] tells = absurd tells
each_rises Right (x ∷ qs) (a ∷ answers) old new (m ∷ moments) tells = (valid_at m tells.0, tells.1, each_rises Right qs answers m new moments tells.3)

nothing_rises : (old new : States) (moments : List States) → TellsNothing old moments new → Rises old moments new
nothing_rises old new moments tells = subst (λ ms. Rises old ms new) (sym tells.0) tells.1

pub tells_rise : (most : ℕ) (w : Wanted) (t : Option Told) (old new : States) (moments : List States) → LiveTells most w t old moments new → Rises old moments new
tells_rise most w None old new moments tells = nothing_rises old new moments tells
tells_rise most w (Some (told.Nodes given)) old new moments tells = each_rises TellsNode w.nodes given.items old new moments tells
tells_rise most w (Some (told.Pages given)) old new moments tells = each_rises PageTold w.pages given.items old new moments tells
tells_rise most w (Some (told.States given)) old new moments tells = each_rises StateTold w.gets given.items old new moments tells
tells_rise most w (Some (told.Pushes given)) old new moments tells = each_rises (TellsPush most) w.pushes given.items old new moments tells
tells_rise most w (Some (told.Refused refusal)) old new moments tells = nothing_rises old new moments tells
