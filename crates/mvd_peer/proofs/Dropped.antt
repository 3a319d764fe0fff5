-- The states that a side holds at once.
use Rattle.std.proofs.Common.{◌≡◌, inl, inr, ℕ, ◌+◌, ◌-◌, ◌^◌, ◌<◌, List, [], ◌∷◌, ◌++◌, length, refl, sym, ap, subst, ◌∙◌, arith}
use Rattle.std.specs.Prelude.{Result, Ok, Err, IfOk, false, min}
use Rattle.std.proofs.Math.Nat.{min-eq_left, min-eq_right}
use Rattle.std.proofs.lemmas.Bool.{cases_lt}
use Rattle.mvd_dots.specs.declared.refusals.Refusal.{Refusal}
use Rattle.mvd_dots.specs.declared.refusals.Refusal.TheVariants.{Broken, Memory}
use Rattle.mvd_keys.specs.State.{State}
use Rattle.mvd_keys.specs.Writes.{Key}
use Rattle.mvd_wire.specs.Codecs.{spell_state}
use Rattle.mvd_site.specs.FromStates.{unless_broken}
use Rattle.mvd_site.specs.Sites.{SiteValue}
use Rattle.mvd_peer.specs.SiteTells.{TellsState}
use Rattle.mvd_peer.specs.Windows.{AreWithin, GivesWithin, HoldsState, dropped, held, refused}

abbrev most : ℕ
most = 2 ^ 64 - 1

-- ---- an answer that is held or dropped

-- of a site that is asked, its state or a refusal
pub held_told : (site : SiteValue) (key : Key) (old new : ℕ) (answer result : Result State Refusal) → HoldsState old new answer result → TellsState site key answer → TellsState site key result
held_told site key old new answer result (held s is told low more) h = subst (TellsState site key) (is ∙ sym told) h
held_told site key old new answer result (refused e is told same) h = subst (TellsState site key) (is ∙ sym told) h
held_told site key old new answer result (dropped s is much told same) h =
    let whole : site.broken ≡ false = subst (λ a. IfOk a (λ _. site.broken ≡ false)) is h.whole in
    subst (TellsState site key) (sym told) (record { whole = tt; state = tt; refused = sym (ap (λ b. unless_broken b Broken Memory) whole) })

pub held_within : (old new : ℕ) (answer result : Result State Refusal) → HoldsState old new answer result → GivesWithin old new result
held_within old new answer result (held s is told low more) = subst (GivesWithin old new) (sym told) (low, more)
held_within old new answer result (dropped s is much told same) = subst (GivesWithin old new) (sym told) same
held_within old new answer result (refused e is told same) = subst (GivesWithin old new) (sym told) same

sat : (a n : ℕ) → min (a + min n most) most ≡ min (a + n) most
sat a n = elim (cases_lt n most) [
  | inl less ↦ ap (λ m. min (a + m) most) (min-eq_left (omega (arith, less)))
  | inr more ↦ ap (λ m. min (a + m) most) (min-eq_right more) ∙ min-eq_right (omega arith) ∙ sym (min-eq_right (omega (arith, more)))
]

-- the state is held
pub holds_state : (old length_of sum : ℕ) (answer : Result State Refusal) (s : State) → answer ≡ Ok s → old < 1048576 → length_of ≡ min (length (spell_state s)) most → sum ≡ min (old + length_of) most → HoldsState old sum answer (Ok s)
holds_state old length_of sum answer s is low long added = held s is refl low (added ∙ ap (λ m. min (old + m) most) long ∙ sat old (length (spell_state s)))

-- ---- all answers

abbrev pub bytes_of : List (Result State Refusal) → ℕ
bytes_of [] = 0
bytes_of (Ok s ∷ answers) = length (spell_state s) + bytes_of answers
bytes_of (Err e ∷ answers) = bytes_of answers

low_of : (x old : ℕ) → old ≡ min x most → old < 1048576 → (x < 1048576) × (old ≡ x)
low_of x old is low = elim (cases_lt x most) [
  | inl less ↦ let e : old ≡ x = is ∙ min-eq_left (omega (arith, less)) in (omega (arith, e, low), e)
  | inr more ↦ let e : old ≡ most = is ∙ min-eq_right more in absurd (omega (arith, e, low))
]

pub within_more : (start old new : ℕ) (answers : List (Result State Refusal)) (answer : Result State Refusal) → old ≡ min (start + bytes_of answers) most → AreWithin start answers → GivesWithin old new answer
    → AreWithin start (answers ++ answer ∷ []) × (new ≡ min (start + bytes_of (answers ++ answer ∷ [])) most)
within_more start old new [] (Ok s) is all h =
    let n = low_of (start + 0) old is h.0 in
    let low = n.0 in
    let same = n.1 in
    let e : old + length (spell_state s) ≡ start + (length (spell_state s) + 0) = omega (arith, same) in
    ((omega (arith, low), tt), h.1 ∙ ap (λ m. min m most) e)
within_more start old new [] (Err e) is all h = (tt, h ∙ is)
within_more start old new (Ok s ∷ answers) answer is all h =
    let e : start + (length (spell_state s) + bytes_of answers) ≡ (start + length (spell_state s)) + bytes_of answers = omega arith in
    let more = within_more (start + length (spell_state s)) old new answers answer (is ∙ ap (λ m. min m most) e) all.1 h in
    let f : (start + length (spell_state s)) + bytes_of (answers ++ answer ∷ []) ≡ start + (length (spell_state s) + bytes_of (answers ++ answer ∷ [])) = omega arith in
    ((all.0, more.0), more.1 ∙ ap (λ m. min m most) f)
within_more start old new (Err x ∷ answers) answer is all h = within_more start old new answers answer is all h
