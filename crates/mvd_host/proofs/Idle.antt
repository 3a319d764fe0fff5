-- A connection of which nothing comes next.
use Rattle.std.proofs.Common.{◌≡◌, ◌≢◌, ◌⊎◌, ◌∙◌, ◌-◌, ◌==◌, ◌||◌, ◌≤◌, ◌+◌, Bool, true, false, ℕ, nat_le, if◌then◌else◌, length, Option, Some, None, is_some, inl, inr, refl, sym, ap, true≢false, arith}
use Rattle.std.proofs.lemmas.Bool.Decides.{nat_tests}
use Rattle.mvd_wire.specs.declared.ending.Ending.{Ending}
use Rattle.mvd_wire.specs.declared.ending.Ending.TheVariants as ending
use Rattle.mvd_conn.specs.History.{Gives, History, NextTaken, Over, Stops, Waits, after_next, due, is_held_up, next_of, over, owes, released, stepped, stopped, waits_most}
use Rattle.mvd_host.specs.Hosts.{IfClient}
use Rattle.mvd_host.specs.Round.{IsIdle}
use Rattle.mvd_host.specs.Taking.{HasNoNext}

-- ---- what holds a connection up

either : (a b c : Bool) → (a || b || c) ≡ true → (a ≡ true) ⊎ (b ≡ true) ⊎ (c ≡ true)
either true b c is = inl refl
either false true c is = inr (inl refl)
either false false c is = inr (inr is)

any_of : (a b c : Bool) → (a ≡ true) ⊎ (b ≡ true) ⊎ (c ≡ true) → (a || b || c) ≡ true
any_of true b c any = refl
any_of false true c any = refl
any_of false false c (inl bad) = absurd (true≢false (sym bad))
any_of false false c (inr (inl bad)) = absurd (true≢false (sym bad))
any_of false false c (inr (inr is)) = is

some_end : (o : Option Ending) → is_some o ≡ true → o ≢ None
some_end None is = absurd (true≢false (sym is))
some_end (Some why) is = λ none. absurd cc

is_ended : (o : Option Ending) → o ≢ None → is_some o ≡ true
is_ended None other = absurd (other refl)
is_ended (Some why) other = refl

waits_much : (n : ℕ) → nat_le 262144 n ≡ true → 262144 ≤ n
waits_much n is = grind (arith, nat_tests)

much_waits : (n : ℕ) → 262144 ≤ n → nat_le 262144 n ≡ true
much_waits n much = grind (arith, nat_tests)

-- what comes of a step, and whether a frame was handed out
abbrev Step : Type 0
Step = Bool × History

by_held : (h : History) (up : Bool) → is_held_up h ≡ up → after_next h ≡ (if up then (false, released h) else stepped (released h) (next_of h))
by_held h up is = ap (λ b. if b then (false, released h) else stepped (released h) (next_of h)) is

hand_gone : (h : History) → ◌≡◌ {A = Step} (false, released h) (false, h) → h.hand ≡ None
hand_gone h same = sym (ap (λ (step : Step). step.1.hand) same)

released_same : (h : History) → h.hand ≡ None → released h ≡ h
released_same h gone = ap (λ o. record h { hand = o }) (sym gone)

-- ---- where its frames are answered

module _ (h : History) (answered : length h.answers ≡ length h.taken) where
  none_due : due h ≡ 0
  none_due = let zero : length h.taken - length h.answers ≡ 0 = omega (arith, answered) in zero

  none_owed : length h.waits + owes h ≡ length h.waits
  none_owed = let none : owes h ≡ 0 = ap (λ n. if n == 0 then 0 else h.behind + h.brings) none_due in omega (arith, none)

  held_why : is_held_up h ≡ true → (h.last ≢ None) ⊎ (h.failed ≡ true) ⊎ (262144 ≤ length h.waits)
  held_why up = elim (either (is_some h.last) h.failed (nat_le waits_most (length h.waits + owes h)) up) [
    | inl ended ↦ inl (some_end h.last ended)
    | inr (inl failed) ↦ inr (inl failed)
    | inr (inr much) ↦ inr (inr (waits_much (length h.waits) (sym (ap (nat_le waits_most) none_owed) ∙ much)))
  ]

  why_held : (h.last ≢ None) ⊎ (h.failed ≡ true) ⊎ (262144 ≤ length h.waits) → is_held_up h ≡ true
  why_held why = any_of (is_some h.last) h.failed (nat_le waits_most (length h.waits + owes h)) (elim why [
    | inl ended ↦ inl (is_ended h.last ended)
    | inr (inl failed) ↦ inr (inl failed)
    | inr (inr much) ↦ inr (inr (ap (nat_le waits_most) none_owed ∙ much_waits (length h.waits) much))
  ])

  -- an end that comes next was told, and holds it up
  not_ended : (other : History) → is_held_up h ≡ false → other.last ≢ None → ◌≡◌ {A = Step} (false, if due h == 0 then other else released h) (false, h) → ⊥
  not_ended other free ended same =
      let chosen : (if due h == 0 then other else released h) ≡ other = ap (λ n. if n == 0 then other else released h) none_due in
      let here : other ≡ h = sym chosen ∙ ap (λ (step : Step). step.1) same in
      true≢false (sym (why_held (inl (λ none. ended (ap (λ (o : History). o.last) here ∙ none)))) ∙ free)

  idle_by : (next : NextTaken) → is_held_up h ≡ false → next_of h ≡ next → stepped (released h) next ≡ (false, h) → IsIdle h
  idle_by (Gives f rest) free is same = absurd (true≢false (ap (λ (step : Step). step.0) same))
  idle_by Over free is same = absurd (not_ended (over (released h)) free (λ none. absurd (let wrong : ◌≡◌ {A = Option Ending} (Some ending.End) None = none in cc)) same)
  idle_by (Stops refusal) free is same = absurd (not_ended (stopped (released h) refusal) free (λ none. absurd (let wrong : ◌≡◌ {A = Option Ending} (Some (ending.Stopped refusal)) None = none in cc)) same)
  idle_by Waits free is same = record { hand = hand_gone h same; next = inr (inr (inr is)) }

  idle_held : is_held_up h ≡ true → h.hand ≡ None → IsIdle h
  idle_held up gone = record {
    hand = gone;
    next = elim (held_why up) [ inl ended ↦ inl ended | inr (inl failed) ↦ inr (inl failed) | inr (inr much) ↦ inr (inr (inl much)) ];
  }

  pub is_idle : HasNoNext h → IsIdle h
  is_idle none = elim (is_held_up h) as (λ b. is_held_up h ≡ b → IsIdle h) [
    | true ↦ λ up. idle_held up (hand_gone h (sym (by_held h true up) ∙ none))
    | false ↦ λ free. idle_by (next_of h) free refl (sym (by_held h false free) ∙ none)
  ] refl

  stays_held : h.hand ≡ None → is_held_up h ≡ true → HasNoNext h
  stays_held gone up = by_held h true up ∙ ap (λ x. (false, x)) (released_same h gone)

  pub idle_stays : IsIdle h → HasNoNext h
  idle_stays idle = elim idle.next [
    | inl ended ↦ stays_held idle.hand (why_held (inl ended))
    | inr (inl failed) ↦ stays_held idle.hand (why_held (inr (inl failed)))
    | inr (inr (inl much)) ↦ stays_held idle.hand (why_held (inr (inr much)))
    | inr (inr (inr waits)) ↦ elim (is_held_up h) as (λ b. is_held_up h ≡ b → HasNoNext h) [
      | true ↦ λ up. stays_held idle.hand up
      | false ↦ λ free. by_held h false free ∙ ap (stepped (released h)) waits ∙ ap (λ x. (false, x)) (released_same h idle.hand)
    ] refl
  ]

pub idle_if : (o : Option History) → ((h : History) → o ≡ Some h → length h.answers ≡ length h.taken) → IfClient o HasNoNext → IfClient o IsIdle
idle_if None answered none = tt
idle_if (Some h) answered none = is_idle h (answered h refl) none
