-- Moments between two moments of a world, and what a site holds then.
use Rattle.std.proofs.Common.{◌≡◌, ◌⊎◌, inl, inr, ℕ, List, [], ◌∷◌, ◌++◌, refl, sym, subst, arith}
use Rattle.std.specs.Prelude.{Contains}
use Rattle.mvd_site.specs.Answer.{states_of}
use Rattle.mvd_site.specs.Held.{AreHeld, States}
use Rattle.mvd_peer.specs.Live.{Grows}
use Rattle.mvd_peer.specs.PushedStates.{Each}
use Rattle.mvd_sync.proofs.Keys.{Each-weaker}
use Rattle.mvd_world.specs.declared.steps.Step.{Step}
use Rattle.mvd_world.specs.declared.steps.Outcome.{Outcome}
use Rattle.mvd_world.specs.Machine.{Knowledge, MayStep, Setting}
use Rattle.mvd_world.proofs.Agreed.{more_includes, run_known}
use Rattle.mvd_world.proofs.Cutting.{CutSteps, runs_on}
use Rattle.mvd_world.proofs.Ended.{at_states}
use Rattle.mvd_live.specs.InWindows.{AreInForm, IsBetween, LedTo}
use Rattle.mvd_live.proofs.Written.{either}

-- ---- steps

pub led_none : (setting : Setting) (before after : Knowledge) → after ≡ before → LedTo setting before after
led_none setting before after same = ([], [], same)

pub led_on : (setting : Setting) (a b c : Knowledge) → LedTo setting a b → LedTo setting b c → LedTo setting a c
led_on setting a b c p q = (p.0 ++ q.0, p.1 ++ q.1, runs_on setting a b c p.0 q.0 p.1 q.1 p.2 q.2)

pub led_step : (setting : Setting) (before : Knowledge) (step : Step) (outcome : Outcome) (after : Knowledge) → MayStep setting before step outcome after → LedTo setting before after
led_step setting before step outcome after may = (step ∷ [], outcome ∷ [], (after, may, refl))

pub led_cut : (setting : Setting) (before after : Knowledge) → CutSteps setting before after → LedTo setting before after
led_cut setting before after cut = (cut.steps, cut.outcomes, cut.runs)

-- what a site holds only grows
pub led_grows : (setting : Setting) (a b : Knowledge) (site : ℕ) → LedTo setting a b → Grows (states_of (a.known site)) (states_of (b.known site))
led_grows setting a b site led key = at_states key (b.known site) (a.known site) (more_includes key (a.known site) (b.known site) (run_known setting a led.0 led.1 b site led.2))

-- ---- moments

pub from_earlier : (setting : Setting) (first start last : Knowledge) (moments : List Knowledge) → LedTo setting first start → Each (IsBetween setting start last) moments → Each (IsBetween setting first last) moments
from_earlier setting first start last moments led each =
    Each-weaker (IsBetween setting start last) (IsBetween setting first last) (λ k b. (led_on setting first start k led b.0, b.1)) moments each

pub to_later : (setting : Setting) (first mid last : Knowledge) (moments : List Knowledge) → LedTo setting mid last → Each (IsBetween setting first mid) moments → Each (IsBetween setting first last) moments
to_later setting first mid last moments led each =
    Each-weaker (IsBetween setting first mid) (IsBetween setting first last) (λ k b. (b.0, led_on setting k mid last b.1 led)) moments each

-- what the site holds then is in form
abbrev pub IsInForm : ℕ → Knowledge → Type 0
IsInForm site k = AreHeld (states_of (k.known site))

pub local_form : (local peer : ℕ) (moments : List Knowledge) → Each (AreInForm local peer) moments → Each (IsInForm local) moments
local_form local peer moments form = Each-weaker (AreInForm local peer) (IsInForm local) (λ k both. both.0) moments form

pub peer_form : (local peer : ℕ) (moments : List Knowledge) → Each (AreInForm local peer) moments → Each (IsInForm peer) moments
peer_form local peer moments form = Each-weaker (AreInForm local peer) (IsInForm peer) (λ k both. both.1) moments form

-- ---- one of these moments

abbrev pub IsAmong : List Knowledge → Knowledge → Type 0
IsAmong [] k = ⊥
IsAmong (m ∷ moments) k = (k ≡ m) ⊎ IsAmong moments k

pub among_left : (xs ys : List Knowledge) (k : Knowledge) → IsAmong xs k → IsAmong (xs ++ ys) k
among_left [] ys k a = absurd a
among_left (x ∷ xs) ys k (inl is) = inl is
among_left (x ∷ xs) ys k (inr rest) = inr (among_left xs ys k rest)

pub among_right : (xs ys : List Knowledge) (k : Knowledge) → IsAmong ys k → IsAmong (xs ++ ys) k
among_right [] ys k a = a
among_right (x ∷ xs) ys k a = inr (among_right xs ys k a)

pub at_among : (P : Knowledge → Type 0) (xs : List Knowledge) (k : Knowledge) → Each P xs → IsAmong xs k → P k
at_among P [] k each a = absurd a
at_among P (x ∷ xs) k each (inl is) = subst P (sym is) each.0
at_among P (x ∷ xs) k each (inr rest) = at_among P xs k each.1 rest

-- what a site held at these moments
abbrev pub held_at : ℕ → List Knowledge → List States
held_at site [] = []
held_at site (k ∷ moments) = states_of (k.known site) ∷ held_at site moments

-- what a site held at one of these moments
abbrev pub WasHeldAt : ℕ → List Knowledge → States → Type 0
WasHeldAt site moments held = (k : Knowledge) × IsAmong moments k × (held ≡ states_of (k.known site))

pub held_among : (site : ℕ) (moments all : List Knowledge) → ((k : Knowledge) → IsAmong moments k → IsAmong all k) → Each (WasHeldAt site all) (held_at site moments)
held_among site [] all among = tt
held_among site (k ∷ moments) all among = ((k, among k (inl refl), refl), held_among site moments all (λ m rest. among m (inr rest)))

pub held_wider : (site : ℕ) (moments all : List Knowledge) (held : List States) → ((k : Knowledge) → IsAmong moments k → IsAmong all k) → Each (WasHeldAt site moments) held → Each (WasHeldAt site all) held
held_wider site moments all held among each = Each-weaker (WasHeldAt site moments) (WasHeldAt site all) (λ states was. (was.0, among was.0 was.1, was.2)) held each

pub each_holds : (P : States → Type 0) (xs : List States) (x : States) → Each P xs → Contains xs x → P x
each_holds P [] x each c = absurd (omega arith)
each_holds P (y ∷ xs) x each c = elim (either x y xs c) [ inl is ↦ subst P is each.0 | inr rest ↦ each_holds P xs x each.1 rest ]
