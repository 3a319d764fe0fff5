-- A window of a session is told as live sides tell.
use Rattle.std.proofs.Common.{◌≡◌, ℕ, inr, List, [], ◌∷◌, ◌++◌, Option, Some, None, refl, sym, ap, subst}
use Rattle.std.specs.Prelude.{Ok}
use Rattle.mvd_dots.specs.declared.refusals.Refusal.TheVariants.{Memory}
use Rattle.mvd_site.specs.Answer.{states_of}
use Rattle.mvd_site.specs.Held.{States}
use Rattle.mvd_peer.specs.Live.{Grows}
use Rattle.mvd_peer.specs.PushedStates.{Each}
use Rattle.mvd_peer.specs.Sides.{Two}
use Rattle.mvd_sync.proofs.Descents.{Each-left, Each-right}
use Rattle.mvd_peer.proofs.Pushes.{Each-append}
use Rattle.mvd_sync.specs.Machines.{HasNext, Machining}
use Rattle.mvd_peer.specs.Asking.{asked as asked_in}
use Rattle.mvd_sync.specs.declared.asked.Step.{Step as Asking}
use Rattle.mvd_peer.specs.declared.window.Window.{Window}
use Rattle.mvd_peer.specs.declared.window.Window.TheVariants as wanted
use Rattle.mvd_peer.specs.declared.window.Told.{Told}
use Rattle.mvd_peer.specs.declared.window.Told.TheVariants as telling
use Rattle.mvd_live.specs.Runs.{TakesLeg, Leg, Standing, both_asked}
use Rattle.mvd_live.proofs.Runner.{asks_named}
use Rattle.mvd_live.specs.Told.{LiveTells, TellsEach, TellsNode, PageTold, TellsPush, StateTold}
use Rattle.mvd_world.specs.Machine.{Knowledge, Setting}
use Rattle.mvd_world.specs.OpenWorlds.{AsksForNode, AsksForPage, AsksForState, AsksOneSite, AsksToTake, AsksWindow, OneByOne, OneWindow, all_asked_of, no_room}
use Rattle.mvd_world.proofs.Cutting.{site_steps}
use Rattle.mvd_live.specs.InWindows.{AreInForm, IsBetween, LedTo}
use Rattle.mvd_live.proofs.Between.{IsInForm, WasHeldAt, among_left, among_right, from_earlier, held_among, held_at, led_cut, led_grows, led_none, led_on, local_form, peer_form}
use Rattle.mvd_live.proofs.Right.{RightAt, most_of, node_right, page_right, push_right, state_right}

-- what was told of the questions, from a moment before them to one after them
pub record ToldEach {Q A : Type 0} (setting : Setting) (site : ℕ) (Right : States → Q → A → Type 0) (start last : Knowledge) (qs : List Q) (answers : List A) : Type 0 where
  pub moments : List Knowledge
  pub between : Each (IsBetween setting start last) moments
  pub tells : Each (IsInForm site) moments → TellsEach Right qs answers (states_of (start.known site)) (held_at site moments) (states_of (last.known site))

led_last : {Q A : Type 0} (setting : Setting) (site : ℕ) (Asks : Knowledge → Q → A → Knowledge → Type 0) (Right : States → Q → A → Type 0) → ((before : Knowledge) (q : Q) (a : A) (after : Knowledge) → Asks before q a after → RightAt setting site Right before q a after)
    → (before after last : Knowledge) (qs : List Q) (answers : List A) → OneByOne Asks before qs answers after → LedTo setting after last → LedTo setting before last
led_last setting site Asks Right right before after last [] [] one until = led_on setting before after last (led_none setting before after one) until
led_last setting site Asks Right right before after last (q ∷ qs) (a ∷ answers) one until =
    let r = right before q a one.0 one.1 in
    led_on setting before one.0 last (led_on setting before r.mid one.0 r.since r.until) (led_last setting site Asks Right right one.0 after last qs answers one.2 until)
led_last setting site Asks Right right before after last [] (a ∷ answers) one until = absurd one
led_last setting site Asks Right right before after last (q ∷ qs) [] one until = absurd one

pub each_told : {Q A : Type 0} (setting : Setting) (site : ℕ) (Asks : Knowledge → Q → A → Knowledge → Type 0) (Right : States → Q → A → Type 0) → ((before : Knowledge) (q : Q) (a : A) (after : Knowledge) → Asks before q a after → RightAt setting site Right before q a after)
    → (start before after last : Knowledge) (qs : List Q) (answers : List A) → LedTo setting start before → OneByOne Asks before qs answers after → LedTo setting after last → ToldEach setting site Right start last qs answers
each_told setting site Asks Right right start before after last [] [] since one until = record {
  moments = [];
  between = tt;
  tells = λ form. led_grows setting start last site (led_on setting start before last since (led_on setting before after last (led_none setting before after one) until));
}
each_told setting site Asks Right right start before after last (q ∷ qs) (a ∷ answers) since one until =
    let r = right before q a one.0 one.1 in
    let led = led_on setting start before r.mid since r.since in
    let on = led_on setting r.mid one.0 last r.until (led_last setting site Asks Right right one.0 after last qs answers one.2 until) in
    let rest = each_told setting site Asks Right right r.mid one.0 after last qs answers r.until one.2 until in
    record {
      moments = r.mid ∷ rest.moments;
      between = ((led, on), from_earlier setting start r.mid last rest.moments led rest.between);
      tells = λ form. (form.0, led_grows setting start r.mid site led, r.right, rest.tells form.1);
    }
each_told setting site Asks Right right start before after last [] (a ∷ answers) since one until = absurd one
each_told setting site Asks Right right start before after last (q ∷ qs) [] since one until = absurd one

-- ---- a site

-- what a site told of a window
pub record ToldSite (setting : Setting) (site : ℕ) (start last : Knowledge) (window : Option Window) (t : Option Told) : Type 0 where
  pub moments : List Knowledge
  pub between : Each (IsBetween setting start last) moments
  pub tells : Each (IsInForm site) moments → LiveTells (most_of (setting.configs site)) (asked_in window) t (states_of (start.known site)) (held_at site moments) (states_of (last.known site))

nothing_told : (setting : Setting) (site : ℕ) (start last : Knowledge) (window : Option Window) (t : Option Told) → (Grows (states_of (start.known site)) (states_of (last.known site)) → LiveTells (most_of (setting.configs site)) (asked_in window) t (states_of (start.known site)) [] (states_of (last.known site))) → LedTo setting start last → ToldSite setting site start last window t
nothing_told setting site start last window t tells led = record { moments = []; between = tt; tells = λ form. tells (led_grows setting start last site led) }

as_site : (setting : Setting) (site : ℕ) (start last : Knowledge) (window : Option Window) (t t' : Option Told) → t ≡ t' → ToldSite setting site start last window t' → ToldSite setting site start last window t
as_site setting site start last window t t' same told = subst (ToldSite setting site start last window) (sym same) told

module _ (setting : Setting) (site : ℕ) (start before after last : Knowledge) (since : LedTo setting start before) (until : LedTo setting after last) where
  none_told : (window : Window) (t : Told) → t ≡ telling.Refused Memory → after ≡ before → ToldSite setting site start last (Some window) (Some t)
  none_told window t e same = as_site setting site start last (Some window) (Some t) (Some (telling.Refused Memory)) (ap Some e)
      (nothing_told setting site start last (Some window) (Some (telling.Refused Memory)) (λ grows. (refl, grows)) (led_on setting start before last since (led_on setting before after last (led_none setting before after same) until)))

  window_told : (window : Window) (t : Told) → AsksWindow setting site before window t after → ToldSite setting site start last (Some window) (Some t)
  window_told (wanted.Nodes paths) t (all_asked_of answers e one) =
      let told = each_told setting site (AsksForNode setting site) TellsNode (node_right setting site) start before after last paths.items answers.items since one until in
      as_site setting site start last (Some (wanted.Nodes paths)) (Some t) (Some (telling.Nodes answers)) (ap Some e) (record { moments = told.moments; between = told.between; tells = told.tells })
  window_told (wanted.Pages pages) t (all_asked_of answers e one) =
      let told = each_told setting site (AsksForPage setting site) PageTold (page_right setting site) start before after last pages.items answers.items since one until in
      as_site setting site start last (Some (wanted.Pages pages)) (Some t) (Some (telling.Pages answers)) (ap Some e) (record { moments = told.moments; between = told.between; tells = told.tells })
  window_told (wanted.Gets keys) t (all_asked_of answers e one) =
      let told = each_told setting site (AsksForState setting site) StateTold (state_right setting site) start before after last keys.items answers.items since one until in
      as_site setting site start last (Some (wanted.Gets keys)) (Some t) (Some (telling.States answers)) (ap Some e) (record { moments = told.moments; between = told.between; tells = told.tells })
  window_told (wanted.Pushes pairs) t (all_asked_of answers e one) =
      let told = each_told setting site (AsksToTake setting site) (TellsPush (most_of (setting.configs site))) (push_right setting site) start before after last pairs.items answers.items since one until in
      as_site setting site start last (Some (wanted.Pushes pairs)) (Some t) (Some (telling.Pushes answers)) (ap Some e) (record { moments = told.moments; between = told.between; tells = told.tells })
  window_told (wanted.Nodes paths) t (no_room e same) = none_told (wanted.Nodes paths) t e same
  window_told (wanted.Pages pages) t (no_room e same) = none_told (wanted.Pages pages) t e same
  window_told (wanted.Gets keys) t (no_room e same) = none_told (wanted.Gets keys) t e same
  window_told (wanted.Pushes pairs) t (no_room e same) = none_told (wanted.Pushes pairs) t e same

  pub site_told : (window : Option Window) (t : Option Told) → AsksOneSite setting site before window t after → ToldSite setting site start last window t
  site_told None t h = as_site setting site start last None t None h.0 (nothing_told setting site start last None None (λ grows. (refl, grows)) (led_on setting start before last since (led_on setting before after last (led_none setting before after h.1) until)))
  site_told (Some window) (Some t) h = window_told window t h
  site_told (Some window) None h = absurd h

-- ---- both sites

-- what the two sites hold where the machine is so far
abbrev pub standing_at : ℕ → ℕ → Knowledge → Machining → Standing
standing_at local peer k machine = record { machine = machine; local = states_of (k.known local); peer = states_of (k.known peer) }

abbrev pub most_at : Setting → ℕ → ℕ → Two ℕ ℕ
most_at setting local peer = record { local = most_of (setting.configs local); peer = most_of (setting.configs peer) }

-- a window as a leg of a run, where so at some moments
pub record GoneBy (setting : Setting) (local peer : ℕ) (start after : Knowledge) (machine next : Machining) : Type 0 where
  pub leg : Leg
  pub is : leg.after ≡ standing_at local peer after next
  pub moments : List Knowledge
  pub between : Each (IsBetween setting start after) moments
  pub goes : Each (AreInForm local peer) moments → TakesLeg (most_at setting local peer) (standing_at local peer start machine) leg
  pub locals : Each (WasHeldAt local moments) leg.locals
  pub peers : Each (WasHeldAt peer moments) leg.peers

pub window_gone : (setting : Setting) (local peer : ℕ) (start before after : Knowledge) (machine asking next : Machining) (step : Asking) → LedTo setting start before → HasNext machine asking (Some step) → OneWindow setting local peer before asking step next (Ok tt) after → GoneBy setting local peer start after machine next
window_gone setting local peer start before after machine asking next step since has window =
    let first = led_cut setting before window.between (site_steps setting local before step.local window.mine window.between window.local_side) in
    let second = led_cut setting window.between after (site_steps setting peer window.between step.peer window.theirs after window.peer_side) in
    let none = led_none setting after after refl in
    let now = led_on setting start before window.between since first in
    let a = site_told setting local start before window.between after since second step.local window.mine window.local_side in
    let b = site_told setting peer start window.between after after now none step.peer window.theirs window.peer_side in
    let all = after ∷ (a.moments ++ b.moments) in
    record {
      leg = record { asking = asking; asks = both_asked step; mine = window.mine; theirs = window.theirs; locals = held_at local a.moments; peers = held_at peer b.moments; after = standing_at local peer after next };
      is = refl;
      moments = all;
      between = ((led_on setting start window.between after now second, none), Each-append (IsBetween setting start after) a.moments b.moments a.between b.between);
      goes = λ form. record {
        next = asks_named machine asking step has;
        local = a.tells (local_form local peer a.moments (Each-left (AreInForm local peer) a.moments b.moments form.1));
        peer = b.tells (peer_form local peer b.moments (Each-right (AreInForm local peer) a.moments b.moments form.1));
        held = form.0;
        takes = window.takes;
      };
      locals = held_among local a.moments all (λ k m. inr (among_left a.moments b.moments k m));
      peers = held_among peer b.moments all (λ k m. inr (among_right a.moments b.moments k m));
    }
