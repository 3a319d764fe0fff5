-- A window is a list of steps, and what was sent stays sent.
use Rattle.std.proofs.Common.{◌≡◌, ℕ, ◌+◌, zero, suc, true, false, MatchBool, List, [], ◌∷◌, ◌++◌, length, Option, Some, None, refl, sym, ap, ◌∙◌, subst}
use Rattle.std.specs.Prelude.{Result, Vec}
use Rattle.std.specs.declared.alloc.Global.{Global}
use Rattle.std.specs.List.{slice_get}
use Rattle.std.proofs.lemmas.List.{append-nil, append_assoc}
use Rattle.mvd_dots.specs.declared.refusals.Refusal.{Refusal}
use Rattle.mvd_keys.specs.State.{State}
use Rattle.mvd_keys.specs.Writes.{Key, writes_of}
use Rattle.mvd_peer.specs.PushedStates.{Each}
use Rattle.mvd_peer.specs.declared.window.Window.{Window}
use Rattle.mvd_peer.specs.declared.window.Window.TheVariants as wanted
use Rattle.mvd_peer.specs.declared.window.Told.{Told}
use Rattle.mvd_peer.specs.declared.window.Told.TheVariants as telling
use Rattle.mvd_wire.specs.declared.request.Request.TheVariants.{Bucket, Node}
use Rattle.mvd_sync.specs.Machines.{Machining}
use Rattle.mvd_sync.proofs.Keys.{Each-weaker}
use Rattle.mvd_world.specs.declared.acts.Act.{Act}
use Rattle.mvd_world.specs.declared.acts.Act.TheVariants.{Take, Begin, Go}
use Rattle.mvd_world.specs.declared.acts.Came.{Came}
use Rattle.mvd_world.specs.declared.acts.Came.TheVariants as coming
use Rattle.mvd_world.specs.declared.steps.Step.{Step}
use Rattle.mvd_world.specs.declared.steps.Step.TheVariants.{Write as Write_at, Ask, Send, Receive, Session}
use Rattle.mvd_world.specs.declared.steps.Outcome.{Outcome}
use Rattle.mvd_world.specs.declared.steps.Outcome.TheVariants.{Replied, Sent as Sent_as, Met, Failed, NoSuch}
use Rattle.mvd_world.specs.Agreeing.{IsNoWrite, WithoutWrites}
use Rattle.mvd_world.specs.Machine.{Knowledge, MayStep, RunsSteps, SentMessage, Setting, Takes, is_site, may_be}
use Rattle.mvd_world.specs.OpenWorlds.{AllAreTold, AreCutInto, AsksForNode, AsksForPage, AsksForState, AsksOneSite, AsksToTake, AsksWindow, WindowsOn, IsCutInto, IsNoWriting, IsOfWindow, IsOneStep, MayAct, MayBegin, MayGo, OneByOne, RunsActs, Scene, WasSent, all_asked_of, goes_at, had_ended, has_failed, has_gone, has_stopped, is_done, no_room}

-- ---- messages are only added

abbrev pub IsLonger : List SentMessage → List SentMessage → Type 0
IsLonger messages after = (more : List SentMessage) × (after ≡ messages ++ more)

same_length : (messages after : List SentMessage) → after ≡ messages → IsLonger messages after
same_length messages after same = ([], same ∙ sym (append-nil messages))

longer_on : (a b c : List SentMessage) → IsLonger a b → IsLonger b c → IsLonger a c
longer_on a b c p q = (p.0 ++ q.0, q.1 ∙ ap (λ ms. ms ++ q.0) p.1 ∙ append_assoc a p.0 q.0)

takes_longer : (setting : Setting) (before : Knowledge) (step : Step) (outcome : Outcome) (after : Knowledge) → Takes setting before step outcome after → IsLonger before.messages after.messages
takes_longer setting before (Write_at site request) (Replied reply) after told = same_length before.messages after.messages (ap (λ (w : Knowledge). w.messages) told.is)
takes_longer setting before (Ask site request) (Replied reply) after told = same_length before.messages after.messages (ap (λ (w : Knowledge). w.messages) told.is)
takes_longer setting before (Send site key) (Sent_as number) after told =
    let sending : SentMessage = record { key = key; writes = writes_of key (before.known site) } in
    (sending ∷ [], ap (λ (w : Knowledge). w.messages) told.is)
takes_longer setting before (Send site key) (Replied reply) after told = same_length before.messages after.messages (ap (λ (w : Knowledge). w.messages) told.is)
takes_longer setting before (Receive site message) (Replied reply) after told = same_length before.messages after.messages (ap (λ (w : Knowledge). w.messages) told.is)
takes_longer setting before (Session local peer) (Met report) after told = same_length before.messages after.messages (ap (λ (w : Knowledge). w.messages) told.is)
takes_longer setting before (Session local peer) (Failed fault) after told = same_length before.messages after.messages (ap (λ (w : Knowledge). w.messages) told.is)
takes_longer setting before step outcome after told = absurd told

pub step_longer : (setting : Setting) (before : Knowledge) (step : Step) (outcome : Outcome) (after : Knowledge) → MayStep setting before step outcome after → IsLonger before.messages after.messages
step_longer setting before step outcome after =
    elim (may_be (is_site setting) (length before.messages) step) as (λ b. MatchBool b (Takes setting before step outcome after) ((outcome ≡ NoSuch) × (after ≡ before)) → IsLonger before.messages after.messages) [
      | true ↦ λ told. takes_longer setting before step outcome after told
      | false ↦ λ same. same_length before.messages after.messages (ap (λ (w : Knowledge). w.messages) same.1)
    ]

pub get_more : {X : Type 0} (xs ys : List X) (i : ℕ) (x : X) → slice_get xs i ≡ Some x → slice_get (xs ++ ys) i ≡ Some x
get_more [] ys i x h = cc
get_more (y ∷ xs) ys zero x h = h
get_more (y ∷ xs) ys (suc i) x h = get_more xs ys i x h

pub sent_still : (messages after : List SentMessage) (pair : Key × State) → IsLonger messages after → WasSent messages pair → WasSent after pair
sent_still messages after pair longer was =
    let m = was.1 in (
      was.0,
      record {
        sending = m.sending;
        at = subst (λ ms. slice_get ms was.0 ≡ Some m.sending) (sym longer.1) (get_more messages longer.0 was.0 m.sending m.at);
        of_key = m.of_key;
        of_state = m.of_state;
      },
    )

-- ---- one question after the other

pub one_more_asked : {Q A : Type 0} (Asks : Knowledge → Q → A → Knowledge → Type 0) (qs : List Q) (answers : List A) (q : Q) (a : A) (before mid after : Knowledge) → OneByOne Asks before qs answers mid → Asks mid q a after → OneByOne Asks before (qs ++ q ∷ []) (answers ++ a ∷ []) after
one_more_asked Asks [] [] q a before mid after so_far now = (after, subst (λ k. Asks k q a after) so_far now, refl)
one_more_asked Asks (p ∷ qs) (t ∷ answers) q a before mid after so_far now = (so_far.0, so_far.1, one_more_asked Asks qs answers q a so_far.0 mid after so_far.2 now)
one_more_asked Asks [] (t ∷ answers) q a before mid after so_far now = absurd so_far
one_more_asked Asks (p ∷ qs) [] q a before mid after so_far now = absurd so_far

pub one_by_one_longer : {Q A : Type 0} (setting : Setting) (Asks : Knowledge → Q → A → Knowledge → Type 0) → IsOneStep setting Asks → (before : Knowledge) (qs : List Q) (answers : List A) (after : Knowledge) → OneByOne Asks before qs answers after → IsLonger before.messages after.messages
one_by_one_longer setting Asks is before [] [] after h = same_length before.messages after.messages (ap (λ (w : Knowledge). w.messages) h)
one_by_one_longer setting Asks is before (q ∷ qs) (a ∷ answers) after h =
    let one = is before q a h.0 h.1 in
    longer_on before.messages h.0.messages after.messages (step_longer setting before one.0 one.1 h.0 one.2) (one_by_one_longer setting Asks is h.0 qs answers after h.2)
one_by_one_longer setting Asks is before [] (a ∷ answers) after h = absurd h
one_by_one_longer setting Asks is before (q ∷ qs) [] after h = absurd h

-- ---- as steps

-- steps of a window
pub record CutSteps (setting : Setting) (before after : Knowledge) : Type 0 where
  pub steps : List Step
  pub outcomes : List Outcome
  pub runs : RunsSteps setting before steps outcomes after
  pub quiet : Each IsOfWindow steps

no_steps : (setting : Setting) (before after : Knowledge) → after ≡ before → CutSteps setting before after
no_steps setting before after same = record { steps = []; outcomes = []; runs = same; quiet = tt }

pub runs_on : (setting : Setting) (before mid after : Knowledge) (steps later : List Step) (outcomes more : List Outcome) → RunsSteps setting before steps outcomes mid → RunsSteps setting mid later more after → RunsSteps setting before (steps ++ later) (outcomes ++ more) after
runs_on setting before mid after [] later [] more first second = subst (λ k. RunsSteps setting k later more after) first second
runs_on setting before mid after (s ∷ steps) later (o ∷ outcomes) more first second = (first.0, first.1, runs_on setting first.0 mid after steps later outcomes more first.2 second)
runs_on setting before mid after [] later (o ∷ outcomes) more first second = absurd first
runs_on setting before mid after (s ∷ steps) later [] more first second = absurd first

each_on : {X : Type 0} (P : X → Type 0) (xs ys : List X) → Each P xs → Each P ys → Each P (xs ++ ys)
each_on P [] ys p q = q
each_on P (x ∷ xs) ys p q = (p.0, each_on P xs ys p.1 q)

steps_on : (setting : Setting) (before mid after : Knowledge) → CutSteps setting before mid → CutSteps setting mid after → CutSteps setting before after
steps_on setting before mid after a b = record {
  steps = a.steps ++ b.steps;
  outcomes = a.outcomes ++ b.outcomes;
  runs = runs_on setting before mid after a.steps b.steps a.outcomes b.outcomes a.runs b.runs;
  quiet = each_on IsOfWindow a.steps b.steps a.quiet b.quiet;
}

one_step : (setting : Setting) (before after : Knowledge) (step : Step) (outcome : Outcome) → MayStep setting before step outcome after → IsOfWindow step → CutSteps setting before after
one_step setting before after step outcome may quiet = record { steps = step ∷ []; outcomes = outcome ∷ []; runs = (after, may, refl); quiet = (quiet, tt) }

one_by_one_steps : {Q A : Type 0} (setting : Setting) (Asks : Knowledge → Q → A → Knowledge → Type 0) → IsOneStep setting Asks → (before : Knowledge) (qs : List Q) (answers : List A) (after : Knowledge) → OneByOne Asks before qs answers after → CutSteps setting before after
one_by_one_steps setting Asks is before [] [] after h = no_steps setting before after h
one_by_one_steps setting Asks is before (q ∷ qs) (a ∷ answers) after h =
    let one = is before q a h.0 h.1 in
    steps_on setting before h.0 after (one_step setting before h.0 one.0 one.1 one.2 one.3) (one_by_one_steps setting Asks is h.0 qs answers after h.2)
one_by_one_steps setting Asks is before [] (a ∷ answers) after h = absurd h
one_by_one_steps setting Asks is before (q ∷ qs) [] after h = absurd h

module _ (setting : Setting) (site : ℕ) where
  pub node_step : IsOneStep setting (AsksForNode setting site)
  node_step before q a after h = (Ask site (Node q), h.0, h.1, tt)

  pub page_step : IsOneStep setting (AsksForPage setting site)
  page_step before q a after h = (Ask site (Bucket q.0 q.1), h.0, h.1, tt)

  pub state_step : IsOneStep setting (AsksForState setting site)
  state_step before q a after h = (Send site q, h.0, h.1, tt)

  pub take_step : IsOneStep setting (AsksToTake setting site)
  take_step before q a after h = (Receive site (h.0 + 1), h.1, h.3, tt)

all_steps : {Q A : Type 0} (setting : Setting) (as_told : Vec (Result A Refusal) Global → Told) (Asks : Knowledge → Q → Result A Refusal → Knowledge → Type 0) → IsOneStep setting Asks → (before : Knowledge) (qs : List Q) (t : Told) (after : Knowledge) → AllAreTold as_told Asks before qs t after → CutSteps setting before after
all_steps setting as_told Asks is before qs t after (all_asked_of answers e one) = one_by_one_steps setting Asks is before qs answers.items after one
all_steps setting as_told Asks is before qs t after (no_room e same) = no_steps setting before after same

window_steps : (setting : Setting) (site : ℕ) (before : Knowledge) (window : Window) (t : Told) (after : Knowledge) → AsksWindow setting site before window t after → CutSteps setting before after
window_steps setting site before (wanted.Nodes paths) t after h = all_steps setting (λ answers. telling.Nodes answers) (AsksForNode setting site) (node_step setting site) before paths.items t after h
window_steps setting site before (wanted.Pages pages) t after h = all_steps setting (λ answers. telling.Pages answers) (AsksForPage setting site) (page_step setting site) before pages.items t after h
window_steps setting site before (wanted.Gets keys) t after h = all_steps setting (λ answers. telling.States answers) (AsksForState setting site) (state_step setting site) before keys.items t after h
window_steps setting site before (wanted.Pushes pairs) t after h = all_steps setting (λ answers. telling.Pushes answers) (AsksToTake setting site) (take_step setting site) before pairs.items t after h

pub site_steps : (setting : Setting) (site : ℕ) (before : Knowledge) (window : Option Window) (t : Option Told) (after : Knowledge) → AsksOneSite setting site before window t after → CutSteps setting before after
site_steps setting site before None t after h = no_steps setting before after h.1
site_steps setting site before (Some window) (Some t) after h = window_steps setting site before window t after h
site_steps setting site before (Some window) None after h = absurd h

steps_longer : (setting : Setting) (before : Knowledge) (steps : List Step) (outcomes : List Outcome) (after : Knowledge) → RunsSteps setting before steps outcomes after → IsLonger before.messages after.messages
steps_longer setting before [] [] after h = same_length before.messages after.messages (ap (λ (w : Knowledge). w.messages) h)
steps_longer setting before (s ∷ steps) (o ∷ outcomes) after h = longer_on before.messages h.0.messages after.messages (step_longer setting before s o h.0 h.1) (steps_longer setting h.0 steps outcomes after h.2)
steps_longer setting before [] (o ∷ outcomes) after h = absurd h
steps_longer setting before (s ∷ steps) [] after h = absurd h

pub cut_longer : (setting : Setting) (before after : Knowledge) → CutSteps setting before after → IsLonger before.messages after.messages
cut_longer setting before after c = steps_longer setting before c.steps c.outcomes after c.runs

pub go_steps : (setting : Setting) (local peer : ℕ) (machine : Machining) (before : Knowledge) (came : Came) (left : Option Machining) (after : Knowledge) → WindowsOn setting local peer machine before came left after → CutSteps setting before after
go_steps setting local peer machine before came left after (has_gone asking next step has window is stays) =
    steps_on setting before window.between after (site_steps setting local before step.local window.mine window.between window.local_side) (site_steps setting peer window.between step.peer window.theirs after window.peer_side)
go_steps setting local peer machine before came left after (has_failed asking next step fault has window is stays) =
    steps_on setting before window.between after (site_steps setting local before step.local window.mine window.between window.local_side) (site_steps setting peer window.between step.peer window.theirs after window.peer_side)
go_steps setting local peer machine before came left after (is_done asking report has tells same is stays) = no_steps setting before after same
go_steps setting local peer machine before came left after (has_stopped fault why same is stays) = no_steps setting before after same

-- ---- an act is steps

pub record CutAct (setting : Setting) (before : Scene) (act : Act) (came : Came) (after : Scene) : Type 0 where
  pub steps : List Step
  pub outcomes : List Outcome
  pub runs : RunsSteps setting before.knowledge steps outcomes after.knowledge
  pub cut : IsCutInto act came steps outcomes

same_scene : (before after : Scene) → after ≡ before → after.knowledge ≡ before.knowledge
same_scene before after same = ap (λ (s : Scene). s.knowledge) same

begin_same : (before : Scene) (local peer : ℕ) (came : Came) (after : Scene) → MayBegin before local peer came after → after.knowledge ≡ before.knowledge
begin_same before local peer (coming.Began number) after h = h.knowledge
begin_same before local peer (coming.Failed fault) after h = same_scene before after h.1
begin_same before local peer (coming.Took outcome) after h = absurd h
begin_same before local peer coming.Went after h = absurd h
begin_same before local peer (coming.Met report) after h = absurd h
begin_same before local peer coming.NoSuch after h = absurd h

pub begun_same : (setting : Setting) (before : Scene) (local peer : ℕ) (came : Came) (after : Scene) → MayAct setting before (Begin local peer) came after → after.knowledge ≡ before.knowledge
begun_same setting before local peer came after =
    elim (may_be (is_site setting) (length before.knowledge.messages) (Session local peer)) as (λ b. MatchBool b (MayBegin before local peer came after) ((came ≡ coming.NoSuch) × (after ≡ before)) → after.knowledge ≡ before.knowledge) [
      | true ↦ λ h. begin_same before local peer came after h
      | false ↦ λ h. same_scene before after h.1
    ]

go_cut : (setting : Setting) (before : Scene) (number : ℕ) (came : Came) (after : Scene) → MayGo setting before number came after → CutSteps setting before.knowledge after.knowledge
go_cut setting before number came after (had_ended has is same) = no_steps setting before.knowledge after.knowledge (same_scene before after same)
go_cut setting before number came after (goes_at index session machine left at here going on others) = go_steps setting session.local session.peer machine before.knowledge came left after.knowledge on

pub act_cut : (setting : Setting) (before : Scene) (act : Act) (came : Came) (after : Scene) → MayAct setting before act came after → CutAct setting before act came after
act_cut setting before (Take step) (coming.Took outcome) after h = record { steps = step ∷ []; outcomes = outcome ∷ []; runs = (after.knowledge, h.0, refl); cut = (refl, refl) }
act_cut setting before (Take step) (coming.Began number) after h = absurd h
act_cut setting before (Take step) coming.Went after h = absurd h
act_cut setting before (Take step) (coming.Met report) after h = absurd h
act_cut setting before (Take step) (coming.Failed fault) after h = absurd h
act_cut setting before (Take step) coming.NoSuch after h = absurd h
act_cut setting before (Begin local peer) came after h = record { steps = []; outcomes = []; runs = begun_same setting before local peer came after h; cut = (refl, refl) }
act_cut setting before (Go number) came after h = let c = go_cut setting before number came after h in record { steps = c.steps; outcomes = c.outcomes; runs = c.runs; cut = c.quiet }

pub record CutActs (setting : Setting) (before : Scene) (acts : List Act) (cames : List Came) (after : Scene) : Type 0 where
  pub steps : List Step
  pub outcomes : List Outcome
  pub runs : RunsSteps setting before.knowledge steps outcomes after.knowledge
  pub cut : AreCutInto acts cames steps outcomes

pub acts_cut : (setting : Setting) (before : Scene) (acts : List Act) (cames : List Came) (after : Scene) → RunsActs setting before acts cames after → CutActs setting before acts cames after
acts_cut setting before [] [] after h = record { steps = []; outcomes = []; runs = same_scene before after h; cut = (refl, refl) }
acts_cut setting before (act ∷ acts) (came ∷ cames) after h =
    let one = act_cut setting before act came h.0 h.1 in
    let rest = acts_cut setting h.0 acts cames after h.2 in
    record {
      steps = one.steps ++ rest.steps;
      outcomes = one.outcomes ++ rest.outcomes;
      runs = runs_on setting before.knowledge h.0.knowledge after.knowledge one.steps rest.steps one.outcomes rest.outcomes one.runs rest.runs;
      cut = (one.steps, rest.steps, one.outcomes, rest.outcomes, refl, refl, one.cut, rest.cut);
    }
acts_cut setting before [] (came ∷ cames) after h = absurd h
acts_cut setting before (act ∷ acts) [] after h = absurd h

-- ---- acts none of which writes

no_write : (step : Step) → IsOfWindow step → IsNoWrite step
no_write (Write_at site request) is = absurd is
no_write (Ask site request) is = tt
no_write (Send site key) is = tt
no_write (Receive site message) is = tt
no_write (Session local peer) is = tt

cut_quiet : (act : Act) (came : Came) (steps : List Step) (outcomes : List Outcome) → IsNoWriting act → IsCutInto act came steps outcomes → Each IsNoWrite steps
cut_quiet (Take step) (coming.Took outcome) steps outcomes quiet cut = subst (Each IsNoWrite) (sym cut.0) (quiet, tt)
cut_quiet (Take step) (coming.Began number) steps outcomes quiet cut = absurd cut
cut_quiet (Take step) coming.Went steps outcomes quiet cut = absurd cut
cut_quiet (Take step) (coming.Met report) steps outcomes quiet cut = absurd cut
cut_quiet (Take step) (coming.Failed fault) steps outcomes quiet cut = absurd cut
cut_quiet (Take step) coming.NoSuch steps outcomes quiet cut = absurd cut
cut_quiet (Begin local peer) came steps outcomes quiet cut = subst (Each IsNoWrite) (sym cut.0) tt
cut_quiet (Go number) came steps outcomes quiet cut = Each-weaker IsOfWindow IsNoWrite no_write steps cut

cuts_quiet : (acts : List Act) (cames : List Came) (steps : List Step) (outcomes : List Outcome) → Each IsNoWriting acts → AreCutInto acts cames steps outcomes → Each IsNoWrite steps
cuts_quiet [] [] steps outcomes quiet cut = subst (Each IsNoWrite) (sym cut.0) tt
cuts_quiet (act ∷ acts) (came ∷ cames) steps outcomes quiet (first, later, told, more, is, of, one, rest) =
    subst (Each IsNoWrite) (sym is) (each_on IsNoWrite first later (cut_quiet act came first told quiet.0 one) (cuts_quiet acts cames later more quiet.1 rest))
cuts_quiet [] (came ∷ cames) steps outcomes quiet cut = absurd cut
cuts_quiet (act ∷ acts) [] steps outcomes quiet cut = absurd cut

pub acts_quiet : (setting : Setting) (before : Scene) (acts : List Act) (cames : List Came) (after : Scene) → RunsActs setting before acts cames after → Each IsNoWriting acts → WithoutWrites setting before.knowledge after.knowledge
acts_quiet setting before acts cames after runs quiet =
    let x = acts_cut setting before acts cames after runs in
    record { steps = x.steps; outcomes = x.outcomes; runs = x.runs; quiet = cuts_quiet acts cames x.steps x.outcomes quiet x.cut }
