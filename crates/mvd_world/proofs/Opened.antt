-- How the code tells of an open world.
use Rattle.std.proofs.Common.{◌≡◌, ℕ, ◌+◌, ◌≤◌, zero, suc, true, MatchBool, List, [], ◌∷◌, ◌++◌, length, Option, Some, None, refl, sym, ap, ◌∙◌, subst, arith}
use Rattle.std.specs.Prelude.{IfSome, Ok, Err, Result, slice_set}
use Rattle.std.specs.List.{slice_get}
use Rattle.mvd_peer.specs.PushedStates.{Each}
use Rattle.mvd_peer.specs.Asking.{asked as asked_in}
use Rattle.mvd_peer.specs.declared.window.Told.{Told}
use Rattle.mvd_sync.specs.Machines.{HasNext, Machining, Starts, TakesTold}
use Rattle.mvd_sync.specs.declared.asked.Step.{Step as Asking}
use Rattle.mvd_sync.specs.declared.report.Report.{Report}
use Rattle.mvd_sync.specs.declared.report.SyncFault.{SyncFault}
use Rattle.mvd_sync.proofs.Keys.{Each-weaker}
use Rattle.mvd_world.specs.declared.acts.Act.{Act}
use Rattle.mvd_world.specs.declared.acts.Act.TheVariants.{Take, Begin, Go}
use Rattle.mvd_world.specs.declared.acts.Came.{Came}
use Rattle.mvd_world.specs.declared.acts.Came.TheVariants as coming
use Rattle.mvd_world.specs.declared.open_world.OpenSession.{OpenSession}
use Rattle.mvd_world.specs.declared.open_world.OpenWorld.{OpenWorld}
use Rattle.mvd_world.specs.declared.steps.Step.{Step}
use Rattle.mvd_world.specs.declared.steps.Step.TheVariants.{Session}
use Rattle.mvd_world.specs.declared.steps.Outcome.{Outcome}
use Rattle.mvd_world.specs.declared.worlds.World.{World}
use Rattle.mvd_world.specs.Machine.{Knowledge, SentMessage, Setting, is_numbered, may_be}
use Rattle.mvd_world.specs.Worlds.{IsWorld, Steps}
use Rattle.mvd_world.specs.OpenWorlds.{ActsOpen, AsksOneSite, BeginsOpen, WindowsOn, HasEnded, IsOfSent, IsOpenWorld, LeadsWhere, MayAct, MayBegin, MayStop, OneWindow, RunsActs, Scene, SessionIsOfSent, TellsWork, WasSent, goes_at, had_ended, has_failed, has_gone, has_stopped, is_done, no_scene}
use Rattle.mvd_world.proofs.Cutting.{IsLonger, cut_longer, go_steps, site_steps, step_longer}
use Rattle.mvd_world.proofs.OfSent.{local_sent, peer_sent, stage_more, went_sent, window_sent}
use Rattle.mvd_world.proofs.Taking.{may_be_same}

-- ---- sessions when more was sent

session_more : (messages after : List SentMessage) → IsLonger messages after → (session : OpenSession) → SessionIsOfSent messages session → SessionIsOfSent after session
session_more messages after longer session = elim session.machine as (λ o. IfSome o (λ machine. IsOfSent messages machine.stage) → IfSome o (λ machine. IsOfSent after machine.stage)) [
  | None ↦ λ h. tt
  | Some machine ↦ λ h. stage_more messages after machine.stage longer h
]

pub sessions_more : (messages after : List SentMessage) (sessions : List OpenSession) → IsLonger messages after → Each (SessionIsOfSent messages) sessions → Each (SessionIsOfSent after) sessions
sessions_more messages after sessions longer each = Each-weaker (SessionIsOfSent messages) (SessionIsOfSent after) (session_more messages after longer) sessions each

each_set : {X : Type 0} (P : X → Type 0) (xs : List X) (i : ℕ) (x : X) → Each P xs → P x → Each P (slice_set xs i x)
each_set P [] i x each here = tt
each_set P (y ∷ xs) zero x each here = (here, each.1)
each_set P (y ∷ xs) (suc i) x each here = (each.0, each_set P xs i x each.1 here)

each_get : {X : Type 0} (P : X → Type 0) (xs : List X) (i : ℕ) (x : X) → Each P xs → slice_get xs i ≡ Some x → P x
each_get P [] i x each at = absurd (cc)
each_get P (y ∷ xs) zero x each at = let same : y ≡ x = cc in subst P same each.0
each_get P (y ∷ xs) (suc i) x each at = each_get P xs i x each.1 at

each_push : {X : Type 0} (P : X → Type 0) (xs : List X) (x : X) → Each P xs → P x → Each P (xs ++ x ∷ [])
each_push P [] x each here = (here, tt)
each_push P (y ∷ xs) x each here = (each.0, each_push P xs x each.1 here)

-- ---- a step

pub step_acts : (old new : OpenWorld) (step : Step) (outcome : Outcome) → Steps old.world new.world step outcome → new.sessions.items ≡ old.sessions.items → ActsOpen old new (Take step) (coming.Took outcome)
step_acts old new step outcome steps same setting before is =
    let m = steps setting before.knowledge is.world in
    let after : Scene = record { knowledge = m.0; sessions = before.sessions } in
    let longer = step_longer setting before.knowledge step outcome m.0 m.1.0 in (
      after,
      (
        (m.1.0, refl),
        record { world = m.1.1; sessions = is.sessions ∙ sym same; sent = sessions_more before.knowledge.messages m.0.messages before.sessions longer is.sent },
      ),
    )

-- ---- a session begins

begin_there : (old new : OpenWorld) (local peer : ℕ) (came : Came) (setting : Setting) (before after : Scene) → IsOpenWorld setting old before → may_be (is_numbered (length old.world.sites.items)) (length old.world.messages.items) (Session local peer) ≡ true → MayBegin before local peer came after → MayAct setting before (Begin local peer) came after
begin_there old new local peer came setting before after is may begins =
    subst (λ b. MatchBool b (MayBegin before local peer came after) ((came ≡ coming.NoSuch) × (after ≡ before))) (sym (sym (may_be_same setting old.world before.knowledge (Session local peer) is.world) ∙ may)) begins

pub begin_refused : (old new : OpenWorld) (local peer : ℕ) (fault : SyncFault) → may_be (is_numbered (length old.world.sites.items)) (length old.world.messages.items) (Session local peer) ≡ true → fault ≡ Rattle.mvd_sync.specs.declared.report.SyncFault.TheVariants.Local Rattle.mvd_dots.specs.declared.refusals.Refusal.TheVariants.Memory
    → new.world ≡ old.world → new.sessions.items ≡ old.sessions.items → ActsOpen old new (Begin local peer) (coming.Failed fault)
begin_refused old new local peer fault may memory same_world same setting before is = (
  before,
  (
    begin_there old new local peer (coming.Failed fault) setting before before is may (memory, refl),
    record { world = subst (λ w. IsWorld setting w before.knowledge) (sym same_world) is.world; sessions = is.sessions ∙ sym same; sent = is.sent },
  ),
)

fresh_sent : (messages : List SentMessage) (machine : Machining) (local questions : ℕ) → Starts (Some local) questions machine → IsOfSent messages machine.stage
fresh_sent messages machine local questions starts = subst (IsOfSent messages) (sym starts.stage) tt

pub begin_acts : (old new : OpenWorld) (local peer number : ℕ) (machine : Machining) → may_be (is_numbered (length old.world.sites.items)) (length old.world.messages.items) (Session local peer) ≡ true → Starts (Some local) 10000000 machine
    → new.world ≡ old.world → new.sessions.items ≡ old.sessions.items ++ record { local = local; peer = peer; machine = Some machine } ∷ [] → number ≡ length new.sessions.items → ActsOpen old new (Begin local peer) (coming.Began number)
begin_acts old new local peer number machine may starts same_world grown counted setting before is =
    let session : OpenSession = record { local = local; peer = peer; machine = Some machine } in
    let after : Scene = record { knowledge = before.knowledge; sessions = before.sessions ++ session ∷ [] } in
    let kept : after.sessions ≡ new.sessions.items = ap (λ l. l ++ session ∷ []) is.sessions ∙ sym grown in
    let begins : BeginsOpen before local peer number after = record { machine = machine; starts = starts; numbered = counted ∙ ap length (sym kept); sessions = refl; knowledge = refl } in (
      after,
      (
        begin_there old new local peer (coming.Began number) setting before after is may begins,
        record {
          world = subst (λ w. IsWorld setting w before.knowledge) (sym same_world) is.world;
          sessions = kept;
          sent = each_push (SessionIsOfSent before.knowledge.messages) before.sessions session is.sent (fresh_sent before.knowledge.messages machine local 10000000 starts);
        },
      ),
    )

-- ---- a session goes on

-- what it is to push after it was sent
go_sent : (setting : Setting) (local peer : ℕ) (machine : Machining) (before : Knowledge) (came : Came) (left : Option Machining) (after : Knowledge) → WindowsOn setting local peer machine before came left after → IsOfSent before.messages machine.stage → IfSome left (λ m. IsOfSent after.messages m.stage)
go_sent setting local peer machine before came left after (has_gone asking next step has window is stays) given =
    subst (λ o. IfSome o (λ (m : Machining). IsOfSent after.messages m.stage)) (sym stays)
    (window_sent setting local peer before asking step next after window has.asks.0 (went_sent before.messages machine.work machine.stage asking.work asking.stage has.went given))
go_sent setting local peer machine before came left after (has_failed asking next step fault has window is stays) given = subst (λ o. IfSome o (λ (m : Machining). IsOfSent after.messages m.stage)) (sym stays) tt
go_sent setting local peer machine before came left after (is_done asking report has tells same stays is) given = subst (λ o. IfSome o (λ (m : Machining). IsOfSent after.messages m.stage)) (sym is) tt
go_sent setting local peer machine before came left after (has_stopped fault why same is stays) given = subst (λ o. IfSome o (λ (m : Machining). IsOfSent after.messages m.stage)) (sym stays) tt

if_machine : (messages : List SentMessage) (o : Option Machining) (machine : Machining) → o ≡ Some machine → IfSome o (λ (m : Machining). IsOfSent messages m.stage) → IsOfSent messages machine.stage
if_machine messages o machine is h = subst (λ o. IfSome o (λ (m : Machining). IsOfSent messages m.stage)) is h

pub go_acts : (old new : OpenWorld) (number index : ℕ) (session : OpenSession) (machine : Machining) (came : Came) (left : Option Machining) → number ≡ index + 1 → slice_get old.sessions.items index ≡ Some session → session.machine ≡ Some machine
    → LeadsWhere old.world new.world (λ before. IsOfSent before.messages machine.stage) (λ setting before after. WindowsOn setting session.local session.peer machine before came left after)
    → new.sessions.items ≡ slice_set old.sessions.items index (record { local = session.local; peer = session.peer; machine = left }) → ActsOpen old new (Go number) came
go_acts old new number index session machine came left at here is_open leads changed setting before is =
    let there : slice_get before.sessions index ≡ Some session = ap (λ l. slice_get l index) is.sessions ∙ here in
    let given : IsOfSent before.knowledge.messages machine.stage = if_machine before.knowledge.messages session.machine machine is_open (each_get (SessionIsOfSent before.knowledge.messages) before.sessions index session is.sent there) in
    let m = leads setting before.knowledge is.world given in
    let session' : OpenSession = record { local = session.local; peer = session.peer; machine = left } in
    let after : Scene = record { knowledge = m.0; sessions = slice_set before.sessions index session' } in
    let longer = cut_longer setting before.knowledge m.0 (go_steps setting session.local session.peer machine before.knowledge came left m.0 m.1.0) in (
      after,
      (
        goes_at index session machine left at there is_open m.1.0 refl,
        record {
          world = m.1.1;
          sessions = ap (λ l. slice_set l index session') is.sessions ∙ sym changed;
          sent = each_set (SessionIsOfSent m.0.messages) before.sessions index session' (sessions_more before.knowledge.messages m.0.messages before.sessions longer is.sent)
              (go_sent setting session.local session.peer machine before.knowledge came left m.0 m.1.0 given);
        },
      ),
    )

pub go_none : (old new : OpenWorld) (number : ℕ) → new.world ≡ old.world → new.sessions.items ≡ old.sessions.items → HasEnded old.sessions.items number → ActsOpen old new (Go number) coming.NoSuch
go_none old new number same_world same has setting before is = (
  before,
  (
    had_ended (subst (λ l. HasEnded l number) (sym is.sessions) has) refl refl,
    record { world = subst (λ w. IsWorld setting w before.knowledge) (sym same_world) is.world; sessions = is.sessions ∙ sym same; sent = is.sent },
  ),
)

within : {X : Type 0} (xs : List X) (i : ℕ) (x : X) → slice_get xs i ≡ Some x → i + 1 ≤ length xs
within [] i x h = cc
within (y ∷ xs) zero x h = omega arith
within (y ∷ xs) (suc i) x h = let rest = within xs i x h in omega (arith, rest)

-- a session whose machine was taken out has ended
pub one_ended : (sessions : List OpenSession) (number index : ℕ) (session : OpenSession) → number ≡ index + 1 → slice_get sessions index ≡ Some session → session.machine ≡ None → HasEnded sessions number
one_ended sessions number index session at here none i other at' there =
    let same_index : i ≡ index = omega (arith, at, at') in
    let same : ◌≡◌ {A = Option OpenSession} (Some other) (Some session) = sym there ∙ ap (slice_get sessions) same_index ∙ here in
    let is : other ≡ session = cc in
    ap (λ (s : OpenSession). s.machine) is ∙ none

pub none_of : (left : Option Machining) → ((machine : Machining) → left ≡ Some machine → ⊥) → left ≡ None
none_of None other = refl
none_of (Some machine) other = absurd (other machine refl)

set_same : {X : Type 0} (xs : List X) (i : ℕ) (x : X) → slice_get xs i ≡ Some x → slice_set xs i x ≡ xs
set_same [] i x h = refl
set_same (y ∷ xs) zero x h = let same : y ≡ x = cc in ap (λ z. z ∷ xs) (sym same)
set_same (y ∷ xs) (suc i) x h = ap (λ zs. y ∷ zs) (set_same xs i x h)

-- a session that has ended is put back as it was
pub go_ended : (old new : OpenWorld) (number index : ℕ) (session : OpenSession) → number ≡ index + 1 → slice_get old.sessions.items index ≡ Some session → session.machine ≡ None → new.world ≡ old.world
    → new.sessions.items ≡ slice_set old.sessions.items index (record { local = session.local; peer = session.peer; machine = None }) → ActsOpen old new (Go number) coming.NoSuch
go_ended old new number index session at here none same_world changed =
    let back : session ≡ record { local = session.local; peer = session.peer; machine = None } = λ i. record { local = session.local; peer = session.peer; machine = none i } in
    let same : new.sessions.items ≡ old.sessions.items = changed ∙ ap (slice_set old.sessions.items index) (sym back) ∙ set_same old.sessions.items index session here in
    go_none old new number same_world same (one_ended old.sessions.items number index session at here none)

-- ---- what a go comes to

-- both sites were asked
pub went_on : (old mid new : World) (local peer : ℕ) (machine asking next : Machining) (step : Asking) (mine theirs : Option Told) (result : Result (Unit {0}) SyncFault) → HasNext machine asking (Some step)
    → LeadsWhere old mid (λ before. Each (WasSent before.messages) (asked_in step.local).pushes) (λ setting before after. AsksOneSite setting local before step.local mine after)
    → LeadsWhere mid new (λ before. Each (WasSent before.messages) (asked_in step.peer).pushes) (λ setting before after. AsksOneSite setting peer before step.peer theirs after)
    → TakesTold asking mine theirs next result
    → LeadsWhere old new (λ before. IsOfSent before.messages machine.stage) (λ setting before after. OneWindow setting local peer before asking step next result after)
went_on old mid new local peer machine asking next step mine theirs result has first second takes setting before stands given =
    let now : IsOfSent before.messages asking.stage = went_sent before.messages machine.work machine.stage asking.work asking.stage has.went given in
    let m = first setting before stands (local_sent before.messages asking step has.asks.0 now) in
    let longer : IsLonger before.messages m.0.messages = cut_longer setting before m.0 (site_steps setting local before step.local mine m.0 m.1.0) in
    let n = second setting m.0 m.1.1 (peer_sent m.0.messages asking step has.asks.0 (stage_more before.messages m.0.messages asking.stage longer now)) in
    (n.0, (record { between = m.0; mine = mine; theirs = theirs; local_side = m.1.0; peer_side = n.1.0; takes = takes }, n.1.1))

pub goes_went : (old new : World) (local peer : ℕ) (machine asking next : Machining) (step : Asking) → HasNext machine asking (Some step)
    → LeadsWhere old new (λ before. IsOfSent before.messages machine.stage) (λ setting before after. OneWindow setting local peer before asking step next (Ok tt) after)
    → LeadsWhere old new (λ before. IsOfSent before.messages machine.stage) (λ setting before after. WindowsOn setting local peer machine before coming.Went (Some next) after)
goes_went old new local peer machine asking next step has window setting before stands given =
    let w = window setting before stands given in
    (w.0, (has_gone asking next step has w.1.0 refl refl, w.1.1))

pub goes_failed : (old new : World) (local peer : ℕ) (machine asking next : Machining) (step : Asking) (fault : SyncFault) → HasNext machine asking (Some step)
    → LeadsWhere old new (λ before. IsOfSent before.messages machine.stage) (λ setting before after. OneWindow setting local peer before asking step next (Err fault) after)
    → LeadsWhere old new (λ before. IsOfSent before.messages machine.stage) (λ setting before after. WindowsOn setting local peer machine before (coming.Failed fault) None after)
goes_failed old new local peer machine asking next step fault has window setting before stands given =
    let w = window setting before stands given in
    (w.0, (has_failed asking next step fault has w.1.0 refl refl, w.1.1))

pub goes_done : (world : World) (local peer : ℕ) (machine asking : Machining) (report : Report) → HasNext machine asking None → TellsWork asking.work report
    → LeadsWhere world world (λ before. IsOfSent before.messages machine.stage) (λ setting before after. WindowsOn setting local peer machine before (coming.Met report) None after)
goes_done world local peer machine asking report has tells setting before stands given = (before, (is_done asking report has tells refl refl refl, stands))

pub goes_stops : (world : World) (local peer : ℕ) (machine : Machining) (fault : SyncFault) → MayStop machine fault
    → LeadsWhere world world (λ before. IsOfSent before.messages machine.stage) (λ setting before after. WindowsOn setting local peer machine before (coming.Failed fault) None after)
goes_stops world local peer machine fault why setting before stands given = (before, (has_stopped fault why refl refl refl, stands))

-- ---- a run

runs_push : (setting : Setting) (before middle after : Scene) (acts : List Act) (act : Act) (cames : List Came) (came : Came) → RunsActs setting before acts cames middle → MayAct setting middle act came after → RunsActs setting before (acts ++ act ∷ []) (cames ++ came ∷ []) after
runs_push setting before middle after [] act [] came runs may = (after, subst (λ w. MayAct setting w act came after) runs may, refl)
runs_push setting before middle after (s ∷ acts) act (o ∷ cames) came runs may = (runs.0, runs.1, runs_push setting runs.0 middle after acts act cames came runs.2 may)
runs_push setting before middle after [] act (o ∷ cames) came runs may = absurd runs
runs_push setting before middle after (s ∷ acts) act [] came runs may = absurd runs

-- what is known of a world after some acts
pub record ActedSoFar (setting : Setting) (acts : List Act) (cames : List Came) (open_world : OpenWorld) : Type 0 where
  pub end : Scene
  pub runs : RunsActs setting no_scene acts cames end
  pub stands : IsOpenWorld setting open_world end

pub acted_at_first : (setting : Setting) (open_world : OpenWorld) → IsOpenWorld setting open_world no_scene → ActedSoFar setting [] [] open_world
acted_at_first setting open_world is = record { end = no_scene; runs = refl; stands = is }

pub one_more_act : (setting : Setting) (acts : List Act) (act : Act) (cames : List Came) (came : Came) (old new : OpenWorld) → ActedSoFar setting acts cames old → ActsOpen old new act came → ActedSoFar setting (acts ++ act ∷ []) (cames ++ came ∷ []) new
one_more_act setting acts act cames came old new so_far may =
    let more = may setting so_far.end so_far.stands in
    record { end = more.0; runs = runs_push setting no_scene so_far.end more.0 acts act cames came so_far.runs more.1.0; stands = more.1.1 }
