-- What a session is to push was sent: it is what the other site told.
use Rattle.std.proofs.Common.{◌≡◌, ℕ, Bool, true, false, cond, List, [], ◌∷◌, ◌++◌, map, length, take, drop, refl, sym, ap, ◌∙◌, subst, arith, Option, Some, None}
use Rattle.std.specs.Prelude.{IfSome, IfOk, Result, Ok, Err}
use Rattle.std.proofs.lemmas.List.{take_all, take-append-drop}
use Rattle.mvd_dots.specs.declared.refusals.Refusal.{Refusal}
use Rattle.mvd_keys.specs.State.{IsValid, State}
use Rattle.mvd_keys.specs.Writes.{Key}
use Rattle.mvd_peer.specs.PushedStates.{Each}
use Rattle.mvd_peer.specs.Windows.{ForEach}
use Rattle.mvd_peer.specs.Asking.{Wanted, asked as asked_in}
use Rattle.mvd_peer.specs.declared.window.Window.{Window}
use Rattle.mvd_peer.specs.declared.window.Window.TheVariants as wanted
use Rattle.mvd_peer.specs.declared.window.Told.{Told}
use Rattle.mvd_peer.specs.declared.window.Told.TheVariants as telling
use Rattle.mvd_sync.specs.Exchanges.{Exchanging}
use Rattle.mvd_sync.specs.Fronts.{IsWhole, StateAnswer, front_told, share_in, told_first}
use Rattle.mvd_sync.specs.Made.{PassesFault}
use Rattle.mvd_sync.specs.Machines.{CarriedOn, GoesAlone, HasNext, HearsAt, IsStep, Machining, SettlesFound, StageHears, StageWent, TakesShares, TakesTold, TurnBegins, both, counts, cut as cut_at, ends, equal, fills, goes, goes_on, hears, here, is_same, last, met as met_first, no_room as no_place, none_found, of_local, of_other, of_peer, of_side, on, other_of, quiet, share_of, told_by_side, turns, waits, wanted_at, wanted_count, whole as uncut}
use Rattle.mvd_sync.specs.Meetings.{ArePlans, held_keys, noted, taken_from}
use Rattle.mvd_sync.specs.OneTurn.{BeginsTurn, IsSameTurn, untold}
use Rattle.mvd_sync.specs.Questions.{TakesBudget}
use Rattle.mvd_sync.specs.Tellings.{AllRead, IsStateOf, states_told, unasked_told}
use Rattle.mvd_sync.specs.Walking.{Walking}
use Rattle.mvd_sync.specs.declared.asked.Step.{Step as Asking}
use Rattle.mvd_sync.specs.declared.asking.Questions.{Questions}
use Rattle.mvd_sync.specs.declared.cursor.Entry.{Entry}
use Rattle.mvd_sync.specs.declared.meetings.Meeting.{Meeting}
use Rattle.mvd_sync.specs.declared.report.Side.{Side}
use Rattle.mvd_sync.specs.declared.report.Side.TheVariants.{Local as AtLocal, Peer as AtPeer}
use Rattle.mvd_sync.specs.declared.report.SyncFault.{SyncFault}
use Rattle.mvd_sync.specs.declared.stage.Stage.{Stage}
use Rattle.mvd_sync.specs.declared.stage.Stage.TheVariants.{Descends, Walks, Meets, Carries, Done, Failed}
use Rattle.mvd_sync.specs.declared.telling.Share.{Share}
use Rattle.mvd_sync.specs.declared.telling.Shares.{Shares}
use Rattle.mvd_sync.specs.declared.turn.Turn.{Turn}
use Rattle.mvd_sync.proofs.CutWindows.{held_split}
use Rattle.mvd_sync.proofs.Descents.{Each-right, Each-take}
use Rattle.mvd_sync.proofs.Handing.{gives_given, gives_good, pulls_given, pulls_good}
use Rattle.mvd_sync.proofs.Keys.{Each-weaker}
use Rattle.mvd_world.specs.declared.steps.Outcome.{Outcome}
use Rattle.mvd_world.specs.declared.steps.Outcome.TheVariants.{Replied, Sent as Sent_as, Met, Failed as Failed_as, NoSuch}
use Rattle.mvd_world.specs.Machine.{Knowledge, SentMessage, Setting}
use Rattle.mvd_world.specs.OpenWorlds.{AreSentTo, AsksForState, AsksOneSite, IsOfSent, OneByOne, OneWindow, TellsSent, WasSent, all_asked_of, no_room}
use Rattle.mvd_world.proofs.Cutting.{IsLonger, cut_longer, one_by_one_longer, sent_still, site_steps, state_step}

-- ---- what stands of some messages stands of more

if_more : (messages after : List SentMessage) (key : Key) (o : Option State) → IsLonger messages after → IfSome o (λ s. WasSent messages (key, s)) → IfSome o (λ s. WasSent after (key, s))
if_more messages after key None longer h = tt
if_more messages after key (Some s) longer h = sent_still messages after (key, s) longer h

turn_more : (messages after : List SentMessage) (side : Side) (pairs : List (Key × State)) (meetings : List Meeting) → IsLonger messages after → AreSentTo messages side pairs meetings → AreSentTo after side pairs meetings
turn_more messages after AtLocal pairs meetings longer h = (
  Each-weaker (WasSent messages) (WasSent after) (λ p was. sent_still messages after p longer was) pairs h.0,
  Each-weaker (λ (m : Meeting). IfSome m.give (λ s. WasSent messages (m.key, s))) (λ (m : Meeting). IfSome m.give (λ s. WasSent after (m.key, s))) (λ m was. if_more messages after m.key m.give longer was) meetings h.1,
)
turn_more messages after AtPeer pairs meetings longer h = Each-weaker (WasSent messages) (WasSent after) (λ p was. sent_still messages after p longer was) pairs h

pub stage_more : (messages after : List SentMessage) (stage : Stage) → IsLonger messages after → IsOfSent messages stage → IsOfSent after stage
stage_more messages after (Carries walk turn count) longer h = turn_more messages after turn.side turn.pairs.items turn.meetings.items longer h
stage_more messages after (Descends level) longer h = tt
stage_more messages after (Walks walk) longer h = tt
stage_more messages after (Meets walk entries) longer h = tt
stage_more messages after Done longer h = tt
stage_more messages after (Failed fault) longer h = tt

-- ---- without a question

abbrev pub SentAs : List SentMessage → Key → State → Type 0
SentAs messages key state = WasSent messages (key, state)

weaken_some : (G : Key → State → Type 0) (m : Meeting) (o : Option State) → IfSome o (λ s. G m.key s × IsValid s) → IfSome o (λ s. G m.key s)
weaken_some G m None h = tt
weaken_some G m (Some s) h = h.0

module _ (messages : List SentMessage) where
  turn_begins : (side : Side) (walk : Walking) (ms : List Meeting) (stage : Stage) → TurnBegins walk side ms stage → ((turn : Turn) → BeginsTurn side ms turn → AreSentTo messages side turn.pairs.items turn.meetings.items) → IsOfSent messages stage
  turn_begins side walk ms stage b given = subst (IsOfSent messages) (sym b.is) (subst (λ s. AreSentTo messages s b.turn.pairs.items b.turn.meetings.items) (sym b.begun.of_side) (given b.turn b.begun))

  settles : (walk : Walking) (found : Option Entry) (old new : Exchanging) (stage : Stage) → SettlesFound walk found old new stage → IsOfSent messages stage
  settles walk found old new stage (none_found none same is) = subst (IsOfSent messages) (sym is) tt
  settles walk found old new stage (equal e some differs same is) = subst (IsOfSent messages) (sym is) tt
  settles walk found old new stage (waits e some differs same low is) = subst (IsOfSent messages) (sym is) tt
  settles walk found old new stage (fills e entries some differs full list one same is) = subst (IsOfSent messages) (sym is) tt

  noted_gives : (ms : List Meeting) (told : List (Result (Unit {0}) Refusal)) → Each (λ (m : Meeting). IfSome m.give (SentAs messages m.key)) ms → Each (λ (m : Meeting). IfSome m.give (SentAs messages m.key)) (noted AtLocal ms told)
  noted_gives [] told each = tt
  noted_gives (m ∷ ms) told each = (each.0, noted_gives ms (Rattle.mvd_sync.specs.Meetings.rest_if m.asked told) each.1)

  alone : (work : Exchanging) (stage : Stage) (work' : Exchanging) (stage' : Stage) → GoesAlone work stage work' stage' → IsOfSent messages stage → IsOfSent messages stage'
  alone work (Descends level) work' stage' g given = subst (IsOfSent messages) (sym g.1) tt
  alone work (Walks walk) work' stage' (goes_on walk' found g settled) given = settles walk' found work work' stage' settled
  alone work (Walks walk) work' stage' (last entries walked list one same is) given = subst (IsOfSent messages) (sym is) tt
  alone work (Walks walk) work' stage' (ends walked none same is) given = subst (IsOfSent messages) (sym is) tt
  alone work (Carries walk turn count) work' stage' (counts side adds is) given = subst (IsOfSent messages) (sym is) tt
  alone work (Carries walk turn count) work' stage' (turns side same begins) given =
      let now : AreSentTo messages AtLocal turn.pairs.items turn.meetings.items = subst (λ s. AreSentTo messages s turn.pairs.items turn.meetings.items) side given in
      let ms = noted AtLocal turn.meetings.items turn.told.items in
      turn_begins AtPeer walk ms stage' begins (λ next b. subst (Each (WasSent messages)) (sym b.takes) (gives_good (SentAs messages) ms (noted_gives turn.meetings.items turn.told.items now.1)))
  alone work (Meets walk entries) work' stage' never given = absurd never
  alone work Done work' stage' never given = absurd never
  alone work (Failed fault) work' stage' never given = absurd never

  pub went_sent : (work : Exchanging) (stage : Stage) (work' : Exchanging) (stage' : Stage) → StageWent work stage work' stage' → IsOfSent messages stage → IsOfSent messages stage'
  went_sent work stage work' stage' (here w s same is) given = subst (IsOfSent messages) (sym is) given
  went_sent work stage work' stage' (on mid w stage1 s first without next) given = alone mid stage1 work' stage' next (went_sent work stage mid stage1 first given)

  -- ---- it was planned

  taken_gives : (ms : List Meeting) → Each (λ (m : Meeting). IfSome m.give (SentAs messages m.key)) ms → Each (λ (m : Meeting). IfSome m.give (SentAs messages m.key)) (map (taken_from AtLocal) ms)
  taken_gives [] each = tt
  taken_gives (m ∷ ms) each = (each.0, taken_gives ms each.1)

  planned : (number : Option ℕ) (walk : Walking) (entries : List Entry) (mine theirs : List State) (ms : List Meeting) (stage : Stage) → ForEach (SentAs messages) (held_keys AtLocal entries) mine → ForEach (SentAs messages) (held_keys AtPeer entries) theirs
      → ArePlans number entries mine theirs ms → TurnBegins walk AtLocal ms stage → IsOfSent messages stage
  planned number walk entries mine theirs ms stage p q plans begins =
      let G : Key → State → Type 0 = SentAs messages in
      let gives = Each-weaker (λ (m : Meeting). IfSome m.give (λ s. G m.key s × IsValid s)) (λ (m : Meeting). IfSome m.give (G m.key)) (λ m h. weaken_some G m m.give h) ms (gives_given G number entries mine theirs ms p plans) in
      let pulls = Each-weaker (λ (m : Meeting). IfSome m.pull (λ s. G m.key s × IsValid s)) (λ (m : Meeting). IfSome m.pull (G m.key)) (λ m h. weaken_some G m m.pull h) ms (pulls_given G number entries mine theirs ms q plans) in
      turn_begins AtLocal walk ms stage begins (λ turn begun. (
        subst (Each (WasSent messages)) (sym begun.takes) (pulls_good G ms pulls),
        subst (Each (λ (m : Meeting). IfSome m.give (G m.key))) (sym begun.keys) (taken_gives ms gives),
      ))

  -- more of a turn was told
  same_turn : (side : Side) (turn after : Turn) → IsSameTurn turn after → AreSentTo messages side turn.pairs.items turn.meetings.items → AreSentTo messages side after.pairs.items after.meetings.items
  same_turn AtLocal turn after same given = (
    subst (Each (WasSent messages)) (λ i. (sym same.takes i).items) given.0,
    subst (Each (λ (m : Meeting). IfSome m.give (SentAs messages m.key))) (λ i. (sym same.keys i).items) given.1,
  )
  same_turn AtPeer turn after same given = subst (Each (WasSent messages)) (λ i. (sym same.takes i).items) given

  carried : (walk : Walking) (turn : Turn) (share : Share) (t other : Option Told) (stage' : Stage) → AreSentTo messages turn.side turn.pairs.items turn.meetings.items → CarriedOn walk turn share t other (Ok stage') → IsOfSent messages stage'
  carried walk turn share t other stage' given (goes stage none p is) =
      let same : stage' ≡ stage = cc in
      subst (IsOfSent messages) (sym (same ∙ p.goes)) (subst (λ s. AreSentTo messages s p.after.pairs.items p.after.meetings.items) (sym p.same.of_side) (same_turn turn.side turn p.after p.same given))
  carried walk turn share t other stage' given (of_other refusal none is) = absurd (cc)
  carried walk turn share t other stage' given (of_side refusal why is) = absurd (cc)

  -- ---- what is pushed

  each_untold : (turn : Turn) (count : ℕ) → Each (WasSent messages) turn.pairs.items → Each (WasSent messages) (take count (untold turn))
  each_untold turn count each =
      Each-take (WasSent messages) count (untold turn) (Each-right (WasSent messages) (take (length turn.told.items) turn.pairs.items) (untold turn) (subst (Each (WasSent messages)) (sym (take-append-drop (length turn.told.items) turn.pairs.items)) each))

  of_turn : (side : Side) (turn : Turn) → AreSentTo messages side turn.pairs.items turn.meetings.items → Each (WasSent messages) turn.pairs.items
  of_turn AtLocal turn given = given.0
  of_turn AtPeer turn given = given

  cond_sent : (b : Bool) (pairs : List (Key × State)) → Each (WasSent messages) pairs → Each (WasSent messages) (cond b pairs [])
  cond_sent true pairs each = each
  cond_sent false pairs each = tt

  pub wanted_sent : (side : Side) (stage : Stage) → IsOfSent messages stage → Each (WasSent messages) (wanted_at side stage).pushes
  wanted_sent side (Carries walk turn count) given = cond_sent (is_same turn.side side) (take count (untold turn)) (each_untold turn count (of_turn turn.side turn given))
  wanted_sent side (Descends level) given = tt
  wanted_sent side (Walks walk) given = tt
  wanted_sent side (Meets walk entries) given = tt
  wanted_sent side Done given = tt
  wanted_sent side (Failed fault) given = tt

  pub local_sent : (now : Machining) (step : Asking) → IsStep now step → IsOfSent messages now.stage → Each (WasSent messages) (asked_in step.local).pushes
  local_sent now step asks given = subst (Each (WasSent messages)) (λ i. (sym asks.local i).pushes) (Each-take (WasSent messages) now.left.local (wanted_at AtLocal now.stage).pushes (wanted_sent AtLocal now.stage given))

  pub peer_sent : (now : Machining) (step : Asking) → IsStep now step → IsOfSent messages now.stage → Each (WasSent messages) (asked_in step.peer).pushes
  peer_sent now step asks given = subst (Each (WasSent messages)) (λ i. (sym asks.peer i).pushes) (Each-take (WasSent messages) now.left.peer (wanted_at AtPeer now.stage).pushes (wanted_sent AtPeer now.stage given))

-- ---- what was told was sent

told_here : (messages : List SentMessage) (outcome : Outcome) (key : Key) (t : Result State Refusal) → TellsSent messages outcome key t → IfOk t (λ s. WasSent messages (key, s))
told_here messages (Sent_as number) key (Ok s) tells = (tells.0, tells.2)
told_here messages (Sent_as number) key (Err refusal) tells = tt
told_here messages (Replied reply) key t tells = subst (λ t. IfOk t (λ s. WasSent messages (key, s))) (sym tells) tt
told_here messages (Met report) key t tells = subst (λ t. IfOk t (λ s. WasSent messages (key, s))) (sym tells) tt
told_here messages (Failed_as fault) key t tells = subst (λ t. IfOk t (λ s. WasSent messages (key, s))) (sym tells) tt
told_here messages NoSuch key t tells = subst (λ t. IfOk t (λ s. WasSent messages (key, s))) (sym tells) tt

ok_more : (messages after : List SentMessage) (key : Key) (t : Result State Refusal) → IsLonger messages after → IfOk t (λ s. WasSent messages (key, s)) → IfOk t (λ s. WasSent after (key, s))
ok_more messages after key (Ok s) longer h = sent_still messages after (key, s) longer h
ok_more messages after key (Err refusal) longer h = tt

module _ (setting : Setting) (site : ℕ) where
  states_sent : (before : Knowledge) (keys : List Key) (answers : List (Result State Refusal)) (after : Knowledge) → OneByOne (AsksForState setting site) before keys answers after → ForEach (λ key t. IfOk t (λ s. WasSent after.messages (key, s))) keys answers
  states_sent before [] [] after h = tt
  states_sent before (key ∷ keys) (t ∷ answers) after h = (
    ok_more h.0.messages after.messages key t (one_by_one_longer setting (AsksForState setting site) (state_step setting site) h.0 keys answers after h.2) (told_here h.0.messages h.1.0 key t h.1.2),
    states_sent h.0 keys answers after h.2,
  )
  states_sent before [] (t ∷ answers) after h = absurd h
  states_sent before (key ∷ keys) [] after h = absurd h

  no_gets : (window : Wanted) (answers : List (Result State Refusal)) (after : Knowledge) → window.gets ≡ [] → [] ≡ answers → ForEach (λ key t. IfOk t (λ s. WasSent after.messages (key, s))) window.gets answers
  no_gets window answers after none is = subst (λ keys. ForEach (λ key t. IfOk t (λ s. WasSent after.messages (key, s))) keys answers) (sym none) (subst (λ ts. ForEach (λ key t. IfOk t (λ s. WasSent after.messages (key, s))) [] ts) is tt)

  -- the answers that are read as states
  pub site_sent : (before : Knowledge) (window : Option Window) (t : Option Told) (after : Knowledge) → AsksOneSite setting site before window t after → (answers : List (Result State Refusal)) → states_told t ≡ Ok answers → ForEach (λ key r. IfOk r (λ s. WasSent after.messages (key, s))) (asked_in window).gets answers
  site_sent before None t after h answers is = no_gets (asked_in None) answers after refl (let e : states_told None ≡ Ok answers = subst (λ x. states_told x ≡ Ok answers) h.0 is in cc)
  site_sent before (Some window) None after h answers is = absurd h
  site_sent before (Some (wanted.Gets keys)) (Some t) after (all_asked_of given e one) answers is =
      let f : states_told (Some (telling.States given)) ≡ Ok answers = subst (λ x. states_told (Some x) ≡ Ok answers) e is in
      let same : given.items ≡ answers = cc in
      subst (ForEach (λ key r. IfOk r (λ s. WasSent after.messages (key, s))) keys.items) same (states_sent before keys.items given.items after one)
  site_sent before (Some (wanted.Gets keys)) (Some t) after (no_room e same) answers is =
      let f = subst (λ x. states_told (Some x) ≡ Ok answers) e is in absurd (cc)
  site_sent before (Some (wanted.Nodes paths)) (Some t) after (all_asked_of given e one) answers is = let f = subst (λ x. states_told (Some x) ≡ Ok answers) e is in absurd (cc)
  site_sent before (Some (wanted.Nodes paths)) (Some t) after (no_room e same) answers is = let f = subst (λ x. states_told (Some x) ≡ Ok answers) e is in absurd (cc)
  site_sent before (Some (wanted.Pages pages)) (Some t) after (all_asked_of given e one) answers is = let f = subst (λ x. states_told (Some x) ≡ Ok answers) e is in absurd (cc)
  site_sent before (Some (wanted.Pages pages)) (Some t) after (no_room e same) answers is = let f = subst (λ x. states_told (Some x) ≡ Ok answers) e is in absurd (cc)
  site_sent before (Some (wanted.Pushes pairs)) (Some t) after (all_asked_of given e one) answers is = let f = subst (λ x. states_told (Some x) ≡ Ok answers) e is in absurd (cc)
  site_sent before (Some (wanted.Pushes pairs)) (Some t) after (no_room e same) answers is = let f = subst (λ x. states_told (Some x) ≡ Ok answers) e is in absurd (cc)

-- ---- what was read was told

each_state : (P : Key → State → Type 0) (keys : List Key) (answers : List (Result State Refusal)) (read : List State) → ForEach (λ key r. IfOk r (P key)) keys answers → ForEach (PassesFault IsStateOf) answers read → ForEach P keys read
each_state P [] [] [] p r = tt
each_state P [] [] (s ∷ read) p r = absurd r
each_state P [] (t ∷ answers) read p r = absurd p
each_state P (key ∷ keys) [] read p r = absurd p
each_state P (key ∷ keys) (t ∷ answers) [] p r = absurd r
each_state P (key ∷ keys) (Ok a ∷ answers) (s ∷ read) p r = (subst (P key) (sym r.0) p.0, each_state P keys answers read p.1 r.1)
each_state P (key ∷ keys) (Err refusal ∷ answers) (s ∷ read) p r = absurd r.0

pub read_sent : (setting : Setting) (site : ℕ) (before : Knowledge) (window : Option Window) (t : Option Told) (after : Knowledge) (keys : List Key) (left left' : ℕ) (share : Share) (read : List State) → AsksOneSite setting site before window t after
    → (asked_in window).gets ≡ take left keys → TakesBudget left left' (length keys) share.asked → share.wanted ≡ length keys → AllRead IsStateOf (states_told t) share read → ForEach (SentAs after.messages) keys read
read_sent setting site before window t after keys left left' share read asks cut budget counted all =
    let whole : (asked_in window).gets ≡ keys = cut ∙ take_all left keys (let e = budget.spent in let s = all.whole in omega (arith, e, s, counted)) in
    each_state (SentAs after.messages) keys all.answers read
    (subst (λ ks. ForEach (λ key r. IfOk r (λ s. WasSent after.messages (key, s))) ks all.answers) whole (site_sent setting site before window t after asks all.answers all.is)) all.each

each_first : {A : Type 0} (P : Key → A → Type 0) (ones others : List Key) (answers : List A) → ForEach P (ones ++ others) answers → ForEach P ones (take (length ones) answers)
each_first P [] others [] h = tt
each_first P [] others (t ∷ answers) h = tt
each_first P (key ∷ ones) others [] h = absurd h
each_first P (key ∷ ones) others (t ∷ answers) h = (h.0, each_first P ones others answers h.1)

-- and of a window that is cut so are the first
pub first_sent : (setting : Setting) (site : ℕ) (before : Knowledge) (window : Option Window) (t : Option Told) (after : Knowledge) (side : Side) (entries : List Entry) (count left left' : ℕ) (share : Share) (answers : List StateAnswer) (read : List State) → AsksOneSite setting site before window t after
    → (asked_in window).gets ≡ take left (held_keys side entries) → TakesBudget left left' (length (held_keys side entries)) share.asked → share.wanted ≡ length (held_keys side entries) → IsWhole t share answers
    → AllRead IsStateOf (front_told side (take count entries) t) (share_in side (take count entries)) read → ForEach (SentAs after.messages) (held_keys side (take count entries)) read
first_sent setting site before window t after side entries count left left' share answers read asks cut budget counted whole all =
    let P : Key → StateAnswer → Type 0 = λ key r. IfOk r (λ s. WasSent after.messages (key, s)) in
    let ones = held_keys side (take count entries) in
    let others = held_keys side (drop count entries) in
    let every : (asked_in window).gets ≡ ones ++ others =
    cut ∙ take_all left (held_keys side entries) (let e = budget.spent in let s = whole.all in omega (arith, e, s, counted)) ∙ held_split side count entries in
    let first : Ok (take (length ones) answers) ≡ Ok all.answers = sym (ap (told_first (length ones)) whole.is) ∙ all.is in
    let same : take (length ones) answers ≡ all.answers = cc in
    each_state (SentAs after.messages) ones all.answers read
    (subst (ForEach P ones) same (each_first P ones others answers (subst (λ ks. ForEach P ks answers) every (site_sent setting site before window t after asks answers whole.is)))) all.each

-- ---- a window

module _ (setting : Setting) (local peer : ℕ) (before : Knowledge) (asking : Machining) (step : Asking) (next : Machining) (after : Knowledge) (window : OneWindow setting local peer before asking step next (Ok tt) after) (asks : IsStep asking step) where
  first_longer : IsLonger before.messages window.between.messages
  first_longer = cut_longer setting before window.between (site_steps setting local before step.local window.mine window.between window.local_side)

  second_longer : IsLonger window.between.messages after.messages
  second_longer = cut_longer setting window.between after (site_steps setting peer window.between step.peer window.theirs after window.peer_side)

  more_after : (key : Key) (s : State) → SentAs window.between.messages key s → SentAs after.messages key s
  more_after key s was = sent_still window.between.messages after.messages (key, s) second_longer was

  for_each_may : (P R : Key → State → Type 0) → ((key : Key) (s : State) → P key s → R key s) → (keys : List Key) (read : List State) → ForEach P keys read → ForEach R keys read
  for_each_may P R f [] [] h = tt
  for_each_may P R f [] (s ∷ read) h = absurd h
  for_each_may P R f (key ∷ keys) [] h = absurd h
  for_each_may P R f (key ∷ keys) (s ∷ read) h = (f key s h.0, for_each_may P R f keys read h.1)

  heard : (stage stage' : Stage) (left' : Questions) (work' : Exchanging) (shares : Shares) → asking.stage ≡ stage → TakesShares stage asking.left left' shares → HearsAt asking.work stage shares (record { mine = window.mine; theirs = window.theirs }) work' (Ok stage') → IsOfSent after.messages stage → IsOfSent after.messages stage'
  heard (Descends level) stage' left' work' shares at t (same, both mine theirs m s (next_level, down, is)) given = subst (IsOfSent after.messages) (sym is) tt
  heard (Descends level) stage' left' work' shares at t (same, of_local refusal m is) given = absurd (cc)
  heard (Descends level) stage' left' work' shares at t (same, of_peer mine refusal m s is) given = absurd (cc)
  heard (Walks walk) stage' left' work' shares at t (both mine theirs m s (next_walk, found, told, settled)) given = settles after.messages next_walk found asking.work work' stage' settled
  heard (Walks walk) stage' left' work' shares at t (of_local refusal m is) given = absurd (cc)
  heard (Walks walk) stage' left' work' shares at t (of_peer mine refusal m s is) given = absurd (cc)
  heard (Meets walk entries) stage' left' work' shares at t (uncut none (both mine theirs m s (meetings, plans, begins, next))) given =
      planned after.messages asking.work.number walk entries.items mine.items theirs.items meetings stage'
      (for_each_may (SentAs window.between.messages) (SentAs after.messages) more_after (held_keys AtLocal entries.items) mine.items
      (read_sent setting local before step.local window.mine window.between (held_keys AtLocal entries.items) asking.left.local left'.local shares.local mine.items window.local_side ((λ i. (asks.local i).gets) ∙ ap (λ g. take asking.left.local (wanted_at AtLocal g).gets) at) t.local t.wanted.0 m))
      (read_sent setting peer window.between step.peer window.theirs after (held_keys AtPeer entries.items) asking.left.peer left'.peer shares.peer theirs.items window.peer_side ((λ i. (asks.peer i).gets) ∙ ap (λ g. take asking.left.peer (wanted_at AtPeer g).gets) at) t.peer t.wanted.1 s)
      plans begins
  heard (Meets walk entries) stage' left' work' shares at t (cut_at count cut (met_first (both mine theirs m s (meetings, plans, begins, next)))) given =
      planned after.messages asking.work.number walk (take count entries.items) mine.items theirs.items meetings stage'
      (for_each_may (SentAs window.between.messages) (SentAs after.messages) more_after (held_keys AtLocal (take count entries.items)) mine.items
      (first_sent setting local before step.local window.mine window.between AtLocal entries.items count asking.left.local left'.local shares.local cut.mine mine.items window.local_side ((λ i. (asks.local i).gets) ∙ ap (λ g. take asking.left.local (wanted_at AtLocal g).gets) at) t.local t.wanted.0 cut.from_local m))
      (first_sent setting peer window.between step.peer window.theirs after AtPeer entries.items count asking.left.peer left'.peer shares.peer cut.theirs theirs.items window.peer_side ((λ i. (asks.peer i).gets) ∙ ap (λ g. take asking.left.peer (wanted_at AtPeer g).gets) at) t.peer t.wanted.1 cut.from_peer s)
      plans begins
  heard (Meets walk entries) stage' left' work' shares at t (cut_at count cut (met_first (of_local refusal m is))) given = absurd (cc)
  heard (Meets walk entries) stage' left' work' shares at t (cut_at count cut (met_first (of_peer mine refusal m s is))) given = absurd (cc)
  heard (Meets walk entries) stage' left' work' shares at t (cut_at count cut (no_place is)) given = absurd (cc)
  heard (Meets walk entries) stage' left' work' shares at t (uncut none (of_local refusal m is)) given = absurd (cc)
  heard (Meets walk entries) stage' left' work' shares at t (uncut none (of_peer mine refusal m s is)) given = absurd (cc)
  heard (Carries walk turn count) stage' left' work' shares at t (same, on_it) given = carried after.messages walk turn (share_of turn.side shares) (told_by_side turn.side (record { mine = window.mine; theirs = window.theirs })) (told_by_side (other_of turn.side) (record { mine = window.mine; theirs = window.theirs })) stage' given on_it
  heard Done stage' left' work' shares at t never given = absurd never
  heard (Failed fault) stage' left' work' shares at t never given = absurd never

  stays_sent : (stage stage' : Stage) (mine theirs : Result (Unit {0}) Refusal) → Ok stage' ≡ Rattle.mvd_sync.specs.Machines.stays stage mine theirs → stage' ≡ stage
  stays_sent stage stage' (Ok mine) (Ok theirs) e = cc
  stays_sent stage stage' (Ok mine) (Err refusal) e = absurd (cc)
  stays_sent stage stage' (Err refusal) theirs e = absurd (cc)

  hears_sent : (result : Result Stage SyncFault) → StageHears asking.left asking.work asking.stage (record { mine = window.mine; theirs = window.theirs }) next.left next.work result → Ok tt ≡ Rattle.mvd_sync.specs.Machines.stage_told result → next.stage ≡ Rattle.mvd_sync.specs.Machines.stage_after result → IsOfSent after.messages asking.stage → IsOfSent after.messages next.stage
  hears_sent (Err fault) heard_it ok is given = absurd (cc)
  hears_sent (Ok stage') (quiet never left work result) ok is given = subst (IsOfSent after.messages) (sym (is ∙ stays_sent asking.stage stage' (unasked_told window.mine) (unasked_told window.theirs) result)) given
  hears_sent (Ok stage') (hears shares loud takes at) ok is given = subst (IsOfSent after.messages) (sym is) (heard asking.stage stage' next.left next.work shares refl takes at given)

  pub window_sent : IsOfSent before.messages asking.stage → IsOfSent after.messages next.stage
  window_sent given =
      let on_both = stage_more window.between.messages after.messages asking.stage second_longer (stage_more before.messages window.between.messages asking.stage first_longer given) in
      hears_sent window.takes.after window.takes.hears window.takes.is window.takes.stage on_both
