-- A session goes on by windows, among any acts.
use Rattle.std.proofs.Common.{◌≡◌, ◌⊎◌, inl, inr, ℕ, ◌+◌, ◌==◌, zero, suc, true, false, MatchBool, List, [], ◌∷◌, ◌++◌, length, Option, Some, None, refl, sym, ap, ◌∙◌, subst, true≢false, arith}
use Rattle.std.specs.Prelude.{slice_set}
use Rattle.std.specs.Cmp.{unsigned_Decides}
use Rattle.std.specs.List.{slice_get}
use Rattle.std.proofs.lemmas.List.{append-nil}
use Rattle.mvd_peer.specs.PushedStates.{Each}
use Rattle.mvd_sync.proofs.Descents.{Each-left, Each-right}
use Rattle.mvd_peer.proofs.Pushes.{Each-append}
use Rattle.mvd_sync.specs.Machines.{Machining}
use Rattle.mvd_live.specs.Runs.{Leg, RunsLegs, all_locals, all_peers}
use Rattle.mvd_world.specs.declared.acts.Act.{Act}
use Rattle.mvd_world.specs.declared.acts.Act.TheVariants.{Take, Begin, Go}
use Rattle.mvd_world.specs.declared.acts.Came.{Came}
use Rattle.mvd_world.specs.declared.acts.Came.TheVariants as coming
use Rattle.mvd_world.specs.declared.open_world.OpenSession.{OpenSession}
use Rattle.mvd_world.specs.declared.steps.Step.TheVariants.{Session}
use Rattle.mvd_world.specs.Machine.{Knowledge, Setting, is_site, may_be}
use Rattle.mvd_world.specs.OpenWorlds.{WindowsOn, MayAct, MayBegin, MayGo, RunsActs, Scene, goes_at, had_ended, has_failed, has_gone, has_stopped, is_done}
use Rattle.mvd_world.proofs.Cutting.{act_cut, acts_cut, get_more}
use Rattle.mvd_live.specs.InWindows.{AreInForm, IsBetween, LedTo}
use Rattle.mvd_live.proofs.Between.{WasHeldAt, among_left, among_right, from_earlier, held_wider, led_grows, led_none, led_on, to_later}
use Rattle.mvd_live.proofs.InWindows.{GoneBy, most_at, standing_at, window_gone}

-- the session of this index, of these two sites, is so far, or has ended
abbrev pub IsAt : ℕ → ℕ → ℕ → Scene → Option Machining → Type 0
IsAt local peer index scene left = slice_get scene.sessions index ≡ Some (record { local = local; peer = peer; machine = left })

-- ---- lists

set_here : {X : Type 0} (xs : List X) (i : ℕ) (old new : X) → slice_get xs i ≡ Some old → slice_get (slice_set xs i new) i ≡ Some new
set_here [] i old new h = absurd (cc)
set_here (y ∷ xs) zero old new h = refl
set_here (y ∷ xs) (suc i) old new h = set_here xs i old new h

set_other : {X : Type 0} (xs : List X) (j i : ℕ) (new : X) → (j ≡ i → ⊥) → slice_get (slice_set xs j new) i ≡ slice_get xs i
set_other [] j i new other = refl
set_other (y ∷ xs) zero zero new other = absurd (other refl)
set_other (y ∷ xs) zero (suc i) new other = refl
set_other (y ∷ xs) (suc j) zero new other = refl
set_other (y ∷ xs) (suc j) (suc i) new other = set_other xs j i new (λ same. other (ap suc same))

pub session_is : (x y : OpenSession) → ◌≡◌ {A = Option OpenSession} (Some x) (Some y) → x ≡ y
session_is x y e = cc

pub machine_is : (x y : Machining) → ◌≡◌ {A = Option Machining} (Some x) (Some y) → x ≡ y
machine_is x y e = cc

pub is_none : (x : Machining) → ◌≡◌ {A = Option Machining} (Some x) None → ⊥
is_none x e = cc

-- ---- acts are steps

pub led_act : (setting : Setting) (before : Scene) (act : Act) (came : Came) (after : Scene) → MayAct setting before act came after → LedTo setting before.knowledge after.knowledge
led_act setting before act came after may = let cut = act_cut setting before act came after may in (cut.steps, cut.outcomes, cut.runs)

pub led_acts : (setting : Setting) (before : Scene) (acts : List Act) (cames : List Came) (after : Scene) → RunsActs setting before acts cames after → LedTo setting before.knowledge after.knowledge
led_acts setting before acts cames after runs = let cut = acts_cut setting before acts cames after runs in (cut.steps, cut.outcomes, cut.runs)

-- ---- acts of others

-- what a begin does to the sessions
abbrev AddsSessions : Scene → Scene → Type 0
AddsSessions before after = (more : List OpenSession) × (after.sessions ≡ before.sessions ++ more)

adds_none : (before after : Scene) → after ≡ before → AddsSessions before after
adds_none before after same = ([], ap (λ (s : Scene). s.sessions) same ∙ sym (append-nil before.sessions))

begin_adds : (before : Scene) (local peer : ℕ) (came : Came) (after : Scene) → MayBegin before local peer came after → AddsSessions before after
begin_adds before local peer (coming.Began number) after h = (record { local = local; peer = peer; machine = Some h.machine } ∷ [], h.sessions)
begin_adds before local peer (coming.Failed fault) after h = adds_none before after h.1
begin_adds before local peer (coming.Took outcome) after h = absurd h
begin_adds before local peer coming.Went after h = absurd h
begin_adds before local peer (coming.Met report) after h = absurd h
begin_adds before local peer coming.NoSuch after h = absurd h

begun_adds : (setting : Setting) (before : Scene) (local peer : ℕ) (came : Came) (after : Scene) → MayAct setting before (Begin local peer) came after → AddsSessions before after
begun_adds setting before local peer came after =
    elim (may_be (is_site setting) (length before.knowledge.messages) (Session local peer)) as (λ b. MatchBool b (MayBegin before local peer came after) ((came ≡ coming.NoSuch) × (after ≡ before)) → AddsSessions before after) [
      | true ↦ λ h. begin_adds before local peer came after h
      | false ↦ λ h. adds_none before after h.1
    ]

module _ (setting : Setting) (local peer index : ℕ) where
  same_at : (before after : Scene) (left : Option Machining) → after ≡ before → IsAt local peer index before left → IsAt local peer index after left
  same_at before after left same here = subst (λ (s : Scene). IsAt local peer index s left) (sym same) here

  go_other : (before : Scene) (number : ℕ) (came : Came) (after : Scene) (left : Option Machining) → (number ≡ index + 1 → ⊥) → MayGo setting before number came after → IsAt local peer index before left → IsAt local peer index after left
  go_other before number came after left other (had_ended has is same) here = same_at before after left same here
  go_other before number came after left other (goes_at j session machine next at there opened going others) here =
      ap (λ l. slice_get l index) others ∙ set_other before.sessions j index (record session { machine = next }) (λ same. other (at ∙ ap (λ n. n + 1) same)) ∙ here

  -- the session went on
  abbrev MayLeave : Knowledge → Machining → Scene → Type 0
  MayLeave start machine after =
      (next : Machining) × IsAt local peer index after (Some next) × GoneBy setting local peer start after.knowledge machine next

  -- what becomes of it
  abbrev Becomes : Knowledge → Machining → Scene → Type 0
  Becomes start machine after = IsAt local peer index after (Some machine) ⊎ (IsAt local peer index after None ⊎ MayLeave start machine after)

  went : (start : Knowledge) (before after : Scene) (machine : Machining) (came : Came) (left : Option Machining) → LedTo setting start before.knowledge → IsAt local peer index after left → WindowsOn setting local peer machine before.knowledge came left after.knowledge → Becomes start machine after
  went start before after machine came left since here (has_gone asking next step has window is stays) =
      inr (inr (next, subst (IsAt local peer index after) stays here, window_gone setting local peer start before.knowledge after.knowledge machine asking next step since has window))
  went start before after machine came left since here (has_failed asking next step fault has window is stays) = inr (inl (subst (IsAt local peer index after) stays here))
  went start before after machine came left since here (is_done asking report has tells same is stays) = inr (inl (subst (IsAt local peer index after) stays here))
  went start before after machine came left since here (has_stopped fault why same is stays) = inr (inl (subst (IsAt local peer index after) stays here))

  go_ours : (start : Knowledge) (before : Scene) (number : ℕ) (came : Came) (after : Scene) (machine : Machining) → number ≡ index + 1 → LedTo setting start before.knowledge → IsAt local peer index before (Some machine) → MayGo setting before number came after → Becomes start machine after
  go_ours start before number came after machine ours since here (had_ended has is same) = absurd (is_none machine (has index (record { local = local; peer = peer; machine = Some machine }) ours here))
  go_ours start before number came after machine ours since here (goes_at j session machine' left at there opened going others) =
      let same_index : j ≡ index = omega (arith, ours, at) in
      let is : session ≡ record { local = local; peer = peer; machine = Some machine } = session_is _ _ (sym there ∙ ap (slice_get before.sessions) same_index ∙ here) in
      let same_machine : machine' ≡ machine = machine_is machine' machine (sym opened ∙ ap (λ (s : OpenSession). s.machine) is) in
      let now : IsAt local peer index after left =
      ap (λ l. slice_get l index) (others ∙ ap (λ n. slice_set before.sessions n (record session { machine = left })) same_index)
      ∙ set_here before.sessions index (record { local = local; peer = peer; machine = Some machine }) (record session { machine = left }) here
      ∙ ap (λ (s : OpenSession). Some (record s { machine = left })) is in
      let gone : WindowsOn setting local peer machine before.knowledge came left after.knowledge =
      subst (λ m. WindowsOn setting local peer m before.knowledge came left after.knowledge) same_machine (subst (λ (s : OpenSession). WindowsOn setting s.local s.peer machine' before.knowledge came left after.knowledge) is going) in
      went start before after machine came left since now gone

  act_one : (start : Knowledge) (before : Scene) (act : Act) (came : Came) (after : Scene) (machine : Machining) → LedTo setting start before.knowledge → IsAt local peer index before (Some machine) → MayAct setting before act came after → Becomes start machine after
  act_one start before (Take step) (coming.Took outcome) after machine since here may = inl (ap (λ l. slice_get l index) may.1 ∙ here)
  act_one start before (Take step) (coming.Began number) after machine since here may = absurd may
  act_one start before (Take step) coming.Went after machine since here may = absurd may
  act_one start before (Take step) (coming.Met report) after machine since here may = absurd may
  act_one start before (Take step) (coming.Failed fault) after machine since here may = absurd may
  act_one start before (Take step) coming.NoSuch after machine since here may = absurd may
  act_one start before (Begin l p) came after machine since here may =
      let adds = begun_adds setting before l p came after may in
      inl (ap (λ l. slice_get l index) adds.1 ∙ get_more before.sessions adds.0 index _ here)
  act_one start before (Go number) came after machine since here may =
      elim (number == index + 1) as (λ b. (number == index + 1) ≡ b → Becomes start machine after) [
        | true ↦ λ e. go_ours start before number came after machine ((unsigned_Decides number (index + 1)).0 e) since here may
        | false ↦ λ e. inl (go_other before number came after (Some machine) (λ same. true≢false (sym ((unsigned_Decides number (index + 1)).1 same) ∙ e)) may here)
      ] refl

  -- ---- a session that has ended stays so

  go_ended : (before : Scene) (number : ℕ) (came : Came) (after : Scene) → number ≡ index + 1 → IsAt local peer index before None → MayGo setting before number came after → IsAt local peer index after None
  go_ended before number came after ours here (had_ended has is same) = same_at before after None same here
  go_ended before number came after ours here (goes_at j session machine left at there opened going others) =
      let same_index : j ≡ index = omega (arith, ours, at) in
      let is : session ≡ record { local = local; peer = peer; machine = None } = session_is _ _ (sym there ∙ ap (slice_get before.sessions) same_index ∙ here) in
      absurd (is_none machine (sym opened ∙ ap (λ (s : OpenSession). s.machine) is))

  none_one : (before : Scene) (act : Act) (came : Came) (after : Scene) → IsAt local peer index before None → MayAct setting before act came after → IsAt local peer index after None
  none_one before (Take step) (coming.Took outcome) after here may = ap (λ l. slice_get l index) may.1 ∙ here
  none_one before (Take step) (coming.Began number) after here may = absurd may
  none_one before (Take step) coming.Went after here may = absurd may
  none_one before (Take step) (coming.Met report) after here may = absurd may
  none_one before (Take step) (coming.Failed fault) after here may = absurd may
  none_one before (Take step) coming.NoSuch after here may = absurd may
  none_one before (Begin l p) came after here may =
      let adds = begun_adds setting before l p came after may in
      ap (λ l. slice_get l index) adds.1 ∙ get_more before.sessions adds.0 index _ here
  none_one before (Go number) came after here may =
      elim (number == index + 1) as (λ b. (number == index + 1) ≡ b → IsAt local peer index after None) [
        | true ↦ λ e. go_ended before number came after ((unsigned_Decides number (index + 1)).0 e) here may
        | false ↦ λ e. go_other before number came after None (λ same. true≢false (sym ((unsigned_Decides number (index + 1)).1 same) ∙ e)) may here
      ] refl

  none_all : (before : Scene) (acts : List Act) (cames : List Came) (after : Scene) → IsAt local peer index before None → RunsActs setting before acts cames after → IsAt local peer index after None
  none_all before [] [] after here runs = same_at before after None runs here
  none_all before (act ∷ acts) (came ∷ cames) after here runs = none_all runs.0 acts cames after (none_one before act came runs.0 here runs.1) runs.2
  none_all before [] (came ∷ cames) after here runs = absurd runs
  none_all before (act ∷ acts) [] after here runs = absurd runs

  -- ---- act after act

  -- its run from the one moment to the other, where so at some moments
  pub record RanBy (start last : Knowledge) (machine next : Machining) : Type 0 where
    pub legs : List Leg
    pub moments : List Knowledge
    pub between : Each (IsBetween setting start last) moments
    pub runs : Each (AreInForm local peer) moments → RunsLegs (most_at setting local peer) (standing_at local peer start machine) legs (standing_at local peer last next)
    pub locals : Each (WasHeldAt local moments) (all_locals legs)
    pub peers : Each (WasHeldAt peer moments) (all_peers legs)

  run_none : (start last : Knowledge) (machine : Machining) → LedTo setting start last → RanBy start last machine machine
  run_none start last machine led = record {
    legs = [];
    moments = last ∷ [];
    between = ((led, led_none setting last last refl), tt);
    runs = λ form. record { machine = refl; local = (form.0.0, led_grows setting start last local led); peer = (form.0.1, led_grows setting start last peer led) };
    locals = tt;
    peers = tt;
  }

  run_on : (start mid last : Knowledge) (machine next final : Machining) → LedTo setting start mid → LedTo setting mid last → GoneBy setting local peer start mid machine next → RanBy mid last next final → RanBy start last machine final
  run_on start mid last machine next final since until gone rest =
      let all = gone.moments ++ rest.moments in
      record {
        legs = gone.leg ∷ rest.legs;
        moments = all;
        between = Each-append (IsBetween setting start last) gone.moments rest.moments (to_later setting start mid last gone.moments until gone.between) (from_earlier setting start mid last rest.moments since rest.between);
        runs = λ form. (
          gone.goes (Each-left (AreInForm local peer) gone.moments rest.moments form),
          subst (λ s. RunsLegs (most_at setting local peer) s rest.legs (standing_at local peer last final)) (sym gone.is) (rest.runs (Each-right (AreInForm local peer) gone.moments rest.moments form)),
        );
        locals = Each-append (WasHeldAt local all) gone.leg.locals (all_locals rest.legs) (held_wider local gone.moments all gone.leg.locals (λ k m. among_left gone.moments rest.moments k m) gone.locals)
            (held_wider local rest.moments all (all_locals rest.legs) (λ k m. among_right gone.moments rest.moments k m) rest.locals);
        peers = Each-append (WasHeldAt peer all) gone.leg.peers (all_peers rest.legs) (held_wider peer gone.moments all gone.leg.peers (λ k m. among_left gone.moments rest.moments k m) gone.peers)
            (held_wider peer rest.moments all (all_peers rest.legs) (λ k m. among_right gone.moments rest.moments k m) rest.peers);
      }

  abbrev pub ComesTo : Knowledge → Machining → Scene → Type 0
  ComesTo start machine after = IsAt local peer index after None ⊎ ((final : Machining) × IsAt local peer index after (Some final) × RanBy start after.knowledge machine final)

  pub acts_gone : (start : Knowledge) (before : Scene) (acts : List Act) (cames : List Came) (after : Scene) (machine : Machining) → LedTo setting start before.knowledge → IsAt local peer index before (Some machine) → RunsActs setting before acts cames after → ComesTo start machine after
  acts_gone start before [] [] after machine since here runs =
      let same : after.knowledge ≡ before.knowledge = ap (λ (s : Scene). s.knowledge) runs in
      inr (machine, same_at before after (Some machine) runs here, run_none start after.knowledge machine (led_on setting start before.knowledge after.knowledge since (led_none setting before.knowledge after.knowledge same)))
  acts_gone start before (act ∷ acts) (came ∷ cames) after machine since here runs =
      let mid = runs.0 in
      let until = led_acts setting mid acts cames after runs.2 in
      let now = led_on setting start before.knowledge mid.knowledge since (led_act setting before act came mid runs.1) in
      elim (act_one start before act came mid machine since here runs.1) [
        | inl stays ↦ acts_gone start mid acts cames after machine now stays runs.2
        | inr (inl ended) ↦ inl (none_all mid acts cames after ended runs.2)
        | inr (inr gone) ↦ elim (acts_gone mid.knowledge mid acts cames after gone.0 (led_none setting mid.knowledge mid.knowledge refl) gone.1 runs.2) [
          | inl ended ↦ inl ended
          | inr rest ↦ inr (rest.0, rest.1, run_on start mid.knowledge after.knowledge machine gone.0 rest.0 now until gone.2 rest.2)
        ]
      ]
  acts_gone start before [] (came ∷ cames) after machine since here runs = absurd runs
  acts_gone start before (act ∷ acts) [] after machine since here runs = absurd runs
