-- Where enough sessions ran to their end, each site holds the states of all writes.
use Rattle.std.proofs.Common.{◌≡◌, ℕ, Bool, true, false, ◌==◌, if◌then◌else◌, MatchBool, List, [], ◌∷◌, ◌++◌, length, Contains, Some, is_some, refl, sym, ap, ◌∙◌, subst, ⊎_elim}
use Rattle.std.proofs.lemmas.List.{append-nil, append_assoc}
use Rattle.std.proofs.lemmas.List.Elements.{Contains-append_left, Contains-append_right, Contains-append_cases}
use Rattle.mvd_keys.specs.Order.{Includes}
use Rattle.mvd_keys.specs.State.{IsValid, State, join}
use Rattle.mvd_keys.specs.Writes.{Agree, Key, SameWrites, Write, state}
use Rattle.mvd_keys.proofs.Growing.{grows}
use Rattle.mvd_keys.proofs.Joins.{join_groups, join_repeats}
use Rattle.mvd_keys.proofs.Ordered.{included_both, includes_on}
use Rattle.mvd_keys.proofs.Sets.{Contains-either, Contains-head, Contains-later, IsValid-state, none_empty, state-SameWrites}
use Rattle.mvd_keys.proofs.Standing.{Stands-one, held-same}
use Rattle.mvd_keys.proofs.StatesOfWrites.{join-state}
use Rattle.mvd_peer.specs.PushedStates.{Each}
use Rattle.mvd_site.specs.Answer.{is_question, states_of}
use Rattle.mvd_site.specs.Held.{state_at}
use Rattle.mvd_site.specs.Known.{Adds}
use Rattle.mvd_site.proofs.KnownKeys.{states_of-stands}
use Rattle.mvd_site.proofs.Steps.{state_at-stands}
use Rattle.mvd_wire.specs.declared.request.Request.{Request}
use Rattle.mvd_wire.specs.declared.request.Request.TheVariants.{Delete, Push, Put}
use Rattle.mvd_wire.specs.declared.reply.Reply.{Reply}
use Rattle.mvd_world.specs.declared.steps.Step.{Step}
use Rattle.mvd_world.specs.declared.steps.Step.TheVariants.{Write as Write_at, Ask, Send, Receive, Session}
use Rattle.mvd_world.specs.declared.steps.Outcome.{Outcome}
use Rattle.mvd_world.specs.declared.steps.Outcome.TheVariants.{Replied, Sent as Sent_as, Met, Failed, NoSuch}
use Rattle.mvd_world.specs.Agreeing.{HasCome, IsNoWrite, WithoutWrites, from_local, from_peer, own, stays}
use Rattle.mvd_world.specs.Machine.{IsConsistent, Knowledge, MayStep, RunsSteps, Setting, Takes, is_site, learns, may_be, nothing_yet}
use Rattle.mvd_world.proofs.Apart.{agree_made}
use Rattle.mvd_world.proofs.Sound.{sound_run, sound_start}

-- ---- what is known only grows

abbrev pub IsMore : List Write → List Write → Type 0
IsMore V W = (more : List Write) × (W ≡ V ++ more)

no_more : (V W : List Write) → W ≡ V → IsMore V W
no_more V W same = ([], same ∙ sym (append-nil V))

more_on : (U V W : List Write) → IsMore U V → IsMore V W → IsMore U W
more_on U V W p q = (p.0 ++ q.0, q.1 ∙ ap (λ l. l ++ q.0) p.1 ∙ append_assoc U p.0 q.0)

learns_more : (known : ℕ → List Write) (site : ℕ) (more : List Write) (other : ℕ) → IsMore (known other) (learns known site more other)
learns_more known site more other = elim (other == site) as (λ b. IsMore (known other) (if b then known other ++ more else known other)) [
  | true ↦ (more, refl)
  | false ↦ no_more (known other) (known other) refl
]

as_known : (before after is : Knowledge) (site : ℕ) → after ≡ is → IsMore (before.known site) (is.known site) → IsMore (before.known site) (after.known site)
as_known before after is site same more = subst (λ (w : Knowledge). IsMore (before.known site) (w.known site)) (sym same) more

takes_known : (setting : Setting) (before : Knowledge) (step : Step) (outcome : Outcome) (after : Knowledge) (site : ℕ) → Takes setting before step outcome after → IsMore (before.known site) (after.known site)
takes_known setting before (Write_at s request) (Replied reply) after site told = as_known before after _ site told.is (learns_more before.known s told.added site)
takes_known setting before (Ask s request) (Replied reply) after site told = as_known before after _ site told.is (learns_more before.known s told.added site)
takes_known setting before (Send s key) (Sent_as number) after site told = as_known before after _ site told.is (no_more _ _ refl)
takes_known setting before (Send s key) (Replied reply) after site told = as_known before after _ site told.is (no_more _ _ refl)
takes_known setting before (Receive s message) (Replied reply) after site told = as_known before after _ site told.is (learns_more before.known s _ site)
takes_known setting before (Session local peer) (Met report) after site told = as_known before after _ site told.is
    (more_on _ _ _ (learns_more before.known local _ site) (learns_more (learns before.known local _) peer _ site))
takes_known setting before (Session local peer) (Failed fault) after site told = as_known before after _ site told.is
    (more_on _ _ _ (learns_more before.known local _ site) (learns_more (learns before.known local _) peer _ site))
takes_known setting before step outcome after site told = absurd told

pub step_known : (setting : Setting) (before : Knowledge) (step : Step) (outcome : Outcome) (after : Knowledge) (site : ℕ) → MayStep setting before step outcome after → IsMore (before.known site) (after.known site)
step_known setting before step outcome after site =
    elim (may_be (is_site setting) (length before.messages) step) as (λ b. MatchBool b (Takes setting before step outcome after) ((outcome ≡ NoSuch) × (after ≡ before)) → IsMore (before.known site) (after.known site)) [
      | true ↦ λ told. takes_known setting before step outcome after site told
      | false ↦ λ none. as_known before after before site none.1 (no_more _ _ refl)
    ]

pub run_known : (setting : Setting) (before : Knowledge) (steps : List Step) (outcomes : List Outcome) (after : Knowledge) (site : ℕ) → RunsSteps setting before steps outcomes after → IsMore (before.known site) (after.known site)
run_known setting before [] [] after site runs = as_known before after before site runs (no_more _ _ refl)
run_known setting before (s ∷ steps) (o ∷ outcomes) after site runs = more_on _ _ _ (step_known setting before s o runs.0 site runs.1) (run_known setting runs.0 steps outcomes after site runs.2)
run_known setting before [] (o ∷ outcomes) after site runs = absurd runs
run_known setting before (s ∷ steps) [] after site runs = absurd runs

-- ---- each write made is known at its site

abbrev pub EachIsKnown : Setting → Knowledge → Type 0
EachIsKnown setting world = (w : Write) → Contains world.made w → (site : ℕ) × (is_site setting site ≡ true) × Contains (world.known site) w

known_still : (V W : List Write) (w : Write) → IsMore V W → Contains V w → Contains W w
known_still V W w more here = subst (λ l. Contains l w) (sym more.1) (Contains-append_left V more.0 w here)

same_made : (setting : Setting) (before after : Knowledge) → ((site : ℕ) → IsMore (before.known site) (after.known site)) → after.made ≡ before.made → EachIsKnown setting before → EachIsKnown setting after
same_made setting before after more same each w here =
    let there = each w (subst (λ l. Contains l w) same here) in
    (there.0, there.1, known_still (before.known there.0) (after.known there.0) w (more there.0) there.2)

there_is : (setting : Setting) (site : ℕ) (config : Rattle.mvd_site.specs.Config.ConfigValue) → setting.configs site ≡ Some config → is_site setting site ≡ true
there_is setting site config setup = ap is_some setup

own_learns : (known : ℕ → List Write) (site : ℕ) (more : List Write) → learns known site more site ≡ known site ++ more
own_learns known site more = Rattle.mvd_world.proofs.Changed.learns_here known site more

made_answers : (setting : Setting) (before : Knowledge) (site : ℕ) (request : Request) (reply : Reply) (after : Knowledge) → Rattle.mvd_world.specs.Machine.AnswersAtSite setting before site request reply after → ((s : ℕ) → IsMore (before.known s) (after.known s)) → EachIsKnown setting before → EachIsKnown setting after
made_answers setting before site request reply after told more each w here =
    ⊎_elim
    (λ old. let there = each w old in (there.0, there.1, known_still (before.known there.0) (after.known there.0) w (more there.0) there.2))
    (λ new. (
      site,
      there_is setting site told.config told.setup,
      subst (λ (k : Knowledge). Contains (k.known site) w) (sym told.is) (subst (λ l. Contains l w) (sym (own_learns before.known site told.added)) (Contains-append_right (before.known site) told.added w new)),
    ))
    (Contains-append_cases before.made told.added w (subst (λ (k : Knowledge). Contains k.made w) told.is here))

takes_made : (setting : Setting) (before : Knowledge) (step : Step) (outcome : Outcome) (after : Knowledge) → Takes setting before step outcome after → ((s : ℕ) → IsMore (before.known s) (after.known s)) → EachIsKnown setting before → EachIsKnown setting after
takes_made setting before (Write_at s request) (Replied reply) after told more each = made_answers setting before s request reply after told more each
takes_made setting before (Ask s request) (Replied reply) after told more each = made_answers setting before s request reply after told more each
takes_made setting before (Send s key) (Sent_as number) after told more each = same_made setting before after more (ap (λ (w : Knowledge). w.made) told.is) each
takes_made setting before (Send s key) (Replied reply) after told more each = same_made setting before after more (ap (λ (w : Knowledge). w.made) told.is) each
takes_made setting before (Receive s message) (Replied reply) after told more each = same_made setting before after more (ap (λ (w : Knowledge). w.made) told.is) each
takes_made setting before (Session local peer) (Met report) after told more each = same_made setting before after more (ap (λ (w : Knowledge). w.made) told.is) each
takes_made setting before (Session local peer) (Failed fault) after told more each = same_made setting before after more (ap (λ (w : Knowledge). w.made) told.is) each
takes_made setting before step outcome after told more each = absurd told

step_made : (setting : Setting) (before : Knowledge) (step : Step) (outcome : Outcome) (after : Knowledge) → MayStep setting before step outcome after → EachIsKnown setting before → EachIsKnown setting after
step_made setting before step outcome after may =
    let more : (s : ℕ) → IsMore (before.known s) (after.known s) = λ s. step_known setting before step outcome after s may in
    elim (may_be (is_site setting) (length before.messages) step) as (λ b. MatchBool b (Takes setting before step outcome after) ((outcome ≡ NoSuch) × (after ≡ before)) → EachIsKnown setting before → EachIsKnown setting after) [
      | true ↦ λ told each. takes_made setting before step outcome after told more each
      | false ↦ λ none each. same_made setting before after more (ap (λ (w : Knowledge). w.made) none.1) each
    ] may

pub run_made : (setting : Setting) (before : Knowledge) (steps : List Step) (outcomes : List Outcome) (after : Knowledge) → RunsSteps setting before steps outcomes after → EachIsKnown setting before → EachIsKnown setting after
run_made setting before [] [] after runs each = subst (EachIsKnown setting) (sym runs) each
run_made setting before (s ∷ steps) (o ∷ outcomes) after runs each = run_made setting runs.0 steps outcomes after runs.2 (step_made setting before s o runs.0 runs.1 each)
run_made setting before [] (o ∷ outcomes) after runs each = absurd runs
run_made setting before (s ∷ steps) [] after runs each = absurd runs

made_start : (setting : Setting) → EachIsKnown setting nothing_yet
made_start setting w here = absurd (none_empty w here)

-- ---- with no write nothing is made

question_adds : (request : Request) (reply : Reply) (added : List Write) → is_question request ≡ true → Adds request reply added → added ≡ []
question_adds (Put key seen document) reply added asks adds = absurd (cc)
question_adds (Delete key seen) reply added asks adds = absurd (cc)
question_adds (Push key pushed) reply added asks adds = absurd (cc)
question_adds request reply added asks adds = adds

asks_nothing : (before : Knowledge) (added : List Write) → added ≡ [] → before.made ++ added ≡ before.made
asks_nothing before added none = ap (λ l. before.made ++ l) none ∙ append-nil before.made

there_and : (a b : Bool) → Rattle.std.specs.Prelude.◌&&◌ a b ≡ true → b ≡ true
there_and true b h = h
there_and false b h = absurd (cc)

takes_quiet : (setting : Setting) (before : Knowledge) (step : Step) (outcome : Outcome) (after : Knowledge) → may_be (is_site setting) (length before.messages) step ≡ true → IsNoWrite step → Takes setting before step outcome after → after.made ≡ before.made
takes_quiet setting before (Write_at s request) outcome after may quiet told = absurd quiet
takes_quiet setting before (Ask s request) (Replied reply) after may quiet told = ap (λ (w : Knowledge). w.made) told.is ∙ asks_nothing before told.added (question_adds request reply told.added (there_and (is_site setting s) (is_question request) may) told.adds)
takes_quiet setting before (Send s key) (Sent_as number) after may quiet told = ap (λ (w : Knowledge). w.made) told.is
takes_quiet setting before (Send s key) (Replied reply) after may quiet told = ap (λ (w : Knowledge). w.made) told.is
takes_quiet setting before (Receive s message) (Replied reply) after may quiet told = ap (λ (w : Knowledge). w.made) told.is
takes_quiet setting before (Session local peer) (Met report) after may quiet told = ap (λ (w : Knowledge). w.made) told.is
takes_quiet setting before (Session local peer) (Failed fault) after may quiet told = ap (λ (w : Knowledge). w.made) told.is
takes_quiet setting before step outcome after may quiet told = absurd told

step_quiet : (setting : Setting) (before : Knowledge) (step : Step) (outcome : Outcome) (after : Knowledge) → IsNoWrite step → MayStep setting before step outcome after → after.made ≡ before.made
step_quiet setting before step outcome after quiet =
    elim (may_be (is_site setting) (length before.messages) step) as (λ b. may_be (is_site setting) (length before.messages) step ≡ b → MatchBool b (Takes setting before step outcome after) ((outcome ≡ NoSuch) × (after ≡ before)) → after.made ≡ before.made) [
      | true ↦ λ may told. takes_quiet setting before step outcome after may quiet told
      | false ↦ λ _ none. ap (λ (w : Knowledge). w.made) none.1
    ] refl

run_quiet : (setting : Setting) (before : Knowledge) (steps : List Step) (outcomes : List Outcome) (after : Knowledge) → Each IsNoWrite steps → RunsSteps setting before steps outcomes after → after.made ≡ before.made
run_quiet setting before [] [] after quiet runs = ap (λ (w : Knowledge). w.made) runs
run_quiet setting before (s ∷ steps) (o ∷ outcomes) after quiet runs = run_quiet setting runs.0 steps outcomes after quiet.1 runs.2 ∙ step_quiet setting before s o runs.0 quiet.0 runs.1
run_quiet setting before [] (o ∷ outcomes) after quiet runs = absurd runs
run_quiet setting before (s ∷ steps) [] after quiet runs = absurd runs

-- ---- states

pub state_is : (key : Key) (W : List Write) → state_at (states_of W) key ≡ state key W
state_is key W = state_at-stands (states_of W) W key (states_of-stands W)

pub more_includes : (key : Key) (V W : List Write) → IsMore V W → Includes (state key W) (state key V)
more_includes key V W more = subst (λ l. Includes (state key l) (state key V)) (sym more.1) (grows key V more.0)

pub includes_join : (x s t : State) → IsValid x → IsValid s → IsValid t → Includes x s → Includes x t → Includes x (join s t)
includes_join x s t vx vs vt p q = join_groups s t x vs vt vx ∙ ap (join s) q ∙ p

on_at : (key : Key) (U V W : List Write) → Includes (state key V) (state key U) → Includes (state key W) (state key V) → Includes (state key W) (state key U)
on_at key U V W p q = includes_on (state key U) (state key V) (state key W) (IsValid-state key U) (IsValid-state key V) (IsValid-state key W) p q

-- what came to a site is in what it holds
pub come_includes : (setting : Setting) (first : Knowledge) (from : ℕ) (after : Knowledge) (site : ℕ) (key : Key) → HasCome setting first from after site → Includes (state key (after.known site)) (state key (first.known from))
come_includes setting first from after site key (own a s same is) =
    subst (λ (w : Knowledge). Includes (state key (w.known site)) (state key (first.known from))) (sym same)
    (subst (λ n. Includes (state key (first.known n)) (state key (first.known from))) (sym is) (join_repeats (state key (first.known from)) (IsValid-state key (first.known from))))
come_includes setting first from after site key (stays before a s had runs) =
    on_at key (first.known from) (before.known site) (after.known site) (come_includes setting first from before site key had)
    (more_includes key (before.known site) (after.known site) (run_known setting before runs.steps runs.outcomes after site runs.runs))
come_includes setting first from after site key (from_peer before a s peer had runs ran) =
    on_at key (first.known from) (before.known peer) (after.known site) (come_includes setting first from before peer key had)
    (subst (λ x. Includes x (state key (before.known peer))) (state_is key (after.known site)) (subst (λ x. Includes (state_at (states_of (after.known site)) key) x) (state_is key (before.known peer)) (ran key).mine_of_peer))
come_includes setting first from after site key (from_local before a s local had runs ran) =
    on_at key (first.known from) (before.known local) (after.known site) (come_includes setting first from before local key had)
    (subst (λ x. Includes x (state key (before.known local))) (state_is key (after.known site)) (subst (λ x. Includes (state_at (states_of (after.known site)) key) x) (state_is key (before.known local)) (ran key).theirs_of_local))

-- ---- all writes

module _ (agree : List Write) (agrees : Agree agree) where
  -- one of them
  one_included : (key : Key) (V : List Write) (w : Write) → Contains V w → ((v : Write) → Contains V v → Contains agree v) → Includes (state key V) (state key (w ∷ []))
  one_included key V w here part =
      let same : SameWrites ((w ∷ []) ++ V) V = λ v. (λ c. ⊎_elim (λ e. subst (Contains V) e here) (λ later. later) (Contains-either v w V c), λ c. Contains-later v w V c) in
      let all : (v : Write) → Contains ((w ∷ []) ++ V) v → Contains agree v = λ v c. part v ((same v).0 c) in
      subst (λ s. Includes s (state key (w ∷ []))) (state-SameWrites key ((w ∷ []) ++ V) V same (Rattle.mvd_keys.proofs.Sets.Agree-part ((w ∷ []) ++ V) agree all agrees)) (grows key (w ∷ []) V)

-- each of these is included, so they are together
pub all_included : (key : Key) (x : State) (W : List Write) → IsValid x → Includes x (state key []) → ((w : Write) → Contains W w → Includes x (state key (w ∷ []))) → Includes x (state key W)
all_included key x [] valid none each = none
all_included key x (w ∷ W) valid none each =
    subst (Includes x) (join-state key (w ∷ []) W)
    (includes_join x (state key (w ∷ [])) (state key W) valid (IsValid-state key (w ∷ [])) (IsValid-state key W)
    (each w (Contains-head w W)) (all_included key x W valid none (λ v here. each v (Contains-later v w W here))))

nothing_included : (key : Key) (W : List Write) → Includes (state key W) (state key [])
nothing_included key W = grows key [] W

-- a part of them is included
part_included : (key : Key) (V W : List Write) → Agree W → ((w : Write) → Contains V w → Contains W w) → Includes (state key W) (state key V)
part_included key V W agrees part = all_included key (state key W) V (IsValid-state key W) (nothing_included key W) (λ w here. one_included W agrees key W w (part w here) (λ v c. c))

same_states : (V W : List Write) → ((key : Key) → state key V ≡ state key W) → states_of V ≡ states_of W
same_states V W same = Stands-one (states_of V) (states_of W) W (record { at = λ key. (states_of-stands V).at key ∙ held-same key V W (same key) }) (states_of-stands W)

-- ---- the law

pub agreed : (setting : Setting) (past : List Step) (told : List Outcome) (first end : Knowledge) → RunsSteps setting nothing_yet past told first → WithoutWrites setting first end → (site : ℕ) → ((from : ℕ) → is_site setting from ≡ true → HasCome setting first from end site) → states_of (end.known site) ≡ states_of end.made
agreed setting past told first end run later site come =
    let sound_first : IsConsistent first = sound_run setting nothing_yet past told first sound_start run in
    let sound : IsConsistent end = sound_run setting first later.steps later.outcomes end sound_first later.runs in
    let agrees : Agree end.made = agree_made end sound in
    let made : end.made ≡ first.made = run_quiet setting first later.steps later.outcomes end later.quiet later.runs in
    let each : EachIsKnown setting first = run_made setting nothing_yet past told first run (made_start setting) in
    same_states (end.known site) end.made (λ key.
    let x = state key (end.known site) in
    let has : (w : Write) → Contains end.made w → Includes x (state key (w ∷ [])) = λ w here.
    let at = each w (subst (λ l. Contains l w) made here) in
    let known_part : (v : Write) → Contains (first.known at.0) v → Contains end.made v = λ v c. subst (λ l. Contains l v) (sym made) (sound_first.known at.0 v c) in
    on_at key (w ∷ []) (first.known at.0) (end.known site) (one_included end.made agrees key (first.known at.0) w at.2 known_part) (come_includes setting first at.0 end site key (come at.0 at.1)) in
    included_both x (state key end.made) (IsValid-state key (end.known site)) (IsValid-state key end.made)
    (part_included key (end.known site) end.made agrees (sound.known site))
    (all_included key x end.made (IsValid-state key (end.known site)) (nothing_included key (end.known site)) has))
