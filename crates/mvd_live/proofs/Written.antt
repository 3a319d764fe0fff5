-- A key that neither differed at first nor was written to is held alike at all moments.
use Rattle.std.proofs.Common.{◌≡◌, ◌⊎◌, inl, inr, ℕ, ◌==◌, true, false, true≢false, List, [], ◌∷◌, refl, sym, ap, subst, ◌∙◌, arith, Some, None, Option}
use Rattle.std.specs.Prelude.{Contains, unwrap_or}
use Rattle.std.specs.FinMap.{get}
use Rattle.std.proofs.lemmas.List.Elements.{Contains-append_cases, Contains-push_cases}
use Rattle.mvd_keys.specs.Order.{Includes}
use Rattle.mvd_keys.specs.State.{State, empty_state}
use Rattle.mvd_keys.specs.Writes.{Key, is_empty}
use Rattle.mvd_keys.proofs.Ordered.{included_both}
use Rattle.mvd_site.specs.Held.{AreHeld, States, state_at}
use Rattle.mvd_peer.specs.Live.{Grows}
use Rattle.mvd_peer.specs.Sides.{Two}
use Rattle.mvd_peer.proofs.JoinLaws.{valid_at}
use Rattle.mvd_sync.specs.Session.{HasAllThatDiffer, is_member}
use Rattle.mvd_peer.specs.Asking.{Wanted}
use Rattle.mvd_peer.specs.declared.window.Told.{Told}
use Rattle.mvd_peer.specs.declared.window.Told.TheVariants as told
use Rattle.mvd_live.specs.Few.{HasAllThatDiffered}
use Rattle.mvd_live.specs.Runs.{Leg, RunsLegs, Standing, all_locals, all_peers}
use Rattle.mvd_live.specs.Told.{LiveTells, TellsEach, TellsNode, TellsNothing, PageTold, TellsPush, StateTold}
use Rattle.mvd_live.proofs.Heard.{each_grows, tells_grow}
use Rattle.mvd_live.proofs.Moments.{grown_on, none_or_some}
use Rattle.mvd_live.proofs.Whole.{runs_grow}

-- ---- one key

not_nothing : (s : States) (key : Key) (x : State) → AreHeld s → get s key ≡ Some x → x ≡ empty_state → ⊥
not_nothing s key x form some is =
    let seen : is_empty x.context ≡ false = (form.held key x some).seen in
    let nothing : is_empty empty_state.context ≡ true = ap (λ n. n == 0) (Rattle.std.specs.FinSet.len-empty Rattle.mvd_dots.specs.Dot.dot_cmp) in
    true≢false (sym nothing ∙ ap (λ (x : State). is_empty x.context) (sym is) ∙ seen)

pub same_get : (s t : States) (key : Key) → AreHeld s → AreHeld t → state_at s key ≡ state_at t key → get s key ≡ get t key
same_get s t key p q same = elim (none_or_some (get s key)) [
  | inl none ↦ elim (none_or_some (get t key)) [
    | inl none' ↦ none ∙ sym none'
    | inr some ↦ absurd (not_nothing t key some.0 q some.1 (sym (ap (λ o. unwrap_or o empty_state) some.1) ∙ sym same ∙ ap (λ o. unwrap_or o empty_state) none))
  ]
  | inr some ↦ elim (none_or_some (get t key)) [
    | inl none ↦ absurd (not_nothing s key some.0 p some.1 (sym (ap (λ o. unwrap_or o empty_state) some.1) ∙ same ∙ ap (λ o. unwrap_or o empty_state) none))
    | inr other ↦ some.1 ∙ ap Some (sym (ap (λ o. unwrap_or o empty_state) some.1) ∙ same ∙ ap (λ o. unwrap_or o empty_state) other.1) ∙ sym other.1
  ]
]

-- between two moments at which it is held alike
between : (first held last : States) (key : Key) → AreHeld first → AreHeld held → AreHeld last → Grows first held → Grows held last → get first key ≡ get last key → get held key ≡ get first key
between first held last key p q r up on same =
    let alike : state_at last key ≡ state_at first key = ap (λ o. unwrap_or o empty_state) (sym same) in
    let back : Includes (state_at first key) (state_at held key) = subst (λ x. Includes x (state_at held key)) alike (on key) in
    same_get held first key q p (included_both (state_at held key) (state_at first key) (valid_at held q key) (valid_at first p key) back (up key))

-- ---- moments

record Between (first last held : States) : Type 0 where
  pub form : AreHeld held
  pub since : Grows first held
  pub until : Grows held last

pub either : (held first : States) (later : List States) → Contains (first ∷ later) held → (first ≡ held) ⊎ Contains later held
either held first later c = elim (Contains-append_cases (first ∷ []) later held c) [
  | inl one ↦ elim (Contains-push_cases [] first held one) [ inl none ↦ absurd (omega arith) | inr is ↦ inl is ]
  | inr rest ↦ inr rest
]

each_between : {Q A : Type 0} (Right : States → Q → A → Type 0) (qs : List Q) (answers : List A) (old new : States) (moments : List States) → AreHeld old → AreHeld new → TellsEach Right qs answers old moments new → (held : States) → Contains moments held → Between old new held
each_between Right [] [] old new [] p q tells held c = absurd (omega arith)
each_between Right [] [] old new (m ∷ later) p q tells held c = absurd tells
each_between Right [] (a ∷ answers) old new moments p q tells held c = absurd tells
each_between Right (x ∷ qs) [] old new moments p q tells held c = absurd tells
each_between Right (x ∷ qs) (a ∷ answers) old new [] p q tells held c = absurd tells
each_between Right (x ∷ qs) (a ∷ answers) old new (m ∷ later) p q tells held c = elim (either held m later c) [
  | inl is ↦ subst (Between old new) is (record { form = tells.0; since = tells.1; until = each_grows Right qs answers m new later tells.0 q tells.3 })
  | inr rest ↦
      let there = each_between Right qs answers m new later tells.0 q tells.3 held rest in
      record { form = there.form; since = grown_on old m held p tells.0 there.form tells.1 there.since; until = there.until }
]

nothing_between : (old new : States) (moments : List States) → TellsNothing old moments new → (held : States) → Contains moments held → Between old new held
nothing_between old new moments tells held c = absurd (none held (subst (λ ms. Contains ms held) tells.0 c))
  where
    none : (m : States) → Contains [] m → ⊥
    none m c = omega arith

tells_between : (most : ℕ) (w : Wanted) (t : Option Told) (old new : States) (moments : List States) → AreHeld old → AreHeld new → LiveTells most w t old moments new → (held : States) → Contains moments held → Between old new held
tells_between most w None old new moments p q tells = nothing_between old new moments tells
tells_between most w (Some (told.Nodes given)) old new moments p q tells = each_between TellsNode w.nodes given.items old new moments p q tells
tells_between most w (Some (told.Pages given)) old new moments p q tells = each_between PageTold w.pages given.items old new moments p q tells
tells_between most w (Some (told.States given)) old new moments p q tells = each_between StateTold w.gets given.items old new moments p q tells
tells_between most w (Some (told.Pushes given)) old new moments p q tells = each_between (TellsPush most) w.pushes given.items old new moments p q tells
tells_between most w (Some (told.Refused refusal)) old new moments p q tells = nothing_between old new moments tells

locals_between : (most : Two ℕ ℕ) (legs : List Leg) (old new : Standing) → AreHeld old.local → AreHeld old.peer → RunsLegs most old legs new → (held : States) → Contains (all_locals legs) held → Between old.local new.local held
locals_between most [] old new p q run held c = absurd (omega arith)
locals_between most (leg ∷ legs) old new p q run held c =
    let g = run.0 in
    let rest = (runs_grow most legs leg.after new g.held.0 g.held.1 run.1).0 in
    elim (Contains-append_cases leg.locals (all_locals legs) held c) [
      | inl here ↦
          let at = tells_between most.local leg.asks.local leg.mine old.local leg.after.local leg.locals p g.held.0 g.local held here in
          record { form = at.form; since = at.since; until = grown_on held leg.after.local new.local at.form g.held.0 rest.0 at.until rest.1 }
      | inr later ↦
          let at = locals_between most legs leg.after new g.held.0 g.held.1 run.1 held later in
          let up = tells_grow most.local leg.asks.local leg.mine old.local leg.after.local leg.locals p g.held.0 g.local in
          record { form = at.form; since = grown_on old.local leg.after.local held p g.held.0 at.form up at.since; until = at.until }
    ]

peers_between : (most : Two ℕ ℕ) (legs : List Leg) (old new : Standing) → AreHeld old.local → AreHeld old.peer → RunsLegs most old legs new → (held : States) → Contains (all_peers legs) held → Between old.peer new.peer held
peers_between most [] old new p q run held c = absurd (omega arith)
peers_between most (leg ∷ legs) old new p q run held c =
    let g = run.0 in
    let rest = (runs_grow most legs leg.after new g.held.0 g.held.1 run.1).1 in
    elim (Contains-append_cases leg.peers (all_peers legs) held c) [
      | inl here ↦
          let at = tells_between most.peer leg.asks.peer leg.theirs old.peer leg.after.peer leg.peers q g.held.1 g.peer held here in
          record { form = at.form; since = at.since; until = grown_on held leg.after.peer new.peer at.form g.held.1 rest.0 at.until rest.1 }
      | inr later ↦
          let at = peers_between most legs leg.after new g.held.0 g.held.1 run.1 held later in
          let up = tells_grow most.peer leg.asks.peer leg.theirs old.peer leg.after.peer leg.peers q g.held.1 g.peer in
          record { form = at.form; since = grown_on old.peer leg.after.peer held q g.held.1 at.form up at.since; until = at.until }
    ]

-- ALL KEYS THAT DIFFERED AT TWO MOMENTS differed at first, or were written to
pub written_differ : (most : Two ℕ ℕ) (legs : List Leg) (old new : Standing) → AreHeld old.local → AreHeld old.peer → RunsLegs most old legs new → (keys : List Key) → HasAllThatDiffer old.local old.peer keys → HasAllThatDiffer old.local new.local keys → HasAllThatDiffer old.peer new.peer keys
    → HasAllThatDiffered (all_locals legs) (all_peers legs) keys
written_differ most legs old new p q run keys differ written written' a b here there key apart =
    let all = runs_grow most legs old new p q run in
    let s = locals_between most legs old new p q run a here in
    let t = peers_between most legs old new p q run b there in
    elim (is_member keys key) as (λ x. is_member keys key ≡ x → x ≡ true) [
      | true ↦ λ _. refl
      | false ↦ λ no. absurd (true≢false (sym (differ key (λ at_first.
          true≢false (sym (written key (λ kept.
          true≢false (sym (written' key (λ kept'.
          apart (between old.local a new.local key p s.form all.0.0 s.since s.until kept ∙ at_first ∙ sym (between old.peer b new.peer key q t.form all.1.0 t.since t.until kept')))) ∙ no))) ∙ no))) ∙ no))
    ] refl
