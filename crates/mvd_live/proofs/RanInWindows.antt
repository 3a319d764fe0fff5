-- A session in windows that left no key ran to its end.
use Rattle.std.proofs.Common.{◌≡◌, inl, inr, ℕ, ◌+◌, true, false, MatchBool, List, [], ◌∷◌, length, map, Some, None, refl, sym, ap, ◌∙◌, subst, subst₂, true≢false, arith, length-append}
use Rattle.std.specs.List.{slice_get}
use Rattle.std.proofs.lemmas.List.{nil_from_length}
use Rattle.mvd_tree.specs.Hashed.{HashesTellApart}
use Rattle.mvd_site.specs.Answer.{spelled, states_of}
use Rattle.mvd_peer.specs.PushedStates.{Each}
use Rattle.mvd_sync.specs.Machines.{HasNext, Machining}
use Rattle.mvd_sync.specs.Session.{IsIn}
use Rattle.mvd_sync.proofs.Keys.{Each-weaker}
use Rattle.mvd_sync.specs.declared.report.Left.{Left}
use Rattle.mvd_sync.specs.declared.report.Report.{Report}
use Rattle.mvd_sync.specs.declared.report.SyncFault.{SyncFault}
use Rattle.mvd_live.specs.Lives.{TellApart as MomentsTellApart}
use Rattle.mvd_live.specs.Runs.{StartsRun, all_locals, all_peers}
use Rattle.mvd_live.proofs.Whole.{lives}
use Rattle.mvd_world.specs.declared.acts.Act.TheVariants.{Begin}
use Rattle.mvd_world.specs.declared.acts.Came.TheVariants as coming
use Rattle.mvd_world.specs.declared.open_world.OpenSession.{OpenSession}
use Rattle.mvd_world.specs.declared.steps.Step.TheVariants.{Session}
use Rattle.mvd_world.proofs.Asking.{get_last}
use Rattle.mvd_world.specs.Machine.{Knowledge, Setting, is_site, may_be}
use Rattle.mvd_world.specs.OpenWorlds.{BeginsOpen, MayAct, MayBegin, MayGo, Scene, TellsWork, goes_at, had_ended, has_failed, has_gone, has_stopped, is_done}
use Rattle.mvd_live.specs.InWindows.{EndsOver, LedTo, RanInWindows, TellApartAt}
use Rattle.mvd_live.proofs.Between.{WasHeldAt, at_among, each_holds, led_none}
use Rattle.mvd_live.proofs.Going.{IsAt, RanBy, acts_gone, is_none, led_acts, machine_is, session_is}
use Rattle.mvd_live.proofs.InWindows.{most_at, standing_at}

no_went : (report : Report) → coming.Met report ≡ coming.Went → ⊥
no_went report e = cc

no_fault : (report : Report) (fault : SyncFault) → coming.Met report ≡ coming.Failed fault → ⊥
no_fault report fault e = cc

no_such : (report : Report) → coming.Met report ≡ coming.NoSuch → ⊥
no_such report e = cc

not_begun : (number : ℕ) → coming.Began number ≡ coming.NoSuch → ⊥
not_begun number e = cc

same_report : (a b : Report) → coming.Met a ≡ coming.Met b → a ≡ b
same_report a b e = cc

-- how it began
begun : (setting : Setting) (before : Scene) (local peer number : ℕ) (after : Scene) → MayAct setting before (Begin local peer) (coming.Began number) after → BeginsOpen before local peer number after
begun setting before local peer number after =
    elim (may_be (is_site setting) (length before.knowledge.messages) (Session local peer)) as (λ b. MatchBool b (MayBegin before local peer (coming.Began number) after) ((coming.Began number ≡ coming.NoSuch) × (after ≡ before)) → BeginsOpen before local peer number after) [
      | true ↦ λ h. h
      | false ↦ λ h. absurd (not_begun number h.0)
    ]

-- how it ended
record IsDone (index : ℕ) (ended after : Scene) (report : Report) : Type 0 where
  session : OpenSession
  machine : Machining
  asking : Machining
  at : slice_get ended.sessions index ≡ Some session
  opened : session.machine ≡ Some machine
  next : HasNext machine asking None
  tells : TellsWork asking.work report
  same : after.knowledge ≡ ended.knowledge

done : (setting : Setting) (index number : ℕ) (ended after : Scene) (report : Report) → number ≡ index + 1 → MayGo setting ended number (coming.Met report) after → IsDone index ended after report
done setting index number ended after report ours (had_ended has is same) = absurd (no_such report is)
done setting index number ended after report ours (goes_at j session machine left at there opened (has_gone asking next step has window is stays) others) = absurd (no_went report is)
done setting index number ended after report ours (goes_at j session machine left at there opened (has_failed asking next step fault has window is stays) others) = absurd (no_fault report fault is)
done setting index number ended after report ours (goes_at j session machine left at there opened (has_stopped fault why same is stays) others) = absurd (no_fault report fault is)
done setting index number ended after report ours (goes_at j session machine left at there opened (is_done asking told has tells same is stays) others) =
    let same_index : index ≡ j = omega (arith, ours, at) in
    record {
      session = session;
      machine = machine;
      asking = asking;
      at = ap (slice_get ended.sessions) same_index ∙ there;
      opened = opened;
      next = has;
      tells = subst (TellsWork asking.work) (sym (same_report report told is)) tells;
      same = same;
    }

-- SHA-256 tells apart at all but the first moment, too
rest_apart : (local peer : ℕ) (k : Knowledge) (moments : List Knowledge) → TellApartAt local peer (k ∷ moments) → TellApartAt local peer moments
rest_apart local peer k moments apart =
    Each-weaker (λ (a : Knowledge). Each (λ (b : Knowledge). HashesTellApart spelled (states_of (a.known local)) (states_of (b.known peer))) (k ∷ moments))
    (λ (a : Knowledge). Each (λ (b : Knowledge). HashesTellApart spelled (states_of (a.known local)) (states_of (b.known peer))) moments)
    (λ a each. each.1) moments apart.1

module _ (setting : Setting) (before after : Scene) (local peer : ℕ) (report : Report) (ran : RanInWindows setting before after local peer report) (whole : report.refused ≡ 0) where
  abbrev first_at : Knowledge
  first_at = ran.begun.knowledge

  abbrev last_at : Knowledge
  last_at = ran.ended.knowledge

  first : BeginsOpen before local peer ran.number ran.begun
  first = begun setting before local peer ran.number ran.begun ran.begins

  abbrev place : ℕ
  place = length before.sessions

  numbered : ran.number ≡ place + 1
  numbered = first.numbered ∙ ap length first.sessions ∙ length-append before.sessions (record { local = local; peer = peer; machine = Some first.machine } ∷ [])

  here : IsAt local peer place ran.begun (Some first.machine)
  here = ap (λ l. slice_get l (length before.sessions)) first.sessions ∙ get_last before.sessions (record { local = local; peer = peer; machine = Some first.machine })

  last : IsDone place ran.ended after report
  last = done setting place ran.number ran.ended after report numbered ran.ends

  now : LedTo setting first_at first_at
  now = led_none setting first_at first_at refl

  led : LedTo setting first_at last_at
  led = led_acts setting ran.begun ran.acts ran.cames ran.ended ran.runs

  not_here : IsAt local peer place ran.ended None → ⊥
  not_here none =
      let is : last.session ≡ record { local = local; peer = peer; machine = None } = session_is _ _ (sym last.at ∙ none) in
      is_none last.machine (sym last.opened ∙ ap (λ (s : OpenSession). s.machine) is)

  -- the moments of its run
  moments_apart : (final : Machining) (run : RanBy setting local peer place first_at last_at first.machine final) → TellApartAt local peer run.moments → MomentsTellApart (all_locals run.legs) (all_peers run.legs)
  moments_apart final run apart a b in_locals in_peers =
      let p = each_holds (WasHeldAt local run.moments) (all_locals run.legs) a run.locals in_locals in
      let q = each_holds (WasHeldAt peer run.moments) (all_peers run.legs) b run.peers in_peers in
      subst₂ (λ x y. HashesTellApart spelled x y) (sym p.2) (sym q.2)
      (at_among (λ (y : Knowledge). HashesTellApart spelled (states_of (p.0.known local)) (states_of (y.known peer))) run.moments q.0
      (at_among (λ (x : Knowledge). Each (λ (y : Knowledge). HashesTellApart spelled (states_of (x.known local)) (states_of (y.known peer))) run.moments) run.moments p.0 apart p.1) q.1)

  -- of its run
  of_run : (final : Machining) → IsAt local peer place ran.ended (Some final) → RanBy setting local peer place first_at last_at first.machine final → EndsOver setting first_at last_at local peer
  of_run final at run =
      let is : last.session ≡ record { local = local; peer = peer; machine = Some final } = session_is _ _ (sym last.at ∙ at) in
      let same_machine : last.machine ≡ final = machine_is last.machine final (sym last.opened ∙ ap (λ (s : OpenSession). s.machine) is) in
      let next : HasNext final last.asking None = subst (λ m. HasNext m last.asking None) same_machine last.next in
      record {
        moments = first_at ∷ run.moments;
        between = ((now, led), run.between);
        ran = λ form apart key.
            let begins : StartsRun (Some local) 10000000 (standing_at local peer first_at first.machine) = record { starts = first.starts; local = form.0.0; peer = form.0.1 } in
            let l = lives (Some local) 10000000 (most_at setting local peer) (standing_at local peer first_at first.machine) run.legs (standing_at local peer last_at final) begins (run.runs form.1) last.asking next in
            let none : l.left ≡ [] = nil_from_length l.left (sym l.counted.0 ∙ sym last.tells.refused ∙ whole) in
            elim (l.both (moments_apart final run (rest_apart local peer first_at run.moments apart)) key) [
              | inl left ↦ absurd (true≢false (sym (subst (λ ls. IsIn (map (λ (x : Left). x.key) ls) key) none left)))
              | inr both ↦ both
            ];
      }

  pub session_ends : EndsOver setting before.knowledge after.knowledge local peer
  session_ends = subst₂ (λ a b. EndsOver setting a b local peer) first.knowledge (sym last.same)
      (elim (acts_gone setting local peer place first_at ran.begun ran.acts ran.cames ran.ended first.machine now here ran.runs) [
        | inl none ↦ absurd (not_here none)
        | inr done_by ↦ of_run done_by.0 done_by.1 done_by.2
      ])
