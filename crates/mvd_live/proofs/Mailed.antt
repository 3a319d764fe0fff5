-- A session by mail is a run of its machine.
use Rattle.std.proofs.Common.{◌≡◌, ℕ, ◌+◌, ◌*◌, ◌/◌, ◌≤◌, Bool, true, false, List, [], ◌∷◌, ◌++◌, length, refl, sym, ap, subst, ◌∙◌, arith, Some, None, Option, append-nil, append_assoc}
use Rattle.std.specs.Prelude.{Ok, Result}
use Rattle.std.specs.FinMap.{len}
use Rattle.mvd_keys.specs.Writes.{Key}
use Rattle.mvd_site.specs.Held.{AreHeld, States}
use Rattle.mvd_peer.specs.Sides.{Two, two}
use Rattle.mvd_sync.specs.Machines.{HasNext, Machining, wanted_count}
use Rattle.mvd_peer.specs.Asking.{asked}
use Rattle.mvd_sync.specs.declared.report.Side.TheVariants.{Local as AtLocal, Peer as AtPeer}
use Rattle.mvd_sync.specs.declared.report.SyncFault.{SyncFault}
use Rattle.mvd_peer.specs.declared.window.Told.{Told}
use Rattle.mvd_meet.specs.Meetings.{TakesBoth, HearsIf, MeetingBegins}
use Rattle.mvd_meet.specs.declared.caller.Caller.{Caller}
use Rattle.mvd_meet.specs.declared.near.Near.{Near}
use Rattle.mvd_meet.specs.declared.stepping.Meeting.{Meeting}
use Rattle.mvd_live.specs.Few.{HasAllThatDiffered, MailsFew, asked_local, asked_peer, questions_in, sent_local, sent_peer}
use Rattle.mvd_live.specs.Lives.{IsGiven, Lives}
use Rattle.mvd_live.specs.Mail.{AreLive, MailEnds, Mail, MailSteps, Sits, Waiting, mail_locals, mail_peers, standing, waits_at}
use Rattle.mvd_live.specs.Runs.{StartsRun, TakesLeg, IsLater, Leg, RunsLegs, Standing, all_locals, all_peers, both_asked}
use Rattle.mvd_live.proofs.Answered.{both_answered}
use Rattle.mvd_live.proofs.FewWhole.{asks_few, step_few}
use Rattle.mvd_live.proofs.Runner.{asks_named}
use Rattle.mvd_live.proofs.Whole.{given, grows_self, lives}

-- what is asked of what is wanted is no more
fewer : (first now wanted most : ℕ) → now ≤ wanted → first + wanted ≤ most → first + now ≤ most
fewer first now wanted most within few = omega (arith, within, few)

-- as a run has it before it asks
abbrev at_machine : Machining → Waiting → Standing
at_machine machine now = record { machine = machine; local = now.local; peer = now.peer }

module _ (most : Two ℕ ℕ) where
  -- what was told by mail, as one window of a run
  abbrev leg_of : Waiting → Meeting → Mail → (mine theirs : Option Told) → (local peer : States) → Leg
  leg_of old mid mail mine theirs local peer = record {
    asking = old.meeting.machine;
    asks = both_asked old.step;
    mine = mine;
    theirs = theirs;
    locals = mail.locals;
    peers = mail.peers;
    after = record { machine = mid.machine; local = local; peer = peer };
  }

  leg_goes : (machine : Machining) (old : Waiting) (mid : Meeting) (mail : Mail) (near : Near) (far : Caller) (local peer : States) (h : TakesBoth old.meeting mail.near mail.far mid near far (Ok tt)) → HasNext machine old.meeting.machine (Some old.step) → AreLive most old mail local peer
      → TakesLeg most (at_machine machine old) (leg_of old mid mail h.mine h.theirs local peer)
  leg_goes machine old mid mail near far local peer h next live = let came = both_answered old.meeting.machine mid.machine h.mine h.theirs next.asks.1 h.takes in record {
    next = asks_named machine old.meeting.machine old.step next;
    local = live.near near h.mine h.local came.0;
    peer = live.far far h.theirs h.peer came.1;
    held = live.held;
    takes = h.takes;
  }

  pub hears_both : (began : Bool) (old mid : Meeting) (near : Near) (far : Caller) (near' : Near) (far' : Caller) (result : Result (Unit {0}) SyncFault) → began ≡ true → HearsIf began old near far mid near' far' result → TakesBoth old near far mid near' far' result
  hears_both began old mid near far near' far' result is h = subst (λ b. HearsIf b old near far mid near' far' result) is h

  pub begins_of : (began : Bool) (old mid : Meeting) (near : Near) (far : Caller) (near' : Near) (far' : Caller) (result : Result (Unit {0}) SyncFault) → began ≡ false → HearsIf began old near far mid near' far' result → MeetingBegins old near far mid near' far' result
  begins_of began old mid near far near' far' result is h = subst (λ b. HearsIf b old near far mid near' far' result) is h

  -- the windows of the steps of a session by mail, with which any further ones are a run
  record IsRun (machine : Machining) (old : Waiting) (legs : List (Mail × Waiting)) : Type 0 where
    pub run : List Leg
    pub end : Machining
    pub next : HasNext end (waits_at old legs).meeting.machine (Some (waits_at old legs).step)
    pub on : (tail : List Leg) (final : Standing) → RunsLegs most (at_machine end (waits_at old legs)) tail final → RunsLegs most (at_machine machine old) (run ++ tail) final
    pub locals : (tail : List Leg) → all_locals (run ++ tail) ≡ mail_locals legs ++ all_locals tail
    pub peers : (tail : List Leg) → all_peers (run ++ tail) ≡ mail_peers legs ++ all_peers tail
    pub sent : sent_local old legs ≡ asked_local run + questions_in (asked (waits_at old legs).step.local)
    pub sent' : sent_peer old legs ≡ asked_peer run + questions_in (asked (waits_at old legs).step.peer)

  run_of : (machine : Machining) (old : Waiting) (legs : List (Mail × Waiting)) → HasNext machine old.meeting.machine (Some old.step) → MailSteps most old legs → IsRun machine old legs
  run_of machine old [] next meets = record {
    run = [];
    end = machine;
    next = next;
    on = λ tail final run. run;
    locals = λ tail. refl;
    peers = λ tail. refl;
    sent = omega arith;
    sent' = omega arith;
  }
  run_of machine old (leg ∷ legs) next meets =
      let g = meets.0 in
      let s = g.steps in
      let h = hears_both old.meeting.began old.meeting s.mid leg.0.near leg.0.far s.near_mid s.far_mid (Ok tt) g.began s.hears.0 in
      let rest = run_of s.mid.machine leg.1 legs (subst (λ step. HasNext s.mid.machine leg.1.meeting.machine (Some step)) g.asks s.asks.next) meets.1 in
      record {
        run = leg_of old s.mid leg.0 h.mine h.theirs leg.1.local leg.1.peer ∷ rest.run;
        end = rest.end;
        next = rest.next;
        on = λ tail final run. (leg_goes machine old s.mid leg.0 s.near_mid s.far_mid leg.1.local leg.1.peer h next g.live, rest.on tail final run);
        locals = λ tail. ap (λ ms. leg.0.locals ++ ms) (rest.locals tail) ∙ sym (append_assoc leg.0.locals (mail_locals legs) (all_locals tail));
        peers = λ tail. ap (λ ms. leg.0.peers ++ ms) (rest.peers tail) ∙ sym (append_assoc leg.0.peers (mail_peers legs) (all_peers tail));
        sent = let s = rest.sent in omega (arith, s);
        sent' = let s = rest.sent' in omega (arith, s);
      }

  -- its sides stay in form
  held_at : (old : Waiting) (legs : List (Mail × Waiting)) → AreHeld old.local × AreHeld old.peer → MailSteps most old legs → AreHeld (waits_at old legs).local × AreHeld (waits_at old legs).peer
  held_at old [] held meets = held
  held_at old (leg ∷ legs) held meets = held_at leg.1 legs meets.0.live.held meets.1

  module _ (number : Option ℕ) (questions : ℕ) (begun : Meeting) (first : Mail) (now : Waiting) (legs : List (Mail × Waiting)) (sits : Sits number questions begun first now) (meets : MailSteps most now legs) where
    first_next : HasNext begun.machine now.meeting.machine (Some now.step)
    first_next =
        let s = sits.steps in
        let b = begins_of begun.began begun s.mid first.near first.far s.near_mid s.far_mid (Ok tt) sits.fresh s.hears.0 in
        subst (λ m. HasNext m now.meeting.machine (Some now.step)) b.machine (subst (λ step. HasNext s.mid.machine now.meeting.machine (Some step)) sits.asks s.asks.next)

    begins : StartsRun number questions (standing begun now)
    begins = record { starts = sits.starts; local = sits.held.0; peer = sits.held.1 }

    -- FEW WERE ASKED by mail
    pub mail_few : (differed : List Key) → HasAllThatDiffered (mail_locals legs) (mail_peers legs) differed → MailsFew now legs differed
    mail_few differed all =
        let r = run_of begun.machine now legs first_next meets in
        let at = waits_at now legs in
        let held = held_at now legs sits.held meets in
        let later : IsLater (at_machine r.end at) (at_machine r.end at) = record { machine = refl; local = (held.0, grows_self at.local held.0); peer = (held.1, grows_self at.peer held.1) } in
        let run = append-nil r.run in
        let among = subst (λ ms. HasAllThatDiffered ms (all_peers (r.run ++ [])) differed) (sym (r.locals [] ∙ append-nil (mail_locals legs))) (subst (λ ms. HasAllThatDiffered (mail_locals legs) ms differed) (sym (r.peers [] ∙ append-nil (mail_peers legs))) all) in
        let few = asks_few number questions most (standing begun now) (r.run ++ []) (at_machine r.end at) begins (r.on [] (at_machine r.end at) later) differed among at.meeting.machine (Some at.step) r.next in
        let now_local = questions_in (asked at.step.local) in
        let now_peer = questions_in (asked at.step.peer) in
        let p = few.parts in
        let n = r.sent ∙ ap (λ ls. asked_local ls + now_local) (sym run) in
        let m = r.sent' ∙ ap (λ ls. asked_peer ls + now_peer) (sym run) in
        let l = few.little in
        record {
          first = two (few.first.local + now_local) (few.first.peer + now_peer);
          again = few.again;
          parts = (omega (arith, n, p.0), omega (arith, m, p.1));
          local = fewer few.first.local now_local (wanted_count AtLocal at.meeting.machine.stage) (1 + 5 * length differed + len at.local / 1000) (step_few AtLocal r.end at.meeting.machine at.step r.next) few.local;
          peer = fewer few.first.peer now_peer (wanted_count AtPeer at.meeting.machine.stage) (1 + 5 * length differed + len at.peer / 1000) (step_few AtPeer r.end at.meeting.machine at.step r.next) few.peer;
          little = (omega (arith, l.0), omega (arith, l.1));
        }

    -- NOTHING IS MADE UP by mail
    pub mail_given : IsGiven (mail_locals legs) (mail_peers legs) (waits_at now legs).step
    mail_given =
        let r = run_of begun.machine now legs first_next meets in
        let at = waits_at now legs in
        let held = held_at now legs sits.held meets in
        let later : IsLater (at_machine r.end at) (at_machine r.end at) = record { machine = refl; local = (held.0, grows_self at.local held.0); peer = (held.1, grows_self at.peer held.1) } in
        let it = given number questions most (standing begun now) (r.run ++ []) (at_machine r.end at) begins (r.on [] (at_machine r.end at) later) at.meeting.machine at.step r.next in
        subst (λ ms. IsGiven ms (mail_peers legs) at.step) (r.locals [] ∙ append-nil (mail_locals legs)) (subst (λ ms. IsGiven (all_locals (r.run ++ [])) ms at.step) (r.peers [] ∙ append-nil (mail_peers legs)) it)

    -- A SESSION BY MAIL LIVES
    pub mail_lives : (last : Mail) (new : Standing) → MailEnds most (waits_at now legs) last new → Lives most (mail_locals legs ++ last.locals) (mail_peers legs ++ last.peers) (standing begun now) new new.machine.work
    mail_lives last new ends =
        let r = run_of begun.machine now legs first_next meets in
        let at = waits_at now legs in
        let s = ends.steps in
        let h = hears_both at.meeting.began at.meeting s.mid last.near last.far s.near_mid s.far_mid (Ok tt) ends.began s.hears.0 in
        let final : Standing = record { machine = s.mid.machine; local = new.local; peer = new.peer } in
        let held = ends.live.held in
        let later : IsLater final final = record { machine = refl; local = (held.0, grows_self new.local held.0); peer = (held.1, grows_self new.peer held.1) } in
        let leg = leg_of at s.mid last h.mine h.theirs new.local new.peer in
        let run = r.on (leg ∷ []) final (leg_goes r.end at s.mid last s.near_mid s.far_mid new.local new.peer h r.next ends.live, later) in
        let next = subst (λ m. HasNext s.mid.machine m None) (sym ends.machine) s.asks.next in
        let it = lives number questions most (standing begun now) (r.run ++ leg ∷ []) final begins run new.machine next in
        let both = subst (λ ms. Lives most ms (mail_peers legs ++ last.peers) (standing begun now) final new.machine.work) (r.locals (leg ∷ []) ∙ ap (λ ms. mail_locals legs ++ ms) (append-nil last.locals))
        (subst (λ ms. Lives most (all_locals (r.run ++ leg ∷ [])) ms (standing begun now) final new.machine.work) (r.peers (leg ∷ []) ∙ ap (λ ms. mail_peers legs ++ ms) (append-nil last.peers)) it) in
        record { left = both.left; counted = both.counted; causes = both.causes; both = both.both }
