-- A step of a session by mail that ends by a fault asks no more than a step that goes on.
use Rattle.std.proofs.Common.{◌≡◌, ◌⊎◌, inl, inr, true, ℕ, ◌+◌, ◌-◌, ◌^◌, List, [], ◌∷◌, ◌++◌, length, refl, sym, ap, subst, ◌∙◌, arith, Some, None, Option}
use Rattle.std.specs.Prelude.{Ok, Err, Result, min}
use Rattle.mvd_keys.specs.Writes.{Key}
use Rattle.mvd_site.specs.Held.{States}
use Rattle.mvd_peer.specs.Sides.{Two}
use Rattle.mvd_sync.specs.Session.{AreFew}
use Rattle.mvd_peer.specs.Asking.{asked, count_in}
use Rattle.mvd_peer.specs.declared.window.Window.{Window}
use Rattle.mvd_sync.specs.declared.report.SyncFault.{SyncFault}
use Rattle.mvd_meet.specs.Callers.{asked_in_window, asked_of_caller, questions_at}
use Rattle.mvd_meet.specs.Nears.{asked_near, asked_of_near, due_in_window}
use Rattle.mvd_meet.specs.Meetings.{AsksIf, AsksNearIf, AsksPart, MeetingBreaks, MeetingFails, TakesBoth}
use Rattle.mvd_meet.specs.declared.caller.Caller.{Caller}
use Rattle.mvd_meet.specs.declared.near.Near.{Near}
use Rattle.mvd_remote.specs.Remotes.{requests_of}
use Rattle.mvd_meet.specs.declared.stepping.Meeting.{Meeting}
use Rattle.mvd_live.specs.Few.{HasAllThatDiffered, MailsFew, questions_in}
use Rattle.mvd_live.specs.Lives.{IsGiven}
use Rattle.mvd_live.specs.Runs.{in_all}
use Rattle.mvd_live.specs.Mail.{AreLive, AsksNoQuestion, Mail, MailBreaks, MailStep, MailSteps, Sits, Waiting, mail_locals, mail_peers, waits_at}
use Rattle.mvd_live.proofs.Gathered.{one_last}
use Rattle.mvd_live.proofs.Mailed.{hears_both, mail_few, mail_given}
use Rattle.mvd_live.proofs.Sent.{near_tells_counted, tells_counted}

-- ---- one step more

waits_last : (now : Waiting) (legs : List (Mail × Waiting)) (mail : Mail) (new : Waiting) → waits_at now (legs ++ (mail, new) ∷ []) ≡ new
waits_last now [] mail new = refl
waits_last now (leg ∷ legs) mail new = waits_last leg.1 legs mail new

-- so many questions, whatever mail the last of them had
alike : (count : Waiting → ℕ) (legs : List (Mail × Waiting)) (mail other : Mail) (new : Waiting) → in_all (λ (leg : Mail × Waiting). count leg.1) (legs ++ (mail, new) ∷ []) ≡ in_all (λ (leg : Mail × Waiting). count leg.1) (legs ++ (other, new) ∷ [])
alike count [] mail other new = refl
alike count (leg ∷ legs) mail other new = ap (λ n. count leg.1 + n) (alike count legs mail other new)

sent_alike : (first n : ℕ) (count : Waiting → ℕ) (legs : List (Mail × Waiting)) (mail other : Mail) (new : Waiting) → first + in_all (λ (leg : Mail × Waiting). count leg.1) (legs ++ (other, new) ∷ []) ≡ n → first + in_all (λ (leg : Mail × Waiting). count leg.1) (legs ++ (mail, new) ∷ []) ≡ n
sent_alike first n count legs mail other new is = ap (λ k. first + k) (alike count legs mail other new) ∙ is

-- ---- a side that is asked

abbrev asked_caller : Option Window → Caller → Caller
asked_caller None caller = caller
asked_caller (Some window) caller = record caller {
  post = record caller.post { leaving = caller.post.leaving ++ (asked_in_window window).frames.0; asked = Some (asked_in_window window) };
  questions = min (caller.questions + length (asked_in_window window).frames.1) (2 ^ 64 - 1);
}

asks_so : (window : Option Window) (caller : Caller) → AsksIf window caller (asked_caller window caller)
asks_so None caller = refl
asks_so (Some window) caller = record { leaving = refl; came = refl; asked = refl; ended = refl; questions = refl }

abbrev asked_at_hand : Option Window → Near → Near
asked_at_hand None near = near
asked_at_hand (Some window) near = record near {
  leaving = record near.leaving { items = []; len = 0; ok = (refl, omega arith) };
  inbox = record { asked = Some (due_in_window window); came = []; later = requests_of window };
  questions = min (asked_near near + count_in window) (2 ^ 64 - 1);
}

asks_at_hand : (window : Option Window) (near : Near) → AsksNearIf window near (asked_at_hand window near)
asks_at_hand None near = refl
asks_at_hand (Some window) near = record { leaving = refl; came = refl; asked = refl; questions = refl }

-- ---- as if it had gone on

-- the steps so far, and this one
steps_on : (most : Two ℕ ℕ) (now : Waiting) (legs : List (Mail × Waiting)) (mail : Mail) (new : Waiting) → MailSteps most now legs → MailStep most (waits_at now legs) mail new → MailSteps most now (legs ++ (mail, new) ∷ [])
steps_on most now [] mail new steps step = (step, tt)
steps_on most now (leg ∷ legs) mail new steps step = (steps.0, steps_on most leg.1 legs mail new steps.1 step)

-- both sides as if they had been asked all of what is next
abbrev made : Waiting → Near → Caller → Mail → Mail
made new near far mail = record {
  near = mail.near;
  far = mail.far;
  near' = asked_at_hand new.step.local near;
  far' = asked_caller new.step.peer far;
  locals = mail.locals;
  peers = mail.peers;
}

module _ (number : Option ℕ) (questions : ℕ) (most : Two ℕ ℕ) (begun : Meeting) (first last : Mail) (now new : Waiting) (legs : List (Mail × Waiting)) (fault : SyncFault) (sits : Sits number questions begun first now) (steps : MailSteps most now legs)
    (breaks : MailBreaks most (waits_at now legs) last new fault) where
  abbrev as_made : Mail
  as_made = made new breaks.near breaks.far last

  went : MailStep most (waits_at now legs) as_made new
  went = record {
    began = breaks.began;
    steps = record {
      mid = breaks.mid;
      near_mid = breaks.near;
      far_mid = breaks.far;
      hears = breaks.hears;
      asks = record {
        step = new.step;
        next = breaks.next;
        asks = record { local = asks_at_hand new.step.local breaks.near; peer = asks_so new.step.peer breaks.far };
      };
    };
    asks = refl;
    live = record { near = breaks.live.near; far = breaks.live.far; held = breaks.live.held };
  }

  all : MailSteps most now (legs ++ (as_made, new) ∷ [])
  all = steps_on most now legs as_made new steps went

  -- NOTHING OF IT IS MADE UP
  pub breaks_given : IsGiven (mail_locals legs ++ last.locals) (mail_peers legs ++ last.peers) new.step
  breaks_given =
      let it : IsGiven (mail_locals (legs ++ (as_made, new) ∷ [])) (mail_peers (legs ++ (as_made, new) ∷ [])) (waits_at now (legs ++ (as_made, new) ∷ [])).step = mail_given most number questions begun first now (legs ++ (as_made, new) ∷ []) sits all in
      let here = subst (λ (w : Waiting). IsGiven (mail_locals (legs ++ (as_made, new) ∷ [])) (mail_peers (legs ++ (as_made, new) ∷ [])) w.step) (waits_last now legs as_made new) it in
      subst (λ (ms : List States). IsGiven ms (mail_peers legs ++ last.peers) new.step) (one_last (λ (leg : Mail × Waiting). leg.0.locals) legs (as_made, new))
      (subst (λ (ms : List States). IsGiven (mail_locals (legs ++ (as_made, new) ∷ [])) ms new.step) (one_last (λ (leg : Mail × Waiting). leg.0.peers) legs (as_made, new)) here)

  -- FEW WERE ASKED
  pub breaks_few : (differed : List Key) → HasAllThatDiffered (mail_locals legs ++ last.locals) (mail_peers legs ++ last.peers) differed → MailsFew now (legs ++ (last, new) ∷ []) differed
  breaks_few differed among =
      let same = one_last (λ (leg : Mail × Waiting). leg.0.locals) legs (as_made, new) in
      let same' = one_last (λ (leg : Mail × Waiting). leg.0.peers) legs (as_made, new) in
      let here : HasAllThatDiffered (mail_locals (legs ++ (as_made, new) ∷ [])) (mail_peers (legs ++ (as_made, new) ∷ [])) differed = subst (λ (ms : List States). HasAllThatDiffered ms (mail_peers (legs ++ (as_made, new) ∷ [])) differed) (sym same)
      (subst (λ (ms : List States). HasAllThatDiffered (mail_locals legs ++ last.locals) ms differed) (sym same') among) in
      let it : MailsFew now (legs ++ (as_made, new) ∷ []) differed = mail_few most number questions begun first now (legs ++ (as_made, new) ∷ []) sits all differed here in
      let at = waits_last now legs as_made new in
      let back = sym (waits_last now legs last new) in
      record {
        first = it.first;
        again = it.again;
        parts = (
          sent_alike (questions_in (asked now.step.local)) (it.first.local + it.again.local) (λ (w : Waiting). questions_in (asked w.step.local)) legs last as_made new it.parts.0,
          sent_alike (questions_in (asked now.step.peer)) (it.first.peer + it.again.peer) (λ (w : Waiting). questions_in (asked w.step.peer)) legs last as_made new it.parts.1,
        );
        local = subst (λ (w : Waiting). AreFew it.first.local w.local differed) back (subst (λ (w : Waiting). AreFew it.first.local w.local differed) at it.local);
        peer = subst (λ (w : Waiting). AreFew it.first.peer w.peer differed) back (subst (λ (w : Waiting). AreFew it.first.peer w.peer differed) at it.peer);
        little = it.little;
      }

-- ---- what a fault leaves

module _ (most : Two ℕ ℕ) (old : Waiting) (mail : Mail) (meeting : Meeting) (local peer : States) (fault : SyncFault) (live : AreLive most old mail local peer) where
  -- what both sides told of what they were asked is no question
  told_alone : (mid : Meeting) (near : Near) (far : Caller) (result : Result (Unit {0}) SyncFault) → TakesBoth old.meeting mail.near mail.far mid near far result → (asked_near near ≡ asked_near mail.near) × (questions_at far ≡ questions_at mail.far)
  told_alone mid near far result h = (near_tells_counted (asked_of_near mail.near) mail.near near h.mine h.local, tells_counted (asked_of_caller mail.far) mail.far far h.theirs h.peer)

  breaks_so : (breaks : MeetingBreaks old.meeting mail.near mail.far meeting mail.near' mail.far' fault) → old.meeting.began ≡ true → AsksPart breaks.mid breaks.near_mid breaks.far_mid meeting mail.near' mail.far' fault
      → AsksNoQuestion mail ⊎ ((new : Waiting) × MailBreaks most old mail new fault)
  breaks_so breaks began (inl neither) =
      let h = hears_both most old.meeting.began old.meeting breaks.mid mail.near mail.far breaks.near_mid breaks.far_mid (Ok tt) began breaks.hears.0 in
      let told = told_alone breaks.mid breaks.near_mid breaks.far_mid (Ok tt) h in
      inl (ap (λ (n : Near). asked_near n) neither.0 ∙ told.0, ap (λ (c : Caller). questions_at c) neither.1 ∙ told.1)
  breaks_so breaks began (inr (step, next, until)) = inr (
    record { meeting = meeting; step = step; local = local; peer = peer },
    record { began = began; mid = breaks.mid; near = breaks.near_mid; far = breaks.far_mid; hears = breaks.hears; next = next; asks = until; live = live },
  )

  pub fails_so : old.meeting.began ≡ true → MeetingFails old.meeting mail.near mail.far meeting mail.near' mail.far' fault → AsksNoQuestion mail ⊎ ((new : Waiting) × MailBreaks most old mail new fault)
  fails_so began (inl hears) = inl (told_alone meeting mail.near' mail.far' (Err fault) (hears_both most old.meeting.began old.meeting meeting mail.near mail.far mail.near' mail.far' (Err fault) began hears.0))
  fails_so began (inr breaks) = breaks_so breaks began breaks.asks
