-- What a side counted is what the steps of its session asked.
use Rattle.std.proofs.Common.{◌≡◌, ℕ, ◌+◌, ◌-◌, ◌^◌, ◌≤◌, List, [], ◌∷◌, length, ap, arith, length-append, Some, None, Option}
use Rattle.std.proofs.lemmas.List.{length-map}
use Rattle.std.specs.Prelude.{Ok, Err, Result, min}
use Rattle.mvd_dots.specs.declared.refusals.Refusal.{Refusal}
use Rattle.mvd_wire.specs.declared.request.Request.{Request}
use Rattle.mvd_wire.specs.declared.request.Request.TheVariants.{Bucket, Get, Node, Push}
use Rattle.mvd_wire.specs.Requests.{request_frame}
use Rattle.mvd_remote.specs.LinkWindows.{Frames, and_frame, frames_after}
use Rattle.mvd_meet.specs.Callers.{CallerTells, asked_in_window, asked_of_caller, questions_at}
use Rattle.mvd_remote.specs.Remotes.{requests_of}
use Rattle.mvd_meet.specs.Meetings.{AsksIf, AsksNearIf}
use Rattle.mvd_meet.specs.Nears.{NearTells, asked_near, asked_of_near}
use Rattle.mvd_meet.specs.declared.asked.Asked.{Asked}
use Rattle.mvd_meet.specs.declared.asked.Due.{Due}
use Rattle.mvd_meet.specs.declared.near.Near.{Near}
use Rattle.mvd_meet.specs.declared.caller.Caller.{Caller}
use Rattle.mvd_peer.specs.Asking.{asked, count_in}
use Rattle.mvd_sync.specs.declared.asked.Step.{Step}
use Rattle.mvd_peer.specs.declared.window.Window.{Window}
use Rattle.mvd_peer.specs.declared.window.Window.TheVariants as wanted
use Rattle.mvd_peer.specs.declared.window.Told.{Told}
use Rattle.mvd_peer.specs.Sides.{Two}
use Rattle.mvd_live.specs.Few.{CountsSent, questions_in, sent_local, sent_peer}
use Rattle.mvd_live.specs.Mail.{KeepsCounts, Mail, MailSteps, Sits, Waiting, mail_at}
use Rattle.mvd_live.proofs.Mailed.{begins_of, hears_both}
use Rattle.mvd_meet.specs.declared.stepping.Meeting.{Meeting}

-- ---- as many turns as questions

one_longer : (before : Frames) (frame : Result (List ℕ) Refusal) → length (and_frame before frame).1 ≡ length before.1 + 1
one_longer (frames, nones) (Ok frame) = length-append nones (None ∷ [])
one_longer (frames, nones) (Err refusal) = length-append nones (Some refusal ∷ [])

many_after : (before : Frames) (rs : List Request) → length (frames_after before rs).1 ≡ length before.1 + length rs
many_after before [] = omega arith
many_after before (r ∷ rs) = let e = many_after (and_frame before (request_frame r)) rs in let o = one_longer before (request_frame r) in omega arith

as_many : (window : Window) → length (requests_of window) ≡ questions_in (asked (Some window))
as_many (wanted.Nodes paths) = let n = length-map paths.items (λ path. Node path) in omega (arith, n)
as_many (wanted.Pages pages) = let n = length-map pages.items (λ q. Bucket q.0 q.1) in omega (arith, n)
as_many (wanted.Gets keys) = let n = length-map keys.items (λ key. Get key) in omega (arith, n)
as_many (wanted.Pushes pairs) = let n = length-map pairs.items (λ pair. Push pair.0 pair.1) in omega (arith, n)

at_most : (n m : ℕ) → min n m ≤ n
at_most n m = omega arith

asks_counted : (window : Option Window) (old new : Caller) → AsksIf window old new → questions_at new ≤ questions_at old + questions_in (asked window)
asks_counted None old new is = let same : questions_at new ≡ questions_at old = ap (λ (c : Caller). questions_at c) is in omega (arith, same)
asks_counted (Some window) old new sends =
    let turns = many_after ([], []) (requests_of window) in
    let n = as_many window in
    let count = sends.questions in
    let most = at_most (old.questions + length (asked_in_window window).frames.1) (2 ^ 64 - 1) in
    omega (arith, turns, n, count, most)

as_counted : (window : Window) → count_in window ≡ questions_in (asked (Some window))
as_counted (wanted.Nodes paths) = omega arith
as_counted (wanted.Pages pages) = omega arith
as_counted (wanted.Gets keys) = omega arith
as_counted (wanted.Pushes pairs) = omega arith

near_counted : (window : Option Window) (old new : Near) → AsksNearIf window old new → asked_near new ≤ asked_near old + questions_in (asked window)
near_counted None old new is = let same : asked_near new ≡ asked_near old = ap (λ (n : Near). asked_near n) is in omega (arith, same)
near_counted (Some window) old new asks =
    let n = as_counted window in
    let count = asks.questions in
    let most = at_most (asked_near old + count_in window) (2 ^ 64 - 1) in
    omega (arith, n, count, most)

pub near_tells_counted : (due : Option Due) (old new : Near) (t : Option Told) → NearTells due old new t → asked_near new ≡ asked_near old
near_tells_counted None old new t h = ap (λ (n : Near). asked_near n) h.1
near_tells_counted (Some due) old new None h = absurd h
near_tells_counted (Some due) old new (Some t) h = ap (λ (n : Near). asked_near n) h.same

pub tells_counted : (asked : Option Asked) (old new : Caller) (t : Option Told) → CallerTells asked old new t → questions_at new ≡ questions_at old
tells_counted None old new t h = ap (λ (c : Caller). questions_at c) h.1
tells_counted (Some asked) old new None h = absurd h
tells_counted (Some asked) old new (Some t) h = h.questions

-- ---- step after step

module _ (most : Two ℕ ℕ) where
  step_counted : (old new : Waiting) (mail : Mail) → Rattle.mvd_live.specs.Mail.MailStep most old mail new
      → (asked_near mail.near' ≤ asked_near mail.near + questions_in (asked new.step.local)) × (questions_at mail.far' ≤ questions_at mail.far + questions_in (asked new.step.peer))
  step_counted old new mail g =
      let s = g.steps in
      let h = hears_both most old.meeting.began old.meeting s.mid mail.near mail.far s.near_mid s.far_mid (Ok tt) g.began s.hears.0 in
      let n = near_tells_counted (asked_of_near mail.near) mail.near s.near_mid h.mine h.local in
      let f = tells_counted (asked_of_caller mail.far) mail.far s.far_mid h.theirs h.peer in
      let a = near_counted s.asks.step.local s.near_mid mail.near' s.asks.asks.local in
      let b = asks_counted s.asks.step.peer s.far_mid mail.far' s.asks.asks.peer in
      let p : questions_in (asked s.asks.step.local) ≡ questions_in (asked new.step.local) = ap (λ (x : Step). questions_in (asked x.local)) g.asks in
      let q : questions_in (asked s.asks.step.peer) ≡ questions_in (asked new.step.peer) = ap (λ (x : Step). questions_in (asked x.peer)) g.asks in
      (omega (arith, n, a, p), omega (arith, f, b, q))

  all_counted : (before : Mail) (old : Waiting) (near far : ℕ) (legs : List (Mail × Waiting)) → asked_near before.near' ≤ near + questions_in (asked old.step.local) → questions_at before.far' ≤ far + questions_in (asked old.step.peer) → MailSteps most old legs → KeepsCounts before legs
      → (asked_near (mail_at before legs).near' ≤ near + sent_local old legs) × (questions_at (mail_at before legs).far' ≤ far + sent_peer old legs)
  all_counted before old near far [] n f meets keeps = (omega (arith, n), omega (arith, f))
  all_counted before old near far (leg ∷ legs) n f meets keeps =
      let one = step_counted old leg.1 leg.0 meets.0 in
      let here = one.0 in
      let there = one.1 in
      let same = keeps.0.0 in
      let same' = keeps.0.1 in
      let rest = all_counted leg.0 leg.1 (near + questions_in (asked old.step.local)) (far + questions_in (asked old.step.peer)) legs (omega (arith, n, here, same)) (omega (arith, f, there, same')) meets.1 keeps.1 in
      let p = rest.0 in
      let q = rest.1 in
      (omega (arith, p), omega (arith, q))

  -- WHAT BOTH SIDES COUNTED
  pub counts_sent : (number : Option ℕ) (questions : ℕ) (begun : Meeting) (first : Mail) (now : Waiting) (legs : List (Mail × Waiting)) → Sits number questions begun first now → MailSteps most now legs → KeepsCounts first legs → CountsSent first now legs
  counts_sent number questions begun first now legs sits meets keeps =
      let s = sits.steps in
      let b = begins_of most begun.began begun s.mid first.near first.far s.near_mid s.far_mid (Ok tt) sits.fresh s.hears.0 in
      let n : asked_near s.near_mid ≡ asked_near first.near = ap (λ (c : Near). asked_near c) b.same_near in
      let f : questions_at s.far_mid ≡ questions_at first.far = ap (λ (c : Caller). questions_at c) b.same_far in
      let a = near_counted s.asks.step.local s.near_mid first.near' s.asks.asks.local in
      let c = asks_counted s.asks.step.peer s.far_mid first.far' s.asks.asks.peer in
      let p : questions_in (asked s.asks.step.local) ≡ questions_in (asked now.step.local) = ap (λ (x : Step). questions_in (asked x.local)) sits.asks in
      let q : questions_in (asked s.asks.step.peer) ≡ questions_in (asked now.step.peer) = ap (λ (x : Step). questions_in (asked x.peer)) sits.asks in
      let all = all_counted first now (asked_near first.near) (questions_at first.far) legs (omega (arith, n, a, p)) (omega (arith, f, c, q)) meets keeps in
      record { near = all.0; far = all.1 }
