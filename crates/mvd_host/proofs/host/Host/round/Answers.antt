use Rattle.std.proofs.Common.{◌≡◌, ◌⊎◌, ◌||◌, Bool, ◌+◌, [], false, length, refl, true≢false, Ok, ◌∙◌, ℕ, List, map, zip, sym, ap, subst, subst₂}
use Rattle.mvd_wire.specs.declared.request.Request.{Request}
use Rattle.mvd_wire.specs.declared.reply.Reply.{Reply}
use Rattle.mvd_host.specs.Queueing.{AreDue, QueuesReplies, refused_all, refused_faults}
use Rattle.mvd_host.proofs.Answering.{Answered, answered_err, answered_none, answered_ok, no_faults, ok_tells, round_kept, round_none, round_of}
use Rattle.mvd_host.proofs.Beginning.{kept_left, neither, rests_at_hand, weighed_held}
use Rattle.mvd_host.proofs.Numbers.{are_apart}
use Rattle.mvd_host.proofs.RoundLemmas.{due, due_front, memory_asks, memory_tells, memory_turns, tells, zip_asks, zip_fits}
use Rattle.mvd_host.specs.AtHand.{AllMayWait, AtHandValue, BeginsWith}
use Rattle.mvd_host.specs.Weights.{AreHeavy}
use Rattle.std.specs.List.{AllByRecursion}
use Rattle.mvd_dots.specs.declared.refusals.Refusal.{Refusal}
use Rattle.mvd_wire.specs.Replies.{CanBeSent}
use Rattle.mvd_replica.proofs.Batching.{fits_all}
use Rattle.mvd_replica.proofs.Commits.{answers_all}
use Rattle.sqlite.specs.Held.{state}
use Rattle.mvd_host.specs.declared.host.Host.TheInside.{Inside}
use Rattle.mvd_replica.specs.Turns.{Turn}
use Rattle.mvd_site.specs.Sites.{SiteValue}
use Rattle.mvd_host.specs.Hosts.{AreKept, HostValue}
use Rattle.mvd_host.specs.Round.{GoesForward, Round}
use Rattle.mvd_host.specs.Taking.{IsFair, IsNothingTaken, held_in}
use Rattle.mvd_host.proofs.Listing.{lists_still}
use Rattle.mvd_host.proofs.ToldLemmas.{due_later, later_items, no_items}
use Rattle.mvd_host.proofs.host.Host.round.Given.{Over}
use Rattle.mvd_host.proofs.host.Host.round.Goals.{After-deref-2, in-Ok, in-Err}
use Rattle.mvd_host.proofs.host.Host.round.Goals as goal

pub take_all-refused-requires-clause-apart : goal.take_all-refused-requires-clause-apart
take_all-refused-requires-clause-apart g c =
    are_apart (held_in c.of-taken.result) c.self.inside.clients.entries c.self.inside.admitted (subst AllMayWait (sym c.of-taken.ensures.held) c.begin-front.ensures.may) c.self.invariant

pub take_all-refused-requires-clause-weighed : goal.take_all-refused-requires-clause-weighed
take_all-refused-requires-clause-weighed g c =
    let front = c.begin-front.result in
    weighed_held c.site-site.result.now.states front.clients.items front.requests.items front.weighed c.begin-front.ensures.pairs c.begin-front.ensures.weighed c.of-taken.result c.of-taken.ensures.holds c.of-taken.ensures.held

pub keep-requires : goal.keep-requires
keep-requires g c = c.begin-front.ensures.begins.told.1 ∙ c.requires

pub keep-requires-in-Err : goal.keep-requires-in-Err
keep-requires-in-Err g c = c.begin-front.ensures.begins.told.1 ∙ c.requires

pub queue_replies-requires-clause-due : goal.queue_replies-requires-clause-due
queue_replies-requires-clause-due g c =
    let took = c.take_all-refused.ensures.took.0 in
    let all = took.all in
    let taken = c.take_all-refused.new.self in
    let a = answers_all _ _ _ _ c.in-Ok.ensures.answers.answers in
    let old = c.self.inside.clients.entries in
    let mid = c.take_all-refused.new.clients.entries in
    let ts = zip (map (λ (r : ℕ × Request). r.0) all.requests) a.turns in
    let asked = zip_asks all.requests a.turns (a.asked ∙ ap (λ (l : List Request). map (λ r. Ok r) l) all.holds.requests_are) in
    subst (λ l. AreDue l mid) (sym (ok_tells all.requests c.deref.result.now a.turns c.deref-in-Ok.result.now (c.deref.ensures.value ∙ all.holds.clients) (a.told ∙ sym c.deref-in-Ok.ensures.value)))
    (due_front (tells ts) (refused_faults taken.faults.items) mid (due old mid mid mid taken all ts asked c.self.inside.admitted c.self.invariant))

pub queue_refused-requires : goal.queue_refused-requires
queue_refused-requires g c =
    let took = c.take_all-refused.ensures.took.0 in
    let all = took.all in
    let taken = c.take_all-refused.new.self in
    let old = c.self.inside.clients.entries in
    let mid = c.take_all-refused.new.clients.entries in
    let ts = memory_turns all.requests c.in-Err.refusal in
    record {
      due = subst (λ l. AreDue l mid) (memory_tells all.requests c.in-Err.refusal ∙ ap (λ (l : List ℕ). refused_all l c.in-Err.refusal) (sym (c.deref-in-Err.ensures.value ∙ all.holds.clients)))
          (due_front (tells ts) (refused_faults taken.faults.items) mid (due old mid mid mid taken all ts (memory_asks all.requests c.in-Err.refusal) c.self.inside.admitted c.self.invariant));
    }

pub queue_replies-requires-clause-fits : goal.queue_replies-requires-clause-fits
queue_replies-requires-clause-fits g c =
    let a = answers_all _ _ _ _ c.in-Ok.ensures.answers.answers in
    subst (λ (b : List Reply). AllByRecursion (λ (r : ℕ × Reply). CanBeSent r.1) (zip c.deref.result.now b)) (a.told ∙ sym c.deref-in-Ok.ensures.value) (zip_fits c.deref.result.now a.turns (fits_all a.turns _ _ c.stands.ensures.held a.states))

-- the requests were answered, in either way
answered_here : (g : Over) (c : After-deref-2 g) → Answered c.take_all-refused.ensures.took.0.all.requests c.match-answer.at_hand.left c.take_all-refused.new.clients.entries c.match-answer.self-inside.clients.entries
    c.args.replica.now.site c.answer.new.replica.site (state g.S.Store c.args.replica.now.records.conn) (state g.S.Store c.answer.new.replica.records.conn)
answered_here g c =
    let all = c.take_all-refused.ensures.took.0.all in
    let taken = c.take_all-refused.new.self in
    let mid = c.take_all-refused.new.clients.entries in
    elim c.match-answer.branch [
      | in-Ok w ↦ subst (λ (s : Inside). Answered all.requests c.match-answer.at_hand.left mid s.clients.entries c.args.replica.now.site c.answer.new.replica.site (state g.S.Store c.args.replica.now.records.conn) (state g.S.Store c.answer.new.replica.records.conn)) (sym w.self-inside-is)
          (answered_ok all.requests taken.requests.items taken.clients.items w.in-Ok.replies.items c.match-answer.at_hand.left mid w.queue_replies.new.clients.entries _ _ _ _ all.holds.requests_are all.holds.clients
          (answers_all _ _ _ _ w.in-Ok.ensures.answers.answers)
          (subst₂ (λ (ns : List ℕ) (rs : List Reply). QueuesReplies (zip ns rs) mid w.queue_replies.new.clients.entries) w.deref.ensures.value w.deref-in-Ok.ensures.value w.queue_replies.ensures.queues)
          (ap (λ (h : AtHandValue). h.left) (w.at_hand-is ∙ w.keep.ensures)))
      | in-Err w ↦ subst (λ (s : Inside). Answered all.requests c.match-answer.at_hand.left mid s.clients.entries c.args.replica.now.site c.answer.new.replica.site (state g.S.Store c.args.replica.now.records.conn) (state g.S.Store c.answer.new.replica.records.conn)) (sym w.self-inside-is)
          (subst (λ r. Answered all.requests c.match-answer.at_hand.left mid w.queue_refused.new.clients.entries c.args.replica.now.site r.site (state g.S.Store c.args.replica.now.records.conn) (state g.S.Store r.records.conn)) (sym w.in-Err.ensures.answers.memory.1)
          (answered_err all.requests taken.clients.items w.in-Err.refusal c.match-answer.at_hand.left mid w.queue_refused.new.clients.entries c.args.replica.now.site (state g.S.Store c.args.replica.now.records.conn) all.holds.clients w.in-Err.ensures.answers.memory.0
          (subst (λ (ns : List ℕ). QueuesReplies (refused_all ns w.in-Err.refusal) mid w.queue_refused.new.clients.entries) w.deref-in-Err.ensures.value w.queue_refused.ensures.queues)
          (ap (λ (h : AtHandValue). h.left) (w.at_hand-is ∙ w.keep-in-Err.ensures))))
    ]

admitted_here : (g : Over) (c : After-deref-2 g) → c.match-answer.self-inside.admitted ≡ c.self.inside.admitted
admitted_here g c = elim c.match-answer.branch [
  | in-Ok w ↦ ap (λ (s : Inside). s.admitted) w.self-inside-is
  | in-Err w ↦ ap (λ (s : Inside). s.admitted) w.self-inside-is
]

pub queue_faults-requires : goal.queue_faults-requires
queue_faults-requires g c =
    let took = c.take_all-refused.ensures.took.0 in
    let all = took.all in
    let taken = c.take_all-refused.new.self in
    let old = c.self.inside.clients.entries in
    let mid = c.take_all-refused.new.clients.entries in
    let between = c.match-answer.self-inside.clients.entries in
    let a = answered_here g (goal.at.queue_faults-requires g c).After-deref-2 in
    record {
      due = subst (λ (l : List (ℕ × Refusal)). AreDue (refused_faults l) between) (sym c.deref-2.ensures.value)
          (due_later (tells a.ts) (refused_faults taken.faults.items) mid between (due old mid between between taken all a.ts a.asked c.self.inside.admitted c.self.invariant) a.queued);
    }

-- nothing was taken
pub invariant_of-self : goal.invariant_of-self
invariant_of-self g c =
    let took = c.take_all-refused.ensures.took.0 in
    let all = took.all in
    let taken = c.take_all-refused.new.self in
    let old = c.self.inside.clients.entries in
    let mid = c.take_all-refused.new.clients.entries in
    let site = c.args.replica.now.site in
    let store = state g.S.Store c.args.replica.now.records.conn in
    let zero : length taken.clients.items + length taken.faults.items ≡ 0 = c.is_none.ensures.0 c.if-is_none.true in
    let none : taken.clients.items ≡ [] = no_items taken.clients.items (length taken.faults.items) zero in
    let sound : taken.faults.items ≡ [] = later_items (length taken.clients.items) taken.faults.items zero in
    let a = answered_none all.requests taken.clients.items [] mid site store all.holds.clients none refl in
    let faults = no_faults taken.faults.items mid sound in
    round_kept (held_in c.of-taken.result) c.args.ready.now old mid mid mid taken took c.self.inside.admitted site site store store [] a faults c.self.invariant

pub returns-then-is_none-clause-round : goal.returns-then-is_none-clause-round
returns-then-is_none-clause-round g c =
    let took = c.take_all-refused.ensures.took.0 in
    let all = took.all in
    let taken = c.take_all-refused.new.self in
    let old = c.self.inside.clients.entries in
    let mid = c.take_all-refused.new.clients.entries in
    let site = c.args.replica.now.site in
    let store = state g.S.Store c.args.replica.now.records.conn in
    let zero : length taken.clients.items + length taken.faults.items ≡ 0 = c.is_none.ensures.0 c.if-is_none.true in
    let none : taken.clients.items ≡ [] = no_items taken.clients.items (length taken.faults.items) zero in
    let sound : taken.faults.items ≡ [] = later_items (length taken.clients.items) taken.faults.items zero in
    let a = answered_none all.requests taken.clients.items [] mid site store all.holds.clients none refl in
    let faults = no_faults taken.faults.items mid sound in
    let asks = held_in c.of-taken.result in
    let hand = c.args.at_hand.now in
    let front = c.begin-front.result in
    let begun = c.begin-front.new.self in
    let may = subst AllMayWait (sym c.of-taken.ensures.held) c.begin-front.ensures.may in
    let begins : BeginsWith asks hand begun = subst (λ (l : List (ℕ × Request)). BeginsWith l hand begun) (sym c.of-taken.ensures.held) c.begin-front.ensures.begins in
    let refused : Bool = c.take_all-refused.result || front.is_shut in
    let fair : refused ≡ false → IsFair site.states c.args.ready.now (length c.args.ready.now) all.requests all.faulty mid =
    λ no. subst (λ (s : SiteValue). IsFair s.states c.args.ready.now (length c.args.ready.now) all.requests all.faulty mid) c.site-site.ensures (c.take_all-refused.ensures.took.1 (neither c.take_all-refused.result front.is_shut no).0) in
    let rests : refused ≡ false → (begun.waits ≡ []) ⊎ AreHeavy site.states asks =
    λ no. subst (λ (s : SiteValue). (begun.waits ≡ []) ⊎ AreHeavy s.states asks) c.site-site.ensures
    (rests_at_hand c.site-site.result.now.states front.clients.items front.requests.items front.weighed c.begin-front.ensures.pairs c.begin-front.ensures.weighed begun asks c.of-taken.ensures.held (c.begin-front.ensures.rest (neither c.take_all-refused.result front.is_shut no).1)) in
    let new : HostValue = record { clients = mid; admitted = c.self.inside.admitted } in
    let same : begun ≡ record begun { left = [] } = ap (λ (l : List (ℕ × Reply)). record begun { left = l }) (begins.told.1 ∙ c.requires) in
    subst₂ (λ (h : HostValue) (k : AtHandValue). (turns : List (ℕ × Turn)) × Round c.args.ready.now turns (record { host = h; hand = hand; site = site; store = store }) (record { host = new; hand = k; site = site; store = store }) × GoesForward c.told.result c.args.ready.now turns site.states new k)
    c.self.view_is (sym same) (round_none asks c.args.ready.now old mid mid mid taken took c.self.inside.admitted site site store store [] a faults hand begun c.requires begins c.begin-front.ensures.waits may c.self.invariant zero refused fair rests c.told.result c.told.ensures.is)

-- something was
pub invariant_of-self-2 : goal.invariant_of-self-2
invariant_of-self-2 g c =
    let took = c.take_all-refused.ensures.took.0 in
    let all = took.all in
    let taken = c.take_all-refused.new.self in
    let old = c.self.inside.clients.entries in
    let mid = c.take_all-refused.new.clients.entries in
    let between = c.match-answer.self-inside.clients.entries in
    let a = answered_here g (goal.at.invariant_of-self-2 g c).After-deref-2 in
    let admitted = admitted_here g (goal.at.invariant_of-self-2 g c).After-deref-2 in
    let new = c.queue_faults.new.clients.entries in
    let site = c.args.replica.now.site in
    let later = c.answer.new.replica.site in
    let store = state g.S.Store c.args.replica.now.records.conn in
    let after = state g.S.Store c.answer.new.replica.records.conn in
    let faults = subst (λ (l : List (ℕ × Refusal)). QueuesReplies (refused_faults l) between new) c.deref-2.ensures.value c.queue_faults.ensures.queues in
    subst (λ n. AreKept new n) (sym admitted) (round_kept (held_in c.of-taken.result) c.args.ready.now old mid between new taken took c.self.inside.admitted site later store after c.match-answer.at_hand.left a faults c.self.invariant)

pub returns-clause-round : goal.returns-clause-round
returns-clause-round g c =
    let took = c.take_all-refused.ensures.took.0 in
    let all = took.all in
    let taken = c.take_all-refused.new.self in
    let old = c.self.inside.clients.entries in
    let mid = c.take_all-refused.new.clients.entries in
    let between = c.match-answer.self-inside.clients.entries in
    let a = answered_here g (goal.at.returns-clause-round g c).After-deref-2 in
    let admitted = admitted_here g (goal.at.returns-clause-round g c).After-deref-2 in
    let new = c.queue_faults.new.clients.entries in
    let site = c.args.replica.now.site in
    let later = c.answer.new.replica.site in
    let store = state g.S.Store c.args.replica.now.records.conn in
    let after = state g.S.Store c.answer.new.replica.records.conn in
    let faults = subst (λ (l : List (ℕ × Refusal)). QueuesReplies (refused_faults l) between new) c.deref-2.ensures.value c.queue_faults.ensures.queues in
    let some : ¬ IsNothingTaken taken = λ none. true≢false (sym (c.is_none.ensures.1 none) ∙ c.if-is_none.false) in
    let asks = held_in c.of-taken.result in
    let hand = c.args.at_hand.now in
    let front = c.begin-front.result in
    let begun = c.begin-front.new.self in
    let may = subst AllMayWait (sym c.of-taken.ensures.held) c.begin-front.ensures.may in
    let begins : BeginsWith asks hand begun = subst (λ (l : List (ℕ × Request)). BeginsWith l hand begun) (sym c.of-taken.ensures.held) c.begin-front.ensures.begins in
    let refused : Bool = c.take_all-refused.result || front.is_shut in
    let fair : refused ≡ false → IsFair site.states c.args.ready.now (length c.args.ready.now) all.requests all.faulty mid =
    λ no. subst (λ (s : SiteValue). IsFair s.states c.args.ready.now (length c.args.ready.now) all.requests all.faulty mid) c.site-site.ensures (c.take_all-refused.ensures.took.1 (neither c.take_all-refused.result front.is_shut no).0) in
    let rests : refused ≡ false → (begun.waits ≡ []) ⊎ AreHeavy site.states asks =
    λ no. subst (λ (s : SiteValue). (begun.waits ≡ []) ⊎ AreHeavy s.states asks) c.site-site.ensures
    (rests_at_hand c.site-site.result.now.states front.clients.items front.requests.items front.weighed c.begin-front.ensures.pairs c.begin-front.ensures.weighed begun asks c.of-taken.ensures.held (c.begin-front.ensures.rest (neither c.take_all-refused.result front.is_shut no).1)) in
    let left = c.match-answer.at_hand.left in
    let kept : AtHandValue = record begun { left = left } in
    let hand_is : c.match-answer.at_hand ≡ kept =
    elim c.match-answer.branch [
      | in-Ok w ↦ kept_left c.match-answer.at_hand begun _ (w.at_hand-is ∙ w.keep.ensures)
      | in-Err w ↦ kept_left c.match-answer.at_hand begun _ (w.at_hand-is ∙ w.keep-in-Err.ensures)
    ] in
    subst (λ (k : AtHandValue). (turns : List (ℕ × Turn)) × Round c.args.ready.now turns (record { host = c.args.self.now; hand = hand; site = site; store = store }) (record { host = record { clients = new; admitted = c.match-answer.self-inside.admitted }; hand = k; site = later; store = after })
    × GoesForward c.told-2.result c.args.ready.now turns site.states (record { clients = new; admitted = c.match-answer.self-inside.admitted }) k)
    (sym hand_is)
    (subst₂ (λ (h : HostValue) (n : ℕ). (turns : List (ℕ × Turn)) × Round c.args.ready.now turns (record { host = h; hand = hand; site = site; store = store }) (record { host = record { clients = new; admitted = n }; hand = kept; site = later; store = after })
    × GoesForward c.told-2.result c.args.ready.now turns site.states (record { clients = new; admitted = n }) kept)
    c.self.view_is (sym admitted) (round_of asks c.args.ready.now old mid between new taken took c.self.inside.admitted site later store after left a faults hand begun c.requires begins c.begin-front.ensures.waits may c.self.invariant some refused fair rests c.told-2.result c.told-2.ensures.is))

pub returns-then-is_none-clause-lists : goal.returns-then-is_none-clause-lists
returns-then-is_none-clause-lists g c = lists_still c.args.feed.now c.args.replica.now.site.states
