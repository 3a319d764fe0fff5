use Rattle.std.proofs.Common.{◌≡◌, ◌≤◌, ◌∙◌, ◌++◌, [], ℕ, List, ap, false, inl, inr, subst, subst₂, sym, true, true≢false}
use Rattle.std.specs.BTreeSet.{BTreeSet, Updates}
use Rattle.std.specs.Ordering.{nat_cmp}
use Rattle.mvd_wire.specs.declared.request.Request.{Request}
use Rattle.mvd_host.specs.AtHand.{AllMayWait, asks_of}
use Rattle.mvd_host.specs.Fronts.{Parts, asked_in}
use Rattle.mvd_host.specs.declared.front.Front.{Front}
use Rattle.mvd_host.specs.declared.front.Asking.{Asking}
use Rattle.mvd_host.proofs.Fronts.{empty_items, parts_all, parts_held, parts_skipped, some_items}
use Rattle.mvd_host.proofs.front.Front.take.Goals.{then-self-via-then-self, then-self-via-else-self+then-contains}
use Rattle.mvd_host.proofs.front.Front.take.Goals as goal

pub returns-then-self-clause-parts : goal.returns-then-self-clause-parts
returns-then-self-clause-parts c done asked waits may parts =
    let states = c.args.site.now.states in
    elim c.then-self.branch [
      | then-self-via-then-self w ↦ parts_skipped states done asked waits c.args.asking.now c.args.self.now may (λ unshut. absurd (true≢false (sym w.if-self.true ∙ unshut))) parts
      | then-self-via-else-self+then-contains w ↦ parts_skipped states done asked waits c.args.asking.now c.args.self.now may (λ _. sym w.contains.ensures ∙ w.if-contains.true) parts
    ]

pub returns-then-not-is_empty-clause-parts : goal.returns-then-not-is_empty-clause-parts
returns-then-not-is_empty-clause-parts c done asked waits may parts =
    let states = c.args.site.now.states in
    let client = c.args.asking.now.client in
    let so_far = c.taking.invariant in
    let stop = c.take_one.ensures.stops c.taking-test.false in
    let left = c.take_one.new.asking in
    let rest = c.taking.asking.requests.items in
    let new : Front = record { clients = c.take_one.new.self.clients; requests = c.take_one.new.self.requests; weighed = c.take_one.new.self.weighed; held = c.note.new.behind; is_shut = c.note.new.is_shut; done = c.take_one.new.self.done } in
    let here : left.client ≡ client = ap (λ (a : Asking). a.client) stop.asking_is ∙ so_far.client in
    let same : asks_of client rest ≡ asked_in left = sym (ap asked_in stop.asking_is ∙ ap (λ n. asks_of n rest) so_far.client) in
    let some : rest ≡ [] → ⊥ =
    λ none. some_items left.requests.len left.requests.items left.requests.ok.0 (sym c.is_empty.ensures ∙ c.if-not-is_empty.true) (ap (λ (a : Asking). a.requests.items) stop.asking_is ∙ none) in
    let much : new.is_shut ≡ false → 4194304 ≤ new.weighed =
    λ shut. elim (stop.why (c.note.ensures.unshut shut)) [
      | inl none ↦ absurd (some none)
      | inr heavy ↦ heavy
    ] in
    let updates : new.is_shut ≡ false → Updates nat_cmp c.taking.self.held new.held client true =
    λ shut. subst₂ (λ (h : BTreeSet ℕ) (n : ℕ). Updates nat_cmp h c.note.new.behind n true) stop.held here (c.note.ensures.noted shut) in
    subst₂ (λ (a w : List (ℕ × Request)). Parts states done (asked ++ a) (waits ++ w) new) (ap (asks_of client) (sym so_far.parts)) same
    (parts_held states done asked waits client so_far.taken rest c.args.self.now c.taking.self parts c.if-self.false (sym c.contains.ensures ∙ c.if-contains.false)
    (subst (λ (l : List Request). AllMayWait (asks_of client l)) so_far.parts may) so_far.takes new stop.clients stop.requests stop.weighed stop.done updates much)

pub returns-else-not-is_empty-clause-parts : goal.returns-else-not-is_empty-clause-parts
returns-else-not-is_empty-clause-parts c done asked waits may parts =
    let states = c.args.site.now.states in
    let client = c.args.asking.now.client in
    let so_far = c.taking.invariant in
    let stop = c.take_one.ensures.stops c.taking-test.false in
    let left = c.take_one.new.asking in
    let rest = c.taking.asking.requests.items in
    let same : asks_of client rest ≡ asked_in left = sym (ap asked_in stop.asking_is ∙ ap (λ n. asks_of n rest) so_far.client) in
    let none : rest ≡ [] = sym (ap (λ (a : Asking). a.requests.items) stop.asking_is) ∙ empty_items left.requests.len left.requests.items left.requests.ok.0 (sym c.is_empty.ensures ∙ c.if-not-is_empty.false) in
    subst₂ (λ (a w : List (ℕ × Request)). Parts states done (asked ++ a) (waits ++ w) c.take_one.new.self) (ap (asks_of client) (sym so_far.parts)) same
    (parts_all states done asked waits client so_far.taken rest c.args.self.now c.taking.self parts c.if-self.false (sym c.contains.ensures ∙ c.if-contains.false)
    (subst (λ (l : List Request). AllMayWait (asks_of client l)) so_far.parts may) so_far.takes c.take_one.new.self none stop.clients stop.requests stop.weighed stop.done stop.held)
