-- How many commits the calls of a replica count.
use Rattle.std.proofs.Common.{arith, ◌≡◌, ◌≢◌, ◌⊎◌, ◌∙◌, ◌≤◌, ◌<◌, ◌+◌, ℕ, zero, suc, List, [], ◌∷◌, ◌++◌, true, false, Result, Ok, Err, map, refl, sym, ap, subst₂, inl, inr, true≢false}
use Rattle.mvd_dots.specs.declared.refusals.Refusal.{Refusal}
use Rattle.mvd_wire.specs.declared.request.Request.{Request}
use Rattle.mvd_wire.specs.declared.request.Request.TheVariants.{Put, Delete, Push}
use Rattle.mvd_wire.specs.declared.reply.Reply.{Reply}
use Rattle.mvd_site.specs.Change.{ChangeValue}
use Rattle.mvd_site.specs.Installs.{PutsAll, PutsOne, changes_in}
use Rattle.mvd_site.specs.Prepared.{PreparesChangeFrom}
use Rattle.mvd_site.proofs.Answered.{insert_differs}
use Rattle.mvd_site.specs.Sites.{SiteValue}
use Rattle.mvd_kept.specs.declared.prepared.Prepared.{Prepared}
use Rattle.mvd_kept.specs.declared.prepared.Prepared.TheVariants.{Answer, Change}
use Rattle.mvd_replica.specs.Batch.{AnswersOneFrom, CountsAlong, TakesAllFrom, TakesFrom, asks_change, changes_asked}
use Rattle.mvd_records.specs.Records.{IsSound}
use Rattle.sqlite.specs.State.{State}
use Rattle.mvd_site.specs.FromStates.{after_from}
use Rattle.mvd_replica.specs.Groups.{AreSendable, ComeInOrder, StandTogether, pairs_in}
use Rattle.mvd_replica.specs.Turns.{Turn}
use Rattle.mvd_replica.specs.Replicas.{next_count}
use Rattle.mvd_replica.proofs.Batching.{stays_from, stored_from}
use Rattle.mvd_replica.proofs.Grouping.{pairs_none}
use Rattle.mvd_replica.proofs.Putting.{one_answers, ordered_after, still_end, takes_put, turns_of}

-- ---- turns that count

pub along_none : (turns : List Turn) (old new : SiteValue) → TakesAllFrom old new turns → CountsAlong old new turns 0
along_none [] old new all = (all, refl)
along_none (turn ∷ turns) old new all = (all.0, 0, all.1, inl refl, along_none turns all.0 new all.2)

pub along_then : (first second : List Turn) (old mid new : SiteValue) (a b : ℕ) → CountsAlong old mid first a → CountsAlong mid new second b → CountsAlong old new (first ++ second) (a + b)
along_then [] second old mid new a b one other =
    let same : b ≡ a + b = omega (arith, one.1) in
    subst₂ (λ s n. CountsAlong s new second n) one.0 same other
along_then (turn ∷ first) second old mid new a b one other = (
  one.0,
  one.1 + b,
  one.2,
  elim one.3 [ inl same ↦ inl (omega (arith, same)) | inr more ↦ inr (more.0, omega (arith, more.1)) ],
  along_then first second one.0 mid new one.1 b one.4 other,
)

-- a change that was put in changed the site, also where it broke it
put_differs : (old mid : SiteValue) (request : Request) (change : ChangeValue) (reply : Reply) → old.broken ≡ false → PreparesChangeFrom old.config old.states request change → PutsOne old mid (Change change) reply → mid ≢ old
put_differs old mid request change reply was comes (inl done) same =
    insert_differs old.states change.key change.state comes.differs (ap (λ (s : SiteValue). s.states) (sym done.1 ∙ same))
put_differs old mid request change reply was comes (inr breaks) same =
    true≢false (sym (ap (λ (s : SiteValue). s.broken) breaks.1) ∙ ap (λ (s : SiteValue). s.broken) same ∙ was)

-- the first change of some counts for all
along_group : (requests : List Request) (group : List Prepared) (replies : List Reply) (old new : SiteValue) → old.broken ≡ false → ComeInOrder old.config old.states requests group → AreSendable requests group →
    PutsAll old new group replies → 0 < changes_in group → CountsAlong old new (turns_of requests replies) 1
along_group requests [] replies old new was ordered sendable puts some = absurd (omega (arith, some))
along_group [] (p ∷ group) replies old new was ordered sendable puts some = absurd ordered
along_group (r ∷ requests) (p ∷ group) [] old new was ordered sendable puts some = absurd puts
along_group (r ∷ requests) (Answer told ∷ group) (x ∷ replies) old new was ordered sendable puts some =
    let same : puts.0 ≡ old = (puts.1.whole was).1 in
    let whole : puts.0.broken ≡ false = ap (λ (s : SiteValue). s.broken) same ∙ was in (
      puts.0,
      1,
      one_answers old puts.0 r (Answer told) x old.broken refl (λ _. ordered.0) sendable.0 puts.1,
      inl refl,
      along_group requests group replies puts.0 new whole (ordered_after old puts.0 (Answer told) x requests group puts.1 (λ _. ordered.1) whole) sendable.1 puts.2 (omega (arith, some)),
    )
along_group (r ∷ requests) (Change change ∷ group) (x ∷ replies) old new was ordered sendable puts some = (
  puts.0,
  0,
  one_answers old puts.0 r (Change change) x old.broken refl (λ _. ordered.0) sendable.0 puts.1,
  inr (put_differs old puts.0 r change x was ordered.0.0 (puts.1.whole was), omega arith),
  along_none (turns_of requests replies) puts.0 new
      (takes_put requests group replies puts.0 new (ordered_after old puts.0 (Change change) x requests group puts.1 (λ _. ordered.1)) sendable.1 puts.2),
)

-- ---- which turns ask for a change

-- a site that is not broken, answered with the states that it had, is as it was
pub unchanged_site : (old new : SiteValue) (request : Request) → new ≡ record { config = old.config; states = after_from old.config old.states request; broken = false } → old.broken ≡ false → after_from old.config old.states request ≡ old.states → new ≡ old
unchanged_site old new request is whole same = is ∙ (λ i. record { config = old.config; states = same i; broken = sym whole i })

-- what would change nothing does not
nothing_changed : (old new : SiteValue) (request : Request) (reply : Reply) → AnswersOneFrom old new request reply → after_from old.config old.states request ≡ old.states → new ≡ old
nothing_changed old new request reply one same = elim old.broken as (λ b. old.broken ≡ b → new ≡ old) [
  | true ↦ λ was. (stays_from one was).1
  | false ↦ λ whole. elim (stored_from one) [
    | inr store ↦ store.site
    | inl from ↦ elim (from whole) [
      | inl it ↦ unchanged_site old new request it.site whole same
      | inr (inl memory) ↦ memory.1
      | inr (inr broke) ↦ absurd (broke.1.changes same)
    ]
  ]
] refl

asks_where : (old new : SiteValue) (request : Request) (reply : Reply) → AnswersOneFrom old new request reply → new ≢ old → asks_change request ≡ 1
asks_where old new (Put key seen document) reply one differs = refl
asks_where old new (Delete key seen) reply one differs = refl
asks_where old new (Push key pushed) reply one differs = refl
asks_where old new request reply one differs = absurd (differs (nothing_changed old new request reply one refl))

-- how many of the turns ask for a change
abbrev asks_at : Result Request Refusal → ℕ
asks_at (Ok request) = asks_change request
asks_at (Err fault) = 0

abbrev pub changes_told : List Turn → ℕ
changes_told [] = 0
changes_told (turn ∷ turns) = asks_at turn.asked + changes_told turns

turn_asks : (old new : SiteValue) (asked : Result Request Refusal) (reply : Reply) → TakesFrom old new asked reply → new ≢ old → asks_at asked ≡ 1
turn_asks old new (Ok request) reply one differs = asks_where old new request reply one differs
turn_asks old new (Err fault) reply one differs = absurd (differs one.1)

pub asks_most : (turns : List Turn) (old new : SiteValue) (count : ℕ) → CountsAlong old new turns count → count ≤ changes_told turns
asks_most [] old new count all = omega (arith, all.1)
asks_most (turn ∷ turns) old new count all =
    let later : all.1 ≤ changes_told turns = asks_most turns all.0 new all.1 all.4 in
    elim all.3 [
      | inl same ↦ omega (arith, same, later)
      | inr more ↦ let asks : asks_at turn.asked ≡ 1 = turn_asks old all.0 turn.asked turn.reply all.2 more.0 in omega (arith, more.1, later, asks)
    ]

pub asked_changes : (turns : List Turn) (requests : List Request) → map (λ (t : Turn). t.asked) turns ≡ map (λ (r : Request). Ok r) requests → changes_told turns ≡ changes_asked requests
asked_changes [] [] asked = refl
asked_changes [] (request ∷ requests) asked = absurd cc
asked_changes (turn ∷ turns) [] asked = absurd cc
asked_changes (turn ∷ turns) (request ∷ requests) asked =
    let here : turn.asked ≡ Ok request = cc in
    let later : changes_told turns ≡ changes_asked requests = asked_changes turns requests cc in
    let first : asks_at turn.asked ≡ asks_change request = ap asks_at here in
    omega (arith, first, later)

-- ---- the commit of a group

-- one commit is counted where a change was put in
pub counts_group : (requests : List Request) (group : List Prepared) (replies : List Reply) (old new : SiteValue) (was now : ℕ) (before after : State) → old.broken ≡ false → StandTogether old requests group →
    PutsAll old new group replies → (changes_in group ≡ 0 → now ≡ was) → (0 < changes_in group → now ≡ next_count was) → (pairs_in group ≡ [] → after ≡ before) →
    ((new ≡ old) × (now ≡ was) × (IsSound after → after.committed ≡ before.committed)) ⊎ (CountsAlong old new (turns_of requests replies) 1 × (now ≡ next_count was))
counts_group requests group replies old new was now before after whole it puts none some same =
    elim (changes_in group) as (λ n. changes_in group ≡ n → ((new ≡ old) × (now ≡ was) × (IsSound after → after.committed ≡ before.committed)) ⊎ (CountsAlong old new (turns_of requests replies) 1 × (now ≡ next_count was))) [
      | zero ↦ λ is. inl (still_end group replies old new whole (pairs_none group is) puts, none is, λ _. ap (λ s. s.committed) (same (pairs_none group is)))
      | suc n ↦ λ is.
          let more : 0 < changes_in group = omega (arith, is) in
          inr (along_group requests group replies old new whole it.ordered it.sendable puts more, some more)
    ] refl
