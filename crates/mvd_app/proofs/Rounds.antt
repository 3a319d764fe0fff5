-- The turns of a server's rounds are asked by frames, or at hand, and so push no state but those of some writes.
use Rattle.std.proofs.Common.{◌≡◌, ◌∙◌, ◌==◌, ◌≤◌, ◌<◌, ◌⊎◌, inl, inr, ℕ, Bool, true, false, cond, List, [], ◌∷◌, ◌++◌, map, Option, Some, None, Ok, Err, Result, refl, sym, subst}
use Rattle.std.proofs.lemmas.Bool.{cases_lt}
use Rattle.std.specs.List.{AllByRecursion}
use Rattle.mvd_app.proofs.Reading.{request_fine}
use Rattle.mvd_conn.specs.Guard.{asked_under, may_under}
use Rattle.mvd_conn.specs.History.{History}
use Rattle.mvd_conn.specs.declared.guard.Guard.{Guard}
use Rattle.mvd_dots.specs.declared.refusals.Refusal.{Refusal}
use Rattle.mvd_dots.specs.declared.refusals.Refusal.TheVariants.{NotAdmitted}
use Rattle.mvd_host.proofs.Own.{same_number}
use Rattle.mvd_host.specs.AtHand.{AllMayWait, AtHandValue, first_at_hand}
use Rattle.mvd_host.specs.Course.{BothClients, asked_by, own}
use Rattle.mvd_host.specs.Hosts.{client_of}
use Rattle.mvd_host.specs.Round.{AnswersAtHand, ClientCourse, Round, Side, turns_of}
use Rattle.mvd_replica.specs.Turns.{Turn}
use Rattle.mvd_site.specs.Known.{IsValidRequest}
use Rattle.mvd_runs.specs.Files.{IsValidTurn}
use Rattle.mvd_wire.specs.Frames.{FrameValue}
use Rattle.mvd_wire.specs.Requests.{request_of}
use Rattle.mvd_wire.specs.declared.request.Request.{Request}

abbrev AreFine : List Turn → Type 0
AreFine turns = AllByRecursion IsValidTurn turns

-- what frames ask
heads : (x y : Result Request Refusal) (xs ys : List (Result Request Refusal)) → x ∷ xs ≡ y ∷ ys → (x ≡ y) × (xs ≡ ys)
heads x y xs ys e = (cc, cc)

under_ok : (r request : Request) (b : Bool) → ◌≡◌ {A = Result Request Refusal} (cond b (Ok r) (Err NotAdmitted)) (Ok request) → ◌≡◌ {A = Result Request Refusal} (Ok r) (Ok request)
under_ok r request true e = e
under_ok r request false e = absurd cc

-- what a right allows was asked
allowed : (guard : Option Guard) (asked : Result Request Refusal) (request : Request) → asked_under guard asked ≡ Ok request → asked ≡ Ok request
allowed guard (Ok r) request e = under_ok r request (may_under guard r) e
allowed guard (Err refusal) request e = e

framed_fine : (guard : Option Guard) (frames : List FrameValue) (turns : List Turn) → map (asked_by guard) frames ≡ map (λ t. t.asked) turns → AreFine turns
framed_fine guard frames [] is = tt
framed_fine guard [] (turn ∷ turns) is = absurd cc
framed_fine guard (f ∷ frames) (turn ∷ turns) is =
    let (one, others) = heads (asked_by guard f) turn.asked (map (asked_by guard) frames) (map (λ t. t.asked) turns) is in
    ((λ request asked. request_fine f.kind f.payload request (allowed guard (request_of f.kind f.payload) request (one ∙ asked))), framed_fine guard frames turns others)

-- what waited at hand pushes no state but one of some writes
ok_is : (a b : Request) → ◌≡◌ {A = Result Request Refusal} (Ok a) (Ok b) → a ≡ b
ok_is a b e = cc

abbrev AreValid : List Request → Type 0
AreValid asks = AllByRecursion IsValidRequest asks

waiting_valid : (n : ℕ) (asks : List (ℕ × Request)) → AllMayWait asks → AreValid (own n asks)
waiting_valid n [] may = tt
waiting_valid n (ask ∷ asks) (one, may) =
    elim (ask.0 == n) as (λ b. AreValid (cond b (ask.1 ∷ own n asks) (own n asks))) [
      | true ↦ (one.1, waiting_valid n asks may)
      | false ↦ waiting_valid n asks may
    ]

asked_fine : (asks : List Request) (turns : List Turn) → AreValid asks → map (λ t. t.asked) turns ≡ map (λ r. Ok r) asks → AreFine turns
asked_fine asks [] may is = tt
asked_fine [] (turn ∷ turns) may is = absurd cc
asked_fine (ask ∷ asks) (turn ∷ turns) (none, may) is =
    let (one, others) = heads turn.asked (Ok ask) (map (λ t. t.asked) turns) (map (λ r. Ok r) asks) is in
    ((λ request asked. subst IsValidRequest (ok_is ask request (sym one ∙ asked)) none), asked_fine asks turns may others)

-- the front of what waited
valid_front : (asks rest : List Request) → AreValid (asks ++ rest) → AreValid asks
valid_front [] rest all = tt
valid_front (ask ∷ asks) rest (one, all) = (one, valid_front asks rest all)

at_hand_fine : (n : ℕ) (turns : List (ℕ × Turn)) (old new : AtHandValue) → first_at_hand ≤ n → AnswersAtHand turns old new → AreFine (own n turns)
at_hand_fine n turns old new above a =
    asked_fine (own n a.asks) (own n turns) (valid_front (own n a.asks) (own n new.waits) (subst AreValid (a.front n) (waiting_valid n old.waits a.may))) (a.asked n above)

-- those of each client, and so all of them
module _ (P : Turn → Type 0) where
  own_head : (n : ℕ) (turn : Turn) (turns : List (ℕ × Turn)) → AllByRecursion P (own n ((n, turn) ∷ turns)) → P turn
  own_head n turn turns all = subst (λ (b : Bool). AllByRecursion P (cond b (turn ∷ own n turns) (own n turns)) → P turn) (sym (same_number n)) (λ it. it.0) all

  own_tail : (n : ℕ) (x : ℕ × Turn) (turns : List (ℕ × Turn)) → AllByRecursion P (own n (x ∷ turns)) → AllByRecursion P (own n turns)
  own_tail n x turns all =
      elim (x.0 == n) as (λ b. AllByRecursion P (cond b (x.1 ∷ own n turns) (own n turns)) → AllByRecursion P (own n turns)) [
        | true ↦ λ it. it.1
        | false ↦ λ it. it
      ] all

  each_own : (turns : List (ℕ × Turn)) → ((n : ℕ) → AllByRecursion P (own n turns)) → AllByRecursion P (turns_of turns)
  each_own [] all = tt
  each_own (x ∷ turns) all = (own_head x.0 x.1 turns (all x.0), each_own turns (λ n. own_tail n x turns (all n)))

client_fine : (n : ℕ) (turns : List Turn) (old new : Option History) → (old ≡ None → turns ≡ []) → BothClients old new (ClientCourse turns) → AreFine turns
client_fine n turns None new none both = subst AreFine (sym (none refl)) tt
client_fine n turns (Some h) None none both = absurd both
client_fine n turns (Some h) (Some k) none both = framed_fine k.guard both.frames turns both.asked

pub round_fine : (ready : List ℕ) (turns : List (ℕ × Turn)) (old new : Side) → Round ready turns old new → AreFine (turns_of turns)
round_fine ready turns old new round =
    each_own IsValidTurn turns (λ n. each n (cases_lt n first_at_hand))
  where
    each : (n : ℕ) → (n < first_at_hand) ⊎ (first_at_hand ≤ n) → AreFine (own n turns)
    each n (inl below) = client_fine n (own n turns) (client_of old.host n) (client_of new.host n) (round.spares.none n below) (round.clients n)
    each n (inr above) = at_hand_fine n turns old.hand new.hand above round.at_hand
