-- The answers of one round, to connections and at hand.
use Rattle.std.proofs.Common.{◌≡◌, ℕ, ◌≤◌, ◌<◌, ◌≢◌, ◌⊎◌, inl, inr, Bool, true, false, true≢false, cond, List, [], ◌∷◌, ◌++◌, map, zip, length, slice_index, None, Result, Ok, Err, refl, sym, ap, ap₂, ◌∙◌, subst, append-nil, arith}
use Rattle.std.proofs.lemmas.List.{map-append}
use Rattle.mvd_dots.specs.declared.refusals.Refusal.{Refusal}
use Rattle.mvd_dots.specs.declared.refusals.Refusal.TheVariants.{Memory}
use Rattle.mvd_wire.specs.declared.request.Request.{Request}
use Rattle.mvd_wire.specs.declared.reply.Reply.{Reply}
use Rattle.mvd_conn.specs.History.{History}
use Rattle.mvd_site.specs.Sites.{SiteValue}
use Rattle.mvd_replica.specs.Turns.{Turn}
use Rattle.mvd_replica.proofs.Positions.{AnswersAll}
use Rattle.sqlite.specs.State.{State}
use Rattle.mvd_host.specs.AtHand.{AllMayWait, AtHandValue, BeginsWith, first_at_hand, told_at_hand}
use Rattle.mvd_host.specs.Hosts.{AreKept, IfClient, client_in}
use Rattle.mvd_host.specs.Course.{BothClients, IsOut, own}
use Rattle.mvd_host.specs.Taking.{AreFaults, IsFair, HasNoNext, IsNothingTaken, TakesOnly}
use Rattle.mvd_host.specs.Queueing.{QueuesReplies, refused_all, refused_faults}
use Rattle.mvd_host.specs.Round.{AnswersAtHand, ClientCourse, GoesForward, IsIdle, Round, Side, Spares, turns_of}
use Rattle.mvd_host.specs.Weights.{AreHeavy, AreHeavyTurns}
use Rattle.mvd_host.specs.declared.taking.Taken.{Taken}
use Rattle.mvd_host.proofs.Idle.{idle_if}
use Rattle.mvd_host.proofs.Numbers.{low_or_high, none_at_hand_there, own_at_hand, own_below}
use Rattle.mvd_host.proofs.Own.{both_none, own-append}
use Rattle.mvd_host.proofs.Positions.{Serves}
use Rattle.mvd_host.proofs.RoundLemmas.{asks, courses, fault_asks, fault_still, fault_tells, fault_turns, kept_after, memory_asks, memory_still, memory_tells, memory_turns, own_mapped, requested, tells, zip_asks, zip_tells, zip_turns}
use Rattle.mvd_host.proofs.Serving.{serves_none, serves_on, serves_still, serves_turns}
use Rattle.mvd_host.proofs.ToldLemmas.{later_items, no_first, no_items, no_second, queues_none, untouched}
use Rattle.mvd_host.proofs.TurnWeights.{heavy_turns}
use Rattle.mvd_host.proofs.Weights.{not_heavy}

-- the requests were answered, and the replies queued, and left at hand
pub record Answered (requests : List (ℕ × Request)) (left : List (ℕ × Reply)) (mid between : List (ℕ × History)) (old new : SiteValue) (before after : State) : Type 0 where
  pub ts : List (ℕ × Turn)
  pub asked : asks ts ≡ requested requests
  pub left_is : left ≡ told_at_hand (tells ts)
  pub queued : QueuesReplies (tells ts) mid between
  pub serves : Serves (turns_of ts) old new before after

pub ok_tells : (rs : List (ℕ × Request)) (ns : List ℕ) (ts : List Turn) (replies : List Reply) → ns ≡ map (λ (r : ℕ × Request). r.0) rs → map (λ (t : Turn). t.reply) ts ≡ replies → zip ns replies ≡ tells (zip (map (λ (r : ℕ × Request). r.0) rs) ts)
ok_tells rs ns ts replies same told = ap₂ (λ (a : List ℕ) (b : List Reply). zip a b) same (sym told) ∙ sym (zip_tells (map (λ (r : ℕ × Request). r.0) rs) ts)

pub answered_ok : (rs : List (ℕ × Request)) (requests : List Request) (ns : List ℕ) (replies : List Reply) (left : List (ℕ × Reply)) (mid between : List (ℕ × History)) (old new : SiteValue) (before after : State)
    → requests ≡ map (λ (r : ℕ × Request). r.1) rs → ns ≡ map (λ (r : ℕ × Request). r.0) rs → AnswersAll requests replies old new before after → QueuesReplies (zip ns replies) mid between → left ≡ told_at_hand (zip ns replies)
    → Answered rs left mid between old new before after
answered_ok rs requests ns replies left mid between old new before after same numbers a queued left_is =
    let asked : map (λ t. t.asked) a.turns ≡ map {B = Result Request Refusal} (λ r. Ok r) (map (λ (r : ℕ × Request). r.1) rs) = a.asked ∙ ap (λ (l : List Request). map {B = Result Request Refusal} (λ r. Ok r) l) same in
    record {
      ts = zip (map (λ (r : ℕ × Request). r.0) rs) a.turns;
      asked = zip_asks rs a.turns asked;
      left_is = left_is ∙ ap told_at_hand (ok_tells rs ns a.turns replies numbers a.told);
      queued = subst (λ l. QueuesReplies l mid between) (ok_tells rs ns a.turns replies numbers a.told) queued;
      serves = subst (λ l. Serves l old new before after) (sym (zip_turns rs a.turns asked)) (serves_turns a.turns old new before after a.states a.takes);
    }

err_tells : (rs : List (ℕ × Request)) (ns : List ℕ) (refusal : Refusal) → ns ≡ map (λ (r : ℕ × Request). r.0) rs → refused_all ns refusal ≡ tells (memory_turns rs refusal)
err_tells rs ns refusal numbers = ap (λ (l : List ℕ). refused_all l refusal) numbers ∙ sym (memory_tells rs refusal)

pub answered_err : (rs : List (ℕ × Request)) (ns : List ℕ) (refusal : Refusal) (left : List (ℕ × Reply)) (mid between : List (ℕ × History)) (site : SiteValue) (s : State)
    → ns ≡ map (λ (r : ℕ × Request). r.0) rs → refusal ≡ Memory → QueuesReplies (refused_all ns refusal) mid between → left ≡ told_at_hand (refused_all ns refusal) → Answered rs left mid between site site s s
answered_err rs ns refusal left mid between site s numbers memory queued left_is = record {
  ts = memory_turns rs refusal;
  asked = memory_asks rs refusal;
  left_is = left_is ∙ ap told_at_hand (err_tells rs ns refusal numbers);
  queued = subst (λ l. QueuesReplies l mid between) (err_tells rs ns refusal numbers) queued;
  serves = serves_still (turns_of (memory_turns rs refusal)) site s (memory_still rs refusal memory);
}

-- nothing was taken, and nothing was answered
no_requests : (rs : List (ℕ × Request)) (ns : List ℕ) → ns ≡ map (λ (r : ℕ × Request). r.0) rs → ns ≡ [] → rs ≡ []
no_requests [] ns numbers none = refl
no_requests (r ∷ rs) ns numbers none = absurd (let no : ◌≡◌ {A = List ℕ} (r.0 ∷ map (λ (r : ℕ × Request). r.0) rs) [] = sym numbers ∙ none in cc)

pub answered_none : (rs : List (ℕ × Request)) (ns : List ℕ) (left : List (ℕ × Reply)) (clients : List (ℕ × History)) (site : SiteValue) (s : State) → ns ≡ map (λ (r : ℕ × Request). r.0) rs → ns ≡ [] → left ≡ []
    → Answered rs left clients clients site site s s
answered_none rs ns left clients site s numbers none nothing = record {
  ts = [];
  asked = ap requested (sym (no_requests rs ns numbers none));
  left_is = nothing;
  queued = queues_none clients;
  serves = serves_none site s;
}

pub no_faults : (es : List (ℕ × Refusal)) (clients : List (ℕ × History)) → es ≡ [] → QueuesReplies (refused_faults es) clients clients
no_faults es clients none = subst (λ (l : List (ℕ × Refusal)). QueuesReplies (refused_faults l) clients clients) (sym none) (queues_none clients)

nothing_mapped : {X Y : Type 0} (f : X → Y) (xs : List X) → map f xs ≡ [] → xs ≡ []
nothing_mapped f [] nothing = refl
nothing_mapped {X} {Y} f (x ∷ xs) nothing = absurd (let no : ◌≡◌ {A = List Y} (f x ∷ map f xs) [] = nothing in cc)

no_fault_left : (es : List (ℕ × Refusal)) → AreFaults [] es → es ≡ []
no_fault_left [] all = refl
no_fault_left (e ∷ es) all = absurd all

no_faulty_left : (fs : List (ℕ × Result Request Refusal)) → AreFaults fs [] → fs ≡ []
no_faulty_left [] all = refl
no_faulty_left (f ∷ fs) all = absurd all

module _ (asks_at_hand : List (ℕ × Request)) (ready : List ℕ) (old mid between new : List (ℕ × History)) (taken : Taken) (took : TakesOnly asks_at_hand ready (length ready) old mid taken) (admitted : ℕ)
    (site later : SiteValue) (before after : State) (left : List (ℕ × Reply)) (a : Answered took.all.requests left mid between site later before after) (queued : QueuesReplies (refused_faults taken.faults.items) between new) where
  all_turns : List (ℕ × Turn)
  all_turns = a.ts ++ fault_turns took.all.faulty taken.faults.items

  round_clients : (n : ℕ) → BothClients (client_in old n) (client_in new n) (ClientCourse (own n all_turns))
  unfolding all_turns
  round_clients = courses old mid between new taken took.all a.ts a.asked a.queued queued

  pub round_kept : AreKept old admitted → AreKept new admitted
  round_kept kept = kept_after old new admitted all_turns kept round_clients

  round_serves : Serves (turns_of all_turns) site later before after
  unfolding all_turns
  round_serves =
      let faults = fault_turns took.all.faulty taken.faults.items in
      subst (λ l. Serves l site later before after) (sym (map-append (λ (t : ℕ × Turn). t.1) a.ts faults))
      (serves_on (turns_of a.ts) (turns_of faults) site later later before after after a.serves (serves_still (turns_of faults) later after (fault_still took.all.faulty taken.faults.items took.all.holds.faults)))

  -- no frame of a client, no turn
  no_fault_turns : (n : ℕ) → own n took.all.faulty ≡ [] → own n (fault_turns took.all.faulty taken.faults.items) ≡ []
  no_fault_turns n none =
      let faults = fault_turns took.all.faulty taken.faults.items in
      nothing_mapped (λ (t : Turn). t.asked) (own n faults)
      (sym (own_mapped n (λ (t : Turn). t.asked) faults) ∙ ap (own n) (fault_asks took.all.faulty taken.faults.items took.all.holds.faults) ∙ none)

  no_turns : (n : ℕ) → (own n took.all.requests ≡ []) × (own n took.all.faulty ≡ []) → (own n a.ts ≡ []) × (own n (fault_turns took.all.faulty taken.faults.items) ≡ [])
  no_turns n none =
      let first : map (λ (t : Turn). t.asked) (own n a.ts) ≡ [] =
      sym (own_mapped n (λ (t : Turn). t.asked) a.ts) ∙ ap (own n) a.asked ∙ own_mapped n (λ (r : Request). Ok r) took.all.requests ∙ ap (λ (l : List Request). map {B = Result Request Refusal} (λ r. Ok r) l) none.0 in
      (nothing_mapped (λ (t : Turn). t.asked) (own n a.ts) first, no_fault_turns n none.1)

  none_of_all : (n : ℕ) → (own n took.all.requests ≡ []) × (own n took.all.faulty ≡ []) → own n all_turns ≡ []
  unfolding all_turns
  none_of_all n none = let both = no_turns n none in own-append n a.ts (fault_turns took.all.faulty taken.faults.items) ∙ ap₂ (λ x y. x ++ y) both.0 both.1

  -- no turn of a client, no frame
  no_frames : (n : ℕ) → own n all_turns ≡ [] → (own n took.all.requests ≡ []) × (own n took.all.faulty ≡ [])
  unfolding all_turns
  no_frames n none =
      let faults = fault_turns took.all.faulty taken.faults.items in
      let both : own n a.ts ++ own n faults ≡ [] = sym (own-append n a.ts faults) ∙ none in
      let first : own n a.ts ≡ [] = no_first (own n a.ts) (own n faults) both in
      let second : own n faults ≡ [] = no_second (own n a.ts) (own n faults) both in
      let requests : map {B = Result Request Refusal} (λ r. Ok r) (own n took.all.requests) ≡ [] =
      sym (own_mapped n (λ (r : Request). Ok r) took.all.requests) ∙ ap (own n) (sym a.asked) ∙ own_mapped n (λ (t : Turn). t.asked) a.ts ∙ ap (λ (l : List Turn). map (λ t. t.asked) l) first in
      let faulty : own n took.all.faulty ≡ [] =
      ap (own n) (sym (fault_asks took.all.faulty taken.faults.items took.all.holds.faults)) ∙ own_mapped n (λ (t : Turn). t.asked) faults ∙ ap (λ (l : List Turn). map (λ t. t.asked) l) second in
      (nothing_mapped (λ (r : Request). Ok r) (own n took.all.requests) requests, faulty)

  -- a client of which no frame was taken is as the taking left it
  same_later : (n : ℕ) → (own n took.all.requests ≡ []) × (own n took.all.faulty ≡ []) → client_in new n ≡ client_in mid n
  same_later n none =
      let both = no_turns n none in
      let faults = fault_turns took.all.faulty taken.faults.items in
      let first : own n (tells a.ts) ≡ [] = own_mapped n (λ (t : Turn). t.reply) a.ts ∙ ap (λ (l : List Turn). map (λ t. t.reply) l) both.0 in
      let second : own n (refused_faults taken.faults.items) ≡ [] =
      ap (own n) (sym (fault_tells took.all.faulty taken.faults.items took.all.holds.faults)) ∙ own_mapped n (λ (t : Turn). t.reply) faults ∙ ap (λ (l : List Turn). map (λ t. t.reply) l) both.1 in
      untouched (own n (refused_faults taken.faults.items)) (client_in between n) (client_in new n) second (queued n)
      ∙ untouched (own n (tells a.ts)) (client_in mid n) (client_in between n) first (a.queued n)

  heavy_all : AreHeavy site.states took.all.requests → AreHeavyTurns site.states all_turns
  unfolding all_turns
  heavy_all heavy = heavy_turns site.states a.ts (fault_turns took.all.faulty taken.faults.items) took.all.requests a.asked heavy

  fair_turns : IsFair site.states ready (length ready) took.all.requests took.all.faulty mid → (i : ℕ) → i < length ready → (own (slice_index ready i) all_turns ≢ []) ⊎ IfClient (client_in new (slice_index ready i)) HasNoNext ⊎ AreHeavyTurns site.states all_turns
  fair_turns fair i below = decide (own (slice_index ready i) all_turns) refl
    where
      decide : (l : List Turn) → own (slice_index ready i) all_turns ≡ l → (own (slice_index ready i) all_turns ≢ []) ⊎ IfClient (client_in new (slice_index ready i)) HasNoNext ⊎ AreHeavyTurns site.states all_turns
      decide (t ∷ ts) is = inl (λ none. let no : ◌≡◌ {A = List Turn} (t ∷ ts) [] = sym is ∙ none in absurd (cc))
      decide [] is =
          let none = no_frames (slice_index ready i) is in
          elim (fair i below) [
            | inl (inl some) ↦ absurd (some none.0)
            | inl (inr some) ↦ absurd (some none.1)
            | inr (inl idle) ↦ inr (inl (subst (λ o. IfClient o HasNoNext) (sym (same_later (slice_index ready i) none)) idle))
            | inr (inr heavy) ↦ inr (inr (heavy_all heavy))
          ]

  some_turns : ¬ IsNothingTaken taken → all_turns ≢ []
  unfolding all_turns
  some_turns some nothing =
      let faults = fault_turns took.all.faulty taken.faults.items in
      let first : a.ts ≡ [] = no_first a.ts faults nothing in
      let second : faults ≡ [] = no_second a.ts faults nothing in
      let requests : took.all.requests ≡ [] = nothing_mapped (λ (r : ℕ × Request). (r.0, Ok r.1)) took.all.requests (sym a.asked ∙ ap asks first) in
      let faulty : took.all.faulty ≡ [] = sym (fault_asks took.all.faulty taken.faults.items took.all.holds.faults) ∙ ap asks second in
      let clients : length taken.clients.items ≡ 0 = ap length took.all.holds.clients ∙ ap (λ (l : List (ℕ × Request)). length (map (λ r. r.0) l)) requests in
      let others : length taken.faults.items ≡ 0 = ap length (no_fault_left taken.faults.items (subst (λ l. AreFaults l taken.faults.items) faulty took.all.holds.faults)) in
      some (omega (arith, clients, others))

  all_idle : IsNothingTaken taken → IsFair site.states ready (length ready) took.all.requests took.all.faulty mid → (i : ℕ) → i < length ready → IfClient (client_in new (slice_index ready i)) HasNoNext
  all_idle nothing fair i below =
      let requests : took.all.requests ≡ [] = nothing_mapped (λ (r : ℕ × Request). r.0) took.all.requests (sym took.all.holds.clients ∙ no_items taken.clients.items (length taken.faults.items) nothing) in
      let faulty : took.all.faulty ≡ [] = no_faulty_left took.all.faulty (subst (AreFaults took.all.faulty) (later_items (length taken.clients.items) taken.faults.items nothing) took.all.holds.faults) in
      let none : (own (slice_index ready i) took.all.requests ≡ []) × (own (slice_index ready i) took.all.faulty ≡ []) = (ap (own (slice_index ready i)) requests, ap (own (slice_index ready i)) faulty) in
      elim (fair i below) [
        | inl (inl some) ↦ absurd (some none.0)
        | inl (inr some) ↦ absurd (some none.1)
        | inr (inl idle) ↦ subst (λ o. IfClient o HasNoNext) (sym (same_later (slice_index ready i) none)) idle
        | inr (inr heavy) ↦ absurd (not_heavy site.states took.all.requests requests heavy)
      ]

  module _ (hand begun : AtHandValue) (none : hand.left ≡ []) (begins : BeginsWith asks_at_hand hand begun) (all_may : AllMayWait hand.waits) (may : AllMayWait asks_at_hand) (kept : AreKept old admitted) where
    -- nothing comes next of a client that had none
    idle_after : (n : ℕ) → IfClient (client_in new n) HasNoNext → IfClient (client_in new n) IsIdle
    idle_after n = idle_if (client_in new n) ((round_kept kept).answered n)

    -- what waits at hand is of no connection
    none_low : (n : ℕ) → n < first_at_hand → (own n took.all.requests ≡ own n asks_at_hand) × (own n took.all.faulty ≡ []) → (own n took.all.requests ≡ []) × (own n took.all.faulty ≡ [])
    none_low n low is = (is.0 ∙ own_below n asks_at_hand may low, is.1)

    none_high : (n : ℕ) → first_at_hand ≤ n → client_in old n ≡ None
    none_high n high = none_at_hand_there old admitted n kept high

    same_after : (n : ℕ) → IsOut n ready (length ready) → client_in new n ≡ client_in old n
    same_after n out = elim (low_or_high n first_at_hand) [
      | inl low ↦ same_later n (none_low n low (took.only n out)) ∙ took.same n out
      | inr high ↦ both_none (client_in old n) (client_in new n) (ClientCourse (own n all_turns)) (none_high n high) (round_clients n) ∙ sym (none_high n high)
    ]

    round_spares : Spares ready all_turns (record { clients = old; admitted = admitted }) (record { clients = new; admitted = admitted })
    round_spares = record {
      none = λ n low gone. none_of_all n (none_low n low (took.none n gone));
      only = λ n low out. none_of_all n (none_low n low (took.only n out));
      same = same_after;
    }

    -- those at hand have turns of what waited alone
    high_turns : (n : ℕ) → first_at_hand ≤ n → own n all_turns ≡ own n a.ts
    unfolding all_turns
    high_turns n high =
        let faults = fault_turns took.all.faulty taken.faults.items in
        own-append n a.ts faults ∙ ap (λ l. own n a.ts ++ l) (no_fault_turns n (took.none n (none_high n high)).1) ∙ append-nil (own n a.ts)

    abbrev hand_after : AtHandValue
    hand_after = record { done = begun.done; waits = begun.waits; taken = begun.taken; left = left }

    answers_at_hand : AnswersAtHand all_turns hand hand_after
    answers_at_hand = record {
      none = none;
      may = all_may;
      asks = asks_at_hand;
      done = begins.done;
      front = begins.front;
      taken = begins.told.0;
      asked = λ n high.
          ap (λ (l : List Turn). map (λ t. t.asked) l) (high_turns n high) ∙ sym (own_mapped n (λ (t : Turn). t.asked) a.ts) ∙ ap (own n) a.asked ∙ own_mapped n (λ (r : Request). Ok r) took.all.requests
          ∙ ap (λ (l : List Request). map {B = Result Request Refusal} (λ r. Ok r) l) (took.none n (none_high n high)).0;
      told = λ n high.
          ap (own n) a.left_is ∙ own_at_hand n (tells a.ts) high ∙ own_mapped n (λ (t : Turn). t.reply) a.ts ∙ sym (ap (λ (l : List Turn). map (λ t. t.reply) l) (high_turns n high));
    }

    abbrev old_side : Side
    old_side = record { host = record { clients = old; admitted = admitted }; hand = hand; site = site; store = before }

    abbrev new_side : Side
    new_side = record { host = record { clients = new; admitted = admitted }; hand = hand_after; site = later; store = after }

    is_round : Round ready all_turns old_side new_side
    is_round = record { serves = round_serves; clients = round_clients; spares = round_spares; at_hand = answers_at_hand; admitted = refl }

    -- what waits at hand still, where memory was not refused
    abbrev RestsAtHand : Type 0
    RestsAtHand = (begun.waits ≡ []) ⊎ AreHeavy site.states asks_at_hand

    rest_turns : RestsAtHand → (begun.waits ≡ []) ⊎ AreHeavyTurns site.states all_turns
    rest_turns (inl nothing) = inl nothing
    rest_turns (inr heavy) = inr (heavy_all (let more = took.weight site.states in omega (arith, more, heavy)))

    none_rests : IsNothingTaken taken → RestsAtHand → begun.waits ≡ []
    none_rests nothing (inl none) = none
    none_rests nothing (inr heavy) =
        let requests : took.all.requests ≡ [] = nothing_mapped (λ (r : ℕ × Request). r.0) took.all.requests (sym took.all.holds.clients ∙ no_items taken.clients.items (length taken.faults.items) nothing) in
        absurd (not_heavy site.states took.all.requests requests (let more = took.weight site.states in omega (arith, more, heavy)))

    -- something was taken
    pub round_of : ¬ IsNothingTaken taken → (refused : Bool) → (refused ≡ false → IsFair site.states ready (length ready) took.all.requests took.all.faulty mid) → (refused ≡ false → RestsAtHand) → (result : Result Bool Refusal) → result ≡ cond refused (Err Memory) (Ok true)
        → (turns : List (ℕ × Turn)) × Round ready turns old_side new_side × GoesForward result ready turns site.states new_side.host hand_after
    round_of some true fair rests result is = (all_turns, is_round, subst (λ r. GoesForward r ready all_turns site.states new_side.host hand_after) (sym is) (record { fair = tt; at_hand = tt; some = tt; none = tt; idle = tt }))
    round_of some false fair rests result is = (
      all_turns,
      is_round,
      subst (λ r. GoesForward r ready all_turns site.states new_side.host hand_after) (sym is) (record {
        fair = λ i below. elim (fair_turns (fair refl) i below) [
          | inl some ↦ inl some
          | inr (inl none) ↦ inr (inl (idle_after (slice_index ready i) none))
          | inr (inr heavy) ↦ inr (inr heavy)
        ];
        at_hand = rest_turns (rests refl);
        some = λ _. some_turns some;
        none = λ no. absurd (true≢false no);
        idle = λ no. absurd (true≢false no);
      }),
    )

    -- nothing was
    pub round_none : IsNothingTaken taken → (refused : Bool) → (refused ≡ false → IsFair site.states ready (length ready) took.all.requests took.all.faulty mid) → (refused ≡ false → RestsAtHand) → (result : Result Bool Refusal) → result ≡ cond refused (Err Memory) (Ok false)
        → (turns : List (ℕ × Turn)) × Round ready turns old_side new_side × GoesForward result ready turns site.states new_side.host hand_after
    round_none none true fair rests result is = (all_turns, is_round, subst (λ r. GoesForward r ready all_turns site.states new_side.host hand_after) (sym is) (record { fair = tt; at_hand = tt; some = tt; none = tt; idle = tt }))
    round_none none false fair rests result is = (
      all_turns,
      is_round,
      subst (λ r. GoesForward r ready all_turns site.states new_side.host hand_after) (sym is) (record {
        fair = λ i below. inr (inl (idle_after (slice_index ready i) (all_idle none (fair refl) i below)));
        at_hand = rest_turns (rests refl);
        some = λ yes. absurd (true≢false (sym yes));
        none = λ _. none_rests none (rests refl);
        idle = λ _ i below. idle_after (slice_index ready i) (all_idle none (fair refl) i below);
      }),
    )
