-- Turns are events of the store, call by call.
use Rattle.std.proofs.Common.{◌≡◌, ◌≢◌, ◌⊎◌, ℕ, Bool, true, false, List, [], ◌∷◌, ◌++◌, map, Result, Ok, Err, refl, sym, ap, ap₂, ◌∙◌, subst, subst₂, inl, inr, true≢false, ⊎_elim, append-nil}
use Rattle.std.specs.List.{AllByRecursion}
use Rattle.std.proofs.lemmas.Grind.{flat_map-append}
use Rattle.std.proofs.lemmas.List.{append_assoc}
use Rattle.mvd_dots.specs.declared.refusals.Refusal.{Refusal}
use Rattle.mvd_dots.specs.declared.refusals.Refusal.TheVariants.{Broken, Memory, Store}
use Rattle.mvd_keys.specs.Writes.{Key, Stands, Write}
use Rattle.mvd_wire.specs.declared.request.Request.{Request}
use Rattle.mvd_wire.specs.declared.request.Request.TheVariants.{Get, Put, Delete, Push}
use Rattle.mvd_wire.specs.declared.reply.Reply.{Reply}
use Rattle.mvd_wire.specs.declared.reply.Reply.TheVariants.{Refused, State as Shown}
use Rattle.mvd_kept.specs.Answer.{answer, answer_from, is_question}
use Rattle.mvd_kept.specs.Config.{ConfigValue}
use Rattle.mvd_kept.specs.Known.{Adds, ChangesKey, MayReply}
use Rattle.mvd_kept.proofs.Answered.{answered}
use Rattle.mvd_site.specs.FromStates.{unless_broken}
use Rattle.mvd_site.specs.Held.{state_at}
use Rattle.mvd_site.specs.Sites.{SiteValue}
use Rattle.mvd_site.proofs.Pushes.{refusal_is}
use Rattle.mvd_model.specs.TheStore.{Answers, AreAmong, Breaks, Broke, Event, Happen, Knows, Next, Refuses, Site, Told, config}
use Rattle.mvd_model.proofs.Placing.{does_next, placed, placed_at, placed_else}
use Rattle.mvd_model.proofs.Refusals.{IsUndone, answer_none}
use Rattle.mvd_replica.specs.Asks.{TellsAnswer}
use Rattle.mvd_replica.proofs.Replying.{Split, split}
use Rattle.mvd_replica.specs.Turns.{AddsAt, AllTold, AreUndoneIn, TurnEvent as Added, IsMemory, IsToldElse, IsToldUndone, MayReplyStored, MayTell, TellsTurns, Turn, known_after_turns}
use Rattle.mvd_runs.specs.Calls.{AreUndoneAtOnce, all_turns}
use Rattle.mvd_runs.specs.Events.{AreEvents, AreTurns, IsSiteKnown, broke_with, broken_at, broken_in, each_told, else_told, events_of, is_broken_by, told_at, told_else_at}

pub happen_append : (a b end : Knows) (first rest : List Event) → Happen a first b → Happen b rest end → Happen a (first ++ rest) end
happen_append a b end [] rest is later = subst (λ k. Happen k rest end) is later
happen_append a b end (event ∷ first) rest (c, next, happen) later = (c, next, happen_append c b end first rest happen later)

-- ---- one turn of a site that is not broken

-- the site after a turn
abbrev pub site_after : Site → List Write → List Request → Bool → Site
site_after s added more is = record { setup = s.setup; known = s.known ++ added; refused = s.refused ++ more; broken = is }

adds_none : (request : Request) (refusal : Refusal) (added : List Write) → Adds request (Refused refusal) added → added ≡ []
adds_none (Put key seen document) refusal added h = h
adds_none (Delete key seen) refusal added h = h
adds_none (Push key pushed) refusal added h = h
adds_none request refusal added h = h

refused_adds : (request : Request) (reply : Reply) (refusal : Refusal) (added : List Write) → reply ≡ Refused refusal → Adds request reply added → added ≡ []
refused_adds request reply refusal added told adds = adds_none request refusal added (subst (λ r. Adds request r added) told adds)

-- it stays so: what a request and its reply do to it; where that is 21 the request is kept in mind
record Stays (c : ConfigValue) (s : Site) (request : Request) (reply : Reply) (added : List Write) : Type 0 where
  more : List Request
  next : Answers c s request reply (site_after s added more false) ⊎ Refuses c s request reply (site_after s added more false)
  other : reply ≢ Refused Broken
  undone : IsUndone reply → more ≡ request ∷ []

-- or it breaks
record Breaking (c : ConfigValue) (known : List Write) (request : Request) (reply : Reply) : Type 0 where
  told : reply ≡ Refused Broken
  changes : ChangesKey c known request

abbrev StaysOrBreaks : ConfigValue → Site → Request → Reply → List Write → Bool → Type 0
StaysOrBreaks c s request reply added is = ((is ≡ false) × Stays c s request reply added) ⊎ ((is ≡ true) × Breaking c s.known request reply)

stays_answer : (c : ConfigValue) (s : Site) (request : Request) (reply : Reply) (added : List Write) → s.broken ≡ false → reply ≡ answer c s.known request → Adds request reply added → Stays c s request reply added
stays_answer c s request reply added whole told adds = record {
  more = [];
  next = inl (whole, told, added, adds, λ i. record { setup = s.setup; known = s.known ++ added; refused = append-nil s.refused i; broken = sym whole i });
  other = λ is. answer_none c s.known request (subst IsUndone (sym is ∙ told) tt);
  undone = λ h. absurd (answer_none c s.known request (subst IsUndone told h));
}

stays_memory : (c : ConfigValue) (s : Site) (request : Request) (reply : Reply) (added : List Write) → s.broken ≡ false → reply ≡ Refused Memory → Adds request reply added → Stays c s request reply added
stays_memory c s request reply added whole told adds =
    let none : added ≡ [] = refused_adds request reply Memory added told adds in
    record {
      more = [];
      next = inr (subst (λ r. Refuses c s request r (site_after s added [] false)) (sym told)
          (λ i. record { setup = s.setup; known = (ap (λ W. s.known ++ W) none ∙ append-nil s.known) i; refused = append-nil s.refused i; broken = sym whole i }));
      other = λ is. let same : Memory ≡ Broken = refusal_is Memory Broken (sym told ∙ is) in absurd cc;
      undone = λ h. absurd (subst IsUndone told h);
    }

stays_store : (c : ConfigValue) (s : Site) (request : Request) (reply : Reply) (added : List Write) → s.broken ≡ false → ChangesKey c s.known request → reply ≡ Refused Store → Adds request reply added → Stays c s request reply added
stays_store c s request reply added whole changes told adds =
    let none : added ≡ [] = refused_adds request reply Store added told adds in
    record {
      more = request ∷ [];
      next = inr (subst (λ r. Refuses c s request r (site_after s added (request ∷ []) false)) (sym told)
          (whole, changes, λ i. record { setup = s.setup; known = (ap (λ W. s.known ++ W) none ∙ append-nil s.known) i; refused = s.refused ++ request ∷ []; broken = sym whole i }));
      other = λ is. let same : Store ≡ Broken = refusal_is Store Broken (sym told ∙ is) in absurd cc;
      undone = λ h. refl;
    }

of_reply : (c : ConfigValue) (s : Site) (request : Request) (reply : Reply) (added : List Write) (is : Bool) → s.broken ≡ false → MayReply c s.known false request reply is → Adds request reply added → StaysOrBreaks c s request reply added is
of_reply c s request reply added false whole may adds = inl (
  refl,
  ⊎_elim
      (λ told. stays_answer c s request reply added whole told adds)
      (λ told. stays_memory c s request reply added whole told adds)
      may,
)
of_reply c s request reply added true whole may adds = inr (refl, record { told = may.0; changes = may.1 })

stays_or_breaks : (c : ConfigValue) (s : Site) (request : Request) (reply : Reply) (added : List Write) (is : Bool) → s.broken ≡ false → MayReplyStored c s.known false request reply is ⊎ IsMemory false reply is → Adds request reply added → StaysOrBreaks c s request reply added is
stays_or_breaks c s request reply added is whole may adds = ⊎_elim
    (λ stored. ⊎_elim
    (λ told. of_reply c s request reply added is whole told adds)
    (λ store. inl (store.still, stays_store c s request reply added whole store.changes store.told adds))
    stored)
    (λ memory. inl (memory.1, stays_memory c s request reply added whole memory.0 adds))
    may

-- ---- one turn of a broken site

broken_reply : (c : ConfigValue) (known : List Write) (request : Request) (reply : Reply) (is : Bool) → MayReply c known true request reply is → (is ≡ true) × ((reply ≡ Refused Broken) ⊎ (reply ≡ Refused Memory))
broken_reply c known request reply false may = absurd may
broken_reply c known request reply true may = (refl, inl may)

told_broken : (c : ConfigValue) (known : List Write) (request : Request) (reply : Reply) (is : Bool) → MayReplyStored c known true request reply is ⊎ IsMemory true reply is → (is ≡ true) × ((reply ≡ Refused Broken) ⊎ (reply ≡ Refused Memory))
told_broken c known request reply is may = ⊎_elim
    (λ stored. ⊎_elim (λ told. broken_reply c known request reply is told) (λ store. absurd (true≢false store.whole)) stored)
    (λ memory. (memory.1, inr memory.0))
    may

broken_adds : (request : Request) (reply : Reply) (added : List Write) → (reply ≡ Refused Broken) ⊎ (reply ≡ Refused Memory) → Adds request reply added → added ≡ []
broken_adds request reply added told adds = ⊎_elim (λ is. refused_adds request reply Broken added is adds) (λ is. refused_adds request reply Memory added is adds) told

-- a frame that is no request leaves the site as it was
still_broken : (c : ConfigValue) (known : List Write) (was is : Bool) (fault : Refusal) (reply : Reply) → MayTell c known was (Err fault) reply is → is ≡ was
still_broken c known was is fault reply may = ⊎_elim (λ h. h.1) (λ h. h.1) may

memory_next : (a : Knows) (i : ℕ) (request : Request) → Next a (Told i request (Refused Memory)) a
memory_next a i request = (inr refl, λ j other. refl)

broken_next : (a : Knows) (i : ℕ) (request : Request) (reply : Reply) → (a i).broken ≡ true → (reply ≡ Refused Broken) ⊎ (reply ≡ Refused Memory) → Next a (Told i request reply) a
broken_next a i request reply broken told = ⊎_elim
    (λ is. subst (λ r. Next a (Told i request r) a) (sym is) (inr (broken, refl), λ j other. refl))
    (λ is. subst (λ r. Next a (Told i request r) a) (sym is) (memory_next a i request))
    told

-- ---- a broken site

-- nothing changes
record Still (a : Knows) (i : ℕ) (events : List Added) (is : Bool) : Type 0 where
  happen : Happen a (each_told i (map (λ event. event.turn) events)) a
  none : known_after_turns events ≡ []
  broken : is ≡ true

still_one : (a : Knows) (i : ℕ) (known : List Write) (asked : Result Request Refusal) (reply : Reply) (added : List Write) (mid : Bool) → (a i).broken ≡ true → MayTell (config i (a i).setup) known true asked reply mid → AddsAt asked reply added →
    (added ≡ []) × ((mid ≡ true) × Happen a (told_at i asked reply) a)
still_one a i known (Ok request) reply added mid broken may fit =
    let it = told_broken (config i (a i).setup) known request reply mid may in
    (broken_adds request reply added it.1 fit, (it.0, (a, broken_next a i request reply broken it.1, refl)))
still_one a i known (Err fault) reply added mid broken may fit = (fit, (still_broken (config i (a i).setup) known true mid fault reply may, refl))

still_all : (a : Knows) (i : ℕ) (known : List Write) (events : List Added) (is : Bool) → (a i).broken ≡ true → AllTold (config i (a i).setup) known true events is → AllByRecursion (λ event. AddsAt event.turn.asked event.turn.reply event.added) events → Still a i events is
still_all a i known [] is broken told fits = record { happen = refl; none = refl; broken = sym told }
still_all a i known (event ∷ events) is broken (mid, may, rest) (fit, fits) =
    let one = still_one a i known event.turn.asked event.turn.reply event.added mid broken may fit in
    let later = still_all a i (known ++ event.added) events is broken (subst (λ m. AllTold (config i (a i).setup) (known ++ event.added) m events is) one.1.0 rest) fits in
    record {
      happen = happen_append a a a (told_at i event.turn.asked event.turn.reply) (each_told i (map (λ event. event.turn) events)) one.1.1 later.happen;
      none = ap₂ (λ V W. V ++ W) one.0 later.none;
      broken = later.broken;
    }

-- ---- what was undone

pub among_later : (requests front more : List Request) → AreAmong requests more → AreAmong requests (front ++ more)
among_later [] [] more h = tt
among_later [] (r ∷ front) more h = tt
among_later (request ∷ requests) [] more h = h
among_later (request ∷ requests) (r ∷ front) more h = inr (among_later (request ∷ requests) front more h)

among_front : (requests front more : List Request) → AreAmong requests front → AreAmong requests (front ++ more)
among_front [] front more h = tt
among_front (request ∷ requests) [] more h = absurd h
among_front (request ∷ requests) (r ∷ front) more h = ⊎_elim
    (λ here. inl (here.0, among_front requests front more here.1))
    (λ later. inr (among_front (request ∷ requests) front more later))
    h

undone_is : (request : Request) (turn : Turn) → IsToldUndone request turn → IsUndone turn.reply
undone_is request turn h = ⊎_elim (λ e. subst IsUndone (sym e) tt) (λ e. subst IsUndone (sym e) tt) h.1

ok_is : (request other : Request) → ◌≡◌ {A = Result Request Refusal} (Ok request) (Ok other) → request ≡ other
ok_is request other e = cc

undone_first : (asked : Request) (reply : Reply) (turns : List Turn) (first rest : List Request) → (IsUndone reply → first ≡ asked ∷ []) → ((requests : List Request) → AreUndoneIn turns requests → AreAmong requests rest) →
    (requests : List Request) → AreUndoneIn (record { asked = Ok asked; reply = reply } ∷ turns) requests → AreAmong requests (first ++ rest)
undone_first asked reply turns first rest one others [] h = tt
undone_first asked reply turns first rest one others (request ∷ requests) h = ⊎_elim
    (λ here. subst (λ f. AreAmong (request ∷ requests) (f ++ rest)) (sym (one (undone_is request (record { asked = Ok asked; reply = reply }) here.0)))
    (inl (sym (ok_is asked request here.0.0), others requests here.1)))
    (λ later. among_later (request ∷ requests) first rest (others (request ∷ requests) later))
    h

undone_fault : (fault : Refusal) (reply : Reply) (turns : List Turn) (rest : List Request) → ((requests : List Request) → AreUndoneIn turns requests → AreAmong requests rest) →
    (requests : List Request) → AreUndoneIn (record { asked = Err fault; reply = reply } ∷ turns) requests → AreAmong requests rest
undone_fault fault reply turns rest others [] h = tt
undone_fault fault reply turns rest others (request ∷ requests) h = ⊎_elim
    (λ here. absurd (let e : ◌≡◌ {A = Result Request Refusal} (Err fault) (Ok request) = here.0.0 in cc))
    (λ later. others (request ∷ requests) later)
    h

none_undone : (requests : List Request) → AreUndoneIn [] requests → AreAmong requests []
none_undone [] h = tt
none_undone (request ∷ requests) h = absurd h

-- ---- the call in which a site broke, behind that

record Rest (a : Knows) (i : ℕ) (events : List Added) (is : Bool) : Type 0 where
  happen : Happen a (else_told i (map (λ event. event.turn) events)) a
  none : known_after_turns events ≡ []
  broken : is ≡ true
  undone : (requests : List Request) → AreUndoneIn (map (λ event. event.turn) events) requests → AreAmong requests (broken_in (map (λ event. event.turn) events))

-- nothing of it is known, and what was told 22 is kept in mind
record RestOne (a : Knows) (i : ℕ) (asked : Result Request Refusal) (reply : Reply) (added : List Write) (mid : Bool) : Type 0 where
  none : added ≡ []
  broken : mid ≡ true
  happen : Happen a (told_else_at i asked reply) a
  undone : (turns : List Turn) (rest : List Request) → ((requests : List Request) → AreUndoneIn turns requests → AreAmong requests rest) →
      (requests : List Request) → AreUndoneIn (record { asked = asked; reply = reply } ∷ turns) requests → AreAmong requests (broken_at asked reply ++ rest)

rest_one : (a : Knows) (i : ℕ) (c : ConfigValue) (known : List Write) (asked : Result Request Refusal) (reply : Reply) (added : List Write) (mid : Bool) → MayTell c known true asked reply mid → AddsAt asked reply added → RestOne a i asked reply added mid
rest_one a i c known (Ok request) reply added mid may fit =
    let it = told_broken c known request reply mid may in
    record {
      none = broken_adds request reply added it.1 fit;
      broken = it.0;
      happen = ⊎_elim
          (λ is. subst (λ r. Happen a (told_else_at i (Ok request) r) a) (sym is) refl)
          (λ is. subst (λ r. Happen a (told_else_at i (Ok request) r) a) (sym is) (a, memory_next a i request, refl))
          it.1;
      undone = λ turns rest. undone_first request reply turns (broken_at (Ok request) reply) rest
          (⊎_elim
          (λ is _. ap (λ r. broken_at (Ok request) r) is)
          (λ is undone. absurd (subst IsUndone is undone))
          it.1);
    }
rest_one a i c known (Err fault) reply added mid may fit = record {
  none = fit;
  broken = still_broken c known true mid fault reply may;
  happen = refl;
  undone = λ turns rest. undone_fault fault reply turns rest;
}

rest_all : (a : Knows) (i : ℕ) (c : ConfigValue) (known : List Write) (events : List Added) (is : Bool) → AllTold c known true events is → AllByRecursion (λ event. AddsAt event.turn.asked event.turn.reply event.added) events → Rest a i events is
rest_all a i c known [] is told fits = record { happen = refl; none = refl; broken = sym told; undone = none_undone }
rest_all a i c known (event ∷ events) is (mid, may, rest) (fit, fits) =
    let one = rest_one a i c known event.turn.asked event.turn.reply event.added mid may fit in
    let later = rest_all a i c (known ++ event.added) events is (subst (λ m. AllTold c (known ++ event.added) m events is) one.broken rest) fits in
    record {
      happen = happen_append a a a (told_else_at i event.turn.asked event.turn.reply) (else_told i (map (λ event. event.turn) events)) one.happen later.happen;
      none = ap₂ (λ V W. V ++ W) one.none later.none;
      broken = later.broken;
      undone = one.undone (map (λ event. event.turn) events) (broken_in (map (λ event. event.turn) events)) later.undone;
    }

-- ---- the replies of one call that are not 22

else_is : (i : ℕ) (request : Request) (reply : Reply) → reply ≢ Refused Broken → told_else_at i (Ok request) reply ≡ Told i request reply ∷ []
else_is i request (Refused Broken) other = absurd (other refl)
else_is i request reply other = refl

none_broken : (request : Request) (reply : Reply) → reply ≢ Refused Broken → broken_at (Ok request) reply ≡ []
none_broken request (Refused Broken) other = absurd (other refl)
none_broken request reply other = refl

-- a list of requests begins with one that would change a state
record BeginsWith (c : ConfigValue) (known : List Write) (requests : List Request) : Type 0 where
  first : Request
  behind : List Request
  is : requests ≡ first ∷ behind
  changes : ChangesKey c known first

abbrev BreaksBy : ConfigValue → List Write → List Request → Bool → Type 0
BreaksBy c known requests is = ((is ≡ false) × (requests ≡ [])) ⊎ ((is ≡ true) × BeginsWith c known requests)

record Within (a : Knows) (i : ℕ) (turns : List Turn) (added : List Write) (is : Bool) : Type 0 where
  mid : Knows
  happen : Happen a (else_told i turns) mid
  more : List Request
  at : mid i ≡ site_after (a i) added more false
  others : (j : ℕ) → j ≢ i → mid j ≡ a j
  breaks : BreaksBy (config i (a i).setup) ((a i).known ++ added) (broken_in turns) is
  undone : (requests : List Request) → AreUndoneIn turns requests → AreAmong requests (more ++ broken_in turns)

within_stays : (a : Knows) (i : ℕ) (request : Request) (reply : Reply) (turns : List Turn) (first rest : List Write) (is : Bool) (does : Stays (config i (a i).setup) (a i) request reply first) →
    Within (placed a i (site_after (a i) first does.more false)) i turns rest is → Within a i (record { asked = Ok request; reply = reply } ∷ turns) (first ++ rest) is
within_stays a i request reply turns first rest is does w =
    let t : Site = site_after (a i) first does.more false in
    let b : Knows = placed a i t in
    let here : b i ≡ t = placed_at a i t in
    let same : broken_in turns ≡ broken_at (Ok request) reply ++ broken_in turns = ap (λ l. l ++ broken_in turns) (sym (none_broken request reply does.other)) in
    record {
      mid = w.mid;
      happen = happen_append a b w.mid (told_else_at i (Ok request) reply) (else_told i turns)
          (subst (λ es. Happen a es b) (sym (else_is i request reply does.other)) (b, does_next a (Told i request reply) t does.next, refl)) w.happen;
      more = does.more ++ w.more;
      at = w.at ∙ ap (λ s. site_after s rest w.more false) here
          ∙ (λ k. record { setup = (a i).setup; known = append_assoc (a i).known first rest k; refused = append_assoc (a i).refused does.more w.more k; broken = false });
      others = λ j other. w.others j other ∙ placed_else a i t j other;
      breaks = subst (λ l. BreaksBy (config i (a i).setup) ((a i).known ++ (first ++ rest)) l is) same
          (subst (λ W. BreaksBy (config i (a i).setup) W (broken_in turns) is) (append_assoc (a i).known first rest)
          (subst (λ (s : Site). BreaksBy (config i s.setup) (s.known ++ rest) (broken_in turns) is) here w.breaks));
      undone = λ requests h. subst (AreAmong requests) (sym (append_assoc does.more w.more (broken_in turns)) ∙ ap (λ l. (does.more ++ w.more) ++ l) same)
          (undone_first request reply turns does.more (w.more ++ broken_in turns) does.undone w.undone requests h);
    }

within_breaks : (a : Knows) (i : ℕ) (request : Request) (events : List Added) (first : List Write) (is : Bool) → (a i).broken ≡ false → ChangesKey (config i (a i).setup) (a i).known request → first ≡ [] → Rest a i events is →
    Within a i (record { asked = Ok request; reply = Refused Broken } ∷ map (λ event. event.turn) events) (first ++ known_after_turns events) is
within_breaks a i request events first is whole changes none r =
    let turns : List Turn = map (λ event. event.turn) events in
    let nothing : first ++ known_after_turns events ≡ [] = ap₂ (λ V W. V ++ W) none r.none in
    let same : (a i).known ≡ (a i).known ++ (first ++ known_after_turns events) = sym (append-nil (a i).known) ∙ ap (λ W. (a i).known ++ W) (sym nothing) in
    record {
      mid = a;
      happen = r.happen;
      more = [];
      at = λ k. record { setup = (a i).setup; known = same k; refused = sym (append-nil (a i).refused) k; broken = whole k };
      others = λ j other. refl;
      breaks = inr (r.broken, record { first = request; behind = broken_in turns; is = refl; changes = subst (λ W. ChangesKey (config i (a i).setup) W request) same changes });
      undone = undone_first request (Refused Broken) turns (request ∷ []) (broken_in turns) (λ _. refl) r.undone;
    }

within_fault : (a : Knows) (i : ℕ) (fault : Refusal) (reply : Reply) (turns : List Turn) (added : List Write) (is : Bool) → Within a i turns added is → Within a i (record { asked = Err fault; reply = reply } ∷ turns) added is
within_fault a i fault reply turns added is w = record {
  mid = w.mid;
  happen = w.happen;
  more = w.more;
  at = w.at;
  others = w.others;
  breaks = w.breaks;
  undone = undone_fault fault reply turns (w.more ++ broken_in turns) w.undone;
}

within_turn : (a : Knows) (i : ℕ) (asked : Result Request Refusal) (reply : Reply) (added : List Write) (events : List Added) (mid is : Bool) → (a i).broken ≡ false → MayTell (config i (a i).setup) (a i).known false asked reply mid → AddsAt asked reply added →
    AllTold (config i (a i).setup) ((a i).known ++ added) mid events is → AllByRecursion (λ event. AddsAt event.turn.asked event.turn.reply event.added) events →
    ((b : Knows) → (b i).broken ≡ false → AllTold (config i (b i).setup) (b i).known false events is → Within b i (map (λ event. event.turn) events) (known_after_turns events) is) →
    Within a i (record { asked = asked; reply = reply } ∷ map (λ event. event.turn) events) (added ++ known_after_turns events) is
within_turn a i (Ok request) reply added events mid is whole may fit rest fits later =
    let c : ConfigValue = config i (a i).setup in
    elim (stays_or_breaks c (a i) request reply added mid whole may fit) [
      | inl (still, does) ↦
          let t : Site = site_after (a i) added does.more false in
          let here : placed a i t i ≡ t = placed_at a i t in
          within_stays a i request reply (map (λ event. event.turn) events) added (known_after_turns events) is does
          (later (placed a i t) (ap (λ (s : Site). s.broken) here)
          (subst (λ (s : Site). AllTold (config i s.setup) s.known false events is) (sym here)
          (subst (λ m. AllTold c ((a i).known ++ added) m events is) still rest)))
      | inr (broken, does) ↦
          subst (λ r. Within a i (record { asked = Ok request; reply = r } ∷ map (λ event. event.turn) events) (added ++ known_after_turns events) is) (sym does.told)
          (within_breaks a i request events added is whole does.changes (refused_adds request reply Broken added does.told fit)
          (rest_all a i c ((a i).known ++ added) events is (subst (λ m. AllTold c ((a i).known ++ added) m events is) broken rest) fits))
    ]
within_turn a i (Err fault) reply added events mid is whole may fit rest fits later =
    subst (λ W. Within a i (record { asked = Err fault; reply = reply } ∷ map (λ event. event.turn) events) W is) (ap (λ W. W ++ known_after_turns events) (sym fit))
    (within_fault a i fault reply (map (λ event. event.turn) events) (known_after_turns events) is
    (later a whole (subst₂ (λ W b. AllTold (config i (a i).setup) W b events is) (ap (λ W. (a i).known ++ W) fit ∙ append-nil (a i).known) (still_broken (config i (a i).setup) (a i).known false mid fault reply may) rest)))

within_all : (a : Knows) (i : ℕ) (events : List Added) (is : Bool) → (a i).broken ≡ false → AllTold (config i (a i).setup) (a i).known false events is → AllByRecursion (λ event. AddsAt event.turn.asked event.turn.reply event.added) events →
    Within a i (map (λ event. event.turn) events) (known_after_turns events) is
within_all a i [] is whole told fits = record {
  mid = a;
  happen = refl;
  more = [];
  at = λ k. record { setup = (a i).setup; known = sym (append-nil (a i).known) k; refused = sym (append-nil (a i).refused) k; broken = whole k };
  others = λ j other. refl;
  breaks = inl (sym told, refl);
  undone = none_undone;
}
within_all a i (event ∷ events) is whole (mid, may, rest) (fit, fits) =
    within_turn a i event.turn.asked event.turn.reply event.added events mid is whole may fit rest fits (λ b sound told. within_all b i events is sound told fits)

-- ---- one call

record Call (a : Knows) (i : ℕ) (turns : List Turn) (added : List Write) (is : Bool) : Type 0 where
  end : Knows
  happen : Happen a (else_told i turns ++ broke_with i (broken_in turns)) end
  more : List Request
  at : end i ≡ site_after (a i) added more is
  others : (j : ℕ) → j ≢ i → end j ≡ a j
  flag : is_broken_by (broken_in turns) ≡ is
  undone : (requests : List Request) → AreUndoneIn turns requests → AreAmong requests more

call_whole : (a : Knows) (i : ℕ) (turns : List Turn) (added : List Write) (is : Bool) → Within a i turns added is → is ≡ false → broken_in turns ≡ [] → Call a i turns added is
call_whole a i turns added is w whole none = record {
  end = w.mid;
  happen = subst (λ l. Happen a (else_told i turns ++ broke_with i l) w.mid) (sym none) (subst (λ es. Happen a es w.mid) (sym (append-nil (else_told i turns))) w.happen);
  more = w.more;
  at = w.at ∙ (λ k. site_after (a i) added w.more (sym whole k));
  others = w.others;
  flag = ap is_broken_by none ∙ sym whole;
  undone = λ requests h. subst (AreAmong requests) (ap (λ l. w.more ++ l) none ∙ append-nil w.more) (w.undone requests h);
}

call_broken : (a : Knows) (i : ℕ) (turns : List Turn) (added : List Write) (is : Bool) → Within a i turns added is → is ≡ true → BeginsWith (config i (a i).setup) ((a i).known ++ added) (broken_in turns) → Call a i turns added is
call_broken a i turns added is w broken begins =
    let requests : List Request = begins.first ∷ begins.behind in
    let t : Site = site_after (a i) added (w.more ++ requests) true in
    let end : Knows = placed w.mid i t in
    let breaks : Breaks (config i (w.mid i).setup) (w.mid i) requests t = subst (λ (s : Site). Breaks (config i s.setup) s requests t) (sym w.at)
    (refl, begins.changes, λ k. record { setup = (a i).setup; known = (a i).known ++ added; refused = sym (append_assoc (a i).refused w.more requests) k; broken = true }) in
    record {
      end = end;
      happen = happen_append a w.mid end (else_told i turns) (broke_with i (broken_in turns)) w.happen
          (subst (λ l. Happen w.mid (broke_with i l) end) (sym begins.is) (end, does_next w.mid (Broke i requests) t breaks, refl));
      more = w.more ++ broken_in turns;
      at = placed_at w.mid i t ∙ (λ k. site_after (a i) added (w.more ++ sym begins.is k) (sym broken k));
      others = λ j other. placed_else w.mid i t j other ∙ w.others j other;
      flag = ap is_broken_by begins.is ∙ sym broken;
      undone = w.undone;
    }

call_of : (a : Knows) (i : ℕ) (turns : List Turn) (added : List Write) (is : Bool) → Within a i turns added is → Call a i turns added is
call_of a i turns added is w = ⊎_elim (λ h. call_whole a i turns added is w h.0 h.1) (λ h. call_broken a i turns added is w h.0 h.1) w.breaks

-- ---- one call after the other

told_split : (c : ConfigValue) (known : List Write) (was is : Bool) (es fs : List Added) → AllTold c known was (es ++ fs) is → (m : Bool) × (AllTold c known was es m × AllTold c (known ++ known_after_turns es) m fs is)
told_split c known was is [] fs told = (was, (refl, subst (λ W. AllTold c W was fs is) (sym (append-nil known)) told))
told_split c known was is (e ∷ es) fs (mid, may, rest) =
    let later = told_split c (known ++ e.added) mid is es fs rest in
    (later.0, ((mid, may, later.1.0), subst (λ W. AllTold c W later.0 fs is) (append_assoc known e.added (known_after_turns es)) later.1.1))

-- the store after calls that added this and left the site so
record Goes (a : Knows) (i : ℕ) (was : Bool) (calls : List (List Turn)) (added : List Write) (is : Bool) : Type 0 where
  end : Knows
  happen : Happen a (events_of i was calls) end
  more : List Request
  at : end i ≡ site_after (a i) added more is
  others : (j : ℕ) → j ≢ i → end j ≡ a j
  undone : was ≡ false → (requests : List Request) → AreUndoneAtOnce calls requests → AreAmong requests more

else_at : (asked : Result Request Refusal) (reply : Reply) → IsToldElse (record { asked = asked; reply = reply }) → broken_at asked reply ≡ []
else_at (Ok request) (Refused Broken) told = absurd (told request (refl, refl))
else_at asked reply told = refl

else_none : (turns : List Turn) → AllByRecursion IsToldElse turns → broken_in turns ≡ []
else_none [] told = refl
else_none (turn ∷ turns) told = ap₂ (λ l m. l ++ m) (else_at turn.asked turn.reply told.0) (else_none turns told.1)

goes_call : (a : Knows) (i : ℕ) (turns : List Turn) (calls : List (List Turn)) (first rest : List Write) (m is : Bool) (call : Call a i turns first m) → Goes call.end i m calls rest is → Goes a i false (turns ∷ calls) (first ++ rest) is
goes_call a i turns calls first rest m is call g = record {
  end = g.end;
  happen = happen_append a call.end g.end (else_told i turns ++ broke_with i (broken_in turns)) (events_of i (is_broken_by (broken_in turns)) calls) call.happen
      (subst (λ b. Happen call.end (events_of i b calls) g.end) (sym call.flag) g.happen);
  more = call.more ++ g.more;
  at = g.at ∙ ap (λ s. site_after s rest g.more is) call.at
      ∙ (λ k. record { setup = (a i).setup; known = append_assoc (a i).known first rest k; refused = append_assoc (a i).refused call.more g.more k; broken = is });
  others = λ j other. g.others j other ∙ call.others j other;
  undone = λ _ requests h. ⊎_elim
      (λ here. among_front requests call.more g.more (call.undone requests here))
      (λ later. among_later requests call.more g.more (g.undone (sym call.flag ∙ ap is_broken_by (else_none turns later.0)) requests later.1))
      h;
}

each_append : (i : ℕ) (first second : List Turn) → each_told i (first ++ second) ≡ each_told i first ++ each_told i second
each_append i [] second = refl
each_append i (turn ∷ first) second =
    ap (λ es. told_at i turn.asked turn.reply ++ es) (each_append i first second) ∙ sym (append_assoc (told_at i turn.asked turn.reply) (each_told i first) (each_told i second))

each_in : (i : ℕ) (calls : List (List Turn)) → each_told i (all_turns calls) ≡ events_of i true calls
each_in i [] = refl
each_in i (turns ∷ calls) = each_append i turns (all_turns calls) ∙ ap (λ es. each_told i turns ++ es) (each_in i calls)

goes_broken : (a : Knows) (i : ℕ) (calls : List (List Turn)) (events : List Added) (is : Bool) → (a i).broken ≡ true → AllTold (config i (a i).setup) (a i).known true events is → TellsTurns events (all_turns calls) → Goes a i true calls (known_after_turns events) is
goes_broken a i calls events is broken told tells =
    let still = still_all a i (a i).known events is broken told tells.fits in
    record {
      end = a;
      happen = subst (λ es. Happen a es a) (ap (each_told i) tells.told ∙ each_in i calls) still.happen;
      more = [];
      at = λ k. record {
        setup = (a i).setup;
        known = (sym (append-nil (a i).known) ∙ ap (λ W. (a i).known ++ W) (sym still.none)) k;
        refused = sym (append-nil (a i).refused) k;
        broken = (broken ∙ sym still.broken) k;
      };
      others = λ j other. refl;
      undone = λ was requests h. absurd (true≢false was);
    }

goes_from : (a : Knows) (i : ℕ) (was : Bool) (calls : List (List Turn)) (events : List Added) (is : Bool) → (a i).broken ≡ was → AllTold (config i (a i).setup) (a i).known was events is → TellsTurns events (all_turns calls) → Goes a i was calls (known_after_turns events) is
goes_from a i true calls events is broken told tells = goes_broken a i calls events is broken told tells
goes_from a i false [] [] is whole told tells = record {
  end = a;
  happen = refl;
  more = [];
  at = λ k. record { setup = (a i).setup; known = sym (append-nil (a i).known) k; refused = sym (append-nil (a i).refused) k; broken = (whole ∙ told) k };
  others = λ j other. refl;
  undone = λ _ requests none. subst (λ l. AreAmong l []) (sym none) tt;
}
goes_from a i false [] (e ∷ es) is whole told tells = absurd (let some : ◌≡◌ {A = List Turn} (e.turn ∷ map (λ event. event.turn) es) [] = tells.told in cc)
goes_from a i false (turns ∷ calls) events is whole told tells =
    let c : ConfigValue = config i (a i).setup in
    let p : Split events turns (all_turns calls) = split turns (all_turns calls) events tells in
    let parts = told_split c (a i).known false is p.before p.after (subst (λ es. AllTold c (a i).known false es is) p.all told) in
    let call : Call a i turns (known_after_turns p.before) parts.0 = call_of a i turns (known_after_turns p.before) parts.0
    (subst (λ ts. Within a i ts (known_after_turns p.before) parts.0) p.one.told (within_all a i p.before parts.0 whole parts.1.0 p.one.fits)) in
    let g : Goes call.end i parts.0 calls (known_after_turns p.after) is = goes_from call.end i parts.0 calls p.after is (ap (λ (s : Site). s.broken) call.at)
    (subst (λ (s : Site). AllTold (config i s.setup) s.known parts.0 p.after is) (sym call.at) parts.1.1) p.other in
    let grown : known_after_turns events ≡ known_after_turns p.before ++ known_after_turns p.after = ap known_after_turns p.all ∙ flat_map-append (λ (e : Added). e.added) p.before p.after in
    subst (λ W. Goes a i false (turns ∷ calls) W is) (sym grown) (goes_call a i turns calls (known_after_turns p.before) (known_after_turns p.after) parts.0 is call g)

-- ---- turns of a site

pub come : (a : Knows) (i : ℕ) (calls : List (List Turn)) (old new : SiteValue) → AreTurns (all_turns calls) old new → IsSiteKnown a i old → AreEvents a i calls new
come a i calls old new are site =
    let events = are.choice.0 in
    let tells = are.choice.1 in
    let told : AllTold old.config (a i).known old.broken events new.broken = (are.replies (a i).known events (λ _. site.stands) tells).0 in
    let g : Goes a i (a i).broken calls (known_after_turns events) new.broken =
    goes_from a i (a i).broken calls events new.broken refl (subst₂ (λ c b. AllTold c (a i).known b events new.broken) site.config site.broken told) tells in
    record {
      end = g.end;
      happen = g.happen;
      site = record {
        config = are.config ∙ site.config ∙ ap (λ (s : Site). config i s.setup) (sym g.at);
        broken = ap (λ (s : Site). s.broken) (sym g.at);
        stands = subst (Stands new.states) (ap (λ (s : Site). s.known) (sym g.at)) (are.stands (a i).known events site.stands tells);
      };
      others = g.others;
      refused = λ whole undone are_undone. subst (AreAmong undone) (ap (λ (s : Site). s.refused) (sym g.at)) (among_later undone (a i).refused g.more (g.undone whole undone are_undone));
    }

-- ---- what a whole site tells to a question

asks_nothing : (request : Request) (reply : Reply) → is_question request ≡ true → Adds request reply []
asks_nothing (Get key) reply asks = refl
asks_nothing (Put key seen document) reply asks = absurd (cc)
asks_nothing (Delete key seen) reply asks = absurd (cc)
asks_nothing (Push key pushed) reply asks = absurd (cc)
asks_nothing request reply asks = refl

-- what adds nothing changes nothing
told_still : (a : Knows) (i : ℕ) (request : Request) (reply : Reply) → (a i).broken ≡ false → reply ≡ answer (config i (a i).setup) (a i).known request → Adds request reply [] → Next a (Told i request reply) a
told_still a i request reply whole told adds = (
  inl (
    whole,
    told,
    [],
    adds,
    λ k. record { setup = (a i).setup; known = sym (append-nil (a i).known) k; refused = (a i).refused; broken = (a i).broken },
  ),
  λ j other. refl,
)

answered_at : (a : Knows) (i : ℕ) (site : SiteValue) (request : Request) → IsSiteKnown a i site → answer_from site.config site.states request ≡ answer (config i (a i).setup) (a i).known request
answered_at a i site request is = answered site.config site.states (a i).known request is.stands ∙ ap (λ c. answer c (a i).known request) is.config

pub tells_state : (a : Knows) (i : ℕ) (site : SiteValue) (key : Key) → IsSiteKnown a i site → site.broken ≡ false → Next a (Told i (Get key) (Shown (state_at site.states key))) a
tells_state a i site key is whole =
    told_still a i (Get key) (Shown (state_at site.states key)) (sym is.broken ∙ whole) (answered_at a i site (Get key) is) refl

pub tells_question : (a : Knows) (i : ℕ) (site : SiteValue) (request : Request) (told : Reply) → IsSiteKnown a i site → site.broken ≡ false → is_question request ≡ true → TellsAnswer site request told → Next a (Told i request told) a
tells_question a i site request told is whole asks (inl answer) =
    told_still a i request told (sym is.broken ∙ whole)
    (answer ∙ ap (λ b. unless_broken b (Refused Broken) (answer_from site.config site.states request)) whole ∙ answered_at a i site request is) (asks_nothing request told asks)
tells_question a i site request told is whole asks (inr memory) =
    (inr (subst (λ r. Refuses (config i (a i).setup) (a i) request r (a i)) (sym memory.1) refl), λ j other. refl)
