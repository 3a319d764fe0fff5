-- Where each state that is pushed was told before, the writes that made it so may be taken for what it brings.
use Rattle.std.proofs.Common.{◌≡◌, ◌≢◌, ◌⊎◌, ℕ, Bool, true, false, cond, IsSomeAnd, List, [], ◌∷◌, ◌++◌, Contains, filter, bytes_eq, refl, sym, ap, ap₂, ◌∙◌, subst, inl, inr, true≢false, ⊎_elim}
use Rattle.std.specs.List.{AllByRecursion}
use Rattle.std.specs.Ordering.{eq_by_cmp}
use Rattle.std.proofs.lemmas.List.Elements.{Contains-append_left}
use Rattle.std.proofs.lemmas.Bool.Decides.{eqb_tells}
use Rattle.std.proofs.lemmas.Slice.Eq.{bytes_eq-Decides}
use Rattle.mvd_dots.specs.declared.refusals.Refusal.TheVariants.{Broken, Memory, Store}
use Rattle.mvd_keys.specs.Key.{key_cmp}
use Rattle.mvd_keys.specs.State.{State, join}
use Rattle.mvd_keys.specs.Writes.{AreOf, Key, Stands, Write, key_of, state, writes_of}
use Rattle.mvd_keys.proofs.Sets.{Contains-either, Contains-head, Contains-later, none_empty}
use Rattle.mvd_keys.proofs.Standing.{AreOf-writes_of, held-same, state-own}
use Rattle.mvd_keys.proofs.StatesOfWrites.{join-state, state-untouched}
use Rattle.mvd_wire.specs.declared.request.Request.{Request}
use Rattle.mvd_wire.specs.declared.request.Request.TheVariants.{Get, Push}
use Rattle.mvd_wire.specs.declared.reply.Reply.{Reply}
use Rattle.mvd_wire.specs.declared.reply.Reply.TheVariants.{Done, Refused, State as Shown}
use Rattle.mvd_kept.specs.Answer.{answer, change_of, state_at, states_of}
use Rattle.mvd_kept.specs.Config.{ConfigValue}
use Rattle.mvd_kept.specs.Known.{Adds, ChangesKey}
use Rattle.mvd_kept.proofs.Answered.{answered, changed_alike}
use Rattle.mvd_kept.proofs.KnownKeys.{states_of-stands}
use Rattle.mvd_kept.proofs.Steps.{state_known}
use Rattle.mvd_model.specs.TheStore.{AddAll, Answers, AreAmong, Breaks, Broke, Event, Happen, Knows, Next, Opened, Refuses, Setup, Site, Told, config}
use Rattle.mvd_model.specs.Handed.{AllBring, AreHanded, Brings, Handed, IsHanded, IsPairIn, IsSame, IsToldPush, PushTold, knows, nothing_known}
use Rattle.mvd_model.proofs.Runs.{next_grows}
use Rattle.mvd_model.proofs.Placing.{placed, placed_at, placed_else}

-- ---- the same states, the same answers

abbrev AreSame : List Write → List Write → Type 0
AreSame V W = (key : Key) → state key V ≡ state key W

stands_same : (V W : List Write) → AreSame V W → Stands (states_of V) W
stands_same V W same = record { at = λ key. (states_of-stands V).at key ∙ held-same key V W (same key) }

answer_same : (c : ConfigValue) (V W : List Write) (request : Request) → AreSame V W → answer c V request ≡ answer c W request
answer_same c V W request same = sym (answered c (states_of V) V request (states_of-stands V)) ∙ answered c (states_of V) W request (stands_same V W same)

changes_same : (c : ConfigValue) (V W : List Write) (request : Request) → AreSame V W → ChangesKey c V request → ChangesKey c W request
changes_same c V W request same changes =
    subst (λ (f : Key → State). IsSomeAnd (change_of W request (answer c W request)) (λ change. change.1 ≢ f change.0)) (λ k key. same key k)
    (subst (λ o. IsSomeAnd o (λ change. change.1 ≢ state change.0 V))
    (sym (changed_alike c (states_of V) V request (states_of-stands V)) ∙ changed_alike c (states_of V) W request (stands_same V W same)) changes)

more_same : (V W A B : List Write) → AreSame V W → AreSame A B → AreSame (V ++ A) (W ++ B)
more_same V W A B same added key = sym (join-state key V A) ∙ ap₂ join (same key) (added key) ∙ join-state key W B

none_of : (other key : Key) (A : List Write) → (other ≡ key → ⊥) → AreOf key A → state other A ≡ state other []
none_of other key A apart own = state-untouched other key [] A apart own

of_key_same : (key : Key) (A B : List Write) → AreOf key A → AreOf key B → state key A ≡ state key B → AreSame A B
of_key_same key A B first second here other =
    let tells = bytes_eq-Decides other key in
    elim (bytes_eq other key) as (λ b. bytes_eq other key ≡ b → state other A ≡ state other B) [
      | true ↦ λ e. subst (λ k. state k A ≡ state k B) (sym (tells.0 e)) here
      | false ↦ λ e.
          let apart : other ≡ key → ⊥ = λ is. true≢false (sym (tells.1 is) ∙ e) in
          none_of other key A apart first ∙ sym (none_of other key B apart second)
    ] refl

-- ---- what was told

in_filter : (p : Write → Bool) (W : List Write) (w : Write) → Contains (filter p W) w → Contains W w
in_filter p [] w here = here
in_filter p (v ∷ W) w here =
    elim (p v) as (λ b. Contains (cond b (v ∷ filter p W) (filter p W)) w → Contains (v ∷ W) w) [
      | true ↦ λ here. ⊎_elim (λ e. subst (Contains (v ∷ W)) e (Contains-head v W)) (λ later. Contains-later w v W (in_filter p W w later)) (Contains-either w v (filter p W) here)
      | false ↦ λ here. Contains-later w v W (in_filter p W w here)
    ] here

-- writes that some site knows, of which this is the state
pub record IsPast (known : ℕ → List Write) (key : Key) (s : State) : Type 0 where
  pub site : ℕ
  pub writes : List Write
  pub part : (w : Write) → Contains writes w → Contains (known site) w
  pub of_key : AreOf key writes
  pub is : state key writes ≡ s

abbrev ArePast : (ℕ → List Write) → List (Key × State) → Type 0
ArePast known told = (key : Key) (s : State) → IsPairIn told (key, s) → IsPast known key s

past_now : (known : ℕ → List Write) (i : ℕ) (key : Key) → IsPast known key (state key (known i))
past_now known i key = record {
  site = i;
  writes = writes_of key (known i);
  part = λ w here. in_filter (λ write. eq_by_cmp key_cmp key (key_of write)) (known i) w here;
  of_key = AreOf-writes_of key (known i);
  is = sym (state-own key (known i));
}

past_next : (a b : Knows) (event : Event) (told : List (Key × State)) → Next a event b → ArePast (knows a) told → ArePast (knows b) told
past_next a b event told next past key s here =
    let it = past key s here in
    record {
      site = it.site;
      writes = it.writes;
      part = λ w in_it. subst (λ W. Contains W w) (sym (next_grows a event b next it.site).1) (Contains-append_left (knows a it.site) (next_grows a event b next it.site).0 w (it.part w in_it));
      of_key = it.of_key;
      is = it.is;
    }

-- ---- what a request may be taken to add

record Chosen (known : ℕ → List Write) (request : Request) (reply : Reply) (added : List Write) : Type 0 where
  other : List Write
  adds : Adds request reply other
  same : AreSame added other
  handed : IsHanded known request other

no_writes : (w : Write) (known : ℕ → List Write) → Contains [] w → (j : ℕ) × Contains (known j) w
no_writes w known here = absurd (none_empty w here)

choose_push : (known : ℕ → List Write) (key : Key) (pushed : State) (reply : Reply) (added : List Write) → IsPast known key pushed → Adds (Push key pushed) reply added → Chosen known (Push key pushed) reply added
choose_push known key pushed Done added past adds = record {
  other = past.writes;
  adds = (past.of_key, past.is);
  same = of_key_same key added past.writes adds.0 past.of_key (adds.1 ∙ sym past.is);
  handed = λ w here. (past.site, past.part w here);
}
choose_push known key pushed reply added past adds = record { other = []; adds = refl; same = λ k. ap (state k) adds; handed = λ w here. no_writes w known here }

choose : (known : ℕ → List Write) (told : List (Key × State)) (request : Request) (reply : Reply) (added : List Write) → ArePast known told → IsToldPush told request → Adds request reply added → Chosen known request reply added
choose known told (Push key pushed) reply added past is adds = choose_push known key pushed reply added (past key pushed is) adds
choose known told request reply added past is adds = record { other = added; adds = adds; same = λ k. refl; handed = tt }

record ChosenAll (known : ℕ → List Write) (c : ConfigValue) (here : List Write) (requests : List Request) (added : List Write) : Type 0 where
  other : List Write
  all : AddAll c here requests other
  same : AreSame added other
  handed : AreHanded known c here requests other all

choose_all : (known : ℕ → List Write) (told : List (Key × State)) (c : ConfigValue) (V W : List Write) (requests : List Request) (added : List Write) → ArePast known told → AreSame V W → AllByRecursion (IsToldPush told) requests → AddAll c V requests added →
    ChosenAll known c W requests added
choose_all known told c V W [] added past same are all = record { other = []; all = refl; same = λ k. ap (state k) all; handed = tt }
choose_all known told c V W (request ∷ requests) added past same (is, are) (first, rest, all, one, others) =
    let mine = choose known told request (answer c W request) first past is (subst (λ r. Adds request r first) (answer_same c V W request same) one) in
    let later = choose_all known told c (V ++ first) (W ++ mine.other) requests rest past (more_same V W first mine.other same mine.same) are others in
    record {
      other = mine.other ++ later.other;
      all = (mine.other, later.other, refl, mine.adds, later.all);
      same = λ k. ap (state k) all ∙ more_same first mine.other rest later.other mine.same later.same k;
      handed = (mine.handed, later.handed);
    }

-- ---- one event

abbrev RefusedTold : List (Key × State) → Knows → Type 0
RefusedTold told a = (i : ℕ) → AllByRecursion (IsToldPush told) (a i).refused

told_among : (told : List (Key × State)) (requests those : List Request) → AreAmong requests those → AllByRecursion (IsToldPush told) those → AllByRecursion (IsToldPush told) requests
told_among told [] those among all = tt
told_among told (request ∷ requests) [] among all = absurd among
told_among told (request ∷ requests) (other ∷ those) (inl (is, later)) (first, all) = (subst (IsToldPush told) (sym is) first, told_among told requests those later all)
told_among told (request ∷ requests) (other ∷ those) (inr later) (first, all) = told_among told (request ∷ requests) those later all

told_push : (told : List (Key × State)) (requests : List Request) (request : Request) → AllByRecursion (IsToldPush told) requests → IsToldPush told request → AllByRecursion (IsToldPush told) (requests ++ request ∷ [])
told_push told [] request all is = (is, tt)
told_push told (r ∷ requests) request all is = (all.0, told_push told requests request all.1 is)

told_both : (told : List (Key × State)) (requests more : List Request) → AllByRecursion (IsToldPush told) requests → AllByRecursion (IsToldPush told) more → AllByRecursion (IsToldPush told) (requests ++ more)
told_both told [] more all too = too
told_both told (r ∷ requests) more all too = (all.0, told_both told requests more all.1 too)

-- the other run's next step
record Steps (a' : Knows) (event : Event) (told : List (Key × State)) (b : Knows) : Type 0 where
  other : Knows
  next : Next a' event other
  brings : Brings a' event other next
  same : (i : ℕ) → IsSame (b i) (other i)
  refused : RefusedTold told b

at_every : (P : Site → Site → Type 0) (a a' b : Knows) (i : ℕ) (t : Site) → P (b i) t → ((j : ℕ) → P (a j) (a' j)) → ((j : ℕ) → j ≢ i → b j ≡ a j) → (j : ℕ) → P (b j) (placed a' i t j)
at_every P a a' b i t here all others j = ⊎_elim
    (λ same. subst (λ n. P (b n) (placed a' i t n)) (sym same.1) (subst (P (b i)) (sym (placed_at a' i t)) here))
    (λ other. subst (λ s. P s (placed a' i t j)) (sym (others j other.1)) (subst (P (a j)) (sym (placed_else a' i t j other.1)) (all j)))
    (eqb_tells j i)

same_answer : (i : ℕ) (s t : Site) (request : Request) → IsSame s t → answer (config i s.setup) s.known request ≡ answer (config i t.setup) t.known request
same_answer i s t request same = answer_same (config i s.setup) s.known t.known request same.states ∙ ap (λ setup. answer (config i setup) t.known request) same.setup

same_changes : (i : ℕ) (s t : Site) (request : Request) → IsSame s t → ChangesKey (config i s.setup) s.known request → ChangesKey (config i t.setup) t.known request
same_changes i s t request same changes = subst (λ setup. ChangesKey (config i setup) t.known request) same.setup (changes_same (config i s.setup) s.known t.known request same.states changes)

record Refusing (i : ℕ) (told : List (Key × State)) (s' : Site) (request : Request) (reply : Reply) (after : Site) : Type 0 where
  other : Site
  refuses : Refuses (config i s'.setup) s' request reply other
  same : IsSame after other
  all : AllByRecursion (IsToldPush told) after.refused

abbrev refused_more : Site → List Request → Bool → Site
refused_more s more broken = record { setup = s.setup; known = s.known; refused = s.refused ++ more; broken = broken }

more_refused : (s s' after : Site) (more : List Request) (broken broken' : Bool) → IsSame s s' → broken ≡ broken' → after ≡ refused_more s more broken → IsSame after (refused_more s' more broken')
more_refused s s' after more broken broken' same b is = subst (λ t. IsSame t (refused_more s' more broken')) (sym is)
    (record { setup = same.setup; refused = ap (λ rs. rs ++ more) same.refused; broken = b; states = same.states })

refusing : (i : ℕ) (told : List (Key × State)) (s s' : Site) (request : Request) (reply : Reply) (after : Site) → IsSame s s' → AllByRecursion (IsToldPush told) s.refused → IsToldPush told request → Refuses (config i s.setup) s request reply after → Refusing i told s' request reply after
refusing i told s s' request (Refused Memory) after same all is_told h = record {
  other = s';
  refuses = refl;
  same = subst (λ t. IsSame t s') (sym h) same;
  all = subst (λ (t : Site). AllByRecursion (IsToldPush told) t.refused) (sym h) all;
}
refusing i told s s' request (Refused Store) after same all is_told (whole, changes, is) = record {
  other = refused_more s' (request ∷ []) s'.broken;
  refuses = (sym same.broken ∙ whole, same_changes i s s' request same changes, refl);
  same = more_refused s s' after (request ∷ []) s.broken s'.broken same same.broken is;
  all = subst (λ (t : Site). AllByRecursion (IsToldPush told) t.refused) (sym is) (told_push told s.refused request all is_told);
}
refusing i told s s' request (Refused Broken) after same all is_told (broken, is) = record {
  other = s';
  refuses = (sym same.broken ∙ broken, refl);
  same = subst (λ t. IsSame t s') (sym is) same;
  all = subst (λ (t : Site). AllByRecursion (IsToldPush told) t.refused) (sym is) all;
}
refusing i told s s' request reply after same all is_told h = absurd h

record Breaking (i : ℕ) (told : List (Key × State)) (s' : Site) (requests : List Request) (after : Site) : Type 0 where
  other : Site
  breaks : Breaks (config i s'.setup) s' requests other
  same : IsSame after other
  all : AllByRecursion (IsToldPush told) after.refused

breaking : (i : ℕ) (told : List (Key × State)) (s s' : Site) (requests : List Request) (after : Site) → IsSame s s' → AllByRecursion (IsToldPush told) s.refused → AllByRecursion (IsToldPush told) requests → Breaks (config i s.setup) s requests after → Breaking i told s' requests after
breaking i told s s' [] after same all are_told h = absurd h
breaking i told s s' (request ∷ behind) after same all are_told (whole, changes, is) = record {
  other = refused_more s' (request ∷ behind) true;
  breaks = (sym same.broken ∙ whole, same_changes i s s' request same changes, refl);
  same = more_refused s s' after (request ∷ behind) true true same refl is;
  all = subst (λ (t : Site). AllByRecursion (IsToldPush told) t.refused) (sym is) (told_both told s.refused (request ∷ behind) all are_told);
}

module _ (a a' b : Knows) (i : ℕ) (told : List (Key × State)) (same : (j : ℕ) → IsSame (a j) (a' j)) (past : ArePast (knows a') told) (refused : RefusedTold told a) (others : (j : ℕ) → j ≢ i → b j ≡ a j) where
  refused_every : AllByRecursion (IsToldPush told) (b i).refused → RefusedTold told b
  refused_every here j = ⊎_elim
      (λ is. subst (λ n. AllByRecursion (IsToldPush told) (b n).refused) (sym is.1) here)
      (λ other. subst (λ (s : Site). AllByRecursion (IsToldPush told) s.refused) (sym (others j other.1)) (refused j))
      (eqb_tells j i)

  step_told : (request : Request) (reply : Reply) → IsToldPush told request → Answers (config i (a i).setup) (a i) request reply (b i) ⊎ Refuses (config i (a i).setup) (a i) request reply (b i) → Steps a' (Told i request reply) told b
  step_told request reply is_told (inl (whole, answers, added, adds, is)) =
      let c = choose (knows a') told request reply added past is_told adds in
      let t : Site = record { setup = (a' i).setup; known = (a' i).known ++ c.other; refused = (a' i).refused; broken = (a' i).broken } in
      record {
        other = placed a' i t;
        next = (
          inl (sym (same i).broken ∙ whole, answers ∙ same_answer i (a i) (a' i) request (same i), c.other, c.adds, placed_at a' i t),
          λ j other. placed_else a' i t j other,
        );
        brings = c.handed;
        same = at_every IsSame a a' b i t
            (subst (λ s. IsSame s t) (sym is) (record { setup = (same i).setup; refused = (same i).refused; broken = (same i).broken; states = more_same (a i).known (a' i).known added c.other (same i).states c.same }))
            same others;
        refused = refused_every (subst (λ (s : Site). AllByRecursion (IsToldPush told) s.refused) (sym is) (refused i));
      }
  step_told request reply is_told (inr h) =
      let r = refusing i told (a i) (a' i) request reply (b i) (same i) (refused i) is_told h in
      record {
        other = placed a' i r.other;
        next = (inr (subst (λ s. Refuses (config i (a' i).setup) (a' i) request reply s) (sym (placed_at a' i r.other)) r.refuses), λ j other. placed_else a' i r.other j other);
        brings = tt;
        same = at_every IsSame a a' b i r.other r.same same others;
        refused = refused_every r.all;
      }

  step_broke : (requests : List Request) → AllByRecursion (IsToldPush told) requests → Breaks (config i (a i).setup) (a i) requests (b i) → Steps a' (Broke i requests) told b
  step_broke requests are_told h =
      let r = breaking i told (a i) (a' i) requests (b i) (same i) (refused i) are_told h in
      record {
        other = placed a' i r.other;
        next = (subst (λ s. Breaks (config i (a' i).setup) (a' i) requests s) (sym (placed_at a' i r.other)) r.breaks, λ j other. placed_else a' i r.other j other);
        brings = tt;
        same = at_every IsSame a a' b i r.other r.same same others;
        refused = refused_every r.all;
      }

  step_opened : (setup : Setup) (some : List Request) (added : List Write) → AreAmong some (a i).refused → AddAll (config i (a i).setup) (a i).known some added →
      b i ≡ record { setup = setup; known = (a i).known ++ added; refused = []; broken = false } → Steps a' (Opened i setup some) told b
  step_opened setup some added among all is =
      let c = choose_all (knows a') told (config i (a' i).setup) (a i).known (a' i).known some added past (same i).states (told_among told some (a i).refused among (refused i))
      (subst (λ s. AddAll (config i s) (a i).known some added) (same i).setup all) in
      let t : Site = record { setup = setup; known = (a' i).known ++ c.other; refused = []; broken = false } in
      record {
        other = placed a' i t;
        next = ((subst (AreAmong some) (same i).refused among, c.other, c.all, placed_at a' i t), λ j other. placed_else a' i t j other);
        brings = c.handed;
        same = at_every IsSame a a' b i t
            (subst (λ s. IsSame s t) (sym is) (record { setup = refl; refused = refl; broken = refl; states = more_same (a i).known (a' i).known added c.other (same i).states c.same }))
            same others;
        refused = refused_every (subst (λ (s : Site). AllByRecursion (IsToldPush told) s.refused) (sym is) tt);
      }

-- ---- all of them

shown_is : (s t : State) → Shown s ≡ Shown t → s ≡ t
shown_is s t e = cc

told_more : (told : List (Key × State)) (p : Key × State) (request : Request) → IsToldPush told request → IsToldPush (p ∷ told) request
told_more told p (Push key pushed) is = inr is
told_more told p request is = is

all_more : (told : List (Key × State)) (p : Key × State) (requests : List Request) → AllByRecursion (IsToldPush told) requests → AllByRecursion (IsToldPush (p ∷ told)) requests
all_more told p [] all = tt
all_more told p (request ∷ requests) all = (told_more told p request all.0, all_more told p requests all.1)

past_more : (known : ℕ → List Write) (told : List (Key × State)) (i : ℕ) (key : Key) (s : State) → s ≡ state key (known i) → ArePast known told → ArePast known ((key, s) ∷ told)
past_more known told i key s is past k t (inl e) =
    let same_key : key ≡ k = ap (λ (p : Key × State). p.0) e in
    let same : s ≡ t = ap (λ (p : Key × State). p.1) e in
    subst (λ x. IsPast known x t) same_key (subst (IsPast known key) (sym is ∙ same) (past_now known i key))
past_more known told i key s is past k t (inr later) = past k t later

record Follows (a' : Knows) (events : List Event) (end : Knows) : Type 0 where
  other : Knows
  happen : Happen a' events other
  bring : AllBring a' events other happen
  same : (i : ℕ) → IsSame (end i) (other i)

first_step : (a' : Knows) (event : Event) (events : List Event) (told : List (Key × State)) (b end : Knows) (s : Steps a' event told b) → Follows s.other events end → Follows a' (event ∷ events) end
first_step a' event events told b end s f = record { other = f.other; happen = (s.other, s.next, f.happen); bring = (s.brings, f.bring); same = f.same }

shown_now : (a a' b : Knows) (i : ℕ) (key : Key) (s : State) → IsSame (a i) (a' i) → Next a (Told i (Get key) (Shown s)) b → s ≡ state key (a' i).known
shown_now a a' b i key s same (inl answers, others) = shown_is s (state_at (states_of (a i).known) key) answers.1 ∙ state_known (a i).known key ∙ same.states key
shown_now a a' b i key s same (inr refuses, others) = absurd refuses

follows : (a a' : Knows) (events : List Event) (end : Knows) (told : List (Key × State)) → Happen a events end → PushTold told events → ((j : ℕ) → IsSame (a j) (a' j)) → ArePast (knows a') told → RefusedTold told a → Follows a' events end
follows a a' [] end told happen tells same past refused = record { other = a'; happen = refl; bring = tt; same = λ i. subst (λ (k : Knows). IsSame (k i) (a' i)) (sym happen) (same i) }
follows a a' (Told i (Get key) (Shown s) ∷ events) end told (b, next, rest) tells same past refused =
    let more : List (Key × State) = (key, s) ∷ told in
    let now = past_more (knows a') told i key s (shown_now a a' b i key s (same i) next) past in
    let step = step_told a a' b i more same now (λ j. all_more told (key, s) (a j).refused (refused j)) next.1 (Get key) (Shown s) tt next.0 in
    first_step a' (Told i (Get key) (Shown s)) events more b end step
    (follows b step.other events end more rest tells step.same (past_next a' step.other (Told i (Get key) (Shown s)) more step.next now) step.refused)
follows a a' (Told i request reply ∷ events) end told (b, next, rest) (is_told, tells) same past refused =
    let step = step_told a a' b i told same past refused next.1 request reply is_told next.0 in
    first_step a' (Told i request reply) events told b end step
    (follows b step.other events end told rest tells step.same (past_next a' step.other (Told i request reply) told step.next past) step.refused)
follows a a' (Broke i requests ∷ events) end told (b, next, rest) (are_told, tells) same past refused =
    let step = step_broke a a' b i told same past refused next.1 requests are_told next.0 in
    first_step a' (Broke i requests) events told b end step
    (follows b step.other events end told rest tells step.same (past_next a' step.other (Broke i requests) told step.next past) step.refused)
follows a a' (Opened i setup some ∷ events) end told (b, (opens, others), rest) tells same past refused =
    let step = step_opened a a' b i told same past refused others setup some opens.1 opens.0 opens.2 opens.3 in
    first_step a' (Opened i setup some) events told b end step
    (follows b step.other events end told rest tells step.same (past_next a' step.other (Opened i setup some) told step.next past) step.refused)

pub handed_start : (setups : ℕ → Setup) (events : List Event) (end : Knows) → Happen (nothing_known setups) events end → PushTold [] events → Handed (nothing_known setups) events end
handed_start setups events end happen told =
    let f = follows (nothing_known setups) (nothing_known setups) events end [] happen told (λ i. record { setup = refl; refused = refl; broken = refl; states = λ key. refl }) (λ key s none. absurd none) (λ i. tt) in
    record { other = f.other; happen = f.happen; bring = f.bring; same = f.same }
