-- What becomes of the keys of a window between two faithful sides.
use Rattle.std.proofs.Common.{◌≡◌, ◌≢◌, ◌⊎◌, inl, inr, ◌↔◌, ℕ, true, false, cond, List, [], ◌∷◌, map, filter, filter_map, refl, sym, ap, subst, ◌∙◌, Some, None, Option, option_map, true≢false}
use Rattle.std.specs.Prelude.{Result, Ok, Err, is_some}
use Rattle.std.specs.List.{cons_option}
use Rattle.std.specs.FinMap.{get}
use Rattle.mvd_dots.specs.declared.refusals.Refusal.{Refusal}
use Rattle.mvd_dots.specs.declared.refusals.Refusal.TheVariants.{DotClash, Full, StateTooLarge}
use Rattle.mvd_keys.specs.State.{IsValid, State, clashes, join}
use Rattle.mvd_keys.proofs.Joins.{clashes_turned, join_commutes, join_empty_left, join_empty_right}
use Rattle.mvd_site.specs.Answer.{is_too_large}
use Rattle.mvd_site.specs.Held.{States, state_at}
use Rattle.mvd_sync.proofs.Exchanges.{IsNext, keys_next}
use Rattle.mvd_sync.specs.Meetings.{ArePlans, Trades, clash, first_if, has, held_keys, is_held, meet, noted, or_empty, pushed_pair, noted_refusal, rest_if, taken_from, wanted}
use Rattle.mvd_sync.specs.Olds.{HasUnseen}
use Rattle.mvd_peer.specs.Windows.{ForEach}
use Rattle.mvd_sync.specs.Questions.{IsOfKey}
use Rattle.mvd_sync.specs.Session.{AreTooMany, CannotMeet}
use Rattle.mvd_peer.specs.PushedStates.{Each}
use Rattle.mvd_peer.specs.Sides.{is_of_key}
use Rattle.mvd_sync.specs.declared.cursor.Entry.{Entry}
use Rattle.mvd_sync.specs.declared.meetings.Meeting.{Meeting}
use Rattle.mvd_sync.specs.declared.report.Side.{Side}
use Rattle.mvd_sync.specs.declared.report.Side.TheVariants.{Local as AtLocal, Peer as AtPeer}
use Rattle.mvd_sync.proofs.Taking.{Ask, Cannot, EachTook, ask_keys, pairs_of, same_state, with_pair}
use Rattle.mvd_sync.proofs.Positions.{CameToBy, before_by}

-- ---- what each side gave

abbrev pub IsState : States → List ℕ → State → Type 0
IsState x k s = s ≡ state_at x k

own_true : (x : States) (k : List ℕ) (ks : List (List ℕ)) (states : List State) → ForEach (IsState x) (k ∷ ks) states → (or_empty (first_if true states) ≡ state_at x k) × ForEach (IsState x) ks (rest_if true states)
own_true x k ks [] h = absurd h
own_true x k ks (s ∷ ss) h = (h.0, h.1)

none_state : (x : States) (k : List ℕ) → get x k ≡ None → or_empty None ≡ state_at x k
none_state x k none = ap or_empty (sym none)

-- the next state is that of the key, if the side holds it
pub own_is : (side : Side) (x : States) (e : Entry) (es : List Entry) (states : List State) → (is_held side e ≡ false → get x e.key ≡ None) → ForEach (IsState x) (held_keys side (e ∷ es)) states → (or_empty (first_if (is_held side e) states) ≡ state_at x e.key) × ForEach (IsState x) (held_keys side es) (rest_if (is_held side e) states)
own_is side x e es states none each =
    elim (is_held side e) as (λ b. (b ≡ false → get x e.key ≡ None) → ForEach (IsState x) (map (λ e. e.key) (cond b (e ∷ filter (is_held side) es) (filter (is_held side) es))) states → (or_empty (first_if b states) ≡ state_at x e.key) × ForEach (IsState x) (held_keys side es) (rest_if b states)) [
      | true ↦ λ _ each. own_true x e.key (held_keys side es) states each
      | false ↦ λ none each. (none_state x e.key (none refl), each)
    ] none each

-- ---- what is planned

-- the other's state is to be taken, or would change nothing
abbrev pub IsPull : State → State → Option State → Type 0
IsPull s t pull = (pull ≡ Some t) ⊎ ((pull ≡ None) × (join s t ≡ s))

abbrev pub IsGive : State → State → Option State → Type 0
IsGive s t give = (give ≡ Some s) ⊎ ((give ≡ None) × (join s t ≡ t))

pub data Plan (s t : State) (m : Meeting) : Type 0 where
  clashing : clashes s t ≡ true → m.refused ≡ Some (AtLocal, DotClash) → Plan s t m
  meeting : m.refused ≡ None → clashes s t ≡ false → IsPull s t m.pull → IsGive s t m.give → Plan s t m

pull_of : (s : State) (other : Option State) → IsPull s (or_empty other) other
pull_of s None = inr (refl, join_empty_right s)
pull_of s (Some t) = inl refl

give_of : (own : Option State) (t : State) → IsGive (or_empty own) t own
give_of None t = inr (refl, join_empty_left t)
give_of (Some s) t = inl refl

plan_of : (own other : Option State) (m : Meeting) → Trades own other m.pull m.give m.refused → Plan (or_empty own) (or_empty other) m
plan_of own other m (clash h p g r) = clashing h r
plan_of own other m (meet h p g r) = meeting r h (subst (IsPull (or_empty own) (or_empty other)) (sym p) (pull_of (or_empty own) other)) (subst (IsGive (or_empty own) (or_empty other)) (sym g) (give_of own (or_empty other)))
plan_of own other m (has h p g j r) = meeting r h (subst (IsPull (or_empty own) (or_empty other)) (sym p) (pull_of (or_empty own) other)) (inr (g, j))

-- each key is planned by the states of both, and is old just where it is
pub record IsPlanned (number : Option ℕ) (a b : States) (m : Meeting) : Type 0 where
  pub plan : Plan (state_at a m.key) (state_at b m.key) m
  pub old : (m.is_old ≡ true) ↔ HasUnseen number (state_at a m.key) (state_at b m.key)
  pub differ : get a m.key ≢ get b m.key

pub record ArePlanned (number : Option ℕ) (a b : States) (es : List Entry) (ms : List Meeting) : Type 0 where
  pub keys : map (λ (m : Meeting). m.key) ms ≡ keys_next es
  pub each : Each (IsPlanned number a b) ms

-- the states at a window's start are those of the session's start, of its keys
abbrev pub IsStill : States → States → States → States → Entry → Type 0
IsStill a b x y e = (get x e.key ≡ get a e.key) × (get y e.key ≡ get b e.key)

pub planned : (number : Option ℕ) (a b x y : States) (es : List Entry) (mine theirs : List State) (ms : List Meeting) → Each (IsNext a b) es → Each (IsStill a b x y) es
    → ForEach (IsState x) (held_keys AtLocal es) mine → ForEach (IsState y) (held_keys AtPeer es) theirs → ArePlans number es mine theirs ms → ArePlanned number a b es ms
planned number a b x y [] mine theirs [] next still p q plans = record { keys = refl; each = tt }
planned number a b x y [] mine theirs (m ∷ ms) next still p q plans = absurd plans
planned number a b x y (e ∷ es) mine theirs [] next still p q plans = absurd plans
planned number a b x y (e ∷ es) mine theirs (m ∷ ms) next still p q plans =
    let own = own_is AtLocal x e es mine (λ no. still.0.0 ∙ next.0.mine no) p in
    let other = own_is AtPeer y e es theirs (λ no. still.0.1 ∙ next.0.theirs no) q in
    let s = first_if e.mine mine in
    let t = first_if e.theirs theirs in
    let key : m.key ≡ e.key = plans.0.of_key in
    let is_s : or_empty s ≡ state_at a m.key = own.0 ∙ same_state x a e.key still.0.0 ∙ ap (state_at a) (sym key) in
    let is_t : or_empty t ≡ state_at b m.key = other.0 ∙ same_state y b e.key still.0.1 ∙ ap (state_at b) (sym key) in
    let rest = planned number a b x y es (rest_if e.mine mine) (rest_if e.theirs theirs) ms next.1 still.1 own.1 other.1 plans.2 in
    record {
      keys = λ i. key i ∷ rest.keys i;
      each = (
        record {
          plan = subst (λ u. Plan u (state_at b m.key) m) is_s (subst (λ v. Plan (or_empty s) v m) is_t (plan_of s t m plans.0.meets));
          old = subst (λ u. (m.is_old ≡ true) ↔ HasUnseen number u (state_at b m.key)) is_s (subst (λ v. (m.is_old ≡ true) ↔ HasUnseen number (or_empty s) v) is_t plans.1);
          differ = λ same. next.0.differ (ap (get a) (sym key) ∙ same ∙ ap (get b) key);
        },
        rest.each,
      );
    }

-- ---- asking a side

abbrev pub asks_of : Side → List Meeting → List Ask
asks_of side ms = map (λ (m : Meeting). (m.key, wanted side m)) ms

pair_of_wanted : (key : List ℕ) (w : Option State) (ps : List (List ℕ × State)) → cons_option (option_map (λ s. (key, s)) w) ps ≡ with_pair key w ps
pair_of_wanted key None ps = refl
pair_of_wanted key (Some s) ps = refl

pub pairs_same : (side : Side) (ms : List Meeting) → filter_map (pushed_pair side) ms ≡ pairs_of (asks_of side ms)
pairs_same side [] = refl
pairs_same side (m ∷ ms) = pair_of_wanted m.key (wanted side m) (filter_map (pushed_pair side) ms) ∙ ap (with_pair m.key (wanted side m)) (pairs_same side ms)

pub asked_keys : (side : Side) (ms : List Meeting) → ask_keys (asks_of side ms) ≡ map (λ (m : Meeting). m.key) ms
asked_keys side [] = refl
asked_keys side (m ∷ ms) = ap (λ (ks : List (List ℕ)). m.key ∷ ks) (asked_keys side ms)

-- ---- after the local side

-- why the local side refuses a key, whatever the peer takes
abbrev CannotLocally : ℕ → (a b : States) → List ℕ → Refusal → Type 0
CannotLocally most a b key refusal = CannotMeet (before_by most 0 None a b) AtLocal key refusal

cannot_locally : (most most_peer : ℕ) (number : Option ℕ) (a b : States) (key : List ℕ) (refusal : Refusal) → CannotLocally most a b key refusal → CannotMeet (before_by most most_peer number a b) AtLocal key refusal
cannot_locally most most_peer number a b key StateTooLarge h = h
cannot_locally most most_peer number a b key Full h = h
cannot_locally most most_peer number a b key DotClash h = h
cannot_locally most most_peer number a b key refusal h = absurd h

pub data Pulled (most : ℕ) (a b new : States) (key : List ℕ) (give : Option State) (refused : Option (Side × Refusal)) : Type 0 where
  left : (refusal : Refusal) → refused ≡ Some (AtLocal, refusal) → get new key ≡ get a key → CannotLocally most a b key refusal → Pulled most a b new key give refused
  took : refused ≡ None → clashes (state_at a key) (state_at b key) ≡ false → state_at new key ≡ join (state_at a key) (state_at b key) → IsGive (state_at a key) (state_at b key) give → Pulled most a b new key give refused

-- what the local side was to take
pub data Wants (s t : State) (w : Option State) (give : Option State) (refused : Option (Side × Refusal)) : Type 0 where
  nothing : w ≡ None → clashes s t ≡ true → refused ≡ Some (AtLocal, DotClash) → Wants s t w give refused
  included : w ≡ None → join s t ≡ s → clashes s t ≡ false → refused ≡ None → IsGive s t give → Wants s t w give refused
  theirs : w ≡ Some t → clashes s t ≡ false → refused ≡ None → IsGive s t give → Wants s t w give refused

pub wants_local : (s t : State) (m : Meeting) → Plan s t m → Wants s t (wanted AtLocal m) m.give m.refused
wants_local s t m (clashing h r) = nothing (ap (λ o. cond (is_some o) None m.pull) r) h r
wants_local s t m (meeting r h (inl p) g) = theirs (ap (λ o. cond (is_some o) None m.pull) r ∙ p) h r g
wants_local s t m (meeting r h (inr p) g) = included (ap (λ o. cond (is_some o) None m.pull) r ∙ p.0) p.1 h r g

some_same : (s t : State) → Some s ≡ Some t → s ≡ t
some_same s t e = cc

why_local : (most : ℕ) (a b x : States) (key : List ℕ) (p : State) (refusal : Refusal) → is_of_key refusal ≡ true → get x key ≡ get a key → p ≡ state_at b key → is_too_large (state_at b key) ≡ false → Cannot (AreTooMany most a b) x key p refusal → CannotLocally most a b key refusal
why_local most a b x key p StateTooLarge one same is short (inl h) = absurd (true≢false (sym h ∙ ap is_too_large is ∙ short))
why_local most a b x key p StateTooLarge one same is short (inr h) = (λ i. is_too_large (join (same_state a x key (sym same) i) (sym is i))) ∙ h
why_local most a b x key p Full one same is short h = (sym same ∙ h.0, h.1)
why_local most a b x key p DotClash one same is short h = (λ i. clashes (same_state a x key (sym same) i) (sym is i)) ∙ h
why_local most a b x key p refusal one same is short h = absurd (true≢false (sym one))

module _ (most : ℕ) (a b x new : States) where
  abbrev Local_after : Meeting → Type 0
  Local_after m = Pulled most a b new m.key m.give m.refused

  abbrev Head : (m : Meeting) → Option State → List (Result (Unit {0}) Refusal) → Type 0
  Head m w ts = Pulled most a b new m.key m.give (noted_refusal AtLocal m.refused (first_if (is_some w) ts))

  local_head : (m : Meeting) (w : Option State) (qs : List Ask) (ts : List (Result (Unit {0}) Refusal)) → get x m.key ≡ get a m.key → is_too_large (state_at b m.key) ≡ false → Each IsOfKey ts
      → Wants (state_at a m.key) (state_at b m.key) w m.give m.refused → EachTook (AreTooMany most a b) x new ((m.key, w) ∷ qs) ts → Head m w ts × EachTook (AreTooMany most a b) x new qs (rest_if (is_some w) ts) × Each IsOfKey (rest_if (is_some w) ts)
  local_head m None qs ts same short one (nothing e h r) took_it = (left DotClash r (took_it.0 ∙ same) h, took_it.1, one)
  local_head m None qs ts same short one (included e j h r g) took_it = (took r h (same_state new a m.key (took_it.0 ∙ same) ∙ sym j) g, took_it.1, one)
  local_head m None qs ts same short one (theirs e h r g) took_it = absurd (cc)
  local_head m (Some p) qs [] same short one w took_it = absurd took_it
  local_head m (Some p) qs (t ∷ ts) same short one (nothing e h r) took_it = absurd (cc)
  local_head m (Some p) qs (t ∷ ts) same short one (included e j h r g) took_it = absurd (cc)
  local_head m (Some p) qs (Ok done ∷ ts) same short one (theirs e h r g) took_it =
      (took r h (took_it.0.1 ∙ (λ i. join (same_state x a m.key same i) (some_same p (state_at b m.key) e i))) g, took_it.1, one.1)
  local_head m (Some p) qs (Err refusal ∷ ts) same short one (theirs e h r g) took_it =
      (left refusal refl (took_it.0.0 ∙ same) (why_local most a b x m.key p refusal one.0 same (some_same p (state_at b m.key) e) short took_it.0.1), took_it.1, one.1)

  pub local_after : (ms : List Meeting) (ts : List (Result (Unit {0}) Refusal)) → Each (λ (m : Meeting). get x m.key ≡ get a m.key) ms → Each (λ (m : Meeting). is_too_large (state_at b m.key) ≡ false) ms → Each IsOfKey ts
      → Each (λ (m : Meeting). Plan (state_at a m.key) (state_at b m.key) m) ms → EachTook (AreTooMany most a b) x new (asks_of AtLocal ms) ts → Each Local_after (noted AtLocal (map (taken_from AtLocal) ms) ts)
  local_after [] ts same short one plans took_all = tt
  local_after (m ∷ ms) ts same short one plans took_all =
      let head = local_head m (wanted AtLocal m) (asks_of AtLocal ms) ts same.0 short.0 one (wants_local (state_at a m.key) (state_at b m.key) m plans.0) took_all in
      (head.0, local_after ms (rest_if (is_some (wanted AtLocal m)) ts) same.1 short.1 head.2 plans.1 head.1)

-- ---- after the peer

pub data Wants_peer (most : ℕ) (a b a' : States) (key : List ℕ) (w : Option State) (refused : Option (Side × Refusal)) : Type 0 where
  not_asked : (refusal : Refusal) → w ≡ None → refused ≡ Some (AtLocal, refusal) → get a' key ≡ get a key → CannotLocally most a b key refusal → Wants_peer most a b a' key w refused
  it_has : w ≡ None → refused ≡ None → clashes (state_at a key) (state_at b key) ≡ false → state_at a' key ≡ join (state_at a key) (state_at b key) → join (state_at a key) (state_at b key) ≡ state_at b key → Wants_peer most a b a' key w refused
  mine : w ≡ Some (state_at a key) → refused ≡ None → clashes (state_at a key) (state_at b key) ≡ false → state_at a' key ≡ join (state_at a key) (state_at b key) → Wants_peer most a b a' key w refused

pub wants_peer : (most : ℕ) (a b a' : States) (m : Meeting) → Pulled most a b a' m.key m.give m.refused → Wants_peer most a b a' m.key (wanted AtPeer m) m.refused
wants_peer most a b a' m (left refusal r same why) = not_asked refusal (ap (λ o. cond (is_some o) None m.give) r) r same why
wants_peer most a b a' m (took r h is (inl g)) = mine (ap (λ o. cond (is_some o) None m.give) r ∙ g) r h is
wants_peer most a b a' m (took r h is (inr g)) = it_has (ap (λ o. cond (is_some o) None m.give) r ∙ g.0) r h is g.1

module _ (most_local most : ℕ) (number : Option ℕ) (a b a' y new : States) where
  why_peer : (key : List ℕ) (p : State) (refusal : Refusal) → is_of_key refusal ≡ true → get y key ≡ get b key → p ≡ state_at a key → is_too_large (state_at a key) ≡ false → join (state_at a key) (state_at b key) ≡ join (state_at b key) (state_at a key) → Cannot (AreTooMany most a b) y key p refusal → CannotMeet (before_by most_local most number a b) AtPeer key refusal
  why_peer key p StateTooLarge one same is short turned (inl h) = absurd (true≢false (sym h ∙ ap is_too_large is ∙ short))
  why_peer key p StateTooLarge one same is short turned (inr h) = ap is_too_large turned ∙ (λ i. is_too_large (join (same_state b y key (sym same) i) (sym is i))) ∙ h
  why_peer key p Full one same is short turned h = (sym same ∙ h.0, h.1)
  why_peer key p DotClash one same is short turned h = clashes_turned (state_at a key) (state_at b key) ∙ (λ i. clashes (same_state b y key (sym same) i) (sym is i)) ∙ h
  why_peer key p refusal one same is short turned h = absurd (true≢false (sym one))

  came_at : (key : List ℕ) (refused now : Option (Side × Refusal)) → now ≡ refused → CameToBy most_local most number a b a' new key refused → CameToBy most_local most number a b a' new key now
  came_at key refused now e h = subst (CameToBy most_local most number a b a' new key) (sym e) h

  peer_head : (key : List ℕ) (refused : Option (Side × Refusal)) (w : Option State) (qs : List Ask) (ts : List (Result (Unit {0}) Refusal)) → get a key ≢ get b key → get y key ≡ get b key → is_too_large (state_at a key) ≡ false → IsValid (state_at a key) → IsValid (state_at b key) → Each IsOfKey ts
      → Wants_peer most_local a b a' key w refused → EachTook (AreTooMany most a b) y new ((key, w) ∷ qs) ts
      → CameToBy most_local most number a b a' new key (noted_refusal AtPeer refused (first_if (is_some w) ts)) × EachTook (AreTooMany most a b) y new qs (rest_if (is_some w) ts) × Each IsOfKey (rest_if (is_some w) ts)
  peer_head key refused None qs ts differ same short v u one (not_asked refusal e r still why) took_it =
      (came_at key (Some (AtLocal, refusal)) refused r (differ, still, took_it.0 ∙ same, cannot_locally most_local most number a b key refusal why), took_it.1, one)
  peer_head key refused None qs ts differ same short v u one (it_has e r h is j) took_it =
      (came_at key None refused r (record { differ = differ; apart = h }, is, same_state new b key (took_it.0 ∙ same) ∙ sym j), took_it.1, one)
  peer_head key refused None qs ts differ same short v u one (mine e r h is) took_it = absurd (cc)
  peer_head key refused (Some p) qs [] differ same short v u one w took_it = absurd took_it
  peer_head key refused (Some p) qs (t ∷ ts) differ same short v u one (not_asked refusal e r still why) took_it = absurd (cc)
  peer_head key refused (Some p) qs (t ∷ ts) differ same short v u one (it_has e r h is j) took_it = absurd (cc)
  peer_head key refused (Some p) qs (Ok done ∷ ts) differ same short v u one (mine e r h is) took_it =
      (came_at key None refused r (record { differ = differ; apart = h }, is, took_it.0.1 ∙ (λ i. join (same_state y b key same i) (some_same p (state_at a key) e i)) ∙ sym (join_commutes (state_at a key) (state_at b key) v u h)), took_it.1, one.1)
  peer_head key refused (Some p) qs (Err refusal ∷ ts) differ same short v u one (mine e r h is) took_it =
      ((record { differ = differ; apart = h }, is, took_it.0.0 ∙ same, why_peer key p refusal one.0 same (some_same p (state_at a key) e) short (join_commutes (state_at a key) (state_at b key) v u h) took_it.0.1), took_it.1, one.1)

  pub record MayTake (m : Meeting) : Type 0 where
    pub differ : get a m.key ≢ get b m.key
    pub same : get y m.key ≡ get b m.key
    pub short : is_too_large (state_at a m.key) ≡ false
    pub own : IsValid (state_at a m.key)
    pub other : IsValid (state_at b m.key)

  pub peer_after : (ms : List Meeting) (ts : List (Result (Unit {0}) Refusal)) → Each MayTake ms → Each IsOfKey ts
      → Each (λ (m : Meeting). Pulled most_local a b a' m.key m.give m.refused) ms → EachTook (AreTooMany most a b) y new (asks_of AtPeer ms) ts → Each (λ (m : Meeting). CameToBy most_local most number a b a' new m.key m.refused) (noted AtPeer (map (taken_from AtPeer) ms) ts)
  peer_after [] ts may one pulled took_all = tt
  peer_after (m ∷ ms) ts may one pulled took_all =
      let head = peer_head m.key m.refused (wanted AtPeer m) (asks_of AtPeer ms) ts may.0.differ may.0.same may.0.short may.0.own may.0.other one (wants_peer most_local a b a' m pulled.0) took_all in
      (head.0, peer_after ms (rest_if (is_some (wanted AtPeer m)) ts) may.1 head.2 pulled.1 head.1)
