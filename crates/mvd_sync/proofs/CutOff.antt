-- A window between two faithful sides that was cut off while a side took of it.
use Rattle.std.proofs.Common.{◌≡◌, ◌≢◌, ◌⊎◌, ℕ, Bool, true, false, cond, ◌||◌, List, [], ◌∷◌, ◌++◌, map, filter, filter_map, refl, sym, ap, subst, ◌∙◌, Some, None, Option, true≢false}
use Rattle.std.specs.Prelude.{Result, IfSome, MatchBool, take}
use Rattle.std.specs.Ordering.{nat_cmp, eq_by_cmp}
use Rattle.std.specs.Cmp.Lexicographic.{slice_cmp}
use Rattle.std.specs.FinMap.{get}
use Rattle.mvd_dots.specs.declared.refusals.Refusal.{Refusal}
use Rattle.mvd_keys.specs.State.{IsValid, State, empty_state, join}
use Rattle.mvd_keys.proofs.Joins.{join_commutes}
use Rattle.mvd_site.specs.Answer.{is_too_large}
use Rattle.mvd_site.specs.Held.{AreHeld, States, state_at}
use Rattle.mvd_sync.proofs.Exchanges.{AreNext, joined_keys, keys_next}
use Rattle.mvd_sync.specs.Exchanges.{Done, given_keys, is_given, keys_done}
use Rattle.mvd_sync.specs.Meetings.{ArePlans, done_of, held_keys, noted, pushed_pair, taken_from, wanted}
use Rattle.mvd_peer.specs.Windows.{ForEach}
use Rattle.mvd_sync.specs.Questions.{IsOfKey}
use Rattle.mvd_sync.specs.Session.{AreDistinct, CanMeet, is_member}
use Rattle.mvd_peer.specs.PushedStates.{Each}
use Rattle.mvd_peer.specs.Windows.{Pushes}
use Rattle.mvd_sync.specs.declared.cursor.Entry.{Entry}
use Rattle.mvd_sync.specs.declared.meetings.Meeting.{Meeting}
use Rattle.mvd_sync.specs.declared.report.Side.{Side}
use Rattle.mvd_sync.specs.declared.report.Side.TheVariants.{Local as AtLocal, Peer as AtPeer}
use Rattle.mvd_sync.proofs.Cut.{IsAsk, IsMet, MakesJoin, cut, cut_each, cut_keys, cut_pairs, cut_some, joins_more, took_asked, took_at, took_each, took_keys}
use Rattle.mvd_sync.proofs.Joined.{filtered, joins_of, member_at}
use Rattle.mvd_sync.proofs.Keys.{Each-weaker, member_has}
use Rattle.mvd_peer.proofs.Pushes.{tied}
use Rattle.mvd_sync.proofs.Taking.{Ask, Phase, ask_keys, phase, same_state}
use Rattle.mvd_sync.proofs.OneWindow.{ArePlanned, IsPlanned, IsState, Pulled, Wants, Wants_peer, asked_keys, asks_of, included, it_has, left, mine as asks_mine, not_asked, nothing, pairs_same, theirs as asks_theirs, took, wants_local, wants_peer}
use Rattle.mvd_sync.proofs.Windowed.{all_planned, distinct_keys, each_both, each_noted, facts, from_so_far, here, keys_noted, keys_of_done, local_phase, meeting_keys, not_after, pulled, same_x}
use Rattle.mvd_sync.proofs.Positions.{JoinsBy, SoFarBy}

Told : Type 0
Told = Result (Unit {0}) Refusal

by_bool : (b : Bool) (R : Type 0) → (b ≡ true → R) → (b ≡ false → R) → R
by_bool true R f g = f refl
by_bool false R f g = g refl

-- ---- keys

-- the keys that were done are not among those of the window
not_in : (Q : Done → Bool) (done : List Done) (js : List (List ℕ)) (k : List ℕ) → AreDistinct (keys_done done ++ js) → is_member (keys_done (filter Q done)) k ≡ true → is_member js k ≡ false
not_in Q done js k distinct h =
    by_bool (is_member (keys_done done) k) (is_member js k ≡ false) (λ yes. not_after (keys_done done) js k distinct yes) (λ out. absurd (true≢false (sym h ∙ filtered Q k done out)))

no_part : (ks js : List (List ℕ)) (k : List ℕ) → (is_member ks k ≡ true → is_member js k ≡ true) → is_member js k ≡ false → is_member ks k ≡ false
no_part ks js k f out = by_bool (is_member ks k) (is_member ks k ≡ false) (λ yes. absurd (true≢false (sym (f yes) ∙ out))) (λ n. n)

given_more : (d : Done) (ds : List Done) (k : List ℕ) → is_member (given_keys ds) k ≡ true → is_member (given_keys (d ∷ ds)) k ≡ true
given_more d ds k h =
    elim (is_given d.refused) as (λ b. is_member (keys_done (cond b (d ∷ filter (λ d. is_given d.refused) ds) (filter (λ d. is_given d.refused) ds))) k ≡ true) [
      | true ↦ elim (eq_by_cmp (slice_cmp nat_cmp) k d.key) as (λ b. (b || is_member (given_keys ds) k) ≡ true) [ true ↦ refl | false ↦ h ]
      | false ↦ h
    ]

given_first : (d : Done) (ds : List Done) → d.refused ≡ None → is_member (given_keys (d ∷ ds)) d.key ≡ true
given_first d ds e =
    subst (λ o. is_member (keys_done (cond (is_given o) (d ∷ filter (λ d. is_given d.refused) ds) (filter (λ d. is_given d.refused) ds))) d.key ≡ true) (sym e) (ap (λ b. b || is_member (given_keys ds) d.key) (tied d.key))

-- a key that was not refused is among those given
given_has : (ms : List Meeting) → Each (λ (m : Meeting). m.refused ≡ None → is_member (given_keys (map done_of ms)) m.key ≡ true) ms
given_has [] = tt
given_has (m ∷ ms) = (
  λ e. given_first (done_of m) (map done_of ms) e,
  Each-weaker (λ (n : Meeting). n.refused ≡ None → is_member (given_keys (map done_of ms)) n.key ≡ true) (λ (n : Meeting). n.refused ≡ None → is_member (given_keys (map done_of (m ∷ ms))) n.key ≡ true)
      (λ n h e. given_more (done_of m) (map done_of ms) n.key (h e)) ms (given_has ms),
)

-- ---- asks

no_ask : (R : State → Type 0) (w : Option State) → w ≡ None → IfSome w R
no_ask R w e = subst (λ o. IfSome o R) (sym e) tt

one_ask : (R : State → Type 0) (w : Option State) (s : State) → w ≡ Some s → R s → IfSome w R
one_ask R w s e r = subst (λ o. IfSome o R) (sym e) r

each_asked : (R : List ℕ → State → Type 0) (side : Side) (ms : List Meeting) → Each (λ (m : Meeting). IfSome (wanted side m) (R m.key)) ms → Each (λ (q : Ask). IfSome q.1 (R q.0)) (asks_of side ms)
each_asked R side [] h = tt
each_asked R side (m ∷ ms) h = (h.0, each_asked R side ms h.1)

each_key : (P : List ℕ → Type 0) (side : Side) (ms : List Meeting) → Each (λ (m : Meeting). P m.key) ms → Each (λ (q : Ask). P q.0) (asks_of side ms)
each_key P side [] h = tt
each_key P side (m ∷ ms) h = (h.0, each_key P side ms h.1)

each_done : (P : Done → Type 0) (ms : List Meeting) → Each (λ (m : Meeting). P (done_of m)) ms → Each P (map done_of ms)
each_done P [] h = tt
each_done P (m ∷ ms) h = (h.0, each_done P ms h.1)

all_same : (x : States) (side : Side) (ms : List Meeting) → Each (λ (q : Ask). get x q.0 ≡ get x q.0) (asks_of side ms)
all_same x side [] = tt
all_same x side (m ∷ ms) = (refl, all_same x side ms)

local_ask : (a b x : States) (m : Meeting) → get x m.key ≡ get a m.key → get a m.key ≢ get b m.key → Wants (state_at a m.key) (state_at b m.key) (wanted AtLocal m) m.give m.refused → IfSome (wanted AtLocal m) (MakesJoin a b x m.key)
local_ask a b x m same differ (nothing e h r) = no_ask (MakesJoin a b x m.key) (wanted AtLocal m) e
local_ask a b x m same differ (included e j h r g) = no_ask (MakesJoin a b x m.key) (wanted AtLocal m) e
local_ask a b x m same differ (asks_theirs e h r g) =
    one_ask (MakesJoin a b x m.key) (wanted AtLocal m) (state_at b m.key) e (record { differ = differ; apart = h }, ap (λ u. join u (state_at b m.key)) (same_state x a m.key same))

peer_ask : (most : ℕ) (a b a' y : States) (m : Meeting) → get a m.key ≢ get b m.key → get y m.key ≡ get b m.key → IsValid (state_at a m.key) → IsValid (state_at b m.key) → Wants_peer most a b a' m.key (wanted AtPeer m) m.refused → IfSome (wanted AtPeer m) (λ s. MakesJoin a b y m.key s × (m.refused ≡ None))
peer_ask most a b a' y m differ same v u (not_asked refusal e r still why) = no_ask (λ s. MakesJoin a b y m.key s × (m.refused ≡ None)) (wanted AtPeer m) e
peer_ask most a b a' y m differ same v u (it_has e r h is j) = no_ask (λ s. MakesJoin a b y m.key s × (m.refused ≡ None)) (wanted AtPeer m) e
peer_ask most a b a' y m differ same v u (asks_mine e r h is) =
    one_ask (λ s. MakesJoin a b y m.key s × (m.refused ≡ None)) (wanted AtPeer m) (state_at a m.key) e
    ((record { differ = differ; apart = h }, ap (λ t. join t (state_at a m.key)) (same_state y b m.key same) ∙ sym (join_commutes (state_at a m.key) (state_at b m.key) v u h)), r)

weaker_some : (P Q : State → Type 0) → ((s : State) → P s → Q s) → (o : Option State) → IfSome o P → IfSome o Q
weaker_some P Q f None h = tt
weaker_some P Q f (Some s) h = f s h

-- what became of a key at the local side, as the lists tell it
met_local : (most : ℕ) (a b x x' : States) (m : Meeting) → get a m.key ≢ get b m.key → get x m.key ≡ get a m.key → Pulled most a b x' m.key m.give m.refused
    → MatchBool (is_given m.refused) (CanMeet a b m.key × (state_at x' m.key ≡ join (state_at a m.key) (state_at b m.key))) (get x' m.key ≡ get x m.key)
met_local most a b x x' m differ same (left refusal r still why) =
    subst (λ o. MatchBool (is_given o) (CanMeet a b m.key × (state_at x' m.key ≡ join (state_at a m.key) (state_at b m.key))) (get x' m.key ≡ get x m.key)) (sym r) (still ∙ sym same)
met_local most a b x x' m differ same (took r h is g) =
    subst (λ o. MatchBool (is_given o) (CanMeet a b m.key × (state_at x' m.key ≡ join (state_at a m.key) (state_at b m.key))) (get x' m.key ≡ get x m.key)) (sym r) (record { differ = differ; apart = h }, is)

module _ (ml mp : ℕ) (number : Option ℕ) (a b x y x' y' : States) (done : List Done) (es : List Entry) (mine theirs : List State) (ms : List Meeting) (told told' : List (Result (Unit {0}) Refusal))
    (so : SoFarBy ml mp number a b x y done) (next : AreNext a b done es) (held_a : AreHeld x) (held_b : AreHeld y) (none : is_too_large empty_state ≡ false)
    (p : ForEach (IsState x) (held_keys AtLocal es) mine) (q : ForEach (IsState y) (held_keys AtPeer es) theirs) (plans : ArePlans number es mine theirs ms) where
  plan_of_all : ArePlanned number a b es ms
  plan_of_all = all_planned ml mp number a b x y x' y' done es mine theirs ms told told' so next held_a held_b none p q plans

  keys_are : meeting_keys ms ≡ keys_next es
  keys_are = plan_of_all.keys

  distinct : AreDistinct (meeting_keys ms)
  distinct = distinct_keys ml mp number a b x y x' y' done es mine theirs ms told told' so next held_a held_b none p q plans

  one_has : Each (λ (m : Meeting). (get a m.key ≢ None) ⊎ (get b m.key ≢ None)) ms
  one_has = here ml mp number a b x y x' y' done es mine theirs ms told told' so next held_a held_b none p q plans

  still_x : Each (λ (m : Meeting). get x m.key ≡ get a m.key) ms
  still_x = same_x ml mp number a b x y x' y' done es mine theirs ms told told' so next held_a held_b none p q plans

  all_plans : Each (IsPlanned number a b) ms
  all_plans = plan_of_all.each

  done_joins : (T U : Type 0) → JoinsBy T U a b x y (joined_keys done) (given_keys done)
  done_joins T U = joins_of ml mp a b x y number T U done so

  -- the local side took the first of them
  module _ (n : ℕ) (ts : List (Result (Unit {0}) Refusal)) (mid : States) (first : Pushes ml x (take n (filter_map (pushed_pair AtLocal) ms)) ts mid) where
    abbrev local_asks : List Ask
    local_asks = cut n (asks_of AtLocal ms)

    local_keys : ask_keys local_asks ≡ meeting_keys ms
    local_keys = cut_keys n (asks_of AtLocal ms) ∙ asked_keys AtLocal ms

    local_cut : Phase ml a b x x mid local_asks ts
    local_cut = phase ml a b x local_asks x ts mid (subst AreDistinct (sym local_keys) distinct)
        (cut_each (λ k. get x k ≡ get x k) n (asks_of AtLocal ms) (all_same x AtLocal ms))
        (cut_each (λ k. (get a k ≢ None) ⊎ (get b k ≢ None)) n (asks_of AtLocal ms) (each_key (λ k. (get a k ≢ None) ⊎ (get b k ≢ None)) AtLocal ms one_has))
        (from_so_far ml mp number a b x y done so).0 (subst (λ ps. Pushes ml x ps ts mid) (ap (take n) (pairs_same AtLocal ms) ∙ sym (cut_pairs n (asks_of AtLocal ms))) first)

    local_good : Each (IsAsk a b x) local_asks
    local_good = cut_some (MakesJoin a b x) n (asks_of AtLocal ms) (each_asked (MakesJoin a b x) AtLocal ms
        (Each-weaker (λ (m : Meeting). IsPlanned number a b m × (get x m.key ≡ get a m.key)) (λ (m : Meeting). IfSome (wanted AtLocal m) (MakesJoin a b x m.key))
        (λ m h. local_ask a b x m h.1 h.0.differ (wants_local (state_at a m.key) (state_at b m.key) m h.0.plan)) ms
        (each_both (IsPlanned number a b) (λ (m : Meeting). get x m.key ≡ get a m.key) ms all_plans still_x)))

    apart_local : (k : List ℕ) → is_member (joined_keys done) k ≡ true → is_member (took_keys local_asks ts) k ≡ false
    apart_local k h = no_part (took_keys local_asks ts) (keys_next es) k (λ yes. ap (λ ks. is_member ks k) (sym (local_keys ∙ keys_are)) ∙ took_asked k local_asks ts yes) (not_in (λ d. Rattle.mvd_sync.proofs.Exchanges.is_joined d.refused) done (keys_next es) k next.distinct h)

    pub cut_local : (T U : Type 0) → JoinsBy T U a b mid y (joined_keys done ++ took_keys local_asks ts) (given_keys done ++ [])
    cut_local = joins_more a b x y mid y (joined_keys done) (given_keys done) (took_keys local_asks ts) [] done_joins
        (λ k. took_at (Rattle.mvd_sync.specs.Session.AreTooMany ml a b) a b x mid local_asks ts (subst AreDistinct (sym local_keys) distinct) local_good local_cut.took k (λ out. local_cut.rest k out))
        (λ k. refl) (λ k h. absurd (true≢false (sym h))) apart_local

  -- the local side took all, and the peer the first of them
  module _ (first : Pushes ml x (filter_map (pushed_pair AtLocal) ms) told x') (one : Each IsOfKey told) (n : ℕ) (ts : List (Result (Unit {0}) Refusal)) (mid : States)
      (second : Pushes mp y (take n (filter_map (pushed_pair AtPeer) (noted AtLocal (map (taken_from AtLocal) ms) told))) ts mid) where
    abbrev after : List Meeting
    after = noted AtLocal (map (taken_from AtLocal) ms) told

    abbrev now : List Done
    now = map done_of after

    abbrev peer_asks : List Ask
    peer_asks = cut n (asks_of AtPeer after)

    after_keys : meeting_keys after ≡ meeting_keys ms
    after_keys = keys_noted AtLocal ms told

    now_keys : keys_done now ≡ keys_next es
    now_keys = keys_of_done after ∙ after_keys ∙ keys_are

    peer_keys : ask_keys peer_asks ≡ meeting_keys ms
    peer_keys = cut_keys n (asks_of AtPeer after) ∙ asked_keys AtPeer after ∙ after_keys

    peer_cut : Phase mp a b y y mid peer_asks ts
    peer_cut = phase mp a b y peer_asks y ts mid (subst AreDistinct (sym peer_keys) distinct)
        (cut_each (λ k. get y k ≡ get y k) n (asks_of AtPeer after) (all_same y AtPeer after))
        (cut_each (λ k. (get a k ≢ None) ⊎ (get b k ≢ None)) n (asks_of AtPeer after) (each_key (λ k. (get a k ≢ None) ⊎ (get b k ≢ None)) AtPeer after (each_noted (λ k _. (get a k ≢ None) ⊎ (get b k ≢ None)) AtLocal ms told one_has)))
        (from_so_far ml mp number a b x y done so).1 (subst (λ ps. Pushes mp y ps ts mid) (ap (take n) (pairs_same AtPeer after) ∙ sym (cut_pairs n (asks_of AtPeer after))) second)

    all_pulled : Each (λ (m : Meeting). Pulled ml a b x' m.key m.give m.refused) after
    all_pulled = pulled ml mp number a b x y x' y' done es mine theirs ms told told' so next held_a held_b none p q plans first one

    abbrev Fact : List ℕ → Type 0
    Fact k = (get a k ≢ get b k) × (get y k ≡ get b k) × (is_too_large (state_at a k) ≡ false) × IsValid (state_at a k) × IsValid (state_at b k)

    all_facts : Each (λ (m : Meeting). Fact m.key × (get x m.key ≡ get a m.key)) after
    all_facts = each_noted (λ k _. Fact k × (get x k ≡ get a k)) AtLocal ms told
        (each_both (λ (m : Meeting). Fact m.key) (λ (m : Meeting). get x m.key ≡ get a m.key) ms (facts ml mp number a b x y x' y' done es mine theirs ms told told' so next held_a held_b none p q plans first one) still_x)

    abbrev Both : Meeting → Type 0
    Both m = (Fact m.key × (get x m.key ≡ get a m.key)) × Pulled ml a b x' m.key m.give m.refused

    both : Each Both after
    both = each_both (λ (m : Meeting). Fact m.key × (get x m.key ≡ get a m.key)) (λ (m : Meeting). Pulled ml a b x' m.key m.give m.refused) after all_facts all_pulled

    abbrev Asked : Meeting → Type 0
    Asked m = IfSome (wanted AtPeer m) (λ s. MakesJoin a b y m.key s × (m.refused ≡ None))

    asked : Each Asked after
    asked = Each-weaker Both Asked (λ m h. peer_ask ml a b x' y m h.0.0.0 h.0.0.1 h.0.0.3 h.0.0.4 (wants_peer ml a b x' m h.1)) after both

    peer_good : Each (IsAsk a b y) peer_asks
    peer_good = cut_some (MakesJoin a b y) n (asks_of AtPeer after) (each_asked (MakesJoin a b y) AtPeer after
        (Each-weaker Asked (λ (m : Meeting). IfSome (wanted AtPeer m) (MakesJoin a b y m.key)) (λ m h. weaker_some (λ s. MakesJoin a b y m.key s × (m.refused ≡ None)) (MakesJoin a b y m.key) (λ s i. i.0) (wanted AtPeer m) h) after asked))

    abbrev Has : List ℕ → Type 0
    Has k = is_member (given_keys now) k ≡ true

    were_given : Each Has (took_keys peer_asks ts)
    were_given = took_each Has peer_asks ts (cut_some (λ k _. Has k) n (asks_of AtPeer after) (each_asked (λ k _. Has k) AtPeer after
        (Each-weaker (λ (m : Meeting). Asked m × (m.refused ≡ None → Has m.key)) (λ (m : Meeting). IfSome (wanted AtPeer m) (λ _. Has m.key))
        (λ m h. weaker_some (λ s. MakesJoin a b y m.key s × (m.refused ≡ None)) (λ _. Has m.key) (λ s i. h.1 i.1) (wanted AtPeer m) h.0) after
        (each_both Asked (λ (m : Meeting). m.refused ≡ None → Has m.key) after asked (given_has after)))))

    abbrev JoinedAt : List ℕ → Type 0
    JoinedAt k = CanMeet a b k × (state_at x' k ≡ join (state_at a k) (state_at b k))

    all_met : (k : List ℕ) → IsMet a b x x' (given_keys now) k
    all_met k = member_at (λ d. is_given d.refused) JoinedAt (λ k. get x' k ≡ get x k) k now (subst AreDistinct (sym (keys_of_done after ∙ after_keys)) distinct)
        (each_done (λ d. MatchBool (is_given d.refused) (JoinedAt d.key) (get x' d.key ≡ get x d.key)) after
        (Each-weaker Both (λ (m : Meeting). MatchBool (is_given m.refused) (JoinedAt m.key) (get x' m.key ≡ get x m.key)) (λ m h. met_local ml a b x x' m h.0.0.0 h.0.1 h.1) after both))
        (λ out. (local_phase ml mp number a b x y x' y' done es mine theirs ms told told' so next held_a held_b none p q plans first one).rest k (ap (λ ks. is_member ks k) (asked_keys AtLocal ms ∙ keys_are ∙ sym now_keys) ∙ out))

    pub cut_peer : (T U : Type 0) → JoinsBy T U a b x' mid (joined_keys done ++ given_keys now) (given_keys done ++ took_keys peer_asks ts)
    cut_peer = joins_more a b x y x' mid (joined_keys done) (given_keys done) (given_keys now) (took_keys peer_asks ts) done_joins all_met
        (λ k. took_at (Rattle.mvd_sync.specs.Session.AreTooMany mp a b) a b y mid peer_asks ts (subst AreDistinct (sym peer_keys) distinct) peer_good peer_cut.took k (λ out. peer_cut.rest k out))
        (λ k h. member_has Has (took_keys peer_asks ts) were_given k h)
        (λ k h. filtered (λ d. is_given d.refused) k now (ap (λ ks. is_member ks k) now_keys ∙ not_in (λ d. Rattle.mvd_sync.proofs.Exchanges.is_joined d.refused) done (keys_next es) k next.distinct h))
