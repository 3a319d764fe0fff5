-- A window that was exchanged between two faithful sides.
use Rattle.std.proofs.Common.{◌≡◌, ◌≢◌, ◌⊎◌, inl, inr, ◌↔◌, ℕ, Bool, true, false, ◌||◌, List, [], ◌∷◌, ◌++◌, map, filter_map, refl, sym, ap, subst, ◌∙◌, Some, None, Option, true≢false}
use Rattle.std.specs.Prelude.{Result, is_some}
use Rattle.std.proofs.lemmas.List.{map-append}
use Rattle.std.specs.Ordering.{nat_cmp, eq_by_cmp}
use Rattle.std.specs.Cmp.Lexicographic.{slice_cmp}
use Rattle.std.specs.FinMap.{get}
use Rattle.mvd_dots.specs.declared.refusals.Refusal.{Refusal}
use Rattle.mvd_keys.specs.State.{IsValid, State, empty_state}
use Rattle.mvd_site.specs.Answer.{is_too_large}
use Rattle.mvd_site.specs.Held.{AreHeld, States, state_at}
use Rattle.mvd_sync.proofs.Exchanges.{AreNext, keys_next}
use Rattle.mvd_sync.specs.Exchanges.{Done, keys_done}
use Rattle.mvd_sync.specs.Meetings.{ArePlans, done_of, held_keys, noted, pushed_pair, rest_if, taken_from, wanted}
use Rattle.mvd_sync.specs.Olds.{HasUnseen}
use Rattle.mvd_peer.specs.Windows.{ForEach}
use Rattle.mvd_sync.specs.Questions.{IsOfKey}
use Rattle.mvd_sync.specs.Session.{AreDistinct, is_member}
use Rattle.mvd_peer.specs.PushedStates.{Each}
use Rattle.mvd_peer.specs.Windows.{Pushes}
use Rattle.mvd_sync.specs.declared.cursor.Entry.{Entry}
use Rattle.mvd_sync.specs.declared.meetings.Meeting.{Meeting}
use Rattle.mvd_sync.specs.declared.report.Side.{Side}
use Rattle.mvd_sync.specs.declared.report.Side.TheVariants.{Local as AtLocal, Peer as AtPeer}
use Rattle.mvd_peer.proofs.JoinLaws.{valid_at}
use Rattle.mvd_sync.proofs.Keys.{Each-weaker, is_member-append, member_has, or_left, or_right}
use Rattle.mvd_peer.proofs.Pushes.{Each-append, tied}
use Rattle.mvd_sync.proofs.Taking.{Ask, ComesFrom, Phase, apart_of, phase, same_state}
use Rattle.mvd_sync.proofs.OneWindow.{ArePlanned, IsPlanned, IsState, IsStill, MayTake, Plan, Pulled, asked_keys, asks_of, local_after, pairs_same, peer_after, planned}
use Rattle.mvd_sync.proofs.Positions.{CameToBy, IsDoneBy, SoFarBy}

abbrev pub meeting_keys : List Meeting → List (List ℕ)
meeting_keys ms = map (λ (m : Meeting). m.key) ms

-- ---- what asking a side leaves

pub each_noted : (P : List ℕ → Bool → Type 0) (side : Side) (ms : List Meeting) (ts : List (Result (Unit {0}) Refusal)) → Each (λ (m : Meeting). P m.key m.is_old) ms → Each (λ (m : Meeting). P m.key m.is_old) (noted side (map (taken_from side) ms) ts)
each_noted P AtLocal [] ts h = tt
each_noted P AtPeer [] ts h = tt
each_noted P AtLocal (m ∷ ms) ts h = (h.0, each_noted P AtLocal ms (rest_if (is_some (wanted AtLocal m)) ts) h.1)
each_noted P AtPeer (m ∷ ms) ts h = (h.0, each_noted P AtPeer ms (rest_if (is_some (wanted AtPeer m)) ts) h.1)

pub keys_noted : (side : Side) (ms : List Meeting) (ts : List (Result (Unit {0}) Refusal)) → meeting_keys (noted side (map (taken_from side) ms) ts) ≡ meeting_keys ms
keys_noted AtLocal [] ts = refl
keys_noted AtPeer [] ts = refl
keys_noted AtLocal (m ∷ ms) ts = ap (λ (ks : List (List ℕ)). m.key ∷ ks) (keys_noted AtLocal ms (rest_if (is_some (wanted AtLocal m)) ts))
keys_noted AtPeer (m ∷ ms) ts = ap (λ (ks : List (List ℕ)). m.key ∷ ks) (keys_noted AtPeer ms (rest_if (is_some (wanted AtPeer m)) ts))

pub keys_of_done : (ms : List Meeting) → keys_done (map done_of ms) ≡ meeting_keys ms
keys_of_done [] = refl
keys_of_done (m ∷ ms) = ap (λ (ks : List (List ℕ)). m.key ∷ ks) (keys_of_done ms)

-- ---- distinct keys

pub distinct_later : (ks js : List (List ℕ)) → AreDistinct (ks ++ js) → AreDistinct js
distinct_later [] js d = d
distinct_later (k ∷ ks) js d = distinct_later ks js d.1

-- what is in the second is not in the first
pub not_before : (ks js : List (List ℕ)) (k : List ℕ) → AreDistinct (ks ++ js) → is_member js k ≡ true → is_member ks k ≡ false
not_before [] js k d h = refl
not_before (q ∷ ks) js k d h =
    let none : is_member (ks ++ js) q ≡ false = d.0 in
    let none_later : is_member js q ≡ false = or_right (is_member ks q) (is_member js q) (sym (is_member-append ks js q) ∙ none) in
    ap (λ b. b || is_member ks k) (apart_of js q k none_later h) ∙ not_before ks js k d.1 h

pub each_in : (P : List ℕ → Type 0) (ks : List (List ℕ)) → ((k : List ℕ) → is_member ks k ≡ true → P k) → Each P ks
each_in P [] f = tt
each_in P (k ∷ ks) f = (
  f k (ap (λ b. b || is_member ks k) (tied k)),
  each_in P ks (λ q h. f q (elim (eq_by_cmp (slice_cmp nat_cmp) q k) as (λ b. (b || is_member ks q) ≡ true) [ true ↦ refl | false ↦ h ])),
)

each_entry : (P : List ℕ → Type 0) (es : List Entry) → Each P (keys_next es) → Each (λ (e : Entry). P e.key) es
each_entry P [] h = tt
each_entry P (e ∷ es) h = (h.0, each_entry P es h.1)

each_meeting : (P : List ℕ → Type 0) (ms : List Meeting) → Each P (meeting_keys ms) → Each (λ (m : Meeting). P m.key) ms
each_meeting P [] h = tt
each_meeting P (m ∷ ms) h = (h.0, each_meeting P ms h.1)

each_ask : (P : List ℕ → Type 0) (side : Side) (ms : List Meeting) → Each (λ (m : Meeting). P m.key) ms → Each (λ (q : Ask). P q.0) (asks_of side ms)
each_ask P side [] h = tt
each_ask P side (m ∷ ms) h = (h.0, each_ask P side ms h.1)

pub each_both : {X : Type 0} (P Q : X → Type 0) (xs : List X) → Each P xs → Each Q xs → Each (λ x. P x × Q x) xs
each_both P Q [] h i = tt
each_both P Q (x ∷ xs) h i = ((h.0, i.0), each_both P Q xs h.1 i.1)

-- ---- states

-- where two states differ, one is held
pub one_held : (a b : States) (key : List ℕ) → get a key ≢ get b key → (get a key ≢ None) ⊎ (get b key ≢ None)
one_held a b key differ =
    elim (get a key) as (λ o. (o ≢ get b key) → (o ≢ None) ⊎ (get b key ≢ None)) [
      | Some s ↦ λ _. inl (λ e. absurd (cc))
      | None ↦ λ d. inr (λ e. d (sym e))
    ] differ

pub short_at : (m : States) → AreHeld m → is_too_large empty_state ≡ false → (key : List ℕ) → is_too_large (state_at m key) ≡ false
short_at m held none key =
    elim (get m key) as (λ o. get m key ≡ o → is_too_large (Rattle.std.specs.Prelude.unwrap_or o empty_state) ≡ false) [
      | None ↦ λ _. none
      | Some s ↦ λ e. (held.held key s e).short
    ] refl

came_differ : (ml mp : ℕ) (number : Option ℕ) (a b x y : States) (key : List ℕ) (refused : Option (Side × Refusal)) → CameToBy ml mp number a b x y key refused → get a key ≢ get b key
came_differ ml mp number a b x y key None h = h.0.differ
came_differ ml mp number a b x y key (Some (AtLocal, refusal)) h = h.0
came_differ ml mp number a b x y key (Some (AtPeer, refusal)) h = h.0.differ

came_still : (ml mp : ℕ) (number : Option ℕ) (a b x y x' y' : States) (key : List ℕ) (refused : Option (Side × Refusal)) → get x' key ≡ get x key → get y' key ≡ get y key → CameToBy ml mp number a b x y key refused → CameToBy ml mp number a b x' y' key refused
came_still ml mp number a b x y x' y' key None e f h = (h.0, same_state x' x key e ∙ h.1, same_state y' y key f ∙ h.2)
came_still ml mp number a b x y x' y' key (Some (AtLocal, refusal)) e f h = (h.0, e ∙ h.1, f ∙ h.2, h.3)
came_still ml mp number a b x y x' y' key (Some (AtPeer, refusal)) e f h = (h.0, same_state x' x key e ∙ h.1, f ∙ h.2, h.3)

keys_differ : (ml mp : ℕ) (number : Option ℕ) (a b x y : States) (ds : List Done) → Each (IsDoneBy ml mp number a b x y) ds → Each (λ k. get a k ≢ get b k) (keys_done ds)
keys_differ ml mp number a b x y [] h = tt
keys_differ ml mp number a b x y (d ∷ ds) h = (came_differ ml mp number a b x y d.key d.refused h.0.came, keys_differ ml mp number a b x y ds h.1)

-- each key that a side holds now was held by one of the two
pub from_so_far : (ml mp : ℕ) (number : Option ℕ) (a b x y : States) (ds : List Done) → SoFarBy ml mp number a b x y ds → ComesFrom a b x × ComesFrom a b y
from_so_far ml mp number a b x y ds so =
    let done : (k : List ℕ) → is_member (keys_done ds) k ≡ true → (get a k ≢ None) ⊎ (get b k ≢ None) = λ k h. one_held a b k (member_has (λ k. get a k ≢ get b k) (keys_done ds) (keys_differ ml mp number a b x y ds so.each) k h) in (
      λ k some. elim (is_member (keys_done ds) k) as (λ t. is_member (keys_done ds) k ≡ t → (get a k ≢ None) ⊎ (get b k ≢ None)) [ true ↦ λ h. done k h | false ↦ λ no. inl (λ e. some ((so.rest k no).0 ∙ e)) ] refl,
      λ k some. elim (is_member (keys_done ds) k) as (λ t. is_member (keys_done ds) k ≡ t → (get a k ≢ None) ⊎ (get b k ≢ None)) [ true ↦ λ h. done k h | false ↦ λ no. inr (λ e. some ((so.rest k no).1 ∙ e)) ] refl,
    )

each_done : (ml mp : ℕ) (number : Option ℕ) (a b x y : States) (ms : List Meeting) → Each (λ (m : Meeting). CameToBy ml mp number a b x y m.key m.refused) ms → Each (λ (m : Meeting). (m.is_old ≡ true) ↔ HasUnseen number (state_at a m.key) (state_at b m.key)) ms → Each (IsDoneBy ml mp number a b x y) (map done_of ms)
each_done ml mp number a b x y [] h o = tt
each_done ml mp number a b x y (m ∷ ms) h o = (record { came = h.0; old = o.0 }, each_done ml mp number a b x y ms h.1 o.1)

still_done : (ml mp : ℕ) (number : Option ℕ) (a b x y x' y' : States) (ds : List Done) → Each (λ k. (get x' k ≡ get x k) × (get y' k ≡ get y k)) (keys_done ds) → Each (IsDoneBy ml mp number a b x y) ds → Each (IsDoneBy ml mp number a b x' y') ds
still_done ml mp number a b x y x' y' [] same h = tt
still_done ml mp number a b x y x' y' (d ∷ ds) same h = (record { came = came_still ml mp number a b x y x' y' d.key d.refused same.0.0 same.0.1 h.0.came; old = h.0.old }, still_done ml mp number a b x y x' y' ds same.1 h.1)

-- what is in the first is not in the second
pub not_after : (ks js : List (List ℕ)) (k : List ℕ) → AreDistinct (ks ++ js) → is_member ks k ≡ true → is_member js k ≡ false
not_after ks js k d h =
    elim (is_member js k) as (λ t. is_member js k ≡ t → t ≡ false) [
      | true ↦ λ e. absurd (true≢false (sym h ∙ not_before ks js k d e))
      | false ↦ λ _. refl
    ] refl

-- A WINDOW between two faithful sides
module _ (ml mp : ℕ) (number : Option ℕ) (a b x y x' y' : States) (done : List Done) (es : List Entry) (mine theirs : List State) (ms : List Meeting) (told told' : List (Result (Unit {0}) Refusal))
    (so : SoFarBy ml mp number a b x y done) (next : AreNext a b done es) (held_a : AreHeld x) (held_b : AreHeld y) (none : is_too_large empty_state ≡ false)
    (p : ForEach (IsState x) (held_keys AtLocal es) mine) (q : ForEach (IsState y) (held_keys AtPeer es) theirs) (plans : ArePlans number es mine theirs ms) where
  fresh : Each (λ k. is_member (keys_done done) k ≡ false) (keys_next es)
  fresh = each_in (λ k. is_member (keys_done done) k ≡ false) (keys_next es) (λ k h. not_before (keys_done done) (keys_next es) k next.distinct h)

  pub still_next : Each (IsStill a b x y) es
  still_next = each_entry (λ k. (get x k ≡ get a k) × (get y k ≡ get b k)) es (Each-weaker (λ k. is_member (keys_done done) k ≡ false) (λ k. (get x k ≡ get a k) × (get y k ≡ get b k)) (λ k no. so.rest k no) (keys_next es) fresh)

  pub all_planned : ArePlanned number a b es ms
  all_planned = planned number a b x y es mine theirs ms next.each still_next p q plans

  pub still_keys : Each (λ (m : Meeting). (get x m.key ≡ get a m.key) × (get y m.key ≡ get b m.key)) ms
  still_keys = each_meeting (λ k. (get x k ≡ get a k) × (get y k ≡ get b k)) ms (subst (Each (λ k. (get x k ≡ get a k) × (get y k ≡ get b k))) (sym all_planned.keys)
      (Each-weaker (λ k. is_member (keys_done done) k ≡ false) (λ k. (get x k ≡ get a k) × (get y k ≡ get b k)) (λ k no. so.rest k no) (keys_next es) fresh))

  pub here : Each (λ (m : Meeting). (get a m.key ≢ None) ⊎ (get b m.key ≢ None)) ms
  here = Each-weaker (IsPlanned number a b) (λ (m : Meeting). (get a m.key ≢ None) ⊎ (get b m.key ≢ None)) (λ m h. one_held a b m.key h.differ) ms all_planned.each

  pub same_x : Each (λ (m : Meeting). get x m.key ≡ get a m.key) ms
  same_x = Each-weaker (λ (m : Meeting). (get x m.key ≡ get a m.key) × (get y m.key ≡ get b m.key)) (λ (m : Meeting). get x m.key ≡ get a m.key) (λ m h. h.0) ms still_keys

  short_b : Each (λ (m : Meeting). is_too_large (state_at b m.key) ≡ false) ms
  short_b = Each-weaker (λ (m : Meeting). (get x m.key ≡ get a m.key) × (get y m.key ≡ get b m.key)) (λ (m : Meeting). is_too_large (state_at b m.key) ≡ false) (λ m h. ap is_too_large (sym (same_state y b m.key h.1)) ∙ short_at y held_b none m.key) ms still_keys

  pub distinct_keys : AreDistinct (meeting_keys ms)
  distinct_keys = subst AreDistinct (sym all_planned.keys) (distinct_later (keys_done done) (keys_next es) next.distinct)

  module _ (first : Pushes ml x (filter_map (pushed_pair AtLocal) ms) told x') (one : Each IsOfKey told) where
    pub local_phase : Phase ml a b x x x' (asks_of AtLocal ms) told
    local_phase = phase ml a b x (asks_of AtLocal ms) x told x' (subst AreDistinct (sym (asked_keys AtLocal ms)) distinct_keys)
        (each_ask (λ k. get x k ≡ get x k) AtLocal ms (each_meeting (λ k. get x k ≡ get x k) ms (each_in (λ k. get x k ≡ get x k) (meeting_keys ms) (λ k _. refl))))
        (each_ask (λ k. (get a k ≢ None) ⊎ (get b k ≢ None)) AtLocal ms here) (from_so_far ml mp number a b x y done so).0 (subst (λ ps. Pushes ml x ps told x') (pairs_same AtLocal ms) first)

    pub pulled : Each (λ (m : Meeting). Pulled ml a b x' m.key m.give m.refused) (noted AtLocal (map (taken_from AtLocal) ms) told)
    pulled = local_after ml a b x x' ms told same_x short_b one (Each-weaker (IsPlanned number a b) (λ (m : Meeting). Plan (state_at a m.key) (state_at b m.key) m) (λ m h. h.plan) ms all_planned.each) local_phase.took

    pub facts : Each (λ (m : Meeting). (get a m.key ≢ get b m.key) × (get y m.key ≡ get b m.key) × (is_too_large (state_at a m.key) ≡ false) × IsValid (state_at a m.key) × IsValid (state_at b m.key)) ms
    facts = Each-weaker (λ (m : Meeting). IsPlanned number a b m × ((get x m.key ≡ get a m.key) × (get y m.key ≡ get b m.key))) (λ (m : Meeting). (get a m.key ≢ get b m.key) × (get y m.key ≡ get b m.key) × (is_too_large (state_at a m.key) ≡ false) × IsValid (state_at a m.key) × IsValid (state_at b m.key))
        (λ m h. (
          h.0.differ,
          h.1.1,
          ap is_too_large (sym (same_state x a m.key h.1.0)) ∙ short_at x held_a none m.key,
          subst IsValid (same_state x a m.key h.1.0) (valid_at x held_a m.key),
          subst IsValid (same_state y b m.key h.1.1) (valid_at y held_b m.key),
        )) ms (each_both (IsPlanned number a b) (λ (m : Meeting). (get x m.key ≡ get a m.key) × (get y m.key ≡ get b m.key)) ms all_planned.each still_keys)

    module _ (second : Pushes mp y (filter_map (pushed_pair AtPeer) (noted AtLocal (map (taken_from AtLocal) ms) told)) told' y') (also_one : Each IsOfKey told') where
      pub peer_phase : Phase mp a b y y y' (asks_of AtPeer (noted AtLocal (map (taken_from AtLocal) ms) told)) told'
      peer_phase =
          let after = noted AtLocal (map (taken_from AtLocal) ms) told in
          phase mp a b y (asks_of AtPeer after) y told' y' (subst AreDistinct (sym (asked_keys AtPeer after ∙ keys_noted AtLocal ms told)) distinct_keys)
          (each_ask (λ k. get y k ≡ get y k) AtPeer after (each_meeting (λ k. get y k ≡ get y k) after (each_in (λ k. get y k ≡ get y k) (meeting_keys after) (λ k _. refl))))
          (each_ask (λ k. (get a k ≢ None) ⊎ (get b k ≢ None)) AtPeer after (each_noted (λ k _. (get a k ≢ None) ⊎ (get b k ≢ None)) AtLocal ms told here))
          (from_so_far ml mp number a b x y done so).1 (subst (λ ps. Pushes mp y ps told' y') (pairs_same AtPeer after) second)

      may_take : Each (MayTake ml mp number a b x' y y') (noted AtLocal (map (taken_from AtLocal) ms) told)
      may_take =
          let P : List ℕ → Bool → Type 0 = λ k _. (get a k ≢ get b k) × (get y k ≡ get b k) × (is_too_large (state_at a k) ≡ false) × IsValid (state_at a k) × IsValid (state_at b k) in
          Each-weaker (λ (m : Meeting). (get a m.key ≢ get b m.key) × (get y m.key ≡ get b m.key) × (is_too_large (state_at a m.key) ≡ false) × IsValid (state_at a m.key) × IsValid (state_at b m.key)) (MayTake ml mp number a b x' y y')
          (λ m h. record { differ = h.0; same = h.1; short = h.2; own = h.3; other = h.4 }) (noted AtLocal (map (taken_from AtLocal) ms) told) (each_noted P AtLocal ms told facts)

      pub came : Each (λ (m : Meeting). CameToBy ml mp number a b x' y' m.key m.refused) (noted AtPeer (map (taken_from AtPeer) (noted AtLocal (map (taken_from AtLocal) ms) told)) told')
      came = peer_after ml mp number a b x' y y' (noted AtLocal (map (taken_from AtLocal) ms) told) told' may_take also_one pulled peer_phase.took

      pub keys_now : keys_done (map done_of (noted AtPeer (map (taken_from AtPeer) (noted AtLocal (map (taken_from AtLocal) ms) told)) told')) ≡ keys_next es
      keys_now =
          let after = noted AtLocal (map (taken_from AtLocal) ms) told in
          keys_of_done (noted AtPeer (map (taken_from AtPeer) after) told') ∙ keys_noted AtPeer after told' ∙ keys_noted AtLocal ms told ∙ all_planned.keys

      old_now : Each (λ (m : Meeting). (m.is_old ≡ true) ↔ HasUnseen number (state_at a m.key) (state_at b m.key)) (noted AtPeer (map (taken_from AtPeer) (noted AtLocal (map (taken_from AtLocal) ms) told)) told')
      old_now =
          let P : List ℕ → Bool → Type 0 = λ k o. (o ≡ true) ↔ HasUnseen number (state_at a k) (state_at b k) in
          each_noted P AtPeer (noted AtLocal (map (taken_from AtLocal) ms) told) told'
          (each_noted P AtLocal ms told (Each-weaker (IsPlanned number a b) (λ (m : Meeting). (m.is_old ≡ true) ↔ HasUnseen number (state_at a m.key) (state_at b m.key)) (λ m h. h.old) ms all_planned.each))

      -- what is not among the keys of the window has not changed
      kept : (k : List ℕ) → is_member (keys_next es) k ≡ false → (get x' k ≡ get x k) × (get y' k ≡ get y k)
      kept k out = (
        local_phase.rest k (ap (λ ks. is_member ks k) (asked_keys AtLocal ms ∙ all_planned.keys) ∙ out),
        peer_phase.rest k (ap (λ ks. is_member ks k) (asked_keys AtPeer (noted AtLocal (map (taken_from AtLocal) ms) told) ∙ keys_noted AtLocal ms told ∙ all_planned.keys) ∙ out),
      )

      -- the window's keys are done
      pub so_far_on : SoFarBy ml mp number a b x' y' (done ++ map done_of (noted AtPeer (map (taken_from AtPeer) (noted AtLocal (map (taken_from AtLocal) ms) told)) told'))
      so_far_on =
          let now = map done_of (noted AtPeer (map (taken_from AtPeer) (noted AtLocal (map (taken_from AtLocal) ms) told)) told') in
          let keys : keys_done (done ++ now) ≡ keys_done done ++ keys_next es = map-append (λ (d : Done). d.key) done now ∙ ap (λ ks. keys_done done ++ ks) keys_now in
          record {
            distinct = subst AreDistinct (sym keys) next.distinct;
            each = Each-append (IsDoneBy ml mp number a b x' y') done now
                (still_done ml mp number a b x y x' y' done (each_in (λ k. (get x' k ≡ get x k) × (get y' k ≡ get y k)) (keys_done done) (λ k h. kept k (not_after (keys_done done) (keys_next es) k next.distinct h))) so.each)
                (each_done ml mp number a b x' y' (noted AtPeer (map (taken_from AtPeer) (noted AtLocal (map (taken_from AtLocal) ms) told)) told') came old_now);
            rest = λ k no.
                let both = sym (is_member-append (keys_done done) (keys_next es) k) ∙ ap (λ ks. is_member ks k) (sym keys) ∙ no in
                let was = so.rest k (or_left (is_member (keys_done done) k) (is_member (keys_next es) k) both) in
                let still = kept k (or_right (is_member (keys_done done) k) (is_member (keys_next es) k) both) in
                (still.0 ∙ was.0, still.1 ∙ was.1);
          }
