-- A side's turn: what it took is had at last, and what it refused is left.
use Rattle.std.proofs.Common.{◌≡◌, ◌⊎◌, inl, inr, ℕ, zero, suc, ◌≤◌, true, cond, List, [], ◌∷◌, ◌++◌, length, map, filter_map, take, drop, refl, sym, ap, subst, ◌∙◌, arith, Some, None, Option, option_map}
use Rattle.std.specs.Prelude.{Result, Ok, Err, is_some}
use Rattle.std.specs.Cmp.{Equal-is, tied_itself}
use Rattle.std.specs.Cmp.Lexicographic.{nat_list_cmp_total, slice_cmp}
use Rattle.std.specs.List.{cons_option}
use Rattle.std.specs.Ordering.{eq_by_cmp, nat_cmp}
use Rattle.mvd_dots.specs.declared.refusals.Refusal.{Refusal}
use Rattle.mvd_keys.specs.Order.{Includes}
use Rattle.mvd_keys.specs.State.{IsValid, State}
use Rattle.mvd_keys.specs.Writes.{Key}
use Rattle.mvd_keys.proofs.Ordered.{includes_on}
use Rattle.mvd_site.specs.Held.{AreHeld, States, state_at}
use Rattle.mvd_peer.proofs.JoinLaws.{valid_at}
use Rattle.mvd_peer.specs.PushedStates.{Each}
use Rattle.mvd_peer.specs.Windows.{ForEach}
use Rattle.mvd_sync.specs.Exchanges.{left_as, left_keys}
use Rattle.mvd_sync.specs.Meetings.{done_of, first_if, noted, noted_refusal, pushed_pair, rest_if, taken_from, wanted}
use Rattle.mvd_sync.specs.OneTurn.{BeginsTurn, IsSameTurn, untold}
use Rattle.mvd_sync.specs.Session.{IsIn, is_member}
use Rattle.mvd_sync.specs.declared.meetings.Meeting.{Meeting}
use Rattle.mvd_sync.specs.declared.report.Left.{Left}
use Rattle.mvd_sync.specs.declared.report.Side.{Side}
use Rattle.mvd_sync.specs.declared.report.Side.TheVariants.{Local as AtLocal, Peer as AtPeer}
use Rattle.mvd_sync.specs.declared.turn.Turn.{Turn}
use Rattle.mvd_sync.proofs.Nodes.{or_first, or_second}
use Rattle.mvd_live.specs.Told.{TellsPush}
use Rattle.mvd_live.proofs.Meets.{GiveFits, IsPlanned, IsRefused, Owes, PullFits}
use Rattle.mvd_live.proofs.Moments.{AtMoment, Frame, Had, both_had}
use Rattle.mvd_live.proofs.Some.{AnyOf}

abbrev Answer : Type 0
Answer = Result (Unit {0}) Refusal

-- what was taken of the first of these is had at last
abbrev pub Took : States → List (Key × State) → List Answer → Type 0
Took last pairs [] = Unit {0}
Took last [] (t ∷ told) = ⊥
Took last (p ∷ pairs) (Ok done ∷ told) = Includes (state_at last p.0) p.1 × Took last pairs told
Took last (p ∷ pairs) (Err refusal ∷ told) = Took last pairs told

-- what a side holds at last
abbrev pub last_of : Frame → Side → States
last_of f AtLocal = f.a'
last_of f AtPeer = f.b'

-- THE KEY IS AMONG THOSE of a side's turn
pub record InTurn (f : Frame) (key : Key) (turn : Turn) : Type 0 where
  pub meetings : List Meeting
  pub keys : turn.meetings.items ≡ map (taken_from turn.side) meetings
  pub takes : turn.pairs.items ≡ filter_map (pushed_pair turn.side) meetings
  pub took : Took (last_of f turn.side) turn.pairs.items turn.told.items
  pub some : AnyOf (IsPlanned turn.side f key) meetings

pub turn_begins : (f : Frame) (key : Key) (side : Side) (ms : List Meeting) (turn : Turn) → BeginsTurn side ms turn → AnyOf (IsPlanned side f key) ms → InTurn f key turn
turn_begins f key side ms turn b some = record {
  meetings = ms;
  keys = b.keys ∙ ap (λ s. map (taken_from s) ms) (sym b.of_side);
  takes = b.takes ∙ ap (λ s. filter_map (pushed_pair s) ms) (sym b.of_side);
  took = subst (Took (last_of f turn.side) turn.pairs.items) (sym b.fresh) tt;
  some = subst (λ s. AnyOf (IsPlanned s f key) ms) (sym b.of_side) some;
}

-- ---- more was told

-- a push as a side told of it at a moment
abbrev pub PushAt : ℕ → List States → States → States → Key × State → Answer → Type 0
PushAt most moments first last pair answer = AtMoment moments first last (λ held. TellsPush most held pair answer)

module _ (most : ℕ) (moments : List States) (first last : States) (form : AreHeld last) where
  took_first : (n : ℕ) (pairs : List (Key × State)) (answers : List Answer) → Each (λ p. IsValid p.1) pairs → ForEach (PushAt most moments first last) (take n pairs) answers → Took last pairs answers
  took_first n pairs [] valid each = tt
  took_first zero [] (t ∷ answers) valid each = absurd each
  took_first zero (p ∷ pairs) (t ∷ answers) valid each = absurd each
  took_first (suc n) [] (t ∷ answers) valid each = absurd each
  took_first (suc n) (p ∷ pairs) (Ok done ∷ answers) valid each =
      let at = each.0 in (
        includes_on p.1 (state_at at.0 p.0) (state_at last p.0) valid.0 (valid_at at.0 at.1.form p.0) (valid_at last form p.0) at.2 (at.1.until p.0),
        took_first n pairs answers valid.1 each.1,
      )
  took_first (suc n) (p ∷ pairs) (Err refusal ∷ answers) valid each = took_first n pairs answers valid.1 each.1

  took_more : (n : ℕ) (pairs : List (Key × State)) (told answers : List Answer) → Each (λ p. IsValid p.1) pairs → Took last pairs told → ForEach (PushAt most moments first last) (take n (drop (length told) pairs)) answers → Took last pairs (told ++ answers)
  took_more n pairs [] answers valid took each = took_first n pairs answers valid each
  took_more n [] (t ∷ told) answers valid took each = absurd took
  took_more n (p ∷ pairs) (Ok done ∷ told) answers valid took each = (took.0, took_more n pairs told answers valid.1 took.1 each)
  took_more n (p ∷ pairs) (Err refusal ∷ told) answers valid took each = took_more n pairs told answers valid.1 took each

pub turn_more : (f : Frame) (key : Key) (most : ℕ) (moments : List States) (first : States) (turn after : Turn) (n : ℕ) (answers : List Answer) → AreHeld (last_of f turn.side) → IsSameTurn turn after → after.told.items ≡ turn.told.items ++ answers → Each (λ p. IsValid p.1) turn.pairs.items
    → ForEach (PushAt most moments first (last_of f turn.side)) (take n (untold turn)) answers → InTurn f key turn → InTurn f key after
turn_more f key most moments first turn after n answers form same more valid each old =
    let took : Took (last_of f turn.side) turn.pairs.items (turn.told.items ++ answers) = took_more most moments first (last_of f turn.side) form n turn.pairs.items turn.told.items answers valid old.took each in
    record {
      meetings = old.meetings;
      keys = (λ i. (same.keys i).items) ∙ old.keys ∙ ap (λ s. map (taken_from s) old.meetings) (sym same.of_side);
      takes = (λ i. (same.takes i).items) ∙ old.takes ∙ ap (λ s. filter_map (pushed_pair s) old.meetings) (sym same.of_side);
      took = subst (λ s. Took (last_of f s) after.pairs.items after.told.items) (sym same.of_side)
          (subst (λ ps. Took (last_of f turn.side) ps after.told.items) (λ i. (sym same.takes i).items) (subst (Took (last_of f turn.side) turn.pairs.items) (sym more) took));
      some = subst (λ s. AnyOf (IsPlanned s f key) old.meetings) (sym same.of_side) old.some;
    }

-- ---- the turn is over

-- of one key
abbrev HeadTook : States → Key → Option State → Option Answer → Type 0
HeadTook last key None None = Unit {0}
HeadTook last key (Some s) (Some (Ok done)) = Includes (state_at last key) s
HeadTook last key (Some s) (Some (Err refusal)) = Unit {0}
HeadTook last key wanted told = ⊥

-- and of the others
took_split : (last : States) (key : Key) (w : Option State) (pairs : List (Key × State)) (told : List Answer) → Took last (cons_option (option_map (λ s. (key, s)) w) pairs) told → length (cons_option (option_map (λ s. (key, s)) w) pairs) ≤ length told
    → HeadTook last key w (first_if (is_some w) told) × Took last pairs (rest_if (is_some w) told) × (length pairs ≤ length (rest_if (is_some w) told))
took_split last key None pairs told took all = (tt, took, all)
took_split last key (Some s) pairs [] took all = absurd (omega (arith, all))
took_split last key (Some s) pairs (Ok done ∷ told) took all = (took.0, took.1, omega (arith, all))
took_split last key (Some s) pairs (Err refusal ∷ told) took all = (tt, took, omega (arith, all))

still_refused : (side : Side) (refused : Option (Side × Refusal)) (t : Option Answer) → IsRefused refused → IsRefused (noted_refusal side refused t)
still_refused side refused None r = r
still_refused side refused (Some (Ok done)) r = r
still_refused side refused (Some (Err refusal)) r = ((side, refusal), refl)

module _ (f : Frame) (key : Key) where
  pull_took : (side : Side) (refused : Option (Side × Refusal)) (o : Option State) (t : Option Answer) → refused ≡ None → PullFits f key o → HeadTook f.a' key o t → IsRefused (noted_refusal side refused t) ⊎ ((noted_refusal side refused t ≡ None) × Includes (state_at f.a' key) (state_at f.b key))
  pull_took side refused None None none fits took = inr (none, fits)
  pull_took side refused None (Some t) none fits took = absurd took
  pull_took side refused (Some s) None none fits took = absurd took
  pull_took side refused (Some s) (Some (Ok done)) none fits took = inr (none, includes_on (state_at f.b key) s (state_at f.a' key) (valid_at f.b f.fb key) fits.0 (valid_at f.a' f.fa' key) fits.1 took)
  pull_took side refused (Some s) (Some (Err refusal)) none fits took = inl ((side, refusal), refl)

  give_took : (side : Side) (refused : Option (Side × Refusal)) (o : Option State) (t : Option Answer) → refused ≡ None → GiveFits f key o → HeadTook f.b' key o t → IsRefused (noted_refusal side refused t) ⊎ ((noted_refusal side refused t ≡ None) × Includes (state_at f.b' key) (state_at f.a key))
  give_took side refused None None none fits took = inr (none, fits)
  give_took side refused None (Some t) none fits took = absurd took
  give_took side refused (Some s) None none fits took = absurd took
  give_took side refused (Some s) (Some (Ok done)) none fits took = inr (none, includes_on (state_at f.a key) s (state_at f.b' key) (valid_at f.a f.fa key) fits.0 (valid_at f.b' f.fb' key) fits.1 took)
  give_took side refused (Some s) (Some (Err refusal)) none fits took = inl ((side, refusal), refl)

  local_one : (m : Meeting) (t : Option Answer) → IsPlanned AtLocal f key m → HeadTook f.a' m.key (wanted AtLocal m) t → IsPlanned AtPeer f key (record (taken_from AtLocal m) { refused = noted_refusal AtLocal m.refused t })
  local_one m t p took = record { is = p.is; fate = by p.fate }
    where
      by : IsRefused m.refused ⊎ ((m.refused ≡ None) × Owes AtLocal f key m) → IsRefused (noted_refusal AtLocal m.refused t) ⊎ ((noted_refusal AtLocal m.refused t ≡ None) × (Includes (state_at f.a' key) (state_at f.b key) × GiveFits f key m.give))
      by (inl r) = inl (still_refused AtLocal m.refused t r)
      by (inr owes) =
          let wants : wanted AtLocal m ≡ m.pull = ap (λ (o : Option (Side × Refusal)). cond (is_some o) None m.pull) owes.0 in
          elim (pull_took AtLocal m.refused m.pull t owes.0 owes.1.0 (subst (λ o. HeadTook f.a' key o t) wants (subst (λ k. HeadTook f.a' k (wanted AtLocal m) t) p.is took))) [
            | inl r ↦ inl r
            | inr took ↦ inr (took.0, (took.1, owes.1.1))
          ]

  -- the key is refused, or both sides have what either had
  abbrev pub Ends : Meeting → Type 0
  Ends m = (m.key ≡ key) × (IsRefused m.refused ⊎ Had f key)

  peer_one : (m : Meeting) (t : Option Answer) → IsPlanned AtPeer f key m → HeadTook f.b' m.key (wanted AtPeer m) t → (m.key ≡ key) × (IsRefused (noted_refusal AtPeer m.refused t) ⊎ Had f key)
  peer_one m t p took = (p.is, by p.fate)
    where
      by : IsRefused m.refused ⊎ ((m.refused ≡ None) × Owes AtPeer f key m) → IsRefused (noted_refusal AtPeer m.refused t) ⊎ Had f key
      by (inl r) = inl (still_refused AtPeer m.refused t r)
      by (inr owes) =
          let wants : wanted AtPeer m ≡ m.give = ap (λ (o : Option (Side × Refusal)). cond (is_some o) None m.give) owes.0 in
          elim (give_took AtPeer m.refused m.give t owes.0 owes.1.1 (subst (λ o. HeadTook f.b' key o t) wants (subst (λ k. HeadTook f.b' k (wanted AtPeer m) t) p.is took))) [
            | inl r ↦ inl r
            | inr took ↦ inr (both_had f key owes.1.0 took.1)
          ]

  -- after the local side's turn the peer's is planned
  pub noted_local : (ms : List Meeting) (told : List Answer) → Took f.a' (filter_map (pushed_pair AtLocal) ms) told → length (filter_map (pushed_pair AtLocal) ms) ≤ length told → AnyOf (IsPlanned AtLocal f key) ms → AnyOf (IsPlanned AtPeer f key) (noted AtLocal (map (taken_from AtLocal) ms) told)
  noted_local [] told took all never = absurd never
  noted_local (m ∷ ms) told took all (inl here) =
      let split = took_split f.a' m.key (wanted AtLocal m) (filter_map (pushed_pair AtLocal) ms) told took all in
      inl (local_one m (first_if (is_some (wanted AtLocal m)) told) here split.0)
  noted_local (m ∷ ms) told took all (inr later) =
      let split = took_split f.a' m.key (wanted AtLocal m) (filter_map (pushed_pair AtLocal) ms) told took all in
      inr (noted_local ms (rest_if (is_some (wanted AtLocal m)) told) split.1 split.2 later)

  -- and after that of the peer it is done
  pub noted_peer : (ms : List Meeting) (told : List Answer) → Took f.b' (filter_map (pushed_pair AtPeer) ms) told → length (filter_map (pushed_pair AtPeer) ms) ≤ length told → AnyOf (IsPlanned AtPeer f key) ms → AnyOf Ends (noted AtPeer (map (taken_from AtPeer) ms) told)
  noted_peer [] told took all never = absurd never
  noted_peer (m ∷ ms) told took all (inl here) =
      let split = took_split f.b' m.key (wanted AtPeer m) (filter_map (pushed_pair AtPeer) ms) told took all in
      inl (peer_one m (first_if (is_some (wanted AtPeer m)) told) here split.0)
  noted_peer (m ∷ ms) told took all (inr later) =
      let split = took_split f.b' m.key (wanted AtPeer m) (filter_map (pushed_pair AtPeer) ms) told took all in
      inr (noted_peer ms (rest_if (is_some (wanted AtPeer m)) told) split.1 split.2 later)

  -- ---- the keys that are left

  abbrev keys_of : List Left → List Key
  keys_of ls = map (λ (l : Left). l.key) ls

  one_left : (k : Key) (r : Option (Side × Refusal)) (ls : List Left) → k ≡ key → IsRefused r → IsIn (keys_of (cons_option (option_map (left_as k) r) ls)) key
  one_left k None ls is r = let e = r.1 in absurd (cc)
  one_left k (Some r) ls is some = or_first (eq_by_cmp (slice_cmp nat_cmp) key k) (is_member (keys_of ls) key) (subst (λ x. eq_by_cmp (slice_cmp nat_cmp) key x ≡ true) (sym is) ((Equal-is (slice_cmp nat_cmp key key)).1 (tied_itself nat_list_cmp_total key)))

  more_left : (o : Option Left) (ls : List Left) → IsIn (keys_of ls) key → IsIn (keys_of (cons_option o ls)) key
  more_left None ls is = is
  more_left (Some l) ls is = or_second (eq_by_cmp (slice_cmp nat_cmp) key l.key) (is_member (keys_of ls) key) is

  pub ends_any : (ms : List Meeting) → AnyOf Ends ms → IsIn (keys_of (left_keys (map done_of ms))) key ⊎ Had f key
  ends_any [] never = absurd never
  ends_any (m ∷ ms) (inl (is, inl r)) = inl (one_left m.key m.refused (left_keys (map done_of ms)) is r)
  ends_any (m ∷ ms) (inl (is, inr had)) = inr had
  ends_any (m ∷ ms) (inr later) = elim (ends_any ms later) [ inl left ↦ inl (more_left (option_map (left_as m.key) m.refused) (left_keys (map done_of ms)) left) | inr had ↦ inr had ]
