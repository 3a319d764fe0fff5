-- What is planned of a key that was taken: each side is to take what the other held, or has it.
use Rattle.std.proofs.Common.{◌≡◌, ◌⊎◌, inl, inr, ℕ, true, false, cond, List, [], ◌∷◌, map, filter, refl, sym, ap, subst, ◌∙◌, Some, None, Option}
use Rattle.std.specs.FinMap.{get}
use Rattle.mvd_dots.specs.declared.refusals.Refusal.{Refusal}
use Rattle.mvd_keys.specs.Order.{Includes}
use Rattle.mvd_keys.specs.State.{IsValid, State, empty_state}
use Rattle.mvd_keys.specs.Writes.{Key}
use Rattle.mvd_keys.proofs.Joins.{join_empty_left}
use Rattle.mvd_keys.proofs.Lists.{IsValid-empty}
use Rattle.mvd_keys.proofs.Ordered.{includes_on}
use Rattle.mvd_site.specs.Held.{AreHeld, States, state_at}
use Rattle.mvd_peer.proofs.JoinLaws.{valid_at}
use Rattle.mvd_peer.specs.Windows.{ForEach}
use Rattle.mvd_sync.specs.Meetings.{ArePlans, Trades, clash, first_if, has, held_keys, is_held, meet, or_empty, rest_if}
use Rattle.mvd_sync.specs.declared.cursor.Entry.{Entry}
use Rattle.mvd_sync.specs.declared.meetings.Meeting.{Meeting}
use Rattle.mvd_sync.specs.declared.report.Side.{Side}
use Rattle.mvd_sync.specs.declared.report.Side.TheVariants.{Local as AtLocal, Peer as AtPeer}
use Rattle.mvd_sync.proofs.Handing.{next_given}
use Rattle.mvd_live.proofs.Buckets.{Fits}
use Rattle.mvd_live.proofs.Moments.{AtMoment, Frame}
use Rattle.mvd_live.proofs.Some.{AnyOf}

-- a state of a key as a side told it at a moment
abbrev pub StateAt : List States → States → States → Key → State → Type 0
StateAt moments first last key state = AtMoment moments first last (λ held. state ≡ state_at held key)

-- what a side gave of a key, or nothing, where it had nothing: it includes what was held at first, and is had at last
pub record Brings (first last : States) (key : Key) (given : Option State) : Type 0 where
  pub valid : IsValid (or_empty given)
  pub has : Includes (or_empty given) (state_at first key)
  pub came : Includes (state_at last key) (or_empty given)

-- what the local side is to take, or has
abbrev pub PullFits : Frame → Key → Option State → Type 0
PullFits f key None = Includes (state_at f.a' key) (state_at f.b key)
PullFits f key (Some s) = IsValid s × Includes s (state_at f.b key)

-- what the peer is to take, or has
abbrev pub GiveFits : Frame → Key → Option State → Type 0
GiveFits f key None = Includes (state_at f.b' key) (state_at f.a key)
GiveFits f key (Some s) = IsValid s × Includes s (state_at f.a key)

-- what is still to be done in a side's turn
abbrev pub Owes : Side → Frame → Key → Meeting → Type 0
Owes AtLocal f key m = PullFits f key m.pull × GiveFits f key m.give
Owes AtPeer f key m = Includes (state_at f.a' key) (state_at f.b key) × GiveFits f key m.give

abbrev pub IsRefused : Option (Side × Refusal) → Type 0
IsRefused refused = (r : Side × Refusal) × (refused ≡ Some r)

-- the key is refused, or this is planned of it
pub record IsPlanned (side : Side) (f : Frame) (key : Key) (m : Meeting) : Type 0 where
  pub is : m.key ≡ key
  pub fate : IsRefused m.refused ⊎ ((m.refused ≡ None) × Owes side f key m)

-- ---- what was given

module _ (moments : List States) (first last : States) (form : AreHeld first) (form' : AreHeld last) (key : Key) where
  brings_some : (s : State) → StateAt moments first last key s → Brings first last key (Some s)
  brings_some s at = record {
    valid = subst IsValid (sym at.2) (valid_at at.0 at.1.form key);
    has = subst (λ x. Includes x (state_at first key)) (sym at.2) (at.1.since key);
    came = subst (λ x. Includes (state_at last key) x) (sym at.2) (at.1.until key);
  }

  brings_none : get first key ≡ None → Brings first last key None
  brings_none none = record {
    valid = IsValid-empty;
    has = subst (λ x. Includes empty_state x) (sym (ap (λ o. Rattle.std.specs.Prelude.unwrap_or o empty_state) none)) (join_empty_left empty_state);
    came = join_empty_left (state_at last key);
  }

  brings_next : (side : Side) (e : Entry) (es : List Entry) (states : List State) → e.key ≡ key → (is_held side e ≡ false → get first key ≡ None) → ForEach (StateAt moments first last) (held_keys side (e ∷ es)) states → Brings first last key (first_if (is_held side e) states)
  brings_next side e es states is lacks each =
      elim (is_held side e) as (λ b. is_held side e ≡ b → ForEach (StateAt moments first last) (map (λ e. e.key) (cond b (e ∷ filter (is_held side) es) (filter (is_held side) es))) states → Brings first last key (first_if b states)) [
        | true ↦ λ _ each. one states each
        | false ↦ λ no _. brings_none (lacks no)
      ] refl each
    where
      one : (states : List State) → ForEach (StateAt moments first last) (e.key ∷ map (λ (e : Entry). e.key) (filter (is_held side) es)) states → Brings first last key (first_if true states)
      one [] each = absurd each
      one (s ∷ states) each = brings_some s (subst (λ k. StateAt moments first last k s) is each.0)

-- ---- what is planned

module _ (f : Frame) (key : Key) where
  valid_a : IsValid (state_at f.a key)
  valid_a = valid_at f.a f.fa key

  valid_b : IsValid (state_at f.b key)
  valid_b = valid_at f.b f.fb key

  pull_fits : (other : Option State) → Brings f.b f.b' key other → PullFits f key other
  pull_fits None brings = includes_on (state_at f.b key) empty_state (state_at f.a' key) valid_b IsValid-empty (valid_at f.a' f.fa' key) brings.has (join_empty_left (state_at f.a' key))
  pull_fits (Some s) brings = (brings.valid, brings.has)

  give_fits : (own : Option State) → Brings f.a f.a' key own → GiveFits f key own
  give_fits None brings = includes_on (state_at f.a key) empty_state (state_at f.b' key) valid_a IsValid-empty (valid_at f.b' f.fb' key) brings.has (join_empty_left (state_at f.b' key))
  give_fits (Some s) brings = (brings.valid, brings.has)

  planned_one : (m : Meeting) (own other : Option State) → m.key ≡ key → Brings f.a f.a' key own → Brings f.b f.b' key other → Trades own other m.pull m.give m.refused → IsPlanned AtLocal f key m
  planned_one m own other is mine theirs (clash clashing pull give refused) = record { is = is; fate = inl (_, refused) }
  planned_one m own other is mine theirs (meet apart pull give refused) = record {
    is = is;
    fate = inr (refused, (subst (PullFits f key) (sym pull) (pull_fits other theirs), subst (GiveFits f key) (sym give) (give_fits own mine)));
  }
  planned_one m own other is mine theirs (has apart pull give joined refused) = record {
    is = is;
    fate = inr (
      refused,
      (
        subst (PullFits f key) (sym pull) (pull_fits other theirs),
        subst (GiveFits f key) (sym give)
            (includes_on (state_at f.a key) (or_empty own) (state_at f.b' key) valid_a mine.valid (valid_at f.b' f.fb' key) mine.has
            (includes_on (or_empty own) (or_empty other) (state_at f.b' key) mine.valid theirs.valid (valid_at f.b' f.fb' key) joined theirs.came)),
      ),
    );
  }

  pub planned_any : (number : Option ℕ) (es : List Entry) (mine theirs : List State) (ms : List Meeting) → ForEach (StateAt f.locals f.a f.a') (held_keys AtLocal es) mine → ForEach (StateAt f.peers f.b f.b') (held_keys AtPeer es) theirs → ArePlans number es mine theirs ms
      → AnyOf (Fits f key) es → AnyOf (IsPlanned AtLocal f key) ms
  planned_any number [] mine theirs ms p q plans never = absurd never
  planned_any number (e ∷ es) mine theirs [] p q plans some = absurd plans
  planned_any number (e ∷ es) mine theirs (m ∷ ms) p q plans (inl here) =
      inl (planned_one m (first_if e.mine mine) (first_if e.theirs theirs) (plans.0.of_key ∙ here.is)
      (brings_next f.locals f.a f.a' f.fa f.fa' key AtLocal e es mine here.is here.mine p)
      (brings_next f.peers f.b f.b' f.fb f.fb' key AtPeer e es theirs here.is here.theirs q) plans.0.meets)
  planned_any number (e ∷ es) mine theirs (m ∷ ms) p q plans (inr later) =
      inr (planned_any number es (rest_if e.mine mine) (rest_if e.theirs theirs) ms
      (next_given (StateAt f.locals f.a f.a') AtLocal e es mine p).1 (next_given (StateAt f.peers f.b f.b') AtPeer e es theirs q).1 plans.2 later)
