-- What the sides of a window hand to each other.
use Rattle.std.proofs.Common.{ℕ, Bool, true, false, cond, List, [], ◌∷◌, map, filter, filter_map, sym, subst, Some, None, Option, option_map}
use Rattle.std.specs.Prelude.{Result, IfSome, is_some}
use Rattle.std.specs.List.{cons_option}
use Rattle.mvd_dots.specs.declared.refusals.Refusal.{Refusal}
use Rattle.mvd_keys.specs.State.{IsValid, State}
use Rattle.mvd_sync.specs.Meetings.{ArePlans, Trades, clash, first_if, has, held_keys, is_held, meet, noted, pushed_pair, rest_if, taken_from, wanted}
use Rattle.mvd_peer.specs.Windows.{ForEach}
use Rattle.mvd_peer.specs.PushedStates.{Each}
use Rattle.mvd_sync.specs.declared.cursor.Entry.{Entry}
use Rattle.mvd_sync.specs.declared.meetings.Meeting.{Meeting}
use Rattle.mvd_sync.specs.declared.report.Side.{Side}
use Rattle.mvd_sync.specs.declared.report.Side.TheVariants.{Local as AtLocal, Peer as AtPeer}

-- ---- what was given of a key

next_true : (P : List ℕ → State → Type 0) (k : List ℕ) (ks : List (List ℕ)) (states : List State) → ForEach P (k ∷ ks) states → IfSome (first_if true states) (P k) × ForEach P ks (rest_if true states)
next_true P k ks [] h = absurd h
next_true P k ks (s ∷ ss) h = (h.0, h.1)

pub next_given : (P : List ℕ → State → Type 0) (side : Side) (e : Entry) (es : List Entry) (states : List State) → ForEach P (held_keys side (e ∷ es)) states → IfSome (first_if (is_held side e) states) (P e.key) × ForEach P (held_keys side es) (rest_if (is_held side e) states)
next_given P side e es states each =
    elim (is_held side e) as (λ b. ForEach P (map (λ e. e.key) (cond b (e ∷ filter (is_held side) es) (filter (is_held side) es))) states → IfSome (first_if b states) (P e.key) × ForEach P (held_keys side es) (rest_if b states)) [
      | true ↦ λ each. next_true P e.key (held_keys side es) states each
      | false ↦ λ each. (tt, each)
    ] each

-- ---- what is to be taken was given

pull_is : (P : State → Type 0) (own other pull give : Option State) (refused : Option (Side × Refusal)) → Trades own other pull give refused → IfSome other P → IfSome pull P
pull_is P own other pull give refused (clash h p g r) i = subst (λ o. IfSome o P) (sym p) tt
pull_is P own other pull give refused (meet h p g r) i = subst (λ o. IfSome o P) (sym p) i
pull_is P own other pull give refused (has h p g j r) i = subst (λ o. IfSome o P) (sym p) i

give_is : (P : State → Type 0) (own other pull give : Option State) (refused : Option (Side × Refusal)) → Trades own other pull give refused → IfSome own P → IfSome give P
give_is P own other pull give refused (clash h p g r) i = subst (λ o. IfSome o P) (sym g) tt
give_is P own other pull give refused (meet h p g r) i = subst (λ o. IfSome o P) (sym g) i
give_is P own other pull give refused (has h p g j r) i = subst (λ o. IfSome o P) (sym g) tt

both_if : (P Q : State → Type 0) (o : Option State) → IfSome o P → IfSome o Q → IfSome o (λ s. P s × Q s)
both_if P Q None h i = tt
both_if P Q (Some s) h i = (h, i)

module _ (G : List ℕ → State → Type 0) (number : Option ℕ) where
  pub pulls_given : (es : List Entry) (mine theirs : List State) (ms : List Meeting) → ForEach G (held_keys AtPeer es) theirs → ArePlans number es mine theirs ms → Each (λ (m : Meeting). IfSome m.pull (λ s. G m.key s × IsValid s)) ms
  pulls_given [] mine theirs [] each plans = tt
  pulls_given [] mine theirs (m ∷ ms) each plans = absurd plans
  pulls_given (e ∷ es) mine theirs [] each plans = absurd plans
  pulls_given (e ∷ es) mine theirs (m ∷ ms) each plans =
      let next = next_given G AtPeer e es theirs each in
      let pull = pull_is (G e.key) (first_if e.mine mine) (first_if e.theirs theirs) m.pull m.give m.refused plans.0.meets next.0 in (
        both_if (G m.key) IsValid m.pull (subst (λ k. IfSome m.pull (G k)) (sym plans.0.of_key) pull) plans.0.pull_valid,
        pulls_given es (rest_if e.mine mine) (rest_if e.theirs theirs) ms next.1 plans.2,
      )

  pub gives_given : (es : List Entry) (mine theirs : List State) (ms : List Meeting) → ForEach G (held_keys AtLocal es) mine → ArePlans number es mine theirs ms → Each (λ (m : Meeting). IfSome m.give (λ s. G m.key s × IsValid s)) ms
  gives_given [] mine theirs [] each plans = tt
  gives_given [] mine theirs (m ∷ ms) each plans = absurd plans
  gives_given (e ∷ es) mine theirs [] each plans = absurd plans
  gives_given (e ∷ es) mine theirs (m ∷ ms) each plans =
      let next = next_given G AtLocal e es mine each in
      let give = give_is (G e.key) (first_if e.mine mine) (first_if e.theirs theirs) m.pull m.give m.refused plans.0.meets next.0 in (
        both_if (G m.key) IsValid m.give (subst (λ k. IfSome m.give (G k)) (sym plans.0.of_key) give) plans.0.give_valid,
        gives_given es (rest_if e.mine mine) (rest_if e.theirs theirs) ms next.1 plans.2,
      )

-- ---- the pushes

unless : (P : State → Type 0) (b : Bool) (o : Option State) → IfSome o P → IfSome (cond b None o) P
unless P true o h = tt
unless P false o h = h

one_pair : (P : List ℕ × State → Type 0) (key : List ℕ) (w : Option State) (ps : List (List ℕ × State)) → IfSome w (λ s. P (key, s)) → Each P ps → Each P (cons_option (option_map (λ s. (key, s)) w) ps)
one_pair P key None ps h each = each
one_pair P key (Some s) ps h each = (h, each)

pub pulls_good : (P : List ℕ → State → Type 0) (ms : List Meeting) → Each (λ (m : Meeting). IfSome m.pull (P m.key)) ms → Each (λ p. P p.0 p.1) (filter_map (pushed_pair AtLocal) ms)
pulls_good P [] h = tt
pulls_good P (m ∷ ms) h = one_pair (λ p. P p.0 p.1) m.key (wanted AtLocal m) (filter_map (pushed_pair AtLocal) ms) (unless (P m.key) (is_some m.refused) m.pull h.0) (pulls_good P ms h.1)

pub gives_good : (P : List ℕ → State → Type 0) (ms : List Meeting) → Each (λ (m : Meeting). IfSome m.give (P m.key)) ms → Each (λ p. P p.0 p.1) (filter_map (pushed_pair AtPeer) ms)
gives_good P [] h = tt
gives_good P (m ∷ ms) h = one_pair (λ p. P p.0 p.1) m.key (wanted AtPeer m) (filter_map (pushed_pair AtPeer) ms) (unless (P m.key) (is_some m.refused) m.give h.0) (gives_good P ms h.1)

-- what the peer is to take is what it was, after the local side was asked
pub gives_noted : (P : List ℕ → Option State → Type 0) (ms : List Meeting) (ts : List (Result (Unit {0}) Refusal)) → Each (λ (m : Meeting). P m.key m.give) ms → Each (λ (m : Meeting). P m.key m.give) (noted AtLocal (map (taken_from AtLocal) ms) ts)
gives_noted P [] ts h = tt
gives_noted P (m ∷ ms) ts h = (h.0, gives_noted P ms (rest_if (is_some (wanted AtLocal m)) ts) h.1)
