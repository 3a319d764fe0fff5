-- What a side held at a moment, between what it held as a session began and what it holds as it ends.
use Rattle.std.proofs.Common.{◌≡◌, ◌≢◌, ◌⊎◌, inl, inr, ℕ, ◌≤◌, ◌==◌, true, false, List, length, refl, sym, ap, subst, ◌∙◌, Some, None, Option, true≢false}
use Rattle.std.specs.Prelude.{Contains, IsTrue, bytes_eq, option_map, unwrap_or}
use Rattle.std.specs.FinMap.{get}
use Rattle.std.proofs.lemmas.Slice.Eq.{bytes_eq-Decides}
use Rattle.mvd_keys.specs.Order.{Includes}
use Rattle.mvd_keys.specs.State.{IsValid, State, empty_state, join}
use Rattle.mvd_keys.specs.Writes.{Key, is_empty}
use Rattle.mvd_keys.proofs.Joins.{join_empty_left, join_empty_right, join_repeats}
use Rattle.mvd_tree.specs.Hashed.{HashesTellApart}
use Rattle.mvd_tree.specs.HashTree.{is_under, node_digest}
use Rattle.mvd_tree.specs.States.{key_digest}
use Rattle.mvd_tree.proofs.Apart.{same_state}
use Rattle.mvd_tree.proofs.KeyDigests.{get-digests_of}
use Rattle.mvd_kept.proofs.Texts.{equal_nodes, one_text}
use Rattle.mvd_site.specs.Answer.{digests, spelled}
use Rattle.mvd_site.specs.Held.{AreHeld, States, state_at}
use Rattle.mvd_peer.specs.Live.{Grows, HaveBoth}
use Rattle.mvd_live.specs.Lives.{TellApart}
use Rattle.mvd_peer.proofs.Growths.{grows_on, has_met}
use Rattle.mvd_peer.proofs.JoinLaws.{valid_at}

-- what a side held at one of these moments, which began with the first and ends with the last
pub record Seen (moments : List States) (first last held : States) : Type 0 where
  pub among : Contains moments held
  pub form : AreHeld held
  pub since : Grows first held
  pub until : Grows held last

-- it was so at some moment
abbrev pub AtMoment : List States → States → States → (States → Type 0) → Type 0
AtMoment moments first last P = (held : States) × Seen moments first last held × P held

pub grown_on : (a b c : States) → AreHeld a → AreHeld b → AreHeld c → Grows a b → Grows b c → Grows a c
grown_on a b c p q r up on = grows_on a b c (valid_at a p) (valid_at b q) (valid_at c r) up on

pub includes_self : (s : State) → IsValid s → Includes s s
includes_self s valid = join_repeats s valid

-- ---- two digests

stable_digest : (xs ys : List ℕ) → (xs ≡ ys) ⊎ (xs ≢ ys)
stable_digest xs ys = elim (bytes_eq xs ys) as (λ b. bytes_eq xs ys ≡ b → (xs ≡ ys) ⊎ (xs ≢ ys)) [
  | true ↦ λ e. inl ((bytes_eq-Decides xs ys).0 e)
  | false ↦ λ e. inr (λ same. true≢false (sym ((bytes_eq-Decides xs ys).1 same) ∙ e))
] refl

pub same_or_not : (xs ys : List ℕ) → (xs ≡ ys) ⊎ (xs ≢ ys)
same_or_not = stable_digest

pub digest_or_not : (x y : Option (List ℕ)) → (x ≡ y) ⊎ (x ≢ y)
digest_or_not None None = inl refl
digest_or_not None (Some y) = inr (λ e. absurd (cc))
digest_or_not (Some x) None = inr (λ e. absurd (cc))
digest_or_not (Some x) (Some y) = elim (stable_digest x y) [ inl same ↦ inl (ap Some same) | inr other ↦ inr (λ e. other (cc)) ]

pub none_or_some : {X : Type 0} (o : Option X) → (o ≡ None) ⊎ ((x : X) × (o ≡ Some x))
none_or_some None = inl refl
none_or_some (Some x) = inr (x, refl)

-- a key has the digest of its state
pub digest_at : (held : States) (key : Key) (state : State) → get held key ≡ Some state → get (digests held) key ≡ Some (key_digest spelled key state)
digest_at held key state is = get-digests_of spelled held key ∙ ap (option_map (key_digest spelled key)) is

pub digests_same : (s t : States) (key : Key) → get s key ≡ get t key → get (digests s) key ≡ get (digests t) key
digests_same s t key same = get-digests_of spelled s key ∙ ap (option_map (key_digest spelled key)) same ∙ sym (get-digests_of spelled t key)

-- where the hashes tell, equal digests of a key are of equal states
pub states_same : (s t : States) → AreHeld s → AreHeld t → HashesTellApart spelled s t → (key : Key) → get (digests s) key ≡ get (digests t) key → get s key ≡ get t key
states_same s t p q apart key same = same_state spelled s t apart (one_text s t p q) key same

-- and equal nodes have equal digests of each key under them
pub node_same : (s t : States) → AreHeld s → AreHeld t → HashesTellApart spelled s t → (path : List ℕ) → length path ≤ 3 → (key : Key) → IsTrue (is_under path key)
    → node_digest (digests s) path ≡ node_digest (digests t) path → get (digests s) key ≡ get (digests t) key
node_same s t p q apart path short key under same = digests_same s t key (equal_nodes s t p q apart path short same key under)

-- ---- what nobody had held

-- what was held is held later
pub still_held : (first held : States) (key : Key) → AreHeld first → AreHeld held → Grows first held → (get first key ≡ None → ⊥) → get held key ≡ None → ⊥
still_held first held key p q up some none =
    elim (none_or_some (get first key)) [
      | inl never ↦ some never
      | inr was ↦
          let s = was.0 in
          let before : state_at first key ≡ s = ap (λ o. unwrap_or o empty_state) was.1 in
          let after : state_at held key ≡ empty_state = ap (λ o. unwrap_or o empty_state) none in
          let valid = p.valid key s was.1 in
          let joined : join s empty_state ≡ empty_state = (λ i. join (sym before i) (sym after i)) ∙ up key ∙ after in
          let same : s ≡ empty_state = sym (join_empty_right s) ∙ joined in
          let seen : is_empty s.context ≡ false = (p.held key s was.1).seen in
          let empty : is_empty empty_state.context ≡ true = nothing_seen in
          true≢false (sym empty ∙ ap (λ (x : State). is_empty x.context) (sym same) ∙ seen)
    ]
  where
    nothing_seen : is_empty empty_state.context ≡ true
    nothing_seen = ap (λ n. n == 0) (Rattle.std.specs.FinSet.len-empty Rattle.mvd_dots.specs.Dot.dot_cmp)

includes_empty : (held : States) (key : Key) (first : States) → get first key ≡ None → Includes (state_at held key) (state_at first key)
includes_empty held key first none =
    subst (λ x. Includes (state_at held key) x) (sym (ap (λ o. unwrap_or o empty_state) none)) (join_empty_left (state_at held key))

-- ---- what both have

-- Two sides that began with this and end with that, and the moments at which they told
pub record Frame : Type 0 where
  pub a : States
  pub b : States
  pub a' : States
  pub b' : States
  pub fa : AreHeld a
  pub fb : AreHeld b
  pub fa' : AreHeld a'
  pub fb' : AreHeld b'
  pub up : Grows a a'
  pub up' : Grows b b'
  pub locals : List States
  pub peers : List States

abbrev pub Had : Frame → Key → Type 0
Had f key = HaveBoth f.a f.b f.a' f.b' key

abbrev pub SeenHere : Frame → States → Type 0
SeenHere f held = Seen f.locals f.a f.a' held

abbrev pub SeenThere : Frame → States → Type 0
SeenThere f held = Seen f.peers f.b f.b' held

module _ (a b a' b' : States) (fa : AreHeld a) (fb : AreHeld b) (fa' : AreHeld a') (fb' : AreHeld b') (up : Grows a a') (up' : Grows b b') (key : Key) where
  -- what either had came to the other
  pub had : Includes (state_at a' key) (state_at b key) → Includes (state_at b' key) (state_at a key) → HaveBoth a b a' b' key
  had mine theirs = record { mine = up key; mine_of_peer = mine; theirs = up' key; theirs_of_local = theirs }

  -- neither had held it
  pub had_nothing : get a key ≡ None → get b key ≡ None → HaveBoth a b a' b' key
  had_nothing none none' = had (includes_empty a' key b none') (includes_empty b' key a none)

  module _ (locals peers : List States) where
    -- it was found equal at two moments
    pub had_equal : (s t : States) → Seen locals a a' s → Seen peers b b' t → get s key ≡ get t key → HaveBoth a b a' b' key
    had_equal s t p q same =
        has_met a b s t a' b' key (valid_at a fa) (valid_at b fb) (valid_at s p.form) (valid_at t q.form) (valid_at a' fa') (valid_at b' fb') p.since p.until q.since q.until
        (ap (λ o. unwrap_or o empty_state) same)

pub equal_had : (f : Frame) (key : Key) (s t : States) → SeenHere f s → SeenThere f t → get s key ≡ get t key → Had f key
equal_had f key s t p q same = had_equal f.a f.b f.a' f.b' f.fa f.fb f.fa' f.fb' f.up f.up' key f.locals f.peers s t p q same

pub digests_had : (f : Frame) (key : Key) → TellApart f.locals f.peers → (s t : States) → SeenHere f s → SeenThere f t → get (digests s) key ≡ get (digests t) key → Had f key
digests_had f key apart s t p q same = equal_had f key s t p q (states_same s t p.form q.form (apart s t p.among q.among) key same)

pub nothing_had : (f : Frame) (key : Key) → get f.a key ≡ None → get f.b key ≡ None → Had f key
nothing_had f key none none' = had_nothing f.a f.b f.a' f.b' f.fa f.fb f.fa' f.fb' f.up f.up' key none none'

pub both_had : (f : Frame) (key : Key) → Includes (state_at f.a' key) (state_at f.b key) → Includes (state_at f.b' key) (state_at f.a key) → Had f key
both_had f key mine theirs = record { mine = f.up key; mine_of_peer = mine; theirs = f.up' key; theirs_of_local = theirs }
