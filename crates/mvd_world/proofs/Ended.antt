-- A session that nothing disturbs, and that leaves no key, ran to its end.
use Rattle.std.proofs.Common.{◌≡◌, ◌≢◌, ℕ, Bool, true, false, ◌==◌, ◌&&◌, not, cond, MatchBool, List, [], ◌++◌, length, map, Option, Some, None, refl, sym, ap, ap₂, ◌∙◌, subst, true≢false, eq-eqb, unwrap_or}
use Rattle.std.specs.Prelude.{Ok, bytes_eq}
use Rattle.std.specs.FinMap.{get}
use Rattle.std.specs.FinSet.{contains}
use Rattle.std.proofs.lemmas.List.{append-nil, nil_from_length}
use Rattle.std.proofs.lemmas.Slice.Eq.{bytes_eq-Decides}
use Rattle.mvd_keys.specs.Order.{Includes}
use Rattle.mvd_keys.specs.State.{State, clashes, empty_state, join}
use Rattle.mvd_keys.specs.Writes.{Key, Write, state}
use Rattle.mvd_keys.proofs.Growing.{grows, join_above}
use Rattle.mvd_keys.proofs.Joins.{join_back, joined_apart}
use Rattle.mvd_keys.proofs.Lists.{IsValid-join}
use Rattle.mvd_keys.proofs.Ordered.{includes_on}
use Rattle.mvd_keys.proofs.Sets.{IsValid-state}
use Rattle.mvd_keys.proofs.StatesOfWrites.{same_state}
use Rattle.mvd_tree.specs.Hashed.{HashesTellApart}
use Rattle.mvd_peer.specs.Live.{HaveBoth}
use Rattle.mvd_site.specs.Answer.{spelled, states_of}
use Rattle.mvd_site.specs.Held.{state_at}
use Rattle.mvd_sync.specs.Session.{IsIn, is_member}
use Rattle.mvd_sync.specs.declared.report.Left.{Left}
use Rattle.mvd_sync.specs.declared.report.Report.{Report}
use Rattle.mvd_world.specs.declared.steps.Step.TheVariants.{Session}
use Rattle.mvd_world.specs.declared.steps.Outcome.TheVariants.{Met, NoSuch}
use Rattle.mvd_world.specs.Agreeing.{RanToItsEnd}
use Rattle.mvd_world.specs.Machine.{Knowledge, MayStep, MeetSites, Setting, Takes, is_site, learns, may_be, writes_in}
use Rattle.mvd_world.proofs.Agreed.{state_is}
use Rattle.mvd_world.proofs.Changed.{learns_here, learns_other}
use Rattle.mvd_world.proofs.Gained.{gained}

-- ---- two states are one where they cannot differ

stable_text : (xs ys : List ℕ) → ((xs ≡ ys → ⊥) → ⊥) → xs ≡ ys
stable_text xs ys h =
    elim (bytes_eq xs ys) as (λ b. bytes_eq xs ys ≡ b → xs ≡ ys) [
      | true ↦ λ e. (bytes_eq-Decides xs ys).0 e
      | false ↦ λ e. absurd (h (λ s. true≢false (sym ((bytes_eq-Decides xs ys).1 s) ∙ e)))
    ] refl

stable_some : (x y : Option (List ℕ)) → ((x ≡ y → ⊥) → ⊥) → x ≡ y
stable_some None None h = refl
stable_some None (Some t) h = absurd (h (λ e. absurd (cc)))
stable_some (Some s) None h = absurd (h (λ e. absurd (cc)))
stable_some (Some s) (Some t) h = ap Some (stable_text s t (λ no. h (λ e. no (cc))))

stable_bool : (a b : Bool) → ((a ≡ b → ⊥) → ⊥) → a ≡ b
stable_bool true true h = refl
stable_bool true false h = absurd (h true≢false)
stable_bool false true h = absurd (h (λ e. true≢false (sym e)))
stable_bool false false h = refl

stable_state : (s t : State) → ((s ≡ t → ⊥) → ⊥) → s ≡ t
stable_state s t h = same_state s t
    (λ q. stable_some (get s.siblings q) (get t.siblings q) (λ no. h (λ e. no (ap (λ (x : State). get x.siblings q) e))))
    (λ q. stable_bool (contains s.context q) (contains t.context q) (λ no. h (λ e. no (ap (λ (x : State). contains x.context q) e))))

-- ---- what both have

-- the states were joined on the one side, and then on the other
both_joined : (s t : State) (key : Key) (V W : List Write) → s ≡ state key V → t ≡ state key W → clashes s t ≡ false → Includes (join s t) s × Includes (join s t) t × Includes (join t (join s t)) t × Includes (join t (join s t)) s
both_joined s t key V W is is' apart =
    let vs = subst Rattle.mvd_keys.specs.State.IsValid (sym is) (IsValid-state key V) in
    let vt = subst Rattle.mvd_keys.specs.State.IsValid (sym is') (IsValid-state key W) in
    let vj = IsValid-join s t vs vt in
    let first = join_above s t vs vt in
    let last = join_back t (join s t) vt vj (joined_apart s t apart) in (
      first,
      join_back s t vs vt apart,
      join_above t (join s t) vt vj,
      includes_on s (join s t) (join t (join s t)) vs vj (IsValid-join t (join s t) vt vj) first last,
    )

pub at_states : (key : Key) (X Y : List Write) → Includes (state key X) (state key Y) → Includes (state_at (states_of X) key) (state_at (states_of Y) key)
at_states key X Y h = subst (λ x. Includes x (state_at (states_of Y) key)) (sym (state_is key X)) (subst (Includes (state key X)) (sym (state_is key Y)) h)

have_at : (key : Key) (A B A' B' : List Write) → Includes (state key A') (state key A) → Includes (state key A') (state key B) → Includes (state key B') (state key B) → Includes (state key B') (state key A) → HaveBoth (states_of A) (states_of B) (states_of A') (states_of B') key
have_at key A B A' B' p q r s = record { mine = at_states key A' A p; mine_of_peer = at_states key A' B q; theirs = at_states key B' B r; theirs_of_local = at_states key B' A s }

module _ (setting : Setting) (before : Knowledge) (local peer : ℕ) (report : Report) (after : Knowledge) (two : local ≢ peer) (told : MeetSites setting before local peer (Ok report) after) (whole : report.refused ≡ 0)
    (apart : HashesTellApart spelled (states_of (before.known local)) (states_of (before.known peer))) where
  local_is : after.known local ≡ before.known local ++ writes_in told.joined (before.known peer)
  local_is = ap (λ (k : Knowledge). k.known local) told.is
      ∙ learns_other (learns before.known local (writes_in told.joined (before.known peer))) peer _ local two
      ∙ learns_here before.known local (writes_in told.joined (before.known peer))

  peer_is : after.known peer ≡ before.known peer ++ writes_in told.given (before.known local ++ writes_in told.joined (before.known peer))
  peer_is = ap (λ (k : Knowledge). k.known peer) told.is
      ∙ learns_here (learns before.known local (writes_in told.joined (before.known peer))) peer _
      ∙ ap (λ l. l ++ writes_in told.given (learns before.known local (writes_in told.joined (before.known peer)) local)) (learns_other before.known local _ peer (λ e. two (sym e)))
      ∙ ap (λ l. before.known peer ++ writes_in told.given l) (learns_here before.known local (writes_in told.joined (before.known peer)))

  local_at : (key : Key) → state key (after.known local) ≡ cond (is_member told.joined key) (join (state key (before.known local)) (state key (before.known peer))) (state key (before.known local))
  local_at key = ap (state key) local_is ∙ gained told.joined (before.known local) (before.known peer) key

  peer_at : (key : Key) → state key (after.known peer) ≡ cond (is_member told.given key) (join (state key (before.known peer)) (state key (before.known local ++ writes_in told.joined (before.known peer)))) (state key (before.known peer))
  peer_at key = ap (state key) peer_is ∙ gained told.given (before.known peer) (before.known local ++ writes_in told.joined (before.known peer)) key

  none_left : told.tells.left ≡ []
  none_left = nil_from_length told.tells.left (sym told.tells.counted.1 ∙ whole)

  differ_given : (key : Key) → get (states_of (before.known local)) key ≢ get (states_of (before.known peer)) key → IsIn told.given key
  differ_given key other = subst (λ l. IsIn l key) (ap (λ left. told.given ++ map (λ (l : Left). l.key) left) none_left ∙ append-nil told.given) (told.tells.all apart key other)

  same_there : (key : Key) → is_member told.given key ≡ false → state key (before.known local) ≡ state key (before.known peer)
  same_there key out = stable_state (state key (before.known local)) (state key (before.known peer)) (λ no.
      let there : IsIn told.given key = differ_given key (λ e. no (sym (state_is key (before.known local)) ∙ ap (λ o. unwrap_or o empty_state) e ∙ state_is key (before.known peer))) in
      true≢false (sym there ∙ out))

  -- of a key that was given
  given_both : (key : Key) → IsIn told.given key → HaveBoth (states_of (before.known local)) (states_of (before.known peer)) (states_of (after.known local)) (states_of (after.known peer)) key
  given_both key there =
      let s = state key (before.known local) in
      let t = state key (before.known peer) in
      let joined : is_member told.joined key ≡ true = told.part key there in
      let no_clash : clashes s t ≡ false = ap₂ clashes (sym (state_is key (before.known local))) (sym (state_is key (before.known peer))) ∙ (told.meet key joined).apart in
      let both = both_joined s t key (before.known local) (before.known peer) refl refl no_clash in
      let first : state key (before.known local ++ writes_in told.joined (before.known peer)) ≡ join s t = gained told.joined (before.known local) (before.known peer) key ∙ ap (λ b. cond b (join s t) s) joined in
      let mine : state key (after.known local) ≡ join s t = local_at key ∙ ap (λ b. cond b (join s t) s) joined in
      let theirs : state key (after.known peer) ≡ join t (join s t) = peer_at key ∙ ap₂ (λ b x. cond b (join t x) t) there first in
      have_at key (before.known local) (before.known peer) (after.known local) (after.known peer)
      (subst (λ x. Includes x s) (sym mine) both.0) (subst (λ x. Includes x t) (sym mine) both.1)
      (subst (λ x. Includes x t) (sym theirs) both.2) (subst (λ x. Includes x s) (sym theirs) both.3)

  -- and of one that was the same
  same_both : (key : Key) → is_member told.given key ≡ false → HaveBoth (states_of (before.known local)) (states_of (before.known peer)) (states_of (after.known local)) (states_of (after.known peer)) key
  same_both key out =
      let same = same_there key out in
      let mine : Includes (state key (after.known local)) (state key (before.known local)) = subst (λ l. Includes (state key l) (state key (before.known local))) (sym local_is) (grows key (before.known local) (writes_in told.joined (before.known peer))) in
      let theirs : Includes (state key (after.known peer)) (state key (before.known peer)) = subst (λ l. Includes (state key l) (state key (before.known peer))) (sym peer_is) (grows key (before.known peer) (writes_in told.given (before.known local ++ writes_in told.joined (before.known peer)))) in
      have_at key (before.known local) (before.known peer) (after.known local) (after.known peer)
      mine (subst (Includes (state key (after.known local))) same mine) theirs (subst (Includes (state key (after.known peer))) (sym same) theirs)

  pub ran : RanToItsEnd before after local peer
  ran key = elim (is_member told.given key) as (λ b. is_member told.given key ≡ b → HaveBoth (states_of (before.known local)) (states_of (before.known peer)) (states_of (after.known local)) (states_of (after.known peer)) key) [
    | true ↦ λ there. given_both key there
    | false ↦ λ out. same_both key out
  ] refl

-- ---- as a step

no_such : (report : Report) → Met report ≡ NoSuch → ⊥
no_such report e = cc

two_of : (local peer : ℕ) (a b : Bool) → (a && (b && not (local == peer))) ≡ true → local ≢ peer
two_of local peer true true h same = true≢false (sym h ∙ ap not (eq-eqb local peer same))
two_of local peer true false h same = absurd (cc)
two_of local peer false b h same = absurd (cc)

pub session_ran : (setting : Setting) (before : Knowledge) (local peer : ℕ) (report : Report) (after : Knowledge) → MayStep setting before (Session local peer) (Met report) after → report.refused ≡ 0 → HashesTellApart spelled (states_of (before.known local)) (states_of (before.known peer)) → RanToItsEnd before after local peer
session_ran setting before local peer report after may whole apart =
    elim (may_be (is_site setting) (length before.messages) (Session local peer)) as (λ b. may_be (is_site setting) (length before.messages) (Session local peer) ≡ b → MatchBool b (Takes setting before (Session local peer) (Met report) after) ((Met report ≡ NoSuch) × (after ≡ before)) → RanToItsEnd before after local peer) [
      | true ↦ λ there told. ran setting before local peer report after (two_of local peer (is_site setting local) (is_site setting peer) there) told whole apart
      | false ↦ λ _ none. absurd (no_such report none.0)
    ] refl may
