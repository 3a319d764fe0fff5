-- What a session adds, from the states of two sites to the writes that they know.
use Rattle.std.proofs.Common.{◌≡◌, ◌≢◌, ◌⊎◌, inl, inr, ℕ, ◌+◌, arith, Bool, true, false, ◌==◌, cond, List, [], ◌∷◌, ◌++◌, Some, None, Result, Ok, Err, refl, sym, ap, ap₂, ◌∙◌, subst, subst₂, ⊎_elim, true≢false, unwrap_or, append-nil, MatchBool, MatchResult, IfErr, IfOk}
use Rattle.std.specs.Prelude.{OnOk}
use Rattle.std.specs.Ordering.{eq_by_cmp}
use Rattle.std.specs.FinMap.{get}
use Rattle.std.specs.FinSet.{len-empty}
use Rattle.mvd_dots.specs.Dot.{dot_cmp}
use Rattle.mvd_dots.specs.declared.refusals.Refusal.TheVariants.{Broken}
use Rattle.mvd_dots.specs.declared.refusals.Refusal.{Refusal}
use Rattle.mvd_keys.specs.Key.{key_cmp}
use Rattle.mvd_keys.specs.State.{State, empty_state, join}
use Rattle.mvd_keys.specs.Writes.{Key, Stands, Write, held, is_empty, key_of, state, writes_of}
use Rattle.mvd_keys.proofs.Held.{no_writes}
use Rattle.mvd_keys.proofs.Joins.{join_empty_right}
use Rattle.mvd_keys.proofs.KeyOrder.{same_where_tied}
use Rattle.mvd_keys.proofs.Lists.{state_of_empty}
use Rattle.mvd_keys.proofs.Sets.{IsValid-state}
use Rattle.mvd_keys.proofs.Standing.{Stands-one, state-same_writes_of}
use Rattle.mvd_keys.proofs.StatesOfWrites.{join-state}
use Rattle.mvd_site.specs.Answer.{states_of}
use Rattle.mvd_site.specs.Held.{AreHeld, States, state_at}
use Rattle.mvd_site.specs.Sites.{SiteStands, SiteValue}
use Rattle.mvd_site.proofs.KnownKeys.{states_of-stands}
use Rattle.mvd_site.proofs.Steps.{state_at-stands}
use Rattle.mvd_sync.specs.Session.{AreFew, CanMeet, HasAllThatDiffer, HasJoined, IsIn, IsLittle, is_member}
use Rattle.mvd_peer.specs.Sides.{IsBroken, IsWholeSite, Stays, is_of_question, is_site_refusal, site_side, tells_broken}
use Rattle.mvd_sync.specs.Faults.{IsFaultOf, of_answer, of_memory, of_questions, of_side}
use Rattle.mvd_sync.specs.declared.report.Report.{Report}
use Rattle.mvd_sync.specs.declared.report.SyncFault.{SyncFault}
use Rattle.mvd_sync.specs.declared.report.SyncFault.TheVariants.{Local, Peer}
use Rattle.mvd_peer.proofs.JoinLaws.{join_absorbs, valid_at}
use Rattle.mvd_sync.proofs.Positions.{BlamesBy, ReportsDoneBy, SessionBy}
use Rattle.mvd_peer.proofs.SiteSides.{is_broken}
use Rattle.mvd_world.specs.Machine.{BreaksBy, FailsFor, MayFail, ToldAtOnce, all_asked, it_refused, writes_in}
use Rattle.mvd_world.specs.Worlds.{ExchangeSites}

-- ---- the writes of several keys

apart_from : (keys : List Key) (key other : Key) → is_member keys key ≢ is_member keys other → eq_by_cmp key_cmp key other ≡ false
apart_from keys key other differ = elim (eq_by_cmp key_cmp key other) as (λ b. eq_by_cmp key_cmp key other ≡ b → b ≡ false) [
  | true ↦ λ tied. absurd (differ (ap (is_member keys) (same_where_tied key other tied)))
  | false ↦ λ _. refl
] refl

differ_by : (a b : Bool) → a ≡ true → b ≡ false → a ≢ b
differ_by a b one other same = true≢false (sym one ∙ same ∙ other)

differ_back : (a b : Bool) → a ≡ false → b ≡ true → a ≢ b
differ_back a b one other same = true≢false (sym other ∙ sym same ∙ one)

-- of a key that is a member all writes are among them
writes_of_member : (keys : List Key) (key : Key) (W : List Write) → is_member keys key ≡ true → writes_of key (writes_in keys W) ≡ writes_of key W
writes_of_member keys key [] member = refl
writes_of_member keys key (w ∷ W) member =
    elim (is_member keys (key_of w)) as (λ m. is_member keys (key_of w) ≡ m → writes_of key (cond m (w ∷ writes_in keys W) (writes_in keys W)) ≡ writes_of key (w ∷ W)) [
      | true ↦ λ _. ap (λ R. cond (eq_by_cmp key_cmp key (key_of w)) (w ∷ R) R) (writes_of_member keys key W member)
      | false ↦ λ out. writes_of_member keys key W member ∙ sym (ap (λ b. cond b (w ∷ writes_of key W) (writes_of key W)) (apart_from keys key (key_of w) (differ_by _ _ member out)))
    ] refl

-- and of another key none
writes_of_no_member : (keys : List Key) (key : Key) (W : List Write) → is_member keys key ≡ false → writes_of key (writes_in keys W) ≡ []
writes_of_no_member keys key [] out = refl
writes_of_no_member keys key (w ∷ W) out =
    elim (is_member keys (key_of w)) as (λ m. is_member keys (key_of w) ≡ m → writes_of key (cond m (w ∷ writes_in keys W) (writes_in keys W)) ≡ []) [
      | true ↦ λ member. ap (λ b. cond b (w ∷ writes_of key (writes_in keys W)) (writes_of key (writes_in keys W))) (apart_from keys key (key_of w) (differ_back _ _ out member)) ∙ writes_of_no_member keys key W out
      | false ↦ λ _. writes_of_no_member keys key W out
    ] refl

no_state : (key : Key) → state key [] ≡ empty_state
no_state key = state_of_empty (state key []) (no_writes key [] refl) (IsValid-state key [])

-- the state of a key after another set's writes of several keys were added
pub gained : (keys : List Key) (V W : List Write) (key : Key) → state key (V ++ writes_in keys W) ≡ cond (is_member keys key) (join (state key V) (state key W)) (state key V)
gained keys V W key =
    sym (join-state key V (writes_in keys W))
    ∙ elim (is_member keys key) as (λ m. is_member keys key ≡ m → join (state key V) (state key (writes_in keys W)) ≡ cond m (join (state key V) (state key W)) (state key V)) [
      | true ↦ λ member. ap (join (state key V)) (state-same_writes_of key (writes_in keys W) W (writes_of_member keys key W member))
      | false ↦ λ out. ap (join (state key V)) (state-same_writes_of key (writes_in keys W) [] (writes_of_no_member keys key W out) ∙ no_state key) ∙ join_empty_right (state key V)
    ] refl

-- ---- a map of held states stands for writes that have the same states

none_seen : is_empty empty_state.context ≡ true
none_seen = ap (λ n. n == 0) (len-empty dot_cmp)

held_at : (key : Key) (W : List Write) (s : State) → state key W ≡ s → held key W ≡ cond (is_empty s.context) None (Some s)
held_at key W s is = ap (λ (t : State). cond (is_empty t.context) None (Some t)) is

pub stands_from : (m : States) (W : List Write) → AreHeld m → ((key : Key) → state_at m key ≡ state key W) → Stands m W
stands_from m W form same = record {
  at = λ key.
      elim (get m key) as (λ o. get m key ≡ o → o ≡ held key W) [
        | None ↦ λ none. sym (held_at key W empty_state (sym (same key) ∙ ap (λ o. unwrap_or o empty_state) none) ∙ ap (λ b. cond b None (Some empty_state)) none_seen)
        | Some s ↦ λ found. sym (held_at key W s (sym (same key) ∙ ap (λ o. unwrap_or o empty_state) found) ∙ ap (λ b. cond b None (Some s)) (form.held key s found).seen)
      ] refl;
}

-- ---- the two sides

-- the state of a key that was joined, or is as it was
chosen : (t : Bool) (old new : States) (key : Key) (s : State) → MatchBool t (state_at new key ≡ s) (get new key ≡ get old key) → state_at new key ≡ cond t s (state_at old key)
chosen true old new key s h = h
chosen false old new key s h = ap (λ o. unwrap_or o empty_state) h

joined_stands : (joined : List Key) (a b a' : States) (V W : List Write) → Stands a V → Stands b W → AreHeld a' → HasJoined joined a b a a' → Stands a' (V ++ writes_in joined W)
joined_stands joined a b a' V W first second held h = stands_from a' (V ++ writes_in joined W) held (λ key.
    chosen (is_member joined key) a a' key (join (state_at a key) (state_at b key)) (h key)
    ∙ ap₂ (λ s t. cond (is_member joined key) (join s t) s) (state_at-stands a V key first) (state_at-stands b W key second)
    ∙ sym (gained joined V W key))

given_stands : (joined given : List Key) (a b b' : States) (V W : List Write) → AreHeld a → AreHeld b → Stands a V → Stands b W → AreHeld b' → ((key : Key) → IsIn given key → IsIn joined key) → ((key : Key) → IsIn joined key → CanMeet a b key) →
    HasJoined given a b b b' → Stands b' (W ++ writes_in given (V ++ writes_in joined W))
given_stands joined given a b b' V W form form' first second held within meet h = stands_from b' (W ++ writes_in given (V ++ writes_in joined W)) held (λ key.
    chosen (is_member given key) b b' key (join (state_at a key) (state_at b key)) (h key)
    ∙ elim (is_member given key) as (λ m. is_member given key ≡ m → cond m (join (state_at a key) (state_at b key)) (state_at b key) ≡ cond m (join (state key W) (state key (V ++ writes_in joined W))) (state key W)) [
      | true ↦ λ member.
          sym (join_absorbs (state_at a key) (state_at b key) (valid_at a form key) (valid_at b form' key) (meet key (within key member)).apart)
          ∙ ap₂ join (state_at-stands b W key second)
          (ap₂ join (state_at-stands a V key first) (state_at-stands b W key second) ∙ sym (gained joined V W key ∙ ap (λ m. cond m (join (state key V) (state key W)) (state key V)) (within key member)))
      | false ↦ λ _. state_at-stands b W key second
    ] refl
    ∙ sym (gained given W (V ++ writes_in joined W) key))

-- ---- a session of two sites

is_local_broken : (fault : SyncFault) → (fault ≡ Local Broken) ⊎ (fault ≢ Local Broken)
is_local_broken (Local Broken) = inl refl
is_local_broken (Local refusal) = inr (λ e. absurd (cc))
is_local_broken (Peer refusal) = inr (λ e. absurd (cc))

is_peer_broken : (fault : SyncFault) → (fault ≡ Peer Broken) ⊎ (fault ≢ Peer Broken)
is_peer_broken (Peer Broken) = inl refl
is_peer_broken (Peer refusal) = inr (λ e. absurd (cc))
is_peer_broken (Local refusal) = inr (λ e. absurd (cc))

-- a side that was whole and is broken told so
breaks_by : (told : SyncFault) → ((fault : SyncFault) → (fault ≡ told) ⊎ (fault ≢ told)) → (was is : Bool) (result : Result Report SyncFault) → was ≡ false →
    MatchResult result (λ _. is ≡ false) (λ fault. fault ≢ told → is ≡ false) → BreaksBy was is told result
breaks_by told decide was is (Ok report) whole still = (λ broken. absurd (true≢false (sym broken ∙ whole)), λ _ broken. absurd (true≢false (sym broken ∙ still)))
breaks_by told decide was is (Err fault) whole still =
    (λ broken. absurd (true≢false (sym broken ∙ whole)), λ _ broken. ⊎_elim (λ same. ap Err same) (λ other. absurd (true≢false (sym broken ∙ still other))) (decide fault))

-- a side that is whole is not broken
whole_side : (told : SyncFault) (site : SiteValue) (result : Result Report SyncFault) → OnOk result (IsWholeSite site) → IfErr result (λ fault. fault ≢ told → IsWholeSite site) →
    MatchResult result (λ _. site.broken ≡ false) (λ fault. fault ≢ told → site.broken ≡ false)
whole_side told site (Ok report) ok err = ok.0
whole_side told site (Err fault) ok err = λ other. (err other).0

-- ---- why it ends

not_broken : (refusal : Refusal) → refusal ≢ Broken → tells_broken refusal ≡ false
not_broken Broken other = absurd (other refl)
not_broken refusal other = refl

-- a site that refused so is broken afterwards just where it said so
broken_after : (mid site' : SiteValue) (refusal : Refusal) → mid.broken ≡ tells_broken refusal → Stays IsBroken mid site' → (refusal ≢ Broken → site'.broken ≡ false) → site'.broken ≡ tells_broken refusal
broken_after mid site' refusal told stays whole = ⊎_elim
    (λ is. ap (λ (s : SiteValue). s.broken) (stays (told ∙ ap tells_broken is)) ∙ told)
    (λ other. whole other ∙ sym (not_broken refusal other))
    (is_broken refusal)

-- of each of two sides those that were made for the first time, and those that were wanted, are few
abbrev pub AreFewAt : (a b : States) (i j v w : ℕ) → List Key → Type 0
AreFewAt a b i j v w differing = AreFew (i + v) a differing × AreFew (j + w) b differing

few_of_both : (a b : States) (i j v w : ℕ) (differing : List Key) → AreFewAt a b i j v w differing → AreFew i a differing × AreFew j b differing
few_of_both a b i j v w differing few = let m = few.0 in let n = few.1 in (omega (arith, m), omega (arith, n))

module _ (a b held : States) (site site' : SiteValue) (asked wanted first again mine theirs : ℕ) (faithful : IsWholeSite site) (parts : asked ≡ first + again) (little : IsLittle again (mine + theirs)) where
  abbrev FewOfAll : List Key → Type 0
  FewOfAll differing = AreFew (first + wanted) held differing × AreFew mine a differing × AreFew theirs b differing

  may_fail : (refusal : Refusal) → (refusal ≢ Broken → site'.broken ≡ false) → ((differing : List Key) → HasAllThatDiffer a b differing → FewOfAll differing) → BlamesBy site_side 10000000 asked wanted site site' refusal → MayFail a b held site'.broken refusal
  may_fail refusal whole few (of_side h apart) = it_refused h.2.0 (apart faithful) (broken_after h.0 site' refusal h.2.1 h.3.1.1 whole)
  may_fail refusal whole few (of_answer e untrue) = absurd (untrue faithful)
  may_fail refusal whole few (of_questions e all one) = all_asked (first + wanted) again mine theirs e (omega (arith, parts, all, one)) little few
  may_fail refusal whole few (of_memory e) = it_refused (ap is_site_refusal e) (ap is_of_question e) (whole (λ is. cc) ∙ sym (ap tells_broken e))

fails_for : (a b : States) (local peer local' peer' : SiteValue) (i j v w first first' again again' : ℕ) (result : Result Report SyncFault) → IsWholeSite local → IsWholeSite peer →
    MatchResult result (λ _. local'.broken ≡ false) (λ fault. fault ≢ Local Broken → local'.broken ≡ false) →
    MatchResult result (λ _. peer'.broken ≡ false) (λ fault. fault ≢ Peer Broken → peer'.broken ≡ false) →
    (i ≡ first + again) × (j ≡ first' + again') → IsLittle again (first + first') × IsLittle again' (first + first') →
    ((differing : List Key) → HasAllThatDiffer a b differing → AreFewAt a b first first' v w differing) →
    IfErr result (IsFaultOf (BlamesBy site_side 10000000 i v local local') (BlamesBy site_side 10000000 j w peer peer')) → FailsFor a b local'.broken peer'.broken result
fails_for a b local peer local' peer' i j v w first first' again again' (Ok report) faithful second mine theirs parts little few cause = tt
fails_for a b local peer local' peer' i j v w first first' again again' (Err (Local refusal)) faithful second mine theirs parts little few cause =
    may_fail a b a local local' i v first again first first' faithful parts.0 little.0 refusal (λ other. mine (λ e. other (let is : refusal ≡ Broken = cc in is)))
    (λ differing every. let n = few differing every in let p = few_of_both a b first first' v w differing n in (n.0, p.0, p.1)) cause
fails_for a b local peer local' peer' i j v w first first' again again' (Err (Peer refusal)) faithful second mine theirs parts little few cause =
    may_fail a b b peer peer' j w first' again' first first' second parts.1 little.1 refusal (λ other. theirs (λ e. other (let is : refusal ≡ Broken = cc in is)))
    (λ differing every. let n = few differing every in let p = few_of_both a b first first' v w differing n in (n.1, p.0, p.1)) cause

-- ---- and what it does

pub sites_meet : (local peer local' peer' : SiteValue) (result : Result Report SyncFault) → IsWholeSite local → IsWholeSite peer → AreHeld local'.states → AreHeld peer'.states → SessionBy site_side site_side 10000000 local local' peer peer' result → ExchangeSites local peer local' peer' result
sites_meet local peer local' peer' result first second held held' session V W stands stands' =
    let m = session.meets first second in
    let mine = session.course.local_side first in
    let theirs = session.course.peer_side second in
    let here = whole_side (Local Broken) local' result mine.after_ok mine.after_fault in
    let there = whole_side (Peer Broken) peer' result theirs.after_ok theirs.after_fault in
    let a_is : local.states ≡ states_of V = Stands-one local.states (states_of V) V (stands first.0) (states_of-stands V) in
    let b_is : peer.states ≡ states_of W = Stands-one peer.states (states_of W) W (stands' second.0) (states_of-stands W) in
    record {
      joined = m.joined;
      given = m.given;
      part = m.joins.part;
      meet = λ key h. subst₂ (λ a b. CanMeet a b key) a_is b_is (m.joins.met key h);
      tells = subst₂ (λ a b. IfOk result (ReportsDoneBy local.config.max_keys peer.config.max_keys (Some local.config.site) a b m.joined m.given)) a_is b_is m.tells;
      local_breaks = breaks_by (Local Broken) is_local_broken local.broken local'.broken result first.0 here;
      peer_breaks = breaks_by (Peer Broken) is_peer_broken peer.broken peer'.broken result second.0 there;
      at_once = subst₂ (λ a b. ToldAtOnce a b m.joined result) (sym first.0) (sym second.0) tt;
      fails = subst₂ (λ a b. FailsFor a b local'.broken peer'.broken result) a_is b_is
          (fails_for local.states peer.states local peer local' peer' session.course.asked_local session.course.asked_peer session.course.wanted_local session.course.wanted_peer
          session.course.first_local session.course.first_peer session.course.again_local session.course.again_peer result first second here there session.course.parts session.again (session.few first second) session.course.cause);
      local_stands = λ is. joined_stands m.joined local.states peer.states local'.states V W (stands first.0) (stands' second.0) held (m.joins.local_side (is, held));
      peer_stands = λ is. given_stands m.joined m.given local.states peer.states peer'.states V W first.1 second.1 (stands first.0) (stands' second.0) held' m.joins.part m.joins.met (m.joins.peer_side (is, held'));
    }

-- ---- a side that was broken before

nothing_in : (W : List Write) → writes_in [] W ≡ []
nothing_in [] = refl
nothing_in (w ∷ W) = nothing_in W

still_stands : (site : SiteValue) (V W : List Write) → SiteStands site V → SiteStands site (V ++ writes_in [] W)
still_stands site V W stands whole = subst (Stands site.states) (sym (ap (λ X. V ++ X) (nothing_in W) ∙ append-nil V)) (stands whole)

stays : (was : Bool) (told : SyncFault) (result : Result Report SyncFault) → BreaksBy was was told result
stays was told result = (λ broken. broken, λ whole broken. absurd (true≢false (sym broken ∙ whole)))

pub nothing_met : (local peer : SiteValue) (fault : SyncFault) → ToldAtOnce local.broken peer.broken [] (Err fault) → ((a b : States) → IsFaultOf (MayFail a b a local.broken) (MayFail a b b peer.broken) fault) → ExchangeSites local peer local peer (Err fault)
nothing_met local peer fault at_once fails V W first second = record {
  joined = [];
  given = [];
  part = λ key h. h;
  meet = λ key h. absurd (true≢false (sym h));
  tells = tt;
  local_breaks = stays local.broken (Local Broken) (Err fault);
  peer_breaks = stays peer.broken (Peer Broken) (Err fault);
  at_once = at_once;
  fails = fails (states_of V) (states_of W);
  local_stands = still_stands local V W first;
  peer_stands = still_stands peer W (V ++ writes_in [] W) second;
}

-- a broken site says that it is
pub says_broken : (a b held : States) (broken : Bool) → broken ≡ true → MayFail a b held broken Broken
says_broken a b held broken is = it_refused refl refl is

pub local_at_once : (a b : Bool) → a ≡ true → ToldAtOnce a b [] (Err (Local Broken))
local_at_once true b broken = (refl, refl)
local_at_once false b broken = absurd (cc)

pub peer_at_once : (a b : Bool) → a ≡ false → b ≡ true → ToldAtOnce a b [] (Err (Peer Broken))
peer_at_once false true whole broken = (refl, refl)
peer_at_once false false whole broken = absurd (cc)
peer_at_once true b whole broken = absurd (cc)
