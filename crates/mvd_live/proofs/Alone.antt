-- A session of two sides to which nobody else writes leaves the join on both.
use Rattle.std.proofs.Common.{◌≡◌, ◌⊎◌, inl, inr, ℕ, true, false, cond, List, [], ◌∷◌, ◌++◌, refl, sym, ap, subst, ◌∙◌, arith, Some, None, Option}
use Rattle.std.specs.Prelude.{Contains, Err, Ok, Result, unwrap_or}
use Rattle.std.specs.Cmp.{Equal-is}
use Rattle.std.specs.Cmp.Lexicographic.{nat_list_cmp_total, slice_cmp}
use Rattle.std.specs.FinMap.{get, get-insert, get-remove, insert, remove}
use Rattle.std.specs.Ordering.{eq_by_cmp, nat_cmp}
use Rattle.std.proofs.lemmas.List.Elements.{Contains-append_cases}
use Rattle.mvd_dots.specs.declared.refusals.Refusal.{Refusal}
use Rattle.mvd_keys.specs.Order.{Includes}
use Rattle.mvd_keys.specs.State.{IsValid, State, clashes, empty_state, join}
use Rattle.mvd_keys.specs.Writes.{Key}
use Rattle.mvd_keys.proofs.Joins.{clashes_turned, join_again, join_back, join_commutes, join_groups, join_repeats}
use Rattle.mvd_keys.proofs.Lists.{IsValid-join}
use Rattle.mvd_keys.proofs.Ordered.{included_apart}
use Rattle.mvd_tree.proofs.Under.{keys_same}
use Rattle.mvd_site.specs.Held.{States, state_at}
use Rattle.mvd_peer.specs.PushedStates.{Each, is_nothing, pushed, put_state}
use Rattle.mvd_peer.specs.Sides.{Two}
use Rattle.mvd_peer.proofs.JoinLaws.{valid_at}
use Rattle.mvd_peer.proofs.Pushes.{state-pushed}
use Rattle.mvd_sync.specs.Machines.{HasNext, Machining}
use Rattle.mvd_sync.specs.Session.{HasAllThatDiffer}
use Rattle.mvd_peer.specs.Asking.{Wanted}
use Rattle.mvd_sync.specs.declared.asked.Step.{Step}
use Rattle.mvd_peer.specs.declared.window.Told.{Told}
use Rattle.mvd_peer.specs.declared.window.Told.TheVariants as told
use Rattle.mvd_live.specs.Alone.{AllPushAlone, AreAlone, HoldsStill, SideAlone, JoinsAlone, PushesAlone}
use Rattle.mvd_live.specs.Few.{AsksFew}
use Rattle.mvd_live.specs.Lives.{WasHeld}
use Rattle.mvd_live.specs.Runs.{StartsRun, TakesLeg, Leg, RunsLegs, Standing, all_locals, all_peers}
use Rattle.mvd_live.proofs.Gathered.{one_last}
use Rattle.mvd_live.proofs.FewWhole.{asks_few}
use Rattle.mvd_live.proofs.Runner.{run_more, run_none}
use Rattle.mvd_live.proofs.Whole.{given_so, grown, lives}
use Rattle.mvd_live.proofs.Written.{either, same_get, written_differ}

-- ---- the state of one key

module _ (a b : State) (va : IsValid a) (vb : IsValid b) where
  -- what the local side holds is what it held, or the join, where the two do not clash; and so the peer
  abbrev pub IsMine : State → Type 0
  IsMine x = (x ≡ a) ⊎ ((clashes a b ≡ false) × (x ≡ join a b))

  abbrev pub IsTheirs : State → Type 0
  IsTheirs y = (y ≡ b) ⊎ ((clashes a b ≡ false) × (y ≡ join a b))

  pub mine_joins : (x s : State) → IsMine x → IsTheirs s → clashes x s ≡ false → IsMine (join x s)
  mine_joins x s (inl p) (inl q) apart = inr ((λ i. clashes (sym p i) (sym q i)) ∙ apart, λ i. join (p i) (q i))
  mine_joins x s (inl p) (inr (free, q)) apart = inr (free, (λ i. join (p i) (q i)) ∙ sym (join_groups a a b va va vb) ∙ ap (λ t. join t b) (join_repeats a va))
  mine_joins x s (inr (free, p)) (inl q) apart = inr (free, (λ i. join (p i) (q i)) ∙ join_again a b va vb)
  mine_joins x s (inr (free, p)) (inr (same, q)) apart = inr (free, (λ i. join (p i) (q i)) ∙ join_repeats (join a b) (IsValid-join a b va vb))

  pub theirs_joins : (y s : State) → IsTheirs y → IsMine s → clashes y s ≡ false → IsTheirs (join y s)
  theirs_joins y s (inl p) (inl q) apart =
      let free : clashes a b ≡ false = clashes_turned a b ∙ (λ i. clashes (sym p i) (sym q i)) ∙ apart in
      inr (free, (λ i. join (p i) (q i)) ∙ sym (join_commutes a b va vb free))
  theirs_joins y s (inl p) (inr (free, q)) apart = inr (free, (λ i. join (p i) (q i)) ∙ join_back a b va vb free)
  theirs_joins y s (inr (free, p)) (inl q) apart =
      inr (free, (λ i. join (p i) (q i)) ∙ ap (λ t. join t a) (join_commutes a b va vb free) ∙ join_again b a vb va ∙ sym (join_commutes a b va vb free))
  theirs_joins y s (inr (free, p)) (inr (same, q)) apart = inr (free, (λ i. join (p i) (q i)) ∙ join_repeats (join a b) (IsValid-join a b va vb))

  -- a side that has what the other had holds the join
  pub mine_joined : (x : State) → IsMine x → Includes x b → x ≡ join a b
  mine_joined x (inl p) has =
      let is : join b a ≡ a = subst (λ t. join b t ≡ t) p has in
      let free : clashes a b ≡ false = clashes_turned a b ∙ included_apart b a is in
      p ∙ sym is ∙ sym (join_commutes a b va vb free)
  mine_joined x (inr q) has = q.1

  pub theirs_joined : (y : State) → IsTheirs y → Includes y a → y ≡ join a b
  theirs_joined y (inl p) has = let is : join a b ≡ b = subst (λ t. join a t ≡ t) p has in p ∙ sym is
  theirs_joined y (inr q) has = q.1

  -- where both held the same, they hold it
  pub mine_kept : (x : State) → IsMine x → b ≡ a → x ≡ a
  mine_kept x (inl p) same = p
  mine_kept x (inr q) same = q.1 ∙ ap (join a) same ∙ join_repeats a va

  pub theirs_kept : (y : State) → IsTheirs y → b ≡ a → y ≡ b
  theirs_kept y (inl p) same = p
  theirs_kept y (inr q) same = q.1 ∙ ap (λ t. join t b) (sym same) ∙ join_repeats b vb

  pub mine_old : (x : State) → IsMine x → (x ≡ a) ⊎ (x ≡ join a b)
  mine_old x (inl p) = inl p
  mine_old x (inr q) = inr q.1

  pub theirs_old : (y : State) → IsTheirs y → (y ≡ b) ⊎ (y ≡ join a b)
  theirs_old y (inl p) = inl p
  theirs_old y (inr q) = inr q.1

-- ---- one window

pushed_other : (m : States) (key : Key) (s : State) (k : Key) → eq_by_cmp (slice_cmp nat_cmp) k key ≡ false → state_at (pushed m key s) k ≡ state_at m k
unfolding pushed put_state
pushed_other m key s k other = ap (λ o. unwrap_or o empty_state) (elim (is_nothing (join (state_at m key) s)) as (λ b. get (cond b (remove m key) (insert m key (join (state_at m key) s))) k ≡ get m k) [
  | true ↦ get-remove nat_list_cmp_total m key k ∙ ap (λ b. cond b None (get m k)) other
  | false ↦ get-insert nat_list_cmp_total m key (join (state_at m key) s) k ∙ ap (λ b. cond b (Some (join (state_at m key) s)) (get m k)) other
])

pushed_at : (P : State → Type 0) (m : States) (key : Key) (s : State) (k : Key) → (key ≡ k → P (join (state_at m k) s)) → P (state_at m k) → P (state_at (pushed m key s) k)
pushed_at P m key s k own other = elim (eq_by_cmp (slice_cmp nat_cmp) k key) as (λ b. eq_by_cmp (slice_cmp nat_cmp) k key ≡ b → P (state_at (pushed m key s) k)) [
  | true ↦ λ tie.
      let same : key ≡ k = sym (keys_same k key ((Equal-is _).0 tie)) in
      subst (λ k. P (state_at (pushed m key s) k)) same (subst P (sym (state-pushed m key s)) (subst (λ k. P (join (state_at m k) s)) (sym same) (own same)))
  | false ↦ λ no. subst P (sym (pushed_other m key s k no)) other
] refl

-- of the key this is so at each of these moments
abbrev AllSo : (State → Type 0) → Key → List States → Type 0
AllSo P key moments = (held : States) → Contains moments held → P (state_at held key)

none_so : (P : State → Type 0) (key : Key) → AllSo P key []
none_so P key held c = absurd (omega arith)

-- one side, which is told what the other held
module _ (key : Key) (P Q : State → Type 0) (joins : (x s : State) → P x → Q s → clashes x s ≡ false → P (join x s)) (others : List States) (so : AllSo Q key others) where
  one_push : (pair : Key × State) (t : Result (Unit {0}) Refusal) (old new : States) → WasHeld others pair → PushesAlone pair t old new → P (state_at old key) → P (state_at new key)
  one_push pair (Ok done) old new held takes p = subst (λ m. P (state_at m key)) (sym takes.1) (pushed_at P old pair.0 pair.1 key (λ same.
      joins (state_at old key) pair.1 p (subst Q (sym (held.2 ∙ ap (state_at held.0) same)) (so held.0 held.1)) (subst (λ k. clashes (state_at old k) pair.1 ≡ false) same takes.0)) p)
  one_push pair (Err refusal) old new held same p = subst (λ m. P (state_at m key)) (sym same) p

  all_push : (ps : List (Key × State)) (ts : List (Result (Unit {0}) Refusal)) (old new : States) (moments : List States) → Each (WasHeld others) ps → AllPushAlone ps ts old moments new → P (state_at old key) → AllSo P key moments × P (state_at new key)
  all_push [] [] old new [] each alone p = (none_so P key, subst (λ m. P (state_at m key)) (sym alone) p)
  all_push [] [] old new (m ∷ later) each alone p = absurd alone
  all_push [] (t ∷ ts) old new moments each alone p = absurd alone
  all_push (x ∷ ps) [] old new moments each alone p = absurd alone
  all_push (x ∷ ps) (t ∷ ts) old new [] each alone p = absurd alone
  all_push (x ∷ ps) (t ∷ ts) old new (m ∷ later) each alone p =
      let here = one_push x t old m each.0 alone.0 p in
      let rest = all_push ps ts m new later each.1 alone.1 here in
      (λ held c. elim (either held m later c) [ inl is ↦ subst (λ h. P (state_at h key)) is here | inr after ↦ rest.0 held after ], rest.1)

  still : (old new : States) (moments : List States) → HoldsStill old moments new → P (state_at old key) → AllSo P key moments × P (state_at new key)
  still old new moments holds p = (λ held c. subst (λ m. P (state_at m key)) (sym (holds.0 held c)) p, subst (λ m. P (state_at m key)) (sym holds.1) p)

  alone_keeps : (w : Wanted) (t : Option Told) (old new : States) (moments : List States) → Each (WasHeld others) w.pushes → SideAlone w t old moments new → P (state_at old key) → AllSo P key moments × P (state_at new key)
  alone_keeps w None old new moments each alone p = still old new moments alone p
  alone_keeps w (Some (told.Nodes given)) old new moments each alone p = still old new moments alone p
  alone_keeps w (Some (told.Pages given)) old new moments each alone p = still old new moments alone p
  alone_keeps w (Some (told.States given)) old new moments each alone p = still old new moments alone p
  alone_keeps w (Some (told.Pushes given)) old new moments each alone p = all_push w.pushes given.items old new moments each alone p
  alone_keeps w (Some (told.Refused refusal)) old new moments each alone p = still old new moments alone p

-- ---- all windows

both_so : (P : State → Type 0) (key : Key) (before these all : List States) → all ≡ before ++ these → AllSo P key before → AllSo P key these → AllSo P key all
both_so P key before these all is p q held c = elim (Contains-append_cases before these held (subst (λ ms. Contains ms held) is c)) [ inl old ↦ p held old | inr new ↦ q held new ]

module _ (number : Option ℕ) (questions : ℕ) (most : Two ℕ ℕ) (old : Standing) (begins : StartsRun number questions old) (key : Key) where
  abbrev Mine : State → Type 0
  Mine = IsMine (state_at old.local key) (state_at old.peer key) (valid_at old.local begins.local key) (valid_at old.peer begins.peer key)

  abbrev Theirs : State → Type 0
  Theirs = IsTheirs (state_at old.local key) (state_at old.peer key) (valid_at old.local begins.local key) (valid_at old.peer begins.peer key)

  -- so far
  record IsSo (done : List Leg) (now : Standing) : Type 0 where
    pub mine : AllSo Mine key (all_locals done)
    pub theirs : AllSo Theirs key (all_peers done)
    pub local : Mine (state_at now.local key)
    pub peer : Theirs (state_at now.peer key)

  one_window : (done : List Leg) (mid : Standing) (leg : Leg) → RunsLegs most old done mid → TakesLeg most mid leg → SideAlone leg.asks.local leg.mine mid.local leg.locals leg.after.local → SideAlone leg.asks.peer leg.theirs mid.peer leg.peers leg.after.peer → IsSo done mid
      → IsSo (done ++ leg ∷ []) leg.after
  one_window done mid leg run goes here there is =
      let a = state_at old.local key in
      let b = state_at old.peer key in
      let va = valid_at old.local begins.local key in
      let vb = valid_at old.peer begins.peer key in
      let told = given_so number questions most old done mid begins run leg.asking leg.asks goes.next in
      let p = alone_keeps key Mine Theirs (mine_joins a b va vb) (all_peers done) is.theirs leg.asks.local leg.mine mid.local leg.after.local leg.locals told.0 here is.local in
      let q = alone_keeps key Theirs Mine (theirs_joins a b va vb) (all_locals done) is.mine leg.asks.peer leg.theirs mid.peer leg.after.peer leg.peers told.1 there is.peer in
      record {
        mine = both_so Mine key (all_locals done) leg.locals (all_locals (done ++ leg ∷ [])) (one_last (λ (leg : Leg). leg.locals) done leg) is.mine p.0;
        theirs = both_so Theirs key (all_peers done) leg.peers (all_peers (done ++ leg ∷ [])) (one_last (λ (leg : Leg). leg.peers) done leg) is.theirs q.0;
        local = p.1;
        peer = q.1;
      }

  to_end : (legs done : List Leg) (mid new : Standing) → RunsLegs most old done mid → RunsLegs most mid legs new → AreAlone mid legs new → IsSo done mid → Mine (state_at new.local key) × Theirs (state_at new.peer key)
  to_end [] done mid new run rest alone is = (subst (λ m. Mine (state_at m key)) (sym alone.0) is.local, subst (λ m. Theirs (state_at m key)) (sym alone.1) is.peer)
  to_end (leg ∷ legs) done mid new run rest alone is =
      to_end legs (done ++ leg ∷ []) leg.after new (run_more most done old mid leg begins.local begins.peer run rest.0) rest.1 alone.2 (one_window done mid leg run rest.0 alone.0 alone.1 is)

  at_end : (legs : List Leg) (new : Standing) → RunsLegs most old legs new → AreAlone old legs new → Mine (state_at new.local key) × Theirs (state_at new.peer key)
  at_end legs new run alone = to_end legs [] old new (run_none most old begins.local begins.peer) run alone (record { mine = none_so Mine key; theirs = none_so Theirs key; local = inl refl; peer = inl refl })

module _ (number : Option ℕ) (questions : ℕ) (most : Two ℕ ℕ) (old : Standing) (legs : List Leg) (new : Standing) (begins : StartsRun number questions old) (run : RunsLegs most old legs new) (alone : AreAlone old legs new) where
  -- BOTH HOLD THE JOIN
  pub joins_alone : (done : Machining) → HasNext new.machine done None → JoinsAlone most (all_locals legs) (all_peers legs) old new done.work
  joins_alone done next =
      let it = lives number questions most old legs new begins run done next in
      record {
        left = it.left;
        counted = it.counted;
        causes = it.causes;
        each = λ key.
            let held = at_end number questions most old begins key legs new run alone in
            record {
              mine = mine_old (state_at old.local key) (state_at old.peer key) (valid_at old.local begins.local key) (valid_at old.peer begins.peer key) (state_at new.local key) held.0;
              theirs = theirs_old (state_at old.local key) (state_at old.peer key) (valid_at old.local begins.local key) (valid_at old.peer begins.peer key) (state_at new.peer key) held.1;
            };
        joined = λ apart key. elim (it.both apart key) [
          | inl is ↦ inl is
          | inr both ↦
              let held = at_end number questions most old begins key legs new run alone in
              inr (record {
                mine = mine_joined (state_at old.local key) (state_at old.peer key) (valid_at old.local begins.local key) (valid_at old.peer begins.peer key) (state_at new.local key) held.0 both.mine_of_peer;
                theirs = theirs_joined (state_at old.local key) (state_at old.peer key) (valid_at old.local begins.local key) (valid_at old.peer begins.peer key) (state_at new.peer key) held.1 both.theirs_of_local;
              })
        ];
      }

  -- a key that did not differ stays
  kept_local : (key : Key) → get old.local key ≡ get old.peer key → get old.local key ≡ get new.local key
  kept_local key same =
      let held = at_end number questions most old begins key legs new run alone in
      let form = grown number questions most old legs new begins run in
      same_get old.local new.local key begins.local form.0.0 (sym (mine_kept (state_at old.local key) (state_at old.peer key) (valid_at old.local begins.local key) (valid_at old.peer begins.peer key) (state_at new.local key) held.0 (ap (λ o. unwrap_or o empty_state) (sym same))))

  kept_peer : (key : Key) → get old.local key ≡ get old.peer key → get old.peer key ≡ get new.peer key
  kept_peer key same =
      let held = at_end number questions most old begins key legs new run alone in
      let form = grown number questions most old legs new begins run in
      same_get old.peer new.peer key begins.peer form.1.0 (sym (theirs_kept (state_at old.local key) (state_at old.peer key) (valid_at old.local begins.local key) (valid_at old.peer begins.peer key) (state_at new.peer key) held.1 (ap (λ o. unwrap_or o empty_state) (sym same))))

  -- FEW ARE ASKED for what differed at first
  pub asks_few_alone : (asking : Machining) (step : Option Step) (differing : List Key) → HasNext new.machine asking step → HasAllThatDiffer old.local old.peer differing → AsksFew legs asking new differing
  asks_few_alone asking step differing next differ =
      asks_few number questions most old legs new begins run differing
      (written_differ most legs old new begins.local begins.peer run differing differ (λ key apart. differ key (λ same. apart (kept_local key same))) (λ key apart. differ key (λ same. apart (kept_peer key same))))
      asking step next
