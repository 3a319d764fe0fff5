-- What both sides said of the window that is next.
use Rattle.std.proofs.Common.{◌≡◌, ℕ, ◌≤◌, cond, List, [], length, take, refl, sym, ap, subst, ◌∙◌, arith, Option, Some, None}
use Rattle.std.specs.Prelude.{Result, Ok, Err}
use Rattle.std.proofs.lemmas.List.{length-take}
use Rattle.mvd_dots.specs.declared.refusals.Refusal.{Refusal}
use Rattle.mvd_keys.specs.State.{State}
use Rattle.mvd_keys.specs.Writes.{Key}
use Rattle.mvd_peer.specs.Sides.{SideOf, Two}
use Rattle.mvd_peer.specs.Windows.{gets_of, nodes_of, pages_kind}
use Rattle.mvd_peer.specs.Asking.{PageQuestion, Wanted, count_wanted, only_gets, only_nodes, only_pages, only_pushes}
use Rattle.mvd_peer.specs.Saying.{SideSays, SideTells}
use Rattle.mvd_peer.specs.declared.window.Told.{Told}
use Rattle.mvd_peer.specs.declared.window.Told.TheVariants.{Nodes, Pages, Pushes, Refused, States}
use Rattle.mvd_sync.specs.Exchanges.{Exchanging}
use Rattle.mvd_sync.specs.Fronts.{IsWhole, StateAnswer}
use Rattle.mvd_sync.specs.Level.{next_nodes}
use Rattle.mvd_sync.specs.Machines.{HearsAt, Pushed, StageAsks, TakesShares, both, cut as cut_at, goes, is_same, of_local, of_other, of_peer, of_side, other_of, share_of, told_by_side, wanted_at, whole as uncut}
use Rattle.mvd_sync.specs.Meetings.{held_keys}
use Rattle.mvd_sync.specs.OneTurn.{untold}
use Rattle.mvd_sync.specs.Questions.{IsWindow, TakesBudget}
use Rattle.mvd_sync.specs.Session.{Asking}
use Rattle.mvd_sync.specs.Steps.{cut_wanted}
use Rattle.mvd_sync.specs.Tellings.{IsListingOf, IsNodeOf, IsStateOf, nodes_told, pages_told, pushes_told, states_told, unasked_told}
use Rattle.mvd_sync.specs.Walking.{Walking, pages_of}
use Rattle.mvd_sync.specs.declared.asking.Questions.{Questions}
use Rattle.mvd_sync.specs.declared.report.Side.{Side}
use Rattle.mvd_sync.specs.declared.report.Side.TheVariants.{Local as AtLocal, Peer as AtPeer}
use Rattle.mvd_sync.specs.declared.stage.Stage.{Stage}
use Rattle.mvd_sync.specs.declared.stage.Stage.TheVariants.{Carries, Descends, Done, Failed, Meets, Walks}
use Rattle.mvd_sync.specs.declared.telling.Answers.{Answers}
use Rattle.mvd_sync.specs.declared.telling.Share.{Share}
use Rattle.mvd_sync.specs.declared.telling.Shares.{Shares}
use Rattle.mvd_sync.specs.declared.turn.Turn.{Turn}
use Rattle.mvd_sync.proofs.Amid.{Laws}
use Rattle.mvd_sync.proofs.Answering.{Said}
use Rattle.mvd_sync.proofs.Said.{SaidPushes, all_long, said_nodes, said_pages, said_pushes, said_states, take_none, told_nodes, told_pages, told_pushes, told_states}

-- ---- a side that was asked nothing

pub says_none : {S : Type 0} (s : SideOf S) (w : Wanted) (told : Option Told) (old new : S) → count_wanted w ≡ 0 → SideSays s w told old new → (told ≡ None) × (new ≡ old)
says_none s w None old new none h = (refl, h.1)
says_none s w (Some (Nodes v)) old new none h = let m = h.0 in absurd (omega (arith, none, m))
says_none s w (Some (Pages v)) old new none h = let m = h.0 in absurd (omega (arith, none, m))
says_none s w (Some (States v)) old new none h = let m = h.0 in absurd (omega (arith, none, m))
says_none s w (Some (Pushes v)) old new none h = let m = h.0 in absurd (omega (arith, none, m))
says_none s w (Some (Refused refusal)) old new none h = let m = h.0 in absurd (omega (arith, none, m))

tells_none : {S : Type 0} (s : SideOf S) (w : Wanted) (told : Option Told) (old new : S) → unasked_told told ≡ Ok tt → SideTells s w told old new → (told ≡ None) × (new ≡ old)
tells_none s w None old new none h = (refl, h)
tells_none s w (Some (Nodes v)) old new none h = absurd (cc)
tells_none s w (Some (Pages v)) old new none h = absurd (cc)
tells_none s w (Some (States v)) old new none h = absurd (cc)
tells_none s w (Some (Pushes v)) old new none h = absurd (cc)
tells_none s w (Some (Refused refusal)) old new none h = absurd h

-- no push is next for it
none_next : (left : ℕ) → count_wanted (cut_wanted left (only_pushes [])) ≡ 0
none_next left =
    let a = ap length (take_none {X = List ℕ} left [] refl) in
    let b = ap length (take_none {X = PageQuestion} left [] refl) in
    let c = ap length (take_none {X = Key} left [] refl) in
    let d = ap length (take_none {X = Key × State} left [] refl) in
    omega (arith, a, b, c, d)

-- all gets were answered, where a window is cut
cut_long : (qs : List Key) (left left' : ℕ) (told : Option Told) (share : Share) (answers : List StateAnswer) → TakesBudget left left' (length qs) share.asked → share.wanted ≡ length qs → IsWhole told share answers → length answers ≡ length (take left qs)
cut_long qs left left' told share answers takes wanted whole =
    let spent = takes.spent in
    let counted = whole.counted in
    let all = whole.all in
    let n = length-take left qs in
    omega (arith, spent, wanted, counted, all, n)

-- how many pushes of a turn are next
abbrev pub WindowOf : Stage → Type 0
WindowOf (Carries walk turn count) = IsWindow (untold turn) count
WindowOf stage = Unit {0}

-- what is told is no refusal, where it was read
no_refusal : {X : Type 0} (read : Option Told → Result X Refusal) → ((refusal : Refusal) → read (Some (Refused refusal)) ≡ Err refusal) → (told : Option Told) (x : X) → read told ≡ Ok x → (refusal : Refusal) → told ≡ Some (Refused refusal) → ⊥
no_refusal read refuses told x is refusal same = let e : Err refusal ≡ Ok x = sym (refuses refusal) ∙ sym (ap read same) ∙ is in absurd (cc)

abbrev pub IsNoRefusal : Option Told → Type 0
IsNoRefusal told = (refusal : Refusal) → told ≡ Some (Refused refusal) → ⊥

pub says_tells : {S : Type 0} (s : SideOf S) (w : Wanted) (told : Option Told) (old new : S) → IsNoRefusal told → SideSays s w told old new → SideTells s w told old new
says_tells s w None old new clear h = h.1
says_tells s w (Some (Nodes v)) old new clear h = h.1
says_tells s w (Some (Pages v)) old new clear h = h.1
says_tells s w (Some (States v)) old new clear h = h.1
says_tells s w (Some (Pushes v)) old new clear h = h.1
says_tells s w (Some (Refused refusal)) old new clear h = absurd (clear refusal refl)

module _ {L P : Type 0} (l : SideOf L) (p : SideOf P) where
  -- what the side in turn said of its pushes; the other was asked nothing
  abbrev pub SaidTurn : Side → List (Key × State) → Asking L P → Answers → Two L P → Type 0
  SaidTurn AtLocal pairs now answers at = SaidPushes l (take now.left.local pairs) (pushes_told answers.mine) now.at.local at.local × (answers.theirs ≡ None) × (at.peer ≡ now.at.peer)
  SaidTurn AtPeer pairs now answers at = SaidPushes p (take now.left.peer pairs) (pushes_told answers.theirs) now.at.peer at.peer × (answers.mine ≡ None) × (at.local ≡ now.at.local)

  -- WHAT BOTH SAID of the window that is next
  abbrev pub IsSaid : Stage → Asking L P → Answers → Two L P → Type 0
  IsSaid (Descends level) now answers at =
      Said l (nodes_of l.is_faithful l.states now.at.local) (take now.left.local (next_nodes level)) (nodes_told answers.mine) now.at.local at.local
      × Said p (nodes_of p.is_faithful p.states now.at.peer) (take now.left.peer (next_nodes level)) (nodes_told answers.theirs) now.at.peer at.peer
  IsSaid (Walks walk) now answers at =
      Said l (pages_kind l.is_faithful l.states now.at.local) (take now.left.local (pages_of AtLocal walk)) (pages_told answers.mine) now.at.local at.local
      × Said p (pages_kind p.is_faithful p.states now.at.peer) (take now.left.peer (pages_of AtPeer walk)) (pages_told answers.theirs) now.at.peer at.peer
  IsSaid (Meets walk entries) now answers at =
      Said l (gets_of l.can_give l.is_faithful l.states now.at.local) (take now.left.local (held_keys AtLocal entries.items)) (states_told answers.mine) now.at.local at.local
      × Said p (gets_of p.can_give p.is_faithful p.states now.at.peer) (take now.left.peer (held_keys AtPeer entries.items)) (states_told answers.theirs) now.at.peer at.peer
  IsSaid (Carries walk turn count) now answers at = SaidTurn turn.side (take count (untold turn)) now answers at
  IsSaid Done now answers at = ⊥
  IsSaid (Failed fault) now answers at = ⊥

  module _ (a : Laws l) (b : Laws p) (now : Asking L P) (answers : Answers) (at : Two L P) where
    -- as they say it
    says_turn : (turn : Turn) (count : ℕ) (side : Side) → turn.side ≡ side → SideSays l (cut_wanted now.left.local (only_pushes (cond (is_same turn.side AtLocal) (take count (untold turn)) []))) answers.mine now.at.local at.local
        → SideSays p (cut_wanted now.left.peer (only_pushes (cond (is_same turn.side AtPeer) (take count (untold turn)) []))) answers.theirs now.at.peer at.peer → SaidTurn side (take count (untold turn)) now answers at
    says_turn turn count AtLocal is here there =
        let pairs = take count (untold turn) in
        let mine = subst (λ sd. SideSays l (cut_wanted now.left.local (only_pushes (cond (is_same sd AtLocal) pairs []))) answers.mine now.at.local at.local) is here in
        let theirs = subst (λ sd. SideSays p (cut_wanted now.left.peer (only_pushes (cond (is_same sd AtPeer) pairs []))) answers.theirs now.at.peer at.peer) is there in
        let none = says_none p (cut_wanted now.left.peer (only_pushes [])) answers.theirs now.at.peer at.peer (none_next now.left.peer) theirs in
        (said_pushes l now.at.local at.local (cut_wanted now.left.local (only_pushes pairs)) (a.self now.at.local) answers.mine (take_none now.left.local [] refl) (take_none now.left.local [] refl) (take_none now.left.local [] refl) mine, none.0, none.1)
    says_turn turn count AtPeer is here there =
        let pairs = take count (untold turn) in
        let mine = subst (λ sd. SideSays l (cut_wanted now.left.local (only_pushes (cond (is_same sd AtLocal) pairs []))) answers.mine now.at.local at.local) is here in
        let theirs = subst (λ sd. SideSays p (cut_wanted now.left.peer (only_pushes (cond (is_same sd AtPeer) pairs []))) answers.theirs now.at.peer at.peer) is there in
        let none = says_none l (cut_wanted now.left.local (only_pushes [])) answers.mine now.at.local at.local (none_next now.left.local) mine in
        (said_pushes p now.at.peer at.peer (cut_wanted now.left.peer (only_pushes pairs)) (b.self now.at.peer) answers.theirs (take_none now.left.peer [] refl) (take_none now.left.peer [] refl) (take_none now.left.peer [] refl) theirs, none.0, none.1)

    pub says_said : (stage : Stage) → StageAsks stage → SideSays l (cut_wanted now.left.local (wanted_at AtLocal stage)) answers.mine now.at.local at.local → SideSays p (cut_wanted now.left.peer (wanted_at AtPeer stage)) answers.theirs now.at.peer at.peer → IsSaid stage now answers at
    says_said (Descends level) asks here there = (
      said_nodes l now.at.local at.local (cut_wanted now.left.local (only_nodes (next_nodes level))) (a.self now.at.local) answers.mine (take_none now.left.local [] refl) (take_none now.left.local [] refl) (take_none now.left.local [] refl) here,
      said_nodes p now.at.peer at.peer (cut_wanted now.left.peer (only_nodes (next_nodes level))) (b.self now.at.peer) answers.theirs (take_none now.left.peer [] refl) (take_none now.left.peer [] refl) (take_none now.left.peer [] refl) there,
    )
    says_said (Walks walk) asks here there = (
      said_pages l now.at.local at.local (cut_wanted now.left.local (only_pages (pages_of AtLocal walk))) (a.self now.at.local) answers.mine (take_none now.left.local [] refl) (take_none now.left.local [] refl) (take_none now.left.local [] refl) here,
      said_pages p now.at.peer at.peer (cut_wanted now.left.peer (only_pages (pages_of AtPeer walk))) (b.self now.at.peer) answers.theirs (take_none now.left.peer [] refl) (take_none now.left.peer [] refl) (take_none now.left.peer [] refl) there,
    )
    says_said (Meets walk entries) asks here there = (
      said_states l now.at.local at.local (cut_wanted now.left.local (only_gets (held_keys AtLocal entries.items))) (a.self now.at.local) answers.mine (take_none now.left.local [] refl) (take_none now.left.local [] refl) (take_none now.left.local [] refl) here,
      said_states p now.at.peer at.peer (cut_wanted now.left.peer (only_gets (held_keys AtPeer entries.items))) (b.self now.at.peer) answers.theirs (take_none now.left.peer [] refl) (take_none now.left.peer [] refl) (take_none now.left.peer [] refl) there,
    )
    says_said (Carries walk turn count) asks here there = says_turn turn count turn.side refl here there
    says_said Done asks here there = absurd asks
    says_said (Failed fault) asks here there = absurd asks

    -- or tell it, where it was taken
    module _ (left' : Questions) (shares : Shares) (work work' : Exchanging) (after : Stage) where
      pushed_long : (turn : Turn) (count : ℕ) (walk : Walking) (n left : ℕ) (told : Result (List (Result (Unit {0}) Refusal)) Refusal) (share : Share) → TakesBudget left n count share.asked → share.wanted ≡ count → IsWindow (untold turn) count
          → (h : Pushed walk turn told share after) → length h.answers ≡ length (take left (take count (untold turn)))
      pushed_long turn count walk n left told share takes wanted window h =
          let spent = takes.spent in
          let most = takes.most in
          let counted = h.counted in
          let whole = h.whole in
          let within = window.within in
          let k = length-take count (untold turn) in
          let m = length-take left (take count (untold turn)) in
          omega (arith, spent, most, counted, whole, within, k, m, wanted)

      told_turn : (walk : Walking) (turn : Turn) (count : ℕ) → IsWindow (untold turn) count → (side : Side) → turn.side ≡ side → TakesShares (Carries walk turn count) now.left left' shares
          → SideTells l (cut_wanted now.left.local (only_pushes (cond (is_same turn.side AtLocal) (take count (untold turn)) []))) answers.mine now.at.local at.local
          → SideTells p (cut_wanted now.left.peer (only_pushes (cond (is_same turn.side AtPeer) (take count (untold turn)) []))) answers.theirs now.at.peer at.peer
          → unasked_told (told_by_side (other_of turn.side) answers) ≡ Ok tt → Pushed walk turn (pushes_told (told_by_side turn.side answers)) (share_of turn.side shares) after → SaidTurn side (take count (untold turn)) now answers at
      told_turn walk turn count window AtLocal is takes here there unasked h =
          let pairs = take count (untold turn) in
          let mine = subst (λ sd. SideTells l (cut_wanted now.left.local (only_pushes (cond (is_same sd AtLocal) pairs []))) answers.mine now.at.local at.local) is here in
          let other = subst (λ sd. unasked_told (told_by_side (other_of sd) answers) ≡ Ok tt) is unasked in
          let none = tells_none p (cut_wanted now.left.peer (only_pushes (cond (is_same turn.side AtPeer) pairs []))) answers.theirs now.at.peer at.peer other there in
          let pushed = subst (λ sd. Pushed walk turn (pushes_told (told_by_side sd answers)) (share_of sd shares) after) is h in
          let budget = subst (λ sd. TakesBudget now.left.local left'.local (cond (is_same sd AtLocal) count 0) shares.local.asked) is takes.local in
          let wanted = subst (λ sd. shares.local.wanted ≡ cond (is_same sd AtLocal) count 0) is takes.wanted.0 in
          (told_pushes l now.at.local at.local (cut_wanted now.left.local (only_pushes pairs)) (a.self now.at.local) answers.mine pushed.answers mine pushed.is (pushed_long turn count walk left'.local now.left.local (pushes_told answers.mine) shares.local budget wanted window pushed), none.0, none.1)
      told_turn walk turn count window AtPeer is takes here there unasked h =
          let pairs = take count (untold turn) in
          let theirs = subst (λ sd. SideTells p (cut_wanted now.left.peer (only_pushes (cond (is_same sd AtPeer) pairs []))) answers.theirs now.at.peer at.peer) is there in
          let other = subst (λ sd. unasked_told (told_by_side (other_of sd) answers) ≡ Ok tt) is unasked in
          let none = tells_none l (cut_wanted now.left.local (only_pushes (cond (is_same turn.side AtLocal) pairs []))) answers.mine now.at.local at.local other here in
          let pushed = subst (λ sd. Pushed walk turn (pushes_told (told_by_side sd answers)) (share_of sd shares) after) is h in
          let budget = subst (λ sd. TakesBudget now.left.peer left'.peer (cond (is_same sd AtPeer) count 0) shares.peer.asked) is takes.peer in
          let wanted = subst (λ sd. shares.peer.wanted ≡ cond (is_same sd AtPeer) count 0) is takes.wanted.1 in
          (told_pushes p now.at.peer at.peer (cut_wanted now.left.peer (only_pushes pairs)) (b.self now.at.peer) answers.theirs pushed.answers theirs pushed.is (pushed_long turn count walk left'.peer now.left.peer (pushes_told answers.theirs) shares.peer budget wanted window pushed), none.0, none.1)

      pub told_said : (stage : Stage) → WindowOf stage → TakesShares stage now.left left' shares → SideTells l (cut_wanted now.left.local (wanted_at AtLocal stage)) answers.mine now.at.local at.local → SideTells p (cut_wanted now.left.peer (wanted_at AtPeer stage)) answers.theirs now.at.peer at.peer
          → HearsAt work stage shares answers work' (Ok after) → IsSaid stage now answers at
      told_said (Descends level) window takes here there (same, both mine theirs m t rest) = (
        told_nodes l now.at.local at.local (cut_wanted now.left.local (only_nodes (next_nodes level))) (a.self now.at.local) answers.mine m.answers here m.is (all_long IsNodeOf (next_nodes level) now.left.local left'.local (nodes_told answers.mine) shares.local mine.items takes.local takes.wanted.0 m),
        told_nodes p now.at.peer at.peer (cut_wanted now.left.peer (only_nodes (next_nodes level))) (b.self now.at.peer) answers.theirs t.answers there t.is (all_long IsNodeOf (next_nodes level) now.left.peer left'.peer (nodes_told answers.theirs) shares.peer theirs.items takes.peer takes.wanted.1 t),
      )
      told_said (Descends level) window takes here there (same, of_local refusal m is) = absurd (cc)
      told_said (Descends level) window takes here there (same, of_peer mine refusal m t is) = absurd (cc)
      told_said (Walks walk) window takes here there (both mine theirs m t rest) = (
        told_pages l now.at.local at.local (cut_wanted now.left.local (only_pages (pages_of AtLocal walk))) (a.self now.at.local) answers.mine m.answers here m.is (all_long IsListingOf (pages_of AtLocal walk) now.left.local left'.local (pages_told answers.mine) shares.local mine.items takes.local takes.wanted.0 m),
        told_pages p now.at.peer at.peer (cut_wanted now.left.peer (only_pages (pages_of AtPeer walk))) (b.self now.at.peer) answers.theirs t.answers there t.is (all_long IsListingOf (pages_of AtPeer walk) now.left.peer left'.peer (pages_told answers.theirs) shares.peer theirs.items takes.peer takes.wanted.1 t),
      )
      told_said (Walks walk) window takes here there (of_local refusal m is) = absurd (cc)
      told_said (Walks walk) window takes here there (of_peer mine refusal m t is) = absurd (cc)
      told_said (Meets walk entries) window takes here there (uncut none (both mine theirs m t rest)) = (
        told_states l now.at.local at.local (cut_wanted now.left.local (only_gets (held_keys AtLocal entries.items))) (a.self now.at.local) answers.mine m.answers here m.is (all_long IsStateOf (held_keys AtLocal entries.items) now.left.local left'.local (states_told answers.mine) shares.local mine.items takes.local takes.wanted.0 m),
        told_states p now.at.peer at.peer (cut_wanted now.left.peer (only_gets (held_keys AtPeer entries.items))) (b.self now.at.peer) answers.theirs t.answers there t.is (all_long IsStateOf (held_keys AtPeer entries.items) now.left.peer left'.peer (states_told answers.theirs) shares.peer theirs.items takes.peer takes.wanted.1 t),
      )
      told_said (Meets walk entries) window takes here there (uncut none (of_local refusal m is)) = absurd (cc)
      told_said (Meets walk entries) window takes here there (uncut none (of_peer mine refusal m t is)) = absurd (cc)
      told_said (Meets walk entries) window takes here there (cut_at count cut first) = (
        told_states l now.at.local at.local (cut_wanted now.left.local (only_gets (held_keys AtLocal entries.items))) (a.self now.at.local) answers.mine cut.mine here cut.from_local.is (cut_long (held_keys AtLocal entries.items) now.left.local left'.local answers.mine shares.local cut.mine takes.local takes.wanted.0 cut.from_local),
        told_states p now.at.peer at.peer (cut_wanted now.left.peer (only_gets (held_keys AtPeer entries.items))) (b.self now.at.peer) answers.theirs cut.theirs there cut.from_peer.is (cut_long (held_keys AtPeer entries.items) now.left.peer left'.peer answers.theirs shares.peer cut.theirs takes.peer takes.wanted.1 cut.from_peer),
      )
      told_said (Carries walk turn count) window takes here there (same, goes stage unasked pushed is) =
          let h : Pushed walk turn (pushes_told (told_by_side turn.side answers)) (share_of turn.side shares) after = subst (Pushed walk turn (pushes_told (told_by_side turn.side answers)) (share_of turn.side shares)) (cc) pushed in
          told_turn walk turn count window turn.side refl takes here there unasked h
      told_said (Carries walk turn count) window takes here there (same, of_other refusal e is) = absurd (cc)
      told_said (Carries walk turn count) window takes here there (same, of_side refusal e is) = absurd (cc)
      told_said Done window takes here there it = absurd it
      told_said (Failed fault) window takes here there it = absurd it

      -- all that was wanted was asked
      turn_spends : (walk : Walking) (turn : Turn) (count : ℕ) (side : Side) → turn.side ≡ side → TakesShares (Carries walk turn count) now.left left' shares → Pushed walk turn (pushes_told (told_by_side turn.side answers)) (share_of turn.side shares) after
          → (shares.local.wanted ≤ shares.local.asked) × (shares.peer.wanted ≤ shares.peer.asked)
      turn_spends walk turn count AtLocal is takes h =
          let whole = (subst (λ sd. Pushed walk turn (pushes_told (told_by_side sd answers)) (share_of sd shares) after) is h).whole in
          let none = subst (λ sd. shares.peer.wanted ≡ cond (is_same sd AtPeer) count 0) is takes.wanted.1 in
          (whole, omega (arith, none))
      turn_spends walk turn count AtPeer is takes h =
          let whole = (subst (λ sd. Pushed walk turn (pushes_told (told_by_side sd answers)) (share_of sd shares) after) is h).whole in
          let none = subst (λ sd. shares.local.wanted ≡ cond (is_same sd AtLocal) count 0) is takes.wanted.0 in
          (omega (arith, none), whole)

      pub all_spent : (stage : Stage) → TakesShares stage now.left left' shares → HearsAt work stage shares answers work' (Ok after) → (shares.local.wanted ≤ shares.local.asked) × (shares.peer.wanted ≤ shares.peer.asked)
      all_spent (Descends level) takes (same, both mine theirs m t rest) = (m.whole, t.whole)
      all_spent (Descends level) takes (same, of_local refusal m is) = absurd (cc)
      all_spent (Descends level) takes (same, of_peer mine refusal m t is) = absurd (cc)
      all_spent (Walks walk) takes (both mine theirs m t rest) = (m.whole, t.whole)
      all_spent (Walks walk) takes (of_local refusal m is) = absurd (cc)
      all_spent (Walks walk) takes (of_peer mine refusal m t is) = absurd (cc)
      all_spent (Meets walk entries) takes (uncut none (both mine theirs m t rest)) = (m.whole, t.whole)
      all_spent (Meets walk entries) takes (uncut none (of_local refusal m is)) = absurd (cc)
      all_spent (Meets walk entries) takes (uncut none (of_peer mine refusal m t is)) = absurd (cc)
      all_spent (Meets walk entries) takes (cut_at count cut first) = let m = cut.from_local.all in let t = cut.from_peer.all in (omega (arith, m), omega (arith, t))
      all_spent (Carries walk turn count) takes (same, goes stage unasked pushed is) =
          let h : Pushed walk turn (pushes_told (told_by_side turn.side answers)) (share_of turn.side shares) after = subst (Pushed walk turn (pushes_told (told_by_side turn.side answers)) (share_of turn.side shares)) (cc) pushed in
          turn_spends walk turn count turn.side refl takes h
      all_spent (Carries walk turn count) takes (same, of_other refusal e is) = absurd (cc)
      all_spent (Carries walk turn count) takes (same, of_side refusal e is) = absurd (cc)
      all_spent Done takes it = absurd it
      all_spent (Failed fault) takes it = absurd it

-- both told answers, where they were taken
turn_told : (answers : Answers) (side : Side) (ts : List (Result (Unit {0}) Refusal)) → unasked_told (told_by_side (other_of side) answers) ≡ Ok tt → pushes_told (told_by_side side answers) ≡ Ok ts → IsNoRefusal answers.mine × IsNoRefusal answers.theirs
turn_told answers AtLocal ts unasked is = (no_refusal pushes_told (λ _. refl) answers.mine ts is, no_refusal unasked_told (λ _. refl) answers.theirs tt unasked)
turn_told answers AtPeer ts unasked is = (no_refusal unasked_told (λ _. refl) answers.mine tt unasked, no_refusal pushes_told (λ _. refl) answers.theirs ts is)

pub not_refused : (stage after : Stage) (shares : Shares) (answers : Answers) (work work' : Exchanging) → HearsAt work stage shares answers work' (Ok after) → IsNoRefusal answers.mine × IsNoRefusal answers.theirs
not_refused (Descends level) after shares answers work work' (same, both mine theirs m t rest) = (no_refusal nodes_told (λ _. refl) answers.mine m.answers m.is, no_refusal nodes_told (λ _. refl) answers.theirs t.answers t.is)
not_refused (Descends level) after shares answers work work' (same, of_local refusal m is) = absurd (cc)
not_refused (Descends level) after shares answers work work' (same, of_peer mine refusal m t is) = absurd (cc)
not_refused (Walks walk) after shares answers work work' (both mine theirs m t rest) = (no_refusal pages_told (λ _. refl) answers.mine m.answers m.is, no_refusal pages_told (λ _. refl) answers.theirs t.answers t.is)
not_refused (Walks walk) after shares answers work work' (of_local refusal m is) = absurd (cc)
not_refused (Walks walk) after shares answers work work' (of_peer mine refusal m t is) = absurd (cc)
not_refused (Meets walk entries) after shares answers work work' (uncut none (both mine theirs m t rest)) = (no_refusal states_told (λ _. refl) answers.mine m.answers m.is, no_refusal states_told (λ _. refl) answers.theirs t.answers t.is)
not_refused (Meets walk entries) after shares answers work work' (uncut none (of_local refusal m is)) = absurd (cc)
not_refused (Meets walk entries) after shares answers work work' (uncut none (of_peer mine refusal m t is)) = absurd (cc)
not_refused (Meets walk entries) after shares answers work work' (cut_at count cut first) = (no_refusal states_told (λ _. refl) answers.mine cut.mine cut.from_local.is, no_refusal states_told (λ _. refl) answers.theirs cut.theirs cut.from_peer.is)
not_refused (Carries walk turn count) after shares answers work work' (same, goes stage unasked pushed is) = turn_told answers turn.side pushed.answers unasked pushed.is
not_refused (Carries walk turn count) after shares answers work work' (same, of_other refusal e is) = absurd (cc)
not_refused (Carries walk turn count) after shares answers work work' (same, of_side refusal e is) = absurd (cc)
not_refused Done after shares answers work work' it = absurd it
not_refused (Failed fault) after shares answers work work' it = absurd it
