-- How a session stands with what both sides said of a window, or how it ended.
use Rattle.std.proofs.Common.{◌≡◌, ◌≢◌, ℕ, ◌+◌, ◌*◌, ◌<◌, ◌≤◌, inl, inr, cond, List, [], ◌++◌, append_assoc, length, length-drop, take, drop, refl, sym, ap, subst, ◌∙◌, arith, None}
use Rattle.std.specs.Prelude.{Option, Result, Ok, Err, Vec, max}
use Rattle.std.proofs.lemmas.List.{append-nil, length-take-le, take-append-drop}
use Rattle.mvd_sync.proofs.Stages.{held_by_one}
use Rattle.std.specs.declared.alloc.Global.{Global}
use Rattle.std.proofs.lemmas.Bool.{cases_lt}
use Rattle.mvd_dots.specs.declared.refusals.Refusal.{Refusal}
use Rattle.mvd_dots.specs.declared.refusals.Refusal.TheVariants.{Memory}
use Rattle.mvd_keys.specs.State.{State}
use Rattle.mvd_peer.specs.PushedStates.{Each}
use Rattle.mvd_peer.specs.Sides.{SideOf, Two}
use Rattle.mvd_peer.specs.Asking.{PageQuestion}
use Rattle.mvd_peer.specs.declared.window.Told.{Told}
use Rattle.mvd_sync.specs.Answers.{ListingValue}
use Rattle.mvd_sync.proofs.Carries.{Carried, GivesStates}
use Rattle.mvd_sync.specs.Exchanges.{Exchanging, IsHeldByEither}
use Rattle.mvd_sync.proofs.Exchanges.{Moment}
use Rattle.mvd_sync.specs.Fronts.{IsCut, front_told, share_in}
use Rattle.mvd_sync.specs.Weights.{next_most, weight}
use Rattle.mvd_sync.specs.Level.{IsDown, Level, next_nodes}
use Rattle.mvd_sync.specs.Machines.{CarriedOn, HearsAt, MetFirst, ReadBoth, StageAsks, StatesHeard, TakesShares, both, cut as cut_at, goes, is_same, met, no_room as no_place, of_local, of_other, of_peer, of_side, other_of, share_of, told_by_side, whole as uncut}
use Rattle.mvd_sync.specs.Machines as machine
use Rattle.mvd_sync.specs.Meetings.{ArePlans, held_keys}
use Rattle.mvd_sync.specs.OneTurn.{untold}
use Rattle.mvd_sync.specs.Questions.{IsWindow, TakesBudget}
use Rattle.mvd_sync.proofs.Readings.{with_left}
use Rattle.mvd_sync.specs.Session.{Asking}
use Rattle.mvd_sync.specs.Tellings.{IsListingOf, IsNoNode, IsNoPage, IsNodeOf, IsRead, IsStateOf, never, nodes_told, pages_told, pushes_told, states_told, unasked_told}
use Rattle.mvd_sync.specs.Walking.{IsWalked, Walking, pages_next, pages_of}
use Rattle.mvd_sync.proofs.Walk.{PagesEnd, PagesTold}
use Rattle.mvd_sync.specs.declared.asking.Node.{Node}
use Rattle.mvd_sync.specs.declared.asking.Questions.{Questions}
use Rattle.mvd_sync.specs.declared.cursor.Entry.{Entry}
use Rattle.mvd_sync.specs.declared.report.Side.TheVariants.{Local as AtLocal, Peer as AtPeer}
use Rattle.mvd_sync.specs.declared.report.SyncFault.{SyncFault}
use Rattle.mvd_sync.specs.declared.report.SyncFault.TheVariants.{Local, Peer}
use Rattle.mvd_sync.specs.declared.stage.Stage.{Stage}
use Rattle.mvd_sync.specs.declared.stage.Stage.TheVariants.{Carries, Descends, Done, Failed, Meets, Walks}
use Rattle.mvd_sync.specs.declared.telling.Answers.{Answers}
use Rattle.mvd_sync.specs.declared.telling.Shares.{Shares}
use Rattle.mvd_sync.specs.declared.turn.Turn.{Turn}
use Rattle.mvd_sync.proofs.Amid.{AtBuckets, AtMeets, AtTurn, AtWalk, Carrying, Comes, Ended, EndsAt, Laws, Owes, Stands, begin, by_local, by_peer, over_ends, owes_ends, total}
use Rattle.mvd_sync.proofs.AmidAlone.{settled}
use Rattle.mvd_sync.proofs.AmidSaid.{IsSaid, SaidTurn}
use Rattle.mvd_sync.proofs.Compose.{Moves}
use Rattle.mvd_sync.proofs.CutWindows.{gives_all, gives_first, lacked_of, next_grows, next_limited, unread_first}
use Rattle.mvd_sync.proofs.Descents.{Each-left}
use Rattle.mvd_sync.proofs.Lacking.{front_lacks}
use Rattle.mvd_sync.proofs.Answering.{said_moves}
use Rattle.mvd_sync.proofs.Descending.{stands_local_ends, stands_memory_ends, stands_next, stands_nowhere, stands_peer_ends, next_short}
use Rattle.mvd_sync.proofs.Exchanged.{ends_at_local as turn_ends_at_local, ends_at_peer as turn_ends_at_peer, ends_at_plans}
use Rattle.mvd_sync.proofs.Exchanging.{all_of_memory, exchanges_end, exchanges_later, exchanges_stop}
use Rattle.mvd_sync.proofs.Fails.{memory_fails}
use Rattle.mvd_sync.proofs.HeldFew.{held_few}
use Rattle.mvd_sync.proofs.Paging.{mine_end, telling_ends, theirs_end}
use Rattle.mvd_sync.proofs.Planning.{ends_at_local, ends_at_peer, ends_for_memory, held_short}
use Rattle.mvd_sync.proofs.Positions.{ExchangesAllBy, HaveLackedBy, ReadsEndBy, sides}
use Rattle.mvd_sync.proofs.Said.{nodes_read, pages_read, states_read}
use Rattle.mvd_sync.proofs.Sessions.{session_walks}
use Rattle.mvd_sync.proofs.Turning.{turn_begins, turn_ends, turn_memory, turn_pushed, turn_some}
use Rattle.mvd_sync.proofs.Walked.{Walked, nothing_read, over_exchanged}
use Rattle.mvd_sync.proofs.WalkedOn.{asks_between, asks_deep, walk_ends, walk_memory, walk_told}

above : (level : Level) → (IsDown level → ⊥) → level.depth < 3
above level more = elim (cases_lt level.depth 3) [ inl less ↦ less | inr deep ↦ absurd (more (inl deep)) ]

module _ {L P : Type 0} (l : SideOf L) (p : SideOf P) (most : ℕ) (old : Two L P) (a : Laws l) (b : Laws p) where
  abbrev at : Asking L P → Exchanging → Moment L P
  at now work = record { now = now; work = work }

  abbrev then : Two L P → Questions → Asking L P
  then sides left = record { at = sides; left = left }

  -- ---- memory

  -- all was exchanged before it
  ended_memory : (now : Asking L P) (work : Exchanging) → Ended l p most old (at now work) → EndsAt l p most old now.at (Local Memory)
  ended_memory now work e =
      let k = e.buckets in
      let n = ap length e.none in
      over_ends l p most old a b k (at now work) (Local Memory)
      (over_exchanged l p a.on b.on a.stays b.stays a.self b.self k.paths (begin l p most old k) k.paths (at now work) (at now work) (Err (Local Memory)) e.over
      (exchanges_stop l p work.waiting now.left now.left now.at.local now.at.local now.at.peer now.at.peer work work (tt {0}) (Local Memory) refl
      (exchanges_later l p a.self b.self work.waiting now.left now.at.local now.at.peer work work (tt {0}) refl (omega (arith, n)))))

  -- the keys of a window came to an end
  window_ends : (walk : Walking) (turn : Turn) (count : ℕ) (now : Asking L P) (work : Exchanging) (h : AtTurn l p most old walk turn count (at now work)) (sides : Two L P) (left : Questions) (fault : SyncFault)
      → ExchangesAllBy l p h.before.number h.entries h.planned.others h.asked.left left h.asked.at.local sides.local h.asked.at.peer sides.peer (Err fault) → EndsAt l p most old sides fault
  window_ends walk turn count now work h sides left fault e =
      let little = h.little in
      owes_ends l p most old a b h.buckets walk (h.entries ++ work.waiting) (at h.asked h.before) (at (then sides left) h.before) fault h.owes
      (exchanges_end l p h.entries work.waiting h.planned.others h.asked.left left h.asked.at.local sides.local h.asked.at.peer sides.peer h.before h.before fault (omega (arith, little)) refl e)

  meets_end : (walk : Walking) (entries : List Entry) (now : Asking L P) (work : Exchanging) → AtMeets l p most old walk entries (at now work) → (sides : Two L P) (left : Questions) (fault : SyncFault)
      → ReadsEndBy l p (λ asked. asked ≤ length entries) now.left now.at.local sides.local now.at.peer sides.peer fault → EndsAt l p most old sides fault
  meets_end walk entries now work h sides left fault e =
      owes_ends l p most old a b h.buckets walk (entries ++ work.waiting) (at now h.before) (at (then sides left) h.before) fault h.owes
      (exchanges_end l p entries work.waiting 0 now.left left now.at.local sides.local now.at.peer sides.peer h.before h.before fault (omega arith) refl
      (ends_at_plans l p h.before.number entries now.left left now.at.local sides.local now.at.peer sides.peer fault e))

  walk_memory_ends : (walk : Walking) (now : Asking L P) (work : Exchanging) → AtWalk l p most old walk (at now work) → EndsAt l p most old now.at (Local Memory)
  walk_memory_ends walk now work h =
      let k = h.buckets in
      over_ends l p most old a b k (at now work) (Local Memory) (walk_memory l p a.on b.on a.stays b.stays a.self b.self k.paths (begin l p most old k) (at now work) walk h.walked)

  turn_memory_ends : (walk : Walking) (turn : Turn) (count : ℕ) (now : Asking L P) (work : Exchanging) (h : AtTurn l p most old walk turn count (at now work)) → Carrying l p most old h.meetings turn h.given now → EndsAt l p most old now.at (Local Memory)
  turn_memory_ends walk turn count now work h (by_local stands left peer) =
      window_ends walk turn count now work h now.at now.left (Local Memory)
      (subst (λ x. ExchangesAllBy l p h.before.number h.entries h.planned.others h.asked.left now.left h.asked.at.local now.at.local h.asked.at.peer x (Err (Local Memory))) (sym peer)
      (turn_ends_at_local l p h.before.number h.entries a.on b.on a.stays b.stays a.form b.form h.asked.left h.given.left h.asked.at.local h.given.at.local h.asked.at.peer h.given.at.peer h.meetings h.planned
      now.left now.at.local Memory (turn_memory l AtLocal h.meetings turn h.given.left.local now.left.local h.given.at.local now.at.local stands Memory refl) stands.alone))
  turn_memory_ends walk turn count now work h (by_peer taken carried stands) =
      window_ends walk turn count now work h now.at now.left (Local Memory)
      (all_of_memory l p h.before.number h.entries h.planned.others h.asked.left now.left h.asked.at.local now.at.local h.asked.at.peer now.at.peer
      (turn_ends_at_peer l p h.before.number h.entries a.on b.on a.stays b.stays a.form b.form h.asked.left h.given.left h.asked.at.local h.given.at.local h.asked.at.peer h.given.at.peer h.meetings h.planned
      taken now.left.local now.at.local carried now.left now.at.peer Memory (turn_memory p AtPeer taken turn h.given.left.peer now.left.peer h.given.at.peer now.at.peer stands Memory refl) stands.alone))

  -- MEMORY WAS REFUSED for what is next
  pub stands_memory : (stage : Stage) (now : Asking L P) (work : Exchanging) → Stands l p most old stage (at now work) → EndsAt l p most old now.at (Local Memory)
  stands_memory (Descends level) now work h =
      session_walks l p most old.local now.at.local old.peer now.at.peer (Local Memory)
      (stands_nowhere l p a.on b.on a.self b.self (total l p most old) now.left old.local now.at.local old.peer now.at.peer level h.1 Memory refl)
  stands_memory (Walks walk) now work h = walk_memory_ends walk now work h
  stands_memory (Meets walk entries) now work h =
      meets_end walk entries.items now work h now.at now.left (Local Memory)
      (memory_fails l p (length entries.items) 0 0 now.left.local now.left.peer now.left now.at.local now.at.local now.at.peer now.at.peer (nothing_read l a.self now.left.local now.at.local) (nothing_read p b.self now.left.peer now.at.peer) (omega arith) (omega arith) Memory refl)
  stands_memory (Carries walk turn count) now work h = turn_memory_ends walk turn count now work h h.carrying
  stands_memory Done now work h = ended_memory now work h
  stands_memory (Failed fault) now work h = absurd h

  -- ---- with what both said

  module _ (now : Asking L P) (left' : Questions) (work work' : Exchanging) (sides' : Two L P) (shares : Shares) (answers : Answers) where
    abbrev ComesTo : Result Stage SyncFault → Type 0
    ComesTo result = Comes l p most old work' (then sides' left') result

    -- a level
    module _ (level : Level) (h : Stands l p most old (Descends level) (at now work)) (more : IsDown level → ⊥) (takes : TakesShares (Descends level) now.left left' shares) (said : IsSaid l p (Descends level) now answers sides') (same : work' ≡ work) where
      short : Each (λ path. length path < 3) (next_nodes level)
      short = next_short l p a.on b.on a.self b.self (total l p most old) now.left old.local now.at.local old.peer now.at.peer level h.1 (above level more)

      level_goes : (mine theirs : Vec Node Global) → IsRead IsNodeOf IsNoNode (nodes_told answers.mine) shares.local (Ok mine) → IsRead IsNodeOf IsNoNode (nodes_told answers.theirs) shares.peer (Ok theirs) → (result : Result Stage SyncFault) → machine.Descended level mine.items theirs.items result → ComesTo result
      level_goes mine theirs m t result rest =
          let first = (nodes_read l now.left.local left'.local now.at.local sides'.local shares.local (next_nodes level) takes.local takes.wanted.0 short (nodes_told answers.mine) said.0 (Ok mine) m).0 in
          let second = (nodes_read p now.left.peer left'.peer now.at.peer sides'.peer shares.peer (next_nodes level) takes.peer takes.wanted.1 short (nodes_told answers.theirs) said.1 (Ok theirs) t).0 in
          elim result as (λ r. machine.Descended level mine.items theirs.items r → ComesTo r) [
            | Ok stage ↦ λ g.
                subst (λ st. Stands l p most old st (at (then sides' left') work')) (sym g.2)
                (same ∙ h.0, stands_next l p a.on b.on a.self b.self (total l p most old) now.left old.local now.at.local old.peer now.at.peer level h.1 left' sides'.local mine.items first sides'.peer theirs.items second a.form b.form (above level more) g.0 g.1)
            | Err fault ↦ λ g.
                subst (EndsAt l p most old sides') (sym g)
                (session_walks l p most old.local sides'.local old.peer sides'.peer (Local Memory)
                (stands_memory_ends l p a.on b.on a.self b.self (total l p most old) now.left old.local now.at.local old.peer now.at.peer level h.1 left' sides'.local mine.items first sides'.peer theirs.items second Memory refl))
          ] rest

      hears_level : (result : Result Stage SyncFault) → ReadBoth (IsRead IsNodeOf IsNoNode (nodes_told answers.mine) shares.local) (IsRead IsNodeOf IsNoNode (nodes_told answers.theirs) shares.peer) (machine.Descended level) result → ComesTo result
      hears_level result (both mine theirs m t rest) = level_goes mine theirs m t result rest
      hears_level result (of_local refusal m is) =
          let e = (nodes_read l now.left.local left'.local now.at.local sides'.local shares.local (next_nodes level) takes.local takes.wanted.0 short (nodes_told answers.mine) said.0 (Err refusal) m).1 in
          subst ComesTo (sym is)
          (session_walks l p most old.local sides'.local old.peer sides'.peer (Local refusal)
          (stands_local_ends l p a.on b.on a.self b.self (total l p most old) now.left old.local now.at.local old.peer now.at.peer level h.1 sides'.local sides'.peer refusal e (said_moves p _ (next_nodes level) now.left.peer (nodes_told answers.theirs) now.at.peer sides'.peer said.1)))
      hears_level result (of_peer mine refusal m t is) =
          let first = (nodes_read l now.left.local left'.local now.at.local sides'.local shares.local (next_nodes level) takes.local takes.wanted.0 short (nodes_told answers.mine) said.0 (Ok mine) m).0 in
          let e = (nodes_read p now.left.peer left'.peer now.at.peer sides'.peer shares.peer (next_nodes level) takes.peer takes.wanted.1 short (nodes_told answers.theirs) said.1 (Err refusal) t).1 in
          subst ComesTo (sym is)
          (session_walks l p most old.local sides'.local old.peer sides'.peer (Peer refusal)
          (stands_peer_ends l p a.on b.on a.self b.self (total l p most old) now.left old.local now.at.local old.peer now.at.peer level h.1 left' sides'.local mine.items first sides'.peer refusal e))

    -- pages
    module _ (walk : Walking) (k : AtBuckets l p most old) (walked : Walked l p k.paths (begin l p most old k) (at now work) walk) (held : Each IsHeldByEither work.waiting) (asks : pages_next walk.bucket walk.entry walk.rest ≢ [])
        (takes : TakesShares (Walks walk) now.left left' shares) (said : IsSaid l p (Walks walk) now answers sides') where
      deep : Each (λ (q : PageQuestion). length q.0 ≡ 3) (pages_of AtLocal walk) × Each (λ (q : PageQuestion). length q.0 ≡ 3) (pages_of AtPeer walk)
      deep = asks_deep l p k.paths (begin l p most old k) (at now work) walk k.finds.deep walked

      pages_end : (fault : SyncFault) → PagesEnd (sides l p) walk now sides' fault → EndsAt l p most old sides' fault
      pages_end fault e =
          over_ends l p most old a b k (at (then sides' left') work) fault
          (walk_ends l p a.on b.on a.stays b.stays a.self b.self k.paths (begin l p most old k) (at now work) walk sides' left' fault walked (asks_between walk.bucket walk.entry walk.rest asks) e)

      walk_goes_on : (mine theirs : Vec ListingValue Global) → IsRead IsListingOf IsNoPage (pages_told answers.mine) shares.local (Ok mine) → IsRead IsListingOf IsNoPage (pages_told answers.theirs) shares.peer (Ok theirs) → (result : Result Stage SyncFault) → machine.Walked work walk work' mine.items theirs.items result → ComesTo result
      walk_goes_on mine theirs m t result rest =
          let first = (pages_read l now.left.local left'.local now.at.local sides'.local shares.local (pages_of AtLocal walk) takes.local takes.wanted.0 deep.0 (pages_told answers.mine) said.0 (Ok mine) m).0 in
          let second = (pages_read p now.left.peer left'.peer now.at.peer sides'.peer shares.peer (pages_of AtPeer walk) takes.peer takes.wanted.1 deep.1 (pages_told answers.theirs) said.1 (Ok theirs) t).0 in
          let told : PagesTold (sides l p) walk mine.items theirs.items now (then sides' left') = record { local_side = first; peer_side = second } in
          elim result as (λ r. machine.Walked work walk work' mine.items theirs.items r → ComesTo r) [
            | Ok stage ↦ λ g.
                settled l p most old a b k g.0 g.1 (then sides' left') work work' stage
                (walk_told l p a.on b.on a.stays b.stays a.self b.self k.paths (begin l p most old k) (at now work) walk mine.items theirs.items (then sides' left') g.1 g.0 walked told g.2) held g.3
            | Err fault ↦ λ g. pages_end fault (telling_ends l p walk now.left now.at.local sides'.local now.at.peer sides'.peer mine.items theirs.items left'.local left'.peer fault first second g)
          ] rest

      hears_pages : (result : Result Stage SyncFault) → HearsAt work (Walks walk) shares answers work' result → ComesTo result
      hears_pages result (both mine theirs m t rest) = walk_goes_on mine theirs m t result rest
      hears_pages result (of_local refusal m is) =
          let e = (pages_read l now.left.local left'.local now.at.local sides'.local shares.local (pages_of AtLocal walk) takes.local takes.wanted.0 deep.0 (pages_told answers.mine) said.0 (Err refusal) m).1 in
          subst ComesTo (sym is)
          (pages_end (Local refusal) (mine_end l p walk now.left now.at.local sides'.local now.at.peer sides'.peer refusal e (said_moves p _ (pages_of AtPeer walk) now.left.peer (pages_told answers.theirs) now.at.peer sides'.peer said.1)))
      hears_pages result (of_peer mine refusal m t is) =
          let first = (pages_read l now.left.local left'.local now.at.local sides'.local shares.local (pages_of AtLocal walk) takes.local takes.wanted.0 deep.0 (pages_told answers.mine) said.0 (Ok mine) m).0 in
          let e = (pages_read p now.left.peer left'.peer now.at.peer sides'.peer shares.peer (pages_of AtPeer walk) takes.peer takes.wanted.1 deep.1 (pages_told answers.theirs) said.1 (Err refusal) t).1 in
          subst ComesTo (sym is) (pages_end (Peer refusal) (theirs_end l p walk now.left now.at.local sides'.local now.at.peer sides'.peer mine.items left'.local refusal first e))

    -- the states of a window
    module _ (walk : Walking) (entries : Vec Entry Global) (h : AtMeets l p most old walk entries.items (at now work)) (takes : TakesShares (Meets walk entries) now.left left' shares) (said : IsSaid l p (Meets walk entries) now answers sides') where
      abbrev mine_keys : List (List ℕ)
      mine_keys = held_keys AtLocal entries.items

      abbrev their_keys : List (List ℕ)
      their_keys = held_keys AtPeer entries.items

      abbrev mine_moves : Moves l (length mine_keys) now.left.local now.at.local sides'.local
      mine_moves = said_moves l _ mine_keys now.left.local (states_told answers.mine) now.at.local sides'.local said.0

      abbrev their_moves : Moves p (length their_keys) now.left.peer now.at.peer sides'.peer
      their_moves = said_moves p _ their_keys now.left.peer (states_told answers.theirs) now.at.peer sides'.peer said.1

      no_room : (fault : SyncFault) → fault ≡ Local Memory → EndsAt l p most old sides' fault
      no_room fault is =
          subst (EndsAt l p most old sides') (sym is)
          (meets_end walk entries.items now work h sides' left' (Local Memory)
          (ends_for_memory l p entries.items now.left now.at.local sides'.local now.at.peer sides'.peer Memory mine_moves their_moves refl))

      mine_ends : (refusal : Refusal) → IsRead IsStateOf never (states_told answers.mine) shares.local (Err refusal) → EndsAt l p most old sides' (Local refusal)
      mine_ends refusal m =
          let e = (states_read l now.left.local left'.local now.at.local sides'.local shares.local mine_keys takes.local takes.wanted.0 (states_told answers.mine) said.0 (Err refusal) m).1 in
          meets_end walk entries.items now work h sides' left' (Local refusal)
          (ends_at_local l p entries.items now.left now.at.local sides'.local now.at.peer sides'.peer refusal e their_moves)

      their_ends : (refusal : Refusal) → IsRead IsStateOf never (states_told answers.theirs) shares.peer (Err refusal) → EndsAt l p most old sides' (Peer refusal)
      their_ends refusal t =
          let e = (states_read p now.left.peer left'.peer now.at.peer sides'.peer shares.peer their_keys takes.peer takes.wanted.1 (states_told answers.theirs) said.1 (Err refusal) t).1 in
          meets_end walk entries.items now work h sides' left' (Peer refusal)
          (ends_at_peer l p entries.items now.left now.at.local sides'.local now.at.peer sides'.peer refusal mine_moves e)

      -- the first keys are met, and the later ones wait
      module _ (first later : List Entry) (limit again_l again_p : ℕ) (split : entries.items ≡ first ++ later) (some : 1 ≤ length first)
          (little : (bytes : ℕ) → length later + next_most limit (length first) bytes ≤ h.before.most + 7 * length first)
          (few : (again_l ≤ length later) × (again_p ≤ length later)) (unheld : 1 ≤ again_l + again_p → HaveLackedBy l p now.at.local sides'.local now.at.peer sides'.peer) (mine theirs : List State)
          (here : GivesStates l AtLocal first mine again_l (with_left now.at.local now.left.local) (with_left sides'.local left'.local))
          (there : GivesStates p AtPeer first theirs again_p (with_left now.at.peer now.left.peer) (with_left sides'.peer left'.peer)) where
        meets_stage : (stage : Stage) → machine.Met work walk first later limit work' mine theirs (Ok stage) → Stands l p most old stage (at (then sides' left') work')
        meets_stage stage g =
            let turn = g.2.turn in
            let bytes = max (weight mine) (weight theirs) in
            let wait : work'.waiting ≡ later ++ work.waiting = ap (λ (w : Exchanging). w.waiting) g.3 in
            let next : work'.most ≡ next_most limit (length first) bytes = ap (λ (w : Exchanging). w.most) g.3 in
            let all : entries.items ++ work.waiting ≡ first ++ work'.waiting =
            ap (λ (es : List Entry). es ++ work.waiting) split ∙ append_assoc first later work.waiting ∙ ap (λ (es : List Entry). first ++ es) (sym wait) in
            let held = subst (Each IsHeldByEither) all h.held in
            subst (λ st. Stands l p most old st (at (then sides' left') work')) (sym g.2.is)
            (record {
              buckets = h.buckets;
              entries = first;
              before = h.before;
              next = work'.most;
              asked = now;
              given = then sides' left';
              meetings = g.0;
              owes = subst (λ es. Owes l p most old h.buckets walk es (at now h.before)) all h.owes;
              held = held;
              some = some;
              planned = record {
                mine = mine;
                theirs = theirs;
                again_local = again_l;
                again_peer = again_p;
                others = length later;
                from_local = here;
                from_peer = there;
                plans = subst (λ n. ArePlans n first mine theirs g.0) (ap (λ (w : Exchanging). w.number) h.work) g.1;
                paid = held_by_one first (Each-left IsHeldByEither first work'.waiting held);
                few = few;
                unheld = unheld;
              };
              little = subst (λ n. length later + n ≤ h.before.most + 7 * length first) (sym next) (little bytes);
              work = g.3 ∙ ap (λ (w : Exchanging). record w { waiting = later ++ work.waiting; most = next_most limit (length first) bytes }) h.work ∙ (λ i. record h.before { waiting = sym wait i; most = sym next i });
              carrying = by_local (turn_begins l AtLocal g.0 turn left'.local sides'.local (a.self sides'.local) g.2.begun) refl refl;
              window = g.2.window;
            })

        meets_goes : (result : Result Stage SyncFault) → machine.Met work walk first later limit work' mine theirs result → ComesTo result
        meets_goes (Ok stage) g = meets_stage stage g
        meets_goes (Err fault) g = no_room fault g

      -- all keys of the window
      hears_whole : (result : Result Stage SyncFault) → ReadBoth (IsRead IsStateOf never (states_told answers.mine) shares.local) (IsRead IsStateOf never (states_told answers.theirs) shares.peer) (machine.Met work walk entries.items [] 1000 work') result → ComesTo result
      hears_whole result (both mine theirs m t rest) =
          let first = (states_read l now.left.local left'.local now.at.local sides'.local shares.local mine_keys takes.local takes.wanted.0 (states_told answers.mine) said.0 (Ok mine) m).0 in
          let second = (states_read p now.left.peer left'.peer now.at.peer sides'.peer shares.peer their_keys takes.peer takes.wanted.1 (states_told answers.theirs) said.1 (Ok theirs) t).0 in
          let room = h.few in
          meets_goes entries.items [] 1000 0 0 (sym (append-nil entries.items)) h.some
          (λ bytes. let n = next_grows 1000 (length entries.items) bytes h.some in omega (arith, n, room))
          (omega arith, omega arith) (λ never_so. absurd (omega (arith, never_so))) mine.items theirs.items
          (gives_all l AtLocal entries.items mine.items now.left.local left'.local now.at.local sides'.local first)
          (gives_all p AtPeer entries.items theirs.items now.left.peer left'.peer now.at.peer sides'.peer second)
          result rest
      hears_whole result (of_local refusal m is) = subst ComesTo (sym is) (mine_ends refusal m)
      hears_whole result (of_peer mine refusal m t is) = subst ComesTo (sym is) (their_ends refusal t)

      -- or the first of them, where it is cut
      module _ (count : ℕ) (cut : IsCut entries.items shares answers count) where
        abbrev firsts : List Entry
        firsts = take count entries.items

        abbrev laters : List Entry
        laters = drop count entries.items

        lengths : (length firsts ≡ count) × (length laters + count ≡ length entries.items)
        lengths =
            let less = cut.less in
            let n = length-take-le count entries.items (omega (arith, less)) in
            let m = length-drop count entries.items in
            (n, omega (arith, m, less))

        -- why the others are asked for again
        cut_lacks : HaveLackedBy l p now.at.local sides'.local now.at.peer sides'.peer
        cut_lacks =
            let less = cut.less in
            let is = cut.is in
            elim (front_lacks entries.items cut.mine cut.theirs (omega (arith, less, is))) [
              | inl mine ↦ inl (lacked_of l AtLocal entries.items count now.left.local left'.local now.at.local sides'.local shares.local takes.local takes.wanted.0 cut.from_local.all (states_told answers.mine) cut.mine cut.from_local.is said.0 mine)
              | inr theirs ↦ inr (lacked_of p AtPeer entries.items count now.left.peer left'.peer now.at.peer sides'.peer shares.peer takes.peer takes.wanted.1 cut.from_peer.all (states_told answers.theirs) cut.theirs cut.from_peer.is said.1 theirs)
            ]

        cut_goes : (mine theirs : Vec State Global) → IsRead IsStateOf never (front_told AtLocal firsts answers.mine) (share_in AtLocal firsts) (Ok mine) → IsRead IsStateOf never (front_told AtPeer firsts answers.theirs) (share_in AtPeer firsts) (Ok theirs) → (result : Result Stage SyncFault) → machine.Met work walk firsts laters count work' mine.items theirs.items result
            → ComesTo result
        cut_goes mine theirs m t result rest =
            let n = lengths in
            let some = cut.some in
            let room = h.few in
            meets_goes firsts laters count (length (held_keys AtLocal laters)) (length (held_keys AtPeer laters)) (sym (take-append-drop count entries.items)) (omega (arith, n.0, some))
            (λ bytes. let k = next_limited count (length firsts) bytes some in omega (arith, n.0, n.1, k, room))
            (held_short AtLocal laters, held_short AtPeer laters) (λ _. cut_lacks) mine.items theirs.items
            (gives_first l AtLocal entries.items count now.left.local left'.local now.at.local sides'.local shares.local takes.local takes.wanted.0 cut.from_local.all (states_told answers.mine) cut.mine cut.from_local.is said.0 mine m)
            (gives_first p AtPeer entries.items count now.left.peer left'.peer now.at.peer sides'.peer shares.peer takes.peer takes.wanted.1 cut.from_peer.all (states_told answers.theirs) cut.theirs cut.from_peer.is said.1 theirs t)
            result rest

        hears_first : (result : Result Stage SyncFault) → MetFirst work walk entries.items count answers work' result → ComesTo result
        hears_first result (met (both mine theirs m t rest)) = cut_goes mine theirs m t result rest
        hears_first result (met (of_local refusal m is)) =
            subst ComesTo (sym is)
            (mine_ends refusal (unread_first l AtLocal entries.items count now.left.local left'.local now.at.local sides'.local shares.local takes.local takes.wanted.0 cut.from_local.all (states_told answers.mine) cut.mine cut.from_local.is said.0 refusal cut.from_local.counted m))
        hears_first result (met (of_peer mine refusal m t is)) =
            subst ComesTo (sym is)
            (their_ends refusal (unread_first p AtPeer entries.items count now.left.peer left'.peer now.at.peer sides'.peer shares.peer takes.peer takes.wanted.1 cut.from_peer.all (states_told answers.theirs) cut.theirs cut.from_peer.is said.1 refusal cut.from_peer.counted t))
        hears_first result (no_place is) = subst ComesTo (sym is) (no_room (Local Memory) refl)

      hears_meets : (result : Result Stage SyncFault) → StatesHeard work walk entries.items shares answers work' result → ComesTo result
      hears_meets result (uncut none read) = hears_whole result read
      hears_meets result (cut_at count cut first) = hears_first count cut result first

    -- a turn
    module _ (walk : Walking) (turn : Turn) (count : ℕ) (h : AtTurn l p most old walk turn count (at now work)) (asks : length turn.told.items < length turn.pairs.items) (takes : TakesShares (Carries walk turn count) now.left left' shares) (said : IsSaid l p (Carries walk turn count) now answers sides') (same : work' ≡ work) where
      next_turn : (turn' : Turn) (count' : ℕ) → IsWindow (untold turn') count' → Carrying l p most old h.meetings turn' h.given (then sides' left') → AtTurn l p most old walk turn' count' (at (then sides' left') work')
      next_turn turn' count' window carrying = record {
        buckets = h.buckets;
        entries = h.entries;
        before = h.before;
        next = h.next;
        asked = h.asked;
        given = h.given;
        meetings = h.meetings;
        owes = subst (λ (w : Exchanging). Owes l p most old h.buckets walk (h.entries ++ w.waiting) (at h.asked h.before)) (sym same) h.owes;
        held = subst (λ (w : Exchanging). Each IsHeldByEither (h.entries ++ w.waiting)) (sym same) h.held;
        some = h.some;
        planned = h.planned;
        little = h.little;
        work = subst (λ (w : Exchanging). w ≡ record h.before { waiting = w.waiting; most = h.next }) (sym same) h.work;
        carrying = carrying;
        window = window;
      }

      no_other : {T : Type 0} (told : Option Told) (refusal : Refusal) → told ≡ None → unasked_told told ≡ Err refusal → T
      no_other told refusal none is = let e : Ok tt ≡ Err refusal = sym (ap unasked_told none) ∙ is in absurd (cc)

      hears_turn : Carrying l p most old h.meetings turn h.given now → (result : Result Stage SyncFault) → CarriedOn walk turn (share_of turn.side shares) (told_by_side turn.side answers) (told_by_side (other_of turn.side) answers) result → ComesTo result
      hears_turn (by_local stands left peer) result c =
          let side = stands.side in
          let said' = subst (λ sd. SaidTurn l p sd (take count (untold turn)) now answers sides') side said in
          let budget = subst (λ sd. TakesBudget now.left.local left'.local (cond (is_same sd AtLocal) count 0) shares.local.asked) side takes.local in
          let wanted = subst (λ sd. shares.local.wanted ≡ cond (is_same sd AtLocal) count 0) side takes.wanted.0 in
          let none = subst (λ sd. TakesBudget now.left.peer left'.peer (cond (is_same sd AtPeer) count 0) shares.peer.asked) side takes.peer in
          let unspent = none.spent in
          let nothing = none.most in
          let left_same : left'.peer ≡ now.left.peer = omega (arith, unspent, nothing) in
          elim c [
            | goes stage unasked pushed is ↦
                let pushed' = subst (λ sd. machine.Pushed walk turn (pushes_told (told_by_side sd answers)) (share_of sd shares) stage) side pushed in
                subst ComesTo (sym is)
                (subst (λ st. Stands l p most old st (at (then sides' left') work')) (sym pushed'.goes)
                (next_turn pushed'.after pushed'.count pushed'.window
                (by_local (turn_pushed l AtLocal h.meetings turn h.given.left.local now.left.local h.given.at.local now.at.local stands a.on a.stays left'.local sides'.local count h.window shares.local budget wanted asks (pushes_told answers.mine) said'.0 walk stage pushed') (left_same ∙ left) (said'.2 ∙ peer))))
            | of_other refusal e is ↦ no_other answers.theirs refusal said'.1 (subst (λ sd. unasked_told (told_by_side (other_of sd) answers) ≡ Err refusal) side e)
            | of_side refusal e is ↦
                let why = subst (λ sd. machine.IsUnheard (pushes_told (told_by_side sd answers)) (share_of sd shares) refusal) side e in
                let fault : result ≡ Err (Local refusal) = is ∙ ap (λ sd. Err (machine.fault_at sd refusal)) side in
                subst ComesTo (sym fault)
                (window_ends walk turn count now work h sides' left' (Local refusal)
                (subst (λ x. ExchangesAllBy l p h.before.number h.entries h.planned.others h.asked.left left' h.asked.at.local sides'.local h.asked.at.peer x (Err (Local refusal))) (sym (said'.2 ∙ peer))
                (turn_ends_at_local l p h.before.number h.entries a.on b.on a.stays b.stays a.form b.form h.asked.left h.given.left h.asked.at.local h.given.at.local h.asked.at.peer h.given.at.peer h.meetings h.planned left' sides'.local refusal
                (turn_ends l AtLocal h.meetings turn h.given.left.local now.left.local h.given.at.local now.at.local stands a.on a.stays left'.local sides'.local count h.window shares.local budget wanted asks (pushes_told answers.mine) said'.0 refusal why)
                (λ none. absurd (turn_some l AtLocal h.meetings turn h.given.left.local now.left.local h.given.at.local now.at.local stands asks none)))))
          ]
      hears_turn (by_peer taken carried stands) result c =
          let side = stands.side in
          let said' = subst (λ sd. SaidTurn l p sd (take count (untold turn)) now answers sides') side said in
          let budget = subst (λ sd. TakesBudget now.left.peer left'.peer (cond (is_same sd AtPeer) count 0) shares.peer.asked) side takes.peer in
          let wanted = subst (λ sd. shares.peer.wanted ≡ cond (is_same sd AtPeer) count 0) side takes.wanted.1 in
          let none = subst (λ sd. TakesBudget now.left.local left'.local (cond (is_same sd AtLocal) count 0) shares.local.asked) side takes.local in
          let unspent = none.spent in
          let nothing = none.most in
          let left_same : left'.local ≡ now.left.local = omega (arith, unspent, nothing) in
          let carried' = subst (λ n. Carried l AtLocal h.meetings taken (with_left h.given.at.local h.given.left.local) (with_left sides'.local n)) (sym left_same)
          (subst (λ x. Carried l AtLocal h.meetings taken (with_left h.given.at.local h.given.left.local) (with_left x now.left.local)) (sym said'.2) carried) in
          elim c [
            | goes stage unasked pushed is ↦
                let pushed' = subst (λ sd. machine.Pushed walk turn (pushes_told (told_by_side sd answers)) (share_of sd shares) stage) side pushed in
                subst ComesTo (sym is)
                (subst (λ st. Stands l p most old st (at (then sides' left') work')) (sym pushed'.goes)
                (next_turn pushed'.after pushed'.count pushed'.window
                (by_peer taken carried' (turn_pushed p AtPeer taken turn h.given.left.peer now.left.peer h.given.at.peer now.at.peer stands b.on b.stays left'.peer sides'.peer count h.window shares.peer budget wanted asks (pushes_told answers.theirs) said'.0 walk stage pushed'))))
            | of_other refusal e is ↦ no_other answers.mine refusal said'.1 (subst (λ sd. unasked_told (told_by_side (other_of sd) answers) ≡ Err refusal) side e)
            | of_side refusal e is ↦
                let why = subst (λ sd. machine.IsUnheard (pushes_told (told_by_side sd answers)) (share_of sd shares) refusal) side e in
                let fault : result ≡ Err (Peer refusal) = is ∙ ap (λ sd. Err (machine.fault_at sd refusal)) side in
                subst ComesTo (sym fault)
                (window_ends walk turn count now work h sides' left' (Peer refusal)
                (turn_ends_at_peer l p h.before.number h.entries a.on b.on a.stays b.stays a.form b.form h.asked.left h.given.left h.asked.at.local h.given.at.local h.asked.at.peer h.given.at.peer h.meetings h.planned taken left'.local sides'.local carried' left' sides'.peer refusal
                (turn_ends p AtPeer taken turn h.given.left.peer now.left.peer h.given.at.peer now.at.peer stands b.on b.stays left'.peer sides'.peer count h.window shares.peer budget wanted asks (pushes_told answers.theirs) said'.0 refusal why)
                (λ none. absurd (turn_some p AtPeer taken turn h.given.left.peer now.left.peer h.given.at.peer now.at.peer stands asks none))))
          ]

    -- WITH WHAT BOTH SAID it stands so, or ended
    pub stands_hears : (stage : Stage) → Stands l p most old stage (at now work) → StageAsks stage → TakesShares stage now.left left' shares → IsSaid l p stage now answers sides' → (result : Result Stage SyncFault) → HearsAt work stage shares answers work' result → ComesTo result
    stands_hears (Descends level) h asks takes said result it = hears_level level h asks takes said it.0 result it.1
    stands_hears (Walks walk) h asks takes said result it = hears_pages walk h.buckets h.walked h.held asks takes said result it
    stands_hears (Meets walk entries) h asks takes said result it = hears_meets walk entries h takes said result it
    stands_hears (Carries walk turn count) h asks takes said result it = hears_turn walk turn count h asks takes said it.0 h.carrying result it.1
    stands_hears Done h asks takes said result it = absurd asks
    stands_hears (Failed fault) h asks takes said result it = absurd asks
