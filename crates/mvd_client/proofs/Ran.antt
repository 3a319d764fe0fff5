-- A run of the machine by two sides, each of which has another within, is one by those within.
use Rattle.std.proofs.Common.{ℕ, List, Option, Some, None, Result, Ok, Err, ap, length}
use Rattle.std.specs.Result.{IfOk}
use Rattle.mvd_client.proofs.Seen.{answered, around, each_told, refused}
use Rattle.mvd_dots.specs.declared.refusals.Refusal.{Refusal}
use Rattle.mvd_peer.specs.Sides.{SideOf, Sides, Two, two}
use Rattle.mvd_peer.specs.Windows.{Asked, Kind, for_pushes, gets_of, nodes_of, pages_kind}
use Rattle.mvd_sync.specs.Machines.{Machining}
use Rattle.mvd_sync.specs.Ran.{BothTell, IsRun, RunsTo, Running, alone, begins, told}
use Rattle.mvd_peer.specs.Saying.{SideTells, manner_of}
use Rattle.mvd_peer.specs.Asking.{Wanted}
use Rattle.mvd_sync.specs.declared.report.Report.{Report}
use Rattle.mvd_sync.specs.declared.report.SyncFault.{SyncFault}
use Rattle.mvd_peer.specs.declared.window.Told.{Told}
use Rattle.mvd_peer.specs.declared.window.Told.TheVariants.{Nodes, Pages, Pushes, Refused, States}

-- where the side within follows, too
module _ {S T : Type 0} (inner : T → S) (follows : ℕ → T → T → Type 0) (side : SideOf S)
    (within : (n : ℕ) (old new : T) → follows n old new → side.follows n (inner old) (inner new)) where
  asked_of : {Q A : Type 0} (kind : Kind Q A) (questions : List Q) (answers : List (Result A Refusal)) (old new : T) → Asked (manner_of (around inner follows side)) kind questions answers old new →
      Asked (manner_of side) kind questions answers (inner old) (inner new)
  asked_of kind questions answers old new it = record {
    count = within (length questions) old new it.count;
    may = it.may;
    right = it.right;
    told = each_told _ _ _ _ (answered inner follows side within old new) (refused inner follows side within old new) answers it.told;
    not_of_question = it.not_of_question;
  }

  tells_of : (wanted : Wanted) (heard : Option Told) (old new : T) → SideTells (around inner follows side) wanted heard old new → SideTells side wanted heard (inner old) (inner new)
  tells_of wanted None old new still = ap inner still
  tells_of wanted (Some (Nodes these)) old new (asked, stays, live) = (asked_of (nodes_of side.is_faithful side.states (inner old)) wanted.nodes these.items old new asked, stays, live)
  tells_of wanted (Some (Pages these)) old new (asked, stays, live) = (asked_of (pages_kind side.is_faithful side.states (inner old)) wanted.pages these.items old new asked, stays, live)
  tells_of wanted (Some (States these)) old new (asked, stays, live) = (asked_of (gets_of side.can_give side.is_faithful side.states (inner old)) wanted.gets these.items old new asked, stays, live)
  tells_of wanted (Some (Pushes these)) old new (asked, pushed, live) = (asked_of for_pushes wanted.pushes these.items old new asked, pushed, live)
  tells_of wanted (Some (Refused refusal)) old new it = absurd it

module _ {S T M N : Type 0} (inner : T → S) (inner_peer : N → M) (side : SideOf S) (peer : SideOf M) (follows : ℕ → T → T → Type 0) (follows_peer : ℕ → N → N → Type 0)
    (within : (n : ℕ) (old new : T) → follows n old new → side.follows n (inner old) (inner new)) (within_peer : (n : ℕ) (old new : N) → follows_peer n old new → peer.follows n (inner_peer old) (inner_peer new)) where
  abbrev outer : Sides T N
  outer = record { local = around inner follows side; peer = around inner_peer follows_peer peer }

  abbrev inside : Sides S M
  inside = record { local = side; peer = peer }

  abbrev seen : Two T N → Two S M
  seen at = two (inner at.local) (inner_peer at.peer)

  abbrev seen_at : Running T N → Running S M
  seen_at run = record { machine = run.machine; at = seen run.at }

  both : (now : Machining) (mine theirs : Option Told) (old new : Two T N) → BothTell outer now mine theirs old new → BothTell inside now mine theirs (seen old) (seen new)
  both now mine theirs old new it = record {
    asks = it.asks;
    local = tells_of inner follows side within _ mine old.local new.local it.local;
    peer = tells_of inner_peer follows_peer peer within_peer _ theirs old.peer new.peer it.peer;
  }

  runs : (old : Running T N) {new : Running T N} → RunsTo outer old new → RunsTo inside (seen_at old) (seen_at new)
  runs old (begins new is) = begins (seen_at new) (ap seen_at is)
  runs old (alone mid new first quiet goes left still) = alone (seen_at mid) (seen_at new) (runs old first) quiet goes left (ap seen still)
  runs old (told mid new mine theirs first tells takes) = told (seen_at mid) (seen_at new) mine theirs (runs old first) (both mid.machine mine theirs mid.at new.at tells) takes

  pub run_within : (most : ℕ) (old new : T) (before after : N) (result : Result Report SyncFault) → IfOk result (IsRun outer most (two old before) (two new after)) →
      IfOk result (IsRun inside most (two (inner old) (inner_peer before)) (two (inner new) (inner_peer after)))
  run_within most old new before after (Ok report) it = record { begun = it.begun; done = it.done; starts = it.starts; runs = runs _ it.runs; is_done = it.is_done; counts = it.counts }
  run_within most old new before after (Err fault) it = tt
