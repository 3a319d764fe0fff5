-- What the program does with its words, and which status it ends with.
use Rattle.std.specs.Prelude.{◌≡◌, ℕ, List, Result, Ok, Err}
use Rattle.std.specs.declared.net.socket_addr.SocketAddr.{SocketAddr}
use Rattle.clap.specs.Walk.{Text}
use Rattle.mvd_app.specs.Done.{DoesOrder}
use Rattle.mvd_app.specs.Stored.{SiteLeft}
use Rattle.mvd_app.specs.Tasks.{Outside}
use Rattle.mvd_app.specs.declared.closing.Ran.{Ran}
use Rattle.mvd_hint.specs.declared.hint.Stop.{Stop}
use Rattle.mvd_input.specs.Orders.{ReadsWords}
use Rattle.mvd_input.specs.declared.fault.Fault.{Fault}
use Rattle.mvd_input.specs.declared.fault.Fault.TheVariants as of_fault
use Rattle.mvd_input.specs.declared.order.Order.{Order}
use Rattle.mvd_input.specs.declared.order.OrderFault.{OrderFault}
use Rattle.mvd_input.specs.declared.order.OrderFault.TheVariants as of_order
use Rattle.mvd_remote.specs.declared.line.Line.{Ghosts as LineGhosts}
use Rattle.mvd_server.specs.declared.sockets.Sockets.{Ghosts as SocketGhosts}
use Rattle.sqlite.specs.Recovery.{Image}
use Rattle.sqlite_disk.specs.declared.Disk as disk
use Rattle.sqlite_store.specs.declared.store.FileStore.{FileStore}
use Rattle.sqlite_trees.specs.declared.store.Store.{Ghosts}

-- ---- the status

-- 3 where a line is no command, and 1 where a command was stopped for another cause
abbrev pub fault_status : Fault → ℕ
fault_status (of_fault.Stopped refusal) = 1
fault_status (of_fault.Line number) = 3

abbrev pub status_after : Result (Unit {0}) Stop → ℕ
status_after (Ok done) = 0
status_after (Err stop) = fault_status stop.fault

-- 2 where words are no order, and 1 where memory was refused for them
abbrev pub unread_status : OrderFault → ℕ
unread_status (of_order.Words error) = 2
unread_status (of_order.Range option most) = 2
unread_status (of_order.Stopped refusal) = 1

-- ---- the words

module _ {D : Type 0} {g : disk.Ghosts D} (f : Ghosts (FileStore D g)) {K I A T L : Type 0} (k : SocketGhosts K I A T)
    (line : LineGhosts L) (gives : SocketAddr → L → Type 0) (image : Image) where
  -- an order is done, and the status is of how that ended; without an order nothing is done
  abbrev pub DoesRead : Result Order OrderFault → Outside K L → Outside K L → ℕ → Type 0
  DoesRead (Ok order) was now status =
      (ran : Ran (SiteLeft D g f)) × DoesOrder f k line gives image order was now ran × (status ≡ status_after ran.ended)
  DoesRead (Err fault) was now status = (now ≡ was) × (status ≡ unread_status fault)

  -- WHAT THE WORDS ASK FOR IS DONE, if they ask for something
  pub record Obeys (words : List Text) (was now : Outside K L) (status : ℕ) : Type 0 where
    pub read : Result Order OrderFault
    pub reads : ReadsWords words read
    pub does : DoesRead read was now status
