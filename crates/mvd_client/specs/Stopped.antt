-- What a command is stopped with: where an address leads to no line, where this side of a session refuses, and where
-- the server does.
use Rattle.std.specs.Prelude.{◌≡◌, ◌≢◌, ◌<◌, ◌≤◌, ◌⊎◌, None, Some, Result, Ok, Err}
use Rattle.std.specs.declared.net.socket_addr.SocketAddr.{SocketAddr}
use Rattle.mvd_dots.specs.Refusal.{number_of}
use Rattle.mvd_dots.specs.declared.refusals.Refusal.{Refusal}
use Rattle.mvd_dots.specs.declared.refusals.Refusal.TheVariants.{BadBody, BadKind, DotClash, FrameTooLong, Full, Memory, NotAdmitted, ReadFailed}
use Rattle.mvd_dots.specs.declared.refusals.Refusal.TheVariants.{TooManyRequests}
use Rattle.mvd_client.specs.declared.dial.DialFault.{DialFault}
use Rattle.mvd_client.specs.declared.dial.DialFault.TheVariants as faults
use Rattle.mvd_input.specs.declared.fault.Fault.TheVariants.{Stopped}
use Rattle.mvd_hint.specs.declared.hint.Hint.TheVariants as hints
use Rattle.mvd_hint.specs.declared.hint.Stop.{Stop}
use Rattle.mvd_sync.specs.declared.report.Report.{Report}
use Rattle.mvd_sync.specs.declared.report.SyncFault.{SyncFault}
use Rattle.mvd_sync.specs.declared.report.SyncFault.TheVariants.{Local, Peer}

-- this side of a session refuses: there is no hint, but of 10 and 11
pub record IsInSession (refusal : Refusal) (stop : Stop) : Type 0 where
  pub fault : stop.fault ≡ Stopped refusal
  pub clash : refusal ≡ DotClash → stop.hint ≡ Some hints.Clash
  pub full : refusal ≡ Full → stop.hint ≡ Some hints.Full
  pub other : refusal ≢ DotClash → refusal ≢ Full → stop.hint ≡ None

-- the server at an address refuses, has no place, or does not answer as one, or the connection with it breaks; the hint
-- tells which, but of 20, which is of no side
pub record IsAtServer (address : SocketAddr) (refusal : Refusal) (stop : Stop) : Type 0 where
  pub fault : stop.fault ≡ Stopped refusal
  pub memory : refusal ≡ Memory → stop.hint ≡ None
  pub clash : refusal ≡ DotClash → stop.hint ≡ Some hints.Clash
  pub own : refusal ≢ DotClash → refusal ≢ Memory → number_of refusal < 30 → stop.hint ≡ Some (hints.Refused address)
  pub no_peer : (refusal ≡ FrameTooLong) ⊎ ((refusal ≡ BadKind) ⊎ (refusal ≡ BadBody))
      → stop.hint ≡ Some (hints.NoPeer address)
  pub token : refusal ≡ NotAdmitted → stop.hint ≡ Some (hints.NotAdmitted address)
  pub place : refusal ≡ TooManyRequests → stop.hint ≡ Some (hints.NoPlace address)
  pub broken : refusal ≢ FrameTooLong → refusal ≢ BadKind → refusal ≢ BadBody → refusal ≢ NotAdmitted
      → refusal ≢ TooManyRequests → 30 ≤ number_of refusal
      → stop.hint ≡ Some (hints.Broken address)

-- a command is stopped since an address leads to no line: no server answers there, or it does not let in whoever shows
-- this token; or there is no memory, which is of no side
abbrev pub StopsUndialed : SocketAddr → DialFault → Stop → Type 0
StopsUndialed address (faults.Unanswered error) stop =
    (stop.fault ≡ Stopped ReadFailed) × (stop.hint ≡ Some (hints.NoServer address error))
StopsUndialed address faults.Memory stop = (stop.fault ≡ Stopped Memory) × (stop.hint ≡ None)
StopsUndialed address (faults.Refused refusal) stop = IsAtServer address refusal stop

abbrev pub IsUndialed : SocketAddr → Stop → Type 0
IsUndialed address stop = (fault : DialFault) × StopsUndialed address fault stop

-- so with a fault of a session: the refusal is told as that of the side that refused
abbrev pub StopsFaulted : SocketAddr → SyncFault → Stop → Type 0
StopsFaulted address (Local refusal) stop = IsInSession refusal stop
StopsFaulted address (Peer refusal) stop = IsAtServer address refusal stop

-- what a command tells of a session: its report, or its fault
abbrev pub TellsAs : SocketAddr → Result Report SyncFault → Result Report Stop → Type 0
TellsAs address (Ok report) result = result ≡ Ok report
TellsAs address (Err fault) result = (stop : Stop) × (result ≡ Err stop) × StopsFaulted address fault stop
