-- How a connection of HTTP ended, in the words of the other connections, and what is said of a request that is refused.
use Rattle.std.specs.Prelude.{if◌then◌else◌, Option, Some, None}
use Rattle.http.specs.declared.error.Error.{Error}
use Rattle.http.specs.declared.error.Error.TheVariants as part
use Rattle.http_uri.specs.Error.{is_too_long}
use Rattle.http1.specs.ReadError.{is_too_large}
use Rattle.http1.specs.declared.error.ReadError.{ReadError}
use Rattle.http1.specs.declared.error.ReadError.TheVariants.{Host, UriTooLong}
use Rattle.mvd_wire.specs.declared.ending.Ending.{Ending}
use Rattle.mvd_wire.specs.declared.ending.Ending.TheVariants as ending
use Rattle.mvd_dots.specs.declared.refusals.Refusal.{Refusal}
use Rattle.mvd_dots.specs.declared.refusals.Refusal.TheVariants as refusal
use Rattle.http_server.specs.declared.state.State.{State}
use Rattle.http_server.specs.declared.state.State.TheVariants.{Open, Closing, Upgraded, Aborted}
use Rattle.http_server.specs.declared.state.Reason.TheVariants.{Asked, EndOfInput, Refused}
use Rattle.http_server.specs.declared.state.Refusal.{Refusal as Why}
use Rattle.http_server.specs.declared.state.Refusal.TheVariants as why
use Rattle.mvd_http.specs.declared.http_fault.Fault.{Fault}
use Rattle.mvd_http.specs.declared.http_fault.Fault.TheVariants as fault

-- the refusal that one of HTTP's own is told as
abbrev pub refusal_of : Why → Refusal
refusal_of why.Truncated = refusal.Truncated
refusal_of why.BodyTooLarge = refusal.FrameTooLong
refusal_of _ = refusal.BadBody

-- why no further request is taken
abbrev pub ending_of_state : State → Option Ending
ending_of_state Open = None
ending_of_state (Closing Asked) = Some ending.Bye
ending_of_state (Closing EndOfInput) = Some ending.End
ending_of_state (Closing (Refused cause)) = Some (ending.Stopped (refusal_of cause))
ending_of_state Upgraded = Some ending.Bye
ending_of_state Aborted = Some (ending.Stopped refusal.Memory)

-- ---- the fault that is told of a request which the kit's connection refuses

abbrev pub read_fault : ReadError → Fault
read_fault UriTooLong = fault.UriTooLong
read_fault Host = fault.HostMissing
read_fault e = if is_too_large e then fault.HeaderTooLarge else fault.BadRequest

abbrev pub part_fault : Error → Fault
part_fault part.HeaderName = fault.HeaderTooLarge
part_fault part.MaxSizeReached = fault.HeaderTooLarge
part_fault (part.Uri e) = if is_too_long e then fault.UriTooLong else fault.BadRequest
part_fault _ = fault.BadRequest

abbrev pub fault_of : Why → Fault
fault_of why.Truncated = fault.BadRequest
fault_of (why.Unreadable e) = read_fault e
fault_of why.BodyTooLarge = fault.ContentTooLarge
fault_of (why.InvalidPart e) = part_fault e
fault_of why.InvalidHost = fault.BadRequest
fault_of why.UnknownCoding = fault.NotImplemented
fault_of (why.InvalidResponse e) = fault.InternalError

abbrev pub fault_in : State → Option Fault
fault_in (Closing (Refused cause)) = Some (fault_of cause)
fault_in (Closing Asked) = None
fault_in (Closing EndOfInput) = None
fault_in Open = None
fault_in Upgraded = None
fault_in Aborted = None
