-- What a connection of HTTP is, and what its calls make of it.
use Rattle.std.specs.Prelude.{◌≡◌, ◌⊎◌, ◌&&◌, ℕ, Bool, true, false, not, nat_lt, List, [], ◌∷◌, ◌++◌, length, drop, Option, Some, None, is_none, IsTrue}
use Rattle.http_server.specs.Exchange.{Call}
use Rattle.http_server.specs.History.{History, IsDone, Rests, WantsRead, new_history}
use Rattle.http_server.specs.Response.{IsResponse}
use Rattle.http_server.specs.declared.state.Config.{Config}
use Rattle.http_server.specs.declared.state.State.{State}
use Rattle.http_server.specs.declared.state.State.TheVariants.{Open}
use Rattle.mvd_wire.specs.declared.ending.Ending.{Ending}
use Rattle.mvd_wire.specs.declared.ending.Ending.TheVariants.{Stopped}
use Rattle.mvd_dots.specs.declared.refusals.Refusal.{Refusal}
use Rattle.mvd_dots.specs.declared.refusals.Refusal.TheVariants.{Memory}
use Rattle.mvd_http.specs.declared.fields.Answer.{Answer}
use Rattle.mvd_http.specs.declared.http_fault.Fault.{Fault}
use Rattle.mvd_conn.specs.declared.passes.Pass.{Pass}
use Rattle.mvd_http.specs.Guard.{Named}
use Rattle.mvd_web.specs.Asked.{IsAskedBy}
use Rattle.mvd_web.specs.Ends.{ending_of_state, fault_in}
use Rattle.mvd_web.specs.Response.{fault_bytes, origin_or_none, response_bytes}
use Rattle.mvd_web.specs.declared.taken.Asked.{Asked}
use Rattle.mvd_web.specs.declared.response.Manner.{Manner}

-- the limits of what is read, what was read so far, the request that waits for its answer, the bytes that wait to
-- leave, whether all that came was looked at, and why nothing more is done
pub record WebValue : Type 0 where
  pub config : Config
  pub heard : History
  pub asked : Option Asked
  pub waits : List ℕ
  pub rests : Bool
  pub stopped : Option Refusal

-- the limits of a request, in bytes; while one waits for its answer, none is read
pub record AreLimits (config : Config) : Type 0 where
  pub head : config.limits.max_head_len ≡ 16384
  pub extensions : config.limits.max_extensions_len ≡ 16384
  pub trailers : config.limits.max_trailers_len ≡ 16384
  pub body : config.max_body_len ≡ 2097152
  pub pending : config.max_pending ≡ 0

abbrev pub new_web : Config → WebValue
new_web config = record { config = config; heard = new_history; asked = None; waits = []; rests = true; stopped = None }

abbrev pub IsNew : WebValue → Type 0
IsNew w = AreLimits w.config × (w ≡ new_web w.config)

-- ---- stopping, and the end

-- the first cause stays
abbrev pub first_cause : Option Refusal → Refusal → Option Refusal
first_cause None refusal = Some refusal
first_cause (Some first) refusal = Some first

abbrev pub stopped_by : WebValue → Refusal → WebValue
stopped_by w refusal = record w { stopped = first_cause w.stopped refusal }

-- the ending of a connection that was stopped, or as the reading of requests stands
abbrev pub ended : Option Refusal → Option Ending → Option Ending
ended None ending = ending
ended (Some refusal) ending = Some (Stopped refusal)

abbrev pub web_ending : WebValue → Option Ending
web_ending w = ended w.stopped (ending_of_state w.heard.state)

-- it was stopped, or no request follows and each was answered, with all its bytes
abbrev pub IsOver : WebValue → Type 0
IsOver w = (w.stopped ≡ None → IsDone w.heard × (w.asked ≡ None) × (w.waits ≡ []))

-- ---- what comes in

-- a request may be taken: it was not stopped, none waits for its answer, and there is room for responses
abbrev pub is_free : WebValue → Bool
is_free w = is_none w.stopped && (is_none w.asked && nat_lt (length w.waits) 262144)

-- all that came was looked at, and more is wanted
abbrev pub WantsBytes : WebValue → Type 0
WantsBytes w = IsTrue w.rests × IsTrue (is_free w) × WantsRead w.config w.heard

-- there is something to look at
abbrev pub is_awake : WebValue → Bool
is_awake w = not w.rests && is_free w

-- these bytes came
abbrev pub heard_more : History → List ℕ → History
heard_more h bytes = record h { received = h.received ++ bytes; unread = h.unread ++ bytes }

abbrev pub web_fed : WebValue → List ℕ → WebValue
web_fed w bytes = record w { heard = heard_more w.heard bytes; rests = false }

-- all bytes came, unless the input was at its end; or those of a front, and the connection is stopped for want of
-- memory
abbrev pub FeedsFront : WebValue → List ℕ → List ℕ → WebValue → Type 0
FeedsFront old front rest new =
    ((new ≡ web_fed old front) × (old.heard.ended ≡ false → rest ≡ [])) ⊎ (new ≡ stopped_by (web_fed old front) Memory)

abbrev pub Feeds : WebValue → List ℕ → WebValue → Type 0
Feeds old bytes new = (front : List ℕ) × (rest : List ℕ) × (bytes ≡ front ++ rest) × FeedsFront old front rest new

-- the input is at its end, or the connection is stopped for want of memory
abbrev pub at_end : WebValue → WebValue
at_end w = record w { heard = record (w.heard) { ended = true }; rests = false }

abbrev pub EndsInput : WebValue → WebValue → Type 0
EndsInput old new = (new ≡ at_end old) ⊎ (new ≡ stopped_by (record old { rests = false }) Memory)

-- ---- requests

-- nothing came, and the limits are the same
pub record NothingCame (old new : WebValue) : Type 0 where
  pub config : new.config ≡ old.config
  pub received : new.heard.received ≡ old.heard.received
  pub ended : new.heard.ended ≡ old.heard.ended

-- One more request was read, and this is what it asks, where the guard lets it in. Nothing was queued: its response is
-- not known yet. What the kit's connection had to say in its place is a plain response, which closes nothing, and of
-- that no byte is left to be queued.
pub record TakesOne (passes : Option (List Pass)) (names : Named) (old new : WebValue) : Type 0 where
  pub call : Call
  pub calls : new.heard.calls ≡ old.heard.calls ++ call ∷ []
  pub plain : IsResponse 404 [] [] call.1
  pub asked : Asked
  pub kept : new.asked ≡ Some asked
  pub asks : IsAskedBy passes names call.0 asked
  pub waits : new.waits ≡ old.waits
  pub none_left : new.heard.pending ≡ []
  pub stopped : new.stopped ≡ old.stopped
  pub stays : NothingCame old new

-- where nothing was told, each whole request that came was read
abbrev pub MayRest : List ℕ → WebValue → Type 0
MayRest [] new = IsTrue new.rests × Rests new.config new.heard
MayRest (b ∷ bs) new = new.rests ≡ false

-- What is said for what the kit's connection handed out: just that, but for a request that it refuses the fault, with
-- its body.
abbrev pub said_of : Option Fault → List ℕ → List ℕ
said_of None told = told
said_of (Some fault) [] = []
said_of (Some fault) (b ∷ bs) = fault_bytes fault

abbrev pub web_said : WebValue → List ℕ → List ℕ
web_said w told = said_of (fault_in w.heard.state) told

-- all that was to be said is queued; or the connection is stopped for want of memory, and what was handed out is
-- queued, or nothing
abbrev pub SaysAll : WebValue → List ℕ → List ℕ → WebValue → Type 0
SaysAll old told queued new =
    ((new.stopped ≡ old.stopped) × (new.heard.pending ≡ []) × MayRest told new × (queued ≡ web_said new told))
    ⊎ ((new.stopped ≡ first_cause old.stopped Memory) × ((queued ≡ told) ⊎ (queued ≡ [])))

-- no request was read
pub record TakesNone (old new : WebValue) : Type 0 where
  pub calls : new.heard.calls ≡ old.heard.calls
  pub asked : new.asked ≡ old.asked
  pub told : List ℕ
  pub sent : new.heard.sent ≡ old.heard.sent ++ told
  pub queued : List ℕ
  pub waits : new.waits ≡ old.waits ++ queued
  pub tells : SaysAll old told queued new
  pub stays : NothingCame old new

-- where no request may be taken, nothing is done
abbrev pub LooksIf : Bool → WebValue → WebValue → Type 0
LooksIf false old new = new ≡ old
LooksIf true old new = TakesNone old new

abbrev pub TakesRequest : Option (List Pass) → Named → WebValue → Bool → WebValue → Type 0
TakesRequest passes names old true new = IsTrue (is_free old) × TakesOne passes names old new
TakesRequest passes names old false new = LooksIf (is_free old) old new

-- ---- responses

-- the request no longer waits for its answer
abbrev pub unasked : WebValue → WebValue
unasked w = record w { asked = None }

-- these bytes are queued behind what waits, or none of them is, and the connection is stopped for want of memory
abbrev pub with_waits : WebValue → List ℕ → WebValue
with_waits w waits = record w { waits = waits; rests = false }

-- the same bytes are behind what waits
abbrev pub pushed : WebValue → List ℕ → WebValue
pushed w bytes = record w { waits = w.waits ++ bytes }

abbrev pub Queues : WebValue → List ℕ → WebValue → Type 0
Queues old bytes new =
    (new ≡ with_waits old (old.waits ++ bytes)) ⊎ (new ≡ stopped_by (with_waits old old.waits) Memory)

-- no request is read after those that were
abbrev pub is_closed : State → Bool
is_closed Open = false
is_closed _ = true

abbrev pub manner_asked : WebValue → Asked → Manner
manner_asked w asked = record { is_last = is_closed w.heard.state; is_head = asked.is_head }

-- the request that waited is answered, once; where none waited, nothing is done
abbrev pub RespondsTo : Option Asked → WebValue → Answer → List ℕ → WebValue → Type 0
RespondsTo None old answer body new = new ≡ old
RespondsTo (Some asked) old answer body new =
    Queues (unasked old) (response_bytes answer body (manner_asked old asked) (origin_or_none asked.origin)) new

-- so many of the waiting bytes left
abbrev pub web_sent : WebValue → ℕ → WebValue
web_sent w count = record w { waits = drop count w.waits }
