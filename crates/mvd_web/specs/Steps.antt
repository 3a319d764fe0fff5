-- What the steps within a call do. No public clause cites these.
use Rattle.std.specs.Prelude.{◌≡◌, ◌⊎◌, ℕ, Bool, true, false, List, [], ◌∷◌, ◌++◌, Option, Some, IsTrue}
use Rattle.http_server.specs.Exchange.{Call}
use Rattle.http_server.specs.History.{Rests}
use Rattle.http_server.specs.Response.{IsResponse}
use Rattle.mvd_dots.specs.declared.refusals.Refusal.TheVariants.{Memory}
use Rattle.mvd_conn.specs.declared.passes.Pass.{Pass}
use Rattle.mvd_http.specs.Guard.{Named}
use Rattle.mvd_web.specs.Asked.{IsAskedBy}
use Rattle.mvd_web.specs.Web.{NothingCame, WebValue, first_cause, web_said}
use Rattle.mvd_web.specs.declared.taken.Asked.{Asked}

-- reading hands nothing out, and queues nothing
pub record Quiet (old new : WebValue) : Type 0 where
  pub stays : NothingCame old new
  pub sent : new.heard.sent ≡ old.heard.sent
  pub waits : new.waits ≡ old.waits
  pub stopped : new.stopped ≡ old.stopped

pub record ReadsOne (passes : Option (List Pass)) (names : Named) (old new : WebValue) : Type 0 where
  pub call : Call
  pub calls : new.heard.calls ≡ old.heard.calls ++ call ∷ []
  pub plain : IsResponse 404 [] [] call.1
  pub asked : Asked
  pub kept : new.asked ≡ Some asked
  pub asks : IsAskedBy passes names call.0 asked
  pub quiet : Quiet old new

pub record ReadsNone (old new : WebValue) : Type 0 where
  pub calls : new.heard.calls ≡ old.heard.calls
  pub asked : new.asked ≡ old.asked
  pub rests : Rests new.config new.heard
  pub quiet : Quiet old new

abbrev pub ReadsOn : Option (List Pass) → Named → WebValue → Bool → WebValue → Type 0
ReadsOn passes names old true new = ReadsOne passes names old new
ReadsOn passes names old false new = ReadsNone old new

-- what the kit's connection handed out is not queued
pub record Drops (old new : WebValue) : Type 0 where
  pub part : List ℕ
  pub split : old.heard.pending ≡ part ++ new.heard.pending
  pub sent : new.heard.sent ≡ old.heard.sent ++ part
  pub calls : new.heard.calls ≡ old.heard.calls
  pub state : new.heard.state ≡ old.heard.state
  pub asked : new.asked ≡ old.asked
  pub waits : new.waits ≡ old.waits
  pub stopped : new.stopped ≡ old.stopped
  pub stays : NothingCame old new

-- it is
pub record StepsOn (old new : WebValue) : Type 0 where
  pub part : List ℕ
  pub split : old.heard.pending ≡ part ++ new.heard.pending
  pub sent : new.heard.sent ≡ old.heard.sent ++ part
  pub waits : new.waits ≡ old.waits ++ part
  pub calls : new.heard.calls ≡ old.heard.calls
  pub state : new.heard.state ≡ old.heard.state
  pub asked : new.asked ≡ old.asked
  pub stopped : new.stopped ≡ old.stopped
  pub rests : new.rests ≡ old.rests
  pub stays : NothingCame old new

-- after it nothing is left, and where there was nothing, nothing is to be looked at
abbrev pub Settles : List ℕ → WebValue → WebValue → Type 0
Settles [] old new = IsTrue new.rests × (new.heard ≡ old.heard)
Settles (b ∷ bs) old new = new.rests ≡ false

abbrev pub PassesAll : WebValue → List ℕ → List ℕ → WebValue → Type 0
PassesAll old told queued new =
    ((new.stopped ≡ old.stopped) × (new.heard.pending ≡ []) × Settles told old new × (queued ≡ web_said new told))
    ⊎ ((new.stopped ≡ first_cause old.stopped Memory) × ((queued ≡ told) ⊎ (queued ≡ [])))

pub record PassesOn (old new : WebValue) : Type 0 where
  pub told : List ℕ
  pub sent : new.heard.sent ≡ old.heard.sent ++ told
  pub queued : List ℕ
  pub waits : new.waits ≡ old.waits ++ queued
  pub calls : new.heard.calls ≡ old.heard.calls
  pub asked : new.asked ≡ old.asked
  pub ends : PassesAll old told queued new
  pub stays : NothingCame old new
