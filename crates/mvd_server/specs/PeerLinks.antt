-- What moves between a socket and the side that is asked over it.
use Rattle.std.specs.Prelude.{◌≡◌, ◌++◌, ℕ, Bool, true, false, List, [], Option, Some, None, Ok}
use Rattle.mvd_meet.specs.Callers.{CallerHears, CallerSays, asked_of_caller, came_at, has_ended, leaving_at}
use Rattle.mvd_meet.specs.declared.caller.Caller.{Caller}
use Rattle.mvd_server.specs.declared.peer_link.PeerLink.{PeerLink}
use Rattle.mvd_server.specs.declared.peer_link.Stage.{Stage}
use Rattle.mvd_server.specs.declared.peer_link.Stage.TheVariants as stage
use Rattle.mvd_wire.specs.declared.request.Request.TheVariants.{Hello}

-- nothing is asked over it
abbrev pub is_rest : Stage → Bool
is_rest stage.Rests = true
is_rest other = false

-- a far side that was asked nothing, and of which nothing came
pub record IsUnaskedFar (caller : Caller) : Type 0 where
  pub leaving : leaving_at caller ≡ []
  pub came : came_at caller ≡ []
  pub asked : asked_of_caller caller ≡ None
  pub goes_on : has_ended caller ≡ false

-- a front of the bytes that are to leave left, and bytes came behind those that came
pub record MovesBytes (old new : Caller) : Type 0 where
  pub left : List ℕ
  pub more : List ℕ
  pub leaving : leaving_at old ≡ left ++ leaving_at new
  pub came : came_at new ≡ came_at old ++ more
  pub asked : asked_of_caller new ≡ asked_of_caller old

-- THE TOKEN IS SHOWN, if there is one, and nothing else is said before
abbrev pub SendsToken : Option (List ℕ) → PeerLink → PeerLink → Type 0
SendsToken None old new = (new.far ≡ old.far) × (new.stage ≡ stage.Rests)
SendsToken (Some token) old new = CallerSays (Hello token) old.far new.far × (new.stage ≡ stage.Greets)

-- so once it is connected
abbrev pub ShowsIf : Bool → Option (List ℕ) → PeerLink → PeerLink → Type 0
ShowsIf false token old new = new ≡ old
ShowsIf true token old new = SendsToken token old new

-- it goes on once the token was answered by Done
abbrev pub LetsIn : Bool → PeerLink → PeerLink → Type 0
LetsIn false old new = new.stage ≡ old.stage
LetsIn true old new =
    (new.stage ≡ stage.Rests) × (mid : Caller) × MovesBytes old.far mid × CallerHears mid new.far (Ok tt)
