-- What a request comes to before anything is changed.
use Rattle.std.specs.Prelude.{◌≡◌, ◌≢◌, ◌⊎◌, ⊤, Bool, List, Option, Some, Result, Ok, Err, false, true, IfSome, is_some}
use Rattle.std.specs.FinMap.{get, insert}
use Rattle.mvd_dots.specs.Dot.{DotValue}
use Rattle.mvd_dots.specs.declared.refusals.Refusal.{Refusal}
use Rattle.mvd_dots.specs.declared.refusals.Refusal.TheVariants.{Memory}
use Rattle.mvd_keys.specs.State.{State, join_answer}
use Rattle.mvd_keys.specs.Writes.{Key, Stands, Write, is_empty, state}
use Rattle.mvd_wire.specs.Replies.{CanBeSent}
use Rattle.mvd_wire.specs.declared.request.Request.{Request}
use Rattle.mvd_wire.specs.declared.request.Request.TheVariants.{Push, Node, Row, Hello, Bye}
use Rattle.mvd_wire.specs.declared.reply.Reply.{Reply}
use Rattle.mvd_wire.specs.declared.reply.Reply.TheVariants.{Refused}
use Rattle.mvd_kept.specs.Answer.{answer, change_of}
use Rattle.mvd_kept.specs.Config.{ConfigValue}
use Rattle.mvd_kept.specs.Held.{IsHeldState, States, state_at}
use Rattle.mvd_kept.specs.FromStates.{after_from, answer_from, change_from, within}
use Rattle.mvd_kept.specs.Sites.{SiteValue, has_no_room}
use Rattle.mvd_kept.specs.Change.{ChangeValue, change_reply}
use Rattle.mvd_kept.specs.declared.prepared.Prepared.{Prepared}
use Rattle.mvd_kept.specs.declared.prepared.Prepared.TheVariants.{Answer, Change}

-- An answer with nothing to change: the reply is the answer, and if it accepts a state, that is the state before
pub record PreparesAnswer (config : ConfigValue) (known : List Write) (request : Request) (reply : Reply) : Type 0 where
  pub answers : reply ≡ answer config known request
  pub still : IfSome (change_of known request reply) (λ change. change.1 ≡ state change.0 known)

-- A change: its reply is the answer, its state is the one that the key has afterwards, and that is another than before
pub record PreparesChange (config : ConfigValue) (known : List Write) (request : Request)
    (change : ChangeValue) : Type 0 where
  pub answers : change_reply change.dot ≡ answer config known request
  pub leaves : change_of known request (change_reply change.dot) ≡ Some (change.key, change.state)
  pub differs : change.state ≢ state change.key known

-- What is prepared is the answer, or memory was refused
abbrev pub Prepares : ConfigValue → List Write → Request → Result Prepared Refusal → Type 0
Prepares config known request (Err refusal) = (Refused refusal ≡ answer config known request) ⊎ (refusal ≡ Memory)
Prepares config known request (Ok (Answer reply)) = PreparesAnswer config known request reply
Prepares config known request (Ok (Change change)) = PreparesChange config known request change

-- what a site that is not broken prepares, whatever the writes are that its states stand for
abbrev pub PreparesAt : SiteValue → Request → Result Prepared Refusal → Type 0
PreparesAt site request prepared = site.broken ≡ false → (known : List Write) → Stands site.states known
    → Prepares site.config known request prepared

-- the same from the states: an answer with nothing to change
pub record PreparesAnswerFrom (config : ConfigValue) (states : States) (request : Request)
    (reply : Reply) : Type 0 where
  pub answers : reply ≡ answer_from config states request
  pub still : IfSome (change_from states request (answer_from config states request))
      (λ change. change.1 ≡ state_at states change.0)
  pub after : after_from config states request ≡ states

-- and a change
pub record PreparesChangeFrom (config : ConfigValue) (states : States) (request : Request)
    (change : ChangeValue) : Type 0 where
  pub answers : change_reply change.dot ≡ answer_from config states request
  pub leaves : change_from states request (answer_from config states request) ≡ Some (change.key, change.state)
  pub differs : change.state ≢ state_at states change.key
  pub held : change.was_held ≡ is_some (get states change.key)
  pub after : after_from config states request ≡ insert states change.key change.state

-- what is prepared is the answer from the states, or memory was refused
abbrev pub PreparesFrom : ConfigValue → States → Request → Result Prepared Refusal → Type 0
PreparesFrom config states request (Err refusal) =
    (Refused refusal ≡ answer_from config states request) ⊎ (refusal ≡ Memory)
PreparesFrom config states request (Ok (Answer reply)) = PreparesAnswerFrom config states request reply
PreparesFrom config states request (Ok (Change change)) = PreparesChangeFrom config states request change

-- the change is what some request comes to from the states that the site has now
abbrev pub IsChangeNow : SiteValue → ChangeValue → Type 0
IsChangeNow site change = (request : Request) × PreparesChangeFrom site.config site.states request change

-- what a site that is not broken prepares, from its states alone
abbrev pub PreparesFromStates : SiteValue → Request → Result Prepared Refusal → Type 0
PreparesFromStates site request prepared = site.broken ≡ false → PreparesFrom site.config site.states request prepared

abbrev pub is_refusal : Reply → Bool
is_refusal (Refused refusal) = true
is_refusal reply = false

-- the reply refuses nothing, and is not too long for its frame
pub record IsPlain (reply : Reply) : Type 0 where
  pub accepts : is_refusal reply ≡ false
  pub fits : CanBeSent reply

-- a change is one that may be put in, and a reply refuses nothing
abbrev pub IsReady : SiteValue → Prepared → Type 0
IsReady site (Answer reply) = IsPlain reply
IsReady site (Change change) = (has_no_room site.config site.states change.key ≡ false) × IsHeldState change.state

-- the request takes no memory: it asks for the digests of a node or for the row of a group, says who asks, ends a
-- connection, or pushes what the key's state holds already
abbrev pub IsFrugal : States → Request → Type 0
IsFrugal states (Node path) = ⊤
IsFrugal states (Row view term) = ⊤
IsFrugal states (Hello token) = ⊤
IsFrugal states Bye = ⊤
IsFrugal states (Push key pushed) = join_answer (state_at states key) pushed ≡ Ok (state_at states key)
IsFrugal states request = ⊥

-- an answer with nothing to change, or that refusal, or memory was refused
abbrev pub PreparesReply : Reply → Result Prepared Refusal → Type 0
PreparesReply reply (Err refusal) = (Refused refusal ≡ reply) ⊎ (refusal ≡ Memory)
PreparesReply reply (Ok (Answer given)) = given ≡ reply
PreparesReply reply (Ok (Change change)) = ⊥

-- where the key is to have this state, what is prepared, by the limits
abbrev pub LimitsTo : SiteValue → Key → State → Option DotValue → Result Prepared Refusal → Type 0
LimitsTo site key after dot (Err refusal) =
    (within site.config site.states key after (change_reply dot) ≡ Refused refusal) ⊎ (refusal ≡ Memory)
LimitsTo site key after dot (Ok (Answer reply)) =
    (within site.config site.states key after (change_reply dot) ≡ reply) × (reply ≡ change_reply dot)
    × (after ≡ state_at site.states key)
LimitsTo site key after dot (Ok (Change change)) =
    (within site.config site.states key after (change_reply dot) ≡ change_reply dot)
    × (change ≡ record { key = key; state = after; dot = dot; was_held = is_some (get site.states key) })
    × (after ≢ state_at site.states key)
    × (is_empty after.context ≡ false)
