-- What is known after requests and their replies, and what a site may reply.
use Rattle.std.specs.Prelude.{◌≡◌, ◌≢◌, ◌⊎◌, Bool, true, false, List, [], ◌∷◌, ◌++◌, map, flat_map, ⊤, IsSomeAnd}
use Rattle.std.specs.List.{AllByRecursion}
use Rattle.mvd_dots.specs.declared.refusals.Refusal.TheVariants.{Memory, Broken}
use Rattle.mvd_keys.specs.State.{IsValid}
use Rattle.mvd_keys.specs.Writes.{AreOf, Write, Wrote, Deleted, state}
use Rattle.mvd_wire.specs.declared.request.Request.{Request}
use Rattle.mvd_wire.specs.declared.request.Request.TheVariants.{Put, Delete, Push}
use Rattle.mvd_wire.specs.declared.reply.Reply.{Reply}
use Rattle.mvd_wire.specs.declared.reply.Reply.TheVariants.{Written, Done, Refused}
use Rattle.mvd_kept.specs.Config.{ConfigValue}
use Rattle.mvd_kept.specs.Answer.{answer, change_of}

-- What a request adds to the writes known: an accepted put or delete its write, an accepted push
-- any writes of the key that the pushed state is the state of, and anything else nothing
abbrev pub Adds : Request → Reply → List Write → Type 0
Adds (Put key seen document) (Written dot) added = added ≡ Wrote key dot seen document ∷ []
Adds (Delete key seen) Done added = added ≡ Deleted key seen ∷ []
Adds (Push key pushed) Done added = AreOf key added × (state key added ≡ pushed)
Adds request reply added = added ≡ []

-- what is pushed is the state of some set of writes
abbrev pub IsValidRequest : Request → Type 0
IsValidRequest (Push key pushed) = IsValid pushed
IsValidRequest request = ⊤

-- the request, accepted, gives its key another state than it had
abbrev pub ChangesKey : ConfigValue → List Write → Request → Type 0
ChangesKey config known request =
    IsSomeAnd (change_of known request (answer config known request)) (λ change. change.1 ≢ state change.0 known)

-- What a site may reply, and whether it is broken before and after. It replies its answer, or that memory was
-- refused; only where a change was to be put in may that break the site, and then it says so, to every later request
abbrev pub MayReply : ConfigValue → List Write → Bool → Request → Reply → Bool → Type 0
MayReply config known false request reply false = (reply ≡ answer config known request) ⊎ (reply ≡ Refused Memory)
MayReply config known false request reply true = (reply ≡ Refused Broken) × ChangesKey config known request
MayReply config known true request reply false = ⊥
MayReply config known true request reply true = reply ≡ Refused Broken

-- a request, its reply, and one choice of what it added
pub record KnownEvent : Type 0 where
  pub request : Request
  pub reply : Reply
  pub added : List Write

-- the events are these requests with these replies, in order, with a choice that fits
pub record Tells (events : List KnownEvent) (requests : List Request) (replies : List Reply) : Type 0 where
  pub asked : map (λ event. event.request) events ≡ requests
  pub told : map (λ event. event.reply) events ≡ replies
  pub fits : AllByRecursion (λ event. Adds event.request event.reply event.added) events

-- all that the events added
abbrev pub known_after : List KnownEvent → List Write
known_after events = flat_map (λ event. event.added) events

-- each reply is one that the site may give, from the writes known before it; whether it is broken goes from reply to
-- reply
abbrev pub AllReplied : ConfigValue → List Write → Bool → List KnownEvent → Bool → Type 0
AllReplied config known broken [] after = broken ≡ after
AllReplied config known broken (event ∷ events) after =
    (between : Bool) × MayReply config known broken event.request event.reply between
    × AllReplied config (known ++ event.added) between events after
