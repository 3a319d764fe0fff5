-- What a site does with one request: its states are all that its answers depend on, besides its configuration.
use Rattle.std.specs.Prelude.{◌≡◌, ◌≢◌, ◌⊎◌, ◌==◌, ℕ, List, length, Bool, false, true, if◌then◌else◌, Result, Ok, Err}
use Rattle.mvd_dots.specs.declared.refusals.Refusal.{Refusal}
use Rattle.mvd_dots.specs.declared.refusals.Refusal.TheVariants.{BadPath, Broken, Memory}
use Rattle.mvd_keys.specs.State.{State, clashes, join}
use Rattle.mvd_keys.specs.Writes.{Key}
use Rattle.mvd_wire.specs.declared.request.Request.{Request}
use Rattle.mvd_wire.specs.declared.request.Request.TheVariants.{Push}
use Rattle.mvd_wire.specs.declared.reply.Reply.{Reply}
use Rattle.mvd_wire.specs.declared.reply.Reply.TheVariants.{Done, Refused}
pub use Rattle.mvd_kept.specs.Answer.{
  within,
  put_from,
  push_from,
  answer_from,
  change_from,
  with_state,
  with_change,
  after_from,
}
use Rattle.mvd_kept.specs.Held.{States, state_at}
use Rattle.mvd_kept.specs.Sites.{SiteValue}

-- the request pushes a state that clashes with the key's
abbrev pub IsClashingPush : States → Request → Type 0
IsClashingPush states (Push key pushed) = clashes (state_at states key) pushed ≡ true
IsClashingPush states request = ⊥

-- ---- what a site does with one request

-- it gives its answer, and has the states after the request
pub record Answered (old new : SiteValue) (request : Request) (reply : Reply) : Type 0 where
  pub answers : reply ≡ answer_from old.config old.states request
  pub site : new ≡ record { config = old.config; states = after_from old.config old.states request; broken = false }

-- the request would change its states, and the site is broken from then on
pub record Broke (old new : SiteValue) (request : Request) : Type 0 where
  pub changes : after_from old.config old.states request ≢ old.states
  pub site : new ≡ record { config = old.config; states = old.states; broken = true }

-- What a site that is not broken does with one request, from its states alone: it answers; or memory was refused,
-- and it is as before; or it was to be changed, and broke
abbrev pub AnswersFrom : SiteValue → SiteValue → Request → Reply → Type 0
AnswersFrom old new request reply = old.broken ≡ false →
    Answered old new request reply
    ⊎ (((reply ≡ Refused Memory) × (new ≡ old)) ⊎ ((reply ≡ Refused Broken) × Broke old new request))

-- ---- the calls by reference

-- what a broken site tells, and otherwise this
abbrev pub unless_broken : {X : Type 0} → Bool → X → X → X
unless_broken broken told x = if broken then told else x

-- why a page of a bucket is refused
abbrev pub bucket_refusal : Bool → List ℕ → Refusal
bucket_refusal broken path = if broken then Broken else if length path == 3 then Memory else BadPath

-- the site with a state joined to that of a key
abbrev pub joined_site : SiteValue → Key → State → SiteValue
joined_site site key pushed =
    let joined = join (state_at site.states key) pushed in
    record { config = site.config; states = with_state site.states key joined; broken = false }

-- the reply to a push that came to this
abbrev pub push_reply : {A : Type 0} → Result A Refusal → Reply
push_reply (Ok done) = Done
push_reply (Err refusal) = Refused refusal
