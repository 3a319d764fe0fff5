-- What a world stands for: sets of writes, by which its sites and messages are what the machine says.
use Rattle.std.specs.Prelude.{◌≡◌, ◌⊎◌, ◌+◌, ◌-◌, ℕ, Bool, true, false, List, ◌++◌, map, length, Some, Result}
use Rattle.std.specs.Prelude.{Option, None, Vec, if◌then◌else◌, slice_set, IfOk, ⊤, option_map}
use Rattle.std.specs.declared.alloc.Global.{Global}
use Rattle.std.specs.List.{AllByRecursion, slice_get, Contains}
use Rattle.mvd_keys.specs.State.{State, join}
use Rattle.mvd_keys.specs.Writes.{Key, SameWrites, Stands, Write, state}
use Rattle.mvd_wire.specs.declared.request.Request.{Request}
use Rattle.mvd_wire.specs.declared.reply.Reply.TheVariants.{Done, Refused}
use Rattle.mvd_site.specs.Answer.{is_question, is_too_large, states_of}
use Rattle.mvd_site.specs.FromStates.{answer_from}
use Rattle.mvd_site.specs.Held.{state_at}
use Rattle.mvd_site.specs.Sites.{SiteStands, SiteValue}
use Rattle.mvd_sync.specs.Session.{CanMeet, IsIn, ReportsDone}
use Rattle.mvd_sync.specs.declared.report.Report.{Report}
use Rattle.mvd_sync.specs.declared.report.SyncFault.{SyncFault}
use Rattle.mvd_sync.specs.declared.report.SyncFault.TheVariants.{Local, Peer}
use Rattle.mvd_dots.specs.declared.refusals.Refusal.TheVariants.{Broken, Memory}
use Rattle.mvd_world.specs.declared.steps.Step.{Step}
use Rattle.mvd_world.specs.declared.steps.Step.TheVariants.{Receive}
use Rattle.mvd_world.specs.declared.steps.Outcome.{Outcome}
use Rattle.mvd_world.specs.declared.steps.Outcome.TheVariants.{Replied}
use Rattle.mvd_world.specs.declared.worlds.Message.{Message}
use Rattle.mvd_world.specs.declared.worlds.World.{World}
use Rattle.mvd_world.specs.Machine.{BreaksBy, FailsFor, IsConsistent, Knowledge, MayStep, RunsSteps, SentMessage, Setting, ToldAtOnce}
use Rattle.mvd_world.specs.Machine.{is_numbered, is_site, may_be, nothing_yet, two_sites, writes_in}

-- the site of this number, with what it was set up with, and the writes that its states stand for unless it is broken
pub record IsSiteOf (setting : Setting) (knowledge : Knowledge) (number : ℕ) (site : SiteValue) : Type 0 where
  pub config : setting.configs number ≡ Some site.config
  pub broken : site.broken ≡ knowledge.broken number
  pub stands : SiteStands site (knowledge.known number)

-- the site of this number, if there is one
abbrev pub site_at : World → ℕ → Option SiteValue
site_at world number =
    if is_numbered (length world.sites.items) number then slice_get world.sites.items (number - 1) else None

-- a message as it is kept
abbrev pub message_of : SentMessage → Message
message_of sending = record { key = sending.key; state = state sending.key sending.writes }

-- sites numbered from 1
abbrev pub AreSites : Setting → Knowledge → List SiteValue → Type 0
AreSites setting knowledge sites =
    (index : ℕ) (site : SiteValue) → slice_get sites index ≡ Some site → IsSiteOf setting knowledge (index + 1) site

-- just the sites that there are
abbrev pub AreAll : Setting → List SiteValue → Type 0
AreAll setting sites = (number : ℕ) → is_numbered (length sites) number ≡ is_site setting number

-- the world is of this setting, and its sites and messages stand for these sets, which are sound
pub record IsWorld (setting : Setting) (world : World) (knowledge : Knowledge) : Type 0 where
  pub all : AreAll setting world.sites.items
  pub sites : AreSites setting knowledge world.sites.items
  pub messages : world.messages.items ≡ map message_of knowledge.messages
  pub sound : IsConsistent knowledge

-- from whatever sets the world stood for, it comes to stand for sets of which this holds
abbrev pub Leads : World → World → (Setting → Knowledge → Knowledge → Type 0) → Type 0
Leads old new Tells =
    (setting : Setting) (before : Knowledge) → IsWorld setting old before
    → (after : Knowledge) × (Tells setting before after × IsWorld setting new after)

-- a step of the world is one of the machine
abbrev pub Steps : World → World → Step → Outcome → Type 0
Steps old new step outcome = Leads old new (λ setting before after. MayStep setting before step outcome after)

-- ---- a message that tells a site nothing new

-- unless it is broken, the message's state joined to the site's is the site's
abbrev pub HasNothingNew : SiteValue → Message → Type 0
HasNothingNew site message =
    site.broken ≡ false → join (state_at site.states message.key) message.state ≡ state_at site.states message.key

-- where a message has nothing new for its site, the world is the very same afterwards
abbrev pub StaysTheSame : World → World → Step → Type 0
StaysTheSame old new (Receive number message) = (site : SiteValue) (sent : Message) →
    slice_get old.sites.items (number - 1) ≡ Some site → slice_get old.messages.items (message - 1) ≡ Some sent
    → HasNothingNew site sent → new ≡ old
StaysTheSame old new step = ⊤

-- the message was sent, and the site knows each write that it stands for
pub record KnowsMessage (knowledge : Knowledge) (site message : ℕ) : Type 0 where
  pub sending : SentMessage
  pub sent : slice_get knowledge.messages (message - 1) ≡ Some sending
  pub known : (write : Write) → Contains sending.writes write → Contains (knowledge.known site) write

-- no message is spelled longer than it may be
abbrev pub AreShort : World → Type 0
AreShort world = AllByRecursion (λ (message : Message). is_too_large message.state ≡ false) world.messages.items

-- it is done, or memory was refused; and a broken site says that it is
abbrev pub AcceptsAgain : Bool → Outcome → Type 0
AcceptsAgain false outcome = (outcome ≡ Replied Done) ⊎ (outcome ≡ Replied (Refused Memory))
AcceptsAgain true outcome = outcome ≡ Replied (Refused Broken)

-- A message that the site already knows, whatever sets the world stood for: the world is the very same afterwards
abbrev pub KnownChangesNothing : World → World → Step → Outcome → Type 0
KnownChangesNothing old new (Receive site message) outcome =
    (setting : Setting) (before : Knowledge) → IsWorld setting old before →
    may_be (is_site setting) (length before.messages) (Receive site message) ≡ true → KnowsMessage before site message →
    (new ≡ old) × (AreShort old → AcceptsAgain (before.broken site) outcome)
KnownChangesNothing old new step outcome = ⊤

-- ---- a session of two sites

-- what a session does to two sites, from writes that each stood for
pub record SitesMeet (V W : List Write) (local peer local' peer' : SiteValue)
    (result : Result Report SyncFault) : Type 0 where
  pub joined : List Key
  pub given : List Key
  pub part : (key : Key) → IsIn given key → IsIn joined key
  pub meet : (key : Key) → IsIn joined key → CanMeet (states_of V) (states_of W) key
  pub tells : IfOk result (ReportsDone (two_sites local.config peer.config local.config.site V W) joined given)
  pub local_breaks : BreaksBy local.broken local'.broken (Local Broken) result
  pub peer_breaks : BreaksBy peer.broken peer'.broken (Peer Broken) result
  pub at_once : ToldAtOnce local.broken peer.broken joined result
  pub fails : FailsFor (states_of V) (states_of W) local'.broken peer'.broken result
  pub local_stands : SiteStands local' (V ++ writes_in joined W)
  pub peer_stands : SiteStands peer' (W ++ writes_in given (V ++ writes_in joined W))

-- the same, whatever they stood for
abbrev pub ExchangeSites : SiteValue → SiteValue → SiteValue → SiteValue → Result Report SyncFault → Type 0
ExchangeSites local peer local' peer' result =
    (V W : List Write) → SiteStands local V → SiteStands peer W → SitesMeet V W local peer local' peer' result

-- two sites of a list meet, and the others are as they were
pub record TwoMeet (old new : List SiteValue) (local peer : ℕ) (result : Result Report SyncFault) : Type 0 where
  pub first : SiteValue
  pub second : SiteValue
  pub first' : SiteValue
  pub second' : SiteValue
  pub first_is : slice_get old local ≡ Some first
  pub second_is : slice_get old peer ≡ Some second
  pub new_is : new ≡ slice_set (slice_set old local first') peer second'
  pub first_config : first'.config ≡ first.config
  pub second_config : second'.config ≡ second.config
  pub exchange : ExchangeSites first second first' second' result

-- ---- a run

-- two sites give equal answers to each question
pub record AreAlike (a b : SiteValue) : Type 0 where
  pub states : a.states ≡ b.states
  pub answers : (request : Request) → is_question request ≡ true
      → answer_from a.config a.states request ≡ answer_from b.config b.states request

-- a run of these steps, which is a world and their outcomes: from nothing known it leads to sets that the world stands
-- for, and of the world and them this holds
abbrev pub LeadTo : Setting → List Step → World × Vec Outcome Global → (World → Knowledge → Type 0) → Type 0
LeadTo setting steps done Holds = (end : Knowledge)
    × (RunsSteps setting nothing_yet steps done.1.items end × (IsWorld setting done.0 end × Holds done.0 end))

-- each site that is not broken stands for what it knows, which is a part of what was made
abbrev pub StandForKnown : World → Knowledge → Type 0
StandForKnown world end =
    (index : ℕ) (site : SiteValue) → slice_get world.sites.items index ≡ Some site → site.broken ≡ false →
    Stands site.states (end.known (index + 1))
    × ((write : Write) → Contains (end.known (index + 1)) write → Contains end.made write)

-- two sites that are not broken, have equal definitions and know the same writes, are alike
abbrev pub AlikeWhereSame : World → Knowledge → Type 0
AlikeWhereSame world end =
    (i j : ℕ) (a b : SiteValue) → slice_get world.sites.items i ≡ Some a → slice_get world.sites.items j ≡ Some b
    → a.broken ≡ false → b.broken ≡ false →
    a.config.defs ≡ b.config.defs → SameWrites (end.known (i + 1)) (end.known (j + 1)) → AreAlike a b

-- ---- a state that was sent

-- the state that is the message of this number, if there is one
abbrev pub state_of_message : World → ℕ → Option State
state_of_message world number = if is_numbered (length world.messages.items) number
    then option_map (λ (message : Message). message.state) (slice_get world.messages.items (number - 1)) else None

-- where it is some message it is received, whichever it is
abbrev pub TakesSent : World → World → ℕ → Message → Outcome → Type 0
TakesSent old new site message outcome = (index : ℕ) → slice_get old.messages.items index ≡ Some message
    → Steps old new (Receive site (index + 1)) outcome
