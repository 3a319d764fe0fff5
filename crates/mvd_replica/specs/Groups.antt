-- What the requests of one commit come to, prepared side by side, before anything is changed.
use Rattle.std.specs.Prelude.{◌≡◌, ◌≢◌, ◌⊎◌, ⊤, Bool, ℕ, ◌+◌, ◌-◌, ◌<◌, ◌≤◌, false, true, List, [], ◌∷◌, length, take}
use Rattle.std.specs.List.{AllByRecursion}
use Rattle.std.specs.FinMap.{insert}
use Rattle.mvd_dots.specs.declared.refusals.Refusal.TheVariants.{Broken, Memory, Store}
use Rattle.mvd_keys.specs.Key.{is_key}
use Rattle.mvd_keys.specs.State.{IsValid, State}
use Rattle.mvd_keys.specs.Writes.{Key}
use Rattle.mvd_wire.specs.Codecs.{spell_state, IsInForm}
use Rattle.mvd_wire.specs.declared.request.Request.{Request}
use Rattle.mvd_wire.specs.declared.request.Request.TheVariants.{Get, Put, Delete, Push, Hello, Bye}
use Rattle.mvd_wire.specs.declared.reply.Reply.{Reply}
use Rattle.mvd_wire.specs.declared.reply.Reply.TheVariants.{Done, Refused}
use Rattle.mvd_wire.specs.Replies.{CanBeSent}
use Rattle.mvd_site.specs.Change.{ChangeValue, change_reply}
use Rattle.mvd_site.specs.Config.{ConfigValue}
use Rattle.mvd_site.specs.FromStates.{answer_from}
use Rattle.mvd_site.specs.Held.{IsHeldState, States}
use Rattle.mvd_site.specs.Installs.{with_group, with_prepared}
use Rattle.mvd_site.specs.Known.{IsValidRequest}
use Rattle.mvd_site.specs.Prepared.{IsFrugal, PreparesAnswerFrom, PreparesChangeFrom}
use Rattle.mvd_kept.specs.declared.prepared.Prepared.{Prepared}
use Rattle.mvd_kept.specs.declared.prepared.Prepared.TheVariants.{Answer, Change}
use Rattle.mvd_site.specs.Sites.{SiteValue, has_no_room}
use Rattle.mvd_replica.specs.Adding.{KeepsRoom, LacksRoom}

-- ---- one request

-- the request is at one key, and that is another, or it asks for nothing
abbrev pub IsElsewhere : Key → Request → Type 0
IsElsewhere key (Get own) = own ≢ key
IsElsewhere key (Put own seen document) = own ≢ key
IsElsewhere key (Delete own seen) = own ≢ key
IsElsewhere key (Push own pushed) = own ≢ key
IsElsewhere key (Hello token) = ⊤
IsElsewhere key Bye = ⊤
IsElsewhere key request = ⊥

-- A request at one key has the same answer after a change of another key, as long as there is as much room for it
abbrev pub AnswersOthersAlike : Type 0
AnswersOthersAlike = (config : ConfigValue) (states : States) (key : Key) (state : State) (request : Request) →
    IsElsewhere key request → KeepsRoom config states (insert states key state) request →
    answer_from config (insert states key state) request ≡ answer_from config states request

-- it sees nothing of what was prepared
abbrev pub IsApart : Request → Prepared → Type 0
IsApart request (Answer reply) = ⊤
IsApart request (Change change) = IsElsewhere change.key request

-- what a request comes to from these states: a reply that changes nothing, or memory was refused, but not to one that
-- takes none; or a change
abbrev pub ComesTo : ConfigValue → States → Request → Prepared → Type 0
ComesTo config states request (Answer reply) =
    (PreparesAnswerFrom config states request reply ⊎ (reply ≡ Refused Memory))
    × (IsFrugal states request → reply ≢ Refused Memory)
ComesTo config states request (Change change) =
    PreparesChangeFrom config states request change × (has_no_room config states change.key ≡ false)

-- the request comes to this alone; or, where this is a change, to some change
abbrev pub ComesAlone : ConfigValue → States → Request → Prepared → Type 0
ComesAlone config states request (Answer reply) = ComesTo config states request (Answer reply)
ComesAlone config states request (Change change) = (own : ChangeValue) × ComesTo config states request (Change own)

-- the reply can be sent, and a push that is done is of the state of some writes
pub record IsGivenReply (request : Request) (reply : Reply) : Type 0 where
  pub other : reply ≢ Refused Broken
  pub fits : CanBeSent reply
  pub valid : reply ≡ Done → IsValidRequest request

-- what holds of it from whatever states
abbrev pub IsSendable : Request → Prepared → Type 0
IsSendable request (Answer reply) = IsGivenReply request reply
IsSendable request (Change change) =
    IsGivenReply request (change_reply change.dot) × IsHeldState change.state × IsInForm change.state
    × IsValid change.state × (is_key change.key ≡ true)

-- ---- many

-- each request comes to this alone, or to some change where this is one
abbrev pub AllComeAlone : ConfigValue → States → List Request → List Prepared → Type 0
AllComeAlone config states [] [] = ⊤
AllComeAlone config states (request ∷ requests) (prepared ∷ group) =
    ComesAlone config states request prepared × AllComeAlone config states requests group
AllComeAlone config states requests group = ⊥

abbrev pub AreSendable : List Request → List Prepared → Type 0
AreSendable [] [] = ⊤
AreSendable (request ∷ requests) (prepared ∷ group) = IsSendable request prepared × AreSendable requests group
AreSendable requests group = ⊥

-- each request comes to this once what was prepared before it is put in
abbrev pub ComeInOrder : ConfigValue → States → List Request → List Prepared → Type 0
ComeInOrder config states [] [] = ⊤
ComeInOrder config states (request ∷ requests) (prepared ∷ group) =
    ComesTo config states request prepared × ComeInOrder config (with_prepared states prepared) requests group
ComeInOrder config states requests group = ⊥

-- What was prepared of requests that share a commit: each is right after those before it. Where the store refuses the
-- commit, a reply is right without them too, and a change is refused that would have changed something without them
pub record StandTogether (site : SiteValue) (requests : List Request) (group : List Prepared) : Type 0 where
  pub each : AllComeAlone site.config site.states requests group
  pub ordered : ComeInOrder site.config site.states requests group
  pub sendable : AreSendable requests group

-- the request comes to this change
abbrev pub IsAlone : SiteValue → Request → ChangeValue → Type 0
IsAlone site request change =
    ComesTo site.config site.states request (Change change) × IsSendable request (Change change)

-- the request comes to this behind these
pub record ComesInGroup (site : SiteValue) (request : Request) (group : List Prepared) (prepared : Prepared)
    : Type 0 where
  pub alone : ComesAlone site.config site.states request prepared
  pub behind : ComesTo site.config (with_group site.states group) request prepared
  pub sendable : IsSendable request prepared

-- the request may see a key that one of these changes
abbrev pub SeesAny : Request → List Prepared → Type 0
SeesAny request group = AllByRecursion (IsApart request) group → ⊥

-- how many bytes spell the states that the changes give their keys
abbrev pub state_bytes_of : Prepared → ℕ
state_bytes_of (Answer reply) = 0
state_bytes_of (Change change) = length (spell_state change.state)

abbrev pub state_bytes_in : List Prepared → ℕ
state_bytes_in [] = 0
state_bytes_in (prepared ∷ group) = state_bytes_of prepared + state_bytes_in group

-- all states but that of the last are of fewer than 4,194,304 bytes together
abbrev pub IsBounded : List Prepared → Type 0
IsBounded group = state_bytes_in (take (length group - 1) group) < 4194304

-- A request has to wait until these are put in: they are 1,024, or their states have 4,194,304 bytes, or there may be
-- less room for it then, or it sees a key that one of them changes
abbrev pub MustWait : SiteValue → Request → List Prepared → Type 0
MustWait site request group =
    (1024 ≤ length group) ⊎ (4194304 ≤ state_bytes_in group) ⊎ LacksRoom site request group ⊎ SeesAny request group

-- of the requests that are left the first, if there is one, has to wait
abbrev pub FirstWaits : SiteValue → List Prepared → List Request → Type 0
FirstWaits site group [] = ⊤
FirstWaits site group (request ∷ rest) = MustWait site request group

-- what is to be stored of them
abbrev pub pairs_in : List Prepared → List (List ℕ × List ℕ)
pairs_in [] = []
pairs_in (Answer reply ∷ group) = pairs_in group
pairs_in (Change change ∷ group) = (change.key, spell_state change.state) ∷ pairs_in group

-- whether the key of each change is held before it
abbrev pub held_in : List Prepared → List Bool
held_in [] = []
held_in (Answer reply ∷ group) = held_in group
held_in (Change change ∷ group) = change.was_held ∷ held_in group

-- the reply where the store refused the changes
abbrev pub reply_unstored : Prepared → Reply
reply_unstored (Answer reply) = reply
reply_unstored (Change change) = Refused Store
