-- How many questions a session asks beside other writers: few, where few keys differ, as in a session of two sides that
-- hold still (a walk down hash trees costs what differs: DeCandia et al., Dynamo, 2007, section 4.7).
use Rattle.std.specs.Prelude.{◌≡◌, ◌⊎◌, ◌+◌, ◌≤◌, ℕ, List, [], ◌∷◌, Contains, Option, Err, Ok, length}
use Rattle.mvd_dots.specs.declared.refusals.Refusal.TheVariants.{Memory}
use Rattle.mvd_keys.specs.Writes.{Key}
use Rattle.mvd_site.specs.Held.{States}
use Rattle.mvd_peer.specs.Sides.{Two}
use Rattle.mvd_sync.specs.Fronts.{StateAnswer}
use Rattle.mvd_sync.specs.Machines.{Machining, wanted_count}
use Rattle.mvd_sync.specs.Session.{AreFew, HasAllThatDiffer, IsLittle}
use Rattle.mvd_peer.specs.Asking.{Wanted, asked}
use Rattle.mvd_sync.specs.Tellings.{states_told}
use Rattle.mvd_sync.specs.declared.report.Side.TheVariants.{Local as AtLocal, Peer as AtPeer}
use Rattle.mvd_peer.specs.declared.window.Told.{Told}
use Rattle.mvd_meet.specs.Callers.{questions_at}
use Rattle.mvd_meet.specs.Nears.{asked_near}
use Rattle.mvd_live.specs.Mail.{Mail, Waiting, mail_at, waits_at}
use Rattle.mvd_live.specs.Runs.{Leg, Standing, in_all}

-- ---- the keys that count

-- all keys at which what one side held at a moment is not what the other held at a moment are among these
abbrev pub HasAllThatDiffered : List States → List States → List Key → Type 0
HasAllThatDiffered locals peers keys =
    (a b : States) → Contains locals a → Contains peers b → HasAllThatDiffer a b keys

-- ---- the questions

abbrev pub questions_in : Wanted → ℕ
questions_in w = length w.nodes + length w.pages + length w.gets + length w.pushes

-- those to the local side, and those to the peer
abbrev pub asked_local : List Leg → ℕ
asked_local legs = in_all (λ (leg : Leg). questions_in leg.asks.local) legs

abbrev pub asked_peer : List Leg → ℕ
asked_peer legs = in_all (λ (leg : Leg). questions_in leg.asks.peer) legs

-- a get was refused with 20
abbrev pub HasLacked : Option Told → Type 0
HasLacked told = (answers : List StateAnswer) × (states_told told ≡ Ok answers) × Contains answers (Err Memory)

-- in one of these windows
abbrev pub HaveLacked : List Leg → Type 0
HaveLacked [] = ⊥
HaveLacked (leg ∷ legs) = (HasLacked leg.mine ⊎ HasLacked leg.theirs) ⊎ HaveLacked legs

-- FEW WERE ASKED for the first time, with those that are wanted next: of each side one, five for each of these keys,
-- and one for each thousand that it holds by then. The others were asked again, for keys whose states were asked for
-- before: at most sixteen, and seven for each of those, and none where no get was refused with 20
pub record AsksFew (legs : List Leg) (next : Machining) (now : Standing) (keys : List Key) : Type 0 where
  pub first : Two ℕ ℕ
  pub again : Two ℕ ℕ
  pub parts : (asked_local legs ≡ first.local + again.local) × (asked_peer legs ≡ first.peer + again.peer)
  pub local : AreFew (first.local + wanted_count AtLocal next.stage) now.local keys
  pub peer : AreFew (first.peer + wanted_count AtPeer next.stage) now.peer keys
  pub little : IsLittle again.local (first.local + first.peer) × IsLittle again.peer (first.local + first.peer)
  pub unheld : 1 ≤ again.local + again.peer → HaveLacked legs

-- ---- by mail

-- those that the steps of a session asked, the step among them that waits for its answers
abbrev pub sent_local : Waiting → List (Mail × Waiting) → ℕ
sent_local now legs =
    questions_in (asked now.step.local)
    + in_all (λ (leg : Mail × Waiting). questions_in (asked leg.1.step.local)) legs

abbrev pub sent_peer : Waiting → List (Mail × Waiting) → ℕ
sent_peer now legs =
    questions_in (asked now.step.peer) + in_all (λ (leg : Mail × Waiting). questions_in (asked leg.1.step.peer)) legs

-- FEW WERE ASKED BY MAIL for the first time, and few again
pub record MailsFew (now : Waiting) (legs : List (Mail × Waiting)) (keys : List Key) : Type 0 where
  pub first : Two ℕ ℕ
  pub again : Two ℕ ℕ
  pub parts : (sent_local now legs ≡ first.local + again.local) × (sent_peer now legs ≡ first.peer + again.peer)
  pub local : AreFew first.local (waits_at now legs).local keys
  pub peer : AreFew first.peer (waits_at now legs).peer keys
  pub little : IsLittle again.local (first.local + first.peer) × IsLittle again.peer (first.local + first.peer)

-- what either side has counted is no more than that, with what it had counted before
pub record CountsSent (first : Mail) (now : Waiting) (legs : List (Mail × Waiting)) : Type 0 where
  pub near : asked_near (mail_at first legs).near' ≤ asked_near first.near + sent_local now legs
  pub far : questions_at (mail_at first legs).far' ≤ questions_at first.far + sent_peer now legs
