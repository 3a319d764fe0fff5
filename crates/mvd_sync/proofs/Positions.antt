-- The relations of a session, of sides, states and numbers one by one.
use Rattle.std.specs.Prelude.{ℕ, List, Option, Result}
use Rattle.mvd_dots.specs.declared.refusals.Refusal.{Refusal}
use Rattle.mvd_keys.specs.Writes.{Key}
use Rattle.mvd_site.specs.Held.{States}
use Rattle.mvd_sync.specs.Answers.{ListingValue}
use Rattle.mvd_sync.proofs.Buckets.{FillEnds, FillsBoth, Finds, Goes, GoesOnWithin, GoesOver, GoesThrough, SettlesKey, SettlesAll, reading}
use Rattle.mvd_sync.proofs.Carries.{ExchangesAll, Planned}
use Rattle.mvd_sync.proofs.Exchanges.{CameTo, Exchanges, GoesOn, IsDone, JoinsSome, SoFar, Stand, moment}
use Rattle.mvd_sync.specs.Exchanges.{Done, Exchanging}
use Rattle.mvd_sync.specs.Session.{After, Before, Course, HaveAnswered, HaveLacked, Joins, Meets, ReportsDone, Session, after_of, both}
use Rattle.mvd_sync.proofs.Walk.{asking}
use Rattle.mvd_sync.specs.Faults.{Blames}
use Rattle.mvd_peer.specs.Sides.{SideOf, Sides, two}
use Rattle.mvd_sync.proofs.Walk.{AreFewFor, Descends, FindsBuckets, ReadsEnd}
use Rattle.mvd_sync.specs.declared.asking.Questions.{Questions}
use Rattle.mvd_sync.specs.declared.cursor.Entry.{Entry}
use Rattle.mvd_sync.specs.declared.meetings.Meeting.{Meeting}
use Rattle.mvd_sync.specs.declared.report.Report.{Report}
use Rattle.mvd_sync.specs.declared.report.Side.{Side}
use Rattle.mvd_sync.specs.declared.report.SyncFault.{SyncFault}

-- ---- two sides

abbrev pub sides : {L P : Type 0} → SideOf L → SideOf P → Sides L P
sides l p = record { local = l; peer = p }

abbrev pub before_by : (most_local most_peer : ℕ) → Option ℕ → (a b : States) → Before
before_by most_local most_peer number a b = record { held = both a b; most_local = most_local; most_peer = most_peer; number = number }

abbrev pub after_by : (local_true peer_true : Type 0) → (a b : States) → After
after_by local_true peer_true a b = record { held = both a b; local_true = local_true; peer_true = peer_true }

abbrev pub BlamesBy : {S : Type 0} → SideOf S → (most asked wanted : ℕ) → (old new : S) → Refusal → Type 0
BlamesBy s most asked wanted old new = Blames s (record { most = most; asked = asked; wanted = wanted; old = old; new = new })

abbrev pub JoinsBy : (local_true peer_true : Type 0) → (a b a' b' : States) → (joined given : List Key) → Type 0
JoinsBy local_true peer_true a b a' b' = Joins (both a b) (after_by local_true peer_true a' b')

abbrev pub JoinsSomeBy : (local_true peer_true : Type 0) → (a b a' b' : States) → Type 0
JoinsSomeBy local_true peer_true a b a' b' = JoinsSome (both a b) (after_by local_true peer_true a' b')

abbrev pub ReportsDoneBy : (most_local most_peer : ℕ) → Option ℕ → (a b : States) → (joined given : List Key) → Report → Type 0
ReportsDoneBy most_local most_peer number a b = ReportsDone (before_by most_local most_peer number a b)

abbrev pub MeetsBy : (local_true peer_true : Type 0) → (most_local most_peer : ℕ) → Option ℕ → (a b a' b' : States) → Result Report SyncFault → Type 0
MeetsBy local_true peer_true most_local most_peer number a b a' b' = Meets (before_by most_local most_peer number a b) (after_by local_true peer_true a' b')

abbrev pub CameToBy : (most_local most_peer : ℕ) → Option ℕ → (a b a' b' : States) → Key → Option (Side × Refusal) → Type 0
CameToBy most_local most_peer number a b a' b' = CameTo (before_by most_local most_peer number a b) (both a' b')

abbrev pub IsDoneBy : (most_local most_peer : ℕ) → Option ℕ → (a b a' b' : States) → Done → Type 0
IsDoneBy most_local most_peer number a b a' b' = IsDone (before_by most_local most_peer number a b) (both a' b')

abbrev pub SoFarBy : (most_local most_peer : ℕ) → Option ℕ → (a b a' b' : States) → List Done → Type 0
SoFarBy most_local most_peer number a b a' b' = SoFar (before_by most_local most_peer number a b) (both a' b')

-- ---- how a session stands

abbrev pub stand_by : (most_local most_peer : ℕ) → Option ℕ → (a b : States) → List Done → List Entry → Stand
stand_by most_local most_peer number a b done next = record { before = before_by most_local most_peer number a b; done = done; next = next }

abbrev pub GoesOnBy : {L P : Type 0} → SideOf L → SideOf P → Option ℕ → (a b : States) → List Done → List Entry → L → P → (most_local most_peer : ℕ) → Exchanging → Type 0
GoesOnBy l p number a b done next local' peer' most_local most_peer =
    GoesOn (stand_by most_local most_peer number a b done next) (after_of (sides l p) (two local' peer'))

abbrev pub GoesOnWithinBy : {L P : Type 0} → SideOf L → SideOf P → Option ℕ → (a b : States) → List Done → List Entry → (most_l most_p asked_l asked_p : ℕ) → L → P → (most_local most_peer : ℕ) → Exchanging → Type 0
GoesOnWithinBy l p number a b done next most_l most_p asked_l asked_p local' peer' most_local most_peer =
    GoesOnWithin (stand_by most_local most_peer number a b done next) (after_of (sides l p) (two local' peer')) (two most_l most_p) (two asked_l asked_p)

abbrev pub FindsBy : {L P A : Type 0} → SideOf L → SideOf P → Option ℕ → (a b : States) → List Done → List (List ℕ) → (firsts asked_local asked_peer : ℕ) → L → P → (most_local most_peer : ℕ) → (before after : Exchanging) → Result A SyncFault → Type 0
FindsBy l p number a b done paths firsts asked_local asked_peer local' peer' most_local most_peer before after result =
    Finds (stand_by most_local most_peer number a b done before.waiting) (after_of (sides l p) (two local' peer')) (record { paths = paths; firsts = firsts }) (two asked_local asked_peer) after result

abbrev pub SettlesAllBy : {L P A : Type 0} → SideOf L → SideOf P → Option ℕ → (a b : States) → List Done → List Entry → (asked_l asked_p : ℕ) → L → P → (most_local most_peer : ℕ) → Exchanging → Result A SyncFault → Type 0
SettlesAllBy l p number a b done next asked_l asked_p local' peer' most_local most_peer =
    SettlesAll (stand_by most_local most_peer number a b done next) (after_of (sides l p) (two local' peer')) (two asked_l asked_p)

-- ---- steps

abbrev pub CourseBy : {L P A : Type 0} → SideOf L → SideOf P → Questions → (local local' : L) (peer peer' : P) → Result A SyncFault → Type 0
CourseBy l p left local local' peer peer' = Course (sides l p) (asking local peer left) (two local' peer')

abbrev pub HaveAnsweredBy : {L P : Type 0} → SideOf L → SideOf P → (local local' : L) (peer peer' : P) → Type 0
HaveAnsweredBy l p local local' peer peer' = HaveAnswered (sides l p) (two local peer) (two local' peer')

abbrev pub HaveLackedBy : {L P : Type 0} → SideOf L → SideOf P → (local local' : L) (peer peer' : P) → Type 0
HaveLackedBy l p local local' peer peer' = HaveLacked (sides l p) (two local peer) (two local' peer')

abbrev pub SessionBy : {L P : Type 0} → SideOf L → SideOf P → ℕ → (local local' : L) (peer peer' : P) → Result Report SyncFault → Type 0
SessionBy l p most local local' peer peer' = Session (sides l p) most (two local peer) (two local' peer')

abbrev pub ReadsEndBy : {L P : Type 0} → SideOf L → SideOf P → (ℕ → Type 0) → Questions → (local local' : L) (peer peer' : P) → SyncFault → Type 0
ReadsEndBy l p AreFew left local local' peer peer' = ReadsEnd (sides l p) AreFew (asking local peer left) (two local' peer')

abbrev pub AreFewForBy : {L P : Type 0} → SideOf L → SideOf P → L → P → (ℕ → Type 0) → Type 0
AreFewForBy l p local peer = AreFewFor (sides l p) (two local peer)

abbrev pub DescendsBy : {L P : Type 0} → SideOf L → SideOf P → List (List ℕ) → (left left' : Questions) (local local' : L) (peer peer' : P) → List (List ℕ) → Type 0
DescendsBy l p paths left left' local local' peer peer' = Descends (sides l p) paths (asking local peer left) (asking local' peer' left')

abbrev pub FindsBucketsBy : {L P : Type 0} → SideOf L → SideOf P → (left left' : Questions) (local local' : L) (peer peer' : P) → List (List ℕ) → Type 0
FindsBucketsBy l p left left' local local' peer peer' = FindsBuckets (sides l p) (asking local peer left) (asking local' peer' left')

abbrev pub PlannedBy : {L P : Type 0} → SideOf L → SideOf P → Option ℕ → List Entry → (left left' : Questions) (local local' : L) (peer peer' : P) → List Meeting → Type 0
PlannedBy l p number entries left left' local local' peer peer' = Planned (sides l p) number entries (asking local peer left) (asking local' peer' left')

abbrev pub ExchangesAllBy : {L P : Type 0} → SideOf L → SideOf P → Option ℕ → List Entry → ℕ → (left left' : Questions) (local local' : L) (peer peer' : P) → Result (List Meeting) SyncFault → Type 0
ExchangesAllBy l p number entries others left left' local local' peer peer' = ExchangesAll (sides l p) number entries others (asking local peer left) (asking local' peer' left')

abbrev pub ExchangesBy : {L P A : Type 0} → SideOf L → SideOf P → List Entry → (left left' : Questions) (local local' : L) (peer peer' : P) (before after : Exchanging) → Result A SyncFault → Type 0
ExchangesBy l p next left left' local local' peer peer' before after = Exchanges (sides l p) next (moment local peer left before) (moment local' peer' left' after)

abbrev pub GoesBy : {L P A : Type 0} → SideOf L → SideOf P → (left left' : Questions) (local local' : L) (peer peer' : P) (before after : Exchanging) → Result A SyncFault → Type 0
GoesBy l p left left' local local' peer peer' before after = Goes (sides l p) (moment local peer left before) (moment local' peer' left' after)

abbrev pub SettlesBy : {L P A : Type 0} → SideOf L → SideOf P → Entry → (left left' : Questions) (local local' : L) (peer peer' : P) (before after : Exchanging) → Result A SyncFault → Type 0
SettlesBy l p e left left' local local' peer peer' before after = SettlesKey (sides l p) e (moment local peer left before) (moment local' peer' left' after)

abbrev pub GoesThroughBy : {L P A : Type 0} → SideOf L → SideOf P → (States → States → Type 0) → List (List ℕ) → ℕ → (left left' : Questions) (local local' : L) (peer peer' : P) (before after : Exchanging) → Result A SyncFault → Type 0
GoesThroughBy l p Told paths firsts left left' local local' peer peer' before after =
    GoesThrough (sides l p) Told (record { paths = paths; firsts = firsts }) (moment local peer left before) (moment local' peer' left' after)

abbrev pub GoesOverBy : {L P A : Type 0} → SideOf L → SideOf P → List (List ℕ) → ℕ → (left left' : Questions) (local local' : L) (peer peer' : P) (before after : Exchanging) → Result A SyncFault → Type 0
GoesOverBy l p paths firsts left left' local local' peer peer' before after =
    GoesOver (sides l p) (record { paths = paths; firsts = firsts }) (moment local peer left before) (moment local' peer' left' after)

abbrev pub FillsBothBy : {L P : Type 0} → SideOf L → SideOf P → List ℕ → Option (List ℕ) → (mine mine' theirs theirs' : ListingValue) (left left' : Questions) (local local' : L) (peer peer' : P) → Type 0
FillsBothBy l p path after mine mine' theirs theirs' left left' local local' peer peer' =
    FillsBoth (sides l p) path after (reading local peer left mine theirs) (reading local' peer' left' mine' theirs')

abbrev pub FillEndsBy : {L P : Type 0} → SideOf L → SideOf P → (mine theirs : ListingValue) (left : Questions) (local local' : L) (peer peer' : P) → SyncFault → Type 0
FillEndsBy l p mine theirs left local local' peer peer' = FillEnds (sides l p) (reading local peer left mine theirs) (two local' peer')
