-- The relations of a stored site, each with its parts one after the other, as proofs hand them on.
use Rattle.std.specs.Prelude.{ℕ, List, [], Option}
use Rattle.mvd_wire.specs.declared.reply.Reply.{Reply}
use Rattle.mvd_wire.specs.declared.request.Request.{Request}
use Rattle.mvd_site.specs.Sites.{SiteValue}
use Rattle.mvd_replica.specs.Batch as batch
use Rattle.mvd_replica.specs.Replicas.{StoredSite}
use Rattle.mvd_replica.specs.Served as served
use Rattle.mvd_replica.specs.Served.{Conversation}
use Rattle.mvd_replica.specs.Sides as sides
use Rattle.mvd_replica.specs.Turns.{Turn}
use Rattle.sqlite.specs.State.{State}

abbrev pub stored_site : SiteValue → State → StoredSite
stored_site site store = record { site = site; store = store }

abbrev pub conversation_at : SiteValue → State → Option (List ℕ) → Option (List ℕ) → Conversation
conversation_at site store input output = record { stored = stored_site site store; input = input; output = output }

abbrev pub ReplicaFollows : (Request → Type 0) → SiteValue → SiteValue → State → State → Type 0
ReplicaFollows asks old new before after = sides.ReplicaFollows asks (stored_site old before) (stored_site new after)

abbrev pub SideFollows : SiteValue → SiteValue → State → State → Type 0
SideFollows old new before after = sides.SideFollows (stored_site old before) (stored_site new after)

abbrev pub TurnsFollow : List Turn → SiteValue → SiteValue → State → State → Type 0
TurnsFollow turns old new before after = batch.TurnsFollow turns (stored_site old before) (stored_site new after)

abbrev pub TakesTurns : List Turn → SiteValue → SiteValue → State → State → Type 0
TakesTurns turns old new before after = batch.TakesTurns turns (stored_site old before) (stored_site new after)

abbrev pub AnswersAll : List Request → List Reply → SiteValue → SiteValue → State → State → Type 0
AnswersAll requests replies old new before after = batch.AnswersAll requests replies (stored_site old before) (stored_site new after)

-- bytes went out, or the writer failed and a front of them did
abbrev pub GoesOut : {X : Type 0} → Option (List ℕ) → Option (List ℕ) → List ℕ → X → X → X → Type 0
GoesOut old new bytes failed result wanted =
    served.GoesOut old (record { whole = []; rest = bytes; wanted = wanted; failed = failed }) result new

-- the first bytes went out, and then the others, or the writer failed and a front of the others did
abbrev pub GoesOutAfter : {X : Type 0} → Option (List ℕ) → Option (List ℕ) → List ℕ → List ℕ → X → X → X → Type 0
GoesOutAfter old new first bytes failed result wanted =
    served.GoesOut old (record { whole = first; rest = bytes; wanted = wanted; failed = failed }) result new
