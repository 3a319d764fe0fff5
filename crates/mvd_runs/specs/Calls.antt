-- Turns by the calls that took them. A call is asked its requests at once: a round of a host, a line of a shell, a
-- window of pushes. What one call left undone may be in the file; what a later one asks then is not.
use Rattle.std.specs.Prelude.{◌≡◌, ◌⊎◌, List, [], ◌∷◌, ◌++◌}
use Rattle.std.specs.List.{AllByRecursion}
use Rattle.mvd_wire.specs.declared.request.Request.{Request}
use Rattle.mvd_peer.specs.Sides.{SiteFollows}
use Rattle.mvd_site.specs.Sites.{SiteValue}
use Rattle.mvd_replica.specs.Holds.{HoldsStates}
use Rattle.mvd_replica.specs.Replicas.{StoredSite}
use Rattle.mvd_replica.specs.Sides.{StoreFollows}
use Rattle.mvd_replica.specs.Turns.{AreUndoneIn, IsToldElse, Turn}
use Rattle.mvd_replica.specs.Whole.{LeavesWhole, after_all}
use Rattle.sqlite.specs.Effect.{Database}

-- the turns of all calls, in order
abbrev pub all_turns : List (List Turn) → List Turn
all_turns [] = []
all_turns (turns ∷ calls) = turns ++ all_turns calls

-- The requests were asked in one of these calls, or there are none. Each was told 21 or 22, and no call before told 22
abbrev pub AreUndoneAtOnce : List (List Turn) → List Request → Type 0
AreUndoneAtOnce [] requests = requests ≡ []
AreUndoneAtOnce (turns ∷ calls) requests =
    AreUndoneIn turns requests ⊎ (AllByRecursion IsToldElse turns × AreUndoneAtOnce calls requests)

-- the database holds the states that the site had, with what such requests were to change
pub record HoldsUndone (calls : List (List Turn)) (site : SiteValue) (db : Database) : Type 0 where
  pub some : List Request
  pub undone : AreUndoneAtOnce calls some
  pub holds : HoldsStates site.config.site (after_all site.config site.states some) db

-- What calls do to a replica. It keeps its configuration, and once broken all of its site. The records follow the
-- states; where the site broke, they may hold what such requests were to change, and so may what a stop leaves
pub record CallsFollow (calls : List (List Turn)) (old new : StoredSite) : Type 0 where
  pub site : SiteFollows old.site new.site
  pub store : StoreFollows (HoldsUndone calls) old new
  pub leaves : LeavesWhole (AreUndoneAtOnce calls) old new
