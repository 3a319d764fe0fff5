-- What requests that share a commit do to a replica: the one relation of `Replica::answer`, where the commit is of one
-- request, and of `Replica::answer_all`, which makes one commit after the other. What follows from it are lemmas
-- (proofs/Commits.antt).
use Rattle.std.specs.Prelude.{◌≡◌, ◌⊎◌, true, false, ℕ, ◌<◌, ◌≤◌, List, [], ◌∷◌, ◌++◌, flat_map, length, map, take, Ok}
use Rattle.std.specs.List.{AllByRecursion}
use Rattle.mvd_wire.specs.declared.request.Request.{Request}
use Rattle.mvd_wire.specs.declared.reply.Reply.{Reply}
use Rattle.mvd_records.specs.Records.{IsSound}
use Rattle.mvd_site.specs.FromStates.{after_from}
use Rattle.mvd_site.specs.Sites.{SiteValue}
use Rattle.sqlite.specs.State.{Survives}
use Rattle.sqlite_trees.specs.declared.store.Store.{Ghosts}
use Rattle.mvd_replica.specs.declared.replica.Replica.{Replica}
use Rattle.mvd_replica.specs.Batch.{CountsAlong, HoldsLost, TakesAllFrom}
use Rattle.mvd_replica.specs.Holds.{HoldsSite}
use Rattle.mvd_replica.specs.Replicas.{KeepsCommit, RecordsFollow, TakesIfOpen, WasSound, commits_of, committed_of, next_count, site_of, store_of, stored_of}
use Rattle.mvd_replica.specs.Stops.{LeavesSome}
use Rattle.mvd_replica.specs.Turns.{LeavesTurns, Turn}

-- the request would change nothing
abbrev pub ChangesNothing : SiteValue → Request → Type 0
ChangesNothing site request = after_from site.config site.states request ≡ site.states

-- nor would the turn
abbrev pub IsStill : SiteValue → Turn → Type 0
IsStill site turn = (request : Request) → turn.asked ≡ Ok request → ChangesNothing site request

module _ {S : Type 0} {g : Ghosts S} where
  -- the site is as it was, no commit is counted, and where the store is sound the last one is the same
  abbrev pub CommitsNone : Replica S g → Replica S g → Type 0
  CommitsNone old new = (site_of new ≡ site_of old) × (commits_of new ≡ commits_of old) × KeepsCommit old new

  -- one of the turns changed the site, and one commit is counted
  abbrev pub CommitsOnce : List Turn → Replica S g → Replica S g → Type 0
  CommitsOnce turns old new =
      CountsAlong (site_of old) (site_of new) turns 1 × (commits_of new ≡ next_count (commits_of old))

  -- where turns break the site and the store is sound, the records hold what it has lost
  abbrev pub HoldsIfLost : List Turn → Replica S g → Replica S g → Type 0
  HoldsIfLost turns old new = IsSound (store_of new) → HoldsSite (site_of old) (committed_of old)
      → (site_of old).broken ≡ false →
      (site_of new).broken ≡ true → HoldsLost turns (site_of new) (committed_of new)

  -- Turns that share a commit
  pub record SharesCommit (turns : List Turn) (old new : Replica S g) : Type 0 where
    -- each is answered from the states that the one before left, and leaves the states after it
    pub takes : TakesAllFrom (site_of old) (site_of new) turns
    -- there was one commit, or none
    pub counts : CommitsNone old new ⊎ CommitsOnce turns old new
    -- a broken replica stays as it is, and so does one of which nothing is asked that would change it
    pub still : ((site_of old).broken ≡ true) ⊎ AllByRecursion (IsStill (site_of old)) turns → new ≡ old
    -- a change is taken only with the store open
    pub taken : TakesIfOpen old new
    -- the store that is sound now was sound before
    pub before : WasSound old new
    -- where the store is sound, the records follow the states
    pub records : RecordsFollow old new
    -- and hold what a broken site has lost
    pub lost : HoldsIfLost turns old new
    -- a crash leaves what it left before the call, or the states with what turns were to change
    pub survives : Survives (store_of old) (store_of new) (LeavesSome turns (site_of old) (store_of old))
    -- and a stop leaves of a site at rest the states, and maybe changes for which 21 or 22 was told
    pub leaves : LeavesTurns turns (stored_of old) (stored_of new)

  -- ---- requests

  -- one request, with its reply
  abbrev pub AnswersOneRequest : Replica S g → Request → Reply → Replica S g → Type 0
  AnswersOneRequest old request reply new = SharesCommit (record { asked = Ok request; reply = reply } ∷ []) old new

  -- requests that share a commit, whose replies stand behind those before
  pub record Shares (requests : List Request) (before after : List Reply) (old new : Replica S g) : Type 0 where
    pub turns : List Turn
    pub asked : map (λ turn. turn.asked) turns ≡ map (λ request. Ok request) requests
    pub told : after ≡ before ++ map (λ turn. turn.reply) turns
    pub commits : SharesCommit turns old new

  -- the first of some requests
  abbrev pub SharesFront : List Request → List Reply → List Reply → Replica S g → Replica S g → Type 0
  SharesFront requests before after old new =
      (count : ℕ) × (0 < count) × (count ≤ length requests) × Shares (take count requests) before after old new

  -- commits, one after the other
  abbrev pub AllCommit : List (List Turn) → Replica S g → Replica S g → Type 0
  AllCommit [] old new = new ≡ old
  AllCommit (turns ∷ groups) old new = (mid : Replica S g) × SharesCommit turns old mid × AllCommit groups mid new

  -- Requests that are answered at once: one turn for each, in order, with its reply, in commits one after the other
  pub record AnswersInCommits (requests : List Request) (replies : List Reply) (old new : Replica S g) : Type 0 where
    pub groups : List (List Turn)
    pub asked : map (λ turn. turn.asked) (flat_map (λ turns. turns) groups) ≡ map (λ request. Ok request) requests
    pub told : map (λ turn. turn.reply) (flat_map (λ turns. turns) groups) ≡ replies
    pub commits : AllCommit groups old new
