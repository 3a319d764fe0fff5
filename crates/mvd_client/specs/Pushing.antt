-- What pushes to a stored site do to it, as turns, and what a window of them is told.
use Rattle.std.proofs.Common.{refl, subst}
use Rattle.std.specs.Prelude.{◌≡◌, ◌⊎◌, ◌++◌, false, true, List, [], ◌∷◌, Some, Vec, Result}
use Rattle.std.specs.declared.alloc.Global.{Global}
use Rattle.mvd_dots.specs.declared.refusals.Refusal.{Refusal}
use Rattle.mvd_dots.specs.declared.refusals.Refusal.TheVariants.{Broken, Memory}
use Rattle.mvd_keys.specs.State.{State}
use Rattle.mvd_keys.specs.Writes.{Key}
use Rattle.mvd_peer.specs.Asking.{asked, only_pushes}
use Rattle.mvd_peer.specs.SiteTells.{TellsReads}
use Rattle.mvd_peer.specs.Windows.{EachAnswer, EachTold, Pushes}
use Rattle.mvd_peer.specs.declared.window.Told.{Told}
use Rattle.mvd_peer.specs.declared.window.Told.TheVariants as told
use Rattle.mvd_peer.specs.declared.window.Window.{Window}
use Rattle.mvd_replica.specs.Replicas.{site_of, stored_of}
use Rattle.mvd_replica.specs.SideCalls.{IsToldAlike, TellsMoments}
use Rattle.mvd_replica.specs.Sides.{IsTrueSite, ReplicaRefuses, SideFollows, side_follows_on, side_follows_self}
use Rattle.mvd_replica.specs.declared.replica.Replica.{Replica}
use Rattle.mvd_runs.specs.Sessions.{SideTakes}
use Rattle.sqlite_trees.specs.declared.store.Store.{Ghosts}

module _ {S : Type 0} {g : Ghosts S} where
  -- calls one after the other, through these moments: each took turns that push
  abbrev pub TakesThrough : Replica S g → List (Replica S g) → Replica S g → Type 0
  TakesThrough old [] new = new ≡ old
  TakesThrough old (mid ∷ mids) new = SideTakes (stored_of old) (stored_of mid) × TakesThrough mid mids new

  -- it changes by pushes alone, its records follow, and the pushes are turns, each with its reply
  pub record FollowsTurns (old new : Replica S g) : Type 0 where
    pub follows : SideFollows (stored_of old) (stored_of new)
    pub moments : List (Replica S g)
    pub takes : TakesThrough old moments new

  -- each push of a window was taken, or refused for its cause; the site is not broken
  pub record TellsPushes (old : Replica S g) (pairs : List (Key × State)) (new : Replica S g)
      (answers : Vec (Result (Unit {0}) Refusal) Global) : Type 0 where
    pub whole : (site_of new).broken ≡ false
    -- each is told as the request to push it is: 21 where the store refused that
    pub alike : IsToldAlike old pairs new answers
    pub each : EachAnswer (λ _ _. Unit {0}) pairs answers.items
    pub told : EachTold (Unit {0}) (ReplicaRefuses (site_of new)) answers.items
    pub pushes : IsTrueSite (site_of old) → IsTrueSite (site_of new)
        × Pushes (site_of old).config.max_keys (site_of old).states pairs answers.items (site_of new).states
    pub live : TellsMoments old pairs new answers

  -- pushes that are not told: memory was refused, and nothing was pushed; or the site is broken then
  abbrev pub EndsPushes : Replica S g → Replica S g → Refusal → Type 0
  EndsPushes old new refusal =
      ((refusal ≡ Memory) × (new ≡ old)) ⊎ ((refusal ≡ Broken) × ((site_of new).broken ≡ true))

  -- what is told of pushes
  abbrev pub TellsPushed : Replica S g → List (Key × State) → Told → Replica S g → Type 0
  TellsPushed old pairs (told.Pushes answers) new = TellsPushes old pairs new answers
  TellsPushed old pairs (told.Refused refusal) new = EndsPushes old new refusal
  TellsPushed old pairs told new = ⊥

  -- WHAT A STORED SITE TELLS OF A WINDOW: of questions that change nothing, what its site tells; or what becomes of the
  -- states that are pushed
  abbrev pub StoredTells : Replica S g → Window → Told → Replica S g → Type 0
  StoredTells old window told new = (TellsReads (site_of old) window told × (new ≡ old))
      ⊎ ((pairs : List (Key × State)) × (asked (Some window) ≡ only_pushes pairs) × TellsPushed old pairs told new)

  pub turns_self : (replica : Replica S g) → FollowsTurns replica replica
  turns_self replica = record { follows = side_follows_self (stored_of replica); moments = []; takes = refl }

  through_on : (mids others : List (Replica S g)) (old mid new : Replica S g) → TakesThrough old mids mid
      → TakesThrough mid others new → TakesThrough old (mids ++ others) new
  through_on [] others old mid new same later = subst (λ (r : Replica S g). TakesThrough r others new) same later
  through_on (one ∷ mids) others old mid new (takes, first) later =
      (takes, through_on mids others one mid new first later)

  pub turns_on : (old mid new : Replica S g) → FollowsTurns old mid → FollowsTurns mid new → FollowsTurns old new
  turns_on old mid new p q = record {
    follows = side_follows_on (stored_of old) (stored_of mid) (stored_of new) p.follows q.follows;
    moments = p.moments ++ q.moments;
    takes = through_on p.moments q.moments old mid new p.takes q.takes;
  }
