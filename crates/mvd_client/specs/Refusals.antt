-- What a stored site refuses in a session: of each window it notes what was refused.
use Rattle.std.specs.Prelude.{◌≡◌, ◌⊎◌, List, [], ◌∷◌, Contains, Result, Ok, Err}
use Rattle.mvd_client.specs.declared.stored_side.Refusals.{Refusals}
use Rattle.mvd_dots.specs.declared.refusals.Refusal.{Refusal}
use Rattle.mvd_dots.specs.declared.refusals.Refusal.TheVariants.{Broken, Memory}
use Rattle.mvd_peer.specs.declared.window.Told.{Told}
use Rattle.mvd_peer.specs.declared.window.Told.TheVariants.{Nodes, Pages, Pushes, Refused as Whole, States}
use Rattle.mvd_replica.specs.Sides.{ReplicaRefuses}
use Rattle.mvd_site.specs.Sites.{SiteValue}

-- what is noted, one refusal after the other
abbrev pub noted_in : Refusals → List (Refusal × Unit {0})
noted_in refusals = refusals.noted.items

-- the refusals among what was told
abbrev pub refused_in : {A : Type 0} → List (Result A Refusal) → List (Refusal × Unit {0})
refused_in [] = []
refused_in (Ok answer ∷ told) = refused_in told
refused_in (Err refusal ∷ told) = (refusal, tt) ∷ refused_in told

-- those of its questions, or that of the whole window
abbrev pub refused_of : Told → List (Refusal × Unit {0})
refused_of (Nodes told) = refused_in told.items
refused_of (Pages told) = refused_in told.items
refused_of (States told) = refused_in told.items
refused_of (Pushes told) = refused_in told.items
refused_of (Whole refusal) = (refusal, tt) ∷ []

-- what was noted stays
abbrev pub StaysNoted : List (Refusal × Unit {0}) → List (Refusal × Unit {0}) → Type 0
StaysNoted old new = (refusal : Refusal × Unit {0}) → Contains old refusal → Contains new refusal

-- WHAT A STORED SITE MAY REFUSE A SESSION WITH, as it is after that: as a replica may; and a call was refused so, or
-- memory was, or the site is broken
abbrev pub StoredRefuses : SiteValue → List (Refusal × Unit {0}) → Refusal → Type 0
StoredRefuses site noted refusal =
    ReplicaRefuses site refusal × (Contains noted (refusal, tt) ⊎ ((refusal ≡ Memory) ⊎ (refusal ≡ Broken)))
