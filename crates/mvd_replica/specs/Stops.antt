-- What a stop in the middle of a call may leave of a site's states.
use Rattle.std.specs.Prelude.{◌≡◌, false, ℕ, IsTrue, List, ◌∷◌}
use Rattle.mvd_wire.specs.declared.request.Request.{Request}
use Rattle.mvd_site.specs.Held.{States}
use Rattle.mvd_site.specs.Sites.{SiteValue}
use Rattle.sqlite.specs.Files.{HoldsDatabase}
use Rattle.sqlite.specs.Recovery.{Image}
use Rattle.sqlite.specs.State.{State}
use Rattle.sqlite.specs.Tree.{Trees}
use Rattle.mvd_replica.specs.File.{HoldsFile}
use Rattle.mvd_replica.specs.Holds.{HoldsSite}
use Rattle.mvd_replica.specs.Turns.{AreAskedIn, Turn}
use Rattle.mvd_replica.specs.Whole.{LeavesStates, after_all}

-- the store was open, and the trees hold the states with what these requests change, if the records held the site's
abbrev pub LeavesRequests : SiteValue → List Request → State → Trees → Type 0
LeavesRequests site requests s trees = IsTrue s.is_open × (site.broken ≡ false → HoldsSite site s.committed →
    LeavesStates site.config.site (after_all site.config site.states requests) trees)

-- so with what at least one of the turns was to change
abbrev pub LeavesSome : List Turn → SiteValue → State → Trees → Type 0
LeavesSome turns site s trees =
    (request : Request) × (rest : List Request) × AreAskedIn turns (request ∷ rest)
    × LeavesRequests site (request ∷ rest) s trees

-- An image that holds what a stop left of a site holds the site's states, and so the next `open_file` finds just these
abbrev pub HoldsWhatIsLeft : Type 0
HoldsWhatIsLeft = (image : Image) (site : ℕ) (states : States) (trees : Trees) → LeavesStates site states trees →
    ∥ HoldsDatabase image trees ∥₁ → HoldsFile image site states
