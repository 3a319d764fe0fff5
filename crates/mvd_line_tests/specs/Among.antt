-- A site at hand to which others write meanwhile.
use Rattle.std.specs.Prelude.{◌≡◌, Bool, true, false, []}
use Rattle.mvd_wire.specs.declared.request.Request.{Request}
use Rattle.mvd_wire.specs.declared.request.Request.TheVariants.{Bucket, Get, Node, Push}
use Rattle.mvd_site.specs.Held.{AreHeld}
use Rattle.mvd_site.specs.Sites.{SiteValue}
use Rattle.mvd_peer.specs.Live.{Grows}
use Rattle.mvd_line_tests.specs.declared.among_others.ServedAmongOthers.{ServedAmongOthers}

-- what a session asks
abbrev pub is_of_session : Request → Bool
is_of_session (Get key) = true
is_of_session (Node path) = true
is_of_session (Bucket path after) = true
is_of_session (Push key state) = true
is_of_session request = false

-- what a site holds only grew, both times in form
pub record HasGrown (old new : SiteValue) : Type 0 where
  pub was : AreHeld old.states
  pub is : AreHeld new.states
  pub grows : Grows old.states new.states
  pub config : new.config ≡ old.config

-- the site at the other end
abbrev pub among_site : ServedAmongOthers → SiteValue
among_site served = served.site

-- it holds keys and states in form, and no reply of it is awaited
abbrev pub IsAmongOthers : ServedAmongOthers → Type 0
IsAmongOthers served = AreHeld served.site.states × (served.waiting.items ≡ [])
