-- A number is one socket for good.
use Rattle.std.specs.Prelude.{◌≡◌, ℕ, List, Option}
use Rattle.mvd_conn.specs.declared.passes.Pass.{Pass}
use Rattle.mvd_http.specs.Guard.{Named}
use Rattle.mvd_server.specs.Paths.{Path}
use Rattle.mvd_server.specs.Rounds.{ServeStep, World, begun}
use Rattle.mvd_server.specs.Wires.{ComesBySocket}
use Rattle.mvd_server.specs.declared.sockets.Sockets.{Ghosts as SocketGhosts}
use Rattle.sqlite.specs.State.{State}

module _ {K I A T C : Type 0} (f : C → State) (k : SocketGhosts K I A T) where
  -- from before its first client on, a server has come so far
  abbrev pub IsReached : World K C → Type 0
  IsReached w =
      (passes : Option (List Pass)) × (names : Named) × (sockets : K) × (first : World K C)
      × (first.wired ≡ begun passes names sockets) × Path (ServeStep f k) first w

  -- once a socket was taken over under this number, no other is, while the server runs
  abbrev pub IsOneSocket : ℕ → Type 0
  IsOneSocket n =
      (old mid now new : World K C) → IsReached old → ComesBySocket k old.site n old.wired mid.wired
      → Path (ServeStep f k) mid now → ComesBySocket k now.site n now.wired new.wired → ⊥
