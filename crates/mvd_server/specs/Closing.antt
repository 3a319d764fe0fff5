-- How a server ends.
use Rattle.std.specs.Io.KnownBytes.{Appends}
use Rattle.std.specs.Prelude.{◌≡◌, ◌≢◌, ◌⊎◌, ℕ, ◌+◌, true, List, length, Option, Ok}
use Rattle.mvd_conn.specs.declared.passes.Pass.{Pass}
use Rattle.mvd_dots.specs.declared.refusals.Refusal.TheVariants.{Broken, Memory, ReadFailed, Store, WriteFailed}
use Rattle.mvd_input.specs.declared.fault.Fault.{Fault}
use Rattle.mvd_input.specs.declared.fault.Fault.TheVariants.{Stopped, Line}
use Rattle.mvd_print.specs.Text.{root_text}
use Rattle.mvd_replica.specs.ReplicaCalls.{root_answer}
use Rattle.mvd_replica.specs.declared.replica.Replica.{Replica}
use Rattle.mvd_http.specs.Guard.{Named}
use Rattle.mvd_server.specs.Rounds.{IsServed}
use Rattle.mvd_server.specs.Talking.{Talking}
use Rattle.mvd_server.specs.declared.sockets.Sockets.{Ghosts as SocketGhosts}
use Rattle.mvd_site.specs.Sites.{SiteValue}
use Rattle.sqlite_trees.specs.declared.store.Store.{Ghosts}

-- how many clients there are
abbrev pub client_count : Talking → ℕ
client_count t = length t.host.clients + length t.webs

-- no client is left
abbrev pub IsDeserted : Talking → Type 0
IsDeserted t = client_count t ≡ 0

-- why it ends at fault: it cannot listen or wait, a line cannot be written, memory is refused, its file is no longer
-- what was opened, or the site is broken
abbrev pub EndsAtFault : SiteValue → Fault → Type 0
EndsAtFault site (Stopped refusal) =
    refusal ≢ Memory → (refusal ≡ ReadFailed) ⊎ ((refusal ≡ WriteFailed)
    ⊎ ((refusal ≡ Store) ⊎ ((refusal ≡ Broken) × (site.broken ≡ true))))
EndsAtFault site (Line number) = ⊥

-- the line of the site's root is printed
abbrev pub PrintsRoot : SiteValue → Option (List ℕ) → Option (List ℕ) → Type 0
PrintsRoot site old new = (root : List ℕ) × (root_answer site ≡ Ok root) × Appends old new (root_text root)

-- the last that was printed is that line
abbrev pub EndsWithRoot : SiteValue → Option (List ℕ) → Type 0
EndsWithRoot site new = (old : Option (List ℕ)) × PrintsRoot site old new

module _ {S : Type 0} {g : Ghosts S} where
  -- it has served, and at the end nobody is left
  abbrev pub EndsServed : {K I A T : Type 0} → SocketGhosts K I A T → Option (List Pass) → Named → K → Replica S g
      → K → Replica S g → Type 0
  EndsServed k passes names sockets old sockets' new =
      (it : IsServed k passes names sockets old sockets' new) × IsDeserted it.last
