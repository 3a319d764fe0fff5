-- What is done with a stored site, and with what is outside of a command.
use Rattle.std.specs.Prelude.{◌≡◌, ◌⊎◌, ⊤, ℕ, List, [], ◌∷◌, map, IfErr, IsSome, OnOk, Option, None, is_some, option_map, Result, Ok, Err}
use Rattle.std.specs.Borrow.{Bor}
use Rattle.std.specs.List.{AllByRecursion}
use Rattle.std.specs.Option.{ForSome}
use Rattle.std.specs.declared.net.socket_addr.SocketAddr.{SocketAddr}
use Rattle.mvd_app.specs.Named.{StopsAtToken}
use Rattle.mvd_app.specs.Noted.{Noting, at_noted}
use Rattle.mvd_app.specs.declared.commands.Work.{Work}
use Rattle.mvd_app.specs.declared.commands.Work.TheVariants as work
use Rattle.mvd_client.specs.Between.{MeetsServers}
use Rattle.mvd_client.specs.SyncsAt.{TellsSession}
use Rattle.mvd_client.specs.Talked.{ShellsAt}
use Rattle.mvd_client.specs.declared.gone.Gone.{Gone}
use Rattle.mvd_hint.specs.declared.hint.Stop.{Stop}
use Rattle.mvd_host.specs.Round.{turns_of}
use Rattle.mvd_host.specs.Runs.{Happening, Rounds}
use Rattle.mvd_input.specs.Orders.{ArePeers}
use Rattle.mvd_input.specs.declared.fault.Fault.{Fault}
use Rattle.mvd_remote.specs.declared.line.Line.{Ghosts as LineGhosts}
use Rattle.mvd_replica.specs.ReplicaCalls.{ReplicaAnswers}
use Rattle.mvd_replica.specs.Replicas.{site_of}
use Rattle.mvd_replica.specs.Turns.{Turn}
use Rattle.mvd_replica.specs.declared.replica.Replica.{Replica}
use Rattle.mvd_runs.specs.Files.{IsValidTurn}
use Rattle.mvd_script.specs.Script.{Simulates}
use Rattle.mvd_server.specs.Closing.{EndsAtFault, EndsServed}
use Rattle.mvd_server.specs.Rounds.{IsServed}
use Rattle.mvd_conn.specs.declared.passes.Pass.{Pass}
use Rattle.mvd_server.specs.TokenFiles.{Named, passes_in}
use Rattle.mvd_server.specs.declared.sockets.Sockets.{Ghosts as SocketGhosts}
use Rattle.mvd_server.specs.declared.tokens.Tokens.{Tokens}
use Rattle.mvd_shell.specs.Asked.{Exchange}
use Rattle.mvd_shell.specs.Shell.{At, Shells, at}
use Rattle.mvd_shell.specs.Talk.{AnswersExchanges}
use Rattle.sqlite_trees.specs.declared.store.Store.{Ghosts}

-- a moment outside of a command: what moves the bytes of its clients, the lines that were let go, what is still to be
-- read, and what was written, each as far as it is known
pub record Outside (K L : Type 0) : Type 0 where
  pub sockets : K
  pub gone : Gone L
  pub input : Option (List ℕ)
  pub out : Option (List ℕ)

abbrev pub outside : {K L : Type 0} → K → Gone L → Option (List ℕ) → Option (List ℕ) → Outside K L
outside sockets gone input out = record { sockets = sockets; gone = gone; input = input; out = out }

-- ---- tasks

-- a stored site is served, is asked what lines ask, or has a session with what an address leads to
pub data Task : Type 0 where
  Serving : Task
  Typing : Task
  Syncing : SocketAddr → Task

abbrev pub task_of : Work → Task
task_of (work.Serve address terms peers) = Serving
task_of work.Shell = Typing
task_of (work.Sync address idle verbose) = Syncing address

-- a server meets just the servers of a list
abbrev pub MayWork : Work → Type 0
MayWork (work.Serve address terms peers) = ForSome peers ArePeers
MayWork _ = ⊤

-- there are tokens just where the order names a file with them
abbrev pub AreTokensOfOrder : Option (Bor (List ℕ)) → Option Tokens → Type 0
AreTokensOfOrder file tokens = is_some tokens ≡ is_some file

-- and the first is shown
abbrev pub first_token : Option Tokens → Option (List ℕ)
first_token tokens = option_map (λ t. t.first) tokens

-- a command is stopped with the fault of what it ran
abbrev pub EndsAsTold : Result (Unit {0}) Fault → Result (Unit {0}) Stop → Type 0
EndsAsTold (Ok done) result = result ≡ Ok tt
EndsAsTold (Err fault) result = (stop : Stop) × (result ≡ Err stop) × (stop.fault ≡ fault)

-- ---- what they do

-- each request with its reply is a turn
abbrev pub turns_asked : List Exchange → List Turn
turns_asked = map (λ exchange. record { asked = Ok exchange.request; reply = exchange.reply })

-- each is asked by itself
abbrev pub calls_asked : List Exchange → List (List Turn)
calls_asked exchanges = map (λ turn. turn ∷ []) (turns_asked exchanges)

-- the turns of each round of a host
abbrev pub rounds_in : {C : Type 0} → List (Happening C) → List (List Turn)
rounds_in [] = []
rounds_in (Rounds ready turns new ∷ all) = turns_of turns ∷ rounds_in all
rounds_in (x ∷ all) = rounds_in all

module _ {S : Type 0} {g : Ghosts S} where
  -- Lines are read and answered, and what they print is written. All that was asked are these requests, one after the
  -- other as the lines ask them, with their replies: none pushes a state that is not that of some writes
  pub record TypesLines (old new : At (Replica S g)) (result : Result (Unit {0}) Stop) : Type 0 where
    pub told : Result (Unit {0}) Fault
    pub exchanges : List Exchange
    pub shells : Shells (Noting ReplicaAnswers) (λ _. 0) (at_noted old []) (at_noted new exchanges) told
    pub ends : EndsAsTold told result
    pub asked : AnswersExchanges ReplicaAnswers exchanges old.asked new.asked
    pub valid : AllByRecursion IsValidTurn (turns_asked exchanges)

module _ {S : Type 0} {g : Ghosts S} {K I A T : Type 0} (k : SocketGhosts K I A T) where
  -- A server ran, and this is how it ended: well, and then nobody is left; or with its fault, and where it
  -- could not listen it did nothing
  pub record ServesTo (passes : Option (List Pass)) (names : Named) (sockets : K) (old : Replica S g) (sockets' : K)
      (new : Replica S g) (result : Result (Unit {0}) Stop) : Type 0 where
    pub served : IsServed k passes names sockets old sockets' new
    pub left : OnOk result (EndsServed k passes names sockets old sockets' new)
    pub cause : IfErr result (λ stop. EndsAtFault (site_of new) stop.fault)
    pub unheard : IfErr result (λ stop. IsSome stop.hint → (sockets' ≡ sockets) × (new ≡ old))

module _ {S : Type 0} {g : Ghosts S} {K I A T L : Type 0} (k : SocketGhosts K I A T) (line : LineGhosts L)
    (gives : SocketAddr → L → Type 0) where
  -- WHAT A TASK DOES to a stored site, and nothing else: it takes the turns of these calls. They are a server's rounds,
  -- what the lines ask that a shell reads, or what a session pushes with what an address leads to, to which the first
  -- token was shown; what is printed, and how the command ends, is what came of it
  abbrev pub DoesTask : Task → Option Tokens → Outside K L → Replica S g → Outside K L → Replica S g
      → List (List Turn) → Result (Unit {0}) Stop → Type 0
  DoesTask Serving tokens was old now new calls result =
      (hosts : List ℕ) × (origins : List ℕ)
      × (it : ServesTo k (passes_in tokens) (record { hosts = hosts; origins = origins; any_host = is_some tokens })
      was.sockets old now.sockets new result)
      × (calls ≡ rounds_in it.served.all) × (now.gone ≡ was.gone)
  DoesTask Typing tokens was old now new calls result =
      (it : TypesLines (at old was.input was.out) (at new now.input now.out) result)
      × (calls ≡ calls_asked it.exchanges) × (now.gone ≡ was.gone)
  DoesTask (Syncing address) tokens was old now new calls result =
      (it : TellsSession line (gives address) (first_token tokens) address was.gone now.gone old new was.out now.out
      result)
      × (calls ≡ it.takes.calls)

-- ---- without a file

-- a script is read and run
abbrev pub IsSimulated : Option (List ℕ) → Option (List ℕ) → Option (List ℕ) → Option (List ℕ)
    → Result (Unit {0}) Stop → Type 0
IsSimulated input input' out out' result =
    (told : Result (Unit {0}) Fault) × Simulates input input' out out' told × EndsAsTold told result

-- a shell through a server, to which the first token was shown; or the tokens could not be read of their file
abbrev pub IsTypedAt : {L : Type 0} → LineGhosts L → (L → Type 0) → SocketAddr → Option (Bor (List ℕ)) → Gone L → Gone L
    → Option (List ℕ) → Option (List ℕ) → Option (List ℕ) → Option (List ℕ) → Result (Unit {0}) Stop → Type 0
IsTypedAt line gives address file was now input input' out out' result =
    ((tokens : Option Tokens) × AreTokensOfOrder file tokens
    × ShellsAt line gives (first_token tokens) address was now input out input' out' result)
    ⊎ (((stop : Stop) × (result ≡ Err stop) × StopsAtToken file stop)
    × (now ≡ was) × (input' ≡ input) × (out' ≡ out))

-- a session of two servers, to each of which the first token was shown; or the tokens could not be read of their file
abbrev pub IsMet : {L : Type 0} → LineGhosts L → (SocketAddr → L → Type 0) → SocketAddr → SocketAddr
    → Option (Bor (List ℕ)) → Gone L → Gone L → Option (List ℕ) → Option (List ℕ) → Result (Unit {0}) Stop → Type 0
IsMet line gives near far file was now out out' result =
    ((tokens : Option Tokens) × AreTokensOfOrder file tokens
    × MeetsServers line gives (first_token tokens) near far was now out out' result)
    ⊎ (((stop : Stop) × (result ≡ Err stop) × StopsAtToken file stop) × (now ≡ was) × (out' ≡ out))
