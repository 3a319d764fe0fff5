-- What a command did: to the site of its file, with what is outside, and what its file is then.
use Rattle.std.specs.Prelude.{◌≡◌, ◌⊎◌, ⊤, ℕ, IfSome, List, Option, Some, None, Result, Ok, Err}
use Rattle.std.specs.declared.net.socket_addr.SocketAddr.{SocketAddr}
use Rattle.mvd_app.specs.Looped.{IsLooped}
use Rattle.mvd_app.specs.OnFile.{IsRunOf}
use Rattle.mvd_app.specs.Stored.{CannotOpen, EndsAs, Filed, IsConfigFor, LeavesSite, SiteLeft, StopsBefore, closed_in, file_in}
use Rattle.mvd_app.specs.Tasks.{AreTokensOfOrder, DoesTask, IsMet, IsSimulated, IsTypedAt, Outside}
use Rattle.mvd_app.specs.declared.closing.Ran.{Ran}
use Rattle.mvd_hint.specs.declared.harm.Harm.{Harm}
use Rattle.mvd_hint.specs.declared.hint.Stop.{Stop}
use Rattle.mvd_input.specs.declared.order.Order.{Order}
use Rattle.mvd_input.specs.declared.order.Order.TheVariants as order
use Rattle.mvd_remote.specs.declared.line.Line.{Ghosts as LineGhosts}
use Rattle.mvd_replica.specs.FileCalls.{OpensAsSite}
use Rattle.mvd_replica.specs.Programs.{LeavesFile}
use Rattle.mvd_replica.specs.Replicas.{site_of}
use Rattle.mvd_replica.specs.Turns.{Turn}
use Rattle.mvd_replica.specs.declared.replica.Replica.{Replica}
use Rattle.mvd_server.specs.declared.sockets.Sockets.{Ghosts as SocketGhosts}
use Rattle.mvd_server.specs.declared.tokens.Tokens.{Tokens}
use Rattle.mvd_site.specs.Config.{ConfigValue}
use Rattle.sqlite.specs.Recovery.{Image}
use Rattle.sqlite_disk.specs.declared.Disk as disk
use Rattle.sqlite_store.specs.declared.store.FileStore.{FileStore}
use Rattle.sqlite_trees.specs.declared.store.Store.{Ghosts}

module _ {D : Type 0} {g : disk.Ghosts D} (f : Ghosts (FileStore D g)) {K L : Type 0} where
  -- The site was not opened, and nothing came or left: a file of definitions or with a token stopped the command, which
  -- the order names; or the site's own file did. What the command is stopped with is of that file
  pub record IsUnopened (image : Image) (filed : Filed) (was now : Outside K L) (ran : Ran (SiteLeft D g f)) : Type 0 where
    pub left : ran.left ≡ None
    pub still : now ≡ was
    pub stop : Stop
    pub ended : ran.ended ≡ Err stop
    pub cause : StopsBefore filed stop
        ⊎ ((config : ConfigValue) × IsConfigFor filed.setup config × CannotOpen f image config filed.db stop)

module _ {D : Type 0} {g : disk.Ghosts D} (f : Ghosts (FileStore D g)) {K I A T L : Type 0} (k : SocketGhosts K I A T)
    (line : LineGhosts L) (gives : SocketAddr → L → Type 0) where
  -- The site that is set up so was opened, its task was done and nothing else, and it was closed, or comes back: it is
  -- broken, cannot be closed, or came to harm that bars it
  pub record HasDone (image : Image) (filed : Filed) (was now : Outside K L) (ran : Ran (SiteLeft D g f)) : Type 0 where
    pub config : ConfigValue
    pub set_up : IsConfigFor filed.setup config
    pub old : Replica (FileStore D g) f
    pub opened : OpensAsSite image config (Ok old)
    pub tokens : Option Tokens
    pub of_file : AreTokensOfOrder filed.token tokens
    pub new : Replica (FileStore D g) f
    pub calls : List (List Turn)
    pub worked : Result (Unit {0}) Stop
    pub does : DoesTask k line gives filed.task tokens was old now new calls worked
    pub left : SiteLeft D g f
    pub comes : ran.left ≡ Some left
    pub runs : IsRunOf image filed.setup.site config calls new left
    pub harm : Option Harm
    pub leaves : LeavesSite new harm left
    -- of a file that is closed no write is lost that it held, of either version; and a new file holds the site
    pub kept : IfSome (closed_in left) (LeavesFile g image filed.setup.site)
    pub ends : EndsAs filed.db harm worked left (site_of new).broken ran.ended

  abbrev pub DoesFile : Image → Filed → Outside K L → Outside K L → Ran (SiteLeft D g f) → Type 0
  DoesFile image filed was now ran = IsUnopened f image filed was now ran ⊎ HasDone image filed was now ran

  -- what an order without a file does
  abbrev pub DoesBeside : Order → Outside K L → Outside K L → Result (Unit {0}) Stop → Type 0
  DoesBeside order.Sim was now ended =
      (now.gone ≡ was.gone) × IsSimulated was.input now.input was.out now.out ended
  DoesBeside (order.Loop setup) was now ended =
      (now.gone ≡ was.gone) × IsLooped setup was.input now.input was.out now.out ended
  DoesBeside (order.RemoteShell address idle file) was now ended =
      IsTypedAt line (gives address) address file was.gone now.gone was.input now.input was.out now.out ended
  DoesBeside (order.Meet near far idle verbose file) was now ended =
      (now.input ≡ was.input) × IsMet line gives near far file was.gone now.gone was.out now.out ended
  DoesBeside _ was now ended = ⊤

  abbrev pub DoesIn : Image → Order → Option Filed → Outside K L → Outside K L → Ran (SiteLeft D g f) → Type 0
  DoesIn image given (Some filed) was now ran = DoesFile image filed was now ran
  DoesIn image given None was now ran = DoesBeside given was now ran.ended

  -- WHAT A COMMAND DOES, however it ends
  abbrev pub DoesOrder : Image → Order → Outside K L → Outside K L → Ran (SiteLeft D g f) → Type 0
  DoesOrder image given was now ran = DoesIn image given (file_in given) was now ran
