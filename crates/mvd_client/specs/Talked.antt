-- A shell over a line to a server.
use Rattle.std.specs.Prelude.{◌≡◌, ℕ, false, is_some, List, [], None, Some, Option, Result, Ok, Err}
use Rattle.std.specs.declared.net.socket_addr.SocketAddr.{SocketAddr}
use Rattle.mvd_client.specs.declared.asked_server.AskedServer.{AskedServer}
use Rattle.mvd_client.specs.declared.dial.DialFault.{DialFault}
use Rattle.mvd_client.specs.declared.gone.Gone.{Gone}
use Rattle.mvd_client.specs.AskedServer.{RepliesNoted, lost_of}
use Rattle.mvd_client.specs.Gone.{LetsGo}
use Rattle.mvd_client.specs.LetIn.{ComesIn, LeadsNowhere}
use Rattle.mvd_client.specs.Stopped.{IsAtServer, StopsUndialed}
use Rattle.mvd_dots.specs.declared.refusals.Refusal.{Refusal}
use Rattle.mvd_input.specs.declared.fault.Fault.{Fault}
use Rattle.mvd_shell.specs.Shell.{At, Shells, at}
use Rattle.mvd_wire.specs.declared.reply.Reply.{Reply}
use Rattle.mvd_wire.specs.declared.request.Request.{Request}
use Rattle.mvd_hint.specs.declared.hint.Stop.{Stop}
use Rattle.mvd_remote.specs.Lines.{line_of, refused_of}
use Rattle.mvd_remote.specs.Remotes.{AsksOver, bye_query}
use Rattle.mvd_remote.specs.declared.line.Line.{Ghosts}

-- a Bye was asked over the line, and nothing else, and this was told; where the server has ended the connection nothing
-- is asked, and this is told of the Bye, too
abbrev pub SaysByeAfter : {L : Type 0} → Ghosts L → Option Refusal → AskedServer L → AskedServer L
    → Result (Unit {0}) Refusal → Type 0
SaysByeAfter line None old new told = AsksOver line bye_query old.remote new.remote told
SaysByeAfter line (Some refusal) old new told = (new ≡ old) × (told ≡ Err refusal)

abbrev pub SaysBye : {L : Type 0} → Ghosts L → AskedServer L → AskedServer L → Result (Unit {0}) Refusal → Type 0
SaysBye line old new told = SaysByeAfter line old.ended old new told

-- a command ends as the Bye behind its lines was told
abbrev pub EndsWithBye : SocketAddr → Result (Unit {0}) Refusal → Result (Unit {0}) Stop → Type 0
EndsWithBye address (Ok done) result = result ≡ Ok tt
EndsWithBye address (Err refusal) result = (stop : Stop) × (result ≡ Err stop) × IsAtServer address refusal stop

-- behind lines that were all told comes a Bye, and nothing else, which prints nothing, and the command ends as that is
-- told; behind those that ended early nothing comes, and it is stopped with their fault
abbrev pub EndsLines : {A : Type 0} → (A → A → Result (Unit {0}) Refusal → Type 0) → SocketAddr
    → Result (Unit {0}) Fault → A → A
    → Result (Unit {0}) Stop → Type 0
EndsLines Byes address (Ok done) last new result =
    (bye : Result (Unit {0}) Refusal) × Byes last new bye × EndsWithBye address bye result
EndsLines Byes address (Err fault) last new result =
    (new ≡ last) × (stop : Stop) × (result ≡ Err stop) × (stop.fault ≡ fault)

-- The lines are answered, and what they print is told, as a shell does; and then they end so
pub record ShellsOver {A : Type 0} (Answers : A → A → Request → Reply → Type 0) (lost : A → ℕ)
    (Byes : A → A → Result (Unit {0}) Refusal → Type 0) (address : SocketAddr) (old new : At A)
    (result : Result (Unit {0}) Stop) : Type 0 where
  pub last : A
  pub told : Result (Unit {0}) Fault
  pub shells : Shells Answers lost old (at last new.input new.out) told
  pub ends : EndsLines Byes address told last new.asked result

-- A SHELL OVER WHAT AN ADDRESS LEADS TO, one of these lines, over which the token was shown, if there is one. It leads
-- to none, and nothing is read or printed; or one line was had, and it is a shell over that, which nothing was asked
-- before, so no write is lost at first; the line is let go as it is left
pub data ShellsAt {L : Type 0} (line : Ghosts L) (gives : L → Type 0) (token : Option (List ℕ)) (address : SocketAddr)
    (was now : Gone L) (input out input' out' : Option (List ℕ)) (result : Result (Unit {0}) Stop) : Type 0 where
  nobody : (fault : DialFault) → LeadsNowhere line gives token was now fault → (stop : Stop) → result ≡ Err stop
      → StopsUndialed address fault stop → input' ≡ input → out' ≡ out
      → ShellsAt line gives token address was now input out input' out' result
  ran : (mid : Gone L) (opened : L) → ComesIn line gives token was mid opened → (before after : AskedServer L)
      → line_of before.remote ≡ opened → refused_of before.remote ≡ None → before.is_down ≡ false → before.lost ≡ 0
      → before.ended ≡ None → before.shown ≡ is_some token
      → ShellsOver (RepliesNoted line) lost_of (SaysBye line) address (at before input out)
      (at after input' out') result → LetsGo after.remote [] mid now
      → ShellsAt line gives token address was now input out input' out' result
