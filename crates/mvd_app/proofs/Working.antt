-- Whatever a command does with a stored site keeps the writes known, and its records follow.
use Rattle.std.proofs.Common.{◌≡◌, List, ℕ, Option, Result, Ok, [], ◌∷◌, refl, subst, sym}
use Rattle.std.specs.List.{AllByRecursion}
use Rattle.std.specs.declared.net.socket_addr.SocketAddr.{SocketAddr}
use Rattle.mvd_conn.specs.declared.passes.Pass.{Pass}
use Rattle.mvd_server.specs.declared.tokens.Tokens.{Tokens}
use Rattle.mvd_app.proofs.Following.{follows}
use Rattle.mvd_app.proofs.Rounds.{round_fine}
use Rattle.mvd_app.specs.Tasks.{DoesTask, Outside, Serving, Syncing, Task, Typing, calls_asked, rounds_in, turns_asked}
use Rattle.mvd_client.specs.Synced.{FollowsPushed, TakesPushes}
use Rattle.mvd_replica.proofs.Keeping.{keeps_on, keeps_self, pushes_keep, turns_keep}
use Rattle.mvd_replica.specs.Batch.{lost_requests}
use Rattle.mvd_replica.specs.Programs.{KeepsWrites, WorksOn}
use Rattle.mvd_replica.specs.ReplicaCalls.{ReplicaAnswers}
use Rattle.mvd_hint.specs.declared.hint.Stop.{Stop}
use Rattle.mvd_host.specs.Round.{Round, turns_of}
use Rattle.mvd_host.proofs.Known.{choice_known, replies_known, stands_known, told_known}
use Rattle.mvd_host.specs.Runs.{Calls, Comes, Goes, Hands, Happening, HostMoment, Rounds, Runs, after_one, after_run, side_at, turns_in}
use Rattle.mvd_remote.specs.declared.line.Line.{Ghosts as LineGhosts}
use Rattle.mvd_replica.specs.Replicas.{site_of, store_of, stored_of}
use Rattle.mvd_replica.specs.Restored.{HasWrites}
use Rattle.mvd_replica.specs.Turns.{Turn}
use Rattle.mvd_runs.proofs.Working.{Works, works_append, works_asked, works_calls, works_none, works_one, writes_then}
use Rattle.mvd_runs.specs.Files.{IsValidTurn, WorksBy}
use Rattle.mvd_site.specs.Known.{IsValidRequest}
use Rattle.mvd_replica.specs.declared.replica.Replica.{Replica}
use Rattle.mvd_shell.specs.Asked.{Exchange}
use Rattle.mvd_shell.specs.Talk.{AnswersExchanges, AsksInTurn}
use Rattle.mvd_server.specs.Rounds.{IsServed}
use Rattle.mvd_server.specs.TokenFiles.{Named}
use Rattle.mvd_server.specs.declared.sockets.Sockets.{Ghosts as SocketGhosts}
use Rattle.sqlite.specs.Held.{Held, state}
use Rattle.sqlite.specs.State.{State}
use Rattle.sqlite_trees.specs.declared.store.Store.{Ghosts}

-- ---- rounds

module _ {C : Type 0} (f : C → State) where
  of_round : (ready : List ℕ) (turns : List (ℕ × Turn)) (side new : HostMoment C) → Round ready turns (side_at f side) (side_at f new) → Works (turns_of turns ∷ []) side.site new.site (f side.conn) (f new.conn)
  of_round ready turns side new round =
      works_one (turns_of turns) side.site new.site (f side.conn) (f new.conn) (round_fine ready turns (side_at f side) (side_at f new) round)
      (record {
        replies = replies_known (turns_of turns) side.site new.site round.serves.states;
        stands = stands_known (turns_of turns) side.site new.site round.serves.states;
        config = round.serves.follows.config;
        choice = choice_known (turns_of turns) side.site new.site round.serves.states;
      })
      (told_known (turns_of turns) side.site new.site round.serves.states) round.serves.follows

  of_rounds : (side : HostMoment C) (all : List (Happening C)) → Runs f side all → Works (rounds_in all) side.site (after_run side all).site (f side.conn) (f (after_run side all).conn)
  of_rounds side [] runs = works_none side.site (f side.conn)
  of_rounds side (Comes n host ∷ all) (may, runs) = of_rounds (after_one side (Comes n host)) all runs
  of_rounds side (Goes n host ∷ all) (may, runs) = of_rounds (after_one side (Goes n host)) all runs
  of_rounds side (Calls n call ∷ all) (may, runs) = of_rounds (after_one side (Calls n call)) all runs
  of_rounds side (Hands hand ∷ all) (may, runs) = of_rounds (after_one side (Hands hand)) all runs
  of_rounds side (Rounds ready turns new ∷ all) (may, runs) =
      works_append (turns_of turns ∷ []) (rounds_in all) side.site new.site (after_run new all).site (f side.conn) (f new.conn) (f (after_run new all).conn) (of_round ready turns side new may) (of_rounds new all runs)

module _ {S : Type 0} {g : Ghosts S} where
  -- a shell
  all_keep : (exchanges : List Exchange) (old new : Replica S g) → AnswersExchanges ReplicaAnswers exchanges old new → KeepsWrites (site_of old) (site_of new)
  unfolding AnswersExchanges
  all_keep [] old new same = subst (λ (r : Replica S g). KeepsWrites (site_of old) (site_of r)) (sym same) (keeps_self (site_of old))
  all_keep (exchange ∷ exchanges) old new (between, one, others) =
      keeps_on (site_of old) (site_of between) (site_of new) (λ known stands. (one.choice.0, one.keeps known one.choice.0 stands one.choice.1))
      (all_keep exchanges between new others)

  pub asks_work : (old new : Replica S g) → AsksInTurn ReplicaAnswers old new → WorksOn (stored_of old) (stored_of new)
  asks_work old new asks =
      let it = follows old new asks in
      record {
        config = it.site.0;
        keeps = all_keep asks.exchanges old new asks.answered;
        sound = it.store.sound;
        holds = it.store.holds;
        stored = λ sound held whole broken. let more = it.store.stored sound held whole broken in (more.request ∷ [], more.holds);
      }

  -- a session
  pub pushed_works : (old new : Replica S g) → FollowsPushed old new → WorksOn (stored_of old) (stored_of new)
  pushed_works old new it = record {
    config = it.site.0;
    keeps = pushes_keep (site_of old) (site_of new) it.comes;
    sound = it.store.sound;
    holds = it.store.holds;
    stored = λ sound held whole broken. let more = it.store.stored sound held whole broken in (more.request ∷ more.rest, more.holds);
  }

  -- a server
  pub served_works : {K I A T : Type 0} {k : SocketGhosts K I A T} {passes : Option (List Pass)} {names : Named} {sockets sockets' : K} (old new : Replica S g) → IsServed k passes names sockets old sockets' new → WorksOn (stored_of old) (stored_of new)
  served_works old new it =
      let turns : List Turn = turns_of (turns_in it.all) in
      let states = it.list.serves.states in
      let records = it.list.serves.follows in
      record {
        config = records.config;
        keeps = turns_keep turns (site_of old) (site_of new) (stands_known turns (site_of old) (site_of new) states) (choice_known turns (site_of old) (site_of new) states);
        sound = records.sound;
        holds = records.holds;
        stored = λ sound held whole broken. let more = records.stored sound held whole broken in (lost_requests more.lost, more.holds);
      }

  -- ---- as turns, by calls

  -- those of a shell
  asked_by : (exchanges : List Exchange) (old new : Replica S g) → HasWrites (site_of old) → AllByRecursion IsValidTurn (turns_asked exchanges) → AnswersExchanges ReplicaAnswers exchanges old new →
      WorksBy (calls_asked exchanges) (stored_of old) (stored_of new)
  unfolding AnswersExchanges
  asked_by [] old new writes valid same = subst (λ (r : Replica S g). WorksBy [] (stored_of old) (stored_of r)) (sym same) (works_none (site_of old) (store_of old))
  asked_by (exchange ∷ exchanges) old new writes (valid, rest) (between, one, others) =
      let asked : IsValidRequest exchange.request = valid exchange.request refl in
      works_append ((record { asked = Ok exchange.request; reply = exchange.reply } ∷ []) ∷ []) (calls_asked exchanges) (site_of old) (site_of between) (site_of new) (store_of old) (store_of between)
      (store_of new) (works_asked old between exchange.request exchange.reply asked writes one)
      (asked_by exchanges between new (writes_then old between exchange.request exchange.reply asked writes one) rest others)

  -- those of a server
  served_by : {K I A T : Type 0} {k : SocketGhosts K I A T} {passes : Option (List Pass)} {names : Named} {sockets sockets' : K} (old new : Replica S g) (it : IsServed k passes names sockets old sockets' new) →
      WorksBy (rounds_in it.all) (stored_of old) (stored_of new)
  served_by old new it =
      subst (λ (m : HostMoment (Held S)). Works (rounds_in it.all) (site_of old) m.site (store_of old) (state g m.conn)) it.ends (of_rounds (state g) _ it.all it.runs)

  -- those of a session
  pushed_by : (old new : Replica S g) (it : TakesPushes old new) → WorksBy it.calls (stored_of old) (stored_of new)
  pushed_by old new it = works_calls it.calls (site_of old) (site_of new) (store_of old) (store_of new) it.valid it.takes it.follows

  by_calls : (old new : Replica S g) (calls given : List (List Turn)) → calls ≡ given → WorksBy given (stored_of old) (stored_of new) → WorksBy calls (stored_of old) (stored_of new)
  by_calls old new calls given is works = subst (λ (cs : List (List Turn)). WorksBy cs (stored_of old) (stored_of new)) (sym is) works

  -- ---- a task

  module _ {K I A T L : Type 0} (k : SocketGhosts K I A T) (line : LineGhosts L) (gives : SocketAddr → L → Type 0) (tokens : Option Tokens) (was now : Outside K L) (old new : Replica S g)
      (calls : List (List Turn)) (result : Result (Unit {0}) Stop) where
    -- keeps the writes known
    pub does_work : (task : Task) → DoesTask k line gives task tokens was old now new calls result → WorksOn (stored_of old) (stored_of new)
    does_work Serving (hosts, origins, it, is, still) = served_works old new it.served
    does_work Typing (it, is, still) = asks_work old new (record { exchanges = it.exchanges; answered = it.asked })
    does_work (Syncing address) (it, is) = pushed_works old new it.pushed

    -- and its calls are all that was done
    pub does_by : (task : Task) → DoesTask k line gives task tokens was old now new calls result → HasWrites (site_of old) → WorksBy calls (stored_of old) (stored_of new)
    does_by Serving (hosts, origins, it, is, still) writes = by_calls old new calls (rounds_in it.served.all) is (served_by old new it.served)
    does_by Typing (it, is, still) writes = by_calls old new calls (calls_asked it.exchanges) is (asked_by it.exchanges old new writes it.valid it.asked)
    does_by (Syncing address) (it, is) writes = by_calls old new calls it.takes.calls is (pushed_by old new it.takes)
