use Rattle.std.proofs.Common.{List, Option, ℕ, inl, inr, option_copied, refl, subst, sym}
use Rattle.std.proofs.lemmas.Result.{err_from_is_err_and}
use Rattle.mvd_app.specs.Named.{StopsAtToken}
use Rattle.mvd_client.specs.Talked.{ShellsAt}
use Rattle.mvd_app.proofs.without_files.run_remote_shell.Goals as goal

pub returns-in_err-tokens : goal.returns-in_err-tokens
returns-in_err-tokens g c =
    let stopped = err_from_is_err_and c.from_residual.result c.from_residual.ensures.1 in
    inr ((stopped.0, stopped.1, subst (StopsAtToken c.args.token_file) (sym stopped.2) c.in_err-tokens.ensures.stopped), refl, refl, refl)

pub returns : goal.returns
returns g c =
    let shells = subst (λ (token : Option (List ℕ)). ShellsAt g.D.Dialed.Line (g.D.Dial.gives c.args.dial.now c.args.address) token c.args.address c.args.gone.now c.remote_shell_run.new.gone (g.R.Read.remaining c.args.reader.now) (g.W.Write.contents c.args.writer.now) (g.R.Read.remaining c.remote_shell_run.new.reader) (g.W.Write.contents c.remote_shell_run.new.writer) c.remote_shell_run.result) c.first_of.ensures c.remote_shell_run.ensures.shells in
    inl (option_copied c.as_ref.result, rw c.as_ref.ensures.value c.in_ok-tokens.ensures.given, shells)
