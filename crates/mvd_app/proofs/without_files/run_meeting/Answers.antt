use Rattle.std.proofs.Common.{List, Option, ℕ, inl, inr, option_copied, refl, subst, sym}
use Rattle.std.proofs.lemmas.Result.{err_from_is_err_and}
use Rattle.mvd_app.specs.Named.{StopsAtToken}
use Rattle.mvd_client.specs.Between.{MeetsServers}
use Rattle.mvd_app.proofs.without_files.run_meeting.Goals as goal

pub returns-in_err-tokens : goal.returns-in_err-tokens
returns-in_err-tokens g c =
    let stopped = err_from_is_err_and c.from_residual.result c.from_residual.ensures.1 in
    inr ((stopped.0, stopped.1, subst (StopsAtToken c.args.token_file) (sym stopped.2) c.in_err-tokens.ensures.stopped), refl, refl)

pub returns : goal.returns
returns g c =
    let meets = subst (λ (token : Option (List ℕ)). MeetsServers g.D.Dialed.Line (g.D.Dial.gives c.args.dial.now) token c.args.near c.args.far c.args.gone.now c.meet_run.new.gone (g.W.Write.contents c.args.writer.now) (g.W.Write.contents c.meet_run.new.writer) c.meet_run.result) c.first_of.ensures c.meet_run.ensures in
    inl (option_copied c.as_ref.result, rw c.as_ref.ensures.value c.in_ok-tokens.ensures.given, meets)
