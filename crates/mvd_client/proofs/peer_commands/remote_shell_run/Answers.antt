use Rattle.std.proofs.Common.{◌≡◌, ◌∙◌, Bor, None, Option, Some, is_some, option_copied, refl}
use Rattle.mvd_client.specs.Talked.ShellsAt.{nobody, ran}
use Rattle.mvd_client.proofs.peer_commands.remote_shell_run.Goals as goal

-- a copy is there just where what is copied is
copied : {A : Type 0} (given : Option (Bor A)) → is_some given ≡ is_some (option_copied given)
copied None = refl
copied (Some it) = refl

pub returns-in-Err : goal.returns-in-Err
returns-in-Err g c = record {
  shells = nobody c.in-Err.fault c.in-Err.ensures.nowhere c.undialed.result refl c.undialed.ensures refl refl;
}

pub returns : goal.returns
returns g c = record {
  shells = ran c.let_in.new.gone c.in-Ok.line c.in-Ok.ensures.line c.over-server.result c.shell_over-ended.new.server c.over-server.ensures.line c.over-server.ensures.goes_on c.over-server.ensures.up c.over-server.ensures.none_lost c.over-server.ensures.goes
      (c.over-server.ensures.shown ∙ c.is_some.ensures ∙ copied c.args.token) c.shell_over-ended.ensures.shells c.lets_go.ensures;
}
