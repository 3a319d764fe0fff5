use Rattle.std.proofs.Common.{inl, inr, refl}
use Rattle.mvd_client.proofs.peer_commands.shell_over.Goals as goal

pub returns-in-Err : goal.returns-in-Err
returns-in-Err g c = record {
  shells = record {
    last = c.shell_run.new.asked;
    told = c.shell_run.result;
    shells = c.shell_run.ensures.told;
    ends = rw c.in-Err.is (refl, c.in_input.result, refl, c.in_input.ensures.fault);
  };
}

pub returns-in-Ok-bye : goal.returns-in-Ok-bye
returns-in-Ok-bye g c = record {
  shells = record {
    last = c.shell_run.new.asked;
    told = c.shell_run.result;
    shells = c.shell_run.ensures.told;
    ends = rw c.in-Ok.is (c.bye.result, c.bye.ensures, rw c.in-Ok-bye.is refl);
  };
}

pub returns-in-Err-bye : goal.returns-in-Err-bye
returns-in-Err-bye g c = record {
  shells = record {
    last = c.shell_run.new.asked;
    told = c.shell_run.result;
    shells = c.shell_run.ensures.told;
    ends = rw c.in-Ok.is (
      c.bye.result,
      c.bye.ensures,
      rw c.in-Err-bye.is (
        c.at_server.result,
        refl,
        record {
          fault = c.at_server.ensures.fault;
          memory = c.at_server.ensures.memory;
          clash = c.at_server.ensures.clash;
          own = c.at_server.ensures.own;
          no_peer = λ why. elim why [
            | inl long ↦ c.at_server.ensures.long long
            | inr (inl kind) ↦ c.at_server.ensures.kind kind
            | inr (inr body) ↦ c.at_server.ensures.body body
          ];
          token = c.at_server.ensures.token;
          place = c.at_server.ensures.place;
          broken = c.at_server.ensures.broken;
        },
      ),
    );
  };
}
