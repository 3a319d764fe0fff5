use Rattle.std.proofs.Common.{[], Err, Ok, refl}
use Rattle.mvd_app.proofs.Typing.{shells_ask}
use Rattle.mvd_replica.specs.ReplicaCalls.{ReplicaAnswers}
use Rattle.mvd_app.proofs.typed_lines.typed.Goals as goal

pub returns-in-Ok : goal.returns-in-Ok
returns-in-Ok g c =
    let asks = shells_ask ReplicaAnswers (λ _. 0) _ _ _ c.in-Ok.ensures.told in
    record { told = Ok tt; exchanges = asks.exchanges; shells = asks.noting []; ends = refl; asked = asks.answered; valid = asks.fine }

pub returns-in-Err : goal.returns-in-Err
returns-in-Err g c =
    let asks = shells_ask ReplicaAnswers (λ _. 0) _ _ _ c.in-Err.ensures.told in
    record {
      told = Err c.in-Err.fault;
      exchanges = asks.exchanges;
      shells = asks.noting [];
      ends = (c.in_input.result, refl, c.in_input.ensures.fault);
      asked = asks.answered;
      valid = asks.fine;
    }
