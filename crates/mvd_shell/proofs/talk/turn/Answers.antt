use Rattle.mvd_shell.proofs.talk.turn.Goals as goal

pub returns : goal.returns
returns g c = record { reply = c.ask-reply.result; answers = c.ask-reply.ensures; tells = c.tell-told.ensures }
