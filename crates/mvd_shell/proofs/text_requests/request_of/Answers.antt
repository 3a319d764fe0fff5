use Rattle.mvd_shell.proofs.Talking.{asks_delete, asks_put, asks_question}
use Rattle.mvd_shell.proofs.text_requests.request_of.Goals as goal

pub returns-in_default : goal.returns-in_default
returns-in_default g c = asks_question g.A.Endpoint.answers c.args.asked.now c.args.ask c.question_of.result c.question_of.ensures c.in_default.not-Put c.in_default.not-Delete

pub returns-in-Put : goal.returns-in-Put
returns-in-Put g c = asks_put g.A.Endpoint.answers c.args.asked.now c.put_in.new.asked c.args.ask c.in-Put.key c.in-Put.context c.in-Put.document c.put_in.result c.in-Put.is c.put_in.ensures

pub returns-in-Delete : goal.returns-in-Delete
returns-in-Delete g c = asks_delete g.A.Endpoint.answers c.args.asked.now c.delete_in.new.asked c.args.ask c.in-Delete.key c.in-Delete.context c.delete_in.result c.in-Delete.is c.delete_in.ensures
