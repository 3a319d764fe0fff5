use Rattle.std.proofs.Common.{◌∙◌, arith}
use Rattle.mvd_host.proofs.Orders.{lays_joined, lengths_are, ok_is}
use Rattle.mvd_host.proofs.arranging.Lanes.joined.Goals as goal

pub returns : goal.returns
returns c asked lays =
    let lengths = lengths_are c.requires.room.0 c.args.self c.requires.room.1 in
    let room = c.requires.room.2 in
    lays_joined asked c.args.self _ _
    (c.append.ensures.items ∙ ok_is _ _ _ (c.append.ensures.succeeds (omega (arith, lengths.0, room.first_clients, c.args.self.leading_clients.ok.0, c.args.self.later_clients.ok.0))))
    (c.append-2.ensures.items ∙ ok_is _ _ _ (c.append-2.ensures.succeeds (omega (arith, lengths.1, room.first_requests, c.args.self.leading.ok.0, c.args.self.later.ok.0))))
    lays
