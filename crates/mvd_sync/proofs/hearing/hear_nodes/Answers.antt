use Rattle.std.proofs.Common.{List, ap, length, refl, subst, ◌∙◌}
use Rattle.mvd_sync.specs.Level.{GoesDown}
use Rattle.mvd_sync.specs.Machines.{both, of_local, of_peer}
use Rattle.mvd_sync.specs.Tellings.{IsNoNode, IsNodeOf, nodes_told}
use Rattle.mvd_sync.specs.declared.asking.Node.{Node}
use Rattle.mvd_sync.specs.declared.report.SyncFault.TheVariants.{Local}
use Rattle.mvd_sync.proofs.Stepping.{read_long}
use Rattle.mvd_sync.proofs.hearing.hear_nodes.Goals as goal

pub returns-in-Err : goal.returns-in-Err
returns-in-Err c = of_local c.in-Err.refusal c.in-Err.ensures refl

pub returns-in-Err-read_nodes : goal.returns-in-Err-read_nodes
returns-in-Err-read_nodes c = of_peer c.in-Ok.nodes c.in-Err-read_nodes.refusal c.in-Ok.ensures c.in-Err-read_nodes.ensures refl

pub take-requires-clause-mine : goal.take-requires-clause-mine
take-requires-clause-mine c = ap length c.deref.ensures.value ∙ read_long IsNodeOf IsNoNode (nodes_told c.args.answers.mine) c.args.shares.local c.in-Ok.nodes c.in-Ok.ensures c.requires.local_most ∙ c.requires.local

pub take-requires-clause-theirs : goal.take-requires-clause-theirs
take-requires-clause-theirs c = ap length c.deref-2.ensures.value ∙ read_long IsNodeOf IsNoNode (nodes_told c.args.answers.theirs) c.args.shares.peer c.in-Ok-read_nodes.nodes c.in-Ok-read_nodes.ensures c.requires.peer_most ∙ c.requires.peer

pub returns-in-Ok-take : goal.returns-in-Ok-take
returns-in-Ok-take c =
    let at = c.args.descent in
    let goes = subst (λ (ms : List Node). GoesDown at ms c.in-Ok-read_nodes.nodes.items c.take.new.self) c.deref.ensures.value
    (subst (λ (ts : List Node). GoesDown at c.deref.result.now ts c.take.new.self) c.deref-2.ensures.value c.in-Ok-take.ensures.goes) in
    both c.in-Ok.nodes c.in-Ok-read_nodes.nodes c.in-Ok.ensures c.in-Ok-read_nodes.ensures (c.take.new.self, goes, refl)

pub returns : goal.returns
returns c = both c.in-Ok.nodes c.in-Ok-read_nodes.nodes c.in-Ok.ensures c.in-Ok-read_nodes.ensures (ap Local c.in-Err-take.ensures.memory)
