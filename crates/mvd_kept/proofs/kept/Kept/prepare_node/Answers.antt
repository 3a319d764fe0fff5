use Rattle.std.proofs.Common.{refl, sym, ◌∙◌, subst}
use Rattle.mvd_wire.specs.Replies.{CanBeSent}
use Rattle.mvd_wire.specs.declared.reply.Reply.TheVariants.{Digests as Told}
use Rattle.mvd_kept.specs.Answer.{digests}
use Rattle.mvd_kept.proofs.Digested.{node_can_be_sent, node_told}
use Rattle.mvd_kept.proofs.kept.Kept.prepare_node.Goals as goal

pub returns-clause-ready : goal.returns-clause-ready
returns-clause-ready c =
    let held = digests c.args.self.now.states in
    record {
      accepts = refl;
      fits = subst (λ d. CanBeSent (Told d)) (sym (node_told c.args.self.now.broken held c.args.path.now c.in_ok-digests.digests c.requires (sym c.in_ok-digests.was ∙ c.node.ensures)))
          (node_can_be_sent held c.args.path.now);
    }
