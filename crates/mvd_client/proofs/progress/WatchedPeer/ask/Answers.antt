use Rattle.std.proofs.Common.{refl, subst, sym}
use Rattle.std.specs.Prelude.{Some}
use Rattle.mvd_peer.specs.Asking.{asked}
use Rattle.mvd_peer.specs.PeerSides.{side_of}
use Rattle.mvd_peer.specs.Saying.{SideSays}
use Rattle.mvd_client.proofs.Watching.{says_within}
use Rattle.mvd_client.proofs.progress.WatchedPeer.ask.Goals as goal

pub returns-clause-says : goal.returns-clause-says
returns-clause-says g c =
    let within = subst (SideSays (side_of g.P.Peer) (asked (Some c.args.window.now)) (Some c.ask-told.result) c.args.self.now.side) (sym c.count.ensures) c.ask-told.ensures.says in
    says_within (λ w. w.side) (λ w s. record { side = s; moved = w.moved; told = w.told }) (λ _ _. refl) (side_of g.P.Peer) (asked (Some c.args.window.now)) c.ask-told.result c.args.self.now c.count.new.self within
