use Rattle.mvd_client.proofs.between.+meet.Given as goal

abbrev pub decreases-meet : goal.decreases-meet
decreases-meet g l = l.most
