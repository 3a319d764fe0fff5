use Rattle.mvd_app_tests.proofs.at_hand.sync_at_hand.Goals as goal

pub returns : goal.returns
returns g c = λ true. c.sync_run.ensures.meets (λ fresh given. given) true
