use Rattle.mvd_meet.proofs.Stepped.{breaks_on, steps_on}
use Rattle.mvd_meet.proofs.stepping.Meeting.step.Goals as goal

pub returns-clause-steps : goal.returns-clause-steps
returns-clause-steps c =
    steps_on c.args.self.now c.hear.new.self c.ask.new.self c.args.near.now c.hear.new.near c.ask.new.near c.args.far.now c.hear.new.far c.ask.new.far c.in_ok-hear.ensures c.ask.result c.ask.ensures.asks

pub returns-clause-fails : goal.returns-clause-fails
returns-clause-fails c =
    breaks_on c.args.self.now c.hear.new.self c.ask.new.self c.args.near.now c.hear.new.near c.ask.new.near c.args.far.now c.hear.new.far c.ask.new.far c.in_ok-hear.ensures c.ask.result c.ask.ensures.part c.ask.ensures.ended
