use Rattle.mvd_app.proofs.opening.unopened.Goals as goal

pub returns-in-Records : goal.returns-in-Records
returns-in-Records g c = rw c.in-Records.is (
  c.refused_in-stop.new.conn,
  record {
    reads = c.refused_in-stop.ensures.reads;
    either = c.refused_in-stop.ensures.either;
    foreign = c.refused_in-stop.ensures.foreign;
    ours = c.refused_in-stop.ensures.ours;
  },
)
