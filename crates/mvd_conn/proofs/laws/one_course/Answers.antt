use Rattle.mvd_conn.proofs.CourseLemmas.{one_way}
use Rattle.mvd_conn.proofs.laws.one_course.Goals as goal

pub returns : goal.returns
returns c = one_way
