use Rattle.mvd_live.proofs.Mailed.{mail_few, mail_given, mail_lives}
use Rattle.mvd_live.proofs.Sent.{counts_sent}
use Rattle.mvd_live.proofs.laws.a_session_by_mail_lives.Goals as goal

pub returns : goal.returns
returns c = record {
  lives = λ number questions most begun first last now new legs sits meets ends. mail_lives most number questions begun first now legs sits meets last new ends;
  given = λ number questions most begun first now legs sits meets. mail_given most number questions begun first now legs sits meets;
  few = λ number questions most begun first now legs differed sits meets all. mail_few most number questions begun first now legs sits meets differed all;
  counted = λ number questions most. counts_sent most number questions;
}
