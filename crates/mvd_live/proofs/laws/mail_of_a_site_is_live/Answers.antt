use Rattle.mvd_live.proofs.Replied.{live_mail, none_mailed, turns_among}
use Rattle.mvd_live.proofs.laws.mail_of_a_site_is_live.Goals as goal

pub returns : goal.returns
returns c = record {
  answered = λ window caller config. live_mail config window caller;
  unasked = none_mailed;
  turns = turns_among;
}
