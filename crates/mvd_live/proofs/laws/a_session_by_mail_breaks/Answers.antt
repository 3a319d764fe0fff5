use Rattle.mvd_live.proofs.Broken.{breaks_few, breaks_given, fails_so}
use Rattle.mvd_live.proofs.laws.a_session_by_mail_breaks.Goals as goal

pub returns : goal.returns
returns c = record {
  fails = λ most old mail meeting local peer fault began fails live. fails_so most old mail meeting local peer fault live began fails;
  given = λ number questions most begun first last now new legs fault sits steps breaks. breaks_given number questions most begun first last now new legs fault sits steps breaks;
  few = λ number questions most begun first last now new legs fault differed sits steps breaks among. breaks_few number questions most begun first last now new legs fault sits steps breaks differed among;
}
