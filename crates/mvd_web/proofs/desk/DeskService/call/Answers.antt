use Rattle.std.proofs.Common.{refl, sym}
use Rattle.mvd_web.proofs.Calls.{none_kept}
use Rattle.mvd_web.proofs.desk.DeskService.call.Goals as goal

pub returns-clause-ok : goal.returns-clause-ok
returns-clause-ok c = record {
  none = none_kept c.args.self.now.asked (sym c.if-is_some.ensures);
  asked = c.in_ok-asked.asked;
  kept = refl;
  asks = c.in_ok-asked.ensures;
  passes = refl;
  names = refl;
  plain = record { status = refl; headers = c.requires.headers; body = c.requires.body };
}
