use Rattle.std.proofs.Common.{None, option_copied, refl, subst, sym}
use Rattle.mvd_http.specs.Guard.{named_by}
use Rattle.mvd_web.specs.Inside.{web_of}
use Rattle.mvd_web.specs.Steps.{ReadsOn}
use Rattle.mvd_web.specs.declared.desk.Desk.{Desk}
use Rattle.mvd_web.proofs.Calls.{reads}
use Rattle.mvd_web.proofs.web_connection.WebConnection.advance.Goals as goal

pub returns : goal.returns
returns c =
    let old = web_of c.args.self.now in
    let new = web_of (record (c.args.self.now) { parser = c.advance.new.self; asked = c.swap.new.x }) in
    let kept = c.advance.ensures in
    let before : Desk = record { alloc = c.args.self.now.alloc; passes = c.args.passes; names = c.args.names; asked = None; spare = None } in
    subst (λ b. ReadsOn (option_copied c.args.passes) (named_by c.args.names.now) old b new) (sym c.is_some.ensures)
    (reads before c.advance.new.service old new kept.calls c.requires c.swap.ensures.x_after refl (record {
      stays = record { config = kept.config; received = kept.quiet.0; ended = kept.quiet.1 };
      sent = kept.quiet.2;
      waits = refl;
      stopped = refl;
    }) kept.rests)
