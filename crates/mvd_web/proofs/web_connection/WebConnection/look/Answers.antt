use Rattle.std.proofs.Common.{option_copied}
use Rattle.mvd_http.specs.Guard.{named_by}
use Rattle.mvd_web.specs.Inside.{web_of}
use Rattle.mvd_web.proofs.Calls.{free_desk, takes_none, takes_one}
use Rattle.mvd_web.proofs.web_connection.WebConnection.look.Goals as goal

pub advance-requires : goal.advance-requires
advance-requires c = free_desk (web_of c.args.self.now) c.requires

pub returns-then-advance : goal.returns-then-advance
returns-then-advance c =
    takes_one (option_copied c.args.passes) (named_by c.args.names.now) (web_of c.args.self.now) (web_of c.advance.new.self) (web_of c.drop_pending.new.self) c.requires c.if-advance.ensures c.drop_pending.ensures.kept c.drop_pending.ensures.all

pub returns : goal.returns
returns c =
    takes_none (option_copied c.args.passes) (named_by c.args.names.now) (web_of c.args.self.now) (web_of c.advance.new.self) (web_of c.pass_on.new.self) c.requires c.if-advance.ensures c.pass_on.ensures
