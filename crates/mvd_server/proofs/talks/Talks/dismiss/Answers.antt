use Rattle.std.proofs.Common.{ap, ◌∙◌}
use Rattle.std.specs.BTreeMap.{is_at}
use Rattle.std.specs.Map.{remove_entry}
use Rattle.std.specs.Ordering.{nat_cmp}
use Rattle.mvd_server.specs.Talking.{Goes, talking_of}
use Rattle.mvd_server.proofs.Deeds.{deeds_one}
use Rattle.mvd_server.proofs.Leaving.{gone_by}
use Rattle.mvd_server.proofs.talks.Talks.dismiss.Goals as goal

pub returns-clause-deeds : goal.returns-clause-deeds
returns-clause-deeds c = λ may.
    let old = talking_of c.args.self.now in
    deeds_one (Goes c.args.number) old _ (λ site. tt) (may, c.dismiss.ensures.leaves, ap (λ e. record old { host = c.dismiss.new.self; webs = e; batches = c.remove-2.new.self.entries }) c.remove.ensures.entries ∙ ap (λ e. record old { host = c.dismiss.new.self; webs = remove_entry (is_at (nat_cmp c.args.number)) old.webs; batches = e }) c.remove-2.ensures.entries)

pub returns-clause-gone : goal.returns-clause-gone
returns-clause-gone c = gone_by c.args.number (talking_of c.args.self.now) _ c.dismiss.ensures.leaves c.remove.ensures.entries
