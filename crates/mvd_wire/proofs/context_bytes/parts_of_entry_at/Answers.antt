use Rattle.std.proofs.Common.{◌≡◌, true, rules, arith, ltb, leb}
use Rattle.std.proofs.lemmas.Bool.{le-leb, lt-ltb}
use Rattle.mvd_dots.specs.declared.dots.TheConstants.{COUNTER_MAX}
use Rattle.mvd_wire.specs.Codecs.{entry, loose_above}
use Rattle.mvd_wire.proofs.context_bytes.parts_of_entry_at.Goals as goal

pub returns : goal.returns
unfolding entry loose_above
returns c =
    let above : ltb c.args.previous c.in_ok-site.site ≡ true = lt-ltb _ _ (omega arith) in
    let low : leb c.in_ok-base.base COUNTER_MAX ≡ true = le-leb _ _ (omega arith) in
    rw (c.in_ok-site.ensures, above, c.in_ok-base.ensures, low, c.in_ok-count.ensures, c.in_ok-loose.ensures) (search rules)
