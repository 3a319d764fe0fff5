use Rattle.std.proofs.Common.{ℕ, List, ◌++◌, ap, ◌∙◌}
use Rattle.mvd_wire.specs.Codecs.{key}
use Rattle.mvd_wire.proofs.Fits.{key_fits}
use Rattle.mvd_wire.proofs.encoding.encode_key.Goals as goal

pub returns-clause-spells : goal.returns-clause-spells
returns-clause-spells c = (key_fits c.args.value.now c.in_ok-write_key.ensures.key, c.in_ok-write_key.ensures.bytes ∙ ap (λ (t : List ℕ). t ++ key.spell c.args.value.now) c.new-out.ensures.items)
