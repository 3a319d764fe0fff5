use Rattle.std.proofs.Common.{◌∙◌, ap, length}
use Rattle.mvd_wire.specs.Codecs.{spell_state}
use Rattle.mvd_kept.proofs.Lengths.{counted_whole}
use Rattle.mvd_kept.proofs.kept.Kept.state_bytes.Goals as goal

pub returns-clause-bytes : goal.returns-clause-bytes
returns-clause-bytes c =
    counted_whole c.look.result.1.now c.state_length.result c.state_length.ensures.length c.look.ensures.kept.short
    ∙ ap (λ s. length (spell_state s)) c.look.ensures.state
