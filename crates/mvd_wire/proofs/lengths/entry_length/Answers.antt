use Rattle.std.proofs.Common.{◌≡◌, ◌∙◌, arith, ap, length}
use Rattle.mvd_wire.proofs.Spellings.{length_entry}
use Rattle.mvd_wire.proofs.lengths.entry_length.Goals as goal

pub returns : goal.returns
returns c =
    let n : length c.as_slice-loose.result.now ≡ length c.args.entry.now.loose = ap length c.as_slice-loose.ensures.value ∙ ap (λ e. length e.loose) c.entry.view_is in
    rw (length_entry c.args.entry.now) (omega (arith, n, c.saturating_mul.ensures, c.saturating_add.ensures))
