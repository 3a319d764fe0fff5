use Rattle.std.proofs.Common.{◌<◌, arith}
use Rattle.mvd_dots.specs.Entry.{IsEntry}
use Rattle.mvd_wire.specs.Codecs.{entry, layout_of}
use Rattle.mvd_wire.proofs.Laws.{is_read}
use Rattle.mvd_wire.proofs.CodecLaws.{wide_layout_of, lawful_entry}
use Rattle.mvd_wire.proofs.Entries.{entry_form}
use Rattle.mvd_wire.proofs.context_bytes.entry_at.Goals as goal

pub returns-clause-above : goal.returns-clause-above
returns-clause-above c =
    let v = layout_of c.args.version in
    let wide = wide_layout_of c.args.version in
    is_read (entry v c.args.previous) (lawful_entry v wide c.args.previous) c.args.bytes.now (λ i. omega (arith, c.type_inv.bytes i)) (λ z. z.0) (λ z. z.1.now) (λ z. c.args.previous < z.0.site) (λ z fits. (entry_form v c.args.previous z.0 wide.narrow fits).0) c.parts_of_entry_at.result c.parts_of_entry_at.ensures

pub returns-clause-form : goal.returns-clause-form
returns-clause-form c =
    let v = layout_of c.args.version in
    let wide = wide_layout_of c.args.version in
    is_read (entry v c.args.previous) (lawful_entry v wide c.args.previous) c.args.bytes.now (λ i. omega (arith, c.type_inv.bytes i)) (λ z. z.0) (λ z. z.1.now) (λ z. IsEntry z.0) (λ z fits. (entry_form v c.args.previous z.0 wide.narrow fits).1) c.parts_of_entry_at.result c.parts_of_entry_at.ensures
