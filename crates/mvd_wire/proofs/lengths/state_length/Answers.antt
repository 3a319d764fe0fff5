use Rattle.std.proofs.Common.{◌≡◌, ◌-◌, ◌^◌, min, arith, length, subst}
use Rattle.std.specs.List.{flat_map}
use Rattle.std.specs.FinMap.{entries as pairs}
use Rattle.mvd_wire.specs.Codecs.{layout2, context_codec, spell_sibling}
use Rattle.mvd_dots.specs.Context.{AreInRange}
use Rattle.mvd_wire.proofs.Fits.{state_fits}
use Rattle.mvd_wire.proofs.Spellings.{length_state}
use Rattle.mvd_wire.proofs.lengths.state_length.Goals as goal

pub returns-clause-length : goal.returns-clause-length
returns-clause-length c =
    let e : c.siblings_length.result ≡ min (length (flat_map spell_sibling (pairs c.args.state.now.siblings))) (2 ^ 64 - 1) = rw (← c.siblings.ensures.entries) c.siblings_length.ensures.length in
    let n : c.context_length.result ≡ min (length ((context_codec layout2).spell c.args.state.now.context)) (2 ^ 64 - 1) = rw (← c.context.ensures.same) c.context_length.ensures.length in
    rw (length_state c.args.state.now) (omega (arith, n, c.saturating_add.ensures, e, c.saturating_add-2.ensures))

pub returns-clause-fits : goal.returns-clause-fits
returns-clause-fits c =
    let in_range : AreInRange c.args.state.now.context = subst AreInRange c.context.ensures.same c.context_length.ensures.in_range in
    state_fits c.args.state.now c.siblings.result.now c.siblings.ensures.entries c.siblings.ensures.parts in_range c.siblings_length.ensures.fit
