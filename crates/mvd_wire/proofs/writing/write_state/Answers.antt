use Rattle.std.proofs.Common.{◌≡◌, ◌++◌, length}
use Rattle.std.specs.List.{flat_map}
use Rattle.std.specs.Int.{w16}
use Rattle.std.specs.FinMap.{entries as pairs}
use Rattle.std.proofs.lemmas.List.{length-map}
use Rattle.mvd_wire.specs.Codec.{number}
use Rattle.mvd_wire.specs.Codecs.{layout2, context_codec, spell_sibling}
use Rattle.mvd_wire.proofs.Spellings.{state_is, three}
use Rattle.mvd_wire.proofs.writing.write_state.Goals as goal

pub returns : goal.returns
returns c =
    let s = c.args.state.now in
    let k : c.write_context.new.out.items ≡ c.args.out.now.items ++ (context_codec layout2).spell s.context = rw (← c.context.ensures.same) c.in_ok-write_context.ensures.bytes in
    let e : c.write_siblings.new.out.items ≡ c.write_len16.new.out.items ++ flat_map spell_sibling (pairs s.siblings) = rw (← c.siblings-siblings.ensures.entries) c.in_ok-write_siblings.ensures in
    let n : c.write_len16.new.out.items ≡ c.write_context.new.out.items ++ (number w16).spell (length (pairs s.siblings)) = rw (← c.siblings-siblings.ensures.entries, length-map) c.in_ok-write_len16.ensures in
    rw (state_is s)
    (three c.args.out.now.items c.write_context.new.out.items c.write_len16.new.out.items c.write_siblings.new.out.items ((context_codec layout2).spell s.context) ((number w16).spell (length (pairs s.siblings))) (flat_map spell_sibling (pairs s.siblings))
    k n e)
