use Rattle.std.proofs.Common.{rules, ◌≡◌, ◌++◌, ap, length, refl, sym, ◌∙◌, subst}
use Rattle.mvd_wire.specs.Codecs.{key as spelled_key, spell_state}
use Rattle.mvd_wire.proofs.Forms.{form_of}
use Rattle.mvd_kept.specs.Change.{SpellsChange}
use Rattle.mvd_kept.proofs.Digested.{behind}
use Rattle.mvd_kept.proofs.prepared.spelled_key_state.Goals as goal

pub returns-clause-spells : goal.returns-clause-spells
returns-clause-spells c =
    let key = c.args.key.now in
    let state = c.args.state.now in
    let written = c.write_key.new.out.items in
    let first : written ≡ spelled_key.spell key = c.in_ok-write_key.ensures.bytes ∙ ap (λ l. l ++ spelled_key.spell key) c.in_ok-bytes.ensures.items in
    let sized : c.len-key_length.result ≡ length written = search rules in
    subst (λ n. SpellsChange key state n c.write_state.new.out.items) (sym sized)
    (behind key state written (spell_state state) c.write_state.new.out.items first refl c.in_ok-write_state.ensures (form_of state (c.state_length-length.ensures.fits c.requires)) c.requires)
