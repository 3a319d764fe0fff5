use Rattle.std.proofs.Common.{◌≡◌, ◌++◌, ◌∙◌, Ok, Err, Result, List, ℕ, false, true, length, if◌then◌else◌, nat_le, ap, sym, le-leb, arith}
use Rattle.std.proofs.lemmas.Bool.Decides.{nat_tests}
use Rattle.mvd_dots.specs.declared.refusals.Refusal.{Refusal}
use Rattle.mvd_dots.specs.declared.refusals.Refusal.TheVariants.{StateTooLarge}
use Rattle.mvd_wire.specs.Codecs.{spell_state, state_limit}
use Rattle.mvd_wire.proofs.Spellings.{codec_is, spelled_as}
use Rattle.mvd_wire.proofs.encoding.encode_state.Goals as goal

pub returns-then-state_length-gt-STATE_LIMIT-clause-exact : goal.returns-then-state_length-gt-STATE_LIMIT-clause-exact
returns-then-state_length-gt-STATE_LIMIT-clause-exact c = λ _.
    let s = c.args.value.now in
    let counted = c.state_length.ensures.length in
    let more = c.if-state_length-gt-STATE_LIMIT.true in
    let long : nat_le (length (spell_state s)) state_limit ≡ false = grind (arith, nat_tests, counted, more) in
    spelled_as s ∙ ap (λ b. if b then Ok (spell_state s) else Err StateTooLarge) long

pub returns-clause-exact : goal.returns-clause-exact
returns-clause-exact c =
    let s = c.args.value.now in
    let bytes : c.write_state.new.out.items ≡ spell_state s = c.in_ok-write_state.ensures ∙ ap (λ l. l ++ spell_state s) c.new-out.ensures.items in
    let short : nat_le (length (spell_state s)) state_limit ≡ true = le-leb _ _ (omega (arith, c.state_length.ensures.length, c.if-state_length-gt-STATE_LIMIT.false)) in
    spelled_as s ∙ ap (λ b. if b then Ok (spell_state s) else Err StateTooLarge) short ∙ ap Ok (sym bytes)

pub returns-clause-spells : goal.returns-clause-spells
returns-clause-spells c =
    let s = c.args.value.now in (
      c.state_length.ensures.fits (omega (arith, c.state_length.ensures.length, c.if-state_length-gt-STATE_LIMIT.false)),
      c.in_ok-write_state.ensures ∙ ap (λ l. l ++ spell_state s) c.new-out.ensures.items ∙ sym (codec_is s),
    )
