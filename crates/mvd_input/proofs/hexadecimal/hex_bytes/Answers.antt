use Rattle.std.proofs.Common.{◌≡◌, ◌≤◌, ◌+◌, ◌++◌, Ok, List, ℕ, Option, Some, None, Bor, length, arith, sym, subst}
use Rattle.std.specs.Option.{option_copied}
use Rattle.hex.specs.Hex.{decode_of}
use Rattle.mvd_input.specs.Hexadecimal.{SpellFew}
use Rattle.mvd_input.proofs.Lines.{takes_all}
use Rattle.mvd_input.proofs.Reading.{Reading, starts, reads_on, told}
use Rattle.mvd_input.proofs.hexadecimal.hex_bytes.Goals as goal

pub loop-rest-init : goal.loop-rest-init
loop-rest-init c = rw c.new-bytes.ensures.items (starts c.args.text.now)

pub add_line-requires : goal.add_line-requires
add_line-requires c = c.loop-rest.invariant.holds.1

pub loop-rest-preserved : goal.loop-rest-preserved
loop-rest-preserved c =
    let text = c.args.text.now in
    let lines = c.in-Some.lines.now in
    let bytes = c.loop-rest.bytes.items in
    let so_far : Reading text (Some lines) c.loop-rest.number bytes = subst (λ (r : Option (Bor (List ℕ))). Reading text (option_copied r) c.loop-rest.number bytes) c.in-Some.is c.loop-rest.invariant in
    let done : (more : List ℕ) × (decode_of c.first_line.result.0.now ≡ Ok more) × (c.add_line.new.bytes.items ≡ bytes ++ more) × (length c.add_line.new.bytes.items ≤ 32768) = c.in-Ok.ensures in
    let after = c.first_line.result.1 in
    let next = reads_on text lines c.first_line.result.0.now done.0 bytes after c.loop-rest.number so_far c.first_line.ensures.cut c.first_line.ensures.shorter done.1 (subst (λ (bs : List ℕ). length bs ≤ 32768) done.2 done.3) in
    subst (λ (bs : List ℕ). Reading text (option_copied after) (c.loop-rest.number + 1) bs) (sym done.2) next

pub returns-in-Err-clause-fault : goal.returns-in-Err-clause-fault
returns-in-Err-clause-fault c =
    let text = c.args.text.now in
    let bytes = c.loop-rest.bytes.items in
    let so_far : Reading text (Some c.in-Some.lines.now) c.loop-rest.number bytes = subst (λ (r : Option (Bor (List ℕ))). Reading text (option_copied r) c.loop-rest.number bytes) c.in-Some.is c.loop-rest.invariant in
    told text c.in-Some.lines.now c.first_line.result.0.now bytes (option_copied c.first_line.result.1) c.loop-rest.number c.in-Err.fault (omega (arith, c.if-text-gt-HEX_MAX.false)) so_far c.first_line.ensures.cut c.in-Err.ensures

pub returns-clause-joined : goal.returns-clause-joined
returns-clause-joined c =
    let so_far : Reading c.args.text.now None c.loop-rest.number c.loop-rest.bytes.items = subst (λ (r : Option (Bor (List ℕ))). Reading c.args.text.now (option_copied r) c.loop-rest.number c.loop-rest.bytes.items) c.in_default.is c.loop-rest.invariant in
    (omega (arith, c.if-text-gt-HEX_MAX.false), takes_all c.args.text.now c.loop-rest.number (λ before. SpellFew before c.loop-rest.bytes.items) so_far)
