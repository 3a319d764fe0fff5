-- The lines of hexadecimal digits that were read, and the bytes that they spell.
use Rattle.std.proofs.Common.{◌≡◌, ℕ, List, [], ◌∷◌, ◌++◌, ◌+◌, ◌<◌, ◌≤◌, Option, Some, Ok, IfSome, Bor, ◌⊎◌, inl, inr, length, refl, sym, ap, ◌∙◌, subst, arith, append_assoc}
use Rattle.std.specs.Option.{option_copied}
use Rattle.std.proofs.lemmas.List.{append-nil}
use Rattle.mvd_dots.specs.declared.refusals.Refusal.TheVariants.{Memory, FrameTooLong}
use Rattle.mvd_input.specs.declared.fault.Fault.{Fault}
use Rattle.mvd_input.specs.declared.fault.Fault.TheVariants.{Stopped, Line}
use Rattle.mvd_input.specs.Hexadecimal.{lines_of, lines_after, Spell, SpellFew, FailsAt, HasFault, IsNoHexadecimal, SpellsTooMany}
use Rattle.mvd_input.proofs.Lines.{Taking, takes_next, takes_none, takes_on}
use Rattle.hex.specs.Hex.{decode_of}

spell_more : (lines : List (List ℕ)) (bytes : List ℕ) (line more : List ℕ) → Spell lines bytes → decode_of line ≡ Ok more → Spell (lines ++ line ∷ []) (bytes ++ more)
unfolding Spell
spell_more [] bytes line more p q = (more, [], q, refl, ap (λ (l : List ℕ). l ++ more) p ∙ sym (append-nil more))
spell_more (first ∷ lines) bytes line more (front, rest, decodes, others, is) q =
    (front, rest ++ more, decodes, spell_more lines rest line more others q, ap (λ (l : List ℕ). l ++ more) is ∙ append_assoc front rest more)

-- of a text, so many lines were read, which spell these bytes
abbrev pub Reading : List ℕ → Option (List ℕ) → ℕ → List ℕ → Type 0
Reading text rest number bytes = Taking text rest number (λ before. SpellFew before bytes)

pub starts : (text : List ℕ) → Reading text (Some text) 0 []
unfolding Spell
starts text = takes_none text (λ before. SpellFew before []) (refl, omega arith)

pub reads_on : (text lines line more bytes : List ℕ) (after : Option (Bor (List ℕ))) (number : ℕ) → Reading text (Some lines) number bytes → lines_of lines ≡ line ∷ lines_after (option_copied after) → IfSome after (λ a. length a.now < length lines)
    → decode_of line ≡ Ok more → length (bytes ++ more) ≤ 32768 → Reading text (option_copied after) (number + 1) (bytes ++ more)
reads_on text lines line more bytes after number so_far cut shorter decodes fit =
    takes_on text lines line after number (λ before. SpellFew before bytes) (λ before. SpellFew before (bytes ++ more)) so_far cut shorter (λ before few. (spell_more before bytes line more few.0 decodes, fit))

fails : (text lines line bytes : List ℕ) (after : Option (List ℕ)) (number : ℕ) (IsAtFault : List ℕ → List ℕ → Type 0) → Reading text (Some lines) number bytes → lines_of lines ≡ line ∷ lines_after after → IsAtFault line bytes → FailsAt (lines_of text) (number + 1) IsAtFault
fails text lines line bytes after number IsAtFault so_far cut fault =
    let (before, others, is, counted, few) = takes_next text lines line after number (λ before. SpellFew before bytes) so_far cut in
    (before, line, others, bytes, is, counted, few, fault)

pub told : (text lines line bytes : List ℕ) (after : Option (List ℕ)) (number : ℕ) (fault : Fault) → length text ≤ 131072 → Reading text (Some lines) number bytes → lines_of lines ≡ line ∷ lines_after after
    → (fault ≡ Stopped Memory) ⊎ (((fault ≡ Line (number + 1)) × IsNoHexadecimal line) ⊎ ((fault ≡ Stopped FrameTooLong) × SpellsTooMany line bytes)) → HasFault text fault
told text lines line bytes after number fault few so_far cut (inl is) = subst (HasFault text) (sym is) (inl refl)
told text lines line bytes after number fault few so_far cut (inr (inl (is, bad))) = subst (HasFault text) (sym is) (few, fails text lines line bytes after number (λ line _. IsNoHexadecimal line) so_far cut bad)
told text lines line bytes after number fault few so_far cut (inr (inr (is, many))) = subst (HasFault text) (sym is) (inr (refl, inr (number + 1, fails text lines line bytes after number SpellsTooMany so_far cut many)))
