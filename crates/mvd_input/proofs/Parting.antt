-- A text is parted at its first space, before which stands a word, and in no other way.
use Rattle.std.proofs.Common.{◌≡◌, ◌∙◌, ◌<◌, ◌==◌, Bool, true, false, ℕ, List, [], ◌∷◌, drop, get_or, length, Option, Some, None, Bor, refl, sym, ap, subst, arith}
use Rattle.std.specs.Prelude.{IfNone, IfSome, MatchOption}
use Rattle.std.specs.List.{after_first, before_first, list_any, position_or_len}
use Rattle.std.proofs.lemmas.List.{get_or-take, length-take-le}
use Rattle.std.proofs.lemmas.List.Elements.{All-from_get_or}
use Rattle.std.proofs.lemmas.List.Folds.{list_any_none}
use Rattle.std.proofs.lemmas.List.Sums.{fails_before_first}
use Rattle.mvd_input.specs.Lines.{IsWord, spaced, with_rest}

abbrev first_space : List ℕ → ℕ
first_space text = position_or_len (λ byte. byte == 32) text

module _ (text : List ℕ) (within : first_space text < length text) where
  fails : (i : ℕ) → i < length (before_first (λ byte. byte == 32) text) → (get_or (before_first (λ byte. byte == 32) text) i 0 == 32) ≡ false
  fails i below =
      let size = length-take-le (first_space text) text (omega (arith, within)) in
      let before : i < first_space text = omega (arith, below, size) in
      ap (λ byte. byte == 32) (get_or-take (first_space text) text i 0 before) ∙ fails_before_first (λ byte. byte == 32) text i 0 before

  front_is_word : IsWord (before_first (λ byte. byte == 32) text)
  front_is_word = list_any_none (λ byte. byte == 32) (before_first (λ byte. byte == 32) text)
      (All-from_get_or (λ byte. (byte == 32) ≡ false) (before_first (λ byte. byte == 32) text) 0 fails)

pub parts_by : (text : List ℕ) (parts : Option (Bor (List ℕ) × Bor (List ℕ))) →
    MatchOption parts (first_space text ≡ length text) (λ p. (p.0.now ≡ before_first (λ byte. byte == 32) text) × (p.1.now ≡ after_first (λ byte. byte == 32) text) × (first_space text < length text)) →
    IfSome parts (λ p. IsWord p.0.now)
parts_by text None found = tt
parts_by text (Some p) found = subst IsWord (sym found.0) (front_is_word text found.2)

pub word_by : (text : List ℕ) (parts : Option (Bor (List ℕ) × Bor (List ℕ))) →
    MatchOption parts (first_space text ≡ length text) (λ p. (p.0.now ≡ before_first (λ byte. byte == 32) text) × (p.1.now ≡ after_first (λ byte. byte == 32) text) × (first_space text < length text)) →
    IfNone parts (IsWord text)
word_by text None nowhere = list_any_none (λ byte. byte == 32) text
    (All-from_get_or (λ byte. (byte == 32) ≡ false) text 0 (λ i below. fails_before_first (λ byte. byte == 32) text i 0 (omega (arith, below, nowhere))))
word_by text (Some p) found = tt

tail_on : (b : Bool) (byte : ℕ) (text : List ℕ) → (byte == 32) ≡ b → IsWord (byte ∷ text) → ((byte == 32) ≡ false) × IsWord text
tail_on true byte text is word = let here : true ≡ false = rw is at word in absurd cc
tail_on false byte text is word = let here : list_any (λ byte. byte == 32) text ≡ false = rw is at word in (is, here)

tail : (byte : ℕ) (text : List ℕ) → IsWord (byte ∷ text) → ((byte == 32) ≡ false) × IsWord text
tail byte text word = tail_on (byte == 32) byte text refl word

no_space : (byte : ℕ) (text : List ℕ) → IsWord (byte ∷ text) → byte ≡ 32 → ⊥
no_space byte text word is = let here : (32 == 32) ≡ false = subst (λ (b : ℕ). (b == 32) ≡ false) is (tail byte text word).0 in absurd cc

parting : (a b c d : List ℕ) → IsWord a → IsWord c → spaced a b ≡ spaced c d → (a ≡ c) × (b ≡ d)
parting [] b [] d first second same = (refl, ap (λ (t : List ℕ). drop 1 t) same)
parting [] b (y ∷ c) d first second same = absurd (no_space y c second (sym (ap (λ (t : List ℕ). get_or t 0 0) same)))
parting (x ∷ a) b [] d first second same = absurd (no_space x a first (ap (λ (t : List ℕ). get_or t 0 0) same))
parting (x ∷ a) b (y ∷ c) d first second same =
    let head : x ≡ y = ap (λ (t : List ℕ). get_or t 0 0) same in
    let rest = parting a b c d (tail x a first).1 (tail y c second).1 (ap (λ (t : List ℕ). drop 1 t) same) in
    (rw (head, rest.0) refl, rest.1)

-- a text is parted in one way
pub one_parting : (text a b c d : List ℕ) → text ≡ spaced a b → IsWord a → text ≡ spaced c d → IsWord c → (a ≡ c) × (b ≡ d)
one_parting text a b c d one first other second = parting a b c d first second (sym one ∙ other)

pub spaced_is_no_word : (a b : List ℕ) → IsWord (spaced a b) → ⊥
spaced_is_no_word [] b word = no_space 32 b word refl
spaced_is_no_word (x ∷ a) b word = spaced_is_no_word a b (tail x (spaced a b) word).1

-- nor into a word and what stands behind it, where something does
pub one_resting : (a c : List ℕ) (b d : Option (List ℕ)) → with_rest a b ≡ with_rest c d → IsWord a → IsWord c → (a ≡ c) × (b ≡ d)
one_resting a c None None same first second = (same, refl)
one_resting a c None (Some d) same first second = absurd (spaced_is_no_word c d (subst IsWord same first))
one_resting a c (Some b) None same first second = absurd (spaced_is_no_word a b (subst IsWord (sym same) second))
one_resting a c (Some b) (Some d) same first second = let one = parting a b c d first second same in (one.0, ap Some one.1)
