-- The lines of a text, one after the other.
use Rattle.std.proofs.Common.{◌≡◌, ℕ, List, [], ◌∷◌, ◌++◌, ◌+◌, ◌<◌, ◌≤◌, ◌==◌, Bool, true, false, Option, Some, None, IfSome, Bor, length, take, drop, refl, sym, ap, ◌∙◌, subst, arith, suc, append_assoc, nat_lt, cond, ltb-true}
use Rattle.std.specs.List.{position_or_len}
use Rattle.std.specs.Option.{option_copied}
use Rattle.std.proofs.lemmas.Bool.{ltb-false}
use Rattle.std.proofs.lemmas.List.{append-nil, length-append}
use Rattle.mvd_input.specs.Hexadecimal.{lines_of, onto_first, lines_after}

-- where the first line feed stands, or the length
abbrev pub feed_in : List ℕ → ℕ
feed_in text = position_or_len (λ byte. byte == 10) text

-- a text is its first line, and the lines behind the first line feed
abbrev IsCut : List ℕ → Type 0
IsCut text = (feed_in text < length text → lines_of text ≡ take (feed_in text) text ∷ lines_of (drop (feed_in text + 1) text)) × (length text ≤ feed_in text → lines_of text ≡ text ∷ [])

is_cut_on : (b : Bool) (byte : ℕ) (bytes : List ℕ) → (byte == 10) ≡ b → IsCut bytes → IsCut (byte ∷ bytes)
unfolding lines_of onto_first
is_cut_on true byte bytes e ih =
    let zero : feed_in (byte ∷ bytes) ≡ 0 = rw e refl in
    (λ p. rw e refl, λ p. absurd (omega (arith, p, zero)))
is_cut_on false byte bytes e ih =
    let more : feed_in (byte ∷ bytes) ≡ suc (feed_in bytes) = rw e (omega arith) in
    let cut : suc (feed_in bytes) + 1 ≡ suc (feed_in bytes + 1) = omega arith in (
      λ p. let here = ih.0 (omega (arith, p, more)) in rw (more, cut, e, here) refl,
      λ p. let here = ih.1 (omega (arith, p, more)) in rw (e, here) refl,
    )

pub is_cut : (text : List ℕ) → IsCut text
unfolding lines_of
is_cut [] = (λ p. absurd (omega arith), λ p. refl)
is_cut (byte ∷ bytes) = is_cut_on (byte == 10) byte bytes refl (is_cut bytes)

-- where the first line feed stands, if there is one
abbrev feed_at : List ℕ → Option ℕ
feed_at text = cond (nat_lt (feed_in text) (length text)) (Some (feed_in text)) None

at_on : (b : Bool) (text : List ℕ) (at : ℕ) → nat_lt (feed_in text) (length text) ≡ b → feed_at text ≡ Some at → lines_of text ≡ take at text ∷ lines_of (drop (at + 1) text)
at_on true text at e h =
    let here : Some (feed_in text) ≡ Some at = rw e at h in
    let same : feed_in text ≡ at = cc in
    let lt : feed_in text < length text = ltb-true (feed_in text) (length text) e in
    subst (λ (n : ℕ). lines_of text ≡ take n text ∷ lines_of (drop (n + 1) text)) same ((is_cut text).0 lt)
at_on false text at e h = let here : None ≡ Some at = rw e at h in absurd cc

pub cut_at : (text : List ℕ) (at : ℕ) → feed_at text ≡ Some at → lines_of text ≡ take at text ∷ lines_of (drop (at + 1) text)
cut_at text at h = at_on (nat_lt (feed_in text) (length text)) text at refl h

nowhere_on : (b : Bool) (text : List ℕ) → nat_lt (feed_in text) (length text) ≡ b → feed_at text ≡ None → lines_of text ≡ text ∷ []
nowhere_on true text e h = let here : Some (feed_in text) ≡ None = rw e at h in absurd cc
nowhere_on false text e h = (is_cut text).1 (ltb-false (feed_in text) (length text) e)

pub cut_nowhere : (text : List ℕ) → feed_at text ≡ None → lines_of text ≡ text ∷ []
cut_nowhere text h = nowhere_on (nat_lt (feed_in text) (length text)) text refl h

-- how much of a text is left, its line feeds counted
abbrev pub left : Option (List ℕ) → ℕ
left None = 0
left (Some text) = suc (length text)

-- of a text, so many lines were taken, of which this holds
pub record Taking (text : List ℕ) (rest : Option (List ℕ)) (number : ℕ) (Holds : List (List ℕ) → Type 0) : Type 0 where
  pub before : List (List ℕ)
  pub lines : lines_of text ≡ before ++ lines_after rest
  pub counted : number ≡ length before
  pub holds : Holds before
  pub room : number + left rest ≤ suc (length text)

pub takes_none : (text : List ℕ) (Holds : List (List ℕ) → Type 0) → Holds [] → Taking text (Some text) 0 Holds
unfolding lines_after
takes_none text Holds none = record { before = []; lines = refl; counted = refl; holds = none; room = omega arith }

fits : (after : Option (Bor (List ℕ))) (lines : List ℕ) (number size : ℕ) → IfSome after (λ text. length text.now < length lines) → number + left (Some lines) ≤ size → number + 1 + left (option_copied after) ≤ size
fits None lines number size p room = omega (arith, room)
fits (Some after) lines number size p room = omega (arith, p, room)

pub takes_on : (text lines line : List ℕ) (after : Option (Bor (List ℕ))) (number : ℕ) (Holds More : List (List ℕ) → Type 0) → Taking text (Some lines) number Holds → lines_of lines ≡ line ∷ lines_after (option_copied after)
    → IfSome after (λ a. length a.now < length lines) → ((before : List (List ℕ)) → Holds before → More (before ++ line ∷ [])) → Taking text (option_copied after) (number + 1) More
unfolding lines_after
takes_on text lines line after number Holds More so_far cut shorter more = record {
  before = so_far.before ++ line ∷ [];
  lines = so_far.lines ∙ ap (λ (ls : List (List ℕ)). so_far.before ++ ls) cut ∙ sym (append_assoc so_far.before (line ∷ []) (lines_after (option_copied after)));
  counted = omega (arith, so_far.counted, length-append so_far.before (line ∷ []));
  holds = more so_far.before so_far.holds;
  room = fits after lines number (suc (length text)) shorter so_far.room;
}

-- the line that is taken next
abbrev pub IsNext : List ℕ → ℕ → List ℕ → (List (List ℕ) → Type 0) → Type 0
IsNext text number line Holds = (before : List (List ℕ)) × (after : List (List ℕ)) × (lines_of text ≡ before ++ line ∷ after) × (number ≡ length before + 1) × Holds before

pub takes_next : (text lines line : List ℕ) (after : Option (List ℕ)) (number : ℕ) (Holds : List (List ℕ) → Type 0) → Taking text (Some lines) number Holds → lines_of lines ≡ line ∷ lines_after after → IsNext text (number + 1) line Holds
unfolding lines_after
takes_next text lines line after number Holds so_far cut =
    (so_far.before, lines_after after, so_far.lines ∙ ap (λ (ls : List (List ℕ)). so_far.before ++ ls) cut, ap (λ (n : ℕ). n + 1) so_far.counted, so_far.holds)

pub takes_all : (text : List ℕ) (number : ℕ) (Holds : List (List ℕ) → Type 0) → Taking text None number Holds → Holds (lines_of text)
unfolding lines_after
takes_all text number Holds so_far = subst Holds (sym (so_far.lines ∙ append-nil so_far.before)) so_far.holds
