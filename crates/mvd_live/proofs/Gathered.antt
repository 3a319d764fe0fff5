-- What was held at the moments of a session, with one step more.
use Rattle.std.proofs.Common.{◌≡◌, List, [], ◌∷◌, ◌++◌, ◌∙◌, ap, append-nil, append_assoc, flat_map, sym}
use Rattle.std.proofs.lemmas.Grind.{flat_map-append}
use Rattle.mvd_site.specs.Held.{States}

module _ {L : Type 0} (held : L → List States) where
  pub one_last : (steps : List L) (last : L) → flat_map held (steps ++ last ∷ []) ≡ flat_map held steps ++ held last
  one_last steps last = flat_map-append held steps (last ∷ []) ∙ ap (λ (ms : List States). flat_map held steps ++ ms) (append-nil (held last))

  pub one_between : (steps : List L) (next : L) (later : List L) → flat_map held (steps ++ next ∷ []) ++ flat_map held later ≡ flat_map held steps ++ flat_map held (next ∷ later)
  one_between steps next later = sym (flat_map-append held (steps ++ next ∷ []) later) ∙ ap (λ (all : List L). flat_map held all) (append_assoc steps (next ∷ []) later) ∙ flat_map-append held steps (next ∷ later)
