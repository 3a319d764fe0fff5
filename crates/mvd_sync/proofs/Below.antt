-- Paths below a path, and what equal digests mean there.
use Rattle.std.proofs.Common.{◌≡◌, ℕ, zero, suc, ◌<◌, List, [], ◌∷◌, ◌++◌, length, get_or, refl, ap, ◌∙◌, arith}
use Rattle.mvd_tree.specs.HashTree.{KeyDigests, digits, node_digest}
use Rattle.std.proofs.lemmas.List.{get_or-map}
use Rattle.mvd_tree.specs.Page.{children_digests}

-- ---- the digests of children

pub digit_at : (d : ℕ) → d < 16 → get_or digits d 0 ≡ d
unfolding digits
digit_at zero h = refl
digit_at (suc zero) h = refl
digit_at (suc (suc zero)) h = refl
digit_at (suc (suc (suc zero))) h = refl
digit_at (suc (suc (suc (suc zero)))) h = refl
digit_at (suc (suc (suc (suc (suc zero))))) h = refl
digit_at (suc (suc (suc (suc (suc (suc zero)))))) h = refl
digit_at (suc (suc (suc (suc (suc (suc (suc zero))))))) h = refl
digit_at (suc (suc (suc (suc (suc (suc (suc (suc zero)))))))) h = refl
digit_at (suc (suc (suc (suc (suc (suc (suc (suc (suc zero))))))))) h = refl
digit_at (suc (suc (suc (suc (suc (suc (suc (suc (suc (suc zero)))))))))) h = refl
digit_at (suc (suc (suc (suc (suc (suc (suc (suc (suc (suc (suc zero))))))))))) h = refl
digit_at (suc (suc (suc (suc (suc (suc (suc (suc (suc (suc (suc (suc zero)))))))))))) h = refl
digit_at (suc (suc (suc (suc (suc (suc (suc (suc (suc (suc (suc (suc (suc zero))))))))))))) h = refl
digit_at (suc (suc (suc (suc (suc (suc (suc (suc (suc (suc (suc (suc (suc (suc zero)))))))))))))) h = refl
digit_at (suc (suc (suc (suc (suc (suc (suc (suc (suc (suc (suc (suc (suc (suc (suc zero))))))))))))))) h = refl
digit_at (suc (suc (suc (suc (suc (suc (suc (suc (suc (suc (suc (suc (suc (suc (suc (suc d)))))))))))))))) h = absurd (omega arith)

pub sixteen_digits : length digits ≡ 16
unfolding digits
sixteen_digits = refl

-- the digest of a child, as its parent's answer has it
pub child_digest : (held : KeyDigests) (path : List ℕ) (d : ℕ) → d < 16 → (xs : List (List ℕ)) → xs ≡ children_digests held path → get_or xs d [] ≡ node_digest held (path ++ d ∷ [])
child_digest held path d h xs e =
    let n = sixteen_digits in
    ap (λ ys. get_or ys d []) e ∙ get_or-map (λ d. node_digest held (path ++ d ∷ [])) digits d 0 [] (omega (arith, n)) ∙ ap (λ d. node_digest held (path ++ d ∷ [])) (digit_at d h)
