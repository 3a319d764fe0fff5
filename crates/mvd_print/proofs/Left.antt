-- The line of a key that a session left.
use Rattle.std.proofs.Common.{◌≡◌, ◌∙◌, ℕ, List, [], ◌∷◌, ◌++◌, Result, Ok, Err, ap, sym, append-nil, append_assoc}
use Rattle.std.specs.Result.{OnOk}

-- words that came one after the other
pub left_line : {E : Type 0} (r : Result (Unit {0}) E) (o a k d n o1 o2 o3 o4 o5 : List ℕ) → o1 ≡ o ++ a → o2 ≡ o1 ++ k → o3 ≡ o2 ++ 32 ∷ [] → o4 ≡ o3 ++ (d ++ 32 ∷ n) → OnOk r (o5 ≡ o4 ++ 10 ∷ []) → OnOk r (o5 ≡ o ++ (a ++ ((k ++ 32 ∷ (d ++ 32 ∷ (n ++ []))) ++ 10 ∷ [])))
left_line (Err e) o a k d n o1 o2 o3 o4 o5 p q r s t = tt
left_line (Ok done) o a k d n o1 o2 o3 o4 o5 p q r s t =
    let tail = d ++ 32 ∷ n in
    let from : o4 ≡ ((((o ++ a) ++ k) ++ 32 ∷ []) ++ tail) = s ∙ ap (λ l. l ++ tail) (r ∙ ap (λ l. l ++ 32 ∷ []) (q ∙ ap (λ l. l ++ k) p)) in
    let whole : o4 ≡ o ++ (a ++ (k ++ 32 ∷ tail)) = from ∙ append_assoc ((o ++ a) ++ k) (32 ∷ []) tail ∙ append_assoc (o ++ a) k (32 ∷ tail) ∙ append_assoc o a (k ++ 32 ∷ tail) in
    t ∙ ap (λ l. l ++ 10 ∷ []) whole ∙ append_assoc o (a ++ (k ++ 32 ∷ tail)) (10 ∷ []) ∙ ap (λ l. o ++ l) (append_assoc a (k ++ 32 ∷ tail) (10 ∷ []))
    ∙ ap (λ x. o ++ (a ++ ((k ++ 32 ∷ (d ++ 32 ∷ x)) ++ 10 ∷ []))) (sym (append-nil n))
