-- What is printed of a session is three texts, one after the other.
use Rattle.std.proofs.Common.{◌≡◌, ◌∙◌, ℕ, List, ◌++◌, OnOk, Result, Ok, Err, ap, append_assoc}

pub added_thrice : {A E : Type 0} (r : Result A E) (old mid end new first then last : List ℕ) → mid ≡ old ++ first → end ≡ mid ++ then → OnOk r (new ≡ end ++ last) → OnOk r (new ≡ old ++ (first ++ (then ++ last)))
added_thrice (Ok done) old mid end new first then last p q is =
    is ∙ ap (λ (t : List ℕ). t ++ last) (q ∙ ap (λ (t : List ℕ). t ++ then) p) ∙ append_assoc (old ++ first) then last ∙ append_assoc old first (then ++ last)
added_thrice (Err e) old mid end new first then last p q is = tt
