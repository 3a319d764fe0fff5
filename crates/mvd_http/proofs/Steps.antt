-- What stands behind a text, put there piece by piece.
use Rattle.std.proofs.Common.{◌≡◌, ◌∙◌, ℕ, ◌+◌, ◌<◌, List, [], ◌∷◌, ◌++◌, sym, ap, append_assoc, codes, length, get_or, take}
use Rattle.std.specs.List.{flat_map}
use Rattle.std.proofs.lemmas.List.Folds.{flat_map-map}
use Rattle.std.proofs.Concat.{flat_map-take_more}
use Rattle.mvd_dots.specs.Dot.{DotValue}
use Rattle.mvd_keys.specs.State.{Text, pair_of, pairs_of}
use Rattle.mvd_keys.specs.declared.siblings.Sibling.{Sibling}
use Rattle.mvd_http.specs.Json.{commaed, led, sibling_json}
use Rattle.mvd_http.specs.declared.question.Spelling.{Spelling}

pub steps4 : (old s1 s2 s3 s4 a b c d : List ℕ) → s1 ≡ old ++ a → s2 ≡ s1 ++ b → s3 ≡ s2 ++ c → s4 ≡ s3 ++ d → s4 ≡ old ++ (a ++ (b ++ (c ++ d)))
steps4 old s1 s2 s3 s4 a b c d e1 e2 e3 e4 = rw (e4, e3, e2, e1) (simp append_assoc)

pub steps5 : (old s1 s2 s3 s4 s5 a b c d e : List ℕ) → s1 ≡ old ++ a → s2 ≡ s1 ++ b → s3 ≡ s2 ++ c → s4 ≡ s3 ++ d → s5 ≡ s4 ++ e → s5 ≡ old ++ (a ++ (b ++ (c ++ (d ++ e))))
steps5 old s1 s2 s3 s4 s5 a b c d e e1 e2 e3 e4 e5 = rw (e5, e4, e3, e2, e1) (simp append_assoc)

pub steps3 : (old s1 s2 s3 a b c : List ℕ) → s1 ≡ old ++ a → s2 ≡ s1 ++ b → s3 ≡ s2 ++ c → s3 ≡ old ++ (a ++ (b ++ c))
steps3 old s1 s2 s3 a b c e1 e2 e3 = rw (e3, e2, e1) (simp append_assoc)

-- one entry more of a list, behind a comma
pub entry_more : {X : Type 0} (f : X → List ℕ) (xs : List X) (i : ℕ) (x : X) (old s0 s1 s2 : List ℕ) → i < length xs → x ≡ get_or xs i x → s0 ≡ old ++ flat_map (led f) (take i xs) → s1 ≡ s0 ++ codes "," → s2 ≡ s1 ++ f x → s2 ≡ old ++ flat_map (led f) (take (i + 1) xs)
entry_more f xs i x old s0 s1 s2 within is e0 e1 e2 =
    steps3 old s0 s1 s2 (flat_map (led f) (take i xs)) (codes ",") (f x) e0 e1 e2
    ∙ ap (λ t. old ++ t) (ap (λ y. flat_map (led f) (take i xs) ++ led f y) is ∙ flat_map-take_more (led f) xs i x within)

pub steps6 : (old s1 s2 s3 s4 s5 s6 a b c d e f : List ℕ) → s1 ≡ old ++ a → s2 ≡ s1 ++ b → s3 ≡ s2 ++ c → s4 ≡ s3 ++ d → s5 ≡ s4 ++ e → s6 ≡ s5 ++ f → s6 ≡ old ++ (a ++ (b ++ (c ++ (d ++ (e ++ f)))))
steps6 old s1 s2 s3 s4 s5 s6 a b c d e f e1 e2 e3 e4 e5 e6 = rw (e6, e5, e4, e3, e2, e1) (simp append_assoc)

pub steps7 : (old s1 s2 s3 s4 s5 s6 s7 a b c d e f g : List ℕ) → s1 ≡ old ++ a → s2 ≡ s1 ++ b → s3 ≡ s2 ++ c → s4 ≡ s3 ++ d → s5 ≡ s4 ++ e → s6 ≡ s5 ++ f → s7 ≡ s6 ++ g → s7 ≡ old ++ (a ++ (b ++ (c ++ (d ++ (e ++ (f ++ g))))))
steps7 old s1 s2 s3 s4 s5 s6 s7 a b c d e f g e1 e2 e3 e4 e5 e6 e7 = rw (e7, e6, e5, e4, e3, e2, e1) (simp append_assoc)

-- the list of siblings that is kept, and the pairs that it is
pub siblings_alike : (spelling : Spelling) (siblings : List Sibling) (pairs : List (DotValue × Text)) → pairs_of siblings ≡ pairs → commaed (λ s. sibling_json spelling (pair_of s)) siblings ≡ commaed (sibling_json spelling) pairs
siblings_alike spelling [] pairs same = ap (λ t. commaed (sibling_json spelling) t) same
siblings_alike spelling (s ∷ ss) pairs same =
    ap (λ t. sibling_json spelling (pair_of s) ++ t) (sym (flat_map-map (led (sibling_json spelling)) pair_of ss)) ∙ ap (λ t. commaed (sibling_json spelling) t) same

pub items2 : {A : Type 0} (old s1 s2 : List A) (a b : A) → s1 ≡ old ++ a ∷ [] → s2 ≡ s1 ++ b ∷ [] → s2 ≡ old ++ a ∷ b ∷ []
items2 old s1 s2 a b e1 e2 = rw (e2, e1) (simp append_assoc)

pub steps2 : {A : Type 0} (old s1 s2 a b : List A) → s1 ≡ old ++ a → s2 ≡ s1 ++ b → s2 ≡ old ++ (a ++ b)
steps2 old s1 s2 a b e1 e2 = rw (e2, e1) (simp append_assoc)

pub items3 : {A : Type 0} (old s1 s2 s3 : List A) (a b c : A) → s1 ≡ old ++ a ∷ [] → s2 ≡ s1 ++ b ∷ [] → s3 ≡ s2 ++ c ∷ [] → s3 ≡ old ++ a ∷ b ∷ c ∷ []
items3 old s1 s2 s3 a b c e1 e2 e3 = rw (e3, e2, e1) (simp append_assoc)
