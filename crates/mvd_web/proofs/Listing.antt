-- Fields that are put behind others.
use Rattle.std.proofs.Common.{◌≡◌, ◌∙◌, List, [], ◌∷◌, ◌++◌, ap, append_assoc}
use Rattle.std.proofs.lemmas.List.{map_push}
use Rattle.http1.specs.Fields.{Header}
use Rattle.http1.specs.Head.{header_parts, pairs}
use Rattle.http1.specs.declared.head.Header as Sent

two : {A : Type 0} (old s1 s2 : List A) (a b : A) → s1 ≡ old ++ a ∷ [] → s2 ≡ s1 ++ b ∷ [] → s2 ≡ old ++ a ∷ b ∷ []
two old s1 s2 a b e1 e2 = rw (e2, e1) (simp append_assoc)

pub two_more : (old s1 s2 : List Sent.Header) (a b : Sent.Header) (p q : Header) → s1 ≡ old ++ a ∷ [] → s2 ≡ s1 ++ b ∷ [] → header_parts a ≡ p → header_parts b ≡ q → pairs s2 ≡ pairs old ++ p ∷ q ∷ []
two_more old s1 s2 a b p q e1 e2 ea eb =
    two (pairs old) (pairs s1) (pairs s2) p q (ap pairs e1 ∙ map_push header_parts old a ∙ ap (λ h. pairs old ++ h ∷ []) ea)
    (ap pairs e2 ∙ map_push header_parts s1 b ∙ ap (λ h. pairs s1 ++ h ∷ []) eb)
