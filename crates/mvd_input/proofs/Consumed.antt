-- What is read piece by piece, until it is more than the limit.
use Rattle.std.proofs.Common.{◌≡◌, ◌≤◌, ◌<◌, ◌-◌, ◌++◌, ◌∙◌, ℕ, List, Option, Some, None, length, take, ap, sym, arith, append_assoc}
use Rattle.std.specs.Io.KnownBytes.{Consumes}
use Rattle.std.proofs.lemmas.List.{length-append, length-take-le}

pub consumed_on : (a b c : Option (List ℕ)) (xs ys : List ℕ) → Consumes a b xs → Consumes b c ys → Consumes a c (xs ++ ys)
consumed_on None b c xs ys first second = tt
consumed_on (Some s) None c xs ys first second = absurd first
consumed_on (Some s) (Some t) None xs ys first second = absurd second
consumed_on (Some s) (Some t) (Some u) xs ys first second = first ∙ ap (λ (l : List ℕ). xs ++ l) second ∙ sym (append_assoc xs ys u)

pub too_long : (bytes piece : List ℕ) (count size most : ℕ) → count ≤ length piece → size ≡ length bytes → length bytes ≤ most → most - size < count → most < length (bytes ++ take count piece)
too_long bytes piece count size most bound is within more = omega (arith, is, within, more, length-append bytes (take count piece), length-take-le count piece bound)
