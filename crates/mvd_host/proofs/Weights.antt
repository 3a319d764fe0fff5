-- What requests weigh, one after the other.
use Rattle.std.proofs.Common.{◌≡◌, ◌∙◌, true, ℕ, ◌+◌, ◌-◌, ◌^◌, ◌≤◌, List, [], ◌∷◌, ◌++◌, map, min, sym, ap, subst, arith}
use Rattle.std.proofs.lemmas.Bool.Decides.{nat_tests}
use Rattle.std.proofs.lemmas.List.{map-append}
use Rattle.mvd_site.specs.Held.{States}
use Rattle.mvd_wire.specs.declared.request.Request.{Request}
use Rattle.mvd_host.specs.Weights.{AreHeavy, IsWeighed, has_to_wait, weight_of, weights_in}

pub weights_append : (states : States) (xs ys : List Request) → weights_in states (xs ++ ys) ≡ weights_in states xs + weights_in states ys
weights_append states [] ys = omega arith
weights_append states (x ∷ xs) ys = let rest = weights_append states xs ys in omega (arith, rest)

pub weights_push : (states : States) (xs : List Request) (x : Request) → weights_in states (xs ++ x ∷ []) ≡ weights_in states xs + weight_of states x
weights_push states xs x = let both = weights_append states xs (x ∷ []) in omega (arith, both)

-- what has to wait does so behind this weight
pub waits_heavy : (weighed weighs : ℕ) → has_to_wait weighed weighs ≡ true → 4194304 ≤ weighed
waits_heavy weighed weighs is = grind (arith, nat_tests, is)

-- one more is counted
pub weighed_more : (states : States) (xs all : List Request) (x : Request) (n w m : ℕ) → IsWeighed states xs n → w ≡ min (weight_of states x) (2 ^ 64 - 1) → m ≡ min (n + w) (2 ^ 64 - 1) → all ≡ xs ++ x ∷ [] → IsWeighed states all m
weighed_more states xs all x n w m so_far one sum is = let whole = ap (weights_in states) is ∙ weights_push states xs x in omega (arith, so_far, one, sum, whole)

-- the same list
pub weighed_same : (states : States) (xs ys : List Request) (n : ℕ) → ys ≡ xs → IsWeighed states xs n → IsWeighed states ys n
weighed_same states xs ys n is weighed = subst (λ l. IsWeighed states l n) (sym is) weighed

-- what is counted is there
pub heavy_of : (states : States) (requests : List Request) (asks : List (ℕ × Request)) (n : ℕ) → requests ≡ map (λ r. r.1) asks → IsWeighed states requests n → 4194304 ≤ n → AreHeavy states asks
heavy_of states requests asks n are weighed much = let same = ap (weights_in states) are in omega (arith, same, weighed, much)

pub not_heavy : (states : States) (asks : List (ℕ × Request)) → asks ≡ [] → AreHeavy states asks → ⊥
not_heavy states asks none heavy = let no : weights_in states (map (λ r. r.1) asks) ≡ 0 = ap (λ (l : List (ℕ × Request)). weights_in states (map (λ r. r.1) l)) none in omega (arith, no, heavy)

-- those behind others only add
pub weights_more : (states : States) (asks more : List (ℕ × Request)) → weights_in states (map (λ r. r.1) asks) ≤ weights_in states (map (λ r. r.1) (asks ++ more))
weights_more states asks more =
    let both = ap (weights_in states) (map-append (λ (r : ℕ × Request). r.1) asks more) ∙ weights_append states (map (λ r. r.1) asks) (map (λ r. r.1) more) in
    omega (arith, both)

pub heavy_more : (states : States) (asks more : List (ℕ × Request)) → AreHeavy states asks → AreHeavy states (asks ++ more)
heavy_more states asks more heavy =
    let grown = weights_more states asks more in omega (arith, grown, heavy)
