-- What of a list is a client's own.
use Rattle.std.proofs.Common.{◌≡◌, ℕ, ◌==◌, Bool, true, false, cond, List, [], ◌∷◌, ◌++◌, map, Option, Some, None, refl, ap, ◌∙◌, arith}
use Rattle.std.proofs.lemmas.Bool.Decides.{nat_tests}
use Rattle.mvd_conn.specs.History.{History}
use Rattle.mvd_host.specs.Course.{BothClients, own}

cond_append : {X : Type 0} (b : Bool) (x : X) (xs ys : List X) → cond b (x ∷ (xs ++ ys)) (xs ++ ys) ≡ cond b (x ∷ xs) xs ++ ys
cond_append true x xs ys = refl
cond_append false x xs ys = refl

pub own-append : {X : Type 0} (n : ℕ) (xs ys : List (ℕ × X)) → own n (xs ++ ys) ≡ own n xs ++ own n ys
own-append n [] ys = refl
own-append n (x ∷ xs) ys = ap (λ l. cond (x.0 == n) (x.1 ∷ l) l) (own-append n xs ys) ∙ cond_append (x.0 == n) x.1 (own n xs) (own n ys)

pub same_number : (n : ℕ) → (n == n) ≡ true
same_number n = grind (arith, nat_tests)

pub own-same : {X : Type 0} (n : ℕ) (xs : List X) → own n (map {B = ℕ × X} (λ x. (n, x)) xs) ≡ xs
own-same n [] = refl
own-same {X} n (x ∷ xs) = ap (λ b. cond b (x ∷ own n (map {B = ℕ × X} (λ y. (n, y)) xs)) (own n (map {B = ℕ × X} (λ y. (n, y)) xs))) (same_number n) ∙ ap (λ l. x ∷ l) (own-same n xs)

turned : (m n : ℕ) → (n == m) ≡ false → (m == n) ≡ false
turned m n e = grind (arith, nat_tests)

pub own-other : {X : Type 0} (m n : ℕ) (xs : List X) → (n == m) ≡ false → own n (map {B = ℕ × X} (λ x. (m, x)) xs) ≡ []
own-other m n [] apart = refl
own-other {X} m n (x ∷ xs) apart = ap (λ b. cond b (x ∷ own n (map {B = ℕ × X} (λ y. (m, y)) xs)) (own n (map {B = ℕ × X} (λ y. (m, y)) xs))) (turned m n apart) ∙ own-other m n xs apart

pub both_on : (a b c : Option History) (R S T : History → History → Type 0) → ((x y z : History) → R x y → S y z → T x z) → BothClients a b R → BothClients b c S → BothClients a c T
both_on None None None R S T on p q = tt
both_on None None (Some z) R S T on p q = absurd q
both_on None (Some y) c R S T on p q = absurd p
both_on (Some x) None c R S T on p q = absurd p
both_on (Some x) (Some y) None R S T on p q = absurd q
both_on (Some x) (Some y) (Some z) R S T on p q = on x y z p q

pub both_self : (a : Option History) (R : History → History → Type 0) → ((x : History) → R x x) → BothClients a a R
both_self None R self = tt
both_self (Some x) R self = self x

pub both_so : (a b : Option History) (R S : History → History → Type 0) → ((x y : History) → R x y → S x y) → BothClients a b R → BothClients a b S
both_so None None R S so p = tt
both_so None (Some y) R S so p = absurd p
both_so (Some x) None R S so p = absurd p
both_so (Some x) (Some y) R S so p = so x y p

-- a client that was not there is not there
pub both_none : (a b : Option History) (R : History → History → Type 0) → a ≡ None → BothClients a b R → b ≡ None
both_none None None R gone both = refl
both_none None (Some y) R gone both = absurd both
both_none (Some x) b R gone both = absurd (let no : ◌≡◌ {A = Option History} (Some x) None = gone in cc)
