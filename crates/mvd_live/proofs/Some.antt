-- Some element of a list.
use Rattle.std.proofs.Common.{◌⊎◌, inl, inr, ℕ, List, [], ◌∷◌, ◌++◌, map, take, drop, subst, sym}
use Rattle.std.proofs.lemmas.List.{take-append-drop}
use Rattle.mvd_peer.specs.PushedStates.{Each}

abbrev pub AnyOf : {X : Type 0} → (X → Type 0) → List X → Type 0
AnyOf P [] = ⊥
AnyOf P (x ∷ xs) = P x ⊎ AnyOf P xs

pub any_left : {X : Type 0} (P : X → Type 0) (xs ys : List X) → AnyOf P xs → AnyOf P (xs ++ ys)
any_left P [] ys never = absurd never
any_left P (x ∷ xs) ys (inl here) = inl here
any_left P (x ∷ xs) ys (inr later) = inr (any_left P xs ys later)

pub any_right : {X : Type 0} (P : X → Type 0) (xs ys : List X) → AnyOf P ys → AnyOf P (xs ++ ys)
any_right P [] ys some = some
any_right P (x ∷ xs) ys some = inr (any_right P xs ys some)

pub any_split : {X : Type 0} (P : X → Type 0) (xs ys : List X) → AnyOf P (xs ++ ys) → AnyOf P xs ⊎ AnyOf P ys
any_split P [] ys some = inr some
any_split P (x ∷ xs) ys (inl here) = inl (inl here)
any_split P (x ∷ xs) ys (inr later) = elim (any_split P xs ys later) [ inl one ↦ inl (inr one) | inr other ↦ inr other ]

pub any_cut : {X : Type 0} (P : X → Type 0) (n : ℕ) (xs : List X) → AnyOf P xs → AnyOf P (take n xs) ⊎ AnyOf P (drop n xs)
any_cut P n xs some = any_split P (take n xs) (drop n xs) (subst (AnyOf P) (sym (take-append-drop n xs)) some)

pub any_map : {X Y : Type 0} (P : X → Type 0) (Q : Y → Type 0) (f : X → Y) → ((x : X) → P x → Q (f x)) → (xs : List X) → AnyOf P xs → AnyOf Q (map f xs)
any_map P Q f h [] never = absurd never
any_map P Q f h (x ∷ xs) (inl here) = inl (h x here)
any_map P Q f h (x ∷ xs) (inr later) = inr (any_map P Q f h xs later)

pub any_weaker : {X : Type 0} (P Q : X → Type 0) → ((x : X) → P x → Q x) → (xs : List X) → AnyOf P xs → AnyOf Q xs
any_weaker P Q h [] never = absurd never
any_weaker P Q h (x ∷ xs) (inl here) = inl (h x here)
any_weaker P Q h (x ∷ xs) (inr later) = inr (any_weaker P Q h xs later)

-- what is so of some and what is so of each are so of one
pub any_each : {X : Type 0} (P Q : X → Type 0) (T : Type 0) → ((x : X) → P x → Q x → T) → (xs : List X) → AnyOf P xs → Each Q xs → T
any_each P Q T h [] never each = absurd never
any_each P Q T h (x ∷ xs) (inl here) each = h x here each.0
any_each P Q T h (x ∷ xs) (inr later) each = any_each P Q T h xs later each.1

pub any_with : {X : Type 0} (P Q R : X → Type 0) → ((x : X) → P x → Q x → R x) → (xs : List X) → AnyOf P xs → Each Q xs → AnyOf R xs
any_with P Q R h [] never each = absurd never
any_with P Q R h (x ∷ xs) (inl here) each = inl (h x here each.0)
any_with P Q R h (x ∷ xs) (inr later) each = inr (any_with P Q R h xs later each.1)
