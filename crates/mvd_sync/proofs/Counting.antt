-- How the keys of windows are counted.
use Rattle.std.proofs.Common.{◌≡◌, ℕ, zero, suc, ◌+◌, ◌≤◌, ◌<◌, Bool, true, false, cond, not, List, [], ◌∷◌, ◌++◌, filter, length, take, refl, sym, ap, subst, ◌∙◌, arith, Some, None, option_map, length-append, append_assoc, inl, inr}
use Rattle.std.specs.Prelude.{is_some}
use Rattle.std.proofs.lemmas.List.{append-nil, map-append}
use Rattle.std.specs.List.{cons_option}
use Rattle.mvd_sync.specs.declared.report.Left.{Left}
use Rattle.std.proofs.lemmas.List.Elements.{filter-append, filter_map-append}
use Rattle.mvd_dots.specs.declared.refusals.Refusal.{Refusal}
use Rattle.mvd_sync.specs.declared.report.Side.{Side}
use Rattle.mvd_sync.specs.Exchanges.{CountsDone, Done, Exchanging, given_keys, is_given, keys_done, left_keys, left_of, left_as}
use Rattle.mvd_sync.proofs.Exchanges.{Counts}

pub take_all : {X : Type 0} (n : ℕ) (xs : List X) → length xs ≤ n → take n xs ≡ xs
take_all zero [] h = refl
take_all zero (x ∷ xs) h = absurd (omega arith)
take_all (suc n) [] h = refl
take_all (suc n) (x ∷ xs) h = ap (λ ys. x ∷ ys) (take_all n xs (omega arith))

take_front : {X : Type 0} (n : ℕ) (xs ys : List X) → n ≤ length xs → take n (xs ++ ys) ≡ take n xs
take_front zero xs ys h = refl
take_front (suc n) [] ys h = absurd (omega arith)
take_front (suc n) (x ∷ xs) ys h = ap (λ zs. x ∷ zs) (take_front n xs ys (omega arith))

-- what was left out is left out
take_again : {X : Type 0} (n : ℕ) (xs ys : List X) → take n (take n xs ++ ys) ≡ take n (xs ++ ys)
take_again zero xs ys = refl
take_again (suc n) [] ys = refl
take_again (suc n) (x ∷ xs) ys = ap (λ zs. x ∷ zs) (take_again n xs ys)

take_short : {X : Type 0} (n : ℕ) (xs : List X) → length (take n xs) ≤ n
take_short zero xs = omega arith
take_short (suc n) [] = omega arith
take_short (suc n) (x ∷ xs) = let rest = take_short n xs in omega (arith, rest)

pub given_append : (xs ys : List Done) → given_keys (xs ++ ys) ≡ given_keys xs ++ given_keys ys
given_append xs ys = ap keys_done (filter-append (λ d. is_given d.refused) xs ys) ∙ map-append (λ d. d.key) (filter (λ d. is_given d.refused) xs) (filter (λ d. is_given d.refused) ys)

pub adds_none : (e : Exchanging) → CountsDone [] e e
adds_none e = record {
  number = refl;
  waiting = refl;
  most = refl;
  keys = omega arith;
  refused = omega arith;
  first_refused = λ short. sym (take_all 100 e.first_refused short) ∙ ap (take 100) (sym (append-nil e.first_refused));
  older = omega arith;
}

pub adds_on : (xs ys : List Done) (e f g : Exchanging) → CountsDone xs e f → CountsDone ys f g → CountsDone (xs ++ ys) e g
adds_on xs ys e f g p q = record {
  number = q.number ∙ p.number;
  waiting = q.waiting ∙ p.waiting;
  most = q.most ∙ p.most;
  keys = let n = ap length (given_append xs ys) ∙ length-append (given_keys xs) (given_keys ys) in omega (arith, n, p.keys, q.keys);
  refused = let n = ap length (filter_map-append left_of xs ys) ∙ length-append (left_keys xs) (left_keys ys) in omega (arith, n, p.refused, q.refused);
  first_refused = λ short.
      let first = p.first_refused short in
      let still : length f.first_refused ≤ 100 = subst (λ v. length v ≤ 100) (sym first) (take_short 100 (e.first_refused ++ left_keys xs)) in
      q.first_refused still ∙ ap (λ v. take 100 (v ++ left_keys ys)) first ∙ take_again 100 (e.first_refused ++ left_keys xs) (left_keys ys)
      ∙ ap (take 100) (append_assoc e.first_refused (left_keys xs) (left_keys ys) ∙ ap (λ v. e.first_refused ++ v) (sym (filter_map-append left_of xs ys)));
  older = let n = ap length (filter-append (λ d. d.is_old) xs ys) ∙ length-append (filter (λ d. d.is_old) xs) (filter (λ d. d.is_old) ys) in omega (arith, n, p.older, q.older);
}

-- ---- one key

abbrev count_if : Bool → ℕ
count_if b = cond b 1 0

pub given_one : (d : Done) → length (given_keys (d ∷ [])) ≡ count_if (is_given d.refused)
given_one d = elim (is_given d.refused) as (λ b. length (keys_done (cond b (d ∷ []) [])) ≡ count_if b) [ true ↦ refl | false ↦ refl ]

old_one : (d : Done) → length (filter (λ (d : Done). d.is_old) (d ∷ [])) ≡ count_if d.is_old
old_one d = elim d.is_old as (λ b. length (cond b (d ∷ []) []) ≡ count_if b) [ true ↦ refl | false ↦ refl ]

-- a key that was given to both sides
pub adds_given : (d : Done) (e f : Exchanging) → d.refused ≡ None → f.number ≡ e.number → f.waiting ≡ e.waiting → f.most ≡ e.most → f.keys ≡ e.keys + 1 → f.refused ≡ e.refused → f.first_refused ≡ e.first_refused → f.older ≡ e.older + count_if d.is_old → CountsDone (d ∷ []) e f
adds_given d e f none number waiting most keys refused first old =
    let lefts : left_keys (d ∷ []) ≡ [] = ap (λ o. cons_option (option_map (left_as d.key) o) []) none in
    let given : is_given d.refused ≡ true = ap is_given none in
    record {
      number = number;
      waiting = waiting;
      most = most;
      keys = let n = given_one d ∙ ap count_if given in omega (arith, n, keys);
      refused = let n = ap length lefts in omega (arith, n, refused);
      first_refused = λ short. first ∙ sym (take_all 100 e.first_refused short) ∙ ap (take 100) (sym (append-nil e.first_refused) ∙ ap (λ v. e.first_refused ++ v) (sym lefts));
      older = let n = old_one d in omega (arith, n, old);
    }

-- a key that was refused
pub adds_left : (d : Done) (r : Side × Refusal) (e f : Exchanging) → d.refused ≡ Some r → f.number ≡ e.number → f.waiting ≡ e.waiting → f.most ≡ e.most → f.keys ≡ e.keys → f.refused ≡ e.refused + 1 → (length e.first_refused < 100 → f.first_refused ≡ e.first_refused ++ left_as d.key r ∷ []) → (100 ≤ length e.first_refused → f.first_refused ≡ e.first_refused) → f.older ≡ e.older + count_if d.is_old → CountsDone (d ∷ []) e f
adds_left d r e f some number waiting most keys refused named full old =
    let lefts : left_keys (d ∷ []) ≡ left_as d.key r ∷ [] = ap (λ o. cons_option (option_map (left_as d.key) o) []) some in
    let given : is_given d.refused ≡ false = ap is_given some in
    record {
      number = number;
      waiting = waiting;
      most = most;
      keys = let n = given_one d ∙ ap count_if given in omega (arith, n, keys);
      refused = let n = ap length lefts in omega (arith, n, refused);
      first_refused = λ short. elim (Rattle.std.proofs.lemmas.Bool.cases_lt (length e.first_refused) 100) [
        | inl less ↦ named less ∙ sym (take_all 100 (e.first_refused ++ left_as d.key r ∷ []) (let n = length-append e.first_refused (left_as d.key r ∷ []) in omega (arith, n))) ∙ ap (λ v. take 100 (e.first_refused ++ v)) (sym lefts)
        | inr more ↦ full more ∙ sym (take_all 100 e.first_refused short) ∙ sym (take_front 100 e.first_refused (left_keys (d ∷ [])) more)
      ];
      older = let n = old_one d in omega (arith, n, old);
    }

pub left_one : (d : Done) → length (left_keys (d ∷ [])) ≡ count_if (is_some d.refused)
left_one d =
    let named : Side × Refusal → Left = left_as d.key in
    elim d.refused as (λ o. length (cons_option (option_map named o) []) ≡ count_if (is_some o)) [ None ↦ refl | Some r ↦ refl ]

pub one_of_two : (b : Bool) → count_if (not b) + count_if b ≡ 1
one_of_two true = refl
one_of_two false = refl

-- each key counts once
pub adds_room : (d : Done) (e f : Exchanging) → CountsDone (d ∷ []) e f → f.keys + f.refused ≡ e.keys + e.refused + 1
adds_room d e f a =
    let g = given_one d in
    let l = left_one d in
    let n = one_of_two (is_some d.refused) in
    omega (arith, g, l, n, a.keys, a.refused)

-- what was counted besides is counted with the rest
pub counts_on : (done now : List Done) (e f : Exchanging) → Counts done e → CountsDone now e f → Counts (done ++ now) f
counts_on done now e f c a = record {
  keys = let n = ap length (given_append done now) ∙ length-append (given_keys done) (given_keys now) in omega (arith, n, c.keys, a.keys);
  refused = let n = ap length (filter_map-append left_of done now) ∙ length-append (left_keys done) (left_keys now) in omega (arith, n, c.refused, a.refused);
  first_refused =
      let short : length e.first_refused ≤ 100 = subst (λ v. length v ≤ 100) (sym c.first_refused) (take_short 100 (left_keys done)) in
      a.first_refused short ∙ ap (λ v. take 100 (v ++ left_keys now)) c.first_refused ∙ take_again 100 (left_keys done) (left_keys now) ∙ ap (take 100) (sym (filter_map-append left_of done now));
  older = let n = ap length (filter-append (λ d. d.is_old) done now) ∙ length-append (filter (λ d. d.is_old) done) (filter (λ d. d.is_old) now) in omega (arith, n, c.older, a.older);
}
