-- The two marks.
use Rattle.std.proofs.Common.{◌≡◌, ◌≢◌, ◌⊎◌, inl, inr, ℕ, ◌<◌, ◌≤◌, ◌^◌, List, [], ◌∷◌, map, length, codes, Option, Some, None, Err, get_or, refl, sym, ap, subst, ◌∙◌, arith}
use Rattle.std.specs.Option.{MatchOption}
use Rattle.std.specs.List.Sorted.{IsPermutation}
use Rattle.std.proofs.lemmas.List.Sorted.{IsPermutation-sym, IsPermutation-append_comm, length_permutation}
use Rattle.std.proofs.lemmas.List.{length-map}
use Rattle.sqlite_trees.proofs.ListLemmas.{IsPermutation-same}
use Rattle.sqlite.specs.declared.types.Value.TheVariants.{Text}
use Rattle.sqlite.specs.Order.{Row, column}
use Rattle.sqlite_rules.specs.Lists.{Has}
use Rattle.mvd_dots.specs.declared.refusals.Refusal.{Refusal}
use Rattle.mvd_dots.specs.declared.refusals.Refusal.TheVariants.{Store}
use Rattle.mvd_records.specs.States.{mark, AreMarks, IsMark, first_two}
use Rattle.mvd_records.specs.Records.{IsVersion, TellsVersion}
use Rattle.mvd_records.proofs.Listed.{has_moved}

pub two_rows : (rows : List Row) (a b : Row) → length rows ≡ 2 → a ≡ get_or rows 0 a → b ≡ get_or rows 1 b → rows ≡ a ∷ b ∷ []
two_rows [] a b two first second = absurd (omega arith)
two_rows (x ∷ []) a b two first second = absurd (omega arith)
two_rows (x ∷ y ∷ []) a b two first second = ap (λ r. r ∷ y ∷ []) (sym first) ∙ ap (λ r. a ∷ r ∷ []) (sym second)
two_rows (x ∷ y ∷ z ∷ more) a b two first second = absurd (omega arith)

abbrev format : ℕ → Row
format v = mark (codes "format") v

abbrev site : ℕ → Row
site s = mark (codes "site") s

shows_mark : (name : List ℕ) (pair : Row) (n : ℕ) → IsMark name pair n → first_two pair ≡ mark name n
shows_mark name pair n it = ap (λ v. v ∷ column pair 1 ∷ []) it.0 ∙ ap (λ v. Text name ∷ v ∷ []) it.1

is_mark : (name : List ℕ) (row : Row) (n : ℕ) → first_two row ≡ mark name n → IsMark name row n
is_mark name row n e = (ap (λ (r : Row). column r 0) e, ap (λ (r : Row). column r 1) e)

pub in_order : (a b : Row) (v s : ℕ) → IsMark (codes "format") a v × IsMark (codes "site") b s → AreMarks v s (map first_two (a ∷ b ∷ []))
in_order a b v s it = IsPermutation-same _ _ (ap (λ r. r ∷ first_two b ∷ []) (shows_mark _ a v it.0) ∙ ap (λ r. format v ∷ r ∷ []) (shows_mark _ b s it.1))

pub turned : (a b : Row) (v s : ℕ) → IsMark (codes "format") b v × IsMark (codes "site") a s → AreMarks v s (map first_two (a ∷ b ∷ []))
turned a b v s it =
    let e : map first_two (a ∷ b ∷ []) ≡ site s ∷ format v ∷ [] = ap (λ r. r ∷ first_two b ∷ []) (shows_mark _ a s it.1) ∙ ap (λ r. site s ∷ r ∷ []) (shows_mark _ b v it.0) in
    subst (λ l. IsPermutation l (format v ∷ site s ∷ [])) (sym e) (IsPermutation-append_comm (site s ∷ []) (format v ∷ []))

other_name : (v s : ℕ) → format v ≢ site s
other_name v s e = let t = ap (λ (r : Row). column r 0) e in let c : codes "format" ≡ codes "site" = cc in let n : ◌≡◌ {A = ℕ} 6 4 = ap length c in absurd (omega arith)

pub either : (a b : Row) (v s : ℕ) → AreMarks v s (map first_two (a ∷ b ∷ [])) → (IsMark (codes "format") a v × IsMark (codes "site") b s) ⊎ (IsMark (codes "format") b v × IsMark (codes "site") a s)
either a b v s are = elim (has_moved _ _ (format v) (IsPermutation-sym _ _ are) (inl refl)) [
  | inl first ↦ elim (has_moved _ _ (site s) (IsPermutation-sym _ _ are) (inr (inl refl))) [
    | inl same ↦ absurd (other_name v s (first ∙ sym same))
    | inr more ↦ elim more [ inl second ↦ inl (is_mark _ a v (sym first), is_mark _ b s (sym second)) | inr none ↦ absurd none ]
  ]
  | inr later ↦ elim later [
    | inl second ↦ elim (has_moved _ _ (site s) (IsPermutation-sym _ _ are) (inr (inl refl))) [
      | inl first ↦ inr (is_mark _ b v (sym second), is_mark _ a s (sym first))
      | inr more ↦ elim more [ inl same ↦ absurd (other_name v s (second ∙ sym same)) | inr none ↦ absurd none ]
    ]
    | inr none ↦ absurd none
  ]
]

pub two_long : (rows : List Row) (v s : ℕ) → AreMarks v s (map first_two rows) → length rows ≡ 2
two_long rows v s are = omega (arith, length_permutation _ _ are, length-map rows first_two)

-- the marks are found, where they stand in either order
pub found : (rows : List Row) (a b : Row) (r : Option (ℕ × ℕ)) → rows ≡ a ∷ b ∷ [] → ((v s : ℕ) → v < 2 ^ 32 → s < 2 ^ 32 → ¬ (IsMark (codes "format") a v × IsMark (codes "site") b s))
    → MatchOption r ((v s : ℕ) → v < 2 ^ 32 → s < 2 ^ 32 → ¬ (IsMark (codes "format") b v × IsMark (codes "site") a s)) (λ p. IsMark (codes "format") b p.0 × IsMark (codes "site") a p.1)
    → MatchOption r ((v s : ℕ) → v < 2 ^ 32 → s < 2 ^ 32 → ¬ AreMarks v s (map first_two rows)) (λ p. AreMarks p.0 p.1 (map first_two rows))
found rows a b None is none h = λ v s low lower are. elim (either a b v s (subst (λ (l : List Row). AreMarks v s (map first_two l)) is are)) [ inl first ↦ none v s low lower first | inr second ↦ h v s low lower second ]
found rows a b (Some p) is none h = subst (λ (l : List Row). AreMarks p.0 p.1 (map first_two l)) (sym is) (turned a b p.0 p.1 h)

-- ---- the version

same_number : (m n : ℕ) → ◌≡◌ {A = Row} (mark (codes "format") m) (mark (codes "format") n) → m ≡ n
same_number m n e = let v = ap (λ (r : Row). column r 1) e in cc

same_site : (m n : ℕ) → ◌≡◌ {A = Row} (mark (codes "site") m) (mark (codes "site") n) → m ≡ n
same_site m n e = let v = ap (λ (r : Row). column r 1) e in cc

-- the marks are of one version and one site
pub marks_same : (pairs : List Row) (v s w t : ℕ) → AreMarks v s pairs → AreMarks w t pairs → (v ≡ w) × (s ≡ t)
marks_same pairs v s w t one two =
    let across = λ (x : Row) (h : Has (format v ∷ site s ∷ []) x). has_moved pairs (format w ∷ site t ∷ []) x two (has_moved (format v ∷ site s ∷ []) pairs x (IsPermutation-sym _ _ one) h) in (
      elim (across (format v) (inl refl)) [ inl same ↦ same_number v w same | inr more ↦ elim more [ inl other ↦ absurd (other_name v t other) | inr none ↦ absurd none ] ],
      elim (across (site s) (inr (inl refl))) [ inl other ↦ absurd (other_name w s (sym other)) | inr more ↦ elim more [ inl same ↦ same_site s t same | inr none ↦ absurd none ] ],
    )

pub version_low : (v : ℕ) → IsVersion v → (1 ≤ v) × (v ≤ 2)
version_low v (inl is) = (omega arith, omega arith)
version_low v (inr is) = (omega arith, omega arith)

pub told_store : (pairs : List Row) (site : ℕ) (e : Refusal) → e ≡ Store → TellsVersion pairs site (Err e)
told_store pairs site e is = subst (λ r. TellsVersion pairs site (Err r)) (sym is) tt

pub map_some : (rows : List Row) → rows ≢ [] → map first_two rows ≢ []
map_some [] some e = some refl
map_some (r ∷ rows) some e = absurd cc
