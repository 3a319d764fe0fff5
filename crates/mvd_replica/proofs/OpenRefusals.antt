-- What opening refuses.
use Rattle.std.proofs.Common.{◌≡◌, ◌∙◌, ◌⊎◌, sym, inl, inr}
use Rattle.mvd_dots.specs.declared.refusals.Refusal.{Refusal}
use Rattle.mvd_dots.specs.declared.refusals.Refusal.TheVariants.{Damaged, Full, Memory, SiteMismatch, Store}
use Rattle.mvd_records.specs.Records.{IsOpenRefusal}
use Rattle.mvd_replica.specs.Opened.{IsOpeningRefusal}

pub open_not_full : (e : Refusal) → IsOpenRefusal e → ¬ (e ≡ Full)
open_not_full e (inl is) full = let bad : SiteMismatch ≡ Full = sym is ∙ full in cc
open_not_full e (inr (inl is)) full = let bad : Damaged ≡ Full = sym is ∙ full in cc
open_not_full e (inr (inr is)) full = let bad : Store ≡ Full = sym is ∙ full in cc

-- what the reading of the states refuses
abbrev pub IsReadRefusal : Refusal → Type 0
IsReadRefusal e = (e ≡ Damaged) ⊎ ((e ≡ Full) ⊎ ((e ≡ Memory) ⊎ (e ≡ Store)))

pub read_refusal : (e : Refusal) → IsReadRefusal e → IsOpeningRefusal e
read_refusal e (inl is) = inl (inr (inl is))
read_refusal e (inr (inl is)) = inr (inl is)
read_refusal e (inr (inr (inl is))) = inr (inr is)
read_refusal e (inr (inr (inr is))) = inl (inr (inr is))

pub read_no_mismatch : (e : Refusal) → IsReadRefusal e → ¬ (e ≡ SiteMismatch)
read_no_mismatch e (inl is) other = let bad : Damaged ≡ SiteMismatch = sym is ∙ other in cc
read_no_mismatch e (inr (inl is)) other = let bad : Full ≡ SiteMismatch = sym is ∙ other in cc
read_no_mismatch e (inr (inr (inl is))) other = let bad : Memory ≡ SiteMismatch = sym is ∙ other in cc
read_no_mismatch e (inr (inr (inr is))) other = let bad : Store ≡ SiteMismatch = sym is ∙ other in cc
