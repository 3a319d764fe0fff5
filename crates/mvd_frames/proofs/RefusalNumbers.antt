-- A refusal and its number determine each other.
use Rattle.std.proofs.Common.{◌≡◌, ◌↔◌, ℕ, true, false, cond, eqb, List, [], ◌∷◌, Option, Some, None, refl, sym, ap, ◌∙◌}
use Rattle.std.specs.List.{find}
use Rattle.std.proofs.lemmas.Bool.{eqb-true}
use Rattle.mvd_dots.specs.declared.refusals.Refusal.{Refusal}
use Rattle.mvd_dots.specs.declared.refusals.Refusal.TheVariants.{BadKey, BadContext, BadDocument, NotObject, BadNumber, DocumentTooLong, NotCanonical, Exhausted, StateTooLarge, Full, DotClash, NoIndex, NoView, BadPath, BadTerm, SiteMismatch, Damaged, Memory, Store, Broken, Truncated, FrameTooLong, BadKind, BadBody, ReadFailed, WriteFailed, TooManyRequests, BadDefs, NotAdmitted}
use Rattle.mvd_dots.specs.Refusal.{number_of}
use Rattle.mvd_wire.specs.Replies.{numbered, refusals}

pub own_number : (r : Refusal) → numbered (number_of r) ≡ Some r
unfolding numbered
own_number BadKey = refl
own_number BadContext = refl
own_number BadDocument = refl
own_number NotObject = refl
own_number BadNumber = refl
own_number DocumentTooLong = refl
own_number NotCanonical = refl
own_number Exhausted = refl
own_number StateTooLarge = refl
own_number Full = refl
own_number DotClash = refl
own_number NoIndex = refl
own_number NoView = refl
own_number BadPath = refl
own_number BadTerm = refl
own_number SiteMismatch = refl
own_number Damaged = refl
own_number Memory = refl
own_number Store = refl
own_number Broken = refl
own_number Truncated = refl
own_number FrameTooLong = refl
own_number BadKind = refl
own_number BadBody = refl
own_number ReadFailed = refl
own_number WriteFailed = refl
own_number TooManyRequests = refl
own_number BadDefs = refl
own_number NotAdmitted = refl

none_among : (n : ℕ) (rs : List Refusal) → ((r : Refusal) → number_of r ≡ n → ⊥) → find (λ r. eqb (number_of r) n) rs ≡ None
none_among n [] none = refl
none_among n (r ∷ rs) none =
    elim (eqb (number_of r) n) as (λ b. eqb (number_of r) n ≡ b → cond b (Some r) (find (λ q. eqb (number_of q) n) rs) ≡ None) [
      | true ↦ λ e. absurd (none r (eqb-true _ _ e))
      | false ↦ λ _. none_among n rs none
    ] refl

-- what has the refusals with their numbers is this
pub is_numbered : (n : ℕ) (found : Option Refusal) → ((r : Refusal) → (found ≡ Some r) ↔ (number_of r ≡ n)) → found ≡ numbered n
unfolding numbered
is_numbered n (Some r) is = sym (ap (λ m. find (λ q. eqb (number_of q) m) refusals) (sym ((is r).0 refl)) ∙ own_number r)
is_numbered n None is = sym (none_among n refusals (λ r e. absurd (none_some r ((is r).1 e))))
  where
    none_some : (r : Refusal) → ◌≡◌ {A = Option Refusal} None (Some r) → ⊥
    none_some r e = absurd cc

found_is : (n : ℕ) (r : Refusal) (rs : List Refusal) → find (λ q. eqb (number_of q) n) rs ≡ Some r → number_of r ≡ n
found_is n r [] e = absurd cc
found_is n r (q ∷ rs) e =
    elim (eqb (number_of q) n) as (λ b. eqb (number_of q) n ≡ b → cond b (Some q) (find (λ p. eqb (number_of p) n) rs) ≡ Some r → number_of r ≡ n) [
      | true ↦ λ is f. let same : q ≡ r = cc in ap number_of (sym same) ∙ eqb-true _ _ is
      | false ↦ λ _ f. found_is n r rs f
    ] refl e

pub number_back : (n : ℕ) (r : Refusal) → numbered n ≡ Some r → number_of r ≡ n
unfolding numbered
number_back n r e = found_is n r refusals e
