-- Whether a whole frame came for each request.
use Rattle.std.proofs.Common.{◌≡◌, ℕ, ◌+◌, ◌<◌, List, ◌∷◌, length, drop, get_or, Option, sym, ap, ◌∙◌}
use Rattle.std.proofs.lemmas.List.{drop_more}
use Rattle.mvd_dots.specs.declared.refusals.Refusal.{Refusal}
use Rattle.mvd_meet.specs.Posts.{LeavesTurn, has_turns}

module _ (nones : List (Option Refusal)) (i : ℕ) (none d : Option Refusal) (rest bytes : List ℕ) where
  next_of : i < length nones → none ≡ get_or nones i d → has_turns (drop i nones) rest ≡ has_turns nones bytes → has_turns (none ∷ drop (i + 1) nones) rest ≡ has_turns nones bytes
  next_of low at before = ap (λ ns. has_turns ns rest) (ap (λ n. n ∷ drop (i + 1) nones) at ∙ sym (drop_more nones i d low)) ∙ before

  -- one request more
  pub one_turn : (left : List ℕ) → i < length nones → none ≡ get_or nones i d → has_turns (drop i nones) rest ≡ has_turns nones bytes → LeavesTurn none rest left → has_turns (drop (i + 1) nones) left ≡ has_turns nones bytes
  one_turn left low at before turn = sym (turn (drop (i + 1) nones)) ∙ next_of low at before
