-- The states of keys, told one behind the other.
use Rattle.std.proofs.Common.{◌≡◌, ◌∙◌, ℕ, ◌+◌, ◌<◌, Bool, false, List, [], ◌∷◌, ◌++◌, ap, drop, get_or, length, sym}
use Rattle.std.proofs.lemmas.List.{drop_more}
use Rattle.mvd_keys.specs.State.{State}
use Rattle.mvd_keys.specs.Writes.{Key}
use Rattle.mvd_http.specs.Followed.{state_or_later, states_text}
use Rattle.mvd_http.specs.Json.{comma_if}
use Rattle.mvd_http.specs.declared.question.Spelling.{Spelling}

module _ (states : Key → State) (spelling : Spelling) (keys : List Key) where
  -- one key more
  pub states_on : (i : ℕ) (key : Key) (is_first : Bool) (s0 s1 s2 all : List ℕ) → i < length keys → key ≡ get_or keys i key → s1 ≡ s0 ++ comma_if is_first → s2 ≡ s1 ++ state_or_later states spelling s1 key
      → states_text states spelling is_first s0 (drop i keys) ≡ all → states_text states spelling false s2 (drop (i + 1) keys) ≡ all
  unfolding states_text
  states_on i key is_first s0 s1 s2 all within is e1 e2 so_far =
      ap (λ t. states_text states spelling false t (drop (i + 1) keys)) (e2 ∙ ap (λ t. t ++ state_or_later states spelling t key) e1)
      ∙ sym (ap (states_text states spelling is_first s0) (drop_more keys i key within ∙ ap (λ (k : Key). k ∷ drop (i + 1) keys) (sym is)))
      ∙ so_far

  -- and none is left
  pub states_done : (i : ℕ) (is_first : Bool) (s0 all : List ℕ) → drop i keys ≡ [] → states_text states spelling is_first s0 (drop i keys) ≡ all → s0 ≡ all
  unfolding states_text
  states_done i is_first s0 all none so_far = sym (ap (states_text states spelling is_first s0) none) ∙ so_far
