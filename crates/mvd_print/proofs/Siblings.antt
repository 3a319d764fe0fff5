-- The lines of siblings, from the list that is kept and from the map that it is.
use Rattle.std.proofs.Common.{◌≡◌, ℕ, List, ◌++◌, ◌∙◌, sym, ap, append_assoc}
use Rattle.std.specs.List.{flat_map}
use Rattle.std.proofs.lemmas.List.Folds.{flat_map-map}
use Rattle.mvd_dots.specs.Dot.{DotValue}
use Rattle.mvd_keys.specs.State.{Text, pair_of, pairs_of}
use Rattle.mvd_keys.specs.declared.siblings.Sibling.{Sibling}
use Rattle.mvd_print.specs.Text.{sibling_text}

pub lines_behind : (old mid new context : List ℕ) (siblings : List Sibling) (pairs : List (DotValue × Text)) → pairs_of siblings ≡ pairs → mid ≡ old ++ context → new ≡ mid ++ flat_map (λ s. sibling_text (pair_of s)) siblings → new ≡ old ++ (context ++ flat_map sibling_text pairs)
lines_behind old mid new context siblings pairs same first then =
    then
    ∙ ap (λ t. t ++ flat_map (λ s. sibling_text (pair_of s)) siblings) first
    ∙ append_assoc old context (flat_map (λ s. sibling_text (pair_of s)) siblings)
    ∙ ap (λ t. old ++ (context ++ t)) (sym (flat_map-map sibling_text pair_of siblings) ∙ ap (λ t. flat_map sibling_text t) same)
