use Rattle.std.proofs.Common.{◌≡◌, ◌++◌, take, string_bytes}
use Rattle.std.specs.List.{flat_map}
use Rattle.mvd_keys.specs.State.{pair_of}
use Rattle.mvd_http.specs.Json.{sibling_json, led}
use Rattle.mvd_http.proofs.documents.push_more_siblings.Given as goal

abbrev pub invariant-loop-sibling : goal.invariant-loop-sibling
invariant-loop-sibling l = string_bytes l.out ≡ string_bytes l.initial.out ++ flat_map (λ s. led (sibling_json l.spelling) (pair_of s)) (take l.sibling-index l.siblings)
