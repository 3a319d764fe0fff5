-- The nodes of two hash trees whose digests differ.
use Rattle.std.specs.Prelude.{ℕ, Bool, cond, not, bytes_eq, List, [], ◌∷◌, ◌++◌, map, slice_index_or}
use Rattle.std.specs.List.{filter, flat_map}
use Rattle.mvd_tree.specs.HashTree.{KeyDigests, digits, node_digest}

-- whether the digests of a node differ
abbrev pub differs_at : KeyDigests → KeyDigests → List ℕ → Bool
differs_at a b path = not (bytes_eq (node_digest a path) (node_digest b path))

-- the children of a node above the buckets
abbrev pub child_paths : List ℕ → List (List ℕ)
child_paths path = map (λ d. path ++ d ∷ []) digits

-- the children that differ of the nodes that differ
abbrev pub differing_children : KeyDigests → KeyDigests → List (List ℕ) → List (List ℕ)
differing_children a b paths = filter (differs_at a b) (flat_map child_paths (filter (differs_at a b) paths))

-- what is told of a node by its own digests and those of its children: the children that differ, if it differs
abbrev pub told_children : List ℕ → List ℕ × List (List ℕ) → List ℕ × List (List ℕ) → List (List ℕ)
told_children path mine theirs = cond (bytes_eq mine.0 theirs.0) []
    (map (λ d. path ++ d ∷ [])
    (filter (λ d. not (bytes_eq (slice_index_or mine.1 d []) (slice_index_or theirs.1 d []))) digits))
