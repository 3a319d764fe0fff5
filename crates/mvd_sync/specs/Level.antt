-- How far the descent of a session has come.
use Rattle.std.specs.Prelude.{◌≡◌, ◌≢◌, ◌⊎◌, ◌≤◌, ◌+◌, ℕ, List, [], ◌++◌, take, drop}
use Rattle.mvd_sync.specs.Walk.{told_all}
use Rattle.mvd_sync.specs.declared.asking.Node.{Node}

-- a level of the two hash trees: how deep it is, the nodes of it that both sides are still to tell, and the children of
-- the others that differ
pub record Level : Type 0 where
  pub depth : ℕ
  pub rest : List (List ℕ)
  pub below : List (List ℕ)

-- the buckets are reached, or nothing differs
abbrev pub IsDown : Level → Type 0
IsDown at = (3 ≤ at.depth) ⊎ (at.rest ≡ [])

-- the nodes that both sides are asked about next
abbrev pub next_nodes : Level → List (List ℕ)
next_nodes at = take 64 at.rest

-- the children that differ, with those that both tell of the next nodes
abbrev pub found_by : Level → List Node → List Node → List (List ℕ)
found_by at mine theirs = at.below ++ told_all (next_nodes at) mine theirs

-- both told of the next nodes: others of the level are left, or the level below it is next
pub data GoesDown (old : Level) (mine theirs : List Node) (new : Level) : Type 0 where
  along : drop 64 old.rest ≢ []
      → new ≡ record { depth = old.depth; rest = drop 64 old.rest; below = found_by old mine theirs }
      → GoesDown old mine theirs new
  down : drop 64 old.rest ≡ [] → new ≡ record { depth = old.depth + 1; rest = found_by old mine theirs; below = [] }
      → GoesDown old mine theirs new
