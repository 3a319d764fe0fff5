-- What a token allows.
use Rattle.std.specs.Prelude.{◌≡◌, ℕ, ◌==◌, ◌&&◌, Bool, true, List, length, take}
use Rattle.std.specs.FinMap.{FinMap, get}
use Rattle.std.specs.Str.{bytes_eq}
use Rattle.mvd_conn.specs.declared.right.Right.{Right}
use Rattle.mvd_keys.specs.Key.{key_cmp}
use Rattle.mvd_wire.specs.declared.request.Request.{Request}
use Rattle.mvd_wire.specs.declared.request.Request.TheVariants.{Get, Put, Delete, Find, Row, Rows, Node, Bucket, Push, Range, Keys, Conflicts, Hello, Bye}

-- A RIGHT is of whoever shows a token: to ask, or to write as well; of the keys that begin with a prefix. The empty one
-- is that of all keys
abbrev pub prefix_of : Right → List ℕ
prefix_of right = take right.size right.bytes

abbrev pub is_of_all : Right → Bool
is_of_all right = length (prefix_of right) == 0

-- a key, or what keys begin with, begins with the right's prefix
abbrev pub covers : List ℕ → List ℕ → Bool
covers prefix text = bytes_eq prefix (take (length prefix) text)

-- WHAT A RIGHT ALLOWS. With a prefix it is of the keys that begin with it, and of lists of such keys, and of nothing
-- that is told of all keys together
abbrev pub may : Right → Request → Bool
may right (Get key) = covers (prefix_of right) key
may right (Put key seen document) = right.writes && covers (prefix_of right) key
may right (Delete key seen) = right.writes && covers (prefix_of right) key
may right (Push key state) = right.writes && covers (prefix_of right) key
may right (Keys prefix after) = covers (prefix_of right) prefix
may right (Find field term after) = is_of_all right
may right (Row view term) = is_of_all right
may right (Rows view after) = is_of_all right
may right (Node path) = is_of_all right
may right (Bucket path after) = is_of_all right
may right (Range field low high after) = is_of_all right
may right (Conflicts after) = is_of_all right
may right (Hello token) = true
may right Bye = true

-- WHAT A REPLY MAY DEPEND ON, of a client with this prefix: these maps hold the same at each key that begins with it
abbrev pub AgreeWithin : {X : Type 0} → List ℕ → FinMap key_cmp X → FinMap key_cmp X → Type 0
AgreeWithin prefix a b = (key : List ℕ) → covers prefix key ≡ true → get a key ≡ get b key
