-- What is asked of a side at once.
use Rattle.std.specs.Prelude.{◌+◌, ℕ, List, [], length, Option, Some, None}
use Rattle.mvd_keys.specs.State.{State}
use Rattle.mvd_keys.specs.Writes.{Key}
use Rattle.mvd_peer.specs.declared.window.Window.{Window}
use Rattle.mvd_peer.specs.declared.window.Window.TheVariants.{Nodes, Pages, Gets, Pushes}

-- a page is asked by the path of its bucket, and the key that it comes after, if there is one
abbrev pub PageQuestion : Type 0
PageQuestion = List ℕ × Option Key

-- the questions of a window, which are of one kind
pub record Wanted : Type 0 where
  pub nodes : List (List ℕ)
  pub pages : List PageQuestion
  pub gets : List Key
  pub pushes : List (Key × State)

abbrev pub no_question : Wanted
no_question = record { nodes = []; pages = []; gets = []; pushes = [] }

abbrev pub only_nodes : List (List ℕ) → Wanted
only_nodes paths = record { nodes = paths; pages = []; gets = []; pushes = [] }

abbrev pub only_pages : List PageQuestion → Wanted
only_pages asked = record { nodes = []; pages = asked; gets = []; pushes = [] }

abbrev pub only_gets : List Key → Wanted
only_gets keys = record { nodes = []; pages = []; gets = keys; pushes = [] }

abbrev pub only_pushes : List (Key × State) → Wanted
only_pushes pairs = record { nodes = []; pages = []; gets = []; pushes = pairs }

-- what a window asks
abbrev pub asked : Option Window → Wanted
asked None = no_question
asked (Some (Nodes paths)) = only_nodes paths.items
asked (Some (Pages pages)) = only_pages pages.items
asked (Some (Gets keys)) = only_gets keys.items
asked (Some (Pushes pairs)) = only_pushes pairs.items

abbrev pub count_in : Window → ℕ
count_in (Nodes paths) = length paths.items
count_in (Pages pages) = length pages.items
count_in (Gets keys) = length keys.items
count_in (Pushes pairs) = length pairs.items

-- how many questions these are
abbrev pub count_wanted : Wanted → ℕ
count_wanted w = length w.nodes + length w.pages + length w.gets + length w.pushes
