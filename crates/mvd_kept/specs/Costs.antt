-- What a request costs a site at most: looks at held states, looks at kept rows and updates of them, and what is
-- hashed.
use Rattle.std.specs.Prelude.{◌≡◌, ℕ, ◌+◌, ◌*◌, List, length, Some, Result, Ok, Err}
use Rattle.std.specs.List.{sum_by}
use Rattle.std.specs.FinMap.{insert, len}
use Rattle.mvd_count.specs.Counted.{RoseBy}
use Rattle.mvd_dots.specs.declared.refusals.Refusal.{Refusal}
use Rattle.mvd_dots.specs.declared.refusals.Refusal.TheVariants.{Memory}
use Rattle.mvd_keys.specs.State.{State}
use Rattle.mvd_keys.specs.Writes.{Key}
use Rattle.mvd_rows.specs.Changes.{differing, looks_each, updates_each}
use Rattle.mvd_rows.specs.Counted.{Within}
use Rattle.mvd_digest.specs.Counted.{Hashes}
use Rattle.mvd_tree.specs.Counted.{key_bytes, keys_beside}
use Rattle.mvd_wire.specs.declared.request.Request.{Request}
use Rattle.mvd_wire.specs.declared.request.Request.TheVariants.{Get, Put, Delete, Find, Row, Rows, Node, Bucket, Push, Range, Keys, Conflicts, Hello, Bye}
use Rattle.mvd_wire.specs.declared.reply.Reply.{Reply}
use Rattle.mvd_wire.specs.declared.reply.Reply.TheVariants.{Places, Row as RowTold, Rows as RowsTold, Counts, Refused}
use Rattle.mvd_kept.specs.Answer.{digests, spelled}
use Rattle.mvd_kept.specs.Config.{ConfigValue}
use Rattle.mvd_kept.specs.FromStates.{after_from, answer_from, change_from}
use Rattle.mvd_kept.specs.Held.{key_digests, state_at}
use Rattle.mvd_kept.specs.Sites.{SiteValue}
use Rattle.mvd_kept.specs.declared.prepared.Prepared.{Prepared}
use Rattle.mvd_kept.specs.declared.prepared.Prepared.TheVariants.{Answer}
use Rattle.mvd_kept.specs.declared.work.Work.{Work}

-- nothing was done yet
pub record IsNoWork (work : Work) : Type 0 where
  pub looks : work.looks ≡ 0
  pub updates : work.rows.updates ≡ 0
  pub row_looks : work.rows.looks ≡ 0
  pub computations : work.hashed.computations ≡ 0
  pub bytes : work.hashed.bytes ≡ 0

-- at most so many looks at held states, looks at kept rows, updates of them, SHA-256 computations and bytes that these
-- read
pub record Costs (held looks updates computations bytes : ℕ) (old new : Work) : Type 0 where
  pub on_states : RoseBy held old.looks new.looks
  pub on_rows : Within updates looks old.rows new.rows
  pub hashes : Hashes computations bytes old.hashed new.hashed

-- A row takes a look, and a page as many as it has entries, and two more. One for which memory is refused may take
-- those of a whole page; what is refused for another cause takes none.
abbrev pub page_looks : Reply → ℕ
page_looks (RowTold row) = 1
page_looks (Places page more) = length page + 2
page_looks (RowsTold page more) = length page + 2
page_looks (Counts page more) = length page + 2
page_looks (Refused Memory) = 1002
page_looks reply = 0

abbrev pub prepared_looks : Result Prepared Refusal → ℕ
prepared_looks (Ok (Answer reply)) = page_looks reply
prepared_looks (Err refusal) = page_looks (Refused refusal)
prepared_looks prepared = 0

-- what it takes to prepare a request: a look at the key's state, or those of its page at kept rows, or, of keys, at
-- held states
abbrev pub PrepareCosts : Request → Result Prepared Refusal → Work → Work → Type 0
PrepareCosts (Get key) prepared = Costs 1 0 0 0 0
PrepareCosts (Put key seen document) prepared = Costs 1 0 0 0 0
PrepareCosts (Delete key seen) prepared = Costs 1 0 0 0 0
PrepareCosts (Push key pushed) prepared = Costs 1 0 0 0 0
PrepareCosts (Find field term after) prepared = Costs 0 (prepared_looks prepared) 0 0 0
PrepareCosts (Range field from to after) prepared = Costs 0 (prepared_looks prepared) 0 0 0
PrepareCosts (Rows view after) prepared = Costs 0 (prepared_looks prepared) 0 0 0
PrepareCosts (Row view term) prepared = Costs 0 (prepared_looks prepared) 0 0 0
PrepareCosts (Node path) prepared = Costs 0 0 0 0 0
PrepareCosts (Bucket path after) prepared = Costs 0 0 0 0 0
PrepareCosts (Keys prefix after) prepared = Costs (prepared_looks prepared) 0 0 0 0
PrepareCosts (Conflicts after) prepared = Costs 0 (prepared_looks prepared) 0 0 0
PrepareCosts (Hello token) prepared = Costs 0 0 0 0 0
PrepareCosts Bye prepared = Costs 0 0 0 0 0

-- What it takes to give a key this state: besides what is looked up already, a look at its old one; for each sibling
-- that stands in one of the two alone, what each index and view cost, and one update more, of the keys in conflict; and
-- six computations: of the key with its state, of the key's path, and of the digests of its bucket, which are those of
-- the keys with its path, and of three nodes
abbrev pub ChangeCosts : ℕ → SiteValue → Key → State → Work → Work → Type 0
ChangeCosts looked site key s =
    let moved = differing (state_at site.states key) s in
    Costs (looked + 1) (moved * looks_each site.config.defs) (moved * updates_each site.config.defs + 1) 6
    (length (spelled key s) + length key + 32 * keys_beside (digests (insert site.states key s)) key + 1536)

-- what a put, a delete or a push takes: a look where the states stay as they are, and that of its change besides
pub record WriteCosts (site : SiteValue) (request : Request) (old new : Work) : Type 0 where
  pub still : after_from site.config site.states request ≡ site.states → Costs 1 0 0 0 0 old new
  pub change : (key : Key) (s : State) → change_from site.states request (answer_from site.config site.states request)
      ≡ Some (key, s) → ChangeCosts 1 site key s old new

-- what it takes to answer a request
abbrev pub AnswerCosts : SiteValue → Request → Reply → Work → Work → Type 0
AnswerCosts site (Get key) reply = Costs 1 0 0 0 0
AnswerCosts site (Put key seen document) reply = WriteCosts site (Put key seen document)
AnswerCosts site (Delete key seen) reply = WriteCosts site (Delete key seen)
AnswerCosts site (Push key pushed) reply = WriteCosts site (Push key pushed)
AnswerCosts site (Find field term after) reply = Costs 0 (page_looks reply) 0 0 0
AnswerCosts site (Range field from to after) reply = Costs 0 (page_looks reply) 0 0 0
AnswerCosts site (Rows view after) reply = Costs 0 (page_looks reply) 0 0 0
AnswerCosts site (Row view term) reply = Costs 0 (page_looks reply) 0 0 0
AnswerCosts site (Node path) reply = Costs 0 0 0 0 0
AnswerCosts site (Bucket path after) reply = Costs 0 0 0 0 0
AnswerCosts site (Keys prefix after) reply = Costs (page_looks reply) 0 0 0 0
AnswerCosts site (Conflicts after) reply = Costs 0 (page_looks reply) 0 0 0
AnswerCosts site (Hello token) reply = Costs 0 0 0 0 0
AnswerCosts site Bye reply = Costs 0 0 0 0 0

-- ---- opening

-- how many siblings these states have, and how many bytes spell the keys with their states
abbrev pub all_siblings : List (Key × State) → ℕ
all_siblings states = sum_by (λ e. len e.1.siblings) states

abbrev pub all_bytes : List (Key × State) → ℕ
all_bytes states = sum_by (λ e. length (spelled e.0 e.1)) states

-- What it takes to open a site with these states: of each sibling what each index and view cost, and of each key one
-- update, of the keys in conflict; and two computations for each key, of the key with its state and of its path, and
-- one for each of the 4,369 nodes
abbrev pub OpenCosts : ConfigValue → List (Key × State) → Work → Work → Type 0
OpenCosts config states =
    Costs 0 (all_siblings states * looks_each config.defs)
    (all_siblings states * updates_each config.defs + length states) (2 * length states + 4369)
    (all_bytes states + key_bytes (key_digests states) + 32 * length states + 174720)
