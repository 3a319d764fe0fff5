-- The answer to a request, and the states afterwards.
--
-- The answers are those of a multi-value register at each key (Shapiro, Preguiça, Baquero, Zawirski, INRIA RR-7506).
-- There is one table, over the states of the keys. Where they follow from a set of writes (`state` of specs/Writes in
-- mvd_keys says how), each answer is computed from the whole set, and nothing that a site keeps stands in it.
use Rattle.std.specs.Prelude.{ℕ, ℤ, Bool, true, false, not, ◌&&◌, ◌==◌, nat_lt, if◌then◌else◌, List, ◌++◌, length, map, is_some, Option, Some, None, Result, Ok, Err}
use Rattle.std.specs.FinMap.{FinMap, from_entries, get, insert, len as map_len}
use Rattle.std.specs.FinSet.{union, items}
use Rattle.mvd_dots.specs.Dot.{DotValue}
use Rattle.mvd_dots.specs.Context.{DotSet}
use Rattle.mvd_dots.specs.declared.refusals.Refusal.{Refusal}
use Rattle.mvd_dots.specs.declared.refusals.Refusal.TheVariants.{Exhausted, StateTooLarge, Full, DotClash, BadPath}
use Rattle.mvd_keys.specs.Key.{key_cmp}
use Rattle.mvd_keys.specs.Minting.{mint}
use Rattle.mvd_keys.specs.State.{State, Text, after_delete, after_put, clashes, join}
use Rattle.mvd_keys.specs.Writes.{Key, Write, is_empty, keys, state}
use Rattle.mvd_docs.specs.declared.term.Term.{Term}
use Rattle.mvd_keys.specs.declared.places.Place.{Place}
use Rattle.mvd_rows.specs.Answers.{find_answer, range_answer, row_answer, rows_answer}
use Rattle.mvd_rows.specs.Changes.{state_in}
use Rattle.mvd_rows.specs.Siblings.{conflicts_answer, keys_answer}
use Rattle.mvd_rows.specs.Visible.{visible_in}
use Rattle.mvd_tree.specs.HashTree.{KeyDigests, node_digest}
use Rattle.mvd_tree.specs.Page.{children_digests, is_more_after_page, bucket_page}
use Rattle.mvd_tree.specs.States.{digests_of}
use Rattle.mvd_wire.specs.Codecs.{key as spelled_key, spell_state, state_limit}
use Rattle.mvd_wire.specs.declared.request.Request.{Request}
use Rattle.mvd_wire.specs.declared.request.Request.TheVariants.{Get, Put, Delete, Find, Row, Rows, Node, Bucket, Push, Range, Keys, Conflicts, Hello, Bye}
use Rattle.mvd_wire.specs.declared.reply.Reply.{Reply}
use Rattle.mvd_wire.specs.declared.reply.Reply.TheVariants.{State as Shown, Written, Done, Places, Row as RowTold, Rows as RowsTold, Digests as Told, Keys as KeysTold, Counts, Refused}
use Rattle.mvd_wire.specs.declared.reply.Digests.{Digests}
use Rattle.mvd_kept.specs.Config.{ConfigValue}

-- key states by key
abbrev pub States : Type 0
States = FinMap key_cmp State

-- the key's state, or the empty one
abbrev pub state_at : States → Key → State
state_at = state_in

-- the states that follow from the writes, by key
unfoldable pub states_of : List Write → States
states_of known = from_entries (map (λ key. (key, state key known)) (items (keys known)))

-- the state's spelling is longer than it may be
abbrev pub is_too_large : State → Bool
is_too_large s = nat_lt state_limit (length (spell_state s))

-- as many keys are held as may be, and this is none of them
abbrev pub is_full : ConfigValue → Bool → ℕ → Bool
is_full config is_held count = not is_held && (count == config.max_keys)

-- The limits: the reply, where a key may have this state afterwards; whether it is held, and how many keys are, is told
abbrev pub limited : ConfigValue → Bool → ℕ → State → Reply → Reply
limited config is_held count after reply =
    if is_too_large after then Refused StateTooLarge
    else if is_full config is_held count && not (is_empty after.context) then Refused Full
    else reply

-- ---- the hash tree (DeCandia et al. 2007)

-- a key in a state as it is spelled for its digest: the key, and then the state
unfoldable pub spelled : Key → State → List ℕ
spelled key s = spelled_key.spell key ++ spell_state s

-- the digests of the keys that are held in these states
abbrev pub digests : States → KeyDigests
digests states = digests_of spelled states

-- the digest of a node and, above the buckets, those of its children
abbrev pub node_digests : KeyDigests → List ℕ → Digests
node_digests held path =
    record {
      own = node_digest held path;
      children = if nat_lt (length path) 3 then Some (children_digests held path)
          else None;
    }

-- a page of a bucket's keys, after a key if one is given
abbrev pub bucket_answer : KeyDigests → List ℕ → Option Key → Reply
bucket_answer held path after =
    if length path == 3 then KeysTold (bucket_page held path after) (is_more_after_page held path after)
    else Refused BadPath

-- ---- indexes and views

-- a page of places, or why there is none
abbrev pub places_reply : Result (List Place × Bool) Refusal → Reply
places_reply (Ok page) = Places page.0 page.1
places_reply (Err refusal) = Refused refusal

-- a row of a view, or why there is none
abbrev pub row_reply : Result (ℕ × ℤ × Option (ℤ × ℤ)) Refusal → Reply
row_reply (Ok row) = RowTold (record { count = row.0; sum = row.1; ends = row.2 })
row_reply (Err refusal) = Refused refusal

-- a page of a view's rows, or why there is none
abbrev pub rows_reply : Result (List (Term × ℕ × ℤ × Option (ℤ × ℤ)) × Bool) Refusal → Reply
rows_reply (Ok page) = RowsTold page.0 page.1
rows_reply (Err refusal) = Refused refusal

-- ---- the keys

-- a page of keys with their numbers of siblings
abbrev pub counts_reply : List (Key × ℕ) × Bool → Reply
counts_reply page = Counts page.0 page.1

-- ---- all requests, from the states of the keys

-- the limits, from the states
abbrev pub within : ConfigValue → States → Key → State → Reply → Reply
within config states key after reply = limited config (is_some (get states key)) (map_len states) after reply

-- a put, with the dot that is minted for it
abbrev pub put_from : ConfigValue → States → Key → DotSet → Text → Option DotValue → Reply
put_from config states key seen document None = Refused Exhausted
put_from config states key seen document (Some dot) =
    within config states key (after_put (state_at states key) dot seen document) (Written dot)

-- a push: the first refusal that applies, or done
abbrev pub push_from : ConfigValue → States → Key → State → Reply
push_from config states key pushed =
    if is_too_large pushed then Refused StateTooLarge
    else if clashes (state_at states key) pushed then Refused DotClash
    else within config states key (join (state_at states key) pushed) Done

-- the answer to a request
abbrev pub answer_from : ConfigValue → States → Request → Reply
answer_from config states (Get key) = Shown (state_at states key)
answer_from config states (Put key seen document) =
    put_from config states key seen document (mint config.site (union (state_at states key).context seen))
answer_from config states (Delete key seen) = within config states key (after_delete (state_at states key) seen) Done
answer_from config states (Push key pushed) = push_from config states key pushed
answer_from config states (Find field term after) =
    places_reply (find_answer config.defs (visible_in states) field term after)
answer_from config states (Range field from to after) =
    places_reply (range_answer config.defs (visible_in states) field from to after)
answer_from config states (Row view term) = row_reply (row_answer config.defs (visible_in states) view term)
answer_from config states (Rows view after) = rows_reply (rows_answer config.defs (visible_in states) view after)
answer_from config states (Node path) = Told (node_digests (digests states) path)
answer_from config states (Bucket path after) = bucket_answer (digests states) path after
answer_from config states (Keys prefix after) = counts_reply (keys_answer states prefix after)
answer_from config states (Conflicts after) = counts_reply (conflicts_answer states after)
answer_from config states (Hello token) = Done
answer_from config states Bye = Done

-- the request only asks: for the state of a key, for places, for rows of a view, for digests of the hash tree, or for
-- keys
abbrev pub is_question : Request → Bool
is_question (Get key) = true
is_question (Find field term after) = true
is_question (Range field from to after) = true
is_question (Row view term) = true
is_question (Rows view after) = true
is_question (Node path) = true
is_question (Bucket path after) = true
is_question (Keys prefix after) = true
is_question (Conflicts after) = true
is_question request = false

-- a key, and the state that it has after the request, where the reply accepts one
abbrev pub change_from : States → Request → Reply → Option (Key × State)
change_from states (Put key seen document) (Written dot) = Some (key, after_put (state_at states key) dot seen document)
change_from states (Delete key seen) Done = Some (key, after_delete (state_at states key) seen)
change_from states (Push key pushed) Done = Some (key, join (state_at states key) pushed)
change_from states request reply = None

-- the states with one key's state put in; a key whose state has seen nothing is not held
abbrev pub with_state : States → Key → State → States
with_state states key s = if is_empty s.context then states else insert states key s

abbrev pub with_change : States → Option (Key × State) → States
with_change states None = states
with_change states (Some change) = with_state states change.0 change.1

-- the states after the request
abbrev pub after_from : ConfigValue → States → Request → States
after_from config states request = with_change states (change_from states request (answer_from config states request))

-- ---- and from the writes known: the answer is that from the states which follow from them

abbrev pub answer : ConfigValue → List Write → Request → Reply
answer config known = answer_from config (states_of known)

abbrev pub change_of : List Write → Request → Reply → Option (Key × State)
change_of known = change_from (states_of known)
