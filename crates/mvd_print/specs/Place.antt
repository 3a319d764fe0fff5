-- Where a document's text is wrong: a JSON Pointer (RFC 6901). The empty pointer names the whole document.
use Rattle.std.specs.Prelude.{ℕ, ◌+◌, ◌==◌, if◌then◌else◌, nat_le, is_some, List, [], ◌∷◌, ◌++◌, codes, length, Option, Some, None, option_map, option_and_then, unwrap_or}
use Rattle.std.specs.Char.{encode_utf8}
use Rattle.std.specs.Fmt.{decimal}
use Rattle.std.specs.List.{flat_map}
use Rattle.std.specs.Option.{option_or}
use Rattle.std.specs.Str.{chars}
use Rattle.serde_json.specs.Data.{Data, null, boolean, number, string, array, object, Items, no_items, item, Members, no_members, member}
use Rattle.serde_json.specs.Find.{as_i64}
use Rattle.serde_json.specs.Read.{read}
use Rattle.serde_json.specs.Written.{compact_text}
use Rattle.mvd_dots.specs.declared.refusals.Refusal.{Refusal}
use Rattle.mvd_dots.specs.declared.refusals.Refusal.TheVariants.{BadNumber}

-- `~` is written as `~0`, and `/` as `~1`
abbrev pub escaped_char : ℕ → List ℕ
escaped_char c = if c == 126 then codes "~0" else (if c == 47 then codes "~1" else encode_utf8 c)

-- a step into an object by a name, and into an array by a number, counted from 0
abbrev pub name_step : List ℕ → List ℕ
name_step name = codes "/" ++ flat_map escaped_char (chars name)

abbrev pub item_step : ℕ → List ℕ
item_step index = codes "/" ++ decimal index

-- the first number in the value, in the order of its compact text, that is no i64
abbrev mutual
  pub bad_number : Data → Option (List ℕ)
  bad_number null = None
  bad_number (boolean b) = None
  bad_number (number n) = if is_some (as_i64 n) then None else Some []
  bad_number (string s) = None
  bad_number (array ds) = bad_item 0 ds
  bad_number (object ms) = bad_member ms

  pub bad_item : ℕ → Items → Option (List ℕ)
  bad_item index no_items = None
  bad_item index (item d ds) = option_or (option_map (λ at. item_step index ++ at) (bad_number d)) (bad_item (index + 1) ds)

  pub bad_member : Members → Option (List ℕ)
  bad_member no_members = None
  bad_member (member k d ms) = option_or (option_map (λ at. name_step k ++ at) (bad_number d)) (bad_member ms)

-- The place of what a refusal finds wrong in a text: of 5 that number, where the text has at most 65,536 bytes; else the
-- whole document.
abbrev pub fault_place : Refusal → List ℕ → List ℕ
fault_place BadNumber text =
    if nat_le (length text) 65536 then unwrap_or (option_and_then bad_number (read text)) [] else []
fault_place _ text = []

-- the same as a JSON text
abbrev pub fault_json : Refusal → List ℕ → List ℕ
fault_json refusal text = compact_text (string (fault_place refusal text))
