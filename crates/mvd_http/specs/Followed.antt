-- What is told of changes where each key is told in its state.
use Rattle.std.specs.Prelude.{ℕ, ◌++◌, nat_le, if◌then◌else◌, Bool, true, false, List, [], ◌∷◌, codes, length, Option, Some, None}
use Rattle.mvd_keys.specs.State.{State}
use Rattle.mvd_keys.specs.Writes.{Key}
use Rattle.mvd_http.specs.declared.question.Spelling.{Spelling}
use Rattle.mvd_http.specs.Json.{changes_text, comma_if, digest_json, later_json, state_json}

-- the state of a key; once 1,048,576 bytes are told, it is to be asked again
abbrev pub state_or_later : (Key → State) → Spelling → List ℕ → Key → List ℕ
state_or_later states spelling told key =
    if nat_le 1048576 (length told) then later_json key else state_json spelling key (states key)

-- behind what is told already
unfoldable pub states_text : (Key → State) → Spelling → Bool → List ℕ → List Key → List ℕ
states_text states spelling is_first told [] = told
states_text states spelling is_first told (key ∷ keys) =
    states_text states spelling false
    ((told ++ comma_if is_first) ++ state_or_later states spelling (told ++ comma_if is_first) key) keys

-- the same form as that of names alone
abbrev pub changed_states_text : (Key → State) → Spelling → List ℕ → List Key → List ℕ
changed_states_text states spelling root keys =
    codes "{\"root\":"
    ++ (digest_json root
    ++ (codes ",\"keys\":[" ++ (states_text states spelling true [] keys ++ codes "],\"resync\":false}")))

abbrev pub changed_text : (Key → State) → Option Spelling → List ℕ → List Key → List ℕ
changed_text states (Some spelling) root keys = changed_states_text states spelling root keys
changed_text states None root keys = changes_text root keys false
